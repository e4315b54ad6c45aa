-- Clashes of senders, found by the first signal of each I-PDU alone.
use Rattle.std.proofs.Common.{◌≡◌, ◌≤◌, ◌<◌, ◌+◌, ◌⊎◌, inl, inr, ℕ, Bool, true, false, not, ◌&&◌, List, [], ◌∷◌, ◌++◌, length, take, drop, get_or, Option, None, Some, if◌then◌else◌, refl, sym, ap, subst, ◌∙◌, arith, All, zero-add, get_or-take, length-take-le, true≢false}
use Rattle.std.specs.Cmp.{nat_eq_equiv}
use Rattle.std.specs.Cmp.Lexicographic.{nat_list_eq_equiv}
use Rattle.std.specs.List.{list_any}
use Rattle.std.specs.Str.{bytes_eq}
use Rattle.std.proofs.lemmas.Bool.{ne_eqb, not_from_true}
use Rattle.std.proofs.lemmas.List.{take_more, drop_more, drop_all, get_or_default}
use Rattle.std.proofs.lemmas.List.FromFn.{length-enumerate_from, get_or-enumerate_from}
use Rattle.std.proofs.lemmas.List.Folds.{list_any_at, list_any_none}
use Rattle.std.proofs.lemmas.List.Elements.{All-push}
use Rattle.pack_model.specs.declared.signal.Signal.{Signal}
use Rattle.pack_model.specs.Signal.{same_pdu}
use Rattle.pack_model.specs.Problem.{placed, is_one_item, same_item, is_clash, first_clash}

-- at two places only signals of one I-PDU are of one item
apart : (o p : Option ℕ) (k m : ℕ) → (k ≡ m → ⊥) → is_one_item o k p m ≡ same_pdu o p
apart None None k m ne = ne_eqb k m ne
apart None (Some id) k m ne = refl
apart (Some id) None k m ne = refl
apart (Some id) (Some other) k m ne = refl

same_pdu_alike : (o p q : Option ℕ) → same_pdu o p ≡ true → same_pdu o q ≡ same_pdu p q
same_pdu_alike None p q same = absurd (true≢false (sym same))
same_pdu_alike (Some id) None q same = absurd (true≢false (sym same))
same_pdu_alike (Some id) (Some other) None same = refl
same_pdu_alike (Some id) (Some other) (Some third) same = nat_eq_equiv.congr id other third same

same_pdu_flips : (o p : Option ℕ) → same_pdu o p ≡ same_pdu p o
same_pdu_flips None None = refl
same_pdu_flips None (Some id) = refl
same_pdu_flips (Some id) None = refl
same_pdu_flips (Some id) (Some other) = nat_eq_equiv.symm id other

-- signals of one I-PDU and one sender clash with the same signals
clash_alike : (s f u : Signal) → same_pdu s.pdu f.pdu ≡ true → bytes_eq s.sender f.sender ≡ true
    → is_clash s u ≡ is_clash f u
clash_alike s f u pdu sender =
    ap (λ b. b && not (bytes_eq s.sender u.sender)) (same_pdu_alike s.pdu f.pdu u.pdu pdu)
    ∙ ap (λ b. same_pdu f.pdu u.pdu && not b) (nat_list_eq_equiv.congr s.sender f.sender u.sender sender)

clash_flips : (s t : Signal) → is_clash s t ≡ is_clash t s
clash_flips s t = ap (λ b. b && not (bytes_eq s.sender t.sender)) (same_pdu_flips s.pdu t.pdu)
    ∙ ap (λ b. same_pdu t.pdu s.pdu && not b) (nat_list_eq_equiv.symm s.sender t.sender)

no_and : (b c : Bool) → c ≡ false → (b && c) ≡ false
no_and true c e = e
no_and false c e = refl

clash_itself : (s : Signal) → is_clash s s ≡ false
clash_itself s =
    no_and (same_pdu s.pdu s.pdu) (not (bytes_eq s.sender s.sender))
    (not_from_true (bytes_eq s.sender s.sender) (nat_list_eq_equiv.refl s.sender))

-- the signal stands at its place, before i
pub record StandsBefore (signals : List Signal) (i : ℕ) (f : ℕ × Signal) : Type 0 where
  pub before : f.0 < i
  pub at : f.1 ≡ get_or signals f.0 f.1

pub placed_before : (signals : List Signal) (i : ℕ) → i ≤ length signals
    → All (StandsBefore signals i) (take i (placed signals))
placed_before signals i le = λ k d lt.
    let long : i ≤ length (placed signals) = simp length-enumerate_from le in
    let in_front : k < i = let e = length-take-le i (placed signals) long in omega arith in
    let within : k < length signals = omega arith in
    let is : get_or (take i (placed signals)) k d ≡ (k, get_or signals k d.1) =
    get_or-take i (placed signals) k d in_front ∙ get_or-enumerate_from 0 signals k d within
    ∙ (λ j. (zero-add k j, get_or signals k d.1)) in
    subst (StandsBefore signals i) (sym is)
    (record { before = in_front; at = get_or_default signals k d.1 (get_or signals k d.1) within })

-- the front of the signals with their places
pub placed_more : (signals : List Signal) (i : ℕ) (s : Signal) → i < length signals → s ≡ get_or signals i s
    → take (i + 1) (placed signals) ≡ take i (placed signals) ++ (i, s) ∷ []
placed_more signals i s lt at =
    let long : i < length (placed signals) = simp length-enumerate_from lt in
    take_more (placed signals) i (i, s) long
    ∙ ap (λ e. take i (placed signals) ++ e ∷ [])
    (get_or-enumerate_from 0 signals i (i, s) lt ∙ (λ j. (zero-add i j, sym at j)))

-- none clashes with another, so far
abbrev pub Agree : List Signal → Type 0
Agree xs = All (λ s. All (λ t. is_clash s t ≡ false) xs) xs

-- what the first of the list of a signal's item is: the place of the signal, or of the first signal of its
-- I-PDU
abbrev pub IsFirstPlace : List Signal → ℕ → Signal → ℕ → Type 0
IsFirstPlace signals i s first =
    ((list_any (same_item (i, s)) (take i (placed signals)) ≡ false) × (first ≡ i))
    ⊎ ((f : ℕ × Signal) × (same_item (i, s) f ≡ true) × StandsBefore signals i f × (first ≡ f.0))

pub first_inside : (signals : List Signal) (i : ℕ) (s : Signal) (first : ℕ) → i < length signals
    → IsFirstPlace signals i s first → first < length signals
first_inside signals i s first lt (inl none) = let e = none.1 in omega arith
first_inside signals i s first lt (inr some) = let e = some.3 in let b = some.2.before in omega arith

-- a signal at an earlier place is of another I-PDU, where no earlier one is of the item
other_pdu : (signals : List Signal) (i : ℕ) (s : Signal) → i ≤ length signals
    → list_any (same_item (i, s)) (take i (placed signals)) ≡ false
    → All (λ t. same_pdu s.pdu t.pdu ≡ false) (take i signals)
other_pdu signals i s le none = λ k d lt.
    let in_front : k < i = let e = length-take-le i signals le in omega arith in
    let within : k < length signals = omega arith in
    let long : i ≤ length (placed signals) = simp length-enumerate_from le in
    let there : k < length (take i (placed signals)) = let e = length-take-le i (placed signals) long in
    omega arith in
    let is : get_or (take i (placed signals)) k (k, d) ≡ (k, get_or signals k d) =
    get_or-take i (placed signals) k (k, d) in_front ∙ get_or-enumerate_from 0 signals k (k, d) within
    ∙ (λ j. (zero-add k j, get_or signals k d)) in
    let here : get_or (take i signals) k d ≡ get_or signals k d = get_or-take i signals k d in_front in
    let ne : i ≡ k → ⊥ = λ e. omega arith in
    by k d here ne (same_item (i, s) (k, get_or signals k d)) refl
    (λ e. list_any_at (same_item (i, s)) (take i (placed signals)) k (k, d) there
    (ap (same_item (i, s)) is ∙ e))
  where
    by : (k : ℕ) (d : Signal) → get_or (take i signals) k d ≡ get_or signals k d → (i ≡ k → ⊥) → (b : Bool)
        → same_item (i, s) (k, get_or signals k d) ≡ b
        → (same_item (i, s) (k, get_or signals k d) ≡ true
        → list_any (same_item (i, s)) (take i (placed signals)) ≡ true)
        → same_pdu s.pdu (get_or (take i signals) k d).pdu ≡ false
    by k d here ne true e found = absurd (true≢false (sym (found e) ∙ none))
    by k d here ne false e found = ap (λ (t : Signal). same_pdu s.pdu t.pdu) here
        ∙ sym (apart s.pdu (get_or signals k d).pdu i k ne) ∙ e

-- what the first signal of an earlier place of the item is: of the same I-PDU, and the one found
record IsMet (signals : List Signal) (i : ℕ) (s t : Signal) (f : ℕ × Signal) : Type 0 where
  in_front : f.0 < length (take i signals)
  here : get_or (take i signals) f.0 f.1 ≡ f.1
  pdu : same_pdu s.pdu f.1.pdu ≡ true
  sender : bytes_eq s.sender f.1.sender ≡ bytes_eq t.sender s.sender

met : (signals : List Signal) (i : ℕ) (s t : Signal) (first : ℕ) (f : ℕ × Signal) → i < length signals
    → same_item (i, s) f ≡ true → StandsBefore signals i f → first ≡ f.0 → t ≡ get_or signals first t
    → IsMet signals i s t f
met signals i s t first f lt same stands first_is at =
    let before : f.0 < i = stands.before in
    let short : length (take i signals) ≡ i = length-take-le i signals (omega arith) in
    let is : t ≡ f.1 = at ∙ ap (λ n. get_or signals n t) first_is
    ∙ get_or_default signals f.0 t f.1 (omega arith) ∙ sym stands.at in
    record {
      in_front = omega arith;
      here = get_or-take i signals f.0 f.1 before ∙ sym stands.at;
      pdu = sym (apart s.pdu f.1.pdu i f.0 (λ e. omega arith)) ∙ same;
      sender = nat_list_eq_equiv.symm s.sender f.1.sender
          ∙ ap (λ (u : Signal). bytes_eq u.sender s.sender) (sym is);
    }

-- a signal of its I-PDU's first sender clashes with none before it
pub agrees : (signals : List Signal) (i : ℕ) (s t : Signal) (first : ℕ) → i < length signals
    → IsFirstPlace signals i s first → t ≡ get_or signals first t → bytes_eq t.sender s.sender ≡ true
    → Agree (take i signals) → All (λ u. is_clash s u ≡ false) (take i signals)
agrees signals i s t first lt (inl none) at same agree =
    let other = other_pdu signals i s (omega arith) none.0 in
    λ k d within. ap (λ b. b && not (bytes_eq s.sender (get_or (take i signals) k d).sender))
    (other k d within)
agrees signals i s t first lt (inr some) at same agree =
    let f : IsMet signals i s t some.0 = met signals i s t first some.0 lt some.1 some.2 some.3 at in
    λ k d within. clash_alike s some.0.1 (get_or (take i signals) k d) f.pdu (f.sender ∙ same)
    ∙ ap (λ u. is_clash u (get_or (take i signals) k d)) (sym f.here)
    ∙ agree some.0.0 some.0.1 f.in_front k d within

-- one of another sender clashes with the first
pub clashes : (signals : List Signal) (i : ℕ) (s t : Signal) (first : ℕ) → i < length signals
    → s ≡ get_or signals i s → IsFirstPlace signals i s first → t ≡ get_or signals first t
    → bytes_eq t.sender s.sender ≡ false → list_any (is_clash s) (take i signals) ≡ true
clashes signals i s t first lt here (inl none) at differ =
    let is : t ≡ s = at ∙ ap (λ n. get_or signals n t) none.1 ∙ get_or_default signals i t s lt ∙ sym here in
    absurd (true≢false (sym (nat_list_eq_equiv.refl s.sender)
    ∙ ap (λ (u : Signal). bytes_eq u.sender s.sender) (sym is) ∙ differ))
clashes signals i s t first lt here (inr some) at differ =
    let f : IsMet signals i s t some.0 = met signals i s t first some.0 lt some.1 some.2 some.3 at in
    list_any_at (is_clash s) (take i signals) some.0.0 some.0.1 f.in_front
    (ap (is_clash s) f.here ∙ ap (λ b. b && not (bytes_eq s.sender some.0.1.sender)) f.pdu
    ∙ ap not (f.sender ∙ differ))

signals_more : (signals : List Signal) (i : ℕ) (s : Signal) → i < length signals → s ≡ get_or signals i s
    → take (i + 1) signals ≡ take i signals ++ s ∷ []
signals_more signals i s lt at = take_more signals i s lt ∙ ap (λ t. take i signals ++ t ∷ []) (sym at)

-- one more signal that clashes with none
pub agree_more : (signals : List Signal) (i : ℕ) (s : Signal) → i < length signals → s ≡ get_or signals i s
    → Agree (take i signals) → All (λ u. is_clash s u ≡ false) (take i signals) → Agree (take (i + 1) signals)
agree_more signals i s lt at agree none =
    subst Agree (sym (signals_more signals i s lt at))
    (All-push (λ t. All (λ u. is_clash t u ≡ false) (take i signals ++ s ∷ [])) (take i signals) s
    (λ k d within. All-push (λ u. is_clash (get_or (take i signals) k d) u ≡ false) (take i signals) s
    (agree k d within) (clash_flips (get_or (take i signals) k d) s ∙ none k d within))
    (All-push (λ u. is_clash s u ≡ false) (take i signals) s none (clash_itself s)))

-- where the search for a clash stands
next_clash : (signals : List Signal) (i : ℕ) (s : Signal) → i < length signals → s ≡ get_or signals i s
    → first_clash (take i signals) (drop i signals)
    ≡ (if list_any (is_clash s) (take i signals) then Some (length (take i signals))
    else first_clash (take i signals ++ s ∷ []) (drop (i + 1) signals))
next_clash signals i s lt at =
    ap (first_clash (take i signals)) (drop_more signals i s lt ∙ ap (λ t. t ∷ drop (i + 1) signals) (sym at))

pub clash_passed : (signals : List Signal) (i : ℕ) (s : Signal) → i < length signals → s ≡ get_or signals i s
    → All (λ u. is_clash s u ≡ false) (take i signals)
    → first_clash (take i signals) (drop i signals) ≡ first_clash [] signals
    → first_clash (take (i + 1) signals) (drop (i + 1) signals) ≡ first_clash [] signals
clash_passed signals i s lt at none rest =
    ap (λ xs. first_clash xs (drop (i + 1) signals)) (signals_more signals i s lt at)
    ∙ sym (ap (λ b. if b then Some (length (take i signals))
    else first_clash (take i signals ++ s ∷ []) (drop (i + 1) signals))
    (list_any_none (is_clash s) (take i signals) none))
    ∙ sym (next_clash signals i s lt at)
    ∙ rest

pub clash_found : (signals : List Signal) (i : ℕ) (s : Signal) → i < length signals → s ≡ get_or signals i s
    → list_any (is_clash s) (take i signals) ≡ true
    → first_clash (take i signals) (drop i signals) ≡ first_clash [] signals → first_clash [] signals ≡ Some i
clash_found signals i s lt at found rest =
    sym rest ∙ next_clash signals i s lt at
    ∙ ap (λ b. if b then Some (length (take i signals))
    else first_clash (take i signals ++ s ∷ []) (drop (i + 1) signals)) found
    ∙ ap Some (length-take-le i signals (omega arith))

pub clash_none : (signals : List Signal) (i : ℕ) → length signals ≤ i
    → first_clash (take i signals) (drop i signals) ≡ first_clash [] signals → first_clash [] signals ≡ None
clash_none signals i all rest = sym rest ∙ ap (first_clash (take i signals)) (drop_all i signals all)
