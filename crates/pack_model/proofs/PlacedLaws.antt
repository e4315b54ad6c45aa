-- The signals of a list with their places, and which of them are of one item.
use Rattle.std.proofs.Common.{◌≡◌, ◌<◌, ◌≤◌, ◌+◌, ℕ, zero, suc, Bool, true, false, cond, filter, map, Option, None, Some, List, [], ◌∷◌, length, get_or, refl, sym, ap, subst, ◌∙◌, arith, zero-add, true≢false, eq-eqb, eqb-true, All, Contains, sum_by}
use Rattle.std.specs.Prelude.{slice_get}
use Rattle.std.specs.List.{enumerate_from, filter_map, cons_option, range_with_len}
use Rattle.std.proofs.lemmas.List.{get_or_default, get_or-map, length-map}
use Rattle.std.proofs.lemmas.List.Elements.{All-head, All-tail, All-map, All-filter, filter_passes, Contains-append_right}
use Rattle.std.proofs.lemmas.List.Folds.{fold-map}
use Rattle.std.proofs.lemmas.List.FromFn.{length-enumerate_from, get_or-enumerate_from}
use Rattle.std.proofs.lemmas.Option.{slice_get-get_or}
use Rattle.pack_model.specs.declared.signal.Signal.{Signal}
use Rattle.pack_model.specs.Problem.{placed, is_one_item, same_item, signals_with, item_of, firsts_of}
use Rattle.pack_model.proofs.SameItem.{same_item_equivalence}
use Rattle.pack_model.proofs.Classes.{All-distinct, firsts}

-- what a function makes of an element is in what it makes of the list
pub Contains-map : {X Y : Type 0} (f : X → Y) (xs : List X) (x : X) → Contains xs x
    → Contains (map f xs) (f x)
Contains-map f xs x (k, lt, at) = (k, simp length-map lt, get_or-map f xs k x (f x) lt ∙ ap f at)

-- a filter keeps what passes
pub Contains-filter : {X : Type 0} (p : X → Bool) (xs : List X) (x : X) → Contains xs x → p x ≡ true
    → Contains (filter p xs) x
Contains-filter {X} p xs x (k, lt, at) pass = go xs k lt at
  where
    go : (ys : List X) (k : ℕ) → k < length ys → get_or ys k x ≡ x → Contains (filter p ys) x
    go [] k lt at = absurd (omega arith)
    go (y ∷ ys) zero lt at =
        subst (λ b. Contains (cond b (y ∷ filter p ys) (filter p ys)) x) (sym (ap p at ∙ pass))
        (zero, omega arith, at)
    go (y ∷ ys) (suc k) lt at = by (p y) (go ys k (omega arith) at)
      where
        by : (b : Bool) → Contains (filter p ys) x → Contains (cond b (y ∷ filter p ys) (filter p ys)) x
        by true found = Contains-append_right (y ∷ []) (filter p ys) x found
        by false found = found

-- signals of one item have one I-PDU, or are free
pub pdu_of_one_item : (o p : Option ℕ) (a b : ℕ) → is_one_item o a p b ≡ true → p ≡ o
pdu_of_one_item None None a b same = refl
pdu_of_one_item None (Some other) a b same = absurd (true≢false (sym same))
pdu_of_one_item (Some id) None a b same = absurd (true≢false (sym same))
pdu_of_one_item (Some id) (Some other) a b same = ap Some (sym (eqb-true id other same))

-- and signals of one I-PDU are of one item
pub one_item_of_pdu : (o p : Option ℕ) (a b id : ℕ) → o ≡ Some id → p ≡ Some id → is_one_item o a p b ≡ true
one_item_of_pdu o p a b id e f = ap (λ x. is_one_item x a p b) e ∙ ap (λ x. is_one_item (Some id) a x b) f
    ∙ eq-eqb id id refl

-- the pair is a place of the list and the signal there
pub record IsPlaced (signals : List Signal) (e : ℕ × Signal) : Type 0 where
  pub within : e.0 < length signals
  pub at : e.1 ≡ get_or signals e.0 e.1

pub all_placed : (signals : List Signal) → All (IsPlaced signals) (placed signals)
all_placed signals k d lt =
    let within : k < length signals = simp length-enumerate_from at lt in
    subst (IsPlaced signals) (sym
    (get_or-enumerate_from 0 signals k d within ∙ (λ i. (zero-add k i, get_or signals k d.1))))
    (record { within = within; at = get_or_default signals k d.1 (get_or signals k d.1) within })

-- a signal with its place is among them
pub placed_there : (signals : List Signal) (place : ℕ) (signal : Signal) → place < length signals
    → signal ≡ get_or signals place signal → Contains (placed signals) (place, signal)
placed_there signals place signal lt at = (
  place,
  simp length-enumerate_from lt,
  get_or-enumerate_from 0 signals place (place, signal) lt
      ∙ (λ i. (zero-add place i, sym at i)),
)

-- their places are those of the list
pub places_of : {X : Type 0} (n : ℕ) (xs : List X)
    → map (λ (e : ℕ × X). e.0) (enumerate_from n xs) ≡ range_with_len n (length xs)
places_of n [] = refl
places_of n (x ∷ xs) = ap (λ l. n ∷ l) (places_of (n + 1) xs)

-- what is kept by the signal alone
pub kept_by_signal : {X : Type 0} (q : X → Bool) (n : ℕ) (xs : List X)
    → map (λ (e : ℕ × X). e.1) (filter (λ e. q e.1) (enumerate_from n xs)) ≡ filter q xs
kept_by_signal q n [] = refl
kept_by_signal {X} q n (x ∷ xs) = by (q x) (kept_by_signal q (n + 1) xs)
  where
    by : (b : Bool) → map (λ (e : ℕ × X). e.1) (filter (λ e. q e.1) (enumerate_from (n + 1) xs)) ≡ filter q xs
        → map (λ (e : ℕ × X). e.1)
        (cond b ((n, x) ∷ filter (λ e. q e.1) (enumerate_from (n + 1) xs))
        (filter (λ e. q e.1) (enumerate_from (n + 1) xs))) ≡ cond b (x ∷ filter q xs) (filter q xs)
    by true rest = ap (λ l. x ∷ l) rest
    by false rest = rest

-- a test that only one place passes keeps one at most
none_at : {X : Type 0} (p : ℕ × X → Bool) (place n : ℕ) (xs : List X)
    → ((e : ℕ × X) → p e ≡ true → e.0 ≡ place) → place < n → filter p (enumerate_from n xs) ≡ []
none_at p place n [] only before = refl
none_at {X} p place n (x ∷ xs) only before =
    by (p (n, x)) refl (none_at p place (n + 1) xs only (omega arith))
  where
    by : (b : Bool) → p (n, x) ≡ b → filter p (enumerate_from (n + 1) xs) ≡ []
        → cond b ((n, x) ∷ filter p (enumerate_from (n + 1) xs)) (filter p (enumerate_from (n + 1) xs)) ≡ []
    by true e rest = let here : n ≡ place = only (n, x) e in absurd (omega arith)
    by false e rest = rest

pub one_at_most : {X : Type 0} (p : ℕ × X → Bool) (place n : ℕ) (xs : List X)
    → ((e : ℕ × X) → p e ≡ true → e.0 ≡ place) → length (filter p (enumerate_from n xs)) ≤ 1
one_at_most p place n [] only = omega arith
one_at_most {X} p place n (x ∷ xs) only = by (p (n, x)) refl (one_at_most p place (n + 1) xs only)
  where
    by : (b : Bool) → p (n, x) ≡ b → length (filter p (enumerate_from (n + 1) xs)) ≤ 1
        → length (cond b ((n, x) ∷ filter p (enumerate_from (n + 1) xs))
        (filter p (enumerate_from (n + 1) xs))) ≤ 1
    by true e rest =
        let here : n ≡ place = only (n, x) e in
        omega (arith, ap length (none_at p place (n + 1) xs only (omega arith)))
    by false e rest = rest

-- placed signals are found at their places
pub found_at_places : (signals : List Signal) (fs : List (ℕ × Signal)) → All (IsPlaced signals) fs
    → filter_map (slice_get signals) (map (λ (f : ℕ × Signal). f.0) fs) ≡ map (λ (f : ℕ × Signal). f.1) fs
found_at_places signals [] all = refl
found_at_places signals (f ∷ fs) all =
    let here = All-head (IsPlaced signals) f fs all in
    ap (λ o. cons_option o (filter_map (slice_get signals) (map (λ (g : ℕ × Signal). g.0) fs)))
    (slice_get-get_or signals f.0 f.1 here.within ∙ ap Some (sym here.at))
    ∙ ap (λ l. f.1 ∷ l) (found_at_places signals fs (All-tail (IsPlaced signals) f fs all))

-- a sum over pairs by their signals
pub bits_of_placed : (fs : List (ℕ × Signal))
    → sum_by (λ (signal : Signal). signal.bits) (map (λ (f : ℕ × Signal). f.1) fs)
    ≡ sum_by (λ (f : ℕ × Signal). f.1.bits) fs
bits_of_placed fs = fold-map (λ total (signal : Signal). total + signal.bits) (λ (f : ℕ × Signal). f.1) 0 fs

-- the first signal of an item, with its place
pub record IsHead (signals : List Signal) (e : ℕ × Signal) : Type 0 where
  pub here : IsPlaced signals e
  pub rest : List (ℕ × Signal)
  pub first : signals_with signals e ≡ e ∷ rest

pub heads : (signals : List Signal) → All (IsHead signals) (firsts_of signals)
heads signals k d lt =
    let is_first = firsts same_item same_item_equivalence (placed signals) k d lt in
    record {
      here =
          All-distinct same_item (IsPlaced signals) (placed signals) (all_placed signals) k d lt;
      rest =
          is_first.0;
      first = is_first.1;
    }

-- what holds of each placed signal of an item
pub all_with : (signals : List Signal) (e : ℕ × Signal) (P : ℕ × Signal → Type 0)
    → ((f : ℕ × Signal) → IsPlaced signals f → same_item e f ≡ true → P f) → All P (signals_with signals e)
all_with signals e P each k d lt =
    each _ (All-filter (same_item e) (IsPlaced signals) (placed signals) (all_placed signals) k d lt)
    (filter_passes (same_item e) (placed signals) k d lt)

-- the members of an item are the places of signals of one item
pub members_same : (signals : List Signal) (e : ℕ × Signal)
    → All (λ m. (m < length signals) × ((d : Signal) → same_item e (m, get_or signals m d) ≡ true))
    (item_of signals e).members
members_same signals e =
    All-map (λ m. (m < length signals) × ((d : Signal) → same_item e (m, get_or signals m d) ≡ true))
    (λ (f : ℕ × Signal). f.0) (signals_with signals e)
    (all_with signals e (λ f. (f.0 < length signals)
    × ((d : Signal) → same_item e (f.0, get_or signals f.0 d) ≡ true))
    (λ f here same. (
      here.within,
      λ d.
          ap (λ s. same_item e (f.0, s)) (get_or_default signals f.0 d f.1 here.within ∙ sym here.at) ∙ same,
    )))

-- and each such place is a member
pub member_there : (signals : List Signal) (e : ℕ × Signal) (place : ℕ) (signal : Signal)
    → place < length signals → signal ≡ get_or signals place signal → same_item e (place, signal) ≡ true
    → Contains (item_of signals e).members place
member_there signals e place signal lt at same =
    Contains-map (λ (f : ℕ × Signal). f.0) (signals_with signals e) (place, signal)
    (Contains-filter (same_item e) (placed signals) (place, signal)
    (placed_there signals place signal lt at) same)
