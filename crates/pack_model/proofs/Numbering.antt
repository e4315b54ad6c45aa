-- The steps of the loops that number names and senders.
use Rattle.std.proofs.Common.{◌≡◌, ◌≤◌, ◌<◌, ◌+◌, ℕ, Bool, true, false, List, [], ◌∷◌, ◌++◌, length, map, take, drop, get_or, Some, refl, sym, ap, ◌∙◌, arith, not, length-take, All, if◌then◌else◌}
use Rattle.std.specs.List.{list_any}
use Rattle.std.specs.Str.{bytes_eq}
use Rattle.std.proofs.lemmas.List.{get_or-map, length-map, get_or_default}
use Rattle.indexmap.specs.IndexSet.{insert_key}
use Rattle.pack_model.specs.Problem.{distinct, first_repeat, senders_of}
use Rattle.pack_model.specs.declared.signal.Signal.{Signal}
use Rattle.std.specs.Cmp.Lexicographic.{nat_list_eq_equiv}
use Rattle.std.proofs.lemmas.List.Folds.{list_any_at}
use Rattle.pack_model.proofs.ListLaws.{drop-map_cons, take-map_more}
use Rattle.pack_model.proofs.Distinct.{distinct-push, list_any-distinct, length-distinct}

-- a name that is there at its turn is the first repeat
pub repeat_found : (names keys rest : List (List ℕ)) (name : List ℕ) (i : ℕ)
    → first_repeat keys (drop i names) ≡ first_repeat [] names → drop i names ≡ name ∷ rest
    → list_any (bytes_eq name) keys ≡ true → first_repeat [] names ≡ Some (length keys)
repeat_found names keys rest name i so_far next there = sym so_far ∙ ap (first_repeat keys) next
    ∙ ap (λ b. if b then Some (length keys) else first_repeat (keys ++ name ∷ []) rest) there

-- a name that isn't is passed
pub repeat_passed : (names keys rest : List (List ℕ)) (name : List ℕ) (i : ℕ)
    → first_repeat keys (drop i names) ≡ first_repeat [] names → drop i names ≡ name ∷ rest
    → list_any (bytes_eq name) keys ≡ false → first_repeat (keys ++ name ∷ []) rest ≡ first_repeat [] names
repeat_passed names keys rest name i so_far next absent =
    sym (ap (λ b. if b then Some (length keys) else first_repeat (keys ++ name ∷ []) rest) absent)
    ∙ sym (ap (first_repeat keys) next) ∙ so_far

-- the step of the loop over names: what is inserted is not there yet
pub names_step : {X : Type 0} (f : X → List ℕ) (xs : List X) (i : ℕ) (x : X) (keys now : List (List ℕ))
    (name : List ℕ) (new : Bool)
    → i < length xs → x ≡ get_or xs i x → name ≡ f x → new ≡ not (list_any (bytes_eq name) keys)
    → now ≡ insert_key bytes_eq keys name → new ≡ true
    → keys ≡ take i (map f xs) → first_repeat keys (drop i (map f xs)) ≡ first_repeat [] (map f xs)
    → (now ≡ take (i + 1) (map f xs))
    × (first_repeat now (drop (i + 1) (map f xs)) ≡ first_repeat [] (map f xs))
names_step f xs i x keys now name new lt at is added puts fresh so_far rest =
    let absent : list_any (bytes_eq name) keys ≡ false =
    by (list_any (bytes_eq name) keys) (sym added ∙ fresh) in
    let grown : now ≡ keys ++ name ∷ [] = puts ∙ ap (λ b. if b then keys else keys ++ name ∷ []) absent in
    let next : drop i (map f xs) ≡ name ∷ drop (i + 1) (map f xs) = drop-map_cons f xs i x lt at
    ∙ ap (λ n. n ∷ drop (i + 1) (map f xs)) (sym is) in (
      grown ∙ ap (λ n. keys ++ n ∷ []) is ∙ ap (λ k. k ++ f x ∷ []) so_far
          ∙ sym (take-map_more f xs i x lt at),
      ap (λ k. first_repeat k (drop (i + 1) (map f xs))) grown
          ∙ repeat_passed (map f xs) keys (drop (i + 1) (map f xs)) name i rest next absent,
    )
  where
    by : (b : Bool) → not b ≡ true → b ≡ false
    by true h = sym h
    by false h = refl

-- the repeat that the loop over names finds
pub names_found : {X : Type 0} (f : X → List ℕ) (xs : List X) (i : ℕ) (x : X) (keys : List (List ℕ))
    (name : List ℕ) (new : Bool)
    → i < length xs → x ≡ get_or xs i x → name ≡ f x → new ≡ not (list_any (bytes_eq name) keys) → new ≡ false
    → keys ≡ take i (map f xs) → first_repeat keys (drop i (map f xs)) ≡ first_repeat [] (map f xs)
    → first_repeat [] (map f xs) ≡ Some i
names_found f xs i x keys name new lt at is added old so_far rest =
    let there : list_any (bytes_eq name) keys ≡ true = by (list_any (bytes_eq name) keys) (sym added ∙ old) in
    let next : drop i (map f xs) ≡ name ∷ drop (i + 1) (map f xs) = drop-map_cons f xs i x lt at
    ∙ ap (λ n. n ∷ drop (i + 1) (map f xs)) (sym is) in
    let size : length keys ≡ i = ap length so_far ∙ simp (length-take, length-map) (omega arith) in
    repeat_found (map f xs) keys (drop (i + 1) (map f xs)) name i rest next there ∙ ap Some size
  where
    by : (b : Bool) → not b ≡ false → b ≡ true
    by true h = refl
    by false h = sym h

-- the step of the loop over senders
pub senders_step : {X : Type 0} (f : X → List ℕ) (xs : List X) (i : ℕ) (x : X) (keys now : List (List ℕ))
    (name : List ℕ)
    → i < length xs → x ≡ get_or xs i x → name ≡ f x → now ≡ insert_key bytes_eq keys name
    → keys ≡ distinct bytes_eq (take i (map f xs)) → now ≡ distinct bytes_eq (take (i + 1) (map f xs))
senders_step f xs i x keys now name lt at is puts so_far =
    puts ∙ ap (λ n. insert_key bytes_eq keys n) is ∙ ap (λ k. insert_key bytes_eq k (f x)) so_far
    ∙ sym (ap (distinct {X = List ℕ} bytes_eq) (take-map_more f xs i x lt at)
    ∙ distinct-push bytes_eq nat_list_eq_equiv (take i (map f xs)) (f x))

-- a sender of a signal is among the senders
pub sender_there : (signals : List Signal) (i : ℕ) (s : Signal) → i < length signals → s ≡ get_or signals i s
    → list_any (bytes_eq s.sender) (senders_of signals) ≡ true
sender_there signals i s lt at =
    let in_map : i < length (map (λ (t : Signal). t.sender) signals) = simp length-map lt in
    list_any-distinct bytes_eq nat_list_eq_equiv s.sender (map (λ t. t.sender) signals)
    ∙ list_any_at (bytes_eq s.sender) (map (λ t. t.sender) signals) i s.sender in_map
    (ap (bytes_eq s.sender) (get_or-map (λ (t : Signal). t.sender) signals i s s.sender lt
    ∙ ap (λ (t : Signal). t.sender) (sym at)) ∙ nat_list_eq_equiv.refl s.sender)

pub few_senders : (signals : List Signal) → length (senders_of signals) ≤ length signals
few_senders signals =
    omega (
      arith,
      length-distinct bytes_eq nat_list_eq_equiv (map (λ (t : Signal). t.sender) signals),
      length-map signals (λ (t : Signal). t.sender),
    )

-- each signal's sender is among the senders
pub senders_there : (signals : List Signal)
    → All (λ s. list_any (bytes_eq s.sender) (senders_of signals) ≡ true) signals
senders_there signals =
    λ k d lt. sender_there signals k (get_or signals k d) lt
    (get_or_default signals k d (get_or signals k d) lt)
