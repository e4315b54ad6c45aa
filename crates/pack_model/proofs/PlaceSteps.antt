-- The steps of the loop that puts the places of signals by item.
use Rattle.std.proofs.Common.{◌≡◌, ◌≤◌, ◌<◌, ◌+◌, inl, inr, ℕ, Bool, true, false, cond, not, List, [], ◌∷◌, length, map, take, get_or, sym, ap, ◌∙◌, arith}
use Rattle.std.specs.List.{position_or_len}
use Rattle.std.proofs.lemmas.List.{take_all, length-map}
use Rattle.std.proofs.lemmas.List.FromFn.{length-enumerate_from}
use Rattle.indexmap.specs.IndexSet.{insert_key}
use Rattle.pack_model.specs.declared.signal.Signal.{Signal}
use Rattle.pack_model.specs.declared.items.Key.{Key}
use Rattle.pack_model.specs.Items.{key_at, places_with, groups_of, places_by_item, put_at}
use Rattle.pack_model.specs.Problem.{placed, same_item, distinct}
use Rattle.pack_model.proofs.Groups.{groups_step, first_found, position-key, keys_step}
use Rattle.pack_model.proofs.Keys.{key_eq, same_key}
use Rattle.pack_model.proofs.Clashes.{StandsBefore, IsFirstPlace, placed_before, placed_more}

-- the first signals of the items so far
abbrev pub firsts_before : List Signal → ℕ → List (ℕ × Signal)
firsts_before signals i = distinct same_item (take i (placed signals))

-- their keys
abbrev pub keys_before : List Signal → ℕ → List Key
keys_before signals i = map (λ e. key_at e.1.pdu e.0) (firsts_before signals i)

-- the number of a signal's item
pub number_is : (signals : List Signal) (i : ℕ) (s : Signal) (key : Key) (keys : List Key) (number : ℕ)
    → key ≡ key_at s.pdu i → keys ≡ keys_before signals i → number ≡ position_or_len (key_eq key) keys
    → number ≡ position_or_len (same_item (i, s)) (firsts_before signals i)
number_is signals i s key keys number is so_far at =
    at ∙ ap (λ k. position_or_len (key_eq k) keys) is ∙ ap (position_or_len (key_eq (key_at s.pdu i))) so_far
    ∙ position-key key_eq (λ e. key_at e.1.pdu e.0) same_key (i, s) (firsts_before signals i)

-- a first place is at most the length
position_most : {X : Type 0} (p : X → Bool) (xs : List X) → position_or_len p xs ≤ length xs
position_most p [] = omega arith
position_most p (x ∷ xs) = by (p x) (position_most p xs)
  where
    by : (b : Bool) → position_or_len p xs ≤ length xs
        → cond (not b) (1 + position_or_len p xs) 0 ≤ length (x ∷ xs)
    by true rest = omega arith
    by false rest = omega arith

-- it is at most the number of lists
pub number_within : {X : Type 0} (f : X → List ℕ) (lists : List X) (signals : List Signal) (i number : ℕ)
    (s : Signal) → map f lists ≡ groups_of (take i (placed signals))
    → number ≡ position_or_len (same_item (i, s)) (firsts_before signals i) → number ≤ length lists
number_within f lists signals i number s so_far at =
    omega (
      arith,
      ap length so_far,
      length-map lists f,
      length-map (firsts_before signals i) (places_with (take i (placed signals))),
      position_most (same_item (i, s)) (firsts_before signals i),
    )

-- the keys after one more signal
pub keys_more : (signals : List Signal) (i : ℕ) (s : Signal) (key : Key) (keys now : List Key)
    → i < length signals → s ≡ get_or signals i s → key ≡ key_at s.pdu i → keys ≡ keys_before signals i
    → now ≡ insert_key key_eq keys key → now ≡ keys_before signals (i + 1)
keys_more signals i s key keys now lt at is so_far puts =
    puts ∙ ap (insert_key key_eq keys) is ∙ ap (λ ks. insert_key key_eq ks (key_at s.pdu i)) so_far
    ∙ keys_step key_eq (λ e. key_at e.1.pdu e.0) same_key (take i (placed signals)) (i, s)
    ∙ ap (λ front. map (λ (e : ℕ × Signal). key_at e.1.pdu e.0) (distinct same_item front))
    (sym (placed_more signals i s lt at))

-- the lists of places after one more signal
pub lists_more : (signals : List Signal) (i : ℕ) (s : Signal) (number : ℕ) (lists now : List (List ℕ))
    → i < length signals → s ≡ get_or signals i s
    → number ≡ position_or_len (same_item (i, s)) (firsts_before signals i)
    → lists ≡ groups_of (take i (placed signals)) → now ≡ put_at number i lists
    → now ≡ groups_of (take (i + 1) (placed signals))
lists_more signals i s number lists now lt at is so_far puts =
    puts ∙ ap (put_at number i) so_far ∙ ap (λ n. put_at n i (groups_of (take i (placed signals)))) is
    ∙ groups_step (take i (placed signals)) (i, s)
    ∙ ap groups_of (sym (placed_more signals i s lt at))

-- the first of the list that the place of a signal is put in
pub first_is : (signals : List Signal) (i : ℕ) (s : Signal) (number first : ℕ) (lists : List (List ℕ))
    → i < length signals → number ≡ position_or_len (same_item (i, s)) (firsts_before signals i)
    → lists ≡ groups_of (take i (placed signals)) → first ≡ get_or (get_or lists number []) 0 i
    → IsFirstPlace signals i s first
first_is signals i s number first lists lt is so_far at =
    let here : first ≡ get_or
    (get_or (groups_of (take i (placed signals)))
    (position_or_len (same_item (i, s)) (firsts_before signals i)) []) 0 i = at
    ∙ ap (λ ls. get_or (get_or ls number []) 0 i) so_far
    ∙ ap (λ n. get_or (get_or (groups_of (take i (placed signals))) n []) 0 i) is in
    elim (first_found (StandsBefore signals i) (take i (placed signals)) (i, s)
    (placed_before signals i (omega arith))) [
      | inl none ↦ inl (none.0, here ∙ none.1)
      | inr some ↦ inr (some.0, some.1, some.2, here ∙ some.3)
    ]

-- the loop went over all signals
pub lists_all : (signals : List Signal) (i : ℕ) (lists : List (List ℕ)) → length signals ≤ i
    → lists ≡ groups_of (take i (placed signals)) → lists ≡ places_by_item signals
lists_all signals i lists all so_far =
    let long : length (placed signals) ≤ i = simp length-enumerate_from all in
    so_far ∙ ap groups_of (take_all i (placed signals) long)
