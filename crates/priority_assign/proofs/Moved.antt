-- Lists with one of their entries moved to the end.
use Rattle.std.proofs.Common.{◌≡◌, ℕ, ◌+◌, ◌-◌, ◌<◌, ◌≤◌, inl, inr, suc, List, [], ◌∷◌, ◌++◌, length, take, drop, get_or, sym, ◌∙◌, ap, arith, length-append}
use Rattle.std.specs.List.{remove, SwappedAt}
use Rattle.std.specs.List.Sorted.{IsPermutation}
use Rattle.std.proofs.lemmas.Bool.{cases_lt}
use Rattle.std.proofs.lemmas.List.{same_lists, get_or_append_left, get_or_at, get_or_default, take_all, take_at, take_more, drop_all, append-nil}
use Rattle.std.proofs.lemmas.List.Edits.{length-remove, get_or-remove_below, get_or-remove_above}
use Rattle.std.proofs.lemmas.List.Sorted.{IsPermutation-remove, IsPermutation-to_front, IsPermutation-sym, IsPermutation-trans}
use Rattle.priority_assign.specs.Level.{moved_last}

-- the list is as long as before
pub length-moved_last : (xs : List ℕ) (index : ℕ) → index < length xs → length (moved_last xs index) ≡ length xs
length-moved_last xs index inside =
    omega (arith, length-append (remove xs index) (get_or xs index 0 ∷ []), length-remove xs index inside)

-- it has the same entries
pub moved_last-permutation : (xs : List ℕ) (index : ℕ) → index < length xs → IsPermutation xs (moved_last xs index)
moved_last-permutation xs index inside =
    IsPermutation-trans xs (get_or xs index 0 ∷ remove xs index) (moved_last xs index)
    (IsPermutation-remove xs index (get_or xs index 0) inside (get_or_default xs index 0 (get_or xs index 0) inside))
    (IsPermutation-sym (moved_last xs index) (get_or xs index 0 ∷ remove xs index)
    (IsPermutation-to_front (remove xs index) (get_or xs index 0)))

-- its last entry, and those before
pub moved_last-own : (xs : List ℕ) (index last : ℕ) → length xs ≡ last + 1 → index < length xs
    → get_or (moved_last xs index) last 0 ≡ get_or xs index 0
moved_last-own xs index last is inside =
    get_or_at (remove xs index) (get_or xs index 0) [] 0 last (omega (arith, length-remove xs index inside))

pub moved_last-others : (xs : List ℕ) (index last : ℕ) → length xs ≡ last + 1 → index < length xs
    → take last (moved_last xs index) ≡ remove xs index
moved_last-others xs index last is inside =
    take_at (remove xs index) (get_or xs index 0 ∷ []) last (omega (arith, length-remove xs index inside))

-- the entries before and after the one that moved
below : (xs : List ℕ) (index j d : ℕ) → index < length xs → j < index
    → get_or (moved_last xs index) j d ≡ get_or xs j d
below xs index j d inside before =
    get_or_append_left (remove xs index) (get_or xs index 0 ∷ []) d j (omega (arith, length-remove xs index inside))
    ∙ get_or-remove_below xs index d j before inside

above : (xs : List ℕ) (index j d : ℕ) → index < length xs → index ≤ j → j + 1 < length xs
    → get_or (moved_last xs index) j d ≡ get_or xs (j + 1) d
above xs index j d inside after within =
    get_or_append_left (remove xs index) (get_or xs index 0 ∷ []) d j (omega (arith, length-remove xs index inside))
    ∙ get_or-remove_above xs index d j after inside

-- the last entry is there already
pub moved_last-last : (xs : List ℕ) (last : ℕ) → length xs ≡ last + 1 → xs ≡ moved_last xs last
moved_last-last xs last is =
    let none : drop (suc last) xs ≡ [] = drop_all (suc last) xs (omega arith) in
    let front : remove xs last ≡ take last xs = ap (λ rest. take last xs ++ rest) none ∙ append-nil (take last xs) in
    sym (take_all (last + 1) xs (omega arith)) ∙ take_more xs last 0 (omega arith) ∙ ap (λ l. l ++ get_or xs last 0 ∷ []) (sym front)

-- the entry before the one that moved takes its place at the end
pub moved_last-swap : (xs now next : List ℕ) (index last : ℕ) → length xs ≡ last + 1 → index < last
    → now ≡ moved_last xs (index + 1) → length next ≡ length now → SwappedAt now next index last
    → next ≡ moved_last xs index
moved_last-swap xs now next index last is before was same_length swapped =
    let inside : index < length xs = omega arith in
    let inside' : index + 1 < length xs = omega arith in
    let last_inside : last < length xs = omega arith in
    same_lists next (moved_last xs index)
    (omega (arith, same_length, ap length was, length-moved_last xs (index + 1) inside', length-moved_last xs index inside))
    (λ k d within.
    let k_inside : k < length xs = omega (arith, within, same_length, ap length was, length-moved_last xs (index + 1) inside') in
    elim (cases_lt k index) [
      | inl less ↦
          swapped.2 k d (omega arith) (omega arith) ∙ ap (λ l. get_or l k d) was ∙ below xs (index + 1) k d inside' (omega arith)
          ∙ sym (below xs index k d inside less)
      | inr not_less ↦ elim (cases_lt index k) [
        | inl more ↦ elim (cases_lt k last) [
          | inl early ↦
              swapped.2 k d (omega arith) (omega arith) ∙ ap (λ l. get_or l k d) was
              ∙ above xs (index + 1) k d inside' (omega arith) (omega arith) ∙ sym (above xs index k d inside (omega arith) (omega arith))
          | inr late ↦
              let at : k ≡ last = omega arith in
              ap (λ i. get_or next i d) at ∙ swapped.1 d ∙ ap (λ l. get_or l index d) was ∙ below xs (index + 1) index d inside' (omega arith)
              ∙ get_or_default xs index d 0 inside ∙ sym (moved_last-own xs index last is inside)
              ∙ get_or_default (moved_last xs index) last 0 d (omega (arith, length-moved_last xs index inside))
              ∙ ap (λ i. get_or (moved_last xs index) i d) (sym at)
        ]
        | inr not_more ↦
            let at : k ≡ index = omega arith in
            ap (λ i. get_or next i d) at ∙ swapped.0 d ∙ ap (λ l. get_or l last d) was
            ∙ get_or_default (moved_last xs (index + 1)) last d 0 (omega (arith, length-moved_last xs (index + 1) inside'))
            ∙ moved_last-own xs (index + 1) last is inside' ∙ get_or_default xs (index + 1) 0 d inside'
            ∙ sym (above xs index index d inside (omega arith) (omega arith)) ∙ ap (λ i. get_or (moved_last xs index) i d) (sym at)
      ]
    ])

-- the same, counted from the index that was tried before
pub moved_last-step : (xs now next : List ℕ) (index : ℕ) → 0 < index → index + 1 ≤ length xs
    → now ≡ moved_last xs index → length next ≡ length now → SwappedAt now next (index - 1) (length xs - 1)
    → next ≡ moved_last xs (index - 1)
moved_last-step xs now next index some within was same_length swapped =
    let back : index ≡ index - 1 + 1 = omega arith in
    moved_last-swap xs now next (index - 1) (length xs - 1) (omega arith) (omega arith) (was ∙ ap (moved_last xs) back) same_length swapped
