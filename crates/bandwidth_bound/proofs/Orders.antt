-- The orders in which the members of a failing set are tried, one after the other.
use Rattle.std.proofs.Common.{◌≡◌, ℕ, zero, suc, ◌+◌, ◌-◌, ◌<◌, ◌≤◌, cond, inl, inr, List, [], ◌∷◌, ◌++◌, length, take, drop, filter, get_or, nat_eq, All, Contains, refl, sym, ap, subst, ◌∙◌, arith, length-append, length-take, length-drop}
use Rattle.std.specs.Prelude.{not, slice_set}
use Rattle.std.specs.List.{remove, SwappedAt}
use Rattle.std.specs.List.Sorted.{IsStrictlyIncreasing}
use Rattle.std.proofs.Math.ListN.{get_or-eq_default}
use Rattle.std.proofs.Math.Seq.{drop-append_seam, take-append_seam, take-set-lt}
use Rattle.std.proofs.lemmas.Bool.{cases_lt, eq-eqb}
use Rattle.std.proofs.lemmas.List.{append_assoc, get_or_default, get_or-drop, get_or-take, same_lists, take-append-drop}
use Rattle.std.proofs.lemmas.List.Edits.{length-remove}
use Rattle.std.proofs.lemmas.List.Kept.{AllPairs-from_increasing}
use Rattle.busy_period.proofs.Sums.{differ}
use Rattle.busy_period.specs.declared.timed.Timed.{Timed}
use Rattle.busy_period.specs.Timed.{IsInRange}
use Rattle.busy_period.specs.Stage.{IsStage, lower_of}
use Rattle.priority_assign.specs.Level.{moved_last}
use Rattle.priority_assign.proofs.Moved.{length-moved_last, moved_last-swap}
use Rattle.response_test.specs.Order.{others_of, remaining_of}
use Rattle.response_test.specs.Refuted.{Refuted}
use Rattle.response_test.specs.declared.evidence.Evidence.{Evidence}
use Rattle.bandwidth_bound.specs.Failing.{RefutedBelow, order_below, order_with}
use Rattle.bandwidth_bound.proofs.Final.{drop-next}
use Rattle.bandwidth_bound.proofs.FinalNamed.{stage-below}

-- each number is below all later ones
abbrev Rises : List ℕ → Type 0
Rises xs = (i j : ℕ) → i < j → j < length xs → get_or xs i 0 < get_or xs j 0

rises : (xs : List ℕ) → IsStrictlyIncreasing xs → Rises xs
rises xs is i j before inside = AllPairs-from_increasing xs is i j 0 before inside

-- where a number is below all of a list, it is none of them
all_others : (own : ℕ) (xs : List ℕ) → ((j : ℕ) → j < length xs → own < get_or xs j 0) → others_of own xs ≡ xs
all_others own [] above = refl
all_others own (x ∷ xs) above =
    let p = λ (number : ℕ). not (nat_eq own number) in
    let more : own < x = above 0 (omega arith) in
    ap (λ b. cond (not b) (x ∷ filter p xs) (filter p xs)) (differ own x (λ same. omega arith))
    ∙ ap (λ (l : List ℕ). x ∷ l) (all_others own xs (λ j lt. above (suc j) (omega arith)))

-- a number is not among the others of it
not_other : (x : ℕ) (xs : List ℕ) → others_of x (x ∷ xs) ≡ others_of x xs
not_other x xs = ap (λ b. cond (not b) (x ∷ others_of x xs) (others_of x xs)) (eq-eqb x x refl)

-- the others of a member are the members without it
others-removed : (members : List ℕ) (k : ℕ) → Rises members → k < length members
    → others_of (get_or members k 0) members ≡ remove members k
others-removed [] k rise inside = absurd (omega arith)
others-removed (x ∷ xs) zero rise inside =
    not_other x xs ∙ all_others x xs (λ j lt. rise 0 (suc j) (omega arith) (omega arith))
others-removed (x ∷ xs) (suc k) rise inside =
    let own : ℕ = get_or xs k 0 in
    let less : x < own = rise 0 (suc k) (omega arith) inside in
    ap (λ b. cond (not b) (x ∷ others_of own xs) (others_of own xs)) (differ own x (λ same. omega arith))
    ∙ ap (λ (l : List ℕ). x ∷ l)
    (others-removed xs k (λ i j before within. rise (suc i) (suc j) (omega arith) (omega arith)) (omega arith))

-- the order of a member is the members with it moved to their end, and the rest
order-moved : (members rest : List ℕ) (k : ℕ) → IsStrictlyIncreasing members → k < length members
    → order_with (get_or members k 0) members rest ≡ moved_last members k ++ rest
order-moved members rest k is inside =
    ap (λ others. others ++ get_or members k 0 ∷ rest) (others-removed members k (rises members is) inside)
    ∙ sym (append_assoc (remove members k) (get_or members k 0 ∷ []) rest)

-- how many others a member has
pub length-others : (members : List ℕ) (k : ℕ) → IsStrictlyIncreasing members → k < length members
    → length (others_of (get_or members k 0) members) ≡ length members - 1
length-others members k is inside =
    omega (arith, ap length (others-removed members k (rises members is) inside), length-remove members k inside)

-- the fronts of lists in which two entries changed places
swapped-fronts : (now next : List ℕ) (n i j : ℕ) → i < n → j < n → SwappedAt now next i j
    → SwappedAt (take n now) (take n next) i j
swapped-fronts now next n i j i_in j_in swapped = (
  λ d. get_or-take n next i d i_in ∙ swapped.0 d ∙ sym (get_or-take n now j d j_in),
  λ d. get_or-take n next j d j_in ∙ swapped.1 d ∙ sym (get_or-take n now i d i_in),
  λ k d not_i not_j. elim (cases_lt k n) [
    | inl low ↦ get_or-take n next k d low ∙ swapped.2 k d not_i not_j ∙ sym (get_or-take n now k d low)
    | inr high ↦
        get_or-eq_default (take n next) d (omega (arith, length-take n next))
        ∙ sym (get_or-eq_default (take n now) d (omega (arith, length-take n now)))
  ],
  λ d.
      let at_i : ℕ = get_or now j d in
      let at_j : ℕ = get_or now i d in
      ap (λ l. take n l) (swapped.3 d) ∙ take-set-lt n (slice_set now i at_i) j at_j j_in
      ∙ ap (λ l. slice_set l j at_j) (take-set-lt n now i at_i i_in)
      ∙ ap (λ x. slice_set (slice_set (take n now) i x) j at_j) (sym (get_or-take n now j d j_in))
      ∙ ap (λ y. slice_set (slice_set (take n now) i (get_or (take n now) j d)) j y) (sym (get_or-take n now i d i_in)),
)

-- what stands behind both stays
swapped-rest : (now next : List ℕ) (n i j : ℕ) → i < n → j < n → length next ≡ length now → SwappedAt now next i j
    → drop n next ≡ drop n now
swapped-rest now next n i j i_in j_in long swapped =
    same_lists (drop n next) (drop n now) (omega (arith, length-drop n next, length-drop n now))
    (λ k d within.
    get_or-drop n next k d ∙ swapped.2 (n + k) d (omega arith) (omega arith) ∙ sym (get_or-drop n now k d))

-- the order of the member before comes of the order of a member by one change of places
pub order-before : (members now next rest : List ℕ) (k : ℕ) → IsStrictlyIncreasing members → k + 1 < length members
    → now ≡ order_with (get_or members (k + 1) 0) members rest
    → length next ≡ length now → SwappedAt now next k (length members - 1)
    → next ≡ order_with (get_or members k 0) members rest
order-before members now next rest k is inside was long swapped =
    let n : ℕ = length members in
    let last : ℕ = n - 1 in
    let before : List ℕ = moved_last members (k + 1) in
    let is_now : now ≡ before ++ rest = was ∙ order-moved members rest (k + 1) is inside in
    let size : n ≡ length before = sym (length-moved_last members (k + 1) inside) in
    let front : take n now ≡ before =
    ap (λ l. take n l) is_now ∙ ap (λ m. take m (before ++ rest)) size ∙ take-append_seam before rest in
    let back : drop n now ≡ rest =
    ap (λ l. drop n l) is_now ∙ ap (λ m. drop m (before ++ rest)) size ∙ drop-append_seam before rest in
    let moved : take n next ≡ moved_last members k =
    moved_last-swap members (take n now) (take n next) k last (omega arith) (omega arith) front
    (omega (arith, long, length-take n next, length-take n now))
    (swapped-fronts now next n k last (omega arith) (omega arith) swapped) in
    let stays : drop n next ≡ rest = swapped-rest now next n k last (omega arith) (omega arith) long swapped ∙ back in
    sym (take-append-drop n next) ∙ ap (λ l. l ++ drop n next) moved ∙ ap (λ l. moved_last members k ++ l) stays
    ∙ sym (order-moved members rest k is (omega arith))

-- ---- the orders of a failing set's members

-- a member is among the members
pub member-at : (members : List ℕ) (k : ℕ) → k < length members → Contains members (get_or members k 0)
member-at members k inside = (k, inside, get_or_default members k (get_or members k 0) 0 inside)

-- each of the orders is that of a stage, in which the member has the last place of the members
pub order-stage : (frames : List Timed) (members order : List ℕ) (k place : ℕ)
    → length frames ≤ 128 → All IsInRange frames
    → All (λ number. number < length frames) members → IsStrictlyIncreasing members → k < length members
    → order ≡ order_with (get_or members k 0) members (remaining_of frames members) → place ≡ length members - 1
    → IsStage frames order place
order-stage frames members order k place few ranges there is inside order_is at =
    stage-below frames members order (remaining_of frames members) (get_or members k 0) place few ranges there is
    (member-at members k inside) refl order_is (at ∙ sym (length-others members k is inside))

-- below the member are the remaining frames
pub order-lower : (members order rest : List ℕ) (k place : ℕ) → IsStrictlyIncreasing members → k < length members
    → order ≡ order_with (get_or members k 0) members rest → place ≡ length members - 1
    → lower_of order place ≡ rest
order-lower members order rest k place is inside order_is at =
    let own : ℕ = get_or members k 0 in
    let others : List ℕ = others_of own members in
    let same : place ≡ length others = at ∙ sym (length-others members k is inside) in
    ap (λ l. drop (place + 1) l) order_is ∙ ap (λ n. drop (n + 1) (others ++ own ∷ rest)) same
    ∙ drop-next others rest own

-- it has room for the members
pub order-long : (members order rest : List ℕ) (k : ℕ) → IsStrictlyIncreasing members → k < length members
    → order ≡ order_with (get_or members k 0) members rest → length members ≤ length order
order-long members order rest k is inside order_is =
    let own : ℕ = get_or members k 0 in
    omega (
      arith,
      ap length order_is,
      length-append (others_of own members) (own ∷ rest),
      length-others members k is inside,
    )

-- a member is refuted at its place in its order exactly where it is below the others
pub refuted-here : (frames : List Timed) (bit hyper : ℕ) (members order : List ℕ) (k place own : ℕ) (evidence : Evidence)
    → IsStrictlyIncreasing members → k < length members → own ≡ get_or members k 0
    → order ≡ order_with (get_or members k 0) members (remaining_of frames members) → place ≡ length members - 1
    → (Refuted frames order place bit hyper evidence → RefutedBelow frames bit hyper members own evidence)
    × (RefutedBelow frames bit hyper members own evidence → Refuted frames order place bit hyper evidence)
refuted-here frames bit hyper members order k place own evidence is inside own_is order_is at =
    let whole : order ≡ order_below frames members own =
    order_is ∙ ap (λ o. order_with o members (remaining_of frames members)) (sym own_is) in
    let there : place ≡ length (others_of own members) =
    at ∙ sym (length-others members k is inside) ∙ ap (λ o. length (others_of o members)) (sym own_is) in (
      λ h.
          subst (λ n. Refuted frames (order_below frames members own) n bit hyper evidence) there
          (subst (λ l. Refuted frames l place bit hyper evidence) whole h),
      λ h.
          subst (λ l. Refuted frames l place bit hyper evidence) (sym whole)
          (subst (λ n. Refuted frames (order_below frames members own) n bit hyper evidence) (sym there) h),
    )
