-- How many identifiers are in use.
use Rattle.std.proofs.Common.{◌≡◌, ℕ, ◌+◌, ◌<◌, ◌≤◌, Bool, true, false, List, [], ◌∷◌, length, filter, not, nat_eq, count_by, sym, ap, refl, ◌∙◌, ◌||◌, arith, All, find, eq-eqb}
use Rattle.std.specs.List.{list_any, range_with_len}
use Rattle.std.specs.Option.{option_map_or}
use Rattle.std.proofs.lemmas.Bool.{ne_eqb}
use Rattle.std.proofs.lemmas.Map.Views.{any-filter_same}
use Rattle.std.proofs.lemmas.List.Elements.{All-head, All-tail, All-cons, All-filter}
use Rattle.std.proofs.lemmas.List.FromFn.{get_or-range_with_len, length-range_with_len}
use Rattle.pack_model.specs.Problem.{distinct}
use Rattle.matrix_rows.specs.declared.matrix.MatrixRow.{MatrixRow}
use Rattle.placed_matrix.proofs.Counts.{count_only}

-- each element is none of those after it
abbrev pub AllDifferent : List ℕ → Type 0
AllDifferent [] = Unit {0}
AllDifferent (x ∷ xs) = (list_any (nat_eq x) xs ≡ false) × AllDifferent xs

-- what is nowhere is not in a part
nowhere : (q p : ℕ → Bool) (xs : List ℕ) → list_any q xs ≡ false → list_any q (filter p xs) ≡ false
nowhere q p [] h = refl
nowhere q p (x ∷ xs) h = by (p x) (q x) refl refl (nowhere q p xs)
  where
    by : (b c : Bool) → p x ≡ b → q x ≡ c → (list_any q xs ≡ false → list_any q (filter p xs) ≡ false)
        → list_any q (filter p (x ∷ xs)) ≡ false
    by b true e f ih = absurd (let wrong : true ≡ false = sym (ap (λ c. c || list_any q xs) f) ∙ h in cc)
    by true false e f ih = rw e (rw f (ih (sym (ap (λ c. c || list_any q xs) f) ∙ h)))
    by false false e f ih = rw e (ih (sym (ap (λ c. c || list_any q xs) f) ∙ h))

AllDifferent-filter : (p : ℕ → Bool) (xs : List ℕ) → AllDifferent xs → AllDifferent (filter p xs)
AllDifferent-filter p [] h = tt
AllDifferent-filter p (x ∷ xs) h = by (p x) refl (AllDifferent-filter p xs h.1)
  where
    by : (b : Bool) → p x ≡ b → AllDifferent (filter p xs) → AllDifferent (filter p (x ∷ xs))
    by true e rest = rw e (nowhere (nat_eq x) p xs h.0, rest)
    by false e rest = rw e rest

pub AllDifferent-distinct : (xs : List ℕ) → AllDifferent (distinct nat_eq xs)
AllDifferent-distinct [] = tt
AllDifferent-distinct (x ∷ xs) = (
  any-filter_same (nat_eq x) (λ y. not (nat_eq x y)) false (λ k same. ap not same) (distinct nat_eq xs),
  AllDifferent-filter (λ y. not (nat_eq x y)) (distinct nat_eq xs) (AllDifferent-distinct xs),
)

-- each number below n stands once among them
pub count_here : (n x : ℕ) → x < n → count_by (λ i. nat_eq i x) (range_with_len 0 n) ≡ 1
count_here n x lt =
    let within : x < length (range_with_len 0 n) = simp length-range_with_len lt in
    count_only (λ i. nat_eq i x) (range_with_len 0 n) x within
    (λ d. ap (λ i. nat_eq i x) (get_or-range_with_len 0 n x d lt) ∙ eq-eqb (0 + x) x (omega arith))
    (λ k d below differ. let low : k < n = simp length-range_with_len at below in
    ap (λ i. nat_eq i x) (get_or-range_with_len 0 n k d low)
    ∙ ne_eqb (0 + k) x (λ e. differ (omega arith)))

-- where all rows are in range, so is each row that is found
pub found_low : (p : MatrixRow → Bool) (rows : List MatrixRow) → All (λ row. row.id ≤ 2047) rows
    → option_map_or (λ (row : MatrixRow). row.id) (find p rows) 0 ≤ 2047
found_low p [] low = omega arith
found_low p (x ∷ xs) low =
    by (p x) refl (found_low p xs (All-tail (λ (row : MatrixRow). row.id ≤ 2047) x xs low))
  where
    by : (b : Bool) → p x ≡ b → option_map_or (λ (row : MatrixRow). row.id) (find p xs) 0 ≤ 2047
        → option_map_or (λ (row : MatrixRow). row.id) (find p (x ∷ xs)) 0 ≤ 2047
    by true e ih = rw e (All-head (λ (row : MatrixRow). row.id ≤ 2047) x xs low)
    by false e ih = rw e ih

pub All-distinct : (P : ℕ → Type 0) (xs : List ℕ) → All P xs → All P (distinct nat_eq xs)
All-distinct P [] all = all
All-distinct P (x ∷ xs) all =
    All-cons P x _ (All-head P x xs all)
    (All-filter (λ y. not (nat_eq x y)) P (distinct nat_eq xs) (All-distinct P xs (All-tail P x xs all)))
