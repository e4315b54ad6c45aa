-- What is found of the open leaves of the main tree.
use Rattle.std.proofs.Common.{◌≡◌, ℕ, ◌≤◌, List, [], ◌∷◌, length, map, min, fold, Option, None, Some, refl, sym, ap, ◌∙◌, arith}
use Rattle.std.proofs.lemmas.List.{length-map}
use Rattle.pack_model.specs.Problem.{Parts}
use Rattle.class_frame.specs.Frame.{least}
use Rattle.cert_text.specs.Parts.{CertParts}
use Rattle.bandwidth_bound.specs.Lemmas.{values_of}
use Rattle.bandwidth_bound.specs.Prices.{lower8_of}
use Rattle.bandwidth_bound.specs.Rule.{lower_of, open_of}
use Rattle.cert_check.specs.Nodes.{lowered}
use Rattle.cert_check.specs.Taken.{one_more}
use Rattle.cert_check.specs.Trees.{lower_with}
use Rattle.cert_check.proofs.Walks.{lowered_append, lowered_least, lowered_some, lowered_some_of}

module _ (problem : Parts) (best : Option ℕ) (cert : CertParts) where
  -- the bounds at the open leaves
  abbrev pub bounds : List ℕ
  bounds = map (lower8_of problem (values_of problem cert.lemmas) problem.items) (open_of problem cert.main_tree)

  pub long : length bounds ≡ length (open_of problem cert.main_tree)
  long =
      length-map (open_of problem cert.main_tree)
      (lower8_of problem (values_of problem cert.lemmas) problem.items)

  pub lower_same : (b : Option ℕ) → lower_with b (least bounds)
      ≡ lower_of problem (values_of problem cert.lemmas) b cert.main_tree
  lower_same None = refl
  lower_same (Some load) = refl

-- ---- the least of some numbers, where a walk finds it in steps

-- one number may come first or last
lowered_one : (o : Option ℕ) (x : ℕ) (ys : List ℕ)
    → lowered (lowered o (x ∷ [])) ys ≡ lowered (lowered o ys) (x ∷ [])
lowered_one o x [] = refl
lowered_one None x (y ∷ ys) =
    let turn : min x y ≡ min y x = omega arith in
    ap (λ n. lowered (Some n) ys) turn ∙ lowered_one (Some y) x ys
lowered_one (Some n) x (y ∷ ys) =
    let turn : min (min n x) y ≡ min (min n y) x = omega arith in
    ap (λ m. lowered (Some m) ys) turn ∙ lowered_one (Some (min n y)) x ys

-- and so may some
pub lowered_swap : (o : Option ℕ) (xs ys : List ℕ)
    → lowered (lowered o xs) ys ≡ lowered (lowered o ys) xs
lowered_swap o [] ys = refl
lowered_swap o (x ∷ xs) ys =
    ap (λ p. lowered p ys) (lowered_append o (x ∷ []) xs)
    ∙ lowered_swap (lowered o (x ∷ [])) xs ys
    ∙ ap (λ p. lowered p xs) (lowered_one o x ys)
    ∙ sym (lowered_append (lowered o ys) (x ∷ []) xs)

-- the least of some numbers stands for them
pub lowered_by : (o : Option ℕ) (xs : List ℕ) → lowered o (one_more (lowered None xs)) ≡ lowered o xs
lowered_by o [] = refl
lowered_by o (x ∷ xs) = ap (λ p. lowered o (one_more p)) (lowered_some x xs) ∙ by o
  where
    by : (o : Option ℕ) → lowered o (fold min x xs ∷ []) ≡ lowered o (x ∷ xs)
    by None = sym (lowered_some x xs)
    by (Some n) =
        let turn : min n (fold min x xs) ≡ min (fold min x xs) n = omega arith in
        ap Some turn ∙ ap (λ p. lowered p (n ∷ [])) (sym (lowered_some x xs))
        ∙ lowered_swap None (x ∷ xs) (n ∷ [])

-- lists with the same least have both some numbers, and that one
pub same_least : (xs ys : List ℕ) → lowered None xs ≡ lowered None ys → 1 ≤ length xs
    → (1 ≤ length ys) × (least xs ≡ least ys)
same_least xs ys same some =
    let there : lowered None ys ≡ Some (least xs) = sym same ∙ lowered_least xs some in
    let also : 1 ≤ length ys = lowered_some_of ys (least xs) there in
    let here : Some (least xs) ≡ Some (least ys) = sym there ∙ lowered_least ys also in
    (also, cc)
