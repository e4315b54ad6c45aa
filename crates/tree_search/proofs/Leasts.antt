-- The least of some numbers, one after the other.
use Rattle.std.proofs.Common.{◌≡◌, ℕ, List, [], ◌∷◌, Option, None, Some, min, fold, refl, ap}
use Rattle.class_frame.specs.Frame.{least}
use Rattle.tree_search.specs.Open.{least_of, least_with}

-- what is the least of some is the least of them
pub least_some : (ns : List ℕ) (n : ℕ) → least_of ns ≡ Some n → n ≡ least ns
least_some [] n e = cc
least_some (m ∷ ns) n e = cc

-- one number more
pub least-more : (before : Option ℕ) (n now : ℕ) (ns : List ℕ) → Some now ≡ least_with before (n ∷ [])
    → least_with (Some now) ns ≡ least_with before (n ∷ ns)
least-more None n now ns e =
    let is : now ≡ n = cc in
    ap (λ m. Some (fold min m ns)) is
least-more (Some m) n now ns e =
    let is : now ≡ min m n = cc in
    ap (λ k. Some (fold min k ns)) is

-- and none more
pub least-end : (before : Option ℕ) → least_with before [] ≡ before
least-end None = refl
least-end (Some n) = refl
