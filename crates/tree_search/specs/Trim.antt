-- Trimming: an inner node that a test cuts becomes a bound leaf, from the root down.
use Rattle.std.specs.Prelude.{◌≡◌, ℕ, ◌++◌, List, [], ◌∷◌, length, Bool, false, cond, nat_le, ⊤}
use Rattle.pack_model.specs.declared.item.Item.{Item}
use Rattle.cert_text.specs.Trees.{Plain, Plains, bound, fail, inner, left, more, none}
use Rattle.grouping_tree.specs.Partial.{options_of}
use Rattle.tree_search.specs.declared.node.Node.{Node}
use Rattle.tree_search.specs.Flat.{flats}
use Rattle.tree_search.specs.Open.{HasOptions}

-- the bound at a partial grouping reaches a value
abbrev pub reaches : (List ℕ → ℕ) → ℕ → List ℕ → Bool
reaches lower8 value p = nat_le value (lower8 p)

module _ (items : List Item) (cut : List ℕ → Bool) where
  -- the trimmed tree of one at a partial grouping of the items
  abbrev mutual
    pub trim : List ℕ → Plain → Plain
    trim p (inner trees) = cond (cut p) bound (inner (trim_each p (options_of items p) trees))
    trim p bound = bound
    trim p left = left
    trim p (fail named) = fail named

    pub trim_each : List ℕ → List ℕ → Plains → Plains
    trim_each p [] trees = trees
    trim_each p (label ∷ labels) none = none
    trim_each p (label ∷ labels) (more tree trees) =
        more (trim (p ++ label ∷ []) tree) (trim_each p labels trees)

  -- of several trees, each at its place
  abbrev pub trims : List (List ℕ) → List Plain → List Plain
  trims [] trees = []
  trims (p ∷ places) [] = []
  trims (p ∷ places) (tree ∷ trees) = trim p tree ∷ trims places trees

  -- no inner node is cut
  abbrev mutual
    pub IsTrimmed : List ℕ → Plain → Type 0
    IsTrimmed p (inner trees) = (cut p ≡ false) × AreTrimmed p (options_of items p) trees
    IsTrimmed p bound = ⊤
    IsTrimmed p left = ⊤
    IsTrimmed p (fail named) = ⊤

    pub AreTrimmed : List ℕ → List ℕ → Plains → Type 0
    AreTrimmed p [] trees = ⊤
    AreTrimmed p (label ∷ labels) none = ⊤
    AreTrimmed p (label ∷ labels) (more tree trees) =
        IsTrimmed (p ++ label ∷ []) tree × AreTrimmed p labels trees

-- there is one tree for each of some places, and each has a subtree for each option
abbrev pub AllHaveOptions : List Item → List (List ℕ) → List Plain → Type 0
AllHaveOptions items [] [] = ⊤
AllHaveOptions items [] (tree ∷ trees) = ⊥
AllHaveOptions items (p ∷ places) [] = ⊥
AllHaveOptions items (p ∷ places) (tree ∷ trees) = HasOptions items p tree × AllHaveOptions items places trees

-- of the nodes that are left so many trees are to be passed over, and the others trimmed at the places: with
-- the nodes
-- that are kept so far they are the wanted ones
pub record Trims (items : List Item) (cut : List ℕ → Bool) (wanted kept rest : List Node) (skip : ℕ)
    (places : List (List ℕ)) : Type 0 where
  pub passed : List Plain
  pub trees : List Plain
  pub parts : rest ≡ flats passed ++ flats trees
  pub skip_is : length passed ≡ skip
  pub options : AllHaveOptions items places trees
  pub wanted_is : wanted ≡ kept ++ flats (trims items cut places trees)
