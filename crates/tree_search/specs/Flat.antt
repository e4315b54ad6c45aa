-- Trees as lists of their nodes in preorder.
use Rattle.std.specs.Prelude.{ℕ, ◌+◌, ◌++◌, List, [], ◌∷◌, ⊤}
use Rattle.cert_text.specs.Trees.{Plain, Plains, bound, fail, inner, left, more, none}
use Rattle.tree_search.specs.declared.node.Node.{Node}
use Rattle.tree_search.specs.declared.node.Node.TheVariants.{Inner, Bound, Left, Fail}

-- how many trees
abbrev pub count_of : Plains → ℕ
count_of none = 0
count_of (more tree trees) = count_of trees + 1

-- the nodes of a tree in preorder
abbrev mutual
  pub flat : Plain → List Node
  flat (inner trees) = Inner (count_of trees) ∷ flat_each trees
  flat bound = Bound ∷ []
  flat left = Left ∷ []
  flat (fail named) = Fail named ∷ []

  -- of some trees, one after the other
  pub flat_each : Plains → List Node
  flat_each none = []
  flat_each (more tree trees) = flat tree ++ flat_each trees

-- the same of a list of trees
abbrev pub flats : List Plain → List Node
flats [] = []
flats (tree ∷ trees) = flat tree ++ flats trees

-- no node is an open leaf
abbrev pub IsClosed : List Node → Type 0
IsClosed [] = ⊤
IsClosed (Inner n ∷ nodes) = IsClosed nodes
IsClosed (Bound ∷ nodes) = IsClosed nodes
IsClosed (Left ∷ nodes) = ⊥
IsClosed (Fail named ∷ nodes) = IsClosed nodes

-- how many trees follow a node right below it
abbrev pub subtrees : Node → ℕ
subtrees (Inner n) = n
subtrees Bound = 0
subtrees Left = 0
subtrees (Fail named) = 0
