-- A walk over the nodes of a tree in preorder, up to its first open leaf.
use Rattle.std.specs.Prelude.{◌≡◌, ℕ, ◌++◌, List, [], ◌∷◌, replicate}
use Rattle.pack_model.specs.declared.item.Item.{Item}
use Rattle.cert_text.specs.Trees.{Plain}
use Rattle.bandwidth_bound.specs.Trees.{open_places}
use Rattle.tree_search.specs.declared.node.Node.{Node}
use Rattle.tree_search.specs.declared.node.Node.TheVariants.{Left}
use Rattle.tree_search.specs.Flat.{IsClosed, flats}
use Rattle.tree_search.specs.Trim.{AllHaveOptions}

-- nodes that are done, and then open leaves
pub record EndsOpen (nodes : List Node) : Type 0 where
  pub closed : List Node
  pub count : ℕ
  pub parts : nodes ≡ closed ++ replicate count Left
  pub are_closed : IsClosed closed

-- the places of the open leaves of some trees, each at its place
abbrev pub opens : List Item → List (List ℕ) → List Plain → List (List ℕ)
opens items [] trees = []
opens items (p ∷ places) [] = []
opens items (p ∷ places) (tree ∷ trees) = open_places items p tree ++ opens items places trees

-- the nodes of a tree that are left are those of a tree at each of the places, and its open leaves are theirs
pub record Walks (items : List Item) (from : List ℕ) (t : Plain) (rest : List Node) (places : List (List ℕ))
    : Type 0 where
  pub trees : List Plain
  pub parts : rest ≡ flats trees
  pub options : AllHaveOptions items places trees
  pub opens_are : open_places items from t ≡ opens items places trees
