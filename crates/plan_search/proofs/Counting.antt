-- The nodes of some trees, one after the other.
use Rattle.std.proofs.Common.{◌≡◌, ℕ, ◌+◌, ◌<◌, List, [], ◌∷◌, ◌++◌, length, get_or, map, take, sym, ap, ◌∙◌, arith}
use Rattle.std.proofs.lemmas.List.{map-append, take_more}
use Rattle.cert_text.specs.declared.parts.Tree.{Tree}
use Rattle.cert_text.specs.PlainTree.{onto, plain_of}
use Rattle.cert_text.specs.Trees.{Plain, none}
use Rattle.tree_search.specs.Open.{nodes_in, nodes_of}

nodes-push : (ts : List Plain) (t : Plain)
    → nodes_in (onto (ts ++ t ∷ []) none) ≡ nodes_in (onto ts none) + nodes_of t
nodes-push [] t = omega arith
nodes-push (u ∷ ts) t = omega (arith, nodes-push ts t)

-- one tree more
pub nodes-more : (trees : List Tree) (i : ℕ) (tree : Tree) → i < length trees → tree ≡ get_or trees i tree
    → nodes_in (onto (map plain_of (take (i + 1) trees)) none)
    ≡ nodes_in (onto (map plain_of (take i trees)) none) + nodes_of (plain_of tree)
nodes-more trees i tree lt is =
    ap (λ ts. nodes_in (onto (map plain_of ts) none))
    (take_more trees i tree lt ∙ ap (λ t. take i trees ++ t ∷ []) (sym is))
    ∙ ap (λ ts. nodes_in (onto ts none)) (map-append plain_of (take i trees) (tree ∷ []))
    ∙ nodes-push (map plain_of (take i trees)) (plain_of tree)
