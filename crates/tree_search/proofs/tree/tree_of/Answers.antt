use Rattle.std.proofs.Common.{◌≡◌, sym, ◌∙◌, append-nil, []}
use Rattle.tree_search.specs.Flat.{flat}
use Rattle.tree_search.proofs.tree.tree_of.Goals as goal

pub returns : goal.returns
returns c = λ t h.
    (c.in_ok-tree.ensures.first t [] (c.into_iter-nodes.ensures.rest ∙ sym h ∙ sym (append-nil (flat t)))).0
