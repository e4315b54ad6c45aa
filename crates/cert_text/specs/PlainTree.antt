-- The plain tree of the code's tree.
use Rattle.std.specs.Prelude.{List, [], ◌∷◌}
use Rattle.cert_text.specs.declared.parts.Tree.{Tree}
use Rattle.cert_text.specs.declared.parts.Tree.TheOpen.{Tree-F}
use Rattle.cert_text.specs.declared.parts.Tree.TheFolds.{fold-Tree}
use Rattle.cert_text.specs.declared.parts.Lemma.{Lemma}
use Rattle.cert_text.specs.Trees.{Plain, Plains, bound, fail, inner, left, more, none}
use Rattle.cert_text.specs.Parts.{LemmaOf}

-- trees, and then these
abbrev pub onto : List Plain → Plains → Plains
onto [] ps = ps
onto (t ∷ ts) ps = more t (onto ts ps)

-- a tree, where those below it are plain
abbrev pub layer : Tree-F Plain → Plain
layer (Tree-F.Inner ts) = inner (onto ts.items none)
layer Tree-F.Bound = bound
layer Tree-F.Left = left
layer (Tree-F.Fail es) = fail es

-- the plain tree
unfoldable pub plain_of : Tree → Plain
plain_of = fold-Tree Plain layer

-- the lemma with its plain tree
abbrev pub plain_lemma : Lemma → LemmaOf Plain
plain_lemma l = record { sender = l.sender; value = l.value; tree = plain_of l.tree }
