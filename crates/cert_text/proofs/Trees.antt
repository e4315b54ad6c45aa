-- The plain tree of each tree.
use Rattle.std.proofs.Common.{◌≡◌, ℕ, List, [], ◌∷◌, ◌++◌, map, refl, sym, ap, ◌∙◌}
use Rattle.response_test.specs.declared.evidence.Evidence.{Evidence}
use Rattle.cert_text.specs.declared.parts.Tree.TheOpen.{Tree-F}
use Rattle.cert_text.specs.declared.parts.Tree.TheFolds.{fold-roll-Tree}
use Rattle.cert_text.specs.declared.parts.Tree.TheVariants.{Bound, Fail, Inner, Left, rolls-Bound, rolls-Fail, rolls-Inner, rolls-Left}
use Rattle.cert_text.specs.declared.builder.Unfinished.{Unfinished}
use Rattle.cert_text.specs.Trees.{Plain, bound, fail, inner, left, none}
use Rattle.cert_text.specs.PlainTree.{layer, onto, plain_of}
use Rattle.cert_text.specs.Making.{OpenNode}
use Rattle.cert_text.specs.MadeBy.{nodes_of}

-- the plain tree of a bound leaf
pub plain-Bound : plain_of Bound ≡ bound
unfolding plain_of
plain-Bound = ap plain_of (sym rolls-Bound) ∙ fold-roll-Tree Plain layer Tree-F.Bound

-- the plain tree of an open leaf
pub plain-Left : plain_of Left ≡ left
unfolding plain_of
plain-Left = ap plain_of (sym rolls-Left) ∙ fold-roll-Tree Plain layer Tree-F.Left

-- the plain tree of a fail leaf
pub plain-Fail : (es : List (ℕ × Evidence)) → plain_of (Fail es) ≡ fail es
unfolding plain_of
plain-Fail es = ap plain_of (sym (rolls-Fail es)) ∙ fold-roll-Tree Plain layer (Tree-F.Fail es)

-- the plain tree of an inner node
pub plain-Inner : (ts : _) → plain_of (Inner ts) ≡ inner (onto (map plain_of ts.items) none)
unfolding plain_of
plain-Inner ts = ap plain_of (sym (rolls-Inner ts)) ∙ fold-roll-Tree Plain layer (Tree-F.Inner ts)

-- one open node more, which is the innermost
pub nodes_push : (xs : List Unfinished) (x : Unfinished) → nodes_of (xs ++ x ∷ []) ≡ (x.lacking, map plain_of x.done.items) ∷ nodes_of xs
unfolding nodes_of
nodes_push [] x = refl
nodes_push (y ∷ xs) x = ap (λ (zs : List OpenNode). zs ++ (y.lacking, map plain_of y.done.items) ∷ []) (nodes_push xs x)
