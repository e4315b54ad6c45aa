-- What the builder does with its open nodes.
use Rattle.std.proofs.Common.{◌≡◌, ◌<◌, ◌-◌, ℕ, zero, suc, List, [], ◌∷◌, ◌++◌, length, map, refl, sym, ap, ◌∙◌, arith, Vec, Global}
use Rattle.cert_text.specs.declared.parts.Tree.{Tree}
use Rattle.cert_text.specs.declared.parts.Tree.TheVariants.{Inner}
use Rattle.cert_text.specs.declared.event.Event.TheVariants as event
use Rattle.cert_text.specs.declared.builder.Unfinished.{Unfinished}
use Rattle.cert_text.specs.Trees.{Plain, inner, more, none}
use Rattle.cert_text.specs.PlainTree.{onto, plain_of}
use Rattle.cert_text.specs.Making.{Made, OpenNode, make, put_tree, with_tree}
use Rattle.cert_text.specs.MadeBy.{nodes_of}
use Rattle.cert_text.proofs.Build.{onto_push, put_tree-nodes, with_nodes}
use Rattle.cert_text.proofs.Trees.{nodes_push, plain-Inner}

-- the plain trees of one tree more
mapped : (ts : List Tree) (t : Tree) (all : List Tree) → all ≡ ts ++ t ∷ [] → map plain_of all ≡ map plain_of ts ++ plain_of t ∷ []
mapped [] t all e = ap (map plain_of) e
mapped (x ∷ ts) t all e = ap (map plain_of) e ∙ ap (λ ys. plain_of x ∷ ys) (mapped ts t (ts ++ t ∷ []) refl)

-- no open nodes
pub no_nodes : (xs : List Unfinished) → length xs ≡ 0 → nodes_of xs ≡ []
unfolding nodes_of
no_nodes [] e = refl
no_nodes (x ∷ xs) e = absurd (omega arith)

-- a tree goes into a node that then lacks more
pub put_more : (before rest after : List Unfinished) (node new : Unfinished) (t : Tree) (m : Made) → before ≡ rest ++ node ∷ [] → 0 < node.lacking → new.lacking ≡ node.lacking - 1
    → new.done.items ≡ node.done.items ++ t ∷ [] → after ≡ rest ++ new ∷ [] → put_tree (plain_of t) (nodes_of before) m ≡ with_nodes (nodes_of after) m
put_more before rest after node new t m is some less one more_nodes =
    ap (λ xs. put_tree (plain_of t) (nodes_of xs) m) is ∙ ap (λ ns. put_tree (plain_of t) ns m) (nodes_push rest node) ∙ by node.lacking some less
    ∙ ap (λ ns. with_nodes ns m) (sym (nodes_push rest new) ∙ ap nodes_of (sym more_nodes))
  where
    by : (n : ℕ) → 0 < n → new.lacking ≡ n - 1
        → put_tree (plain_of t) ((n, map plain_of node.done.items) ∷ nodes_of rest) m ≡ with_nodes ((new.lacking, map plain_of new.done.items) ∷ nodes_of rest) m
    by zero some less = absurd (omega arith)
    by (suc n) some less =
        let lacking : n ≡ new.lacking = omega arith in
        ap (λ k. with_nodes ((k, map plain_of node.done.items ++ plain_of t ∷ []) ∷ nodes_of rest) m) lacking
        ∙ ap (λ ts. with_nodes ((new.lacking, ts) ∷ nodes_of rest) m) (sym (mapped node.done.items t new.done.items one))

-- a tree is a node's last
pub put_last : (before rest : List Unfinished) (node : Unfinished) (t : Tree) (ts : Vec Tree Global) (m : Made) → before ≡ rest ++ node ∷ [] → node.lacking ≡ 0 → ts.items ≡ node.done.items ++ t ∷ []
    → put_tree (plain_of (Inner ts)) (nodes_of rest) m ≡ put_tree (plain_of t) (nodes_of before) m
put_last before rest node t ts m is none_left one =
    let inside : onto (map plain_of ts.items) none ≡ onto (map plain_of node.done.items) (more (plain_of t) none) =
    ap (λ xs. onto xs none) (mapped node.done.items t ts.items one) ∙ onto_push (map plain_of node.done.items) (plain_of t) none in
    ap (λ x. put_tree x (nodes_of rest) m) (plain-Inner ts ∙ ap inner inside)
    ∙ ap (λ n. put_tree (plain_of t) ((n, map plain_of node.done.items) ∷ nodes_of rest) m) (sym none_left)
    ∙ ap (λ ns. put_tree (plain_of t) ns m) (sym (nodes_push rest node)) ∙ ap (λ xs. put_tree (plain_of t) (nodes_of xs) m) (sym is)

-- no node is left
pub put_whole : (nodes : List Unfinished) (other : List OpenNode) (t : Plain) (m : Made) → length nodes ≡ 0 → with_tree m.goal t (with_nodes other m) ≡ put_tree t (nodes_of nodes) m
put_whole nodes other t m e = put_tree-nodes [] other t m ∙ ap (λ ns. put_tree t ns m) (sym (no_nodes nodes e))

-- a node without subtrees
pub begin_none : (m : Made) (n : ℕ) (ts : Vec Tree Global) → n ≡ 0 → ts.items ≡ [] → put_tree (plain_of (Inner ts)) m.nodes m ≡ make m (event.Node n)
begin_none m n ts e none_yet =
    ap (λ x. put_tree x m.nodes m) (plain-Inner ts ∙ ap (λ (xs : List Tree). inner (onto (map plain_of xs) none)) none_yet) ∙ ap (λ k. make m (event.Node k)) (sym e)

-- a node that lacks all its subtrees
pub begin_some : (m : Made) (n : ℕ) (before after : List Unfinished) (node : Unfinished) → nodes_of before ≡ m.nodes → (n ≡ 0 → ⊥) → node.lacking ≡ n - 1 → node.done.items ≡ [] → after ≡ before ++ node ∷ []
    → with_nodes (nodes_of after) m ≡ make m (event.Node n)
begin_some m zero before after node same some less none_yet is = absurd (some refl)
begin_some m (suc n) before after node same some less none_yet is =
    let lacking : node.lacking ≡ n = omega arith in
    ap (λ ns. with_nodes ns m) (ap nodes_of is ∙ nodes_push before node ∙ ap (λ ns. (node.lacking, map plain_of node.done.items) ∷ ns) same)
    ∙ ap (λ (xs : List Tree). with_nodes ((node.lacking, map plain_of xs) ∷ m.nodes) m) none_yet ∙ ap (λ k. with_nodes ((k, []) ∷ m.nodes) m) lacking
