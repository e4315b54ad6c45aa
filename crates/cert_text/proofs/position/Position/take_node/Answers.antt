use Rattle.std.proofs.Common.{◌≡◌, ◌+◌, ◌∷◌, [], ◌++◌, ◌⊎◌, ℕ, Bool, inl, inr, ◌∙◌, ap, sym, arith, length, refl, false, true, Some, List, take}
use Rattle.cert_text.specs.declared.node.Node.{Node}
use Rattle.cert_text.specs.declared.node.Node.TheVariants as node
use Rattle.cert_text.specs.declared.symbol.Symbol.{Symbol}
use Rattle.cert_text.specs.declared.symbol.Symbol.TheVariants as symbol
use Rattle.cert_text.specs.Grammar.{expand}
use Rattle.cert_text.specs.Nodes.{node_line}
use Rattle.cert_text.specs.Pieces.{of_run, pieces}
use Rattle.cert_text.proofs.Runs.{after_inner, after_leaf, last_first}
use Rattle.cert_text.proofs.position.Position.take_node.Goals as goal

-- nothing is to come of a leaf after its line
leaf : (n : Node) (marks : Bool) (depth : ℕ) → (n ≡ node.Bound) ⊎ ((n ≡ node.Open) ⊎ (n ≡ node.Fail)) → expand (symbol.TreeAt marks depth) (node_line n) ≡ Some []
leaf n marks depth (inl e) = rw e refl
leaf n marks depth (inr (inl e)) = rw e refl
leaf n marks depth (inr (inr e)) = rw e refl

pub returns-in-Inner-clause-taken : goal.returns-in-Inner-clause-taken
returns-in-Inner-clause-taken c =
    let last : c.in-Some.last + 1 ≡ length c.self.inside.runs.items = omega (arith, c.in-Some.ensures, c.len.ensures) in
    let rest : List Symbol = of_run c.less_first-rest.result ++ pieces (take c.in-Some.last c.self.inside.runs.items) in
    let was : c.args.self.now ≡ symbol.TreeAt c.in-TreeAt.marks c.in-TreeAt.depth ∷ rest =
    sym c.self.view_is ∙ last_first c.self.inside.runs.items c.in-Some.last c.index-run.result.now c.less_first-rest.result rest last c.index-run.ensures c.less_first-rest.ensures refl
    ∙ ap (λ (s : Symbol). s ∷ rest) c.in-TreeAt.is in
    λ put. rw c.in-Inner.is (after_inner c.args.self.now rest (pieces c.put_subtrees.new.runs.items) c.in-TreeAt.marks c.in-TreeAt.depth c.in-Inner.count was c.if-depth-lt-DEEPEST.true (c.put_subtrees.ensures.put put))

pub returns-in-Bound : goal.returns-in-Bound
returns-in-Bound c =
    let last : c.in-Some.last + 1 ≡ length c.self.inside.runs.items = omega (arith, c.in-Some.ensures, c.len.ensures) in
    let now : List Symbol = pieces c.put_last.new.runs.items in
    let was : c.args.self.now ≡ symbol.TreeAt c.in-TreeAt.marks c.in-TreeAt.depth ∷ now =
    sym c.self.view_is ∙ last_first c.self.inside.runs.items c.in-Some.last c.index-run.result.now c.less_first-rest.result now last c.index-run.ensures c.less_first-rest.ensures c.put_last.ensures
    ∙ ap (λ (s : Symbol). s ∷ now) c.in-TreeAt.is in
    record {
      taken = λ _. after_leaf c.args.self.now now (node_line c.args.node) c.in-TreeAt.marks c.in-TreeAt.depth was (leaf c.args.node c.in-TreeAt.marks c.in-TreeAt.depth c.in-Bound.is);
      kept = λ e. absurd (let h : true ≡ false = e in cc);
    }
