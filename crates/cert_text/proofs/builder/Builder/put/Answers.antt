use Rattle.std.proofs.Common.{◌≡◌, ◌∙◌, ◌-◌, [], length, ap, sym, refl, subst, arith, OnOk}
use Rattle.cert_text.specs.declared.builder.Builder.{Builder}
use Rattle.cert_text.specs.PlainTree.{plain_of}
use Rattle.cert_text.specs.Making.{Made, put_tree}
use Rattle.cert_text.specs.MadeBy.{made_by, nodes_of}
use Rattle.cert_text.proofs.Builds.{no_nodes, put_last, put_more, put_whole}
use Rattle.cert_text.proofs.builder.Builder.put.Goals as goal

pub returns-then-node-gt0 : goal.returns-then-node-gt0
returns-then-node-gt0 c =
    ap (λ (s : Builder). made_by (record s { nodes = c.push-then-node-gt0.new.self })) c.loop-node.invariant.others
    ∙ sym
    (put_more c.loop-node.self.nodes.items c.pop.new.self.items c.push-then-node-gt0.new.self.items c.in-Some.node (record { lacking = c.in-Some.node.lacking - 1; done = c.push.new.self }) c.loop-node.tree
    (made_by c.args.self.now) c.in-Some.ensures.items c.if-node-gt0.true refl c.in_ok-push.ensures.items c.in_ok-push-2.ensures.items)
    ∙ c.loop-node.invariant.same

pub loop-node-preserved : goal.loop-node-preserved
loop-node-preserved c = record {
  others = ap (λ (s : Builder). record s { nodes = c.pop.new.self }) c.loop-node.invariant.others;
  same =
      let none : c.in-Some.node.lacking ≡ 0 = omega arith in
      put_last c.loop-node.self.nodes.items c.pop.new.self.items c.in-Some.node c.loop-node.tree c.push.new.self (made_by c.args.self.now) c.in-Some.ensures.items none c.in_ok-push.ensures.items
      ∙ c.loop-node.invariant.same;
}

pub end_tree-requires : goal.end_tree-requires
end_tree-requires c = no_nodes c.pop.new.self.items (grind (arith, c.in_default.ensures))

pub returns : goal.returns
returns c =
    let none : length c.loop-node.self.nodes.items ≡ 0 = grind (arith, c.in_default.ensures.cases) in
    subst (λ (x : Made). OnOk c.end_tree.result (made_by c.end_tree.new.self ≡ x))
    (ap (λ (s : Builder). put_tree (plain_of c.loop-node.tree) [] (made_by (record s { nodes = c.pop.new.self }))) c.loop-node.invariant.others
    ∙ put_whole c.loop-node.self.nodes.items (nodes_of c.pop.new.self.items) (plain_of c.loop-node.tree) (made_by c.args.self.now) none ∙ c.loop-node.invariant.same)
    c.end_tree.ensures
