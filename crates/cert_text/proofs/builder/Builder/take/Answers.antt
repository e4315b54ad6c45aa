use Rattle.std.proofs.Common.{◌≡◌, ap, subst, sym, OnOk, ◌∙◌}
use Rattle.cert_text.specs.Making.{make, put_tree}
use Rattle.cert_text.specs.MadeBy.{made_by, nodes_of}
use Rattle.cert_text.proofs.Trees.{plain-Bound, plain-Fail, plain-Left}
use Rattle.cert_text.proofs.builder.Builder.take.Goals as goal

pub returns-in-BoundLeaf : goal.returns-in-BoundLeaf
returns-in-BoundLeaf c =
    subst (λ x. OnOk c.put.result (made_by c.put.new.self ≡ x)) (ap (λ t. put_tree t (nodes_of c.args.self.now.nodes.items) (made_by c.args.self.now)) plain-Bound ∙ ap (make (made_by c.args.self.now)) (sym c.in-BoundLeaf.is)) c.put.ensures

pub returns-in-OpenLeaf : goal.returns-in-OpenLeaf
returns-in-OpenLeaf c =
    subst (λ x. OnOk c.put-in-OpenLeaf.result (made_by c.put-in-OpenLeaf.new.self ≡ x))
    (ap (λ t. put_tree t (nodes_of c.args.self.now.nodes.items) (made_by c.args.self.now)) plain-Left ∙ ap (make (made_by c.args.self.now)) (sym c.in-OpenLeaf.is)) c.put-in-OpenLeaf.ensures

pub returns-in-FailLeaf : goal.returns-in-FailLeaf
returns-in-FailLeaf c =
    subst (λ x. OnOk c.put-in-FailLeaf.result (made_by c.put-in-FailLeaf.new.self ≡ x))
    (ap (λ t. put_tree t (nodes_of c.args.self.now.nodes.items) (made_by c.args.self.now)) (plain-Fail c.in-FailLeaf.refuted) ∙ ap (make (made_by c.args.self.now)) (sym c.in-FailLeaf.is)) c.put-in-FailLeaf.ensures
