use Rattle.std.proofs.Common.{◌≡◌, ◌-◌, subst, refl, OnOk}
use Rattle.cert_text.specs.Making.{Made}
use Rattle.cert_text.specs.MadeBy.{made_by}
use Rattle.cert_text.proofs.Builds.{begin_none, begin_some}
use Rattle.cert_text.proofs.builder.Builder.begin.Goals as goal

pub returns-then-count-eq0 : goal.returns-then-count-eq0
returns-then-count-eq0 c =
    subst (λ (x : Made). OnOk c.put.result (made_by c.put.new.self ≡ x)) (begin_none (made_by c.args.self.now) c.args.count c.new.result c.if-count-eq0.true c.new.ensures.items) c.put.ensures

pub returns : goal.returns
returns c =
    begin_some (made_by c.args.self.now) c.args.count c.args.self.now.nodes.items c.push.new.self.items (record { lacking = c.args.count - 1; done = c.new-2.result }) refl c.if-count-eq0.false refl
    c.new-2.ensures.items c.in_ok-push.ensures.items
