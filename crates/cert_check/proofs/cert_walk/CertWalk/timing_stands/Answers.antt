use Rattle.std.proofs.Common.{IsTrue, ap, arith, false, length, not, nat_eq, subst, sym, ◌&&◌, ◌≡◌, ◌↔◌, ◌∙◌}
use Rattle.bandwidth_bound.specs.Rule.{TimingOfKind}
use Rattle.cert_check.specs.Kinds.{is_kind_placed}
use Rattle.cert_check.specs.Taken.{IsLate, IsPlaced}
use Rattle.cert_check.proofs.Judged.{timing_some}
use Rattle.cert_check.proofs.cert_walk.CertWalk.timing_stands.Goals as goal

pub returns-then-not-self : goal.returns-then-not-self
returns-then-not-self c = λ problem rows s stores matrix.
    let kind : is_kind_placed s.kind ≡ false =
    ap is_kind_placed (sym stores.kind) ∙ sym c.is_kind_placed.ensures ∙ c.if-is_kind_placed.false in
    let long : length c.in-Some.placing.order.items ≡ c.len.result =
    omega (arith, c.len.ensures, c.in-Some.placing.order.ok.0) in
    subst (λ n. IsTrue (nat_eq c.args.self.now.lines n) ↔ TimingOfKind s.kind problem rows s.lines)
    long
    (subst (λ b. IsTrue (not b && nat_eq c.args.self.now.lines (length c.in-Some.placing.order.items))
    ↔ TimingOfKind s.kind problem rows s.lines) c.if-not-self.true
    (timing_some problem rows c.args.self.now s stores matrix c.in-Some.placing
    (subst (IsPlaced problem rows) c.in-Some.is stores.knows.placed)
    (subst (λ p. IsLate problem p s.lines c.args.self.now.late) c.in-Some.is stores.late) kind))

pub returns-else-not-self : goal.returns-else-not-self
returns-else-not-self c = λ problem rows s stores matrix.
    let kind : is_kind_placed s.kind ≡ false =
    ap is_kind_placed (sym stores.kind) ∙ sym c.is_kind_placed.ensures ∙ c.if-is_kind_placed.false in
    subst (λ b. IsTrue (not b) ↔ TimingOfKind s.kind problem rows s.lines) (sym c.if-not-self.false)
    (subst (λ b. IsTrue (not b && nat_eq c.args.self.now.lines (length c.in-Some.placing.order.items))
    ↔ TimingOfKind s.kind problem rows s.lines) c.if-not-self.false
    (timing_some problem rows c.args.self.now s stores matrix c.in-Some.placing
    (subst (IsPlaced problem rows) c.in-Some.is stores.knows.placed)
    (subst (λ p. IsLate problem p s.lines c.args.self.now.late) c.in-Some.is stores.late) kind))
