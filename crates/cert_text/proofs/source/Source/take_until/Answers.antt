use Rattle.std.proofs.Common.{◌-◌, ℕ, take, drop, ap, ◌∙◌, arith}
use Rattle.cert_text.proofs.SourceLaws.{cut_view}
use Rattle.cert_text.proofs.source.Source.take_until.Goals as goal

pub returns : goal.returns
returns c = λ line rest text size.
    let cut = cut_view c.self.inside.piece.items line rest c.self.inside.from c.self.inside.upto c.self.invariant.0 (omega arith) (ap (λ v. v.left) c.self.view_is ∙ text) in
    record {
      left =
          ap (λ (k : ℕ). take (c.self.inside.upto - (c.self.inside.upto - k)) (drop (c.self.inside.upto - k) c.self.inside.piece.items)) size ∙ cut.0;
      count = ap (λ v. v.count) c.self.view_is;
      few = omega (arith, cut.1, c.self.invariant.1);
    }
