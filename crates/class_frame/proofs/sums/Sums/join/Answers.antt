use Rattle.std.proofs.Common.{◌≡◌, ◌&&◌, ◌+◌, ap, sym, ◌∙◌}
use Rattle.class_frame.specs.Sums.{joined, sums_of}
use Rattle.class_frame.proofs.Joining.{sums_of-append}
use Rattle.class_frame.proofs.sums.Sums.join.Goals as goal
use Rattle.class_frame.proofs.sums.Sums.join.Goals.{then-self, else-self}

pub returns-clause-sums : goal.returns-clause-sums
returns-clause-sums c = λ problem items more a b.
    let short : c.if-self.result ≡ (c.args.self.short_ids && c.args.other.short_ids) = elim c.if-self.branch [
      | then-self w ↦ w.result-is ∙ sym (ap (λ b. b && c.args.other.short_ids) w.if-self.true)
      | else-self w ↦ w.result-is ∙ w.if-self.false ∙ sym (ap (λ b. b && c.args.other.short_ids) w.if-self.false)
    ] in
    (λ i. record {
      items = c.args.self.items + c.args.other.items;
      pdus = c.args.self.pdus + c.args.other.pdus;
      short_ids = short i;
      bits = c.args.self.bits + c.args.other.bits;
      bytes = c.args.self.bytes + c.args.other.bytes;
      weight = c.args.self.weight + c.args.other.weight;
      first_sender = c.min.ensures i;
      last_sender = c.max.ensures i;
      period_us = c.min-2.ensures i;
      deadline_us = c.min-3.ensures i;
      jitter_us = c.max-2.ensures i;
    })
    ∙ ap (λ s. joined s c.args.other) a ∙ ap (joined (sums_of problem items)) b ∙ sym (sums_of-append problem items more)
