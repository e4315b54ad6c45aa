use Rattle.std.proofs.Common.{sym, ◌∙◌}
use Rattle.std.proofs.lemmas.Bool.{false≢true}
use Rattle.placed_matrix.proofs.checks.parts_agree.Goals as goal

pub returns-then-pdus_agree : goal.returns-then-pdus_agree
returns-then-pdus_agree c = (
  λ t i j d before within. record {
    part = c.pdus_agree.ensures.0 c.if-pdus_agree.true i j d before within;
    apart = c.parts_begin_apart.ensures.0 t i j d before within;
  },
  λ all. c.parts_begin_apart.ensures.1 (λ i j d before within. (all i j d before within).apart),
)

pub returns-else-pdus_agree : goal.returns-else-pdus_agree
returns-else-pdus_agree c = (
  λ t. absurd (false≢true (sym c.if-pdus_agree.false ∙ t)),
  λ all. c.pdus_agree.ensures.1 (λ i j d before within. (all i j d before within).part),
)
