use Rattle.std.proofs.Common.{ap, sym, ◌∙◌, refl, arith, if◌then◌else◌}
use Rattle.container_pdu.specs.Bytes.{header_bytes}
use Rattle.container_pdu.specs.declared.header.Header.TheVariants.{Short, Long}
use Rattle.class_frame.specs.Sums.{sums_of}
use Rattle.class_frame.proofs.Headers.{header_some}
use Rattle.grouping_tree.specs.declared.class.Fill.{Fill}
use Rattle.grouping_tree.proofs.class.Fill.header_bytes.Goals as goal

pub returns-then-self-clause-value : goal.returns-then-self-clause-value
returns-then-self-clause-value c = λ problem items is.
    sym (ap (λ b. header_bytes (if b then Short else Long)) c.if-self.true)
    ∙ ap (λ (f : Fill). header_bytes (if f.short_ids then Short else Long)) is
    ∙ ap header_bytes (header_some problem items (sums_of problem items) refl
    (omega (arith, c.if-self-lt2.false, ap (λ (f : Fill). f.pdus) is)))

pub returns-else-self-clause-value : goal.returns-else-self-clause-value
returns-else-self-clause-value c = λ problem items is.
    sym (ap (λ b. header_bytes (if b then Short else Long)) c.if-self.false)
    ∙ ap (λ (f : Fill). header_bytes (if f.short_ids then Short else Long)) is
    ∙ ap header_bytes (header_some problem items (sums_of problem items) refl
    (omega (arith, c.if-self-lt2.false, ap (λ (f : Fill). f.pdus) is)))
