use Rattle.std.proofs.Common.{◌++◌, ◌∷◌, ◌∙◌, ap, codes, decimal, sym}
use Rattle.response_test.specs.declared.evidence.Evidence.TheVariants as evidence
use Rattle.cert_text.specs.declared.line.Line.TheVariants as line
use Rattle.cert_text.specs.Adding.{numbers_text}
use Rattle.cert_text.specs.Lines.{line_words}
use Rattle.cert_text.proofs.Adds.{adds-one, numbered, put-first, put-numbered}
use Rattle.cert_text.proofs.lines.put_long.Goals as goal

pub returns : goal.returns
unfolding line_words
returns c =
    let numbers = c.args.label ∷ c.args.busy.now in
    let label = c.in_ok-put_number.ensures.text ∙ ap (λ n. c.extend_from_slice.new.self.items ++ 32 ∷ decimal n) c.from.ensures in
    let added = put-first c.args.label c.args.busy.now c.extend_from_slice.new.self.items c.put_number.new.out.items c.put_numbers.new.out.items label c.in_ok-put_numbers.ensures.text in
    adds-one c.args.out.now.items c.push.new.self.items (codes "long" ++ numbers_text numbers) (line.AgainstLine c.args.label (evidence.Long c.args.busy.now))
    (put-numbered (codes "long") numbers c.args.out.now.items c.extend_from_slice.new.self.items c.put_numbers.new.out.items c.push.new.self.items c.in_ok-extend_from_slice.ensures.items added c.in_ok-push.ensures.items)
    (sym (numbered (codes "long") numbers)) c.in_ok-put_numbers.ensures.fits
