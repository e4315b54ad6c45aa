use Rattle.std.proofs.Common.{◌++◌, ◌∷◌, ◌∙◌, ap, codes, decimal, sym}
use Rattle.response_test.specs.declared.evidence.Evidence.TheVariants as evidence
use Rattle.cert_text.specs.declared.line.Line.TheVariants as line
use Rattle.cert_text.specs.Adding.{numbers_text}
use Rattle.cert_text.specs.Lines.{line_words}
use Rattle.cert_text.proofs.Adds.{adds-one, put-first, put-slashed, slashed}
use Rattle.cert_text.proofs.lines.put_late.Goals as goal

pub returns : goal.returns
unfolding line_words
returns c =
    let busy = c.args.busy.now in
    let numbers = c.args.label ∷ c.args.q ∷ busy in
    let label = c.in_ok-put_number.ensures.text ∙ ap (λ n. c.extend_from_slice.new.self.items ++ 32 ∷ decimal n) c.from.ensures in
    let later = put-first c.args.q busy c.put_number.new.out.items c.put_number-2.new.out.items c.put_numbers.new.out.items c.in_ok-put_number-2.ensures.text c.in_ok-put_numbers.ensures.text in
    let added = put-first c.args.label (c.args.q ∷ busy) c.extend_from_slice.new.self.items c.put_number.new.out.items c.put_numbers.new.out.items label later in
    adds-one c.args.out.now.items c.push.new.self.items (codes "late" ++ (numbers_text numbers ++ (codes " /" ++ numbers_text c.args.queue.now))) (line.AgainstLine c.args.label (evidence.Late c.args.q busy c.args.queue.now))
    (put-slashed (codes "late") numbers c.args.queue.now c.args.out.now.items c.extend_from_slice.new.self.items c.put_numbers.new.out.items c.extend_from_slice-2.new.self.items c.put_numbers-2.new.out.items c.push.new.self.items
    c.in_ok-extend_from_slice.ensures.items added c.in_ok-extend_from_slice-2.ensures.items c.in_ok-put_numbers-2.ensures.text c.in_ok-push.ensures.items)
    (sym (slashed (codes "late") numbers c.args.queue.now)) (c.in_ok-put_number-2.ensures.fits, c.in_ok-put_numbers.ensures.fits, c.in_ok-put_numbers-2.ensures.fits)
