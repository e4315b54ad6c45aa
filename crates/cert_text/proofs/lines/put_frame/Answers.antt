use Rattle.std.proofs.Common.{◌++◌, ◌∷◌, ◌∙◌, ap, codes, subst, sym}
use Rattle.cert_text.specs.declared.line.Line.TheVariants as line
use Rattle.cert_text.specs.Adding.{numbers_text}
use Rattle.cert_text.specs.Lines.{AreNumbers, line_words}
use Rattle.cert_text.proofs.Adds.{adds-one, numbered, put-first, put-numbered}
use Rattle.cert_text.proofs.lines.put_frame.Goals as goal

pub returns : goal.returns
unfolding line_words
returns c =
    let frame = c.args.frame.now in
    let numbers = frame.busy ∷ frame.queue in
    let queue = c.in_ok-put_numbers.ensures.text ∙ ap (λ ns. c.put_number.new.out.items ++ numbers_text ns) c.as_slice.ensures in
    let added = put-first frame.busy frame.queue c.extend_from_slice.new.self.items c.put_number.new.out.items c.put_numbers.new.out.items c.in_ok-put_number.ensures.text queue in
    adds-one c.args.out.now.items c.push.new.self.items (codes "frame" ++ numbers_text numbers) (line.FrameWords frame)
    (put-numbered (codes "frame") numbers c.args.out.now.items c.extend_from_slice.new.self.items c.put_numbers.new.out.items c.push.new.self.items c.in_ok-extend_from_slice.ensures.items added c.in_ok-push.ensures.items)
    (sym (numbered (codes "frame") numbers)) (c.in_ok-put_number.ensures.fits, subst AreNumbers c.as_slice.ensures c.in_ok-put_numbers.ensures.fits)
