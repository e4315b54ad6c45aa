use Rattle.std.proofs.Common.{◌++◌, ◌∷◌, [], ◌∙◌, ap, codes, decimal, sym}
use Rattle.cert_text.specs.declared.line.Line.TheVariants as line
use Rattle.cert_text.specs.Adding.{numbers_text}
use Rattle.cert_text.specs.Lines.{line_words}
use Rattle.cert_text.proofs.Adds.{adds-one, numbered, put-first, put-numbered, put-only}
use Rattle.cert_text.proofs.lines.put_lemma_line.Goals as goal

pub returns : goal.returns
unfolding line_words
returns c =
    let numbers = c.args.sender ∷ c.args.value ∷ [] in
    let sender = c.in_ok-put_number.ensures.text ∙ ap (λ n. c.extend_from_slice.new.self.items ++ 32 ∷ decimal n) c.from.ensures in
    let added = put-first c.args.sender (c.args.value ∷ []) c.extend_from_slice.new.self.items c.put_number.new.out.items c.put_wide.new.out.items sender
    (put-only c.args.value c.put_number.new.out.items c.put_wide.new.out.items c.in_ok-put_wide.ensures.text) in
    adds-one c.args.out.now.items c.push.new.self.items (codes "lemma" ++ numbers_text numbers) (line.LemmaWords c.args.sender c.args.value)
    (put-numbered (codes "lemma") numbers c.args.out.now.items c.extend_from_slice.new.self.items c.put_wide.new.out.items c.push.new.self.items c.in_ok-extend_from_slice.ensures.items added c.in_ok-push.ensures.items)
    (sym (numbered (codes "lemma") numbers)) c.in_ok-put_wide.ensures.fits
