use Rattle.std.proofs.Common.{◌≡◌, ◌⊎◌, ◌∙◌, ◌∷◌, ◌<◌, [], ℕ, List, length, Some, None, Bool, true, false, ap, sym, refl, arith, inl, inr}
use Rattle.std.specs.Prelude.{IsTrue}
use Rattle.cert_text.specs.declared.symbol.Symbol.{Symbol}
use Rattle.cert_text.specs.CertText.{bad_line, cut, ended_lines}
use Rattle.cert_text.specs.Words.{line_of}
use Rattle.cert_text.specs.Grammar.{after}
use Rattle.cert_text.specs.Making.{cert_made, made}
use Rattle.cert_text.specs.Heard.{collect, heard_by}
use Rattle.cert_text.specs.Reading.{at_end, lines_said, value_of}
use Rattle.cert_text.specs.MadeBy.{made_by}
use Rattle.cert_text.proofs.OfText.{made_parts, of_text-refused, of_text-whole}
use Rattle.cert_text.proofs.Steps.{made_all, made_step, no_line, no_more, no_step, step}
use Rattle.cert_text.proofs.reading.read_lines.Goals as goal

-- a test that is false, and one way or the other
refused : (b : Bool) (P : Type 0) → b ≡ false → IsTrue b ⊎ P → P
refused b P e (inl t) = absurd (let h : true ≡ false = sym t ∙ e in cc)
refused b P e (inr p) = p

end_cut : (n : ℕ) (ss : List Symbol) (text : List ℕ) → (ss ≡ [] → ⊥) → at_end n ss text ≡ Some cut
end_cut n [] text some = absurd (some refl)
end_cut n (s ∷ ss) text some = refl

end_bad : (n : ℕ) (ss : List Symbol) (text : List ℕ) → ss ≡ [] → 0 < length text → at_end n ss text ≡ Some (bad_line n)
end_bad n ss [] e some = absurd (omega arith)
end_bad n ss (b ∷ text) e some = ap (λ x. at_end n x (b ∷ text)) e

end_none : (n : ℕ) (ss : List Symbol) (text : List ℕ) → ss ≡ [] → length text ≡ 0 → at_end n ss text ≡ None
end_none n ss [] e none = ap (λ x. at_end n x []) e
end_none n ss (b ∷ text) e none = absurd (omega arith)

-- a line that says nothing is bad
pub returns-in_default-2 : goal.returns-in_default-2
returns-in_default-2 c =
    of_text-refused c.args.bytes.now (bad_line c.loop-line.number)
    (sym c.loop-line.invariant.text
    ∙ no_line c.loop-line.number c.loop-line.position c.loop-line.left.now c.in-Some.line.now c.in-Some.after.now c.in-Some.ensures.parts (sym c.in_default-2.is ∙ c.in_ok-line.ensures))

pub returns-then-not-stands : goal.returns-then-not-stands
returns-then-not-stands c =
    of_text-refused c.args.bytes.now (bad_line c.loop-line.number)
    (sym c.loop-line.invariant.text
    ∙ no_step c.loop-line.number c.loop-line.position c.loop-line.left.now c.in-Some.line.now c.in-Some.after.now c.in-Some-2.line c.in-Some.ensures.parts (sym c.in-Some-2.is ∙ c.in_ok-line.ensures)
    (refused c.in_ok-stands.stands (after c.loop-line.position c.in-Some-2.line ≡ None) c.if-not-stands.true c.in_ok-stands.ensures.refused))

pub loop-line-preserved : goal.loop-line-preserved
loop-line-preserved c =
    let said : Some c.in-Some-2.line ≡ line_of c.in-Some.line.now = sym c.in-Some-2.is ∙ c.in_ok-line.ensures in
    record {
      text = sym (step c.loop-line.number c.loop-line.position c.take.new.self c.loop-line.left.now c.in-Some.line.now c.in-Some.after.now c.in-Some-2.line c.in-Some.ensures.parts said (c.in_ok-stands.ensures.taken c.if-not-stands.false)) ∙ c.loop-line.invariant.text;
      value =
          ap (λ m. made m (collect (heard_by c.in_ok-heard.heard) (lines_said (ended_lines c.in-Some.after.now)))) c.in_ok-take_if.ensures
          ∙ sym
          (made_step (made_by c.loop-line.builder) (heard_by c.loop-line.hearing) (heard_by c.in_ok-heard.heard) c.in_ok-heard.event c.loop-line.left.now c.in-Some.line.now c.in-Some.after.now c.in-Some-2.line
          c.in-Some.ensures.parts said c.in_ok-heard.ensures)
          ∙ c.loop-line.invariant.value;
      fits = omega (arith, c.loop-line.invariant.fits, c.in-Some.ensures.shorter);
    }

pub returns-then-not-ended : goal.returns-then-not-ended
returns-then-not-ended c =
    of_text-refused c.args.bytes.now cut
    (sym c.loop-line.invariant.text ∙ no_more c.loop-line.number c.loop-line.position c.loop-line.left.now c.in_default.ensures.parts
    ∙ end_cut c.loop-line.number c.loop-line.position c.loop-line.left.now (λ none. let h : true ≡ false = sym (c.ended.ensures.1 none) ∙ c.if-not-ended.true in cc))

pub returns-then-not-is_empty : goal.returns-then-not-is_empty
returns-then-not-is_empty c =
    of_text-refused c.args.bytes.now (bad_line c.loop-line.number)
    (sym c.loop-line.invariant.text ∙ no_more c.loop-line.number c.loop-line.position c.loop-line.left.now c.in_default.ensures.parts
    ∙ end_bad c.loop-line.number c.loop-line.position c.loop-line.left.now (c.ended.ensures.0 c.if-not-ended.false) (grind (arith, c.is_empty.ensures, c.if-not-is_empty.ensures, c.if-not-is_empty.true)))

pub into_cert-requires : goal.into_cert-requires
unfolding value_of
into_cert-requires c =
    made_parts c.args.bytes.now (cert_made (made_by c.loop-line.builder))
    (sym c.loop-line.invariant.text ∙ no_more c.loop-line.number c.loop-line.position c.loop-line.left.now c.in_default.ensures.parts
    ∙ end_none c.loop-line.number c.loop-line.position c.loop-line.left.now (c.ended.ensures.0 c.if-not-ended.false) (grind (arith, c.is_empty.ensures, c.if-not-is_empty.ensures, c.if-not-is_empty.false)))
    (ap cert_made (sym c.loop-line.invariant.value ∙ made_all (made_by c.loop-line.builder) (heard_by c.loop-line.hearing) c.loop-line.left.now c.in_default.ensures.parts))

pub returns : goal.returns
unfolding value_of
returns c =
    of_text-whole c.args.bytes.now c.into_cert.result
    (sym c.loop-line.invariant.text ∙ no_more c.loop-line.number c.loop-line.position c.loop-line.left.now c.in_default.ensures.parts
    ∙ end_none c.loop-line.number c.loop-line.position c.loop-line.left.now (c.ended.ensures.0 c.if-not-ended.false) (grind (arith, c.is_empty.ensures, c.if-not-is_empty.ensures, c.if-not-is_empty.false)))
    (ap cert_made (sym c.loop-line.invariant.value ∙ made_all (made_by c.loop-line.builder) (heard_by c.loop-line.hearing) c.loop-line.left.now c.in_default.ensures.parts) ∙ sym c.into_cert.ensures)
