use Rattle.std.proofs.Common.{◌≡◌, [], ◌∷◌, ◌++◌, ◌-◌, sym, ap, ◌∙◌, arith}
use Rattle.std.proofs.lemmas.List.{append-nil, append_assoc}
use Rattle.frame_ticks.specs.Bits.{number_bits}
use Rattle.frame_ticks.proofs.BitLaws.{number_bits-zero, number_bits-down}
use Rattle.frame_ticks.proofs.bits.push_number.Goals as goal

pub loop-place-preserved : goal.loop-place-preserved
loop-place-preserved c =
    let items = c.loop-place.bits.items in
    let below = number_bits (c.loop-place.place - 1) c.args.number in
    ap (λ bits. bits ++ below)
    (c.in_ok-push.ensures.items ∙ ap (λ bit. items ++ bit ∷ []) c.is_bit_set.ensures)
    ∙ append_assoc items (_ ∷ []) below
    ∙ ap (λ bits. items ++ bits)
    (sym (number_bits-down c.loop-place.place c.args.number c.loop-place-test.true))
    ∙ c.loop-place.invariant

pub returns : goal.returns
returns c =
    let last : c.loop-place.place ≡ 0 = omega arith in
    sym (append-nil c.loop-place.bits.items)
    ∙ ap (λ bits. c.loop-place.bits.items ++ bits) (sym (number_bits-zero c.args.number))
    ∙ ap (λ place. c.loop-place.bits.items ++ number_bits place c.args.number) (sym last)
    ∙ c.loop-place.invariant
