use Rattle.std.proofs.Common.{◌<◌, length, get_or, ap, arith}
use Rattle.pack_model.specs.declared.signal.Signal.{Signal}
use Rattle.pack_model.specs.Signal.{SignalStands}
use Rattle.pack_model.proofs.ItemSteps.{bits_more}
use Rattle.pack_model.proofs.items.bits_at.Goals as goal

pub loop-place-preserved : goal.loop-place-preserved
loop-place-preserved c =
    let place = get_or c.args.places.now c.loop-place.place-index 0 in
    let inside : get_or c.args.places.now c.loop-place.place-index 0 < length c.args.signals.now =
    c.requires.inside c.loop-place.place-index 0 c.loop-place-test.true in
    let stands : SignalStands (get_or c.args.signals.now place c.index-signals-place.result) =
    c.requires.signals place c.index-signals-place.result inside in
    let more =
    bits_more c.args.signals.now c.args.places.now c.loop-place.place-index c.index-signals-place.result
    c.loop-place-test.true inside c.index-signals-place.is in
    let few = stands.bits_high in
    let sum = c.loop-place.invariant.sum in
    let same = ap (λ (s : Signal). s.bits) c.index-signals-place.is in
    let low = c.loop-place.invariant.low in
    record { sum = omega arith; low = omega arith }
