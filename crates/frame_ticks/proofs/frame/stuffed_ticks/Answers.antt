use Rattle.std.proofs.Common.{◌≡◌, take, drop, refl, arith}
use Rattle.frame_ticks.specs.Ticks.{ticks_of}
use Rattle.frame_ticks.proofs.FrameLaws.{length-frame, length-frame_payload, ticks_of-frame, ticks_of-sent}
use Rattle.frame_ticks.proofs.RelationLaws.{Lasts-from_value}
use Rattle.frame_ticks.proofs.frame.stuffed_ticks.Goals as goal

pub split_at-requires : goal.split_at-requires
split_at-requires c = omega (arith, length-frame c.args.bits.now c.requires)

pub overflow_sub-size : goal.overflow_sub-size
overflow_sub-size c = omega (arith, length-frame c.args.bits.now c.requires)

pub ticks-requires : goal.ticks-requires
ticks-requires c =
    let long = length-frame c.args.bits.now c.requires in
    let few = length-frame_payload c.args.bits.now c.requires in
    record { few_nominal = omega arith; few_others = omega arith }

pub returns : goal.returns
returns c =
    let network = c.args.network.now in
    let bits = c.args.bits.now in
    let front = rw c.split_at.ensures.front at c.send_all.ensures.sends in
    let rest = rw c.split_at.ensures.back at c.send_all-2.ensures.sends in
    let value : c.ticks.result ≡ ticks_of network bits =
    ticks_of-sent network bits (take 17 bits)
    (drop 17 bits) _ _ _ c.ticks.result _ c.idle-line.ensures.run c.idle-line.ensures.sent front rest
    refl refl refl c.ticks.ensures in
    record {
      value = value;
      lasts = Lasts-from_value network bits c.ticks.result value;
      at_most = omega (arith, value, ticks_of-frame network bits c.requires);
    }
