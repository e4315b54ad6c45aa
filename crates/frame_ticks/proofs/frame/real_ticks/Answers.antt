use Rattle.std.proofs.Common.{◌≡◌, arith}
use Rattle.frame_ticks.specs.Bits.{bits_of, nominal_bits_of, data_bits_of}
use Rattle.frame_ticks.specs.Ticks.{ticks_of}
use Rattle.frame_ticks.proofs.BitLaws.{nominal_bits_of-written, to_brs-bits_of, after_brs-bits_of, size_of_bits-bits_of}
use Rattle.frame_ticks.proofs.BoundLaws.{ticks_of-at_most}
use Rattle.frame_ticks.proofs.FrameLaws.{ticks_of-sent}
use Rattle.frame_ticks.proofs.RelationLaws.{Lasts-from_value}
use Rattle.frame_ticks.proofs.Sending.{Sends-append}
use Rattle.frame_ticks.proofs.frame.real_ticks.Goals as goal

pub returns : goal.returns
returns c =
    let network = c.args.network.now in
    let id = c.args.id in
    let esi = c.args.esi in
    let payload = c.args.payload.now in
    let written =
    Sends-append _ _ _ _ _ (Sends-append _ _ _ _ _ c.send.ensures.sends c.send_number.ensures.sends)
    c.send_all.ensures.sends in
    let front = rw (nominal_bits_of-written id) at written in
    let dlc = rw (c.from.ensures, c.dlc_of.ensures.value) at c.send_number-2.ensures.sends in
    let rest =
    Sends-append _ _ _ _ _ (Sends-append _ _ _ _ _ c.send-2.ensures.sends dlc)
    c.send_payload.ensures.sends in
    let value : c.ticks.result ≡ ticks_of network (bits_of id esi payload) =
    ticks_of-sent network (bits_of id esi payload) (nominal_bits_of id)
    (data_bits_of esi payload) _ _ _ c.ticks.result _ c.idle-line.ensures.run c.idle-line.ensures.sent
    front rest
    (to_brs-bits_of id esi payload) (after_brs-bits_of id esi payload)
    (size_of_bits-bits_of id esi payload) c.ticks.ensures in
    record {
      value = value;
      lasts = Lasts-from_value network (bits_of id esi payload) c.ticks.result value;
      at_most = omega (arith, value, ticks_of-at_most network id esi payload);
    }
