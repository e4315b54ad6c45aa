use Rattle.std.proofs.Common.{◌≡◌, Bool, true, false, cond, is_some, slice_get, ap, sym, refl, ◌∙◌, arith}
use Rattle.std.specs.List.{filter_map}
use mir.Val.{bool_byte}
use Rattle.class_frame.specs.Sums.{times_of}
use Rattle.class_frame.proofs.Joining.{sums_of-one}
use Rattle.class_frame.proofs.sums.Sums.of.Goals as goal

byte_of : (b : Bool) → bool_byte b ≡ cond b 1 0
byte_of true = refl
byte_of false = refl

pub returns : goal.returns
returns c =
    let times : c.of-times.result ≡ times_of (filter_map (slice_get c.args.problem.now.signals) c.args.item.now.members) =
    c.of-times.ensures ∙ (λ j. times_of (filter_map (slice_get (c.signals.ensures.signals j)) (c.as_slice.ensures j))) in
    (λ i. record {
      items = 1;
      pdus = (c.from.ensures ∙ ap bool_byte c.is_some.ensures ∙ byte_of (is_some c.args.item.now.pdu)) i;
      short_ids = c.has_short_id.ensures i;
      bits = c.args.item.now.bits;
      bytes = c.div_ceil.ensures i;
      weight = c.weight_of.ensures i;
      first_sender = c.sender_of-sender.ensures i;
      last_sender = c.sender_of-sender.ensures i;
      period_us = (times i).period_us;
      deadline_us = (times i).deadline_us;
      jitter_us = (times i).jitter_us;
    })
    ∙ sym (sums_of-one c.args.problem.now c.args.item.now (omega (arith, c.sender_of-sender.type_inv, c.sender_of-sender.ensures)))
