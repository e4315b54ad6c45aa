use Rattle.std.proofs.Common.{◌<◌, length, map, sym, ap, ◌∙◌, arith, subst, sum_by, slice_index}
use Rattle.std.specs.List.{list_any, position_or_len}
use Rattle.std.specs.Str.{bytes_eq}
use Rattle.pack_model.specs.declared.signal.Signal.{Signal}
use Rattle.pack_model.proofs.Numbering.{few_senders, sender_there}
use Rattle.pack_model.proofs.OrderSteps.{item_at_is}
use Rattle.pack_model.proofs.items.item_at.Goals as goal

pub sender_number-requires-clause-few : goal.sender_number-requires-clause-few
sender_number-requires-clause-few c =
    omega (arith, ap length c.requires.senders, few_senders c.args.signals.now, c.requires.few)

pub sender_number-requires-clause-there : goal.sender_number-requires-clause-there
sender_number-requires-clause-there c =
    let inside : c.index.result.now < length c.args.signals.now =
    subst (λ n. n < length c.args.signals.now) (sym c.index.ensures)
    (c.requires.places.inside 0 c.index.result.now c.requires.places.some) in
    ap (list_any (bytes_eq c.index-signals-index.result.sender)) c.requires.senders
    ∙ sender_there c.args.signals.now c.index.result.now c.index-signals-index.result inside
    c.index-signals-index.is

pub returns : goal.returns
returns c =
    let inside : c.index.result.now < length c.args.signals.now =
    subst (λ n. n < length c.args.signals.now) (sym c.index.ensures)
    (c.requires.places.inside 0 c.index.result.now c.requires.places.some) in
    item_at_is c.args.signals.now c.args.places.items c.index.result.now c.index-signals-index.result
    c.sender_number.result c.of.result c.bits_at.result c.requires.places.some inside c.index.ensures
    c.index-signals-index.is (c.sender_number.ensures
    ∙ ap (position_or_len (bytes_eq c.index-signals-index.result.sender)) c.requires.senders) c.of.ensures
    (c.bits_at.ensures ∙ ap (sum_by (slice_index (map (λ (s : Signal). s.bits) c.args.signals.now)))
    c.as_slice.ensures.value)
