use Rattle.std.proofs.Common.{ap, ◌∙◌, sym, arith, ◌++◌, ◌∷◌, [], take, append-nil}
use Rattle.std.proofs.lemmas.Grind.{flat_map-append}
use Rattle.pack_model.specs.declared.item.Item.{Item}
use Rattle.matrix_layout.specs.ClassItems.{items_at, places_of_items}
use Rattle.matrix_layout.proofs.Picked.{pick-more}
use Rattle.matrix_layout.proofs.class_items.places_at.Goals as goal

pub loop-number-preserved : goal.loop-number-preserved
loop-number-preserved c =
    c.in_ok-extend_from_slice.ensures.items
    ∙ ap (λ ps. c.loop-number.places.items ++ ps) c.as_slice.ensures
    ∙ ap (λ ps. ps ++ c.index-items-number.result.members) c.loop-number.invariant
    ∙ sym (ap places_of_items
    (pick-more c.args.items.now c.args.numbers.now c.loop-number.number-index c.index-items-number.result
    (omega arith) (c.requires c.loop-number.number-index 0 (omega arith)) c.index-items-number.is)
    ∙ flat_map-append (λ (item : Item). item.members)
    (items_at c.args.items.now (take c.loop-number.number-index c.args.numbers.now))
    (c.index-items-number.result ∷ [])
    ∙ ap (λ ps. places_of_items
    (items_at c.args.items.now (take c.loop-number.number-index c.args.numbers.now)) ++ ps)
    (append-nil c.index-items-number.result.members))
