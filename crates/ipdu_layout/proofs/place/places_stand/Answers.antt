use Rattle.std.proofs.Common.{arith}
use Rattle.ipdu_layout.proofs.Places.{PlacesStand-from_parts}
use Rattle.ipdu_layout.proofs.place.places_stand.Goals as goal

pub returns-then-positions : goal.returns-then-positions
returns-then-positions c =
    let inside = c.lie_inside.ensures.0 c.if-not-lie_inside.false in (
      λ t. PlacesStand-from_parts c.args.places.now c.args.bytes _ (omega arith) inside
          (c.stand_by_marks.ensures.0 t),
      λ stand. c.stand_by_marks.ensures.1 stand.apart,
    )

pub returns-else-positions : goal.returns-else-positions
returns-else-positions c =
    let inside = c.lie_inside.ensures.0 c.if-not-lie_inside.false in (
      λ t. PlacesStand-from_parts c.args.places.now c.args.bytes _ (omega arith) inside
          (c.stand_by_pairs.ensures.0 t),
      λ stand. c.stand_by_pairs.ensures.1 stand.apart,
    )
