use Rattle.std.proofs.Common.{◌-◌, refl, get_or, length, length-set, ap, subst, ◌∙◌, arith}
use Rattle.bandwidth_bound.specs.Floors.{IsRest}
use Rattle.bandwidth_bound.proofs.FloorsItems.{are_few}
use Rattle.bandwidth_bound.proofs.FloorsRests.{filled_more}
use Rattle.bandwidth_bound.proofs.floors.Floors.fill.Goals as goal

pub index_mut-requires : goal.index_mut-requires
index_mut-requires c =
    omega (
      arith,
      c.requires.room,
      c.requires.tables,
      are_few c.args.problem.now c.items_of-items.ensures.problem c.items_of-items.result.now
          (c.args.range, c.items_of-items.ensures.items),
    )

pub loop-place-init : goal.loop-place-init
loop-place-init c =
    let items = c.items_of-items.result.now in
    let room = are_few c.args.problem.now c.items_of-items.ensures.problem items
    (c.args.range, c.items_of-items.ensures.items) in
    let rest = c.none-rest.ensures c.args.problem.now c.args.values.now items
    c.items_of-items.ensures.problem (c.args.range, c.items_of-items.ensures.items) in
    record {
      room = refl;
      rest = rest;
      filled = filled_more c.args.problem.now c.args.values.now items c.args.self.now.rests.items (length items)
          c.none-rest.result (omega (arith, c.requires.room, c.requires.tables, room)) rest
          (λ placed d low high. absurd (omega (arith, low, high)));
    }

pub index_mut-requires-in-loop-place : goal.index_mut-requires-in-loop-place
index_mut-requires-in-loop-place c =
    omega (
      arith,
      c.requires.room,
      c.requires.tables,
      are_few c.args.problem.now c.items_of-items.ensures.problem c.items_of-items.result.now
          (c.args.range, c.items_of-items.ensures.items),
      c.loop-place.invariant.room,
      length-set c.args.self.now.rests.items (length c.items_of-items.result.now) c.none-rest.result,
    )

pub loop-place-preserved : goal.loop-place-preserved
loop-place-preserved c =
    let items = c.items_of-items.result.now in
    let room = are_few c.args.problem.now c.items_of-items.ensures.problem items
    (c.args.range, c.items_of-items.ensures.items) in
    record {
      room = length-set c.loop-place.self.rests.items (c.loop-place.place - 1) c.with_item-rest.result
          ∙ c.loop-place.invariant.room;
      rest = c.with_item-rest.ensures;
      filled = filled_more c.args.problem.now c.args.values.now items c.loop-place.self.rests.items
          (c.loop-place.place - 1) c.with_item-rest.result
          (omega (
            arith,
            c.requires.room,
            c.requires.tables,
            room,
            c.loop-place.invariant.room,
            length-set c.args.self.now.rests.items (length items) c.none-rest.result,
          ))
          c.with_item-rest.ensures
          (λ placed d low high. c.loop-place.invariant.filled placed d (omega (arith, low)) high);
    }

pub returns-clause-floors : goal.returns-clause-floors
returns-clause-floors c =
    let problem = c.args.problem.now in
    let items = c.items_of-items.result.now in
    let is = c.items_of-items.ensures.items in
    let room = are_few problem c.items_of-items.ensures.problem items (c.args.range, is) in
    record {
      within =
          omega (
            arith,
            ap length is,
            c.requires.room,
            c.requires.tables,
            room,
            c.loop-place.invariant.room,
            length-set c.args.self.now.rests.items (length items) c.none-rest.result,
          );
      each = λ placed d few.
          subst (λ zs. IsRest problem c.args.values.now zs placed
          (get_or c.loop-place.self.rests.items placed d)) is
          (c.loop-place.invariant.filled placed d (omega (arith, c.loop-place-test.false))
          (omega (arith, few, ap length is)));
    }
