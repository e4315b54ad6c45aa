use Rattle.std.proofs.Common.{All, length, get_or, arith, ap, refl, subst, sym, ◌∙◌}
use Rattle.std.proofs.lemmas.Bool.{false≢true}
use Rattle.pack_model.proofs.Laws.{tests}
use Rattle.placed_matrix.specs.Tables.{AllFound, AtOnePlace, RowsOf}
use Rattle.placed_matrix.proofs.FramesFound.{first_found}
use Rattle.placed_matrix.proofs.MemberRows.{ItemTogether, members_found, together_to, parts_from}
use Rattle.placed_matrix.proofs.checks.pdus_agree.Goals as goal

pub first_row-first-requires-clause-member : goal.first_row-first-requires-clause-member
first_row-first-requires-clause-member c =
    first_found c.args.problem.now c.items-items.ensures.sorted c.args.rows.now c.args.row_of.now
    c.requires.rows c.items-items.result.now c.items-items.ensures.items c.loop-item.item-index
    c.item-item.result c.loop-item-test.true c.item-item.is
    (tests c.args.problem.now c.items-items.ensures.problem).few

pub stand_with-requires : goal.stand_with-requires
stand_with-requires c =
    subst (AllFound c.args.rows.now c.args.row_of.now) (sym c.as_slice.ensures)
    (members_found c.args.problem.now c.items-items.ensures.problem c.items-items.ensures.sorted
    c.args.rows.now c.requires.one c.args.row_of.now c.requires.rows c.loop-item.item-index
    c.item-item.result
    (omega (arith, c.loop-item-test.true, ap length c.items-items.ensures.items))
    (c.item-item.is ∙ ap (λ items. get_or items c.loop-item.item-index c.item-item.result)
    c.items-items.ensures.items)
    (tests c.args.problem.now c.items-items.ensures.problem).few)

pub returns-then-not-stand_with : goal.returns-then-not-stand_with
returns-then-not-stand_with c = (
  λ t. absurd (false≢true t),
  λ parts.
      let together : ItemTogether c.args.rows.now c.args.row_of.now c.item-item.result =
      together_to c.args.problem.now c.items-items.ensures.problem c.items-items.ensures.sorted
      c.args.rows.now c.requires.one c.args.row_of.now c.requires.rows c.loop-item.item-index
      c.item-item.result
      (omega (arith, c.loop-item-test.true, ap length c.items-items.ensures.items))
      (c.item-item.is ∙ ap (λ items. get_or items c.loop-item.item-index c.item-item.result)
      c.items-items.ensures.items) parts in
      sym c.if-not-stand_with.true
      ∙ c.stand_with.ensures.1 (subst (RowsOf
      (λ row. AtOnePlace row c.first_row-first.result.now) c.args.rows.now c.args.row_of.now)
      (sym c.as_slice.ensures)
      (subst (λ r. RowsOf (λ row. AtOnePlace row r) c.args.rows.now c.args.row_of.now
      c.item-item.result.members) (sym c.first_row-first.ensures.row)
      (together c.first_row-first.result.now))),
)

pub returns : goal.returns
returns c = (
  λ _. parts_from c.args.problem.now c.items-items.ensures.problem c.items-items.ensures.sorted
      c.args.rows.now c.requires.one c.args.row_of.now c.requires.rows
      (subst (All (ItemTogether c.args.rows.now c.args.row_of.now)) c.items-items.ensures.items
      (λ k d lt. c.loop-item.invariant k d (omega (arith, lt, c.loop-item-test.false)))),
  λ _. refl,
)
