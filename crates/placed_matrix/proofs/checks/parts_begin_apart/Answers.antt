use Rattle.std.proofs.Common.{◌<◌, AllPairs, length, get_or, take, get_or-take, length-take, slice_index, arith, refl, subst, sym, ◌∙◌}
use Rattle.std.proofs.lemmas.Bool.{false≢true}
use Rattle.std.proofs.lemmas.List.{get_or_default}
use Rattle.pack_model.proofs.Laws.{tests}
use Rattle.placed_matrix.specs.Placed.{BeginApart}
use Rattle.placed_matrix.specs.Tables.{FirstFound}
use Rattle.placed_matrix.proofs.FramesFound.{first_found}
use Rattle.placed_matrix.proofs.MemberRows.{ItemsApart, first_of, apart_to, apart_from}
use Rattle.placed_matrix.proofs.Together.{with_earlier, related_more}
use Rattle.placed_matrix.proofs.checks.parts_begin_apart.Goals as goal

pub first_row-first-requires-clause-member : goal.first_row-first-requires-clause-member
first_row-first-requires-clause-member c =
    first_found c.args.problem.now c.items-items.ensures.sorted c.args.rows.now c.args.row_of.now
    c.requires.rows c.items-items.result.now c.items-items.ensures.items c.loop-number.number
    c.index-items-number.result c.loop-number-test.true c.index-items-number.is
    (tests c.args.problem.now c.items-items.ensures.problem).few

pub begins_apart_from-requires-clause-members : goal.begins_apart_from-requires-clause-members
begins_apart_from-requires-clause-members c = λ k d inside.
    let few : k < c.loop-number.number = omega (arith, simp length-take at inside) in
    let lt : k < length c.items-items.result.now = omega (arith, few, c.loop-number-test.true) in
    subst (FirstFound c.args.rows.now c.args.row_of.now)
    (sym (get_or-take c.loop-number.number c.items-items.result.now k d few))
    (first_found c.args.problem.now c.items-items.ensures.sorted c.args.rows.now c.args.row_of.now
    c.requires.rows c.items-items.result.now c.items-items.ensures.items k
    (get_or c.items-items.result.now k d) lt
    (get_or_default c.items-items.result.now k d (get_or c.items-items.result.now k d) lt)
    (tests c.args.problem.now c.items-items.ensures.problem).few)

pub returns-then-not-begins_apart_from : goal.returns-then-not-begins_apart_from
returns-then-not-begins_apart_from c = (
  λ t. absurd (false≢true t),
  λ apart.
      let each : AllPairs (ItemsApart c.args.rows.now c.args.row_of.now) c.items-items.result.now =
      subst (AllPairs (ItemsApart c.args.rows.now c.args.row_of.now)) (sym c.items-items.ensures.items)
      (apart_to c.args.problem.now c.items-items.ensures.problem c.items-items.ensures.sorted c.args.rows.now
      c.requires.one c.args.row_of.now c.requires.rows c.requires.frames apart) in
      let earlier =
      with_earlier (ItemsApart c.args.rows.now c.args.row_of.now) c.items-items.result.now
      c.loop-number.number c.index-items-number.result c.loop-number-test.true c.index-items-number.is
      each in
      sym c.if-not-begins_apart_from.true
      ∙ c.begins_apart_from.ensures.1
      (λ k x inside d. subst (BeginApart
      (first_of c.args.rows.now c.args.row_of.now
      (get_or (take c.loop-number.number c.items-items.result.now) k x) d))
      (sym c.first_row-first.ensures.row)
      (earlier k x inside d c.first_row-first.result.now)),
)

pub loop-number-preserved : goal.loop-number-preserved
loop-number-preserved c =
    let found =
    first_found c.args.problem.now c.items-items.ensures.sorted c.args.rows.now c.args.row_of.now
    c.requires.rows c.items-items.result.now c.items-items.ensures.items c.loop-number.number
    c.index-items-number.result c.loop-number-test.true c.index-items-number.is
    (tests c.args.problem.now c.items-items.ensures.problem).few in
    related_more (ItemsApart c.args.rows.now c.args.row_of.now) c.items-items.result.now c.loop-number.number
    c.index-items-number.result c.loop-number-test.true c.index-items-number.is c.loop-number.invariant
    (λ k x inside d e. subst (BeginApart
    (first_of c.args.rows.now c.args.row_of.now
    (get_or (take c.loop-number.number c.items-items.result.now) k x) d))
    (c.first_row-first.ensures.row
    ∙ get_or_default c.args.rows.now
    (slice_index c.args.row_of.now (slice_index c.index-items-number.result.members 0))
    c.first_row-first.result.now e found.within)
    (c.begins_apart_from.ensures.0 c.if-not-begins_apart_from.false k x inside d))

pub returns : goal.returns
returns c = (
  λ _. apart_from c.args.problem.now c.items-items.ensures.problem c.items-items.ensures.sorted
      c.args.rows.now c.requires.one c.args.row_of.now c.requires.rows c.requires.frames c.requires.parts
      (subst (AllPairs (ItemsApart c.args.rows.now c.args.row_of.now)) c.items-items.ensures.items
      (λ i j d before within. c.loop-number.invariant i j d before
      (omega (arith, within, c.loop-number-test.false)))),
  λ _. refl,
)
