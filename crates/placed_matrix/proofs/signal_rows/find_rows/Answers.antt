use Rattle.std.proofs.Common.{◌≡◌, ◌<◌, Any, length, arith, inl, refl, get_or, ap, sym, ◌∙◌, take, get_or-take, length-take}
use Rattle.std.proofs.lemmas.Bool.{false≢true}
use Rattle.std.proofs.lemmas.List.{get_or-replicate, length-set}
use Rattle.pack_model.proofs.Laws.{tests}
use Rattle.placed_matrix.specs.Placed.{RowOf}
use Rattle.placed_matrix.specs.Tables.{no_row}
use Rattle.placed_matrix.proofs.FirstRows.{below_row}
use Rattle.placed_matrix.proofs.RowsFound.{no_place, with_row, repeated, wrong_row, row_of_signal, all_found, not_all_found}
use Rattle.placed_matrix.proofs.signal_rows.find_rows.Goals as goal
use Rattle.placed_matrix.proofs.signal_rows.find_rows.Goals.{then-row_of-place-via-then-row_of-place, then-row_of-place-via-else-row_of-place+then-not-is_row_of}

pub loop-number-init : goal.loop-number-init
loop-number-init c = record {
  long = refl;
  seen =
      λ p lt. inl (
        get_or-replicate 2048 p no_row 0
            (omega (arith, lt, (tests c.args.problem.now c.signals-signals.ensures.problem).few)),
        λ k d before. absurd (omega arith),
      );
  others = λ k d before. absurd (omega arith);
}

pub returns-in_err-place : goal.returns-in_err-place
returns-in_err-place c =
    rw c.from_residual.ensures
    (λ one. no_place c.args.problem.now.signals c.args.rows.now c.loop-number.number
    c.index-rows-number.result c.loop-number-test.true c.index-rows-number.is
    (sym c.in_err-place.ensures.place) one)

pub returns-then-row_of-place : goal.returns-then-row_of-place
returns-then-row_of-place c = λ one. elim c.then-row_of-place.branch [
  | then-row_of-place-via-then-row_of-place w ↦
      repeated c.args.problem.now c.signals-signals.ensures.problem c.args.rows.now c.loop-number.number
      c.index-rows-number.result c.loop-number-test.true c.index-rows-number.is c.in_ok-place.place
      (sym c.in_ok-place.ensures.place)
      c.loop-number.row_of w.if-row_of-place.true c.loop-number.invariant.seen one
  | then-row_of-place-via-else-row_of-place+then-not-is_row_of w ↦
      wrong_row c.args.problem.now c.signals-signals.ensures.problem c.args.rows.now c.loop-number.number
      c.index-rows-number.result c.loop-number-test.true c.index-rows-number.is c.in_ok-place.place
      (sym c.in_ok-place.ensures.place)
      w.index-signals-place.result
      (w.index-signals-place.is
      ∙ ap (λ s. get_or s c.in_ok-place.place w.index-signals-place.result)
      c.signals-signals.ensures.signals) (λ of. false≢true (w.if-not-is_row_of.ensures.1 of)) one
]

pub loop-number-preserved : goal.loop-number-preserved
loop-number-preserved c = record {
  long = length-set _ _ _ ∙ c.loop-number.invariant.long;
  seen =
      with_row c.args.problem.now c.signals-signals.ensures.problem c.args.rows.now c.loop-number.number
      c.index-rows-number.result c.loop-number-test.true c.index-rows-number.is c.in_ok-place.place
      (sym c.in_ok-place.ensures.place)
      c.loop-number.row_of c.loop-number.invariant.long
      (omega arith) c.if-row_of-place.false c.loop-number.invariant.seen;
  others =
      below_row c.args.rows.now c.loop-number.number c.index-rows-number.result
      (λ r. Any (λ s. RowOf s r) c.args.problem.now.signals) c.loop-number-test.true c.index-rows-number.is
      c.loop-number.invariant.others
      (row_of_signal c.args.problem.now c.signals-signals.ensures.problem c.args.rows.now c.loop-number.number
      c.index-rows-number.result c.loop-number-test.true c.index-rows-number.is c.in_ok-place.place
      (sym c.in_ok-place.ensures.place)
      c.index-signals-place.result
      (c.index-signals-place.is
      ∙ ap (λ s. get_or s c.in_ok-place.place c.index-signals-place.result)
      c.signals-signals.ensures.signals) (c.is_row_of.ensures.0 c.if-not-is_row_of.false));
}

pub returns-then-are_found : goal.returns-then-are_found
returns-then-are_found c =
    all_found c.args.problem.now.signals c.args.rows.now c.loop-number.number c.loop-number.row_of
    (omega arith) (omega arith) c.loop-number.invariant.seen c.loop-number.invariant.others
    (λ p lt free.
    let size : length c.signals-signals.result.now ≡ length c.args.problem.now.signals =
    ap length c.signals-signals.ensures.signals in
    let inside : p < length (take (length c.signals-signals.result.now) c.loop-number.row_of) =
    simp length-take (omega (
      arith,
      lt,
      size,
      c.loop-number.invariant.long,
      (tests c.args.problem.now c.signals-signals.ensures.problem).few,
    )) in
    c.are_found.ensures.0 c.if-are_found.true p inside
    (get_or-take (length c.signals-signals.result.now) c.loop-number.row_of p 0 (omega (arith, lt, size))
    ∙ free))

pub returns-else-are_found : goal.returns-else-are_found
returns-else-are_found c = λ one.
    let size : length c.signals-signals.result.now ≡ length c.args.problem.now.signals =
    ap length c.signals-signals.ensures.signals in
    false≢true (sym c.if-are_found.false ∙ c.are_found.ensures.1 (λ p inside free.
    let few : p < length c.signals-signals.result.now = omega (arith, simp length-take at inside) in
    not_all_found c.args.problem.now.signals c.args.rows.now c.loop-number.number c.loop-number.row_of
    (omega arith) (omega arith) c.loop-number.invariant.seen one p (omega (arith, few, size))
    (sym (get_or-take (length c.signals-signals.result.now) c.loop-number.row_of p 0 few) ∙ free)))
