use Rattle.std.proofs.Common.{◌≡◌, ◌≤◌, ◌<◌, ◌+◌, ◌*◌, All, length, sym, ap, ◌∙◌, arith, subst, ◌++◌, ◌∷◌, [], take, get_or, append_assoc}
use Rattle.std.proofs.lemmas.List.{take_all, length-map, get_or_default, with_items_is}
use Rattle.std.proofs.lemmas.List.FromFn.{length-enumerate_from}
use Rattle.std.proofs.lemmas.List.Sums.{sum_by-take-le}
use Rattle.ipdu_layout.specs.Layout.{start_of}
use Rattle.pack_model.specs.Signal.{SignalStands}
use Rattle.matrix_layout.specs.ClassItems.{figures}
use Rattle.matrix_layout.specs.LaidOut.{rows_of_part, signals_at, widths_of}
use Rattle.matrix_layout.proofs.FrameSteps.{length-le-widths, widths_in_range, part_more}
use Rattle.matrix_layout.proofs.Picked.{All-pick, length-pick}
use Rattle.matrix_layout.proofs.frame_rows.add_part.Goals as goal

pub lay-requires-clause-same_length : goal.lay-requires-clause-same_length
lay-requires-clause-same_length c =
    let long : length c.as_slice.result.now
    ≡ length (widths_of (signals_at c.args.signals.now c.args.places.now)) =
    ap length (c.as_slice.ensures.value ∙ c.in_ok-widths.ensures) in
    omega (
      arith,
      long,
      c.as_mut_slice.ensures.len,
      c.in_ok-starts.ensures.len,
      length-map (signals_at c.args.signals.now c.args.places.now) (λ s. s.bits),
      length-pick c.args.signals.now c.args.places.now c.requires.inside,
    )

pub lay-requires-clause-few : goal.lay-requires-clause-few
lay-requires-clause-few c =
    let long : length c.as_slice.result.now
    ≡ length (widths_of (signals_at c.args.signals.now c.args.places.now)) =
    ap length (c.as_slice.ensures.value ∙ c.in_ok-widths.ensures) in
    let most =
    length-le-widths (signals_at c.args.signals.now c.args.places.now)
    (All-pick SignalStands c.args.signals.now c.args.places.now c.requires.signals c.requires.inside) in
    omega (
      arith,
      long,
      most,
      length-map (signals_at c.args.signals.now c.args.places.now) (λ s. s.bits),
      c.requires.room,
    )

pub lay-requires-clause-in_range : goal.lay-requires-clause-in_range
lay-requires-clause-in_range c =
    subst (All (λ width. (1 ≤ width) × (width ≤ 512)))
    (sym (c.as_slice.ensures.value ∙ c.in_ok-widths.ensures))
    (widths_in_range (signals_at c.args.signals.now c.args.places.now)
    (All-pick SignalStands c.args.signals.now c.args.places.now c.requires.signals c.requires.inside))

pub overflow_add-start : goal.overflow_add-start
overflow_add-start c =
    let widths : c.as_slice.result.now ≡ widths_of (signals_at c.args.signals.now c.args.places.now) =
    c.as_slice.ensures.value ∙ c.in_ok-widths.ensures in
    let long : length c.lay.new.starts ≡ c.in_ok-starts.starts.len =
    omega (arith, c.lay.auto.starts, c.as_mut_slice.ensures.len, c.in_ok-starts.ensures.len) in
    let within : c.loop-number.number < length c.lay.new.starts = omega (arith, c.in_ok-starts.ensures.len) in
    let start =
    ap (λ xs. get_or xs c.loop-number.number c.index.result.now)
    (with_items_is c.in_ok-starts.starts c.lay.new.starts long)
    ∙ get_or_default c.lay.new.starts c.loop-number.number c.index.result.now 0 within
    ∙ c.lay.ensures.starts c.loop-number.number within
    ∙ ap (λ ws. start_of ws c.loop-number.number) widths in
    omega (
      arith,
      c.index.ensures ∙ start,
      sum_by-take-le (λ x. x)
          (widths_of (signals_at c.args.signals.now c.args.places.now)) c.loop-number.number,
      c.requires.room,
    )

pub loop-number-preserved : goal.loop-number-preserved
loop-number-preserved c =
    let widths : c.as_slice.result.now ≡ widths_of (signals_at c.args.signals.now c.args.places.now) =
    c.as_slice.ensures.value ∙ c.in_ok-widths.ensures in
    let long : length c.lay.new.starts ≡ c.in_ok-starts.starts.len =
    omega (arith, c.lay.auto.starts, c.as_mut_slice.ensures.len, c.in_ok-starts.ensures.len) in
    let within : c.loop-number.number < length c.lay.new.starts = omega (arith, c.in_ok-starts.ensures.len) in
    let start =
    ap (λ xs. get_or xs c.loop-number.number c.index.result.now)
    (with_items_is c.in_ok-starts.starts c.lay.new.starts long)
    ∙ get_or_default c.lay.new.starts c.loop-number.number c.index.result.now 0 within
    ∙ c.lay.ensures.starts c.loop-number.number within
    ∙ ap (λ ws. start_of ws c.loop-number.number) widths in
    c.in_ok-push.ensures.items
    ∙ ap (λ rows. rows ++ c.in_ok-row.row ∷ []) c.loop-number.invariant
    ∙ append_assoc c.args.rows.now.items
    (take c.loop-number.number
    (rows_of_part (figures c.args.frame.now) c.args.signals.now
    (record { at = c.args.at; places = c.args.places.now }))) (c.in_ok-row.row ∷ [])
    ∙ ap (λ rows. c.args.rows.now.items ++ rows)
    (ap (λ row. take c.loop-number.number
    (rows_of_part (figures c.args.frame.now) c.args.signals.now
    (record { at = c.args.at; places = c.args.places.now })) ++ row ∷ []) c.in_ok-row.ensures
    ∙ sym (part_more (figures c.args.frame.now) c.args.at c.args.signals.now c.args.places.now
    c.requires.inside c.loop-number.number c.index-signals-place.result
    (8 * c.args.at + c.index.result.now) (omega arith) c.index-signals-place.is
    (ap (λ n. 8 * c.args.at + n) (c.index.ensures ∙ start))))

-- the loop went over all places
pub returns : goal.returns
returns c =
    let all : length (rows_of_part (figures c.args.frame.now) c.args.signals.now
    (record { at = c.args.at; places = c.args.places.now })) ≤ c.loop-number.number =
    simp (length-map, length-enumerate_from)
    (omega (arith, length-pick c.args.signals.now c.args.places.now c.requires.inside)) in
    c.loop-number.invariant ∙ ap (λ rows. c.args.rows.now.items ++ rows)
    (take_all c.loop-number.number
    (rows_of_part (figures c.args.frame.now) c.args.signals.now
    (record { at = c.args.at; places = c.args.places.now })) all)
