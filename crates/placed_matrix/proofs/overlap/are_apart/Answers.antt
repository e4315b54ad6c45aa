use Rattle.std.proofs.Common.{◌≡◌, ◌<◌, length, refl, arith, map, sym, subst, ◌∙◌}
use Rattle.std.proofs.lemmas.Bool.{false≢true}
use Rattle.std.proofs.lemmas.Bool.Decides.{when_true, when_false}
use Rattle.std.proofs.lemmas.List.{length-map}
use Rattle.ipdu_layout.specs.Marks.{MarksPlace, MeetsMark}
use Rattle.ipdu_layout.proofs.Places.{place_at}
use Rattle.ipdu_layout.proofs.MarkLaws.{MarksBelow-none, MarksBelow-more, not_apart_by_mark}
use Rattle.placed_matrix.specs.Tables.{place_among}
use Rattle.placed_matrix.proofs.ApartLaws.{row_place, apart_in_frames, apart_in_all}
use Rattle.placed_matrix.proofs.overlap.are_apart.Goals as goal

pub loop-row-init : goal.loop-row-init
loop-row-init c = MarksBelow-none 65536 (map (place_among c.args.label_of.now) c.args.rows.now)

-- a row that meets a mark is not apart from one before it
pub returns-then-not-mark : goal.returns-then-not-mark
returns-then-not-mark c =
    let places = map (place_among c.args.label_of.now) c.args.rows.now in
    let within : c.loop-row.row-index < length (map (place_among c.args.label_of.now) c.args.rows.now) =
    simp length-map c.loop-row-test.true in
    let here : place_at (map (place_among c.args.label_of.now) c.args.rows.now) c.loop-row.row-index
    ≡ c.place_among.result =
    row_place (place_among c.args.label_of.now) c.args.rows.now c.loop-row.row-index c.row-item.result
    c.loop-row-test.true c.row-item.is ∙ sym c.place_among.ensures in (
      λ t. absurd (false≢true t),
      λ apart. absurd (not_apart_by_mark 65536 places c.loop-row.row-index c.loop-row.marks within
          c.loop-row.invariant
          (subst (λ p. MeetsMark p c.loop-row.marks) (sym here)
          (when_false _ _ c.if-not-mark.true c.mark.ensures))
          (apart_in_all c.args.label_of.now c.args.rows.now c.requires.labels c.requires.inside apart)),
    )

pub loop-row-preserved : goal.loop-row-preserved
loop-row-preserved c =
    let within : c.loop-row.row-index < length (map (place_among c.args.label_of.now) c.args.rows.now) =
    simp length-map c.loop-row-test.true in
    let here : place_at (map (place_among c.args.label_of.now) c.args.rows.now) c.loop-row.row-index
    ≡ c.place_among.result =
    row_place (place_among c.args.label_of.now) c.args.rows.now c.loop-row.row-index c.row-item.result
    c.loop-row-test.true c.row-item.is ∙ sym c.place_among.ensures in
    MarksBelow-more 65536 (map (place_among c.args.label_of.now) c.args.rows.now) c.loop-row.row-index
    c.loop-row.marks _ within c.mark.auto.marks c.loop-row.invariant
    (subst (λ p. MarksPlace p c.loop-row.marks c.mark.new.marks) (sym here)
    (when_true _ _ c.if-not-mark.false c.mark.ensures))

pub returns : goal.returns
returns c = (
  λ _. apart_in_frames c.args.label_of.now c.args.rows.now
      (λ i j d before within. c.loop-row.invariant.apart i j d before (omega arith)),
  λ _. refl,
)
