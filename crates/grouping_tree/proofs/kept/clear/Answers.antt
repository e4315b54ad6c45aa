use Rattle.std.proofs.Common.{◌≡◌, ℕ, ◌<◌, length, refl, ◌∙◌, arith, length-set}
use Rattle.grouping_tree.proofs.Steps.{set_more}
use Rattle.grouping_tree.proofs.kept.clear.Goals as goal

pub loop-label-preserved : goal.loop-label-preserved
loop-label-preserved c =
    let i = c.loop-label.invariant in
    let n : ℕ = c.loop-label.label in
    let none = c.args.none in
    let low : n < length c.loop-label.held.items = omega (arith, i.held_room, c.loop-label-test.true, c.len-many.ensures) in
    record {
      held_room = length-set c.loop-label.held.items n none ∙ i.held_room;
      frames_room = length-set c.loop-label.frames.items n none.frame ∙ i.frames_room;
      held = set_more (λ k m. m ≡ none) c.loop-label.held.items n none low refl i.held;
      frames = set_more (λ k f. f ≡ none.frame) c.loop-label.frames.items n none.frame (omega (arith, low, i.held_room, i.frames_room)) refl i.frames;
    }

pub returns-clause-held : goal.returns-clause-held
returns-clause-held c = λ label d lt. c.loop-label.invariant.held label d (omega (arith, lt, c.loop-label-test.false, c.len-many.ensures))

pub returns-clause-frames : goal.returns-clause-frames
returns-clause-frames c = λ label d lt. c.loop-label.invariant.frames label d (omega (arith, lt, c.loop-label-test.false, c.len-many.ensures))
