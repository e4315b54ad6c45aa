use Rattle.std.proofs.Common.{◌≡◌, ◌++◌, List, ℕ, length, take, arith, IsSome, ap, ◌∙◌}
use Rattle.pack_base.proofs.WholeFile.{read_none, read_more, later_trans, quiet_trans, front_whole, read_end, take-front}
use Rattle.pack_base.proofs.reading.read_whole.Goals as goal

pub loop-folder-init : goal.loop-folder-init
loop-folder-init g c = rw c.new-text.ensures.items (read_none _ _ _ _ _ _, omega (arith, c.in_ok-piece.ensures.len))

pub loop-folder-preserved : goal.loop-folder-preserved
loop-folder-preserved g c = (
  read_more c.read_at.new.self c.read_at.new.buf c.extend_from_slice.new.self.items c.in_ok-count.count c.loop-folder.invariant.0
      c.read_at.ensures.files c.read_at.ensures.later c.in_ok-count.ensures.quiet c.in_ok-count.ensures.given
      (let place : c.len-in-loop-folder.result ≡ length c.loop-folder.text.items = omega arith in λ told. rw place at (c.in_ok-count.ensures.bytes told))
      (omega (arith, c.in_ok-count.ensures.count)) (c.in_ok-extend_from_slice.ensures.items ∙ ap (λ (piece : List ℕ). c.loop-folder.text.items ++ take c.in_ok-count.count piece) (c.deref.ensures.value ∙ take-front c.read_at.new.buf _ _ (omega arith))),
  c.loop-folder.invariant.1,
)

pub returns-in_err-count-clause-later : goal.returns-in_err-count-clause-later
returns-in_err-count-clause-later g c = later_trans c.loop-folder.invariant.0.later c.read_at.ensures.later

pub returns-then-count-eq0-clause-later : goal.returns-then-count-eq0-clause-later
returns-then-count-eq0-clause-later g c = later_trans c.loop-folder.invariant.0.later c.read_at.ensures.later

pub returns-in_err-extend_from_slice-clause-later : goal.returns-in_err-extend_from_slice-clause-later
returns-in_err-extend_from_slice-clause-later g c = later_trans c.loop-folder.invariant.0.later c.read_at.ensures.later

pub returns-then-count-eq0-clause-whole : goal.returns-then-count-eq0-clause-whole
returns-then-count-eq0-clause-whole g c = λ told.
    let told_here : IsSome (g.F.Folder.files c.loop-folder.folder) = rw c.loop-folder.invariant.0.same told in
    let place : c.len-in-loop-folder.result ≡ length c.loop-folder.text.items = omega arith in
    front_whole _ _ (c.loop-folder.invariant.0.front told) (read_end _ _ _ _ (rw (c.loop-folder.invariant.0.same, place) at (c.in_ok-count.ensures.bytes told_here)) c.if-count-eq0.true (omega arith))

pub returns-then-count-eq0-clause-quiet : goal.returns-then-count-eq0-clause-quiet
returns-then-count-eq0-clause-quiet g c = λ _. quiet_trans c.loop-folder.invariant.0.quiet c.in_ok-count.ensures.quiet

pub returns-in_err-extend_from_slice-clause-quiet : goal.returns-in_err-extend_from_slice-clause-quiet
returns-in_err-extend_from_slice-clause-quiet g c = λ _. quiet_trans c.loop-folder.invariant.0.quiet c.in_ok-count.ensures.quiet
