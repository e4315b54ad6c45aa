-- each start so far is the sum of the bits before it, and so is the next
use Rattle.std.proofs.Common.{◌≡◌, ℕ, ◌<◌, slice_index}
use Rattle.ipdu_layout.specs.Layout.{start_of}
use Rattle.ipdu_layout.proofs.sequence.lay.Given as goal

abbrev pub invariant-loop-number : goal.invariant-loop-number
invariant-loop-number l =
    (l.next ≡ start_of l.bits l.number)
    × ((k : ℕ) → k < l.number → slice_index l.starts k ≡ start_of l.bits k)
