use Rattle.std.proofs.Common.{◌≡◌, ℕ, ◌<◌, length}
use Rattle.bus_run.specs.Run.{end_before}
use Rattle.bus_run.specs.Rules.{SendStands}
use Rattle.bus_run.specs.Tables.{HaveNext}
use Rattle.bus_run.proofs.stands.sends_stand.Given as goal

-- the sends so far stand, the table has what is unsent after them, and the last of them ended then
abbrev pub invariant-loop-number : goal.invariant-loop-number
invariant-loop-number l = record {
  long : length l.next ≡ 128;
  stand : (earlier : ℕ) → earlier < l.number → SendStands l.network l.frames l.run earlier;
  next : HaveNext l.run l.number l.next;
  end : l.end ≡ end_before l.run l.number;
}
