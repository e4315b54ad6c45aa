use Rattle.std.proofs.Common.{◌<◌, ◌-◌, ◌^◌}
use Rattle.cert_text.proofs.SourceLaws.{LineSoFar}
use Rattle.cert_text.proofs.source.Source.next_line.Given as goal

-- the line so far
abbrev pub invariant-loop-self : goal.invariant-loop-self
invariant-loop-self g l =
    LineSoFar g.F.Folder.files g.F.Folder.read_faults g.F.Folder.write_faults g.F.Folder.given l.name l.fn.self l.self l.fn.folder l.folder l.line.items
    × (l.self.count < 2 ^ 63)

abbrev pub decreases-loop-self : goal.decreases-loop-self
decreases-loop-self g l = 2 ^ 63 - l.self.count
