use Rattle.std.proofs.Common.{◌<◌, ◌-◌, ◌^◌}
use Rattle.cert_text.proofs.SourceLaws.{DrainSoFar}
use Rattle.cert_text.proofs.source.Source.drain.Given as goal

-- what was read so far
abbrev pub invariant-loop-nothing : goal.invariant-loop-nothing
invariant-loop-nothing g l =
    DrainSoFar g.F.Folder.files g.F.Folder.read_faults g.F.Folder.write_faults g.F.Folder.given l.name l.fn.self l.self l.fn.folder l.folder l.nothing
    × (l.self.count < 2 ^ 63)

abbrev pub decreases-loop-nothing : goal.decreases-loop-nothing
decreases-loop-nothing g l = 2 ^ 63 - l.self.count
