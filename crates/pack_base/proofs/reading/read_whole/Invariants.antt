use Rattle.std.proofs.Common.{◌≡◌, ◌+◌, ◌-◌, vec_len}
use Rattle.pack_base.proofs.WholeFile.{ReadSoFar}
use Rattle.pack_base.proofs.reading.read_whole.Given as goal

abbrev pub invariant-loop-folder : goal.invariant-loop-folder
invariant-loop-folder g l = ReadSoFar g.F.Folder.files g.F.Folder.read_faults g.F.Folder.write_faults g.F.Folder.given l.name l.fn.folder l.folder l.text.items
    × (vec_len l.piece ≡ 65536)

abbrev pub decreases-loop-folder : goal.decreases-loop-folder
decreases-loop-folder g l = l.limit + 1 - vec_len l.text
