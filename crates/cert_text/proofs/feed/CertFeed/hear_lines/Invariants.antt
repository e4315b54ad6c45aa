use Rattle.std.proofs.Common.{◌≡◌, ◌+◌, ◌-◌, ◌^◌, length, true}
use Rattle.cert_text.specs.Heard.{heard_by}
use Rattle.cert_text.proofs.FeedLaws.{EventSoFar}
use Rattle.cert_text.proofs.feed.CertFeed.hear_lines.Given as goal

-- the lines so far end no event
abbrev pub invariant-loop-label : goal.invariant-loop-label
invariant-loop-label g l =
    EventSoFar g.F.Folder.files g.F.Folder.read_faults g.F.Folder.write_faults g.F.Folder.given l.name l.fn.self l.self l.fn.folder l.folder (heard_by l.hearing)
    × (l.self.ended ≡ true)

abbrev pub decreases-loop-label : goal.decreases-loop-label
decreases-loop-label g l = 2 ^ 63 + length l.self.source.left - l.self.source.count
