use Rattle.cert_text.specs.Depths.{bytes_ahead}
use Rattle.cert_check.proofs.FeedChecks.{TakesSoFar, WalkTook, turns_left}
use Rattle.cert_check.proofs.one_pass.check_feed.Given as goal

-- the walk took the events so far
abbrev pub invariant-loop-feed : goal.invariant-loop-feed
invariant-loop-feed g l =
    TakesSoFar g.F.Folder.files g.F.Folder.read_faults g.F.Folder.write_faults g.F.Folder.given l.name
    l.fn.folder l.folder l.feed (WalkTook l.walk l.problem l.matrix)

abbrev pub decreases-loop-feed : goal.decreases-loop-feed
decreases-loop-feed g l = turns_left l.feed.ended (bytes_ahead l.feed.source)
