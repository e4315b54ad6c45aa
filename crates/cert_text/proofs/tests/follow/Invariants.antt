use Rattle.std.proofs.Common.{◌≡◌, false}
use Rattle.cert_text.specs.Given.{HasGiven}
use Rattle.cert_text.proofs.tests.follow.Given as goal

-- a feed that goes on was given something
abbrev pub invariant-loop-place : goal.invariant-loop-place
invariant-loop-place l = l.feed.ended ≡ false → HasGiven l.feed
