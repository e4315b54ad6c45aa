use Rattle.std.proofs.Common.{◌≤◌, arith}
use Rattle.cert_text.proofs.FeedLaws.{given_depth}
use Rattle.cert_text.specs.Depths.{depth_of}
use Rattle.cert_text.proofs.feed.CertFeed.depth.Goals as goal

pub returns-clause-at_most : goal.returns-clause-at_most
returns-clause-at_most c = λ h. let low : depth_of c.args.self.now.position ≤ 128 = given_depth c.args.self.now h.0 h.1 h.2 in omega (arith, low, c.depth.ensures)
