use Rattle.std.proofs.Common.{refl, ap}
use Rattle.cert_text.proofs.FeedLaws.{given_none}
use Rattle.cert_text.proofs.feed.CertFeed.new.Goals as goal

pub returns-clause-given : goal.returns-clause-given
returns-clause-given c = given_none _ (ap (λ s. s.left) c.in_ok-source.ensures) (ap (λ s. s.count) c.in_ok-source.ensures) refl c.in_ok-position.ensures
