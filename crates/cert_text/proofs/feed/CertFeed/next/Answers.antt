use Rattle.std.proofs.Common.{ℕ, refl, subst}
use Rattle.cert_text.specs.Sources.{Reads, broke}
use Rattle.cert_text.proofs.FeedLaws.{answer_moved, given_moved}
use Rattle.cert_text.proofs.feed.CertFeed.next.Goals as goal

pub returns-clause-answer : goal.returns-clause-answer
returns-clause-answer g c =
    let x = c.go_on-answer.ensures.answer in
    λ bytes es given. record {
      more = x.0;
      reads =
          subst (λ (k : ℕ). Reads g.F.Folder.files g.F.Folder.read_faults g.F.Folder.write_faults g.F.Folder.given c.args.name.now k c.args.folder.now c.go_on-answer.new.folder (broke c.go_on-answer.result) x.0) given.count x.1;
      answer =
          answer_moved (g.F.Folder.files c.args.folder.now) c.args.name.now c.go_on-answer.new.self _ bytes x.0 es c.go_on-answer.result refl refl refl (x.2 bytes es (given_moved c.args.self.now _ bytes es refl refl refl given));
    }
