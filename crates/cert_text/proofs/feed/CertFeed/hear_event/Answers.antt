use Rattle.std.proofs.Common.{[]}
use Rattle.cert_text.proofs.SourceLaws.{reads_none}
use Rattle.cert_text.proofs.feed.CertFeed.hear_event.Goals as goal

pub returns-in-Some-clause-event : goal.returns-in-Some-clause-event
returns-in-Some-clause-event g c = (
  [],
  reads_none g.F.Folder.files g.F.Folder.read_faults g.F.Folder.write_faults g.F.Folder.given c.args.name.now c.args.self.now.source.count c.args.folder.now c.requires.within.count,
  c.in-Some.ensures.heard,
)

pub returns-clause-event : goal.returns-clause-event
returns-clause-event g c = rw c.in_default.ensures.kept at c.hear_lines.ensures.event
