use Rattle.std.proofs.Common.{◌++◌, true, false, refl, ◌∙◌, arith}
use Rattle.std.proofs.lemmas.Result.{err_from_is_err_and}
use Rattle.cert_text.specs.Sources.{ReadOn, TakesHere}
use Rattle.cert_text.specs.declared.fault.FeedFault.TheVariants as fault
use Rattle.cert_text.proofs.SourceLaws.{line_cut, line_found, line_more, line_none, no_cause, reads_then}
use Rattle.cert_text.proofs.source.Source.next_line.Goals as goal

pub loop-self-init : goal.loop-self-init
loop-self-init g c = (
  line_none g.F.Folder.files g.F.Folder.read_faults g.F.Folder.write_faults g.F.Folder.given c.args.name.now c.args.self.now c.args.folder.now c.clear.new.self.items c.requires c.clear.ensures.items,
  c.requires,
)

pub returns-in_err-take_here-clause-reads : goal.returns-in_err-take_here-clause-reads
returns-in_err-take_here-clause-reads g c =
    let s = c.loop-self.invariant.0 in
    let p = err_from_is_err_and c.from_residual.result c.from_residual.ensures.1 in rw (p.1, p.2) (s.more, s.reads, tt)

pub returns-in_err-read_on-clause-reads : goal.returns-in_err-read_on-clause-reads
returns-in_err-read_on-clause-reads g c =
    let s = c.loop-self.invariant.0 in
    let t : TakesHere c.loop-self.self c.take_here.new.self c.loop-self.line.items c.take_here.new.line.items false = rw c.if-not-branch.true at c.in_ok-take_here.ensures in
    let x = c.in_err-read_on.ensures.reads in
    let p = err_from_is_err_and c.from_residual-in_err-read_on.result c.from_residual-in_err-read_on.ensures.1 in rw (p.1, p.2) (s.more ++ x.0, reads_then s.reads x.1 (t.count ∙ s.count), tt)

pub returns-then-not-branch-2-clause-reads : goal.returns-then-not-branch-2-clause-reads
returns-then-not-branch-2-clause-reads g c =
    let s = c.loop-self.invariant.0 in
    let t : TakesHere c.loop-self.self c.take_here.new.self c.loop-self.line.items c.take_here.new.line.items false = rw c.if-not-branch.true at c.in_ok-take_here.ensures in
    let x = c.in_ok-read_on.ensures.reads in
    let on : ReadOn (g.F.Folder.files c.loop-self.folder) c.args.name.now c.take_here.new.self c.read_on.new.self x.0 false = rw c.if-not-branch-2.true at x.2 in
    (s.more ++ x.0, reads_then s.reads x.1 (t.count ∙ s.count), line_cut c.take_here.new.self c.read_on.new.self c.take_here.new.line.items x.0 s t on)

pub loop-self-preserved : goal.loop-self-preserved
loop-self-preserved g c =
    let s = c.loop-self.invariant.0 in
    let t : TakesHere c.loop-self.self c.take_here.new.self c.loop-self.line.items c.take_here.new.line.items false = rw c.if-not-branch.true at c.in_ok-take_here.ensures in
    let x = c.in_ok-read_on.ensures.reads in
    let on : ReadOn (g.F.Folder.files c.loop-self.folder) c.args.name.now c.take_here.new.self c.read_on.new.self x.0 true = rw c.if-not-branch-2.false at x.2 in (
      line_more c.take_here.new.self c.read_on.new.self c.read_on.new.folder c.take_here.new.line.items x.0 s t x.1 on,
      let small = x.1.within (no_cause fault.TooLarge) in omega (arith, on.count, small),
    )

pub loop-self-smaller : goal.loop-self-smaller
loop-self-smaller g c =
    let t : TakesHere c.loop-self.self c.take_here.new.self c.loop-self.line.items c.take_here.new.line.items false = rw c.if-not-branch.true at c.in_ok-take_here.ensures in
    let x = c.in_ok-read_on.ensures.reads in
    let on : ReadOn (g.F.Folder.files c.loop-self.folder) c.args.name.now c.take_here.new.self c.read_on.new.self x.0 true = rw c.if-not-branch-2.false at x.2 in
    let long = on.some refl in
    omega (arith, t.count, on.count, long, c.loop-self.invariant.1)

pub read_on-requires : goal.read_on-requires
read_on-requires g c =
    let t : TakesHere c.loop-self.self c.take_here.new.self c.loop-self.line.items c.take_here.new.line.items false = rw c.if-not-branch.true at c.in_ok-take_here.ensures in
    omega (arith, t.count, c.loop-self.invariant.1)

pub returns-clause-reads : goal.returns-clause-reads
returns-clause-reads g c =
    let s = c.loop-self.invariant.0 in
    let t : TakesHere c.loop-self.self c.take_here.new.self c.loop-self.line.items c.take_here.new.line.items true = rw c.if-not-branch.false at c.in_ok-take_here.ensures in
    (s.more, s.reads, line_found c.take_here.new.self c.take_here.new.line.items s t)
