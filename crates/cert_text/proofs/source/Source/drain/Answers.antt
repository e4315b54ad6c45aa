use Rattle.std.proofs.Common.{◌≡◌, ◌-◌, ◌++◌, length, true, false, nat_eq, refl, sym, ap, ◌∙◌, arith}
use Rattle.cert_text.specs.Sources.{ReadOn}
use Rattle.std.proofs.lemmas.Result.{err_from_is_err_and}
use Rattle.std.proofs.lemmas.Bool.{eqb-true, eqb-false}
use Rattle.cert_text.specs.declared.fault.FeedFault.TheVariants as fault
use Rattle.cert_text.proofs.SourceLaws.{drain_all, drain_more, drain_none, left_size, no_cause, reads_then}
use Rattle.cert_text.proofs.source.Source.drain.Goals as goal

pub loop-nothing-init : goal.loop-nothing-init
loop-nothing-init g c =
    let size : length c.args.self.now.left ≡ c.self.inside.upto - c.self.inside.from = ap (λ v. length v.left) (sym c.self.view_is) ∙ left_size c.self.inside.piece.items c.self.inside.from c.self.inside.upto c.self.invariant.0 c.self.invariant.1 c.self.invariant.2 in (
      drain_none g.F.Folder.files g.F.Folder.read_faults g.F.Folder.write_faults g.F.Folder.given c.args.name.now c.args.self.now c.args.folder.now (nat_eq c.self.inside.from c.self.inside.upto) c.requires
          (λ e. let same : c.self.inside.from ≡ c.self.inside.upto = eqb-true _ _ e in omega (arith, size)) (λ e. let other = eqb-false c.self.inside.from c.self.inside.upto e in omega (arith, size, other, c.self.invariant.0)),
      c.requires,
    )

pub returns-in_err-read_on-clause-reads : goal.returns-in_err-read_on-clause-reads
returns-in_err-read_on-clause-reads g c =
    let s = c.loop-nothing.invariant.0 in
    let x = c.in_err-read_on.ensures.reads in
    let p = err_from_is_err_and c.from_residual.result c.from_residual.ensures.1 in rw (p.1, p.2) (s.more ++ x.0, reads_then s.reads x.1 s.count, tt)

pub loop-nothing-preserved : goal.loop-nothing-preserved
loop-nothing-preserved g c =
    let s = c.loop-nothing.invariant.0 in
    let x = c.in_ok-read_on.ensures.reads in
    let on : ReadOn (g.F.Folder.files c.loop-nothing.folder) c.args.name.now c.loop-nothing.self c.read_on.new.self x.0 true = rw c.if-branch.true at x.2 in (
      drain_more c.read_on.new.self c.read_on.new.folder x.0 s x.1 on,
      let small = x.1.within (no_cause fault.TooLarge) in omega (arith, on.count, small),
    )

pub loop-nothing-smaller : goal.loop-nothing-smaller
loop-nothing-smaller g c =
    let x = c.in_ok-read_on.ensures.reads in
    let on : ReadOn (g.F.Folder.files c.loop-nothing.folder) c.args.name.now c.loop-nothing.self c.read_on.new.self x.0 true = rw c.if-branch.true at x.2 in
    let long = on.some refl in
    omega (arith, on.count, long, c.loop-nothing.invariant.1)

pub returns-clause-reads : goal.returns-clause-reads
returns-clause-reads g c =
    let s = c.loop-nothing.invariant.0 in
    let x = c.in_ok-read_on.ensures.reads in
    let on : ReadOn (g.F.Folder.files c.loop-nothing.folder) c.args.name.now c.loop-nothing.self c.read_on.new.self x.0 false = rw c.if-branch.false at x.2 in
    (s.more ++ x.0, reads_then s.reads x.1 s.count, drain_all c.read_on.new.self x.0 s on)
