use Rattle.std.proofs.Common.{◌≡◌, ◌<◌, ◌≤◌, ◌+◌, ◌-◌, ℕ, [], refl, ap, ◌∙◌, take, drop, arith, length, None, Some}
use Rattle.std.specs.Vec.{with_items}
use Rattle.std.proofs.lemmas.List.{with_items_is}
use Rattle.cert_text.specs.declared.fault.FeedFault.TheVariants as fault
use Rattle.cert_text.proofs.SourceLaws.{no_cause, not_failed, read_on, reads_failed, reads_given}
use Rattle.cert_text.proofs.source.Source.read_on.Goals as goal

pub returns-in_default-clause-reads : goal.returns-in_default-clause-reads
returns-in_default-clause-reads g c = (
  [],
  reads_failed g.F.Folder.files g.F.Folder.read_faults g.F.Folder.write_faults g.F.Folder.given c.args.name.now c.args.self.now.count c.args.folder.now c.read_at.new.self c.requires
      c.in_default.ensures.files c.in_default.ensures.later c.in_default.ensures.none_given c.in_default.ensures.cause,
  tt,
)

pub returns-then-self-ge-TOO_LARGE-clause-reads : goal.returns-then-self-ge-TOO_LARGE-clause-reads
returns-then-self-ge-TOO_LARGE-clause-reads g c =
    let count : c.self.inside.count ≡ c.args.self.now.count = ap (λ v. v.count) c.self.view_is in
    let fits : c.in-Ok.read ≤ length c.read_at.new.buf = omega (arith, c.in-Ok.ensures.count) in (
      take c.in-Ok.read c.read_at.new.buf,
      reads_given g.F.Folder.files g.F.Folder.read_faults g.F.Folder.write_faults g.F.Folder.given c.args.name.now c.args.self.now.count c.in-Ok.read c.read_at.new.buf c.args.folder.now c.read_at.new.self
          (Some fault.TooLarge) not_failed (λ e. omega arith) (λ e. absurd (e refl)) c.in-Ok.ensures.files c.in-Ok.ensures.later c.in-Ok.ensures.quiet c.in-Ok.ensures.given
          (λ told. rw count at (c.in-Ok.ensures.bytes told)) fits,
      tt,
    )

pub returns-clause-reads : goal.returns-clause-reads
returns-clause-reads g c =
    let count : c.self.inside.count ≡ c.args.self.now.count = ap (λ v. v.count) c.self.view_is in
    let fits : c.in-Ok.read ≤ length c.read_at.new.buf = omega (arith, c.in-Ok.ensures.count) in
    let room : 0 < length c.read_at.new.buf = omega arith in (
      take c.in-Ok.read c.read_at.new.buf,
      reads_given g.F.Folder.files g.F.Folder.read_faults g.F.Folder.write_faults g.F.Folder.given c.args.name.now c.args.self.now.count c.in-Ok.read c.read_at.new.buf c.args.folder.now c.read_at.new.self
          None (no_cause fault.ReadFault) (λ e. absurd (no_cause fault.TooLarge e)) (λ e. omega arith) c.in-Ok.ensures.files c.in-Ok.ensures.later c.in-Ok.ensures.quiet c.in-Ok.ensures.given
          (λ told. rw count at (c.in-Ok.ensures.bytes told)) fits,
      read_on (g.F.Folder.files c.args.folder.now) c.args.name.now c.args.self.now (record { left = take (c.in-Ok.read - 0) (drop 0 (with_items c.self.inside.piece c.read_at.new.buf).items); count = c.self.inside.count + c.in-Ok.read }) c.in-Ok.read c.read_at.new.buf
          (λ told. rw count at (c.in-Ok.ensures.bytes told)) fits room (ap (λ (k : ℕ). k + c.in-Ok.read) count)
          (let same : c.in-Ok.read - 0 ≡ c.in-Ok.read = omega arith in
          ap (λ (k : ℕ). take k (with_items c.self.inside.piece c.read_at.new.buf).items) same ∙ ap (take c.in-Ok.read) (with_items_is c.self.inside.piece c.read_at.new.buf (omega arith))),
    )
