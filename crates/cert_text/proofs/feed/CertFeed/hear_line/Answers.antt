use Rattle.std.proofs.Common.{◌<◌, ◌+◌, ◌^◌, ℕ, List, ◌++◌, true, false, refl, sym, ap, ◌∙◌, arith}
use Rattle.std.specs.Option.{option_and_then}
use Rattle.cert_text.specs.declared.fault.FeedFault.TheVariants as fault
use Rattle.cert_text.specs.Depths.{IsWithin}
use Rattle.cert_text.specs.Grammar.{after}
use Rattle.cert_text.specs.Sources.{TakesLine, text_refusal}
use Rattle.cert_text.specs.Words.{line_of}
use Rattle.cert_text.proofs.FeedLaws.{line_cut, line_judged, line_refused, line_within}
use Rattle.cert_text.proofs.SourceLaws.{ends_then, no_cause, reads_then}
use Rattle.cert_text.proofs.feed.CertFeed.hear_line.Goals as goal

pub returns-then-not-branch-clause-line : goal.returns-then-not-branch-clause-line
returns-then-not-branch-clause-line g c =
    let x = c.in_ok-next_line.ensures.reads in
    let t : TakesLine (g.F.Folder.files c.args.folder.now) c.args.name.now c.args.self.now.source c.next_line.new.self x.0 c.next_line.new.line.items false = rw c.if-not-branch.true at x.2 in
    (x.0, x.1, line_cut (g.F.Folder.files c.args.folder.now) c.args.name.now c.args.self.now c.next_line.new.self x.0 c.next_line.new.line.items t)

pub bad_line-requires-clause-within : goal.bad_line-requires-clause-within
bad_line-requires-clause-within g c =
    let x = c.in_ok-next_line.ensures.reads in
    let t : TakesLine (g.F.Folder.files c.args.folder.now) c.args.name.now c.args.self.now.source c.next_line.new.self x.0 c.next_line.new.line.items true = rw c.if-not-branch.false at x.2 in
    let small : c.next_line.new.self.count < 2 ^ 63 = let few = x.1.within (no_cause fault.TooLarge) in omega (arith, few, t.count) in
    let w : IsWithin c.next_line.new.self (c.args.self.now.lines + 1) = line_within c.args.self.now.source c.next_line.new.self c.args.self.now.lines x.0 c.next_line.new.line.items c.requires.within (t.found refl).0 t.count small in
    record { count = w.count; taken = let k = w.taken in omega arith }

pub returns-in_default-clause-line : goal.returns-in_default-clause-line
returns-in_default-clause-line g c =
    let x = c.in_ok-next_line.ensures.reads in
    let t : TakesLine (g.F.Folder.files c.args.folder.now) c.args.name.now c.args.self.now.source c.next_line.new.self x.0 c.next_line.new.line.items true = rw c.if-not-branch.false at x.2 in
    let y = c.bad_line.ensures.bad in (
      x.0 ++ y.0,
      reads_then x.1 y.1 t.count,
      line_refused (g.F.Folder.files c.args.folder.now) (g.F.Folder.files c.next_line.new.folder) c.args.name.now c.args.self.now c.next_line.new.self.count c.next_line.new.self.left x.0 y.0 c.next_line.new.line.items
          (text_refusal c.bad_line.result) t.free (t.found refl).0
          (ap (λ (z : List ℕ). option_and_then (λ l. after c.args.self.now.position l) (line_of z)) (sym c.deref.ensures.value) ∙ c.in_ok-line.ensures.refused c.in_default.is)
          (λ ends. ends_then c.next_line.new.self.count y.0 x.1 ends t.count) y.2,
    )

pub returns-clause-line : goal.returns-clause-line
returns-clause-line g c =
    let x = c.in_ok-next_line.ensures.reads in
    let t : TakesLine (g.F.Folder.files c.args.folder.now) c.args.name.now c.args.self.now.source c.next_line.new.self x.0 c.next_line.new.line.items true = rw c.if-not-branch.false at x.2 in
    let small : c.next_line.new.self.count < 2 ^ 63 = let few = x.1.within (no_cause fault.TooLarge) in omega (arith, few, t.count) in
    let s = rw c.in-Some.is at c.in_ok-line.ensures.stands in (
      x.0,
      x.1,
      record {
        line = c.in-Some.line;
        judges =
            line_judged c.args.self.now _ x.0 c.next_line.new.line.items c.in-Some.line c.requires.within (t.found refl).0 t.count small refl
            (ap line_of (sym c.deref.ensures.value) ∙ s.0) s.1;
        hears = c.in_ok-hear.ensures;
        few = (t.found refl).1;
      },
    )
