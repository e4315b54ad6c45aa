use Rattle.std.proofs.Common.{◌≡◌, refl, sym, ap, ◌∙◌, arith}
use Rattle.std.proofs.lemmas.List.{length-set}
use Rattle.bus_run.specs.declared.run.Release.{Release}
use Rattle.bus_run.specs.Run.{release_at}
use Rattle.bus_run.specs.Rules.{ReleaseStands}
use Rattle.bus_run.proofs.Numbers.{below_more}
use Rattle.bus_run.proofs.LastLaws.{last_init, last_more}
use Rattle.bus_run.proofs.releases.releases_stand.Goals as goal

pub loop-number-init : goal.loop-number-init
loop-number-init c = record {
  long = refl;
  stand = λ earlier before. absurd (omega (arith, before));
  last = last_init c.args.run.now;
}

pub loop-number-preserved : goal.loop-number-preserved
loop-number-preserved c =
    let here : ReleaseStands c.args.frames.now c.args.run.now c.loop-number.number =
    c.in_default.ensures.stands in
    let frame : c.release.result.frame ≡ (release_at c.args.run.now c.loop-number.number).frame =
    ap (λ (r : Release). r.frame) c.release.ensures.value in
    record {
      long = length-set _ _ _ ∙ c.loop-number.invariant.long;
      stand = below_more (ReleaseStands c.args.frames.now c.args.run.now) c.loop-number.number
          c.loop-number.invariant.stand here;
      last = last_more c.args.run.now c.loop-number.number c.release.result.frame c.loop-number.last
          c.loop-number.invariant.long
          (omega (arith, here.frame_there, c.requires.frames.few)) (sym frame) c.loop-number.invariant.last;
    }
