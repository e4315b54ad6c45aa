use Rattle.std.proofs.Common.{◌<◌, length, ap, arith}
use Rattle.busy_period.specs.Timed.{IsInRange}
use Rattle.bus_run.specs.declared.run.Release.{Release}
use Rattle.bus_run.specs.Frames.{bus_frame_at}
use Rattle.bus_run.proofs.LastLaws.{frame_in_range}
use Rattle.bus_run.proofs.late.in_time.Goals as goal

pub overflow_add-due : goal.overflow_add-due
overflow_add-due c =
    let inside : c.release-release.result.frame < length c.args.frames.now =
    omega (arith, c.requires.there, ap (λ (r : Release). r.frame) c.release-release.ensures.value) in
    let range : IsInRange (bus_frame_at c.args.frames.now c.release-release.result.frame).timed =
    frame_in_range c.args.frames.now c.release-release.result.frame c.requires.frames inside in
    omega (arith, range.deadline, c.release-release.ensures.limited.arrival)
