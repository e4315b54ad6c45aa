-- Lines with the least numbers show their frames, and have a text.
use Rattle.std.proofs.Common.{◌≡◌, ℕ, ◌+◌, List, get_or, Option, None, Some, IfNone, IsSome, refl, ap, subst, arith}
use Rattle.busy_period.specs.declared.timed.Timed.{Timed}
use Rattle.busy_period.specs.Stage.{own_of, IsStage}
use Rattle.busy_period.specs.Demand.{demand_of, instances_of}
use Rattle.busy_period.specs.Busy.{FrameBusy, IsBusy}
use Rattle.busy_period.proofs.Instances.{quotient-le}
use Rattle.busy_period.proofs.Least.{least_unique}
use Rattle.busy_period.proofs.Stages.{own_is_in_range}
use Rattle.response_test.specs.Frame.{FrameCanStart, FrameIsInTime, FramePasses, IsShown}
use Rattle.response_test.specs.Passing.{InstancePasses}
use Rattle.response_test.proofs.Worst.{some_instance}
use Rattle.response_test.specs.Queueing.{queueing_of}
use Rattle.cert_text.specs.declared.parts.FrameLine.{FrameLine}
use Rattle.cert_text.specs.Written.{HasRoom}
use Rattle.plan_search.specs.Lines.{IsLeastLine}

-- a frame that passes has a busy period
pub has_busy : (frames : List Timed) (order : List ℕ) (bit place : ℕ) (found : Option ℕ)
    → FramePasses frames order place bit
    → IfNone found ((time : ℕ) → ¬ (FrameBusy frames order place time)) → IsSome found
has_busy frames order bit place None passes none = absurd
    (none passes.busy (record { busy = passes.least.busy.holds; short = passes.least.short }))
has_busy frames order bit place (Some time) passes none = refl

module _ (frames : List Timed) (order : List ℕ) (bit place : ℕ) (line : FrameLine)
    (least : IsLeastLine frames order bit place line) where
  -- the least busy period is that of the written test
  same_busy : (passes : FramePasses frames order place bit) → passes.busy ≡ line.busy
  same_busy passes = least_unique (IsBusy
      (demand_of frames order place)) passes.busy line.busy passes.least.busy least.busy.busy

  -- the least numbers show that the frame passes
  pub least_shows : FramePasses frames order place bit → IsShown frames order place bit line.busy line.queue
  least_shows passes = record {
    holds = record { busy = least.busy.busy.holds; short = least.busy.short };
    count = least.count;
    can_start = λ instance inside. (least.starts instance inside).holds;
    in_time = λ instance inside.
        let it : InstancePasses (own_of frames order place) (queueing_of frames order place bit) instance =
        passes.each instance (omega (
          arith,
          inside,
          least.count,
          ap
              (instances_of (own_of frames order place)) (same_busy passes),
        )) in
        subst (FrameIsInTime frames order place instance)
        (least_unique (FrameCanStart frames order place bit instance) it.start
        (get_or line.queue instance 0) it.least (least.starts instance inside)) it.in_time;
  }

  -- there are 1 to 256 starts
  pub least_has_room : IsStage frames order place → HasRoom line
  least_has_room stage =
      let some = (own_is_in_range frames order place stage).some_period in
      let few = quotient-le (line.busy + (own_of frames order place).jitter)
      (own_of frames order place).period 256 some least.busy.short in
      let first = some_instance (own_of frames order place) line.busy least.busy.busy.holds.some some in
      (omega (arith, least.count, first), omega (arith, least.count, few))
