use Rattle.std.proofs.Common.{◌≡◌, ◌*◌, ap, sym, ◌∙◌, subst, unwrap_or}
use Rattle.busy_period.specs.Timed.{IsInRange}
use Rattle.frame_ticks.specs.Worst.{worst_ticks_of}
use Rattle.class_frame.proofs.Ranges.{times_of_sums, frame_in_range}
use Rattle.class_frame.proofs.sums.Sums.timed.Goals as goal

pub returns-clause-value : goal.returns-clause-value
returns-clause-value c = λ problem items on is are.
    let network = sym on.same in
    let times = times_of_sums problem on.stands items are c.args.self is in
    let per_us : c.from-ticks_per_us.result ≡ problem.network.ticks_per_us = c.from-ticks_per_us.ensures ∙ ap (λ n. n.ticks_per_us) network in
    λ i. record {
      period = per_us i * (c.from.ensures ∙ times.period) i;
      jitter = per_us i * (c.from-2.ensures ∙ times.jitter) i;
      ticks = (c.worst_ticks.ensures.value ∙ ap (λ n. worst_ticks_of n c.unwrap_or.result) network ∙ ap (worst_ticks_of problem.network) (c.unwrap_or.ensures ∙ ap (λ o. unwrap_or o 0) (c.size.ensures.value problem items is))) i;
      deadline = per_us i * (c.from-3.ensures ∙ times.deadline) i;
    }

pub returns-clause-in_range : goal.returns-clause-in_range
returns-clause-in_range c = λ problem items on is are. subst IsInRange (sym (returns-clause-value c problem items on is are)) (frame_in_range problem items on.stands are)
