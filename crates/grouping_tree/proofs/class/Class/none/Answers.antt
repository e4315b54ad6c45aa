use Rattle.std.proofs.Common.{◌≡◌, ◌*◌, [], sym, ap, ◌∙◌, arith}
use Rattle.frame_ticks.specs.Worst.{worst_ticks_of}
use Rattle.class_frame.specs.Frame.{deadline_of_items, jitter_of_items, period_of_items}
use Rattle.grouping_tree.specs.Class.{fill_of}
use Rattle.grouping_tree.specs.Slack.{free_bits_of}
use Rattle.grouping_tree.proofs.Loads.{no_share}
use Rattle.grouping_tree.proofs.class.Class.none.Goals as goal

pub returns : goal.returns
returns c = λ problem same.
    let period : 0 ≡ period_of_items problem [] = omega arith in
    let jitter : 0 ≡ jitter_of_items problem [] = omega arith in
    let deadline : 0 ≡ deadline_of_items problem [] = omega arith in
    let free : 0 ≡ 10 * problem.network.data_ticks * free_bits_of [] = omega arith in
    let ticks = c.worst_ticks.ensures.value ∙ ap (λ n. worst_ticks_of n 0) (sym same) in
    record {
      fill = c.of.ensures ∙ ap fill_of (c.none.ensures problem);
      share = sym (no_share problem);
      free = free;
      frame = λ i. record { period = period i; jitter = jitter i; ticks = ticks i; deadline = deadline i };
    }
