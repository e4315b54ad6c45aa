use Rattle.std.proofs.Common.{ap, ◌∙◌, unwrap_or}
use Rattle.frame_ticks.specs.Worst.{worst_ticks_of}
use Rattle.grouping_tree.proofs.frame_length.FrameLength.of.Goals as goal

pub returns : goal.returns
returns c =
    let size = c.unwrap_or-size.ensures ∙ ap (λ o. unwrap_or o 0) c.fd_size.ensures.value in
    record { size = size; ticks = c.worst_ticks.ensures.value ∙ ap (worst_ticks_of c.args.network.now) size }
