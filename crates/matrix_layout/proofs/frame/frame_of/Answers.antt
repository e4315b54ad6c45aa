use Rattle.std.proofs.Common.{◌≡◌, unwrap_or, ap, ◌∙◌}
use Rattle.frame_ticks.specs.Worst.{worst_ticks_of}
use Rattle.class_frame.specs.Frame.{size_of_items}
use Rattle.matrix_layout.proofs.frame.frame_of.Goals as goal

pub returns : goal.returns
returns c = λ problem items are.
    let size : c.unwrap_or-size.result ≡ unwrap_or (size_of_items items) 0 = c.unwrap_or-size.ensures
    ∙ ap (λ o. unwrap_or o 0) (c.size.ensures.value problem items are) in
    let header = c.header.ensures problem items are in
    λ i. record {
      id = c.args.id;
      size = size i;
      ticks = (c.worst_ticks.ensures.value ∙ ap (worst_ticks_of c.args.network.now) size) i;
      header = header i;
    }
