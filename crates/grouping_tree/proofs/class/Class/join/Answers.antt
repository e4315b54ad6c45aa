use Rattle.std.proofs.Common.{◌≡◌, ◌-◌, ◌*◌, ◌++◌, ◌∷◌, [], max, min, sym, ap, ◌∙◌}
use Rattle.pack_model.specs.declared.network.Network.{Network}
use Rattle.class_frame.specs.Frame.{weight_of_items}
use Rattle.grouping_tree.specs.Class.{IsFill}
use Rattle.grouping_tree.specs.declared.class.Fill.{Fill}
use Rattle.grouping_tree.proofs.Fills.{deadline_put, fill_put, jitter_put, period_put, share_put}
use Rattle.grouping_tree.proofs.class.Class.join.Goals as goal

pub returns : goal.returns
returns c = λ problem items item stands same some one both first second fill long.
    let is : IsFill problem (items ++ item ∷ []) c.args.fill =
    fill ∙ fill_put problem items (item ∷ []) c.args.self.now.fill c.args.next.now.fill first.fill second.fill in
    let weight : c.args.fill.weight ≡ weight_of_items (items ++ item ∷ []) = ap (λ (f : Fill). f.weight) is in
    let bit : c.args.network.now.data_ticks ≡ problem.network.data_ticks =
    ap (λ (n : Network). n.data_ticks) (sym same) in
    let size = long.size in
    let period =
    c.min.ensures
    ∙ (λ i. min (first.frame i).period (second.frame i).period)
    ∙ sym (period_put problem stands items item some one both) in
    let jitter =
    c.max-2.ensures
    ∙ (λ i. max (first.frame i).jitter (second.frame i).jitter)
    ∙ sym (jitter_put problem stands items item some one both) in
    let deadline =
    c.min-2.ensures
    ∙ (λ i. min (first.frame i).deadline (second.frame i).deadline)
    ∙ sym (deadline_put problem stands items item some one both) in
    record {
      fill = is;
      share =
          c.max.ensures ∙ (λ i. max (first.share i) (second.share i))
          ∙ sym (share_put problem stands items item some one both);
      free = c.free_ticks.ensures ∙ (λ i. 10 * bit i * (8 * size i - weight i));
      frame = λ i. record { period = period i; jitter = jitter i; ticks = long.ticks i; deadline = deadline i };
    }
