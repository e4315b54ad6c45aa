use Rattle.std.proofs.Common.{◌≡◌, ◌-◌, ◌*◌, ◌/◌, ◌∷◌, [], unwrap_or, sym, ap, ◌∙◌, arith}
use Rattle.pack_model.specs.declared.network.Network.{Network}
use Rattle.class_frame.specs.Frame.{size_of_items, weight_of_items}
use Rattle.class_frame.specs.Sums.{IsOn}
use Rattle.class_frame.specs.declared.sums.Sums.{Sums}
use Rattle.grouping_tree.specs.Class.{fill_of}
use Rattle.grouping_tree.proofs.class.Class.alone.Goals as goal

pub nonzero_div-result : goal.nonzero_div-result
nonzero_div-result c =
    let problem = c.args.problem.now in
    let on : IsOn problem c.network-network.result.now =
    record { stands = c.network-network.ensures.problem; same = sym c.network-network.ensures.network } in
    let range =
    c.timed-frame.ensures.in_range problem (c.args.item.now ∷ []) on c.of-sums.ensures c.requires.signal in
    omega (arith, range.some_period)

pub returns : goal.returns
returns c =
    let problem = c.args.problem.now in
    let items = c.args.item.now ∷ [] in
    let are = c.of-sums.ensures in
    let on : IsOn problem c.network-network.result.now =
    record { stands = c.network-network.ensures.problem; same = sym c.network-network.ensures.network } in
    let frame = c.timed-frame.ensures.value problem items on are c.requires.signal in
    let bit : c.network-network.result.now.data_ticks ≡ problem.network.data_ticks =
    ap (λ (n : Network). n.data_ticks) c.network-network.ensures.network in
    let size : c.unwrap_or-size.result ≡ unwrap_or (size_of_items items) 0 =
    c.unwrap_or-size.ensures ∙ ap (λ o. unwrap_or o 0) (c.size.ensures.value problem items are) in
    let weight : c.of-sums.result.weight ≡ weight_of_items items = ap (λ (s : Sums). s.weight) are in
    record {
      fill = c.of.ensures ∙ ap fill_of are;
      share = λ i. c.hyper.ensures.hyper i / (frame i).period;
      free = c.free_ticks.ensures ∙ (λ i. 10 * bit i * (8 * size i - weight i));
      frame = frame;
    }
