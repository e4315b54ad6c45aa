use Rattle.std.proofs.Common.{◌≤◌, ◌*◌, ◌/◌, [], ◌∷◌, sym, ap, subst, ◌∙◌, arith}
use Rattle.pack_model.specs.Network.{NetworkStands}
use Rattle.class_frame.specs.Sums.{IsSmall}
use Rattle.bandwidth_bound.proofs.FloorsItems.{bits_low, item_has_signal, item_members, item_small, item_sums, weight_is, weight_low}
use Rattle.bandwidth_bound.proofs.floors.price.Goals as goal

pub of-sums-requires-clause-small : goal.of-sums-requires-clause-small
of-sums-requires-clause-small c =
    item_small c.args.problem.now c.network-network.ensures.problem c.args.item.now c.requires

pub of-sums-requires-clause-members : goal.of-sums-requires-clause-members
of-sums-requires-clause-members c =
    item_members c.args.problem.now c.network-network.ensures.problem c.args.item.now c.requires

pub overflow_mul-bits-2 : goal.overflow_mul-bits-2
overflow_mul-bits-2 c =
    let stands : NetworkStands c.network-network.result.now =
    subst NetworkStands (sym c.network-network.ensures.network) c.network-network.ensures.problem.network in
    let light : c.of-sums.result.weight ≤ 512 =
    omega (
      arith,
      weight_is c.args.problem.now c.args.item.now c.of-sums.result c.of-sums.ensures,
      weight_low c.args.item.now
          (item_small c.args.problem.now c.network-network.ensures.problem c.args.item.now c.requires),
    ) in
    omega (
      arith,
      bits_low c.network-network.result.now.data_ticks c.of-sums.result.weight
          (omega (arith, stands.data_high, stands.nominal_high)) light,
    )

pub timed-requires-clause-small : goal.timed-requires-clause-small
timed-requires-clause-small c =
    subst IsSmall (sym c.of-sums.ensures)
    (item_sums c.args.problem.now c.network-network.ensures.problem c.args.item.now c.requires)

pub nonzero_div-rate : goal.nonzero_div-rate
nonzero_div-rate c =
    let stands = c.network-network.ensures.problem in
    let range = c.timed.ensures.in_range c.args.problem.now (c.args.item.now ∷ [])
    (record { stands = stands; same = sym c.network-network.ensures.network }) c.of-sums.ensures
    (item_has_signal c.args.problem.now stands c.args.item.now c.requires) in
    omega (arith, range.some_period)

pub returns-clause-price : goal.returns-clause-price
returns-clause-price c =
    let stands = c.network-network.ensures.problem in
    let weight = weight_is c.args.problem.now c.args.item.now c.of-sums.result c.of-sums.ensures in
    let timed = c.timed.ensures.value c.args.problem.now (c.args.item.now ∷ [])
    (record { stands = stands; same = sym c.network-network.ensures.network }) c.of-sums.ensures
    (item_has_signal c.args.problem.now stands c.args.item.now c.requires) in
    let bits = c.from.ensures in
    let rate = c.from-2.ensures in
    ap (λ x. x * c.from-2.result) bits
    ∙ ap (λ x. 10 * c.network-network.result.now.data_ticks * c.of-sums.result.weight * x) rate
    ∙ λ i. 10 * (c.network-network.ensures.network i).data_ticks * weight i
    * (c.hyper.ensures.hyper i / (timed i).period)
