use Rattle.std.proofs.Common.{ℕ, ◌<◌, length, take, nat_eq, ap, arith, length-take}
use Rattle.std.specs.Prelude.{not}
use Rattle.bandwidth_bound.proofs.FinalNamed.{length-filter-le}
use Rattle.bandwidth_bound.proofs.failing.write_others.Goals as goal

pub push-requires : goal.push-requires
push-requires c =
    let i : ℕ = c.loop-number.number-index in
    let some : length c.loop-number.order.items < 128 = omega (
      arith,
      ap length c.loop-number.invariant,
      length-filter-le (λ number. not (nat_eq c.args.own number)) (take i c.args.members.now),
      length-take i c.args.members.now,
    ) in
    (omega arith, some)
