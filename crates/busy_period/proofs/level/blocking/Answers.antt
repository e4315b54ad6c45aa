use Rattle.std.proofs.Common.{◌≡◌, ◌+◌, ◌-◌, length, take, drop, arith}
use Rattle.std.proofs.lemmas.Grind.{common_steps}
use Rattle.busy_period.proofs.Stages.{back_is_named}
use Rattle.busy_period.proofs.level.blocking.Goals as goal

pub greatest_ticks-requires : goal.greatest_ticks-requires
greatest_ticks-requires c =
    let whole : take (length c.args.order.now - (c.args.place + 1)) (drop (c.args.place + 1) c.args.order.now)
    ≡ drop (c.args.place + 1) c.args.order.now =
    grind (arith, common_steps) in
    rw whole (back_is_named c.args.frames.now c.args.order.now c.args.place (c.args.place + 1) c.requires)
