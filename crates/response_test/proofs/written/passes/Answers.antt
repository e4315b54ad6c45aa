use Rattle.std.proofs.Common.{◌+◌, arith}
use Rattle.busy_period.proofs.Stages.{front_is_named}
use Rattle.response_test.proofs.Level.{passes_of_front}
use Rattle.response_test.proofs.written.passes.Goals as goal

pub last_passes-requires-clause-named : goal.last_passes-requires-clause-named
last_passes-requires-clause-named c =
    front_is_named c.args.frames.now c.args.order.now c.args.place (c.args.place + 1) c.requires.stage (omega arith)

pub returns : goal.returns
returns c =
    passes_of_front c.args.frames.now c.args.order.now c.args.place c.args.bit c.blocking-blocked.result c.last_passes.result
    c.requires.stage.inside c.blocking-blocked.ensures.value c.last_passes.ensures
