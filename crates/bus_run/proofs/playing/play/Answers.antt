use Rattle.std.proofs.Common.{length, sym, ap, arith}
use Rattle.bus_run.proofs.PlayLaws.{release_same, played_stands}
use Rattle.bus_run.proofs.playing.play.Goals as goal

pub returns-clause-stands : goal.returns-clause-stands
returns-clause-stands c =
    played_stands c.args.network.now c.args.frames.now c.args.picks.now c.loop-start.run c.loop-start.next
    c.loop-start.end c.requires.frames
    (λ release there. release_same c.args.frames.now _ c.loop-start.run release
    (sym c.loop-start.invariant.releases)
    (c.requires.releases release (omega (arith, ap length c.loop-start.invariant.releases))))
    c.loop-start.invariant.played c.in_default.ensures
