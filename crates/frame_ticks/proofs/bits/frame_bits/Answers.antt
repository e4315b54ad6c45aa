use Rattle.std.proofs.Common.{arith}
use Rattle.std.proofs.lemmas.Grind.{common_steps}
use Rattle.frame_ticks.proofs.bits.frame_bits.Goals as goal

pub returns-clause-frame : goal.returns-clause-frame
returns-clause-frame c = record {
  id = c.args.id;
  esi = c.args.esi;
  payload = c.args.payload.now;
  id_high = c.requires.id_high;
  listed = c.requires.listed;
  same = grind (arith, common_steps);
}
