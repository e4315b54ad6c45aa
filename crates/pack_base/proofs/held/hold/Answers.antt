use Rattle.std.proofs.Common.{arith}
use Rattle.std.proofs.lemmas.Map.Text.{text_keys}
use Rattle.pack_base.proofs.held.hold.Goals as goal

pub returns-clause-ok : goal.returns-clause-ok
returns-clause-ok c = record {
  told = λ told. told;
  at_name = λ told. grind (arith, text_keys);
  others = λ told other differs. grind (arith, text_keys);
}
