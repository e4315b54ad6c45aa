use Rattle.std.proofs.Common.{refl}
use Rattle.cert_text.specs.MadeBy.{nodes_of}
use Rattle.cert_text.proofs.builder.Builder.new.Goals as goal

pub returns : goal.returns
unfolding nodes_of
returns c = rw (c.new.ensures.items, c.new-2.ensures.items, c.new-3.ensures.items) refl
