use Rattle.std.proofs.Common.{subst, sym}
use Rattle.std.specs.Option.{option_copied, option_map}
use Rattle.cert_text.specs.PlainTree.{plain_of}
use Rattle.cert_check.specs.Said.{main_said}
use Rattle.cert_check.specs.Taken.{StoresMore, load_in}
use Rattle.cert_check.proofs.StoreLaws.{still, stores_then}
use Rattle.cert_check.proofs.check.take_main_tree.Goals as goal

pub take_tree-requires : goal.take_tree-requires
take_tree-requires c = still c.take_main.ensures c.requires

pub returns-in-Some : goal.returns-in-Some
returns-in-Some c =
    subst (λ t. StoresMore c.args.problem.now c.args.walk.now c.take_tree.new.self
    (main_said (load_in c.args.walk.now.placing) (option_map plain_of (option_copied t)))) (sym c.in-Some.is)
    (stores_then c.take_main.ensures c.take_tree.ensures)
