use Rattle.std.proofs.lemmas.Bool.{false≢true}
use Rattle.serde_json.specs.View.{view}
use Rattle.input_text.proofs.NetworkLaws.{value_read, value_refused}
use Rattle.input_text.proofs.network.read_value.Goals as goal
use Rattle.input_text.proofs.network.read_value.Goals.{then-is_memory, else-is_memory}

pub returns-in-Ok : goal.returns-in-Ok
returns-in-Ok c =
    value_read c.args.text.now c.without_mark.result.now
    (view c.in-Ok.value) c.without_mark.ensures c.in-Ok.ensures.ok.0 c.in-Ok.ensures.ok.1

pub returns-after-is_memory : goal.returns-after-is_memory
returns-after-is_memory c = elim c.if-is_memory.branch [
  | then-is_memory w ↦ rw w.result-is tt
  | else-is_memory w ↦
      rw w.result-is (value_refused c.args.text.now c.without_mark.result.now c.without_mark.ensures
      (c.in-Err.ensures.err (λ memory. false≢true (w.if-is_memory.ensures.1 memory))))
]
