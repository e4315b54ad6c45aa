use Rattle.std.proofs.Common.{ap, ◌∙◌, length}
use Rattle.cert_check.proofs.StoreLaws.{none_falls}
use Rattle.cert_check.proofs.cert_walk.CertWalk.lemma_values.Goals as goal

pub returns-clause-senders : goal.returns-clause-senders
returns-clause-senders c = λ problem stored. ap length c.values.ensures ∙ stored.2.senders

pub returns-clause-told : goal.returns-clause-told
returns-clause-told c = λ problem rows entries taken stays.
    c.values.ensures ∙ (taken.in_tree (none_falls c.args.self.now stays).0).kept
