use Rattle.std.proofs.Common.{ℕ, ◌<◌, length, ap, subst, sym, ◌∙◌, Option, Some, None}
use Rattle.std.specs.Prelude.{IfSome}
use Rattle.pack_model.specs.Problem.{Parts}
use Rattle.cert_check.specs.declared.walk.Aim.{Aim}
use Rattle.cert_check.specs.Taken.{ComesNext}
use Rattle.cert_check.proofs.StoreLaws.{none_falls}
use Rattle.cert_check.proofs.cert_walk.CertWalk.lemma.Goals as goal

-- a sender that comes next is there
there : (problem : Parts) (last range : Option ℕ) → ComesNext problem last range
    → IfSome range (λ sender. sender < length problem.senders)
there problem last None next = tt
there problem None (Some sender) next = next
there problem (Some last) (Some sender) next = next.0

pub returns-clause-there : goal.returns-clause-there
returns-clause-there c = λ problem stored stays.
    let tree = stored.2.in_tree (none_falls c.args.self.now stays).0 in
    subst (λ range. IfSome range (λ sender. sender < length problem.senders))
    (sym (c.range.ensures ∙ ap (λ (aim : Aim). aim.range) tree.aim))
    (there problem stored.1.tree.last stored.1.tree.aim.range tree.next)
