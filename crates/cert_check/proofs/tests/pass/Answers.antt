use Rattle.std.proofs.Common.{[], ◌∷◌, ◌++◌}
use Rattle.cert_text.specs.Trees.{m_bound}
use Rattle.cert_check.specs.Entries.{as_hole}
use Rattle.cert_check.proofs.tests.pass.Goals as goal

-- of whatever tree
pub returns : goal.returns
returns c =
    let old = c.requires in
    (old.0, old.1 ++ as_hole m_bound ∷ [], c.pass_over.ensures.taken old.0 old.1 m_bound old.2)
