use Rattle.std.proofs.Common.{subst, sym}
use Rattle.grouping_tree.specs.Grouped.{items_in}
use Rattle.grouping_tree.specs.Partial.{IsPartial}
use Rattle.cert_check.specs.Places.{labels_at}
use Rattle.cert_check.proofs.Nexts.{range_is}
use Rattle.cert_check.proofs.PlaceSteps.{place_legal}
use Rattle.cert_check.proofs.StoreLaws.{none_falls}
use Rattle.cert_check.proofs.cert_walk.CertWalk.path.Goals as goal

pub place-requires : goal.place-requires
place-requires c = (
  c.requires.stored.0,
  (c.requires.stored.1.2.in_tree (none_falls c.args.self.now c.requires.stands).0).walks,
)

pub returns-clause-legal : goal.returns-clause-legal
returns-clause-legal c = λ problem stored.
    let walks = (stored.2.in_tree (none_falls c.args.self.now c.requires.stands).0).walks in
    subst (IsPartial (items_in problem.items c.args.self.now.walk.aim.range)) (sym c.place.ensures)
    (subst (λ items. IsPartial items (labels_at c.args.self.now.walk.place))
    (range_is problem c.args.self.now.walk walks)
    (place_legal problem c.args.self.now.walk.place walks.ready.place))
