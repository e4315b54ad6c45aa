use Rattle.std.proofs.Common.{◌≡◌, length, subst, take}
use Rattle.grouping_tree.specs.Grouped.{labels_of}
use Rattle.cert_check.specs.Places.{labels_with}
use Rattle.cert_check.proofs.PlaceSteps.{front-shorter}
use Rattle.cert_check.proofs.node_place.NodePlace.take_last.Goals as goal

pub returns-in-Some-clause-place : goal.returns-in-Some-clause-place
returns-in-Some-clause-place c =
    let old = c.args.self.now in
    let is = c.requires.place in
    let put = labels_of old.partial in
    record {
      belongs = is.belongs;
      legal = tt;
      long = is.long;
      front =
          front-shorter old.labels.items put c.in-Some.label
          (subst (λ ahead. take (length (labels_with put ahead)) old.labels.items ≡ labels_with put ahead)
          c.in-Some.is is.front);
    }
