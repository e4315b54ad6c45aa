use Rattle.std.proofs.Common.{◌≡◌, take}
use Rattle.cert_check.specs.Places.{IsOver, IsPlace, labels_at}
use Rattle.cert_check.proofs.walk.put_each.Given as goal

-- the first labels are put
abbrev pub invariant-loop-label : goal.invariant-loop-label
invariant-loop-label l = record {
  place : IsPlace l.problem l.place;
  labels : labels_at l.place ≡ take l.label-index l.labels;
  over : IsOver l.problem l.initial.place l.place;
}
