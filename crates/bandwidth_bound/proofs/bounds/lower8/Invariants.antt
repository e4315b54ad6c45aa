-- what is left where the items from the place on are not placed
use Rattle.std.proofs.Common.{◌≤◌}
use Rattle.bandwidth_bound.specs.Floors.{IsRest}
use Rattle.bandwidth_bound.proofs.bounds.lower8.Given as goal

abbrev pub invariant-loop-place : goal.invariant-loop-place
invariant-loop-place l = record {
  least : l.placed ≤ l.place;
  rest : IsRest l.problem l.lemmas l.items l.place l.rest;
}
