-- the table is filled from the place on
use Rattle.std.proofs.Common.{ℕ, ◌≡◌, ◌≤◌, get_or, length}
use Rattle.bandwidth_bound.specs.Floors.{IsRest}
use Rattle.bandwidth_bound.specs.declared.floors.Rest.{Rest}
use Rattle.bandwidth_bound.proofs.floors.Floors.fill.Given as goal

abbrev pub invariant-loop-place : goal.invariant-loop-place
invariant-loop-place l = record {
  room : length l.self.rests.items ≡ length l.initial.self.rests.items;
  rest : IsRest l.problem l.values l.items l.place l.rest;
  filled : (placed : ℕ) (d : Rest) → l.place ≤ placed → placed ≤ length l.items
      → IsRest l.problem l.values l.items placed (get_or l.self.rests.items placed d);
}
