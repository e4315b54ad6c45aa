use Rattle.std.proofs.Common.{◌≡◌, [], take, drop}
use Rattle.pack_model.specs.Problem.{names_of, first_repeat}
use Rattle.pack_model.proofs.problem.numbered_names.Given as goal

-- the names so far are there, and where they end the search for a repeat goes on
abbrev pub invariant-loop-place : goal.invariant-loop-place
invariant-loop-place l = record {
  names : l.names.keys ≡ take l.place (names_of l.signals);
  rest : first_repeat l.names.keys (drop l.place (names_of l.signals)) ≡ first_repeat [] (names_of l.signals);
}
