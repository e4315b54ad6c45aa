use Rattle.std.proofs.Common.{◌≡◌, find, drop}
use Rattle.pack_model.specs.Problem.{is_too_large}
use Rattle.pack_model.proofs.items.large_pdu.Given as goal

-- the first that is too large is among the items that are left
abbrev pub invariant-loop-item : goal.invariant-loop-item
invariant-loop-item l = find is_too_large (drop l.item-index l.items) ≡ find is_too_large l.items
