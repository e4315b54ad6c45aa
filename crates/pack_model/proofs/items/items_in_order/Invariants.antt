use Rattle.pack_model.proofs.OrderSteps.{IsSplit}
use Rattle.pack_model.proofs.items.items_in_order.Given as goal

-- the items so far and those at the places that are left are all items
abbrev pub invariant-loop-members : goal.invariant-loop-members
invariant-loop-members l = IsSplit (λ list. list.items) l.signals l.items.items l.members-iterator.rest.items
