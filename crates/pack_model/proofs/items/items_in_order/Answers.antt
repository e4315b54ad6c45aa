use Rattle.std.proofs.Common.{arith, Vec, ℕ, Global}
use Rattle.pack_model.proofs.OrderSteps.{split_begins, split_head, split_more, split_ends}
use Rattle.pack_model.proofs.items.items_in_order.Goals as goal

pub loop-members-init : goal.loop-members-init
loop-members-init c =
    split_begins (λ (v : Vec ℕ Global). v.items) c.args.signals.now c.in_ok-items.items.items
    c.into_iter-members-iterator.result.rest.items
    c.args.places.items c.requires.few c.in_ok-items.ensures.items
    c.into_iter-members-iterator.ensures.into_iter_gives.0 c.requires.places

pub item_at-requires-clause-places : goal.item_at-requires-clause-places
item_at-requires-clause-places c =
    split_head (λ (v : Vec ℕ Global). v.items) c.args.signals.now c.loop-members.items.items _ _
    c.in-Some.members c.loop-members.invariant
    c.in-Some.ensures.steps.0

pub loop-members-preserved : goal.loop-members-preserved
loop-members-preserved c =
    split_more (λ (v : Vec ℕ Global). v.items) c.args.signals.now c.loop-members.items.items _ _ _
    c.in-Some.members c.item_at.result
    c.loop-members.invariant c.in-Some.ensures.steps.0 c.item_at.ensures c.in_ok-push.ensures.items

pub returns : goal.returns
returns c =
    split_ends (λ (v : Vec ℕ Global). v.items) c.args.signals.now _ _ c.loop-members.invariant
    (let e = c.in-None.ensures.steps in omega arith)
