use Rattle.std.proofs.Common.{rules}
use Rattle.std.proofs.lemmas.List.Sorted.{answers_always}
use Rattle.pack_model.proofs.BySender.{sorted_by_sender}
use Rattle.pack_model.proofs.items.sort_by_sender.Goals as goal

pub returns-clause-order : goal.returns-clause-order
returns-clause-order c =
    λ n all. sorted_by_sender n c.args.items.now.items c.sort_by_key.new.self.items
    (c.in_ok-sort_by_key.ensures.sorted (λ item. item.sender)
    (answers_always _ _ _ (λ f a r f' k. search rules)))
    (c.in_ok-sort_by_key.ensures.stable (λ item. item.sender)
    (answers_always _ _ _ (λ f a r f' k. search rules))) c.in_ok-sort_by_key.ensures.permutation all
