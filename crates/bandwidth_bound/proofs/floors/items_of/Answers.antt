use Rattle.std.proofs.Common.{◌≡◌, ◌+◌, ◌-◌, count_by, nat_eq, nat_lt, take, drop, sym, ap, ◌∙◌, arith}
use Rattle.pack_model.specs.declared.item.Item.{Item}
use Rattle.grouping_tree.specs.Grouped.{items_in}
use Rattle.grouping_tree.proofs.Senders.{problem_rises, slice-is, slice_within}
use Rattle.bandwidth_bound.proofs.floors.items_of.Goals as goal

pub slice_bounds-result-end : goal.slice_bounds-result-end
slice_bounds-result-end c =
    omega (
      arith,
      c.count_before-first.ensures,
      c.count_of.ensures,
      slice_within c.in-Some.sender c.items-items.result.now,
    )

pub returns-in-Some-clause-items : goal.returns-in-Some-clause-items
returns-in-Some-clause-items c =
    let items = c.items-items.result.now in
    let sender = c.in-Some.sender in
    let first = c.count_before-first.result in
    let many : first + c.count_of.result - first ≡ count_by (λ (item : Item). nat_eq item.sender sender) items =
    omega (arith, c.count_of.ensures) in
    ap (λ n. take n (drop first items)) many
    ∙ ap (λ n. take (count_by (λ (item : Item). nat_eq item.sender sender) items) (drop n items))
    c.count_before-first.ensures
    ∙ ap (λ xs. take (count_by (λ (item : Item). nat_eq item.sender sender) xs)
    (drop (count_by (λ (item : Item). nat_lt item.sender sender) xs) xs)) c.items-items.ensures.items
    ∙ slice-is sender 0 c.args.problem.now.items
    (problem_rises c.args.problem.now c.items-items.ensures.problem)
    ∙ sym (ap (items_in c.args.problem.now.items) c.in-Some.is)
