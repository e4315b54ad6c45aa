use Rattle.std.proofs.Common.{count_by, nat_eq, nat_lt, take, drop, sym, ap, ◌∙◌, arith}
use Rattle.pack_model.specs.declared.item.Item.{Item}
use Rattle.grouping_tree.specs.Grouped.{items_in}
use Rattle.grouping_tree.proofs.Senders.{problem_rises, slice-is, slice_within}
use Rattle.grouping_tree.proofs.place.place_in.Goals as goal

pub returns-in-Some-clause-slice : goal.returns-in-Some-clause-slice
returns-in-Some-clause-slice c =
    let items = c.args.problem.now.items in
    let number = c.in-Some.number in
    ap (λ n. take c.count_of.result (drop n items)) (c.count_before.ensures ∙ ap (λ xs. count_by (λ (item : Item). nat_lt item.sender number) xs) c.items-items.ensures.items)
    ∙ ap (λ n. take n (drop (count_by (λ (item : Item). nat_lt item.sender number) items) items)) (c.count_of.ensures ∙ ap (λ xs. count_by (λ (item : Item). nat_eq item.sender number) xs) c.items-items.ensures.items)
    ∙ slice-is number 0 items (problem_rises c.args.problem.now c.items-items.ensures.problem) ∙ sym (ap (items_in items) c.in-Some.is)

pub returns-in-Some-clause-inside : goal.returns-in-Some-clause-inside
returns-in-Some-clause-inside c =
    let items = c.args.problem.now.items in
    let number = c.in-Some.number in
    omega (
      arith,
      c.count_before.ensures,
      ap (λ xs. count_by (λ (item : Item). nat_lt item.sender number) xs) c.items-items.ensures.items,
      c.count_of.ensures,
      ap (λ xs. count_by (λ (item : Item). nat_eq item.sender number) xs) c.items-items.ensures.items,
      slice_within number items,
    )
