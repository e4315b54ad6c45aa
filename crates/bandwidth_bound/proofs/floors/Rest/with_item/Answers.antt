use Rattle.std.proofs.Common.{◌+◌, Some, Contains, sym, ap, subst, ◌∙◌, arith, true≢false}
use Rattle.pack_model.specs.declared.item.Item.{Item}
use Rattle.bandwidth_bound.proofs.FloorsItems.{are_of, are_there, prices_fit, they_rise}
use Rattle.bandwidth_bound.proofs.FloorsRests.{in_work, is_first, left_with}
use Rattle.bandwidth_bound.proofs.floors.Rest.with_item.Goals as goal

pub price-requires : goal.price-requires
price-requires c =
    let item = c.index-items-place.result in
    subst (Contains c.args.problem.now.items) (sym c.index-items-place.is)
    (are_of c.args.problem.now c.args.items.now c.requires.range c.args.place item c.requires.below)

pub overflow_add-left : goal.overflow_add-left
overflow_add-left c =
    let problem = c.args.problem.now in
    let items = c.args.items.now in
    let item = c.index-items-place.result in
    let stands = c.price.ensures.problem in
    let is = left_with problem c.args.values.now items (they_rise problem stands items c.requires.range)
    (are_there problem stands items c.requires.range) c.args.place item c.requires.below
    c.index-items-place.is c.args.self c.requires.rest in
    omega (
      arith,
      is,
      c.price.ensures.price,
      prices_fit problem stands items c.requires.range c.args.place item.sender,
    )

pub returns-then-is_in_work : goal.returns-then-is_in_work
returns-then-is_in_work c =
    let problem = c.args.problem.now in
    let items = c.args.items.now in
    let item = c.index-items-place.result in
    let stands = c.price.ensures.problem in
    in_work problem c.args.values.now items (they_rise problem stands items c.requires.range)
    (are_there problem stands items c.requires.range) c.args.place item c.requires.below
    c.index-items-place.is c.args.self c.requires.rest (c.args.self.left + c.price.result)
    (ap (λ n. c.args.self.left + n) c.price.ensures.price)
    ((c.is_in_work.ensures item).0 c.if-is_in_work.true
    ∙ ap (λ (x : Item). Some x.sender) (sym c.index-items-place.is))

pub returns-else-is_in_work : goal.returns-else-is_in_work
returns-else-is_in_work c =
    let problem = c.args.problem.now in
    let items = c.args.items.now in
    let item = c.index-items-place.result in
    let stands = c.price.ensures.problem in
    is_first problem c.args.values.now items (they_rise problem stands items c.requires.range)
    (are_there problem stands items c.requires.range) c.args.place item c.requires.below
    c.index-items-place.is c.args.self c.requires.rest
    (λ e. true≢false (sym ((c.is_in_work.ensures item).1
    (e ∙ ap (λ (x : Item). Some x.sender) c.index-items-place.is)) ∙ c.if-is_in_work.false))
    (c.args.self.left + c.price.result) c.max-floor.result c.saturating_add.result
    (ap (λ n. c.args.self.left + n) c.price.ensures.price)
    (omega (arith, c.max-floor.ensures, c.value_at.ensures))
    c.saturating_add.ensures
