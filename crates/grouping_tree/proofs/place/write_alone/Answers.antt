use Rattle.std.proofs.Common.{◌≡◌, ◌≤◌, ◌<◌, ◌+◌, ℕ, [], ◌∷◌, length, take, drop, get_or, All, sym, ap, subst, ◌∙◌, arith, length-set}
use Rattle.std.proofs.lemmas.List.{get_or_default}
use Rattle.pack_model.specs.declared.item.Item.{Item}
use Rattle.pack_model.proofs.ItemFacts.{members_within, small_items}
use Rattle.grouping_tree.specs.Class.{IsClass}
use Rattle.grouping_tree.proofs.Steps.{length-range, range_at, set_more}
use Rattle.grouping_tree.proofs.Used.{item_signal}
use Rattle.grouping_tree.proofs.place.write_alone.Goals as goal

pub alone-requires-clause-small : goal.alone-requires-clause-small
alone-requires-clause-small c =
    let problem = c.args.problem.now in
    let item = c.index-items-place.result in
    let place : ℕ = c.args.place.first + c.loop-number.number in
    let at : item ≡ get_or problem.items place item = c.index-items-place.is ∙ ap (λ xs. get_or xs place item) c.items.ensures.items in
    subst (λ (x : Item). x.bits ≤ 512) (sym at)
    (small_items problem c.items.ensures.problem place item (omega (arith, c.requires.inside, c.loop-number-test.true)))

pub alone-requires-clause-members : goal.alone-requires-clause-members
alone-requires-clause-members c =
    let problem = c.args.problem.now in
    let item = c.index-items-place.result in
    let place : ℕ = c.args.place.first + c.loop-number.number in
    let at : item ≡ get_or problem.items place item = c.index-items-place.is ∙ ap (λ xs. get_or xs place item) c.items.ensures.items in
    subst (λ (x : Item). All (λ place. place < length problem.signals) x.members) (sym at)
    (members_within problem.signals problem.items c.items.ensures.sorted place item (omega (arith, c.requires.inside, c.loop-number-test.true)))

pub alone-requires-clause-signal : goal.alone-requires-clause-signal
alone-requires-clause-signal c =
    let problem = c.args.problem.now in
    let item = c.index-items-place.result in
    let place : ℕ = c.args.place.first + c.loop-number.number in
    let at : item ≡ get_or problem.items place item = c.index-items-place.is ∙ ap (λ xs. get_or xs place item) c.items.ensures.items in
    item_signal problem c.items.ensures.problem place item (omega (arith, c.requires.inside, c.loop-number-test.true)) at

pub loop-number-preserved : goal.loop-number-preserved
loop-number-preserved c =
    let problem = c.args.problem.now in
    let n : ℕ = c.loop-number.number in
    let range = take c.args.place.many (drop c.args.place.first problem.items) in
    let it = c.index-items-place.result in
    let inside : c.args.place.first + n < length problem.items = omega (arith, c.requires.inside, c.loop-number-test.true) in
    let at = λ (item : Item).
    c.index-items-place.is ∙ ap (λ xs. get_or xs (c.args.place.first + n) it) c.items.ensures.items
    ∙ get_or_default problem.items (c.args.place.first + n) it item inside
    ∙ sym (range_at c.args.place.first c.args.place.many problem.items n item c.loop-number-test.true) in
    record {
      room = length-set c.loop-number.alone.items n c.alone.result ∙ c.loop-number.invariant.room;
      each = λ i d item lt.
          set_more (λ k v. (x : Item) → IsClass problem (get_or range k x ∷ []) v) c.loop-number.alone.items n c.alone.result
          (omega (arith, c.loop-number.invariant.room, c.requires.room, c.loop-number-test.true))
          (λ x. subst (λ y. IsClass problem (y ∷ []) c.alone.result) (at x) c.alone.ensures)
          (λ k e low x. c.loop-number.invariant.each k e x low) i d lt item;
    }

pub returns-clause-each : goal.returns-clause-each
returns-clause-each c = λ i d item lt.
    c.loop-number.invariant.each i d item
    (omega (
      arith,
      lt,
      length-range c.args.place.first c.args.place.many c.args.problem.now.items c.requires.inside,
      c.loop-number-test.false,
    ))
