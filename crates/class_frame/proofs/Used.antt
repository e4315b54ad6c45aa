-- The classes of a grouping have signals, and their sums are small.
use Rattle.std.proofs.Common.{ℕ, ◌<◌, ◌≤◌, List, [], ◌∷◌, length, All, slice_get, ap, arith, length-append}
use Rattle.std.specs.List.{filter_map, cons_option}
use Rattle.std.proofs.lemmas.Option.{slice_get-get_or}
use Rattle.std.proofs.lemmas.List.Elements.{All-head}
use Rattle.pack_model.specs.declared.item.Item.{Item}
use Rattle.pack_model.specs.declared.signal.Signal.{Signal}
use Rattle.pack_model.specs.Problem.{Parts}
use Rattle.pack_model.proofs.ItemFacts.{IsItemOf}
use Rattle.class_frame.specs.Frame.{signals_of_items}
use Rattle.class_frame.specs.Grouping.{classes_of, class_of, AreFirstLabels, IsGrouping}
use Rattle.class_frame.specs.Laws.{HasSignal}
use Rattle.class_frame.specs.Sums.{sums_of, IsSmall}
use Rattle.class_frame.proofs.GroupingLaws.{All-class_of, class_of-some, front_of, length-class_of, used}
use Rattle.class_frame.proofs.Small.{sums_of-small}

-- an item of signals has a signal
item_some : (signals : List Signal) (item : Item) → IsItemOf signals item → 1 ≤ length (filter_map (slice_get signals) item.members)
item_some signals item is =
    omega (arith, ap (λ l. length (filter_map (slice_get signals) l)) is.members, ap (λ o. length (cons_option o (filter_map (slice_get signals) is.rest))) (slice_get-get_or signals is.place is.signal is.within))

-- and so have some items
pub items_have_signal : (problem : Parts) (items : List Item) → 1 ≤ length items → All (IsItemOf problem.signals) items → HasSignal problem items
items_have_signal problem [] some all = absurd (omega arith)
items_have_signal problem (item ∷ items) some all =
    omega (arith, length-append (filter_map (slice_get problem.signals) item.members) (signals_of_items problem items), item_some problem.signals item (All-head (IsItemOf problem.signals) item items all))

-- each class of labels of the first items has a signal
pub front_has_signal : (problem : Parts) (items : List Item) (labels : List ℕ) (label : ℕ) → All (IsItemOf problem.signals) items → AreFirstLabels items labels → label < classes_of labels → HasSignal problem (class_of label labels items)
front_has_signal problem items labels label all front low =
    let (k, lt, at) = used labels front.by_first_use label low in
    items_have_signal problem (class_of label labels items) (class_of-some label labels items k lt (omega (arith, lt, front.within)) at) (All-class_of (IsItemOf problem.signals) label labels items all)

-- and so has each class of a grouping
pub class_has_signal : (problem : Parts) (items : List Item) (labels : List ℕ) (label : ℕ) → All (IsItemOf problem.signals) items → IsGrouping items labels → label < classes_of labels → HasSignal problem (class_of label labels items)
class_has_signal problem items labels label all grouping low = front_has_signal problem items labels label all (front_of items labels grouping) low

-- the sums of each class of few items are small
pub class_is_small : (problem : Parts) (items : List Item) (labels : List ℕ) (label : ℕ) → length items ≤ 128 → All (λ item. item.bits ≤ 512) items → IsSmall (sums_of problem (class_of label labels items))
class_is_small problem items labels label few small =
    sums_of-small problem (class_of label labels items) (omega (arith, few, length-class_of label labels items)) (All-class_of (λ (item : Item). item.bits ≤ 512) label labels items small)
