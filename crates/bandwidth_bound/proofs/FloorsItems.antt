-- What the items of a range are: by sender, of senders that are there, and with prices that are not great.
use Rattle.std.proofs.Common.{◌≡◌, ℕ, ◌*◌, ◌/◌, ◌<◌, ◌≤◌, Bool, true, false, if◌then◌else◌, List, [], ◌∷◌, length, drop, Option, None, Some, All, Contains, get_or, sym, ap, subst, arith}
use Rattle.std.specs.Int.{div_ceil}
use Rattle.std.proofs.Math.Nat.{mul-le-mul}
use Rattle.std.proofs.lemmas.Grind.{div_ceil_times}
use Rattle.std.proofs.lemmas.List.{length-drop}
use Rattle.std.proofs.lemmas.List.Elements.{All-contains, All-contains_itself, All-cons, All-drop, All-nil}
use Rattle.std.proofs.lemmas.List.Sums.{sum_by-cons, sum_by-le}
use Rattle.std.proofs.lemmas.List.Sorted.{IsPermutation-refl}
use Rattle.pack_model.specs.declared.item.Item.{Item}
use Rattle.pack_model.specs.Problem.{Parts, IsProblem, items_in_order, senders_of, sent_by}
use Rattle.pack_model.proofs.ItemFacts.{IsItemOf, items_of_signals, members_within, small_items}
use Rattle.pack_model.proofs.Laws.{tests}
use Rattle.pack_model.proofs.OrderSteps.{all_numbered}
use Rattle.pack_model.proofs.ProblemItems.{of_problem}
use Rattle.class_frame.specs.Frame.{is_pdu, period_of_items, weight_of_item}
use Rattle.class_frame.specs.Laws.{HasSignal}
use Rattle.class_frame.specs.Sums.{AreSums, IsSmall, sums_of}
use Rattle.class_frame.specs.declared.sums.Sums.{Sums}
use Rattle.class_frame.proofs.Small.{sums_of-small}
use Rattle.class_frame.proofs.Used.{items_have_signal}
use Rattle.grouping_tree.specs.Grouped.{items_in}
use Rattle.grouping_tree.proofs.Senders.{Rises, problem_rises}
use Rattle.bandwidth_bound.specs.Floors.{AreInRange}
use Rattle.bandwidth_bound.specs.Prices.{price_of, prices_of}
use Rattle.bandwidth_bound.proofs.PriceItems.{rises_sent, sent_all, sent_few}

-- the senders of a problem's items are there
senders_there : (problem : Parts) → IsProblem problem
    → All (λ item. item.sender < length problem.senders) problem.items
senders_there problem stands =
    subst (λ n. All (λ item. item.sender < n) problem.items) (sym (ap length (tests problem stands).senders))
    (of_problem problem stands (λ item. item.sender < length (senders_of problem.signals))
    (all_numbered problem.signals))

-- and of its signals
has_signal : (problem : Parts) → IsProblem problem → All (IsItemOf problem.signals) problem.items
has_signal problem stands =
    of_problem problem stands (IsItemOf problem.signals)
    (items_of_signals problem.signals (items_in_order problem.signals)
    (IsPermutation-refl (items_in_order problem.signals)))

pub item_has_signal : (problem : Parts) → IsProblem problem → (item : Item) → Contains problem.items item
    → HasSignal problem (item ∷ [])
item_has_signal problem stands item there =
    items_have_signal problem (item ∷ []) (omega arith)
    (All-cons (IsItemOf problem.signals) item []
    (All-contains (IsItemOf problem.signals) problem.items item (has_signal problem stands) there)
    (All-nil (IsItemOf problem.signals)))

-- what the sums of an item need
pub item_small : (problem : Parts) → IsProblem problem → (item : Item) → Contains problem.items item
    → item.bits ≤ 512
item_small problem stands item there =
    All-contains (λ (item : Item). item.bits ≤ 512) problem.items item (small_items problem stands) there

pub item_members : (problem : Parts) → IsProblem problem → (item : Item) → Contains problem.items item
    → All (λ place. place < length problem.signals) item.members
item_members problem stands item there =
    let order : List Item = items_in_order problem.signals in
    All-contains (λ (item : Item). All (λ place. place < length problem.signals) item.members) problem.items
    item
    (of_problem problem stands (λ item. All (λ place. place < length problem.signals) item.members)
    (members_within problem.signals order (IsPermutation-refl order))) there

pub item_sums : (problem : Parts) → IsProblem problem → (item : Item) → Contains problem.items item
    → IsSmall (sums_of problem (item ∷ []))
item_sums problem stands item there =
    sums_of-small problem (item ∷ []) (omega arith)
    (All-cons (λ (item : Item). item.bits ≤ 512) item [] (item_small problem stands item there)
    (All-nil (λ (item : Item). item.bits ≤ 512)))

pub weight_is : (problem : Parts) (item : Item) (sums : Sums) → AreSums problem (item ∷ []) sums
    → sums.weight ≡ weight_of_item item
weight_is problem item sums are =
    omega (arith, ap (λ (s : Sums). s.weight) are, sum_by-cons weight_of_item item [])

-- an item of 512 bits weighs no more
pub weight_low : (item : Item) → item.bits ≤ 512 → weight_of_item item ≤ 512
weight_low item small = by (is_pdu item)
  where
    by : (b : Bool) → (if b then 8 * div_ceil item.bits 8 else item.bits) ≤ 512
    by true = let ceil = (div_ceil_times item.bits 8 (omega arith)).1 in omega (arith, ceil)
    by false = omega arith

-- a quotient is at most what is divided
div_low : (a b : ℕ) → a / b ≤ a
div_low a b = omega arith

pub bits_low : (bit weight : ℕ) → bit ≤ 10000 → weight ≤ 512 → 10 * bit * weight ≤ 51200000
bits_low bit weight a b = let both : bit * weight ≤ 10000 * 512 = mul-le-mul a b in omega (arith, both)

price_low : (bit weight rate : ℕ) → bit ≤ 10000 → weight ≤ 512 → rate ≤ 1000000000000000
    → 10 * bit * weight * rate ≤ 51200000000000000000000
price_low bit weight rate a b c =
    let one : bit * weight ≤ 10000 * 512 = mul-le-mul a b in
    let all : bit * weight * rate ≤ 10000 * 512 * 1000000000000000 = mul-le-mul one c in
    omega (arith, all)

-- what holds of all items of the problem holds of those of a range
all_in : (problem : Parts) (items : List Item) → AreInRange problem items → (P : Item → Type 0)
    → All P problem.items → All P items
all_in problem items in_range P all = subst (All P) (sym in_range.1) (by in_range.0)
  where
    by : (range : Option ℕ) → All P (items_in problem.items range)
    by None = all
    by (Some s) = sent_all P s problem.items all

pub are_of : (problem : Parts) (items : List Item) → AreInRange problem items
    → All (Contains problem.items) items
are_of problem items in_range =
    all_in problem items in_range (Contains problem.items) (All-contains_itself problem.items)

module _ (problem : Parts) (stands : IsProblem problem) where
  prices_low : All (λ item. price_of problem item ≤ 51200000000000000000000) problem.items
  prices_low k d lt =
      let item = get_or problem.items k d in
      price_low problem.network.data_ticks (weight_of_item item)
      (problem.hyper / period_of_items problem (item ∷ []))
      (omega (arith, stands.network.data_high, stands.network.nominal_high))
      (weight_low item (small_items problem stands k d lt))
      (omega (
        arith,
        div_low problem.hyper (period_of_items problem (item ∷ [])),
        (tests problem stands).hyper_high,
      ))

  module _ (items : List Item) (in_range : AreInRange problem items) where
    pub are_there : All (λ item. item.sender < length problem.senders) items
    are_there = all_in problem items in_range (λ item. item.sender < length problem.senders) (senders_there problem stands)

    pub they_rise : Rises 0 items
    they_rise = subst (Rises 0) (sym in_range.1) (by in_range.0)
      where
        by : (range : Option ℕ) → Rises 0 (items_in problem.items range)
        by None = problem_rises problem stands
        by (Some s) = rises_sent 0 s problem.items (problem_rises problem stands)

    pub are_few : length items ≤ length problem.items
    are_few = omega (arith, ap length in_range.1, by in_range.0)
      where
        by : (range : Option ℕ) → length (items_in problem.items range) ≤ length problem.items
        by None = omega arith
        by (Some s) = sent_few s problem.items

    -- the prices of some of them are within 128 bits
    pub prices_fit : (place s : ℕ)
        → prices_of problem (sent_by (drop place items) s) ≤ 6553600000000000000000000
    prices_fit place s =
        let all = sum_by-le (price_of problem) 51200000000000000000000 (sent_by (drop place items) s)
        (sent_all (λ item. price_of problem item ≤ 51200000000000000000000) s (drop place items)
        (All-drop (λ item. price_of problem item ≤ 51200000000000000000000) place items
        (all_in problem items in_range (λ item. price_of problem item ≤ 51200000000000000000000) prices_low))) in
        omega (
          arith,
          all,
          sent_few s (drop place items),
          length-drop place items,
          are_few,
          (tests problem stands).few_items,
        )
