-- As items join a class it costs no less than it did with their prices, less its slack.
use Rattle.std.proofs.Common.{◌≡◌, ℕ, ◌+◌, ◌-◌, ◌*◌, ◌/◌, ◌≤◌, ◌||◌, Bool, true, false, if◌then◌else◌, List, [], ◌∷◌, ◌++◌, length, map, fold, min, sum_by, All, unwrap_or, refl, ap, subst, ◌∙◌, arith}
use Rattle.std.specs.List.{list_any}
use Rattle.std.specs.Int.{div_ceil}
use Rattle.std.proofs.Math.Nat.{mul-le-mul, mul-le-mul_left, mul-le-mul_right}
use Rattle.std.proofs.lemmas.Grind.{div_ceil_times}
use Rattle.std.proofs.lemmas.List.{map-append, length-map}
use Rattle.std.proofs.lemmas.List.Elements.{All-nil, All-cons, All-head, All-tail, All-weaker}
use Rattle.std.proofs.lemmas.List.Sums.{sum_by-cons, sum_by-append, sum-map}
use Rattle.pack_model.specs.declared.item.Item.{Item}
use Rattle.pack_model.specs.declared.signal.Signal.{Signal}
use Rattle.pack_model.specs.Problem.{Parts, IsProblem}
use Rattle.pack_model.proofs.ItemFacts.{IsItemOf}
use Rattle.fd_length.proofs.Sizes.{fd_size_of-some, IsFdSize-from_value}
use Rattle.container_pdu.specs.Bytes.{bytes_of_parts}
use Rattle.frame_ticks.proofs.WorstLaws.{worst_ticks_of-step, worst_ticks_of-data, worst_ticks_of-rises}
use Rattle.class_frame.specs.Frame.{bytes_of_item, bytes_of_items, ids_of, is_pdu, least, load_of_items, period_of_items, signals_of_items, size_of_items, ticks_of_items, weight_of_item, weight_of_items}
use Rattle.class_frame.specs.Laws.{HasSignal}
use Rattle.class_frame.specs.Legal.{ClassStands}
use Rattle.class_frame.proofs.Bytes.{bytes-front}
use Rattle.class_frame.proofs.Folds.{least_has}
use Rattle.class_frame.proofs.Harder.{more_is_harder, size-front}
use Rattle.class_frame.proofs.Joining.{signals-append}
use Rattle.class_frame.proofs.Ranges.{frame_in_range}
use Rattle.class_frame.proofs.Used.{items_have_signal}
use Rattle.grouping_tree.specs.Slack.{slack_of}
use Rattle.bandwidth_bound.specs.Laws.{AreOf}
use Rattle.bandwidth_bound.specs.Prices.{price_of, prices_of}
use Rattle.bandwidth_bound.proofs.Extend.{are_items, div-rises}

-- the inequality over plain numbers: the ticks of a data bit, and of a class and a larger one the sizes,
-- weights, rates and lengths
class_costs : (bit size larger weight added rate higher ticks longer : ℕ) → size ≤ larger
    → weight ≤ 8 * size → weight + added ≤ 8 * larger → rate ≤ higher
    → ticks + 10 * (larger - size) * bit ≤ longer → 10 * size * bit ≤ ticks
    → 8 * (ticks * rate) + 10 * bit * added * higher
    ≤ 8 * (longer * higher) + 10 * bit * (8 * size - weight) * rate
class_costs bit size larger weight added rate higher ticks longer rises inside fit faster step least =
    let slack : ℕ = 8 * size - weight in
    let more : ℕ = higher - rate in
    let bits : added ≤ 8 * (larger - size) + slack = omega arith in
    let ten : 10 * bit * added ≤ 10 * bit * (8 * (larger - size) + slack) = mul-le-mul_left (10 * bit) bits in
    let longer8 : 8 * ticks + 10 * bit * added ≤ 8 * longer + 10 * bit * slack = omega (arith, ten, step) in
    let all : (8 * ticks + 10 * bit * added) * higher ≤ (8 * longer + 10 * bit * slack) * higher =
    mul-le-mul_right higher longer8 in
    let few : slack ≤ 8 * size = omega arith in
    let low : 10 * bit * slack ≤ 10 * bit * (8 * size) = mul-le-mul_left (10 * bit) few in
    let low8 : 10 * bit * slack ≤ 8 * ticks = omega (arith, low, least) in
    let extra : 10 * bit * slack * more ≤ 8 * ticks * more = mul-le-mul_right more low8 in
    let split : higher ≡ rate + more = omega arith in
    let one : 10 * bit * slack * higher ≡ 10 * bit * slack * rate + 10 * bit * slack * more =
    ap (λ h. 10 * bit * slack * h) split ∙ omega arith in
    let two : 8 * ticks * higher ≡ 8 * ticks * rate + 8 * ticks * more =
    ap (λ h. 8 * ticks * h) split ∙ omega arith in
    omega (arith, all, extra, one, two)

-- a weight is at most 8 times the bytes
item_weight : (item : Item) → weight_of_item item ≤ 8 * bytes_of_item item
item_weight item = by (is_pdu item)
  where
    bits : item.bits ≤ div_ceil item.bits 8 * 8
    bits = (div_ceil_times item.bits 8 (omega arith)).0

    by : (b : Bool) → (if b then 8 * bytes_of_item item else item.bits) ≤ 8 * bytes_of_item item
    by true = omega arith
    by false = omega (arith, bits)

all_weights : (items : List Item) → weight_of_items items ≤ 8 * sum_by bytes_of_item items
all_weights [] = omega arith
all_weights (item ∷ items) =
    omega (
      arith,
      item_weight item,
      all_weights items,
      sum_by-cons weight_of_item item items,
      sum_by-cons bytes_of_item item items,
    )

-- free items weigh their bits
free_weights : (items : List Item) → list_any is_pdu items ≡ false
    → weight_of_items items ≡ sum_by (λ item. item.bits) items
free_weights [] free = refl
free_weights (item ∷ items) free = by (is_pdu item) refl free (free_weights items)
  where
    by : (b : Bool) → is_pdu item ≡ b → (b || list_any is_pdu items) ≡ false
        → (list_any is_pdu items ≡ false → weight_of_items items ≡ sum_by (λ item. item.bits) items)
        → weight_of_items (item ∷ items) ≡ sum_by (λ item. item.bits) (item ∷ items)
    by true e free ih = absurd cc
    by false e free ih =
        let here : weight_of_item item ≡ item.bits =
        ap (λ b. if b then 8 * bytes_of_item item else item.bits) e in
        omega (
          arith,
          here,
          ih free,
          sum_by-cons weight_of_item item items,
          sum_by-cons (λ (item : Item). item.bits) item items,
        )

bytes_hold : (items : List Item) → weight_of_items items ≤ 8 * bytes_of_items items
bytes_hold items = by (list_any is_pdu items) refl
  where
    by : (b : Bool) → list_any is_pdu items ≡ b
        → weight_of_items items ≤ 8 * (if b then bytes_of_parts (ids_of items) (map bytes_of_item items)
        else div_ceil (sum_by (λ item. item.bits) items) 8)
    by true e = omega (arith, all_weights items, sum-map bytes_of_item items)
    by false e =
        omega (
          arith,
          free_weights items e,
          (div_ceil_times (sum_by (λ item. item.bits) items) 8 (omega arith)).0,
        )

-- and so at most 8 times the size of the frame
size_holds : (items : List Item) → bytes_of_items items ≤ 64
    → weight_of_items items ≤ 8 * unwrap_or (size_of_items items) 0
size_holds items small =
    let (size, at) = fd_size_of-some (bytes_of_items items) small in
    let enough = (IsFdSize-from_value (bytes_of_items items) size at).enough in
    omega (arith, bytes_hold items, enough, ap (λ o. unwrap_or o 0) at)

-- the least of some numbers is at most each
fold_below : (start : ℕ) (xs : List ℕ) → fold min start xs ≤ start
fold_below start [] = omega arith
fold_below start (x ∷ xs) = omega (arith, fold_below (min start x) xs)

fold_each : (start : ℕ) (xs : List ℕ) → All (λ x. fold min start xs ≤ x) xs
fold_each start [] = All-nil (λ x. start ≤ x)
fold_each start (x ∷ xs) =
    All-cons (λ y. fold min (min start x) xs ≤ y) x xs (omega (arith, fold_below (min start x) xs))
    (fold_each (min start x) xs)

least_each : (xs : List ℕ) → All (λ x. least xs ≤ x) xs
least_each [] = All-nil (λ x. 0 ≤ x)
least_each (x ∷ xs) = All-cons (λ y. fold min x xs ≤ y) x xs (fold_below x xs) (fold_each x xs)

-- what holds of all elements holds of those of a front, and of those of the rest
pub all_front : {X : Type 0} (P : X → Type 0) (xs ys : List X) → All P (xs ++ ys) → All P xs
all_front P [] ys all = All-nil P
all_front P (x ∷ xs) ys all =
    All-cons P x xs (All-head P x (xs ++ ys) all) (all_front P xs ys (All-tail P x (xs ++ ys) all))

pub all_back : {X : Type 0} (P : X → Type 0) (xs ys : List X) → All P (xs ++ ys) → All P ys
all_back P [] ys all = all
all_back P (x ∷ xs) ys all = all_back P xs ys (All-tail P x (xs ++ ys) all)

div_none : (a b : ℕ) → a / (b * 0) ≡ 0
div_none a b = omega arith

module _ (problem : Parts) (stands : IsProblem problem) where
  abbrev periods : List Item → List ℕ
  periods items = map (λ (signal : Signal). signal.period_us) (signals_of_items problem items)

  -- the rate of a frame: how often it is sent in the common period
  abbrev rate_of : List Item → ℕ
  rate_of items = problem.hyper / period_of_items problem items

  -- the least period of items is at most that of each
  each_period : (low : ℕ) (items : List Item) → All (λ period. low ≤ period) (periods items)
      → All (IsItemOf problem.signals) items → All (λ item. low ≤ least (periods (item ∷ []))) items
  each_period low [] below all = All-nil (λ item. low ≤ least (periods (item ∷ [])))
  each_period low (item ∷ items) below all =
      let split : periods (item ∷ items) ≡ periods (item ∷ []) ++ periods items =
      ap (map (λ (signal : Signal). signal.period_us)) (signals-append problem (item ∷ []) items)
      ∙ map-append (λ (signal : Signal). signal.period_us) (signals_of_items problem (item ∷ []))
      (signals_of_items problem items) in
      let both : All (λ period. low ≤ period) (periods (item ∷ []) ++ periods items) =
      subst (All (λ period. low ≤ period)) split below in
      let some : HasSignal problem (item ∷ []) =
      items_have_signal problem (item ∷ []) (omega arith)
      (all_front (IsItemOf problem.signals) (item ∷ []) items all) in
      let many : 1 ≤ length (periods (item ∷ [])) =
      omega (
        arith,
        some,
        length-map (signals_of_items problem (item ∷ [])) (λ (signal : Signal). signal.period_us),
      ) in
      All-cons (λ item. low ≤ least (periods (item ∷ []))) item items
      (least_has (λ period. low ≤ period) (periods (item ∷ [])) many
      (all_front (λ period. low ≤ period) (periods (item ∷ [])) (periods items) both))
      (each_period low items (all_back (λ period. low ≤ period) (periods (item ∷ [])) (periods items) both)
      (All-tail (IsItemOf problem.signals) item items all))

  -- the prices of items, each sent no more often than so
  most_prices : (rate : ℕ) (items : List Item) → All (λ item. rate_of (item ∷ []) ≤ rate) items
      → prices_of problem items ≤ 10 * problem.network.data_ticks * weight_of_items items * rate
  most_prices rate [] all = omega arith
  most_prices rate (item ∷ items) all =
      let bit : ℕ = problem.network.data_ticks in
      let here : price_of problem item ≤ 10 * bit * weight_of_item item * rate =
      mul-le-mul_left (10 * bit * weight_of_item item)
      (All-head (λ item. rate_of (item ∷ []) ≤ rate) item items all) in
      let rest = most_prices rate items (All-tail (λ item. rate_of (item ∷ []) ≤ rate) item items all) in
      let split : 10 * bit * weight_of_items (item ∷ items) * rate
      ≡ 10 * bit * weight_of_item item * rate + 10 * bit * weight_of_items items * rate =
      ap (λ weight. 10 * bit * weight * rate) (sum_by-cons weight_of_item item items) ∙ omega arith in
      omega (arith, here, rest, split, sum_by-cons (price_of problem) item items)

  -- a frame is sent no less often as items join
  faster : (xs ys : List Item) → All (IsItemOf problem.signals) (xs ++ ys) → bytes_of_items (xs ++ ys) ≤ 64
      → rate_of xs ≤ rate_of (xs ++ ys)
  faster [] ys all small = omega (arith, div_none problem.hyper problem.network.ticks_per_us)
  faster (x ∷ xs) ys all small =
      let some : HasSignal problem (x ∷ xs) =
      items_have_signal problem (x ∷ xs) (omega arith)
      (all_front (IsItemOf problem.signals) (x ∷ xs) ys all) in
      let it = more_is_harder problem (x ∷ xs) ys stands some small in
      div-rises problem.hyper (period_of_items problem (x ∷ xs)) (period_of_items problem ((x ∷ xs) ++ ys))
      it.some_period it.period

  -- and no less often than each of its items would be
  fastest : (xs ys : List Item) → All (IsItemOf problem.signals) (xs ++ ys) → 1 ≤ length (xs ++ ys)
      → All (λ item. rate_of (item ∷ []) ≤ rate_of (xs ++ ys)) ys
  fastest xs ys all many =
      let some : HasSignal problem (xs ++ ys) = items_have_signal problem (xs ++ ys) many all in
      let range = frame_in_range problem (xs ++ ys) stands some in
      let low : ℕ = least (periods (xs ++ ys)) in
      let split : periods (xs ++ ys) ≡ periods xs ++ periods ys =
      ap (map (λ (signal : Signal). signal.period_us)) (signals-append problem xs ys)
      ∙ map-append (λ (signal : Signal). signal.period_us) (signals_of_items problem xs)
      (signals_of_items problem ys) in
      let below : All (λ period. low ≤ period) (periods ys) =
      all_back (λ period. low ≤ period) (periods xs) (periods ys)
      (subst (All (λ period. low ≤ period)) split (least_each (periods (xs ++ ys)))) in
      All-weaker (λ item. low ≤ least (periods (item ∷ [])))
      (λ item. rate_of (item ∷ []) ≤ rate_of (xs ++ ys))
      (λ item le. div-rises problem.hyper (period_of_items problem (item ∷ []))
      (period_of_items problem (xs ++ ys)) range.some_period
      (mul-le-mul_left problem.network.ticks_per_us le)) ys
      (each_period low ys below (all_back (IsItemOf problem.signals) xs ys all))

  -- the class inequality
  joins_some : (xs ys : List Item) → All (IsItemOf problem.signals) (xs ++ ys) → ClassStands (xs ++ ys)
      → 1 ≤ length (xs ++ ys)
      → 8 * load_of_items problem xs + prices_of problem ys
      ≤ 8 * load_of_items problem (xs ++ ys) + slack_of problem xs
  joins_some xs ys all class many =
      let size : ℕ = unwrap_or (size_of_items xs) 0 in
      let larger : ℕ = unwrap_or (size_of_items (xs ++ ys)) 0 in
      let rises : size ≤ larger = size-front xs ys class.small in
      let prices = most_prices (rate_of (xs ++ ys)) ys (fastest xs ys all many) in
      let front : weight_of_items xs ≤ 8 * size =
      size_holds xs (omega (arith, bytes-front xs ys, class.small)) in
      let fit : weight_of_items xs + weight_of_items ys ≤ 8 * larger =
      omega (arith, size_holds (xs ++ ys) class.small, sum_by-append weight_of_item xs ys) in
      let costs = class_costs problem.network.data_ticks size larger (weight_of_items xs) (weight_of_items ys)
      (rate_of xs) (rate_of (xs ++ ys)) (ticks_of_items problem xs) (ticks_of_items problem (xs ++ ys))
      rises front fit (faster xs ys all class.small)
      (worst_ticks_of-step problem.network size larger rises)
      (worst_ticks_of-data problem.network size) in
      omega (arith, costs, prices)

  pub joins : (xs ys : List Item) → ClassStands (xs ++ ys) → All (IsItemOf problem.signals) (xs ++ ys)
      → 8 * load_of_items problem xs + prices_of problem ys
      ≤ 8 * load_of_items problem (xs ++ ys) + slack_of problem xs
  joins [] [] class all = omega arith
  joins [] (y ∷ ys) class all = joins_some [] (y ∷ ys) all class (omega arith)
  joins (x ∷ xs) ys class all = joins_some (x ∷ xs) ys all class (omega arith)

  -- a class costs no less as items join
  pub rises : (xs ys : List Item) → ClassStands (xs ++ ys) → All (IsItemOf problem.signals) (xs ++ ys)
      → 8 * load_of_items problem xs ≤ 8 * load_of_items problem (xs ++ ys)
  rises xs ys class all =
      let longer : ticks_of_items problem xs ≤ ticks_of_items problem (xs ++ ys) =
      worst_ticks_of-rises problem.network (unwrap_or (size_of_items xs) 0)
      (unwrap_or (size_of_items (xs ++ ys)) 0) (size-front xs ys class.small) in
      mul-le-mul_left 8 (mul-le-mul longer (faster xs ys all class.small))

-- the same of items of a problem
pub prices_are_below : (problem : Parts) → IsProblem problem → (items more : List Item)
    → AreOf problem (items ++ more) → ClassStands (items ++ more)
    → 8 * load_of_items problem items + prices_of problem more
    ≤ 8 * load_of_items problem (items ++ more) + slack_of problem items
prices_are_below problem stands items more of class =
    joins problem stands items more class (are_items problem stands (items ++ more) of)
