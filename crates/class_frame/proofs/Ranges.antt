-- The figures of items as a frame, by their sums, and their ranges.
use Rattle.std.proofs.Common.{◌≡◌, ℕ, ◌+◌, ◌*◌, ◌≤◌, List, [], ◌∷◌, map, fold, min, All, find, unwrap_or, Bool, true, false, cond, nat_le, Option, Some, None, suc, zero, slice_get, subst, ap, ◌∙◌, refl, arith}
use Rattle.std.proofs.Math.Nat.{mul-le-mul}
use Rattle.std.specs.List.{list_all, filter_map, cons_option}
use Rattle.std.proofs.lemmas.Bool.{and_parts, leb-true}
use Rattle.std.proofs.lemmas.Bool.Decides.{nat_tests}
use Rattle.std.proofs.lemmas.List.{length-map}
use Rattle.std.proofs.lemmas.List.Elements.{All-nil, All-cons, All-head, All-tail, All-append, All-map, All-weaker}
use Rattle.pack_model.specs.declared.item.Item.{Item}
use Rattle.pack_model.specs.declared.signal.Signal.{Signal}
use Rattle.pack_model.specs.declared.network.Network.{Network}
use Rattle.pack_model.specs.Network.{NetworkStands}
use Rattle.pack_model.specs.Signal.{SignalStands}
use Rattle.pack_model.specs.Problem.{Parts, IsProblem}
use Rattle.fd_length.specs.Size.{sizes}
use Rattle.frame_ticks.specs.Worst.{worst_ticks_of, crc_bits_of}
use Rattle.frame_ticks.proofs.WorstLaws.{worst_ticks_of-some}
use Rattle.busy_period.specs.Timed.{IsInRange}
use Rattle.class_frame.specs.declared.sums.Sums.{Sums}
use Rattle.class_frame.specs.Frame.{least, greatest, bytes_of_items, signals_of_items, size_of_items, timed_of_items, ticks_of_items}
use Rattle.class_frame.specs.Laws.{HasSignal}
use Rattle.class_frame.specs.Sums.{AreSums, top}
use Rattle.class_frame.proofs.Folds.{least_from, least_has, greatest_at_most}

-- what holds of each element holds of one that is got
got : {X : Type 0} (P : X → Type 0) (xs : List X) → All P xs → (i : ℕ) (x : X) → slice_get xs i ≡ Some x → P x
got P [] all i x found = absurd (let wrong : None ≡ Some x = found in cc)
got P (y ∷ ys) all zero x found = subst P (some_same y x found) (All-head P y ys all)
  where
    some_same : {X : Type 0} (y x : X) → Some y ≡ Some x → y ≡ x
    some_same y x e = cc
got P (y ∷ ys) all (suc i) x found = got P ys (All-tail P y ys all) i x found

-- and of all that are got
all_got : {X : Type 0} (P : X → Type 0) (xs : List X) → All P xs → (places : List ℕ) → All P (filter_map (slice_get xs) places)
all_got P xs all [] = All-nil P
all_got P xs all (place ∷ places) = by (slice_get xs place) refl (all_got P xs all places)
  where
    by : (o : Option _) → slice_get xs place ≡ o → All P (filter_map (slice_get xs) places) → All P (cons_option o (filter_map (slice_get xs) places))
    by None e rest = rest
    by (Some x) e rest = All-cons P x (filter_map (slice_get xs) places) (got P xs all place x e) rest

-- what holds of all signals holds of those of items
pub signals_have : (problem : Parts) (P : Signal → Type 0) → All P problem.signals → (items : List Item) → All P (signals_of_items problem items)
signals_have problem P all [] = All-nil P
signals_have problem P all (item ∷ items) = All-append P (filter_map (slice_get problem.signals) item.members) (signals_of_items problem items) (all_got P problem.signals all item.members) (signals_have problem P all items)

-- what holds of a figure of each signal that stands holds of the figures of the items' signals
figures : (problem : Parts) → IsProblem problem → (items : List Item) (f : Signal → ℕ) (P : ℕ → Type 0) → ((signal : Signal) → SignalStands signal → P (f signal)) → All P (map f (signals_of_items problem items))
figures problem stands items f P each = All-map P f (signals_of_items problem items) (All-weaker SignalStands (λ signal. P (f signal)) each (signals_of_items problem items) (signals_have problem SignalStands stands.signals items))

-- and of the least of them
least_figure : (problem : Parts) → IsProblem problem → (items : List Item) → HasSignal problem items → (f : Signal → ℕ) (P : ℕ → Type 0) → ((signal : Signal) → SignalStands signal → P (f signal)) → P (least (map f (signals_of_items problem items)))
least_figure problem stands items some f P each = least_has P (map f (signals_of_items problem items)) (omega (arith, some, length-map (signals_of_items problem items) f)) (figures problem stands items f P each)

-- a running least is the least
least_running : (problem : Parts) → IsProblem problem → (items : List Item) → HasSignal problem items → (f : Signal → ℕ) → ((signal : Signal) → SignalStands signal → f signal ≤ 4294967295) → fold min top (map f (signals_of_items problem items)) ≡ least (map f (signals_of_items problem items))
least_running problem stands items some f low = least_from top (map f (signals_of_items problem items)) (omega (arith, some, length-map (signals_of_items problem items) f)) (figures problem stands items f (λ n. n ≤ 4294967295) low)

-- the times in the sums are those of the frame
pub record AreTimes (problem : Parts) (items : List Item) (sums : Sums) : Type 0 where
  pub period : sums.period_us ≡ least (map (λ signal. signal.period_us) (signals_of_items problem items))
  pub deadline : sums.deadline_us ≡ least (map (λ signal. signal.deadline_us) (signals_of_items problem items))
  pub jitter : sums.jitter_us ≡ greatest (map (λ signal. signal.jitter_us) (signals_of_items problem items))

pub times_of_sums : (problem : Parts) → IsProblem problem → (items : List Item) → HasSignal problem items → (sums : Sums) → AreSums problem items sums → AreTimes problem items sums
times_of_sums problem stands items some sums is = record {
  period = ap (λ (s : Sums). s.period_us) is ∙ least_running problem stands items some (λ signal. signal.period_us) (λ signal each. omega (arith, each.period_high));
  deadline = ap (λ (s : Sums). s.deadline_us) is ∙ least_running problem stands items some (λ signal. signal.deadline_us) (λ signal each. omega (arith, each.deadline_high));
  jitter = ap (λ (s : Sums). s.jitter_us) is;
}

-- no size is above 64
found_low : (p : ℕ → Bool) (m : ℕ) (xs : List ℕ) → All (λ x. x ≤ m) xs → unwrap_or (find p xs) 0 ≤ m
found_low p m [] all = omega arith
found_low p m (x ∷ xs) all = by (p x) (All-head (λ x. x ≤ m) x xs all) (found_low p m xs (All-tail (λ x. x ≤ m) x xs all))
  where
    by : (b : Bool) → x ≤ m → unwrap_or (find p xs) 0 ≤ m → unwrap_or (cond b (Some x) (find p xs)) 0 ≤ m
    by true here rest = here
    by false here rest = rest

all_from_test : {X : Type 0} (p : X → Bool) (P : X → Type 0) → ((x : X) → p x ≡ true → P x) → (xs : List X) → list_all p xs ≡ true → All P xs
all_from_test p P each [] holds = All-nil P
all_from_test p P each (x ∷ xs) holds =
    let parts = and_parts (p x) (list_all p xs) holds in
    All-cons P x xs (each x parts.0) (all_from_test p P each xs parts.1)

size_low : (items : List Item) → unwrap_or (size_of_items items) 0 ≤ 64
size_low items = found_low (λ listed. nat_le (bytes_of_items items) listed) 64 sizes (all_from_test (λ listed. nat_le listed 64) (λ x. x ≤ 64) (λ x e. leb-true x 64 e) sizes refl)

-- a frame of at most 64 bytes has at most 10^8 ticks
ticks_high : (network : Network) (size : ℕ) → NetworkStands network → size ≤ 64 → worst_ticks_of network size ≤ 100000000
ticks_high network size stands small =
    let crc : crc_bits_of size ≤ 32 = grind (arith, nat_tests) in
    let bits : 6 + 10 * size + crc_bits_of size ≤ 678 = omega arith in
    let few : network.data_ticks ≤ 10000 = omega (arith, stands.data_high, stands.nominal_high) in
    let all : (6 + 10 * size + crc_bits_of size) * network.data_ticks ≤ 678 * 10000 = mul-le-mul bits few in
    omega (arith, all, stands.nominal_high)

-- a time of some microseconds takes some ticks
in_ticks_low : (ticks time : ℕ) → 1 ≤ ticks → 1 ≤ time → 1 ≤ ticks * time
in_ticks_low ticks time some first = let least : 1 * 1 ≤ ticks * time = mul-le-mul some first in omega (arith, least)

-- and one of at most 100 s no more than 10^11
in_ticks_high : (ticks time : ℕ) → ticks ≤ 1000 → time ≤ 100000000 → ticks * time ≤ 100000000000
in_ticks_high ticks time few short = let most : ticks * time ≤ 1000 * 100000000 = mul-le-mul few short in omega (arith, most)

-- items with a signal are a frame in range
pub frame_in_range : (problem : Parts) (items : List Item) → IsProblem problem → HasSignal problem items → IsInRange (timed_of_items problem items)
frame_in_range problem items stands some =
    let ticks : ℕ = problem.network.ticks_per_us in
    let low = least_figure problem stands items some in
    record {
      some_period = in_ticks_low ticks _ stands.network.ticks_low (low (λ signal. signal.period_us) (λ n. 1 ≤ n) (λ signal each. each.period_low));
      period = in_ticks_high ticks _ stands.network.ticks_high (low (λ signal. signal.period_us) (λ n. n ≤ 100000000) (λ signal each. each.period_high));
      jitter = in_ticks_high ticks _ stands.network.ticks_high (greatest_at_most 100000000 0 _ (omega arith) (figures problem stands items (λ signal. signal.jitter_us) (λ n. n ≤ 100000000) (λ signal each. each.jitter_high)));
      some_ticks = omega (arith, worst_ticks_of-some problem.network (unwrap_or (size_of_items items) 0) stands.network);
      ticks = ticks_high problem.network (unwrap_or (size_of_items items) 0) stands.network (size_low items);
      some_deadline = in_ticks_low ticks _ stands.network.ticks_low (low (λ signal. signal.deadline_us) (λ n. 1 ≤ n) (λ signal each. each.deadline_low));
      deadline = in_ticks_high ticks _ stands.network.ticks_high (low (λ signal. signal.deadline_us) (λ n. n ≤ 100000000) (λ signal each. each.deadline_high));
    }

-- a nominal bit is no longer than the frame
pub bit_within : (problem : Parts) (items : List Item) → problem.network.nominal_ticks ≤ ticks_of_items problem items
bit_within problem items = low (unwrap_or (size_of_items items) 0)
  where
    low : (size : ℕ) → problem.network.nominal_ticks ≤ worst_ticks_of problem.network size
    low size = omega arith
