-- More items make a frame harder, and its period divides the common period.
use Rattle.std.proofs.Common.{◌≡◌, ℕ, ◌*◌, ◌%◌, ◌≤◌, List, [], ◌∷◌, ◌++◌, map, All, unwrap_or, length, length-append, ap, ◌∙◌, arith}
use Rattle.std.proofs.Math.Nat.{mul-le-mul_left}
use Rattle.std.proofs.lemmas.List.{map-append, length-map}
use Rattle.std.proofs.lemmas.List.Elements.{All-head, All-tail, All-nil, All-cons, All-map}
use Rattle.pack_model.specs.declared.item.Item.{Item}
use Rattle.pack_model.specs.declared.signal.Signal.{Signal}
use Rattle.pack_model.specs.Problem.{Parts, IsProblem, IsCommonPeriod, periods_of}
use Rattle.frame_ticks.proofs.WorstLaws.{worst_ticks_of-rises}
use Rattle.fd_length.proofs.Sizes.{fd_size_of-rises, fd_size_of-some}
use Rattle.class_frame.specs.Frame.{least, greatest, bytes_of_items, signals_of_items, size_of_items, timed_of_items, period_of_items}
use Rattle.busy_period.specs.Harder.{IsHarder}
use Rattle.class_frame.specs.Laws.{HasSignal}
use Rattle.class_frame.proofs.Bytes.{bytes-front}
use Rattle.class_frame.proofs.Folds.{least_more, greatest_more, least_has}
use Rattle.class_frame.proofs.Joining.{signals-append}
use Rattle.class_frame.proofs.Ranges.{frame_in_range, signals_have}

-- a frame's size never shrinks as items join, up to 64 bytes
pub size-front : (xs ys : List Item) → bytes_of_items (xs ++ ys) ≤ 64 → unwrap_or (size_of_items xs) 0 ≤ unwrap_or (size_of_items (xs ++ ys)) 0
size-front xs ys small =
    let rise = bytes-front xs ys in
    let (size, at) = fd_size_of-some (bytes_of_items xs) (omega (arith, rise, small)) in
    let (larger, there) = fd_size_of-some (bytes_of_items (xs ++ ys)) small in
    let le = fd_size_of-rises (bytes_of_items xs) (bytes_of_items (xs ++ ys)) size larger rise at there in
    omega (arith, le, ap (λ o. unwrap_or o 0) at, ap (λ o. unwrap_or o 0) there)

-- the figures of the signals of two lists of items
figures-append : (problem : Parts) (f : Signal → ℕ) (xs ys : List Item) → map f (signals_of_items problem (xs ++ ys)) ≡ map f (signals_of_items problem xs) ++ map f (signals_of_items problem ys)
figures-append problem f xs ys = ap (map f) (signals-append problem xs ys) ∙ map-append f (signals_of_items problem xs) (signals_of_items problem ys)

-- the least time never rises
least-front : (problem : Parts) (f : Signal → ℕ) (xs ys : List Item) → HasSignal problem xs → problem.network.ticks_per_us * least (map f (signals_of_items problem (xs ++ ys))) ≤ problem.network.ticks_per_us * least (map f (signals_of_items problem xs))
least-front problem f xs ys some =
    let low = least_more (map f (signals_of_items problem xs)) (map f (signals_of_items problem ys)) (omega (arith, some, length-map (signals_of_items problem xs) f)) in
    mul-le-mul_left problem.network.ticks_per_us (omega (arith, low, ap least (figures-append problem f xs ys)))

-- and the greatest never falls
greatest-front : (problem : Parts) (f : Signal → ℕ) (xs ys : List Item) → problem.network.ticks_per_us * greatest (map f (signals_of_items problem xs)) ≤ problem.network.ticks_per_us * greatest (map f (signals_of_items problem (xs ++ ys)))
greatest-front problem f xs ys =
    mul-le-mul_left problem.network.ticks_per_us (omega (arith, greatest_more (map f (signals_of_items problem xs)) (map f (signals_of_items problem ys)), ap greatest (figures-append problem f xs ys)))

-- items with more items are a harder frame
pub more_is_harder : (problem : Parts) (xs ys : List Item) → IsProblem problem → HasSignal problem xs → bytes_of_items (xs ++ ys) ≤ 64 → IsHarder (timed_of_items problem xs) (timed_of_items problem (xs ++ ys))
more_is_harder problem xs ys stands some small = record {
  some_period = (frame_in_range problem (xs ++ ys) stands (omega (arith, some, ap length (signals-append problem xs ys), length-append (signals_of_items problem xs) (signals_of_items problem ys)))).some_period;
  ticks = worst_ticks_of-rises problem.network (unwrap_or (size_of_items xs) 0) (unwrap_or (size_of_items (xs ++ ys)) 0) (size-front xs ys small);
  jitter = greatest-front problem (λ signal. signal.jitter_us) xs ys;
  period = least-front problem (λ signal. signal.period_us) xs ys some;
  deadline = least-front problem (λ signal. signal.deadline_us) xs ys some;
}

-- what holds of a map's elements
all_back : {X Y : Type 0} (P : Y → Type 0) (f : X → Y) (xs : List X) → All P (map f xs) → All (λ x. P (f x)) xs
all_back P f [] all = All-nil (λ x. P (f x))
all_back P f (x ∷ xs) all = All-cons (λ x. P (f x)) x xs (All-head P (f x) (map f xs) all) (all_back P f xs (All-tail P (f x) (map f xs) all))

-- the frame's period divides the common period
pub period_divides : (problem : Parts) (items : List Item) → IsCommonPeriod (periods_of problem.network problem.signals) problem.hyper → HasSignal problem items → problem.hyper % period_of_items problem items ≡ 0
period_divides problem items common some = least_has (λ p. problem.hyper % (problem.network.ticks_per_us * p) ≡ 0) (map (λ signal. signal.period_us) (signals_of_items problem items)) (omega (arith, some, length-map (signals_of_items problem items) (λ (signal : Signal). signal.period_us)))
    (All-map (λ p. problem.hyper % (problem.network.ticks_per_us * p) ≡ 0) (λ (signal : Signal). signal.period_us) (signals_of_items problem items)
    (signals_have problem (λ signal. problem.hyper % (problem.network.ticks_per_us * signal.period_us) ≡ 0) (all_back (λ period. problem.hyper % period ≡ 0) (λ (signal : Signal). problem.network.ticks_per_us * signal.period_us) problem.signals common.each) items))
