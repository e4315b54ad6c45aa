-- What is known of a frame by one sending of each frame of its level, and by any busy period of the level.
use Rattle.std.proofs.Common.{◌≡◌, ℕ, ◌+◌, ◌-◌, ◌*◌, ◌<◌, ◌≤◌, ◌⊎◌, inl, inr, List, [], ◌∷◌, ◌++◌, length, take, drop, get_or, suc, All, true, false, cond, leb, Option, Some, None, IfSome, max, min, sum_by, refl, add-zero, length-take, sym, ◌∙◌, ap, subst, arith}
use Rattle.std.specs.Option.{IsSomeAnd, unwrap_or}
use Rattle.std.specs.List.{remove}
use Rattle.std.specs.List.Sorted.{IsPermutation}
use Rattle.std.proofs.lemmas.Bool.{leb-true}
use Rattle.std.proofs.lemmas.List.{append-nil, drop_all, get_or-take, take-take}
use Rattle.std.proofs.lemmas.List.Elements.{All-head, All-tail, All-take, All-drop, All-append, All-get_or, All-from_get_or, All-weaker}
use Rattle.std.proofs.lemmas.List.Sums.{sum_by-cons, sum_by-remove, sum_by_more, get_or-le-sum_by}
use Rattle.std.proofs.lemmas.List.Sorted.{sum_by-IsPermutation, All-permutation, IsPermutation-sym}
use Rattle.std.proofs.Math.Nat.{mul-le-mul_right}
use Rattle.busy_period.specs.declared.timed.Timed.{Timed}
use Rattle.busy_period.specs.Timed.{IsInRange, none_frame, frame_at}
use Rattle.busy_period.specs.Stage.{AreNamed, own_number, own_of, higher_of}
use Rattle.busy_period.specs.Least.{IsLeast}
use Rattle.busy_period.specs.Demand.{instances_of, asks_of, work_of}
use Rattle.busy_period.specs.Busy.{IsBusy, IsFit}
use Rattle.busy_period.proofs.Instances.{quotient-le}
use Rattle.busy_period.proofs.Stages.{named_is_in_range, work-le, least_from_later}
use Rattle.response_test.specs.Queueing.{IsBit}
use Rattle.response_test.specs.Frame.{PassesBlocked, InstancePassesBlocked}
use Rattle.response_test.proofs.Worst.{some_instance}
use Rattle.response_test.proofs.Starts.{starts_before_end}
use Rattle.response_test.proofs.Verdicts.{passes_from_shown}
use Rattle.priority_assign.specs.Level.{moved_last, PassesAt}
use Rattle.priority_assign.specs.declared.once.Once.{Once}
use Rattle.priority_assign.specs.Once.{ticks_of, AskOnce, IsOnce, EndsInTime}
use Rattle.priority_assign.proofs.Moved.{moved_last-permutation}
use Rattle.priority_assign.specs.declared.level.Times.{Times}
use Rattle.priority_assign.specs.Times.{NoneBefore, AreTimes, IsLateByLevel}
use Rattle.priority_assign.proofs.Levels.{named_permuted, fit_permuted, least_fit_moved}

-- in a tick or more a frame asks for a sending
asks_some : (frame : Timed) (time : ℕ) → IsInRange frame → 1 ≤ time → frame.ticks ≤ asks_of frame time
asks_some frame time range some =
    let one : 1 ≤ instances_of frame time = some_instance frame time some range.some_period in
    omega (arith, mul-le-mul_right frame.ticks one)

-- and for no more up to the end of its period less its jitter
asks_once : (frame : Timed) (time : ℕ) → IsInRange frame → 1 ≤ time → time ≤ frame.period - frame.jitter
    → asks_of frame time ≤ frame.ticks
asks_once frame time range some within =
    let few : instances_of frame time ≤ 1 = quotient-le (time + frame.jitter) frame.period 1 range.some_period (omega arith) in
    omega (arith, mul-le-mul_right frame.ticks few)

-- and so do some frames together
work_some : (frames : List Timed) (numbers : List ℕ) (time : ℕ)
    → All (λ number. IsInRange (frame_at frames number)) numbers
    → 1 ≤ time → ticks_of frames numbers ≤ work_of frames numbers time
work_some frames [] time ranges some = omega arith
work_some frames (x ∷ xs) time ranges some =
    omega (
      arith,
      sum_by-cons (λ number. (frame_at frames number).ticks) x xs,
      sum_by-cons (λ number. asks_of (frame_at frames number) time) x xs,
      work_some frames xs time (All-tail (λ number. IsInRange (frame_at frames number)) x xs ranges) some,
      asks_some (frame_at frames x) time (All-head (λ number. IsInRange (frame_at frames number)) x xs ranges) some,
    )

work_once : (frames : List Timed) (numbers : List ℕ) (time : ℕ)
    → All (λ number. IsInRange (frame_at frames number)) numbers
    → 1 ≤ time → AskOnce frames numbers time → work_of frames numbers time ≤ ticks_of frames numbers
work_once frames [] time ranges some once = omega arith
work_once frames (x ∷ xs) time ranges some once =
    let Asks : ℕ → Type 0 = λ number. time ≤ (frame_at frames number).period - (frame_at frames number).jitter in
    omega (
      arith,
      sum_by-cons (λ number. (frame_at frames number).ticks) x xs,
      sum_by-cons (λ number. asks_of (frame_at frames number) time) x xs,
      work_once frames xs time (All-tail (λ number. IsInRange (frame_at frames number)) x xs ranges) some (All-tail Asks x xs once),
      asks_once (frame_at frames x) time (All-head (λ number. IsInRange (frame_at frames number)) x xs ranges) some (All-head Asks x xs once),
    )

-- what holds of each number of a level holds of each but one
All-others : (P : ℕ → Type 0) (level : List ℕ) (index : ℕ) → All P level → All P (remove level index)
All-others P level index all =
    All-append P (take index level) (drop (suc index) level) (All-take P index level all) (All-drop P (suc index) level all)

-- each frame of a level is in range
level_ranges : (frames : List Timed) (level : List ℕ) → AreNamed frames level
    → All (λ number. IsInRange (frame_at frames number)) level
level_ranges frames level named =
    All-from_get_or (λ number. IsInRange (frame_at frames number)) level 0
    (λ i inside. named_is_in_range frames level i named inside)

-- a frame that passes ends by its deadline where the frame that blocks, all frames of the level and itself are sent once
pub in_time_if_passes : (frames : List Timed) (level : List ℕ) (blocked bit busy index : ℕ)
    → AreNamed frames level → 1 ≤ bit
    → index < length level → busy ≡ blocked + ticks_of frames level → PassesAt frames level blocked bit index
    → EndsInTime frames level busy index
in_time_if_passes frames level blocked bit busy index named some inside is it =
    let number : ℕ = get_or level index 0 in
    let own : Timed = frame_at frames number in
    let others : List ℕ = remove level index in
    let ranges : All (λ n. IsInRange (frame_at frames n)) level = level_ranges frames level named in
    let range : IsInRange own = named_is_in_range frames level index named inside in
    let first : InstancePassesBlocked frames number others blocked bit 0 =
    it.each 0 (some_instance own it.busy it.least.busy.holds.some range.some_period) in
    let more : ticks_of frames others ≤ work_of frames others (first.start + bit) =
    work_some frames others (first.start + bit) (All-others (λ n. IsInRange (frame_at frames n)) level index ranges) (omega arith) in
    let whole : ticks_of frames others + own.ticks ≡ ticks_of frames level =
    sum_by-remove (λ n. (frame_at frames n).ticks) level index 0 inside in
    omega (arith, first.least.holds, first.in_time, is)

-- where each frame of the level asks once until then, this is a busy period
once_fit : (frames : List Timed) (level : List ℕ) (blocked asked index : ℕ) → AreNamed frames level
    → index < length level → asked ≡ blocked + ticks_of frames level → AskOnce frames level asked → IsFit frames level blocked 0 1 asked
once_fit frames level blocked asked index named inside is once =
    let range : IsInRange (frame_at frames (get_or level index 0)) = named_is_in_range frames level index named inside in
    let some : 1 ≤ asked =
    omega (arith, is, range.some_ticks, get_or-le-sum_by (λ n. (frame_at frames n).ticks) level index 0 inside) in
    record {
      begun = some;
      done = omega (
        arith,
        is,
        work_once frames level asked (level_ranges frames level named) some once,
        ap (work_of frames level) (add-zero asked),
      );
    }

-- a busy period holds, before the blocking, all that the level asks for
pub first_before_busy : (frames : List Timed) (level : List ℕ) (blocked first time index : ℕ)
    → AreNamed frames level → index < length level → NoneBefore frames level first
    → IsFit frames level blocked 0 1 time → first + blocked ≤ time
first_before_busy frames level blocked first time index named inside none fit =
    let range : IsInRange (frame_at frames (get_or level index 0)) = named_is_in_range frames level index named inside in
    let later : 1 ≤ time + 0 = omega (arith, fit.begun) in
    let asks : ticks_of frames level ≤ work_of frames level (time + 0) =
    work_some frames level (time + 0) (level_ranges frames level named) later in
    let some : 1 ≤ ticks_of frames level =
    omega (arith, range.some_ticks, get_or-le-sum_by (λ n. (frame_at frames n).ticks) level index 0 inside) in
    let le : time - blocked + 0 ≤ time + 0 = omega arith in
    let less : work_of frames level (time - blocked + 0) ≤ work_of frames level (time + 0) =
    work-le frames level (time - blocked + 0) (time + 0) le in
    let alone : IsFit frames level 0 0 1 (time - blocked) =
    record { begun = omega (arith, fit.done); done = omega (arith, fit.done) } in
    omega (arith, none (time - blocked) alone, fit.done)

-- so the least one is the least after the first time that holds what the level asks for, and the blocking
pub busy_from_first : (frames : List Timed) (level : List ℕ) (blocked first busy index : ℕ)
    → AreNamed frames level → index < length level → 1 ≤ first → NoneBefore frames level first
    → IsLeast (IsFit frames level blocked 0 (first + blocked)) busy
    → IsLeast (IsFit frames level blocked 0 1) busy
busy_from_first frames level blocked first busy index named inside some none least =
    least_from_later frames level blocked 0 1 (first + blocked) busy (omega (arith, some))
    (λ time fit. first_before_busy frames level blocked first time index named inside none fit) least

-- what fits with the blocking fits without, and no sooner than that
pub fit_without : (frames : List Timed) (level : List ℕ) (blocked time : ℕ)
    → IsFit frames level blocked 0 1 time → IsFit frames level 0 0 1 time
fit_without frames level blocked time fit =
    record { begun = fit.begun; done = omega (arith, fit.done) }

pub fit_after_first : (frames : List Timed) (level : List ℕ) (blocked first time index : ℕ)
    → AreNamed frames level → index < length level → NoneBefore frames level first
    → IsFit frames level blocked 0 1 time → IsFit frames level blocked 0 (first + blocked) time
fit_after_first frames level blocked first time index named inside none fit =
    record {
      begun = first_before_busy frames level blocked first time index named inside none fit;
      done = fit.done;
    }

-- so a busy period is known there
pub known_fit : (frames : List Timed) (level : List ℕ) (blocked asked index : ℕ) (once : Once) (known : Option ℕ) → AreNamed frames level
    → index < length level → asked ≡ blocked + ticks_of frames level → IsOnce frames level blocked once
    → known ≡ cond (leb asked once.window) (Some asked) once.busy → IfSome known (IsFit frames level blocked 0 1)
known_fit frames level blocked asked index once known named inside is it =
    let Known : Option ℕ → Type 0 = λ busy. IfSome busy (IsFit frames level blocked 0 1) in
    let P : ℕ → ℕ → Type 0 = λ time number. time ≤ (frame_at frames number).period - (frame_at frames number).jitter in
    elim (leb asked once.window) as (λ b. leb asked once.window ≡ b → known ≡ cond b (Some asked) once.busy → Known known) [
      | true ↦ λ within same.
          let le : asked ≤ once.window = leb-true asked once.window within in
          subst Known (sym same) (once_fit frames level blocked asked index named inside is
          (All-weaker (P once.window) (P asked) (λ number enough. omega (arith, enough, le)) level it.window))
      | false ↦ λ _ same. subst Known (sym same) it.busy
    ] refl

-- a frame that ends by its deadline with a busy period of its level passes
passes_by_fit : (frames : List Timed) (level : List ℕ) (blocked bit busy index : ℕ)
    → AreNamed frames level → IsBit frames bit
    → index < length level → IsFit frames level blocked 0 1 busy
    → busy ≤ min (frame_at frames (get_or level index 0)).deadline (256 * (frame_at frames (get_or level index 0)).period)
    - (frame_at frames (get_or level index 0)).jitter
    → PassesAt frames level blocked bit index
passes_by_fit frames level blocked bit busy index named is_bit inside fit early =
    let number : ℕ = get_or level index 0 in
    let own : Timed = frame_at frames number in
    let others : List ℕ = remove level index in
    let some : 1 ≤ busy = fit.begun in
    let whole : work_of frames others busy + asks_of own busy ≡ work_of frames level busy =
    sum_by-remove (λ n. asks_of (frame_at frames n) busy) level index 0 inside in
    let bit_le : bit ≤ own.ticks =
    All-get_or (λ frame. bit ≤ frame.ticks) frames number none_frame
    (All-get_or (λ n. n < length frames) level index 0 inside named.named) is_bit.within in
    let holds : IsBusy (λ t. blocked + work_of frames others t + asks_of own t) busy =
    record { some = some; done = omega (arith, fit.done, whole, ap (work_of frames level) (add-zero busy)) } in
    passes_from_shown _ _ _ (record {
      busy = busy;
      holds = record { busy = holds; short = omega (arith, some, early) };
      each = λ instance within.
          let starts = starts_before_end frames number others blocked bit instance busy bit_le holds within in
          record { start = busy - own.ticks; can_start = starts.1; in_time = omega (arith, starts.0, some, early) };
    })

pub passes_by_known : (frames : List Timed) (level : List ℕ) (blocked bit index : ℕ) (known : Option ℕ)
    → AreNamed frames level
    → IsBit frames bit → index < length level → IfSome known (IsFit frames level blocked 0 1)
    → IsSomeAnd known (λ busy.
    busy ≤ min (frame_at frames (get_or level index 0)).deadline (256 * (frame_at frames (get_or level index 0)).period)
    - (frame_at frames (get_or level index 0)).jitter)
    → PassesAt frames level blocked bit index
passes_by_known frames level blocked bit index None named is_bit inside fit early = absurd early
passes_by_known frames level blocked bit index (Some busy) named is_bit inside fit early =
    passes_by_fit frames level blocked bit busy index named is_bit inside fit early

-- the ticks of a level with one of its frames moved to its end
ticks_moved : (frames : List Timed) (level now : List ℕ) (asked blocked index : ℕ) → index < length level
    → now ≡ moved_last level index → asked ≡ blocked + ticks_of frames level → asked ≡ blocked + ticks_of frames now
ticks_moved frames level now asked blocked index inside was is =
    omega (
      arith,
      is,
      ap (ticks_of frames) was,
      sum_by-IsPermutation (λ n. (frame_at frames n).ticks) level (moved_last level index) (moved_last-permutation level index inside),
    )

-- a busy period of a level is one of the level above it
fit_less : (frames : List Timed) (order now : List ℕ) (m blocked blocked' busy : ℕ) → 0 < m → m ≤ length now
    → IsPermutation (take m order) (take m now) → AreNamed frames (take m order)
    → blocked' ≡ max (frame_at frames (get_or now (m - 1) 0)).ticks blocked
    → IsFit frames (take m order) blocked 0 1 busy → IsFit frames (take (m - 1) now) blocked' 0 1 busy
fit_less frames order now m blocked blocked' busy some within same named is fit =
    let own : Timed = frame_at frames (get_or now (m - 1) 0) in
    let asks : ℕ → ℕ = λ n. asks_of (frame_at frames n) (busy + 0) in
    let back : m - 1 + 1 ≡ m = omega arith in
    let whole : sum_by asks (take m now) ≡ sum_by asks (take (m - 1) now) + asks (get_or now (m - 1) 0) =
    ap (λ n. sum_by asks (take n now)) (sym back) ∙ sum_by_more asks now (m - 1) 0 (omega arith) in
    let before : sum_by asks (take m now) ≡ sum_by asks (take m order) = sum_by-IsPermutation asks (take m order) (take m now) same in
    let last : get_or (take m now) (m - 1) 0 ≡ get_or now (m - 1) 0 = get_or-take m now (m - 1) 0 (omega arith) in
    let range : IsInRange own =
    subst (λ n. IsInRange (frame_at frames n)) last
    (named_is_in_range frames (take m now) (m - 1) (named_permuted frames (take m order) (take m now) same named)
    (omega (arith, length-take m now))) in
    let sent : own.ticks ≤ asks (get_or now (m - 1) 0) = asks_some own (busy + 0) range (omega (arith, fit.begun)) in
    record { begun = fit.begun; done = omega (arith, fit.done, whole, before, sent, is) }

known_less : (frames : List Timed) (order now : List ℕ) (m blocked blocked' : ℕ) (known : Option ℕ)
    → 0 < m → m ≤ length now
    → IsPermutation (take m order) (take m now) → AreNamed frames (take m order)
    → blocked' ≡ max (frame_at frames (get_or now (m - 1) 0)).ticks blocked
    → IfSome known (IsFit frames (take m order) blocked 0 1) → IfSome known (IsFit frames (take (m - 1) now) blocked' 0 1)
known_less frames order now m blocked blocked' None some within same named is fit = tt
known_less frames order now m blocked blocked' (Some busy) some within same named is fit =
    fit_less frames order now m blocked blocked' busy some within same named is fit

-- what holds of the others after one frame of a level took the level's last place
pub once_less : (frames : List Timed) (order now : List ℕ) (m blocked blocked' : ℕ) (once less : Once)
    → 0 < m → m ≤ length now
    → IsPermutation (take m order) (take m now) → AreNamed frames (take m order)
    → blocked' ≡ max (frame_at frames (get_or now (m - 1) 0)).ticks blocked
    → less.ticks ≡ once.ticks - (frame_at frames (get_or now (m - 1) 0)).ticks → less.window ≡ once.window → less.busy ≡ once.busy
    → IsOnce frames (take m order) blocked once → IsOnce frames (take (m - 1) now) blocked' less
once_less frames order now m blocked blocked' once less some within same named is fewer kept known it =
    let P : ℕ → ℕ → Type 0 = λ window number. window ≤ (frame_at frames number).period - (frame_at frames number).jitter in
    let back : m - 1 + 1 ≡ m = omega arith in
    let Q : ℕ → Type 0 = λ window. AskOnce frames (take (m - 1) now) window in
    let whole : ticks_of frames (take m now) ≡ ticks_of frames (take (m - 1) now) + (frame_at frames (get_or now (m - 1) 0)).ticks =
    ap (λ n. ticks_of frames (take n now)) (sym back) ∙ sum_by_more (λ n. (frame_at frames n).ticks) now (m - 1) 0 (omega arith) in
    let before : ticks_of frames (take m now) ≡ ticks_of frames (take m order) =
    sum_by-IsPermutation (λ n. (frame_at frames n).ticks) (take m order) (take m now) same in
    let asks : All (P once.window) (take (m - 1) (take m now)) =
    All-take (P once.window) (m - 1) (take m now) (All-permutation (P once.window) (take m order) (take m now) same it.window) in
    record {
      ticks = omega (arith, it.ticks);
      few = omega (arith, it.few);
      window = subst Q (sym kept) (subst (All (P once.window)) (take-take (m - 1) m now (omega arith)) asks);
      busy = subst (λ busy. IfSome busy (IsFit frames (take (m - 1) now) blocked' 0 1)) (sym known)
          (known_less frames order now m blocked blocked' once.busy some within same named is it.busy);
    }

-- a frame that passes with one instance by its deadline is not late by what the level asks for
in_time_by_level : (frames : List Timed) (level : List ℕ) (blocked bit first index : ℕ)
    → AreNamed frames level → IsBit frames bit
    → index < length level → NoneBefore frames level first → PassesAt frames level blocked bit index
    → ¬ (IsLateByLevel (frame_at frames (get_or level index 0)) blocked bit first)
in_time_by_level frames level blocked bit first index named is_bit inside none it late =
    let number : ℕ = get_or level index 0 in
    let own : Timed = frame_at frames number in
    let others : List ℕ = remove level index in
    let range : IsInRange own = named_is_in_range frames level index named inside in
    let start : InstancePassesBlocked frames number others blocked bit 0 =
    it.each 0 (some_instance own it.busy it.least.busy.holds.some range.some_period) in
    let time : ℕ = start.start + bit in
    let bit_le : bit ≤ own.ticks =
    All-get_or (λ frame. bit ≤ frame.ticks) frames number none_frame
    (All-get_or (λ n. n < length frames) level index 0 inside named.named) is_bit.within in
    let some : 1 ≤ time = omega (arith, is_bit.some) in
    let once : asks_of own time ≤ own.ticks =
    asks_once own time range some (omega (arith, start.in_time, late.one, bit_le)) in
    let whole : work_of frames others time + asks_of own time ≡ work_of frames level time =
    sum_by-remove (λ n. asks_of (frame_at frames n) time) level index 0 inside in
    let before : first ≤ time =
    none time
    (record {
      begun = some;
      done = omega (arith, start.least.holds, late.blocks, once, whole, ap (work_of frames level) (add-zero time));
    }) in
    omega (arith, before, start.in_time, late.late)

-- the test of the frame at the end of a level is that of its index
at_end : (frames : List Timed) (level : List ℕ) (blocked bit : ℕ) → 0 < length level
    → PassesBlocked frames (own_number level (length level - 1)) (higher_of level (length level - 1)) blocked bit
    → PassesAt frames level blocked bit (length level - 1)
at_end frames level blocked bit some passes =
    let last : ℕ = length level - 1 in
    let none : drop (suc last) level ≡ [] = drop_all (suc last) level (omega arith) in
    let others : remove level last ≡ take last level = ap (λ rest. take last level ++ rest) none ∙ append-nil (take last level) in
    let P : List ℕ → Type 0 = λ above. PassesBlocked frames (get_or level last 0) above blocked bit in
    subst P (sym others) passes

-- a frame at the end of its level that is late by a time of the level does not pass
pub late_at_end : (frames : List Timed) (level : List ℕ) (blocked bit : ℕ) (times : Times)
    → AreNamed frames level → IsBit frames bit
    → 0 < length level → AreTimes frames level blocked times
    → ((own_of frames level (length level - 1)).deadline < (own_of frames level (length level - 1)).jitter + times.asked)
    ⊎ IsLateByLevel (own_of frames level (length level - 1)) blocked bit times.first
    → ¬ (PassesBlocked frames (own_number level (length level - 1)) (higher_of level (length level - 1)) blocked bit)
late_at_end frames level blocked bit times named is_bit some are (inl late) passes =
    omega (
      arith,
      late,
      in_time_if_passes frames level blocked bit times.asked (length level - 1) named is_bit.some (omega arith) are.asked
          (at_end frames level blocked bit some passes),
    )
late_at_end frames level blocked bit times named is_bit some are (inr late) passes =
    in_time_by_level frames level blocked bit times.first (length level - 1) named is_bit (omega arith) are.first
    (at_end frames level blocked bit some passes) late

-- the times of a level with one of its frames moved to its end
pub times_moved : (frames : List Timed) (level now : List ℕ) (blocked index : ℕ) (times : Times)
    → index < length level
    → now ≡ moved_last level index → AreTimes frames level blocked times → AreTimes frames now blocked times
times_moved frames level now blocked index times inside was are =
    let same : IsPermutation level (moved_last level index) = moved_last-permutation level index inside in
    record {
      asked = ticks_moved frames level now times.asked blocked index inside was are.asked;
      short = are.short;
      first = λ time fit.
          let P : List ℕ → Type 0 = λ numbers. IsFit frames numbers 0 0 1 time in
          are.first time
          (fit_permuted frames (moved_last level index) level 0 0 1 time (IsPermutation-sym level (moved_last level index) same) (subst P was fit));
      low = are.low;
      busy = least_fit_moved frames level now blocked 0 1 times.busy index inside was are.busy;
      limit = are.limit;
    }

-- the time that a climb finds is the first; 0 is before each
pub first_of : (frames : List Timed) (level : List ℕ) (found : Option ℕ)
    → IfSome found (IsLeast (IsFit frames level 0 0 1))
    → NoneBefore frames level (unwrap_or found 0)
first_of frames level None least time fit = omega arith
first_of frames level (Some first) least time fit = least.least time fit

pub first_low : (found : Option ℕ) (limit : ℕ) → IfSome found (λ time. time ≤ limit)
    → unwrap_or found 0 ≤ limit
first_low None limit within = omega arith
first_low (Some first) limit within = within
