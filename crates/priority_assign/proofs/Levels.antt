-- The test of each frame of a level, by the busy period that they share.
use Rattle.std.proofs.Common.{◌≡◌, ℕ, ◌+◌, ◌-◌, ◌<◌, ◌≤◌, ◌↔◌, Bool, IsTrue, List, ◌∷◌, length, take, get_or, sym, ◌∙◌, ap, subst, arith, add-zero}
use Rattle.std.specs.List.{remove}
use Rattle.std.specs.List.Sorted.{IsPermutation}
use Rattle.std.proofs.lemmas.List.{get_or_default}
use Rattle.std.proofs.lemmas.List.Sums.{sum_by-cons}
use Rattle.std.proofs.lemmas.List.Sorted.{All-permutation, length_permutation, sum_by-IsPermutation, IsPermutation-sym, IsPermutation-remove}
use Rattle.busy_period.specs.declared.timed.Timed.{Timed}
use Rattle.busy_period.specs.Timed.{IsInRange, frame_at}
use Rattle.busy_period.specs.Stage.{AreNamed, own_number, higher_of}
use Rattle.busy_period.specs.Demand.{asks_of, work_of}
use Rattle.busy_period.specs.Least.{IsLeast}
use Rattle.busy_period.specs.Busy.{IsFit}
use Rattle.busy_period.proofs.Stages.{named_is_in_range}
use Rattle.response_test.specs.Frame.{PassesBlocked}
use Rattle.priority_assign.specs.Level.{moved_last, PassesAt}
use Rattle.priority_assign.proofs.Moved.{length-moved_last, moved_last-permutation, moved_last-own, moved_last-others}

-- the same frames in another order are named, and ask for the same
pub named_permuted : (frames : List Timed) (xs ys : List ℕ) → IsPermutation xs ys → AreNamed frames xs → AreNamed frames ys
named_permuted frames xs ys same named =
    record {
      in_range = named.in_range;
      named = All-permutation (λ number. number < length frames) xs ys same named.named;
      few = omega (arith, named.few, length_permutation xs ys same);
    }

pub fit_permuted : (frames : List Timed) (xs ys : List ℕ) (base ahead from time : ℕ) → IsPermutation xs ys
    → IsFit frames xs base ahead from time → IsFit frames ys base ahead from time
fit_permuted frames xs ys base ahead from time same fit =
    record {
      begun = fit.begun;
      done = omega (arith, fit.done, sum_by-IsPermutation (λ number. asks_of (frame_at frames number) (time + ahead)) xs ys same);
    }

pub least_fit_permuted : (frames : List Timed) (xs ys : List ℕ) (base ahead from time : ℕ) → IsPermutation xs ys
    → IsLeast (IsFit frames xs base ahead from) time → IsLeast (IsFit frames ys base ahead from) time
least_fit_permuted frames xs ys base ahead from time same least =
    record {
      holds = fit_permuted frames xs ys base ahead from time same least.holds;
      least = λ m fit. least.least m (fit_permuted frames ys xs base ahead from m (IsPermutation-sym xs ys same) fit);
    }

-- the test of the last frame, after one was moved there
pub passes_at_moved : (frames : List Timed) (level now : List ℕ) (blocked bit index : ℕ) (verdict : Bool) → index < length level
    → now ≡ moved_last level index
    → (IsTrue verdict ↔ PassesBlocked frames (own_number now (length now - 1)) (higher_of now (length now - 1)) blocked bit)
    → IsTrue verdict ↔ PassesAt frames level blocked bit index
passes_at_moved frames level now blocked bit index verdict inside is it =
    let last : ℕ = length now - 1 in
    let long : length level ≡ last + 1 = omega (arith, ap length is, length-moved_last level index inside) in
    let own : own_number now last ≡ get_or level index 0 = ap (λ l. get_or l last 0) is ∙ moved_last-own level index last long inside in
    let others : higher_of now last ≡ remove level index = ap (take last) is ∙ moved_last-others level index last long inside in
    let P : ℕ → Type 0 = λ number. IsTrue verdict ↔ PassesBlocked frames number (higher_of now last) blocked bit in
    let Q : List ℕ → Type 0 = λ above. IsTrue verdict ↔ PassesBlocked frames (get_or level index 0) above blocked bit in
    subst Q others (subst P own it)

-- a frame that passes has a busy period, within 256 of the greatest periods
pub fits_if_passes : (frames : List Timed) (level : List ℕ) (blocked bit index : ℕ) → AreNamed frames level → index < length level
    → PassesAt frames level blocked bit index
    → (time : ℕ) × IsFit frames level blocked 0 1 time × (time ≤ 25600000000000)
fits_if_passes frames level blocked bit index named inside it =
    let own : ℕ = get_or level index 0 in
    let busy : ℕ = it.busy in
    let asks : ℕ → ℕ = λ number. asks_of (frame_at frames number) (busy + 0) in
    let same : IsPermutation level (own ∷ remove level index) =
    IsPermutation-remove level index own inside (get_or_default level index 0 own inside) in
    let range : IsInRange (frame_at frames own) = named_is_in_range frames level index named inside in
    let now : busy + 0 ≡ busy = add-zero busy in
    let work : work_of frames (remove level index) (busy + 0) ≡ work_of frames (remove level index) busy = ap (work_of frames (remove level index)) now in
    let asked : asks own ≡ asks_of (frame_at frames own) busy = ap (asks_of (frame_at frames own)) now in (
      busy,
      record {
        begun = it.least.busy.holds.some;
        done = omega (
          arith,
          it.least.busy.holds.done,
          sum_by-IsPermutation asks level (own ∷ remove level index) same,
          sum_by-cons asks own (remove level index),
          work,
          asked,
        );
      },
      omega (arith, it.least.short, range.period),
    )

-- a level with one of its frames moved to its end names frames
pub named_moved : (frames : List Timed) (level now : List ℕ) (index : ℕ) → index < length level → now ≡ moved_last level index
    → AreNamed frames level → AreNamed frames now
named_moved frames level now index inside is named =
    subst (AreNamed frames) (sym is)
    (named_permuted frames level (moved_last level index) (moved_last-permutation level index inside) named)

-- and has the same busy period
pub least_fit_moved : (frames : List Timed) (level now : List ℕ) (base ahead from time index : ℕ) → index < length level
    → now ≡ moved_last level index
    → IsLeast (IsFit frames level base ahead from) time → IsLeast (IsFit frames now base ahead from) time
least_fit_moved frames level now base ahead from time index inside is least =
    let P : List ℕ → Type 0 = λ numbers. IsLeast (IsFit frames numbers base ahead from) time in
    subst P (sym is)
    (least_fit_permuted frames level (moved_last level index) base ahead from time (moved_last-permutation level index inside) least)
