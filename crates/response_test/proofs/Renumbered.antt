-- Frames numbered anew in the order in which they are judged: what is shown of them stays shown.
use Rattle.std.proofs.Common.{◌≡◌, ℕ, ◌+◌, ◌<◌, List, [], ◌∷◌, length, take, drop, max, refl, sym, ap, ◌∙◌, subst, arith}
use Rattle.std.specs.Prelude.{slice_index, map, sum_by}
use Rattle.std.proofs.lemmas.List.{length-map, get_or-map, take-map, drop-map, ext_get_or}
use Rattle.std.proofs.lemmas.List.Sums.{sum_by-cons}
use Rattle.busy_period.specs.declared.timed.Timed.{Timed}
use Rattle.busy_period.specs.Timed.{none_frame, frame_at}
use Rattle.busy_period.specs.Stage.{own_of, higher_of, lower_of}
use Rattle.busy_period.specs.Demand.{instances_of, asks_of, work_of, blocking_of}
use Rattle.busy_period.specs.Busy.{IsShort}
use Rattle.response_test.specs.Frame.{IsShown}

-- the work of numbered frames is that of the frames
work_of_list : List Timed → ℕ → ℕ
work_of_list frames time = sum_by (λ frame. asks_of frame time) frames

work-list : (frames : List Timed) (numbers : List ℕ) (time : ℕ) → work_of frames numbers time ≡ work_of_list (map (frame_at frames) numbers) time
unfolding work_of_list
work-list frames [] time = refl
work-list frames (number ∷ numbers) time =
    sum_by-cons (λ number. asks_of (frame_at frames number) time) number numbers
    ∙ ap (λ n. asks_of (frame_at frames number) time + n) (work-list frames numbers time)
    ∙ sym (sum_by-cons (λ frame. asks_of frame time) (frame_at frames number) (map (frame_at frames) numbers))

-- and so is their blocking
blocking_of_list : List Timed → ℕ
blocking_of_list [] = 0
blocking_of_list (frame ∷ frames) = max frame.ticks (blocking_of_list frames)

blocking-list : (frames : List Timed) (numbers : List ℕ) → blocking_of frames numbers ≡ blocking_of_list (map (frame_at frames) numbers)
unfolding blocking_of_list
blocking-list frames [] = refl
blocking-list frames (number ∷ numbers) = ap (max (frame_at frames number).ticks) (blocking-list frames numbers)

module _ (frames : List Timed) (order numbers : List ℕ) (same : length numbers ≡ length order)
    (each : (number : ℕ) → number < length numbers → slice_index numbers number ≡ number) where
  -- the frames in their order
  abbrev ordered : List Timed
  ordered = map (frame_at frames) order

  -- the frame of a number
  at_number : (number : ℕ) → number < length order → frame_at ordered (slice_index numbers number) ≡ frame_at frames (slice_index order number)
  at_number number inside =
      ap (frame_at ordered) (each number (omega (arith, same))) ∙ get_or-map (frame_at frames) order number 0 none_frame inside

  -- all frames
  all_same : map (frame_at ordered) numbers ≡ ordered
  all_same = ext_get_or none_frame _ _ (length-map numbers (frame_at ordered) ∙ same ∙ sym (length-map order (frame_at frames)))
      (λ i inside.
      let below : i < length numbers = omega (arith, length-map numbers (frame_at ordered)) in
      let there : i < length order = omega (arith, same) in
      get_or-map (frame_at ordered) numbers i 0 none_frame below ∙ at_number i there ∙ sym (get_or-map (frame_at frames) order i 0 none_frame there))

  -- the higher ones and the lower ones
  higher_same : (place : ℕ) → map (frame_at ordered) (take place numbers) ≡ map (frame_at frames) (take place order)
  higher_same place = sym (take-map (frame_at ordered) place numbers) ∙ ap (take place) all_same ∙ take-map (frame_at frames) place order

  lower_same : (place : ℕ) → map (frame_at ordered) (drop (place + 1) numbers) ≡ map (frame_at frames) (drop (place + 1) order)
  lower_same place = sym (drop-map (frame_at ordered) (place + 1) numbers) ∙ ap (drop (place + 1)) all_same ∙ drop-map (frame_at frames) (place + 1) order

  -- their work and their blocking
  work_same : (place time : ℕ) → work_of ordered (higher_of numbers place) time ≡ work_of frames (higher_of order place) time
  work_same place time =
      work-list ordered (take place numbers) time ∙ ap (λ fs. work_of_list fs time) (higher_same place) ∙ sym (work-list frames (take place order) time)

  blocking_same : (place : ℕ) → blocking_of ordered (lower_of numbers place) ≡ blocking_of frames (lower_of order place)
  blocking_same place =
      blocking-list ordered (drop (place + 1) numbers) ∙ ap blocking_of_list (lower_same place) ∙ sym (blocking-list frames (drop (place + 1) order))

  -- what is shown of the frame at a place
  pub shown_renumbered : (place bit busy : ℕ) (starts : List ℕ) → place < length order → IsShown frames order place bit busy starts → IsShown ordered numbers place bit busy starts
  shown_renumbered place bit busy starts inside shown =
      let own : own_of ordered numbers place ≡ own_of frames order place = at_number place inside in
      let blocking = blocking_same place in record {
        holds = record {
          busy = record {
            some = shown.holds.busy.some;
            done = rw (own, blocking, work_same place busy) shown.holds.busy.done;
          };
          short = subst (λ frame. IsShort frame busy) (sym own) shown.holds.short;
        };
        count = shown.count ∙ ap (λ frame. instances_of frame busy) (sym own);
        can_start = λ instance there. rw (own, blocking, work_same place (slice_index starts instance + bit)) (shown.can_start instance there);
        in_time = λ instance there. rw own (shown.in_time instance there);
      }
