-- What is kept of a class once the next item is in it, and the classes of a partial grouping as frames.
use Rattle.std.proofs.Common.{◌≡◌, ◌<◌, ◌≤◌, ◌+◌, ◌%◌, ℕ, zero, suc, [], ◌∷◌, ◌++◌, List, length, map, take, get_or, All, refl, sym, ap, subst, ◌∙◌, arith, length-append}
use Rattle.std.specs.List.{range_with_len}
use Rattle.std.proofs.lemmas.List.Elements.{All-map}
use Rattle.std.proofs.lemmas.List.FromFn.{get_or-range_with_len, length-map-range_with_len, length-range_with_len}
use Rattle.busy_period.specs.declared.timed.Timed.{Timed}
use Rattle.busy_period.specs.Timed.{IsInRange}
use Rattle.pack_model.specs.declared.item.Item.{Item}
use Rattle.pack_model.specs.declared.network.Network.{Network}
use Rattle.pack_model.specs.Problem.{Parts}
use Rattle.pack_model.proofs.Laws.{tests}
use Rattle.pack_model.proofs.Periods.{problem_period}
use Rattle.response_test.specs.Queueing.{IsBit}
use Rattle.response_test.specs.Refuted.{IsCommon}
use Rattle.class_frame.specs.Classes.{frames_of_classes}
use Rattle.class_frame.specs.Frame.{bytes_of_items, timed_of_items}
use Rattle.class_frame.specs.Grouping.{class_of, classes_of}
use Rattle.class_frame.specs.Laws.{HasSignal}
use Rattle.class_frame.proofs.Harder.{period_divides}
use Rattle.class_frame.proofs.Ranges.{bit_within, frame_in_range}
use Rattle.grouping_tree.specs.Grouped.{Belongs, IsFrameLength, IsNext, IsUsed, items_with, labels_of, range_of}
use Rattle.grouping_tree.specs.Partial.{IsPartial}
use Rattle.grouping_tree.specs.declared.frame_length.FrameLength.{FrameLength}
use Rattle.grouping_tree.specs.declared.partial.Partial.{Partial}
use Rattle.grouping_tree.specs.Class.{IsClass, together}
use Rattle.grouping_tree.specs.declared.class.Class.{Class}
use Rattle.grouping_tree.specs.declared.class.Fill.{Fill}
use Rattle.grouping_tree.proofs.Puts.{class-unused}
use Rattle.grouping_tree.proofs.Slacks.{size_low}
use Rattle.grouping_tree.proofs.Steps.{class_next, element, range_at}
use Rattle.grouping_tree.proofs.Used.{class_signal, classes_few, few, item_signal, long, used_signal}

-- the class of a label that is put has a signal
pub put_signal : (problem : Parts) (p : Partial) (label : ℕ) → Belongs problem p
    → IsPartial (range_of problem p) (labels_of p ++ label ∷ [])
    → HasSignal problem (class_of label (labels_of p ++ label ∷ []) (range_of problem p))
put_signal problem p label b legal =
    let range = range_of problem p in
    let labels = labels_of p in
    let some : length labels < length range = omega (arith, legal.within, length-append labels (label ∷ [])) in
    let (item, at) = element range (length labels) some in
    class_signal problem p (labels ++ label ∷ []) label b
    (omega (
      arith,
      ap length (class_next label labels range item some at),
      length-append (items_with problem p label) (item ∷ []),
    ))

-- and its bytes are in the table of lengths
pub bytes_low : (problem : Parts) (p : Partial) (label bytes : ℕ)
    → IsPartial (range_of problem p) (labels_of p ++ label ∷ [])
    → bytes ≡ bytes_of_items (class_of label (labels_of p ++ label ∷ []) (range_of problem p)) → bytes < 65
bytes_low problem p label bytes legal is = omega (arith, is, (legal.classes label).small)

pub long_is : (problem : Parts) (p : Partial) (label bytes : ℕ) (long : FrameLength) → Belongs problem p
    → IsPartial (range_of problem p) (labels_of p ++ label ∷ [])
    → bytes ≡ bytes_of_items (class_of label (labels_of p ++ label ∷ []) (range_of problem p))
    → long ≡ get_or p.lengths.items bytes long
    → IsFrameLength problem.network
    (bytes_of_items (class_of label (labels_of p ++ label ∷ []) (range_of problem p))) long
long_is problem p label bytes long b legal is at =
    subst (λ n. IsFrameLength problem.network n long) is
    (subst (IsFrameLength problem.network bytes) (sym at)
    (b.lengths bytes long (bytes_low problem p label bytes legal is)))

-- its frame has at most 64 bytes
pub long_low : (network : Network) (bytes : ℕ) (long : FrameLength) → IsFrameLength network bytes long → long.size ≤ 64
long_low network bytes long is = subst (λ n. n ≤ 64) (sym is.size) (size_low bytes)

-- the class of a new label is that of the item alone
pub put_new : (problem : Parts) (p : Partial) (label : ℕ) (next : Class) → Belongs problem p → IsNext problem p next
    → label ≡ p.classes → IsClass problem (class_of label (labels_of p ++ label ∷ []) (range_of problem p)) next
put_new problem p label next b is same =
    let range = range_of problem p in
    let labels = labels_of p in
    let (item, at) = element range (length labels) is.some in
    let none : class_of label labels range ≡ [] = class-unused labels range label (omega (arith, same, b.classes)) in
    subst (λ xs. IsClass problem xs next)
    (sym (class_next label labels range item is.some at ∙ ap (λ xs. xs ++ item ∷ []) none))
    (subst (λ x. IsClass problem (x ∷ []) next) (sym at) (is.alone item))

-- and that of a used one what its items and the item make
pub put_used : (problem : Parts) (p : Partial) (label : ℕ) (next before after : Class) (fill : Fill) (sized : FrameLength)
    → Belongs problem p → IsNext problem p next → IsUsed p label
    → IsPartial (range_of problem p) (labels_of p ++ label ∷ [])
    → IsClass problem (items_with problem p label) before → fill ≡ together before.fill next.fill
    → IsFrameLength problem.network
    (bytes_of_items (class_of label (labels_of p ++ label ∷ []) (range_of problem p))) sized
    → ((items : List Item) (item : Item) → HasSignal problem items → HasSignal problem (item ∷ [])
    → HasSignal problem (items ++ item ∷ []) → IsClass problem items before → IsClass problem (item ∷ []) next
    → fill ≡ together before.fill next.fill → IsFrameLength problem.network (bytes_of_items (items ++ item ∷ [])) sized
    → IsClass problem (items ++ item ∷ []) after)
    → IsClass problem (class_of label (labels_of p ++ label ∷ []) (range_of problem p)) after
put_used problem p label next before after fill sized b is low legal first same length_is join =
    let range = range_of problem p in
    let labels = labels_of p in
    let items = items_with problem p label in
    let (item, at) = element range (length labels) is.some in
    let more : class_of label (labels ++ label ∷ []) range ≡ items ++ item ∷ [] =
    class_next label labels range item is.some at in
    let one : HasSignal problem (item ∷ []) = next_alone problem p item b is at in
    subst (λ xs. IsClass problem xs after) (sym more)
    (join items item (used_signal problem p label b low) one
    (subst (HasSignal problem) more (put_signal problem p label b legal)) first
    (subst (λ x. IsClass problem (x ∷ []) next) (sym at) (is.alone item)) same
    (subst (λ xs. IsFrameLength problem.network (bytes_of_items xs) sized) more length_is))
  where
    next_alone : (problem : Parts) (p : Partial) (item : Item) → Belongs problem p → IsNext problem p next
        → item ≡ get_or (range_of problem p) (length (labels_of p)) item → HasSignal problem (item ∷ [])
    next_alone problem p item b is at =
        let some : length (labels_of p) < p.many = omega (arith, is.some, long problem p b) in
        item_signal problem b.stands (p.first + length (labels_of p)) item (omega (arith, some, b.inside))
        (at ∙ range_at p.first p.many problem.items (length (labels_of p)) item some)

-- ---- the frames

-- a front of a table that has a figure at each place
by_table : {U : Type 0} (f : ℕ → U) (a : ℕ) (table : List U) (n : ℕ) → n ≤ length table → ((k : ℕ) (d : U) → k < n → get_or table k d ≡ f (a + k)) → take n table ≡ map f (range_with_len a n)
by_table f a table zero le each = refl
by_table f a [] (suc n) le each = absurd (omega arith)
by_table f a (x ∷ table) (suc n) le each =
    let first : x ≡ f a = each 0 x (omega arith) ∙ ap f (let e : a + 0 ≡ a = omega arith in e) in
    let rest = by_table f (a + 1) table n (omega arith) (λ k d lt. each (suc k) d (omega arith) ∙ ap f (let e : a + suc k ≡ a + 1 + k = omega arith in e)) in
    λ i. first i ∷ rest i

module _ (problem : Parts) (p : Partial) (b : Belongs problem p) where
  -- the frame of a label
  abbrev frame_of : ℕ → Timed
  frame_of label = timed_of_items problem (items_with problem p label)

  pub frames_within : p.classes ≤ length p.frames.items
  frames_within = omega (arith, b.classes, classes_few problem p b, b.within, b.enough, b.frames_room)

  -- the frames that are kept are those of the classes
  pub frames_are : (table : List Timed) → table ≡ p.frames.items → take p.classes table ≡ frames_of_classes problem (range_of problem p) (labels_of p)
  frames_are table same =
      ap (take p.classes) same
      ∙ by_table frame_of 0 p.frames.items p.classes frames_within
      (λ k d lt. b.frames k d (omega (arith, lt, frames_within, b.frames_room)) ∙ ap frame_of (let e : k ≡ 0 + k = omega arith in e))
      ∙ ap (λ n. map frame_of (range_with_len 0 n)) b.classes

  pub frames_count : (frames : List Timed) → frames ≡ frames_of_classes problem (range_of problem p) (labels_of p) → length frames ≡ classes_of (labels_of p)
  frames_count frames is = ap length is ∙ length-map-range_with_len frame_of 0 (classes_of (labels_of p))

  pub frames_few : (frames : List Timed) → frames ≡ frames_of_classes problem (range_of problem p) (labels_of p) → length frames ≤ 128
  frames_few frames is = omega (arith, frames_count frames is, classes_few problem p b, b.within, few problem p b)

  -- what holds of the frame of each label holds of all
  all_frames : (P : Timed → Type 0) (frames : List Timed) → frames ≡ frames_of_classes problem (range_of problem p) (labels_of p)
      → ((label : ℕ) → label < classes_of (labels_of p) → P (frame_of label)) → All P frames
  all_frames P frames is each =
      subst (All P) (sym is) (All-map P frame_of (range_with_len 0 (classes_of (labels_of p)))
      (λ k d lt. each (get_or (range_with_len 0 (classes_of (labels_of p))) k d) (low k d lt)))
    where
      low : (k d : ℕ) → k < length (range_with_len 0 (classes_of (labels_of p))) → get_or (range_with_len 0 (classes_of (labels_of p))) k d < classes_of (labels_of p)
      low k d lt =
          let within : k < classes_of (labels_of p) = omega (arith, lt, length-range_with_len 0 (classes_of (labels_of p))) in
          omega (arith, get_or-range_with_len 0 (classes_of (labels_of p)) k d within, within)

  pub frames_in_range : (frames : List Timed) → frames ≡ frames_of_classes problem (range_of problem p) (labels_of p) → All IsInRange frames
  frames_in_range frames is = all_frames IsInRange frames is (λ label low. frame_in_range problem (items_with problem p label) b.stands (used_signal problem p label b low))

  pub frames_bit : (frames : List Timed) → frames ≡ frames_of_classes problem (range_of problem p) (labels_of p) → IsBit frames problem.network.nominal_ticks
  frames_bit frames is = record {
    some = b.stands.network.nominal_low;
    within = all_frames (λ (frame : Timed). problem.network.nominal_ticks ≤ frame.ticks) frames is (λ label low. bit_within problem (items_with problem p label));
  }

  pub frames_common : (frames : List Timed) → frames ≡ frames_of_classes problem (range_of problem p) (labels_of p) → IsCommon frames problem.hyper
  frames_common frames is = record {
    some = (problem_period problem b.stands).some;
    within = (tests problem b.stands).hyper_high;
    multiple = all_frames (λ (frame : Timed). problem.hyper % frame.period ≡ 0) frames is
        (λ label low. period_divides problem (items_with problem p label) (problem_period problem b.stands) (used_signal problem p label b low));
  }
