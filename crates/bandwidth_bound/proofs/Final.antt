-- Refuted frames are a failing set, and a failing set stays one as items are put.
use Rattle.std.proofs.Common.{◌≡◌, ℕ, zero, suc, ◌+◌, ◌<◌, ◌≤◌, true, false, inl, List, [], ◌∷◌, ◌++◌, length, drop, get_or, nat_eq, All, Contains, refl, sym, ap, subst, ◌∙◌, arith, length-append}
use Rattle.std.specs.Prelude.{not}
use Rattle.std.specs.List.{IsDistinct, range_with_len, list_any}
use Rattle.std.specs.List.Sorted.{IsStrictlyIncreasing}
use Rattle.std.proofs.lemmas.Bool.{ne_eqb}
use Rattle.std.proofs.lemmas.List.{get_or-map, get_or_default, length-map}
use Rattle.std.proofs.lemmas.List.Elements.{All-append, All-cons, All-contains, All-filter, All-contains_itself, All-from_recursion, All-weaker, recursion_from_All}
use Rattle.std.proofs.lemmas.List.FromFn.{get_or-range_with_len, length-range_with_len}
use Rattle.std.proofs.lemmas.List.Kept.{AllPairs-from_increasing, IsStrictlyIncreasing-filter}
use Rattle.std.proofs.lemmas.Map.Keys.{IsDistinct-cons, IsDistinct-from_apart, IsDistinct-head, IsDistinct-tail}
use Rattle.pack_model.specs.declared.item.Item.{Item}
use Rattle.pack_model.specs.Problem.{Parts, IsProblem}
use Rattle.busy_period.specs.declared.timed.Timed.{Timed}
use Rattle.busy_period.specs.Timed.{IsInRange, frame_at, none_frame}
use Rattle.busy_period.specs.Stage.{IsStage, higher_of, lower_of, own_number}
use Rattle.busy_period.specs.Harder.{IsHarder}
use Rattle.busy_period.proofs.Sums.{differ}
use Rattle.response_test.specs.declared.evidence.Evidence.{Evidence}
use Rattle.response_test.specs.declared.evidence.Evidence.TheVariants.{Over}
use Rattle.response_test.specs.Frame.{FramePasses, PassesAgainst}
use Rattle.response_test.specs.Order.{FailSet, others_of, remaining_of}
use Rattle.response_test.specs.Refuted.{IsCommon}
use Rattle.response_test.proofs.Denials.{evidence_denies}
use Rattle.response_test.proofs.Growth.{passes_before_growth}
use Rattle.response_test.proofs.Order.{no_order_passes, others_are, others_distinct, remaining_are, remaining_have}
use Rattle.class_frame.specs.Classes.{frames_of_classes}
use Rattle.class_frame.specs.Frame.{timed_of_items}
use Rattle.class_frame.specs.Grouping.{AreFirstLabels, class_of, classes_of}
use Rattle.class_frame.specs.Legal.{IsLegal}
use Rattle.class_frame.proofs.ClassFrames.{common_period, few_classes}
use Rattle.grouping_tree.specs.Partial.{IsPartial, begins}
use Rattle.grouping_tree.proofs.Fronts.{legal-partial}
use Rattle.grouping_tree.proofs.Options.{get_or-next, take-front}
use Rattle.bandwidth_bound.specs.Failing.{AreRefuted, RefutedBelow, numbers_of, order_below}
use Rattle.bandwidth_bound.specs.Goals.{ClassesFail}
use Rattle.bandwidth_bound.specs.Laws.{AreOf}
use Rattle.bandwidth_bound.specs.Solvable.{Solvable}
use Rattle.bandwidth_bound.proofs.Extend.{are_items, class_harder, class_in_range, classes_stay, first_labels, frame-class, length-frames}

-- ---- the order in which a frame is below the other ones of some frames

pub drop-next : (p r : List ℕ) (own : ℕ) → drop (length p + 1) (p ++ own ∷ r) ≡ r
drop-next [] r own = refl
drop-next (x ∷ p) r own =
    let more : length (x ∷ p) + 1 ≡ suc (length p + 1) = omega arith in
    ap (λ n. drop n (x ∷ p ++ own ∷ r)) more ∙ drop-next p r own

-- numbers that rise differ
pub distinct_rising : (xs : List ℕ) → IsStrictlyIncreasing xs → IsDistinct nat_eq xs
distinct_rising xs rises =
    IsDistinct-from_apart nat_eq xs (λ i j d before inside.
    let less : get_or xs i d < get_or xs j d = AllPairs-from_increasing xs rises i j d before inside in
    ne_eqb (get_or xs i d) (get_or xs j d) (λ same. omega arith))

range_rises : (n : ℕ) → IsStrictlyIncreasing (range_with_len 0 n)
range_rises n k within =
    let long : length (range_with_len 0 n) ≡ n = length-range_with_len 0 n in
    omega (
      arith,
      get_or-range_with_len 0 n k 0 (omega arith),
      get_or-range_with_len 0 n (k + 1) 0 (omega arith),
    )

-- the remaining frames are named once
pub remaining_distinct : (frames : List Timed) (members : List ℕ)
    → IsDistinct nat_eq (remaining_of frames members)
remaining_distinct frames members =
    distinct_rising (remaining_of frames members)
    (IsStrictlyIncreasing-filter (λ number. not (list_any (nat_eq number) members))
    (range_with_len 0 (length frames)) (range_rises (length frames)))

-- two lists of numbers without repeats and without a common one
distinct_joined : (xs ys : List ℕ) → IsDistinct nat_eq xs → IsDistinct nat_eq ys
    → ((z : ℕ) → Contains xs z → ¬ (Contains ys z)) → IsDistinct nat_eq (xs ++ ys)
distinct_joined [] ys front back apart = back
distinct_joined (x ∷ xs) ys front back apart =
    let P : ℕ → Type 0 = λ y. nat_eq x y ≡ false in
    let before : All P xs = All-from_recursion P xs (IsDistinct-head nat_eq x xs front) in
    let after : All P ys = λ k d lt. differ x (get_or ys k d) (λ same.
    apart x (0, omega arith, refl) (k, lt, get_or_default ys k x d lt ∙ sym same)) in
    IsDistinct-cons nat_eq x (xs ++ ys) (recursion_from_All P (xs ++ ys) (All-append P xs ys before after))
    (distinct_joined xs ys (IsDistinct-tail nat_eq x xs front) back
    (λ z (k, lt, is). apart z (suc k, omega arith, is)))

-- the order is one of different frames, with a place for the frame
pub order_stage : (frames : List Timed) (members : List ℕ) (own : ℕ)
    → length frames ≤ 128 → All IsInRange frames
    → All (λ number. number < length frames) members → IsDistinct nat_eq members → Contains members own
    → IsStage frames (order_below frames members own) (length (others_of own members))
order_stage frames members own few ranges named distinct in' =
    let Low : ℕ → Type 0 = λ number. number < length frames in
    let others : List ℕ = others_of own members in
    let rest : List ℕ = remaining_of frames members in
    let low : Low own = All-contains Low members own named in' in
    let rest_low : All Low rest =
    All-weaker (Contains rest) Low (λ z there. (remaining_are frames members z there).0) rest
    (All-contains_itself rest) in
    let others_low : All Low others = All-filter (λ number. not (nat_eq own number)) Low members named in
    let alone : IsDistinct nat_eq (own ∷ []) =
    distinct_rising (own ∷ []) (λ k within. absurd (omega arith)) in
    let below : IsDistinct nat_eq (own ∷ rest) =
    distinct_joined (own ∷ []) rest alone (remaining_distinct frames members)
    (λ z (k, lt, is) there.
    (remaining_are frames members z there).1 (subst (Contains members) (one k lt z is) in')) in
    let apart : (z : ℕ) → Contains others z → ¬ (Contains (own ∷ rest) z) = λ z here there.
    elsewhere z (others_are own members z here) there in
    record {
      few = few;
      in_range = ranges;
      named = All-append Low others (own ∷ rest) others_low (All-cons Low own rest low rest_low);
      distinct = distinct_joined others (own ∷ rest) (others_distinct own members distinct) below apart;
      inside = omega (arith, length-append others (own ∷ rest));
    }
  where
    one : (k : ℕ) → k < length (own ∷ []) → (z : ℕ) → get_or (own ∷ []) k z ≡ z → own ≡ z
    one zero lt z is = is
    one (suc k) lt z is = absurd (omega arith)

    elsewhere : (z : ℕ) → Contains members z × (own ≡ z → ⊥)
        → ¬ (Contains (own ∷ remaining_of frames members) z)
    elsewhere z other (zero, lt, is) = other.1 is
    elsewhere z other (suc k, lt, is) = (remaining_are frames members z (k, omega arith, is)).1 other.0

-- a frame that is refuted in it doesn't pass below the other ones
denied : (frames : List Timed) (bit hyper : ℕ) (members : List ℕ) (own : ℕ) (evidence : Evidence)
    → IsStage frames (order_below frames members own) (length (others_of own members)) → IsCommon frames hyper
    → RefutedBelow frames bit hyper members own evidence
    → ¬ (PassesAgainst frames own (others_of own members) (remaining_of frames members) bit)
denied frames bit hyper members own evidence stage common refuted passes =
    let others : List ℕ = others_of own members in
    let rest : List ℕ = remaining_of frames members in
    let order : List ℕ = order_below frames members own in
    let at : own ≡ own_number order (length others) = sym (get_or-next others rest own 0) in
    let higher : List ℕ = higher_of order (length others) in
    let lower : List ℕ = lower_of order (length others) in
    let above : others ≡ higher = sym (take-front others (own ∷ rest)) in
    let below : rest ≡ lower = sym (drop-next others rest own) in
    let here : FramePasses frames order (length others) bit =
    subst (λ n. PassesAgainst frames n higher lower bit) at
    (subst (λ ys. PassesAgainst frames own ys lower bit) above
    (subst (λ ys. PassesAgainst frames own others ys bit) below passes)) in
    evidence_denies frames order (length others) bit hyper evidence stage common refuted here

-- frames that are refuted below each other are a failing set
pub refuted_is_failing : (frames : List Timed) (bit hyper : ℕ) (named : List (ℕ × Evidence))
    → length frames ≤ 128 → All IsInRange frames → IsCommon frames hyper → AreRefuted frames bit hyper named
    → FailSet frames bit (numbers_of named)
refuted_is_failing frames bit hyper named few ranges common all =
    let members : List ℕ = numbers_of named in
    let number_of : ℕ × Evidence → ℕ = λ entry. entry.0 in
    let distinct : IsDistinct nat_eq members = distinct_rising members all.ascending in
    record {
      some = omega (arith, all.some, length-map named number_of);
      named = all.there;
      distinct = distinct;
      fails = λ own (k, lt, is).
          let d : ℕ × Evidence = (own, Over) in
          let inside : k < length named = omega (arith, lt, length-map named number_of) in
          let same : (get_or named k d).0 ≡ own = sym (get_or-map number_of named k d own inside) ∙ is in
          let evidence : Evidence = (get_or named k d).1 in
          denied frames bit hyper members own evidence
          (order_stage frames members own few ranges all.there distinct (k, lt, is)) common
          (subst (λ n. RefutedBelow frames bit hyper members n evidence) same (all.refuted k d inside));
    }

-- ---- classes as frames

-- the frames of a partial grouping are in range
pub frames_in_range : (problem : Parts) → IsProblem problem → (items : List Item) → AreOf problem items
    → (p : List ℕ) → IsPartial items p → All IsInRange (frames_of_classes problem items p)
frames_in_range problem stands items of p partial label d inside =
    let low : label < classes_of p = omega (arith, inside, length-frames problem items p) in
    subst IsInRange (sym (frame-class problem items p label d low))
    (class_in_range problem stands items of p partial label low)

-- all items of a problem are of it
pub all_items : (problem : Parts) → AreOf problem problem.items
all_items problem = All-contains_itself problem.items

-- a frame gets harder, label by label
pub frame_harder : (problem : Parts) → IsProblem problem → (items : List Item) → AreOf problem items
    → (p q : List ℕ) → IsPartial items p → IsPartial items q → begins p q ≡ true
    → (label : ℕ) → label < classes_of p
    → IsHarder (frame_at (frames_of_classes problem items p) label)
    (frame_at (frames_of_classes problem items q) label)
frame_harder problem stands items of p q partial further e label low =
    let there : label < classes_of q = omega (arith, low, classes_stay p q e) in
    let before : Timed = timed_of_items problem (class_of label p items) in
    subst (λ frame. IsHarder frame (frame_at (frames_of_classes problem items q) label))
    (sym (frame-class problem items p label none_frame low))
    (subst (IsHarder before) (sym (frame-class problem items q label none_frame there))
    (class_harder problem stands items of p q partial further e label low))

-- ---- failing sets

-- frames get harder, and others join, below all
pub record GetHarder (frames frames' : List Timed) : Type 0 where
  pub stay : length frames ≤ length frames'
  pub each : (number : ℕ) → number < length frames
      → IsHarder (frame_at frames number) (frame_at frames' number)

-- then a failing set stays one
pub failing_grows : (frames frames' : List Timed) (bit : ℕ) (members : List ℕ)
    → 1 ≤ bit → GetHarder frames frames' → FailSet frames bit members → FailSet frames' bit members
failing_grows frames frames' bit members some grow failing =
    let Low : ℕ → Type 0 = λ number. number < length frames in
    let low : (z : ℕ) → Contains members z → z < length frames =
    λ z in'. All-contains Low members z failing.named in' in
    record {
      some = failing.some;
      named = All-weaker Low (λ number. number < length frames')
          (λ number below. omega (arith, below, grow.stay)) members failing.named;
      distinct = failing.distinct;
      fails = λ own in' passes. failing.fails own in'
          (passes_before_growth frames frames' own (others_of own members) (remaining_of frames members)
          (others_of own members) (remaining_of frames' members) bit some (grow.each own (low own in'))
          (record {
            distinct = others_distinct own members failing.distinct;
            stay_higher = λ z there. there;
            stay_or_move_up = λ z there.
                let other = remaining_are frames members z there in
                inl (remaining_have frames' members z (omega (arith, other.0, grow.stay)) other.1);
            higher_harder = λ z there. grow.each z (low z (others_are own members z there).0);
            lower_harder = λ z there. grow.each z (remaining_are frames members z there).0;
          }) passes);
    }

-- a failing set of classes stays one as items are put
pub failing_sets_grow : (problem : Parts) → IsProblem problem → (items : List Item) → AreOf problem items
    → (p q : List ℕ) → IsPartial items p → IsPartial items q → begins p q ≡ true → (members : List ℕ)
    → FailSet (frames_of_classes problem items p) problem.network.nominal_ticks members
    → FailSet (frames_of_classes problem items q) problem.network.nominal_ticks members
failing_sets_grow problem stands items of p q partial further e members =
    failing_grows (frames_of_classes problem items p) (frames_of_classes problem items q)
    problem.network.nominal_ticks members stands.network.nominal_low
    (record {
      stay = omega (arith, length-frames problem items p, length-frames problem items q, classes_stay p q e);
      each = λ label inside.
          frame_harder problem stands items of p q partial further e label
          (omega (arith, inside, length-frames problem items p));
    })

-- no legal grouping that extends a partial one with a failing set can meet all deadlines
pub fail_set_is_final : (problem : Parts) → IsProblem problem → (p q : List ℕ) (members : List ℕ)
    → IsPartial problem.items p → IsLegal problem.items q → begins p q ≡ true
    → FailSet (frames_of_classes problem problem.items p) problem.network.nominal_ticks members
    → ¬ (Solvable problem q)
fail_set_is_final problem stands p q members partial legal e failing it =
    let of : AreOf problem problem.items = all_items problem in
    let further : IsPartial problem.items q = legal-partial problem.items q legal in
    no_order_passes (frames_of_classes problem problem.items q) problem.network.nominal_ticks members it.order
    stands.network.nominal_low (frames_in_range problem stands problem.items of q further)
    (failing_sets_grow problem stands problem.items of p q partial further e members failing) it.passes

-- nor can one that extends a partial one with classes that are refuted
pub failing_is_final : (problem : Parts) → IsProblem problem → (p q : List ℕ) (named : List (ℕ × Evidence))
    → IsPartial problem.items p → IsLegal problem.items q → begins p q ≡ true
    → ClassesFail problem p named → ¬ (Solvable problem q)
failing_is_final problem stands p q named partial legal e fail =
    let of : AreOf problem problem.items = all_items problem in
    let frames : List Timed = frames_of_classes problem problem.items p in
    let front : AreFirstLabels problem.items p = first_labels problem.items p partial in
    let few : length frames ≤ 128 =
    omega (arith, length-frames problem problem.items p, few_classes problem p stands front) in
    fail_set_is_final problem stands p q (numbers_of named) partial legal e
    (refuted_is_failing frames problem.network.nominal_ticks problem.hyper named few
    (frames_in_range problem stands problem.items of p partial)
    (common_period problem p frames stands (are_items problem stands problem.items of) front refl) fail)
