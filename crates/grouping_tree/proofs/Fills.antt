-- What items take in one frame, by what is kept of their class, and a class with one item more.
use Rattle.std.proofs.Common.{◌≡◌, ℕ, ◌+◌, ◌*◌, ◌/◌, ◌<◌, ◌≤◌, ◌⊎◌, inl, inr, min, max, true, false, if◌then◌else◌, List, [], ◌∷◌, ◌++◌, length, All, sum_by, nat_le, refl, sym, ap, ◌∙◌, arith}
use Rattle.std.specs.Int.{div_ceil}
use Rattle.std.proofs.Math.Nat.{mul-le-mul, mul-le-mul_left}
use Rattle.std.proofs.lemmas.Bool.{cases_lt, le-leb, lt-leb}
use Rattle.std.proofs.lemmas.Grind.{div_ceil_times}
use Rattle.std.proofs.lemmas.List.Elements.{All-head, All-tail}
use Rattle.std.proofs.lemmas.List.Sums.{sum_by-cons}
use Rattle.pack_model.specs.declared.item.Item.{Item}
use Rattle.pack_model.specs.Problem.{Parts, IsProblem}
use Rattle.class_frame.specs.Frame.{bytes_of_item, bytes_of_items, deadline_of_items, ids_of, is_pdu, jitter_of_items, period_of_items, weight_of_item}
use Rattle.class_frame.specs.Laws.{HasSignal}
use Rattle.class_frame.specs.Sums.{sums_of}
use Rattle.class_frame.specs.declared.sums.Sums.{Sums}
use Rattle.class_frame.proofs.Headers.{bytes_free, bytes_pdus}
use Rattle.class_frame.proofs.Joining.{sums_of-append}
use Rattle.class_frame.proofs.Ranges.{frame_in_range, times_of_sums}
use Rattle.class_frame.proofs.Standing.{all_from_count, count_from_kind, none_from_count}
use Rattle.grouping_tree.specs.Class.{AreOneKind, IsFill, fill_of, header_bytes_of, together}
use Rattle.grouping_tree.specs.declared.class.Fill.{Fill}

-- the fill of one item more
pub fill_put : (problem : Parts) (items more : List Item) (a b : Fill) → IsFill problem items a → IsFill problem more b
    → IsFill problem (items ++ more) (together a b)
fill_put problem items more a b first second =
    ap (λ f. together f b) first ∙ ap (together (fill_of (sums_of problem items))) second
    ∙ sym (ap fill_of (sums_of-append problem items more))

-- free items weigh their bits
weight_free : (items : List Item) → All (λ item. is_pdu item ≡ false) items
    → sum_by weight_of_item items ≡ sum_by (λ item. item.bits) items
weight_free [] all = refl
weight_free (x ∷ xs) all =
    let here : weight_of_item x ≡ x.bits =
    ap (λ b. if b then 8 * bytes_of_item x else x.bits) (All-head (λ (item : Item). is_pdu item ≡ false) x xs all) in
    omega (
      arith,
      here,
      sum_by-cons weight_of_item x xs,
      sum_by-cons (λ (item : Item). item.bits) x xs,
      weight_free xs (All-tail (λ (item : Item). is_pdu item ≡ false) x xs all),
    )

-- and I-PDUs 8 times their bytes
weight_pdus : (items : List Item) → All (λ item. is_pdu item ≡ true) items
    → sum_by weight_of_item items ≡ 8 * sum_by bytes_of_item items
weight_pdus [] all = refl
weight_pdus (x ∷ xs) all =
    let here : weight_of_item x ≡ 8 * bytes_of_item x =
    ap (λ b. if b then 8 * bytes_of_item x else x.bits) (All-head (λ (item : Item). is_pdu item ≡ true) x xs all) in
    omega (
      arith,
      here,
      sum_by-cons weight_of_item x xs,
      sum_by-cons bytes_of_item x xs,
      weight_pdus xs (All-tail (λ (item : Item). is_pdu item ≡ true) x xs all),
    )

-- the bytes of items without and with I-PDUs
pub fill_free : (problem : Parts) (items : List Item) (fill : Fill) → IsFill problem items fill → fill.pdus ≡ 0
    → div_ceil fill.weight 8 ≡ bytes_of_items items
fill_free problem items fill is none =
    let no : length (ids_of items) ≡ 0 = sym (ap (λ (f : Fill). f.pdus) is) ∙ none in
    ap (λ (f : Fill). div_ceil f.weight 8) is
    ∙ ap (λ n. div_ceil n 8) (weight_free items (none_from_count items no)) ∙ sym (bytes_free items no)

pub fill_pdus : (problem : Parts) (items : List Item) (fill : Fill) (header : ℕ) → IsFill problem items fill
    → AreOneKind items → 1 ≤ fill.pdus → header ≡ header_bytes_of items
    → fill.pdus * header + fill.weight / 8 ≡ bytes_of_items items
fill_pdus problem items fill header is kind some same = by (count_from_kind items kind)
  where
    many : fill.pdus ≡ length (ids_of items)
    many = ap (λ (f : Fill). f.pdus) is

    by : (length (ids_of items) ≡ 0) ⊎ (length (ids_of items) ≡ length items)
        → fill.pdus * header + fill.weight / 8 ≡ bytes_of_items items
    by (inl none) = absurd (omega (arith, none, many, some))
    by (inr all) =
        let weight : fill.weight ≡ 8 * sum_by bytes_of_item items =
        ap (λ (f : Fill). f.weight) is ∙ weight_pdus items (all_from_count items all) in
        let bytes : fill.weight / 8 ≡ sum_by bytes_of_item items = omega (arith, weight) in
        (λ i. many i * same i + bytes i) ∙ sym (bytes_pdus items (omega (arith, many, some)))

-- items of more than 512 bits take more than 64 bytes
pub fill_heavy : (problem : Parts) (items : List Item) (fill : Fill) → IsFill problem items fill → AreOneKind items
    → 512 < fill.weight → nat_le (bytes_of_items items) 64 ≡ false
fill_heavy problem items fill is kind heavy = lt-leb (bytes_of_items items) 64 (by (count_from_kind items kind))
  where
    many : fill.pdus ≡ length (ids_of items)
    many = ap (λ (f : Fill). f.pdus) is

    by : (length (ids_of items) ≡ 0) ⊎ (length (ids_of items) ≡ length items) → 64 < bytes_of_items items
    by (inl none) =
        omega (
          arith,
          fill_free problem items fill is (many ∙ none),
          div_ceil_times fill.weight 8 (omega arith),
          heavy,
        )
    by (inr all) =
        let weight : fill.weight ≡ 8 * sum_by bytes_of_item items =
        ap (λ (f : Fill). f.weight) is ∙ weight_pdus items (all_from_count items all) in
        elim (cases_lt 0 fill.pdus) [
          | inl some ↦
              omega (
                arith,
                fill_pdus problem items fill (header_bytes_of items) is kind some refl,
                weight,
                heavy,
              )
          | inr none ↦
              omega (
                arith,
                fill_free problem items fill is (omega (arith, none)),
                div_ceil_times fill.weight 8 (omega arith),
                heavy,
              )
        ]

-- and free ones of no more bits at most as many
pub fill_light : (problem : Parts) (items : List Item) (fill : Fill) → IsFill problem items fill → fill.pdus ≡ 0
    → fill.weight ≤ 512 → nat_le (bytes_of_items items) 64 ≡ true
fill_light problem items fill is none light =
    le-leb (bytes_of_items items) 64
    (omega (arith, fill_free problem items fill is none, div_ceil_times fill.weight 8 (omega arith), light))

-- ---- the times of a class with one item more

times_min : (k a b : ℕ) → k * min a b ≡ min (k * a) (k * b)
times_min k a b = by (cases_lt a b)
  where
    by : (a < b) ⊎ (b ≤ a) → k * min a b ≡ min (k * a) (k * b)
    by (inl lt) =
        let least : min a b ≡ a = omega (arith, lt) in
        let le : k * a ≤ k * b = mul-le-mul_left k (omega (arith, lt)) in
        ap (λ n. k * n) least ∙ (let e : k * a ≡ min (k * a) (k * b) = omega (arith, le) in e)
    by (inr le) =
        let least : min a b ≡ b = omega (arith, le) in
        let more : k * b ≤ k * a = mul-le-mul_left k le in
        ap (λ n. k * n) least ∙ (let e : k * b ≡ min (k * a) (k * b) = omega (arith, more) in e)

times_max : (k a b : ℕ) → k * max a b ≡ max (k * a) (k * b)
times_max k a b = by (cases_lt a b)
  where
    by : (a < b) ⊎ (b ≤ a) → k * max a b ≡ max (k * a) (k * b)
    by (inl lt) =
        let most : max a b ≡ b = omega (arith, lt) in
        let le : k * a ≤ k * b = mul-le-mul_left k (omega (arith, lt)) in
        ap (λ n. k * n) most ∙ (let e : k * b ≡ max (k * a) (k * b) = omega (arith, le) in e)
    by (inr le) =
        let most : max a b ≡ a = omega (arith, le) in
        let more : k * b ≤ k * a = mul-le-mul_left k le in
        ap (λ n. k * n) most ∙ (let e : k * a ≡ max (k * a) (k * b) = omega (arith, more) in e)

-- a quotient never falls as the divisor falls
div_rises : (a b c : ℕ) → 1 ≤ c → c ≤ b → a / b ≤ a / c
div_rises a b c some le =
    elim (cases_lt (a / c) (a / b)) [
      | inl above ↦
          let most : c * (a / c + 1) ≤ b * (a / b) = mul-le-mul le (omega (arith, above)) in
          absurd (omega (arith, most))
      | inr below ↦ below
    ]

div_min : (n a b : ℕ) → 1 ≤ a → 1 ≤ b → n / min a b ≡ max (n / a) (n / b)
div_min n a b some other = by (cases_lt a b)
  where
    by : (a < b) ⊎ (b ≤ a) → n / min a b ≡ max (n / a) (n / b)
    by (inl lt) =
        let least : min a b ≡ a = omega (arith, lt) in
        let le = div_rises n b a some (omega (arith, lt)) in
        ap (λ m. n / m) least ∙ (let e : n / a ≡ max (n / a) (n / b) = omega (arith, le) in e)
    by (inr le) =
        let least : min a b ≡ b = omega (arith, le) in
        let more = div_rises n a b other le in
        ap (λ m. n / m) least ∙ (let e : n / b ≡ max (n / a) (n / b) = omega (arith, more) in e)

module _ (problem : Parts) (stands : IsProblem problem) (items : List Item) (item : Item) (some : HasSignal problem items)
    (one : HasSignal problem (item ∷ [])) (both : HasSignal problem (items ++ item ∷ [])) where
  pub period_put : period_of_items problem (items ++ item ∷ [])
      ≡ min (period_of_items problem items) (period_of_items problem (item ∷ []))
  period_put =
      let a = (times_of_sums problem stands items some (sums_of problem items) refl).period in
      let b = (times_of_sums problem stands (item ∷ []) one (sums_of problem (item ∷ [])) refl).period in
      let c = (times_of_sums problem stands (items ++ item ∷ []) both (sums_of problem (items ++ item ∷ [])) refl).period in
      ap (λ n. problem.network.ticks_per_us * n)
      (sym c ∙ ap (λ (s : Sums). s.period_us) (sums_of-append problem items (item ∷ [])) ∙ (λ i. min (a i) (b i)))
      ∙ times_min problem.network.ticks_per_us _ _

  pub deadline_put : deadline_of_items problem (items ++ item ∷ [])
      ≡ min (deadline_of_items problem items) (deadline_of_items problem (item ∷ []))
  deadline_put =
      let a = (times_of_sums problem stands items some (sums_of problem items) refl).deadline in
      let b = (times_of_sums problem stands (item ∷ []) one (sums_of problem (item ∷ [])) refl).deadline in
      let c = (times_of_sums problem stands (items ++ item ∷ []) both (sums_of problem (items ++ item ∷ [])) refl).deadline in
      ap (λ n. problem.network.ticks_per_us * n)
      (sym c ∙ ap (λ (s : Sums). s.deadline_us) (sums_of-append problem items (item ∷ [])) ∙ (λ i. min (a i) (b i)))
      ∙ times_min problem.network.ticks_per_us _ _

  pub jitter_put : jitter_of_items problem (items ++ item ∷ [])
      ≡ max (jitter_of_items problem items) (jitter_of_items problem (item ∷ []))
  jitter_put =
      ap (λ (s : Sums). problem.network.ticks_per_us * s.jitter_us) (sums_of-append problem items (item ∷ []))
      ∙ times_max problem.network.ticks_per_us _ _

  -- it is sent as often as the one that is sent more often
  pub share_put : problem.hyper / period_of_items problem (items ++ item ∷ [])
      ≡ max (problem.hyper / period_of_items problem items) (problem.hyper / period_of_items problem (item ∷ []))
  share_put =
      ap (λ n. problem.hyper / n) period_put
      ∙ div_min problem.hyper (period_of_items problem items) (period_of_items problem (item ∷ []))
      (frame_in_range problem items stands some).some_period
      (frame_in_range problem (item ∷ []) stands one).some_period
