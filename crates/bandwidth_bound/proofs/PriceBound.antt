-- The lower bound is below every completion, and the load where all items are placed.
use Rattle.std.proofs.Common.{◌≡◌, ℕ, ◌+◌, ◌-◌, ◌*◌, ◌<◌, ◌≤◌, ◌^◌, ◌⊎◌, inl, inr, true, List, [], ◌∷◌, ◌++◌, length, take, drop, map, nat_lt, sum_by, Option, None, Some, All, Contains, slice_index_or, refl, sym, ap, subst, ◌∙◌, arith, length-append, take-append-drop, length-take-le}
use Rattle.std.specs.List.{range_with_len}
use Rattle.std.proofs.Math.Seq.{drop-append_seam}
use Rattle.std.proofs.lemmas.Bool.{cases_eq}
use Rattle.std.proofs.lemmas.List.{drop_all, take_all}
use Rattle.std.proofs.lemmas.List.Elements.{All-contains_itself, All-filter, All-head, All-weaker}
use Rattle.pack_model.specs.declared.item.Item.{Item}
use Rattle.pack_model.specs.Problem.{Parts, IsProblem, items_in_order, senders_of, sent_by}
use Rattle.pack_model.proofs.ItemFacts.{IsItemOf}
use Rattle.pack_model.proofs.Laws.{tests}
use Rattle.pack_model.proofs.OrderSteps.{all_numbered}
use Rattle.pack_model.proofs.ProblemItems.{of_problem}
use Rattle.class_frame.specs.Classes.{load_of}
use Rattle.class_frame.specs.Frame.{load_of_items}
use Rattle.class_frame.specs.Grouping.{class_of, classes_of}
use Rattle.class_frame.specs.Legal.{ClassStands, IsLegal}
use Rattle.grouping_tree.specs.Grouped.{items_in}
use Rattle.grouping_tree.specs.Partial.{IsPartial, begins}
use Rattle.grouping_tree.specs.Slack.{at_sender, over_classes, sender_in_work, slack_of, slacks_of}
use Rattle.grouping_tree.proofs.Fronts.{legal-partial}
use Rattle.grouping_tree.proofs.Senders.{Rises, problem_rises}
use Rattle.bandwidth_bound.specs.Bounds.{load8_of}
use Rattle.bandwidth_bound.specs.Laws.{AreOf}
use Rattle.bandwidth_bound.specs.Lemmas.{LemmasHold}
use Rattle.bandwidth_bound.specs.Prices.{floor8_of, later8_of, left8_of, lower8_of, next_sender, price_of, prices_of, terms8_of}
use Rattle.bandwidth_bound.proofs.Extend.{are_items}
use Rattle.bandwidth_bound.proofs.Loads.{loads_fit}
use Rattle.bandwidth_bound.proofs.PriceFloors.{IsFloor, bound-below, item_at, joined, one-of-sender, over-joined, prices-floor}
use Rattle.bandwidth_bound.proofs.PriceFrames.{joins, rises}
use Rattle.bandwidth_bound.proofs.PriceItems.{AreBefore, are_before, before, before_front, by_groups, groups_apart, groups_floor, placed_before, rises_sent, sent_all, sent_few, sent_is, sent_none, sent_other, sent_same, sum_eight, sum_groups, sum_none, sum_sent}
use Rattle.bandwidth_bound.proofs.PriceSums.{IsPriced, sum-zero}

module _ (problem : Parts) (stands : IsProblem problem) where
  -- what a class costs, in eighths
  abbrev cost : List Item → ℕ
  cost items = 8 * load_of_items problem items

  load_is : (items : List Item) (q : List ℕ) → over_classes cost items q ≡ 8 * load_of problem items q
  load_is items q =
      sum_eight (λ label. load_of_items problem (class_of label q items)) (range_with_len 0 (classes_of q))

  priced : IsPriced (IsItemOf problem.signals) cost (slack_of problem) (price_of problem)
  priced xs ys class all = joins problem stands xs ys class all

  risen : (xs ys : List Item) → ClassStands (xs ++ ys) → All (IsItemOf problem.signals) (xs ++ ys)
      → cost xs ≤ cost (xs ++ ys)
  risen xs ys class all = rises problem stands xs ys class all

  risen_priced : IsPriced (IsItemOf problem.signals) cost (λ xs. 0) (λ x. 0)
  risen_priced xs ys class all = omega (arith, risen xs ys class all, sum-zero ys)

  no_slack : slack_of problem [] ≡ 0
  no_slack = omega arith

  module _ (items : List Item) (all : All (IsItemOf problem.signals) items) (up : Rises 0 items)
      (low : All (λ item. item.sender < length problem.senders) items) (p : List ℕ)
      (within : length p ≤ length items) where
    abbrev now : ℕ → List Item
    now a = before a items

    abbrev groups : ℕ → List (List Item)
    groups a = map (sent_by items) (range_with_len a (length problem.senders - a))

    -- all items together
    whole_is : (a : ℕ) → joined (now a) (groups a) ≡ items
    whole_is a =
        by_groups items 0 a (length problem.senders - a) up
        (All-weaker (λ item. item.sender < length problem.senders)
        (λ item. item.sender < a + (length problem.senders - a)) (λ item lt. omega (arith, lt)) items low)

    right_now : (a : ℕ) → All (IsItemOf problem.signals) (now a)
    right_now a = All-filter (λ item. nat_lt item.sender a) (IsItemOf problem.signals) items all

    -- what is placed comes first among those before the next sender
    now_is : (a : ℕ) → next_sender (sender_in_work items p) ≡ a
        → now a ≡ take (length p) items ++ before a (drop (length p) items)
    now_is a e =
        let split : take (length p) items ++ drop (length p) items ≡ items =
        take-append-drop (length p) items in
        let placed : AreBefore a (take (length p) items) =
        subst (λ n. AreBefore n (take (length p) items)) e
        (placed_before 0 (take (length p) items) (drop (length p) items) (subst (Rises 0) (sym split) up)) in
        ap (before a) (sym split) ∙ before_front a (take (length p) items) (drop (length p) items) placed

    length_is : length (take (length p) items) ≡ length p
    length_is = length-take-le (length p) items within

    now_long : (a : ℕ) → next_sender (sender_in_work items p) ≡ a → length p ≤ length (now a)
    now_long a e =
        omega (
          arith,
          ap length (now_is a e),
          length_is,
          length-append (take (length p) items) (before a (drop (length p) items)),
        )

    now_left : (a : ℕ) → next_sender (sender_in_work items p) ≡ a
        → drop (length p) (now a) ≡ before a (drop (length p) items)
    now_left a e =
        ap (drop (length p)) (now_is a e)
        ∙ ap (λ n. drop n (take (length p) items ++ before a (drop (length p) items))) (sym length_is)
        ∙ drop-append_seam (take (length p) items) (before a (drop (length p) items))

    module _ (lemmas : List ℕ) (hold : LemmasHold problem lemmas)
        (own : (s : ℕ) → (sent_by items s ≡ []) ⊎ (sent_by items s ≡ sent_by problem.items s)) where
      -- the floors are below
      floor_below : (s : ℕ) (group : List Item) → group ≡ sent_by items s → (q : List ℕ) → IsLegal group q
          → floor8_of problem lemmas group ≤ over_classes cost group q
      floor_below s [] is q legal = omega arith
      floor_below s (item ∷ group) is q legal = by (own s)
        where
          sent : item.sender ≡ s
          sent = All-head (λ (item : Item). item.sender ≡ s) item group
              (subst (All (λ item. item.sender ≡ s)) (sym is) (sent_is s items))

          known : s < length problem.senders
          known =
              let few : item.sender < length problem.senders =
              All-head (λ item. item.sender < length problem.senders) item group
              (subst (All (λ item. item.sender < length problem.senders)) (sym is)
              (sent_all (λ item. item.sender < length problem.senders) s items low)) in
              omega (arith, few, sent)

          right : All (IsItemOf problem.signals) (item ∷ group)
          right = subst (All (IsItemOf problem.signals)) (sym is)
              (sent_all (IsItemOf problem.signals) s items all)

          by : (sent_by items s ≡ []) ⊎ (sent_by items s ≡ sent_by problem.items s)
              → floor8_of problem lemmas (item ∷ group) ≤ over_classes cost (item ∷ group) q
          by (inl none) =
              let e : length (item ∷ group) ≡ 0 = ap length (is ∙ none) in
              absurd (omega (arith, e))
          by (inr same) =
              let it : item ∷ group ≡ sent_by problem.items s = is ∙ same in
              let lemma : slice_index_or lemmas s 0 ≤ 8 * load_of problem (sent_by problem.items s) q =
              hold s known q (subst (λ zs. IsLegal zs q) it legal) in
              let here : slice_index_or lemmas item.sender 0 ≤ over_classes cost (item ∷ group) q =
              omega (
                arith,
                lemma,
                ap (λ n. slice_index_or lemmas n 0) sent,
                ap (λ zs. load_of problem zs q) it,
                load_is (item ∷ group) q,
              ) in
              let prices = prices-floor (IsItemOf problem.signals) cost (slack_of problem) (price_of problem)
              priced no_slack (item ∷ group) q right legal in
              omega (arith, here, prices)

      floors : (a : ℕ) → IsFloor cost (floor8_of problem lemmas) (groups a)
      floors a =
          groups_floor cost (floor8_of problem lemmas) items (λ s q. floor_below s (sent_by items s) refl q) a
          (length problem.senders - a)

      later_is : (a : ℕ) → sum_by (floor8_of problem lemmas) (groups a) ≡ later8_of problem lemmas items a
      later_is a =
          sum_groups (floor8_of problem lemmas) (sent_by items)
          (range_with_len a (length problem.senders - a))

      module _ (q : List ℕ) (legal : IsLegal items q) (extends : begins p q ≡ true) where
        -- by loads alone, and the floors of later senders
        bound_loads : (a : ℕ) → next_sender (sender_in_work items p) ≡ a
            → load8_of problem items p + later8_of problem lemmas items a ≤ 8 * load_of problem items q
        bound_loads a e =
            let it = bound-below (IsItemOf problem.signals) cost (λ xs. 0) (floor8_of problem lemmas) (λ x. 0)
            risen_priced refl (now a) (groups a) p q (right_now a)
            (groups_apart items (now a) a (length problem.senders - a) (are_before a items)) (floors a)
            (now_long a e) (subst (λ zs. IsLegal zs q) (sym (whole_is a)) legal) extends in
            omega (
              arith,
              it,
              ap (λ zs. over_classes cost zs p) (whole_is a),
              ap (λ zs. over_classes cost zs q) (whole_is a),
              load_is items p,
              load_is items q,
              later_is a,
              sum-zero (drop (length p) (now a)),
              sum-zero (range_with_len 0 (classes_of p)),
            )

        -- with the prices of what the sender in work has left
        bound_prices : (s : ℕ) → next_sender (sender_in_work items p) ≡ s + 1
            → load8_of problem items p + prices_of problem (sent_by (drop (length p) items) s)
            + later8_of problem lemmas items (s + 1)
            ≤ 8 * load_of problem items q + slacks_of problem s items p
        bound_prices s e =
            let long : length p ≤ length (now (s + 1)) = now_long (s + 1) e in
            let it = bound-below (IsItemOf problem.signals) cost (at_sender s (slack_of problem))
            (floor8_of problem lemmas) (item_at s (price_of problem))
            (one-of-sender (IsItemOf problem.signals) cost (slack_of problem) (price_of problem) s priced
            no_slack risen) refl (now (s + 1)) (groups (s + 1)) p q (right_now (s + 1))
            (groups_apart items (now (s + 1)) (s + 1) (length problem.senders - (s + 1))
            (are_before (s + 1) items)) (floors (s + 1)) long
            (subst (λ zs. IsLegal zs q) (sym (whole_is (s + 1))) legal) extends in
            let slacks : over_classes (at_sender s (slack_of problem)) (now (s + 1)) p
            ≡ slacks_of problem s items p =
            sym (over-joined (at_sender s (slack_of problem)) p (now (s + 1)) (groups (s + 1)) long)
            ∙ ap (λ zs. over_classes (at_sender s (slack_of problem)) zs p) (whole_is (s + 1)) in
            let prices : sum_by (item_at s (price_of problem)) (drop (length p) (now (s + 1)))
            ≡ prices_of problem (sent_by (drop (length p) items) s) =
            ap (sum_by (item_at s (price_of problem))) (now_left (s + 1) e)
            ∙ sum_sent (price_of problem) s (drop (length p) items) in
            omega (
              arith,
              it,
              ap (λ zs. over_classes cost zs p) (whole_is (s + 1)),
              ap (λ zs. over_classes cost zs q) (whole_is (s + 1)),
              load_is items p,
              load_is items q,
              later_is (s + 1),
              slacks,
              prices,
            )

        terms_below : terms8_of problem lemmas items p ≤ 8 * load_of problem items q
        terms_below = by (sender_in_work items p) refl
          where
            by : (o : Option ℕ) → sender_in_work items p ≡ o
                → load8_of problem items p + left8_of problem items p o
                + later8_of problem lemmas items (next_sender o) ≤ 8 * load_of problem items q
            by None e = omega (arith, bound_loads 0 (ap next_sender e))
            by (Some s) e =
                omega (arith, bound_loads (s + 1) (ap next_sender e), bound_prices s (ap next_sender e))

-- the items of a range

-- the senders of a problem's items are below their number
senders_low : (problem : Parts) → IsProblem problem
    → All (λ item. item.sender < length problem.senders) problem.items
senders_low problem stands =
    let few : length problem.senders ≡ length (senders_of problem.signals) =
    ap length (tests problem stands).senders in
    of_problem problem stands (λ item. item.sender < length problem.senders)
    (All-weaker (λ item. item.sender < length (senders_of problem.signals))
    (λ item. item.sender < length problem.senders) (λ item low. omega (arith, few, low))
    (items_in_order problem.signals) (all_numbered problem.signals))

module _ (problem : Parts) (stands : IsProblem problem) where
  range_all : (P : Item → Type 0) → All P problem.items → (range : Option ℕ)
      → All P (items_in problem.items range)
  range_all P all None = all
  range_all P all (Some s) = sent_all P s problem.items all

  range_of : (range : Option ℕ) → AreOf problem (items_in problem.items range)
  range_of range = range_all (Contains problem.items) (All-contains_itself problem.items) range

  range_rises : (range : Option ℕ) → Rises 0 (items_in problem.items range)
  range_rises None = problem_rises problem stands
  range_rises (Some s) = rises_sent 0 s problem.items (problem_rises problem stands)

  range_few : (range : Option ℕ) → length (items_in problem.items range) ≤ 128
  range_few None = (tests problem stands).few_items
  range_few (Some s) = omega (arith, sent_few s problem.items, (tests problem stands).few_items)

  range_own : (range : Option ℕ) (s : ℕ) → (sent_by (items_in problem.items range) s ≡ [])
      ⊎ (sent_by (items_in problem.items range) s ≡ sent_by problem.items s)
  range_own None s = inr refl
  range_own (Some t) s = by (cases_eq s t)
    where
      by : (s ≡ t) ⊎ (s ≡ t → ⊥) → (sent_by (sent_by problem.items t) s ≡ [])
          ⊎ (sent_by (sent_by problem.items t) s ≡ sent_by problem.items s)
      by (inl same) =
          inr (subst (λ n. sent_by (sent_by problem.items n) s ≡ sent_by problem.items s) same
          (sent_same s problem.items))
      by (inr ne) = inl (sent_other t s problem.items ne)

  fits : (range : Option ℕ) (p : List ℕ) → IsPartial (items_in problem.items range) p
      → load8_of problem (items_in problem.items range) p < 2 ^ 128
  fits range p partial =
      loads_fit problem stands (items_in problem.items range) (range_of range) p partial
      (omega (arith, partial.within, range_few range))

  -- the bound is below each completion
  pub bound_is_below : (range : Option ℕ) (lemmas : List ℕ) → LemmasHold problem lemmas → (p q : List ℕ)
      → IsPartial (items_in problem.items range) p → IsLegal (items_in problem.items range) q
      → begins p q ≡ true
      → lower8_of problem lemmas (items_in problem.items range) p
      ≤ 8 * load_of problem (items_in problem.items range) q
  bound_is_below range lemmas hold p q partial legal extends =
      let it = terms_below problem stands (items_in problem.items range)
      (are_items problem stands (items_in problem.items range) (range_of range)) (range_rises range)
      (range_all (λ item. item.sender < length problem.senders) (senders_low problem stands) range) p
      partial.within lemmas hold (range_own range) q legal extends in
      omega (arith, it)

  -- and no less than the load of the classes so far
  pub bound_is_more : (range : Option ℕ) (lemmas : List ℕ) (p : List ℕ)
      → IsPartial (items_in problem.items range) p
      → load8_of problem (items_in problem.items range) p
      ≤ lower8_of problem lemmas (items_in problem.items range) p
  bound_is_more range lemmas p partial = omega (arith, fits range p partial)

  -- where all items are placed nothing is left
  module _ (range : Option ℕ) (lemmas : List ℕ) (q : List ℕ)
      (legal : IsLegal (items_in problem.items range) q) where
    abbrev items : List Item
    items = items_in problem.items range

    none_left : drop (length q) (items_in problem.items range) ≡ []
    none_left = drop_all (length q) (items_in problem.items range) (omega (arith, legal.grouping.each))

    all_before : AreBefore (next_sender (sender_in_work (items_in problem.items range) q))
        (items_in problem.items range)
    all_before =
        let all : take (length q) (items_in problem.items range) ≡ items_in problem.items range =
        take_all (length q) (items_in problem.items range) (omega (arith, legal.grouping.each)) in
        let split : take (length q) items ++ drop (length q) items ≡ items =
        take-append-drop (length q) (items_in problem.items range) in
        subst (AreBefore (next_sender (sender_in_work (items_in problem.items range) q))) all
        (placed_before 0 (take (length q) items) (drop (length q) items)
        (subst (Rises 0) (sym split) (range_rises range)))

    later_none : later8_of problem lemmas items (next_sender (sender_in_work items q)) ≡ 0
    later_none =
        let a : ℕ = next_sender (sender_in_work items q) in
        sum_none (λ s. floor8_of problem lemmas (sent_by (items_in problem.items range) s)) a a
        (length problem.senders - a) (omega arith)
        (λ s le. ap (floor8_of problem lemmas) (sent_none a s (items_in problem.items range) all_before le))

    left_none : (o : Option ℕ) → left8_of problem items q o ≡ 0
    left_none None = refl
    left_none (Some s) =
        let no_prices : prices_of problem (sent_by (drop (length q) items) s) ≡ 0 =
        ap (λ zs. prices_of problem (sent_by zs s)) none_left in
        omega (arith, no_prices)

    terms_exact : terms8_of problem lemmas items q ≡ load8_of problem items q
    terms_exact = omega (arith, later_none, left_none (sender_in_work items q))

  pub bound_is_exact : (range : Option ℕ) (lemmas : List ℕ) (q : List ℕ)
      → IsLegal (items_in problem.items range) q
      → lower8_of problem lemmas (items_in problem.items range) q
      ≡ load8_of problem (items_in problem.items range) q
  bound_is_exact range lemmas q legal =
      let low = fits range q (legal-partial (items_in problem.items range) q legal) in
      omega (arith, low, terms_exact range lemmas q legal)
