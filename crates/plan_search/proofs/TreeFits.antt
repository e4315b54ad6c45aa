-- A tree that stands over the groupings of a problem's items has a text.
use Rattle.std.proofs.Common.{◌≡◌, ℕ, zero, suc, ◌+◌, ◌<◌, ◌≤◌, List, [], ◌∷◌, ◌++◌, length, get_or, All, Option, None, Some, Bool, refl, ap, ◌∙◌, subst, add-one, arith}
use Rattle.std.specs.Prelude.{nat_eq}
use Rattle.std.specs.List.{range_with_len}
use Rattle.std.specs.List.Sorted.{IsStrictlyIncreasing}
use Rattle.std.proofs.lemmas.Bool.{lt-ltb}
use Rattle.std.proofs.lemmas.List.{get_or-map, length-map, length_push}
use Rattle.std.proofs.lemmas.List.Elements.{All-filter, All-head, All-tail}
use Rattle.std.proofs.lemmas.List.FromFn.{length-map-range_with_len, length-range_with_len}
use Rattle.std.proofs.lemmas.List.Sums.{count_by-le-length, length-filter}
use Rattle.pack_model.specs.declared.item.Item.{Item}
use Rattle.pack_model.specs.Problem.{Parts, IsProblem}
use Rattle.pack_model.proofs.ItemFacts.{small_items}
use Rattle.pack_model.proofs.Laws.{tests}
use Rattle.busy_period.specs.declared.timed.Timed.{Timed}
use Rattle.response_test.specs.declared.evidence.Evidence.{Evidence}
use Rattle.response_test.specs.declared.evidence.Evidence.TheVariants.{Over, Long, Late}
use Rattle.response_test.specs.Order.{others_of}
use Rattle.response_test.specs.Refuted.{Refuted}
use Rattle.class_frame.specs.Frame.{timed_of_items}
use Rattle.class_frame.specs.Classes.{frames_of_classes}
use Rattle.class_frame.specs.Grouping.{class_of, classes_of}
use Rattle.cert_text.specs.Trees.{Plain, Plains, bound, fail, inner, left, more, none}
use Rattle.cert_text.specs.Written.{HasNumbers, PieceFits, TreeFits, TreesFit, number_of_trees}
use Rattle.grouping_tree.specs.Grouped.{items_in}
use Rattle.grouping_tree.specs.Partial.{IsPartial, keeps_legal, options_of}
use Rattle.grouping_tree.proofs.Puts.{options-legal, some_option}
use Rattle.grouping_tree.proofs.Used.{classes_low, partial-none}
use Rattle.bandwidth_bound.specs.Failing.{AreRefuted, numbers_of, order_below}
use Rattle.bandwidth_bound.specs.Goals.{FailsIn, range_goal}
use Rattle.bandwidth_bound.specs.Trees.{EachStands, Goal, TreeStands}

-- strictly increasing numbers below a limit are no more than it
each_at_least : (xs : List ℕ) → IsStrictlyIncreasing xs → (k : ℕ) → k < length xs → k ≤ get_or xs k 0
each_at_least xs rises zero lt = omega arith
each_at_least xs rises (suc k) lt =
    let before = each_at_least xs rises k (omega arith) in
    let next : get_or xs k 0 < get_or xs (k + 1) 0 = rises k (omega arith) in
    rw (← add-one k) (omega (arith, before, next))

pub few_increasing : (xs : List ℕ) (limit : ℕ) → IsStrictlyIncreasing xs → All (λ x. x < limit) xs
    → length xs ≤ limit
few_increasing [] limit rises low = omega arith
few_increasing (x ∷ xs) limit rises low =
    let last : length xs ≤ get_or (x ∷ xs) (length xs) 0 =
    each_at_least (x ∷ xs) rises (length xs) (omega arith) in
    let below : get_or (x ∷ xs) (length xs) 0 < limit = low (length xs) 0 (omega arith) in
    omega (arith, last, below)

-- evidence that refutes has its numbers
has_numbers : (frames : List Timed) (order : List ℕ) (place bit hyper : ℕ) (evidence : Evidence)
    → Refuted frames order place bit hyper evidence → HasNumbers evidence
has_numbers frames order place bit hyper Over h = tt
has_numbers frames order place bit hyper (Long chain) h = h.is_chain.some
has_numbers frames order place bit hyper (Late instance busy queue) h =
    (h.busy_chain.some, h.queue_chain.some)

-- refuted frames, of which there are few, have a line each
pub pieces_fit : (frames : List Timed) (bit hyper : ℕ) (named : List (ℕ × Evidence)) → length frames ≤ 128
    → AreRefuted frames bit hyper named → (length named ≤ 128) × All PieceFits named
pieces_fit frames bit hyper named few h = (
  omega (arith, few, many),
  λ k d inside. (
    omega (arith, few, low k d inside),
    has_numbers frames (order_below frames (numbers_of named) (get_or named k d).0)
        (length (others_of (get_or named k d).0 (numbers_of named))) bit hyper (get_or named k d).1
        (h.refuted k d inside),
  ),
)
  where
    many : length named ≤ length frames
    many = omega (
      arith,
      length-map named (λ entry. entry.0),
      few_increasing (numbers_of named) (length frames) h.ascending h.there,
    )

    low : (k : ℕ) (d : ℕ × Evidence) → k < length named → (get_or named k d).0 < length frames
    low k d inside =
        let there : get_or (numbers_of named) k d.0 < length frames =
        h.there k d.0 (omega (arith, inside, length-map named (λ entry. entry.0))) in
        omega (arith, there, get_or-map (λ entry. entry.0) named k d d.0 inside)

-- there are few options at a partial grouping of few items
few_options : (items : List Item) (p : List ℕ) → IsPartial items p → length p < length items
    → length items ≤ 128 → length (options_of items p) ≤ 128
few_options items p partial room few =
    rw (lt-ltb (length p) (length items) room) (omega (
      arith,
      few,
      classes_low items p partial,
      length-filter (keeps_legal items p) (range_with_len 0 (classes_of p + 1)),
      length-range_with_len 0 (classes_of p + 1),
      count_by-le-length (keeps_legal items p) (range_with_len 0 (classes_of p + 1)),
    ))

-- a tree for each option
as_many : (g : Goal) (p ls : List ℕ) (ts : Plains) → EachStands g p ls ts → number_of_trees ts ≡ length ls
as_many g p [] none h = refl
as_many g p [] (more t ts) h = absurd h
as_many g p (l ∷ ls) none h = absurd h
as_many g p (l ∷ ls) (more t ts) h = ap suc (as_many g p ls ts h.1)

some_length : {X : Type 0} (xs : List X) → (xs ≡ [] → ⊥) → 1 ≤ length xs
some_length [] some = absurd (some refl)
some_length (x ∷ xs) some = omega arith

module _ (g : Goal) (few : length g.items ≤ 128) (small : All (λ item. item.bits ≤ 512) g.items)
    (fails : (p : List ℕ) (named : List (ℕ × Evidence)) → IsPartial g.items p → g.AreFailing p named
    → (length named ≤ 128) × All PieceFits named) where
  mutual
    tree_fits : (p : List ℕ) (t : Plain) → IsPartial g.items p → TreeStands g p t → TreeFits (length p) t
    tree_fits p (inner ts) partial h =
        let many : number_of_trees ts ≡ length (options_of g.items p) =
        as_many g p (options_of g.items p) ts h.1 in (
          omega (arith, h.0, few),
          omega (arith, many, some_length (options_of g.items p) (some_option g.items p partial h.0 small)),
          omega (arith, many, few_options g.items p partial h.0 few),
          trees_fit p (options_of g.items p) ts (options-legal g.items p partial) h.1,
        )
    tree_fits p bound partial h = tt
    tree_fits p left partial h = tt
    tree_fits p (fail named) partial h = fails p named partial h

    trees_fit : (p ls : List ℕ) (ts : Plains) → All (λ l. IsPartial g.items (p ++ l ∷ [])) ls
        → EachStands g p ls ts → TreesFit (suc (length p)) ts
    trees_fit p [] none legal h = tt
    trees_fit p [] (more t ts) legal h = absurd h
    trees_fit p (l ∷ ls) none legal h = absurd h
    trees_fit p (l ∷ ls) (more t ts) legal h = (
      subst (λ n. TreeFits n t) (length_push p l ∙ add-one (length p))
          (tree_fits (p ++ l ∷ []) t (All-head (λ l. IsPartial g.items (p ++ l ∷ [])) l ls legal) h.0),
      trees_fit p ls ts (All-tail (λ l. IsPartial g.items (p ++ l ∷ [])) l ls legal) h.1,
    )

module _ (problem : Parts) (stands : IsProblem problem) where
  -- the items of a range are few, and none is large
  pub few_in : (range : Option ℕ) → length (items_in problem.items range) ≤ 128
  few_in None = (tests problem stands).few_items
  few_in (Some sender) = omega (
    arith,
    (tests problem stands).few_items,
    length-filter (λ item. nat_eq item.sender sender) problem.items,
    count_by-le-length (λ item. nat_eq item.sender sender) problem.items,
  )

  pub small_in : (range : Option ℕ) → All (λ item. item.bits ≤ 512) (items_in problem.items range)
  small_in None = small_items problem stands
  small_in (Some sender) = All-filter (λ item. nat_eq item.sender sender)
      (λ (item : Item). item.bits ≤ 512) problem.items (small_items problem stands)

  fails_in : (range : Option ℕ) (p : List ℕ) (named : List (ℕ × Evidence))
      → IsPartial (items_in problem.items range) p → FailsIn problem range p named
      → (length named ≤ 128) × All PieceFits named
  fails_in None p named partial h =
      pieces_fit (frames_of_classes problem problem.items p) problem.network.nominal_ticks problem.hyper named
      few h
    where
      few : length (frames_of_classes problem problem.items p) ≤ 128
      few = omega (
        arith,
        length-map-range_with_len (λ label. timed_of_items problem (class_of label p problem.items)) 0
            (classes_of p),
        classes_low problem.items p partial,
        partial.within,
        (tests problem stands).few_items,
      )
  fails_in (Some sender) p named partial h = absurd h

  -- a tree that stands at the empty grouping of a range has a text
  pub standing_fits : (range : Option ℕ) (values : List ℕ) (value : Option ℕ) (may_leave : Bool) (t : Plain)
      → TreeStands (range_goal problem range values value may_leave) [] t → TreeFits zero t
  standing_fits range values value may_leave t h =
      tree_fits (range_goal problem range values value may_leave) (few_in range) (small_in range)
      (fails_in range) [] t
      (partial-none (items_in problem.items range)) h
