-- The legal groupings that don't reach the best extend fail leaves.
use Rattle.std.proofs.Common.{◌≡◌, ℕ, ◌*◌, ◌<◌, ◌≤◌, true, false, List, [], ◌∷◌, ◌++◌, All, Any, Contains, Option, None, Some, true≢false, refl, sym, subst, ◌∙◌, arith}
use Rattle.std.proofs.lemmas.List.Elements.{All-append, All-cons, All-contains, All-nil}
use Rattle.std.proofs.lemmas.List.Folds.{Any-from_list_any}
use Rattle.response_test.specs.declared.evidence.Evidence.{Evidence}
use Rattle.pack_model.specs.Problem.{Parts, IsProblem}
use Rattle.class_frame.specs.Classes.{load_of}
use Rattle.class_frame.specs.Legal.{IsLegal}
use Rattle.grouping_tree.specs.Partial.{IsPartial, begins, options_of}
use Rattle.grouping_tree.proofs.Fronts.{front-legal, legal-partial}
use Rattle.matrix_rows.specs.declared.matrix.MatrixRow.{MatrixRow}
use Rattle.matrix_text.specs.Frames.{grouping_of}
use Rattle.cert_text.specs.Trees.{Plain, Plains, bound, fail, inner, left, more, none}
use Rattle.cert_text.specs.declared.parts.Kind.TheVariants.{KindBest, KindNoSolution}
use Rattle.bandwidth_bound.specs.Bounds.{Reaches}
use Rattle.bandwidth_bound.specs.Covering.{ExtendsFailLeaf, FailLeavesRefuse, ReachesBest}
use Rattle.bandwidth_bound.specs.Goals.{main_goal}
use Rattle.bandwidth_bound.specs.Lemmas.{LemmasHold, values_of}
use Rattle.bandwidth_bound.specs.PriceLaws.{BoundIsBelow}
use Rattle.bandwidth_bound.specs.Rule.{Judged, MainStands, RuleHolds, TreesStand, best_of}
use Rattle.bandwidth_bound.specs.Trees.{EachStands, Goal, Leaf, TreeStands, leaves, leaves_each}
use Rattle.bandwidth_bound.proofs.Covers.{covers}
use Rattle.bandwidth_bound.proofs.Standing.{matrix_of, trees_of}
use Rattle.bandwidth_bound.proofs.StandingLemmas.{values_hold}
use Rattle.bandwidth_bound.proofs.TreeClaims.{reaches-more, some_counted}

-- ---- what the leaves show

module _ (goal : Goal) where
  -- what a leaf shows at its place
  abbrev ShowsAt : List ℕ → Plain → Type 0
  ShowsAt p (inner trees) = ⊥
  ShowsAt p bound = Reaches goal.value (goal.lower8 p)
  ShowsAt p left = goal.may_leave ≡ true
  ShowsAt p (fail named) = goal.AreFailing p named

  abbrev Shows : Leaf → Type 0
  Shows leaf = ShowsAt leaf.place leaf.sign

  one_leaf : (p : List ℕ) (sign : Plain) → ShowsAt p sign → All Shows (record { place = p; sign = sign } ∷ [])
  one_leaf p sign h = All-cons Shows (record { place = p; sign = sign }) [] h (All-nil Shows)

  mutual
    leaves-show : (p : List ℕ) (tree : Plain) → TreeStands goal p tree → All Shows (leaves goal.items p tree)
    leaves-show p (inner trees) h = leaves-show_each p (options_of goal.items p) trees h.1
    leaves-show p bound h = one_leaf p bound h
    leaves-show p left h = one_leaf p left h
    leaves-show p (fail named) h = one_leaf p (fail named) h

    leaves-show_each : (p ls : List ℕ) (trees : Plains) → EachStands goal p ls trees
        → All Shows (leaves_each goal.items p ls trees)
    leaves-show_each p [] none h = All-nil Shows
    leaves-show_each p [] (more tree trees) h = absurd h
    leaves-show_each p (l ∷ ls) none h = absurd h
    leaves-show_each p (l ∷ ls) (more tree trees) h =
        All-append Shows (leaves goal.items (p ++ l ∷ []) tree) (leaves_each goal.items p ls trees)
        (leaves-show (p ++ l ∷ []) tree h.0) (leaves-show_each p ls trees h.1)

-- a fail leaf that a grouping extends, and its classes are refuted
record FailLeaf (goal : Goal) (all : List Leaf) (q : List ℕ) : Type 0 where
  place : List ℕ
  named : List (ℕ × Evidence)
  is_leaf : Contains all (record { place = place; sign = fail named })
  extends : begins place q ≡ true
  refuted : goal.AreFailing place named

module _ (goal : Goal) (closed : goal.may_leave ≡ false) (q : List ℕ) (legal : IsLegal goal.items q)
    (load : ℕ)
    (below : (p : List ℕ) → IsPartial goal.items p → begins p q ≡ true → goal.lower8 p ≤ 8 * load)
    (short : ¬ Reaches goal.value (8 * load)) where
  -- the one leaf that a legal grouping extends is a fail leaf, where the value is not reached
  of_leaf : (all : List Leaf) (place : List ℕ) (sign : Plain)
      → Contains all (record { place = place; sign = sign })
      → begins place q ≡ true → ShowsAt goal place sign → FailLeaf goal all q
  of_leaf all place (inner trees) there e h = absurd h
  of_leaf all place bound there e h =
      absurd (short (reaches-more goal.value (goal.lower8 place) (8 * load)
      (below place (front-legal goal.items place q e (legal-partial goal.items q legal)) e) h))
  of_leaf all place left there e h = absurd (true≢false (sym h ∙ closed))
  of_leaf all place (fail named) there e h =
      record { place = place; named = named; is_leaf = there; extends = e; refuted = h }

  fail_leaf : (p : List ℕ) (tree : Plain) → TreeStands goal p tree → begins p q ≡ true
      → FailLeaf goal (leaves goal.items p tree) q
  fail_leaf p tree h e =
      by (Any-from_list_any (λ (leaf : Leaf). begins leaf.place q) (leaves goal.items p tree)
      (some_counted (λ (leaf : Leaf). begins leaf.place q) (leaves goal.items p tree)
      (covers goal q legal p tree h e)))
    where
      by : Any (λ (leaf : Leaf). begins leaf.place q ≡ true) (leaves goal.items p tree)
          → FailLeaf goal (leaves goal.items p tree) q
      by (i, leaf, lt, at, is) =
          let there : Contains (leaves goal.items p tree) leaf = (i, lt, at) in
          of_leaf (leaves goal.items p tree) leaf.place leaf.sign there is
          (All-contains (Shows goal) (leaves goal.items p tree) leaf (leaves-show goal p tree h) there)

-- ---- the certificate

module _ (below : BoundIsBelow) (problem : Parts) (stands : IsProblem problem) (values : List ℕ)
    (hold : LemmasHold problem values) where
  -- a legal grouping that doesn't reach the best extends a fail leaf of the main tree
  main_leaf : (best : Option ℕ) (tree : Option Plain) → MainStands problem values best false tree
      → (q : List ℕ) → IsLegal problem.items q → ¬ ReachesBest problem best q → ExtendsFailLeaf problem tree q
  main_leaf best None h q legal short = absurd h
  main_leaf best (Some tree) h q legal short =
      let leaf =
      fail_leaf (main_goal problem values best false) refl q legal (load_of problem problem.items q)
      (λ p partial e. below problem stands None values hold p q partial legal e) short [] tree h refl in
      record {
        place = leaf.place;
        named = leaf.named;
        is_leaf = leaf.is_leaf;
        extends = leaf.extends;
        refuted = leaf.refuted;
      }

  smaller : (rows : List MatrixRow) (tree : Option Plain)
      → MainStands problem values (best_of problem rows) false tree
      → (q : List ℕ) → IsLegal problem.items q
      → load_of problem problem.items q < load_of problem problem.items (grouping_of problem rows)
      → ExtendsFailLeaf problem tree q
  smaller [] tree h q legal less = main_leaf None tree h q legal (λ reached. reached)
  smaller (row ∷ rows) tree h q legal less =
      let labels : List ℕ = grouping_of problem (row ∷ rows) in
      main_leaf (best_of problem (row ∷ rows)) tree h q legal
      (λ (reached : 8 * load_of problem problem.items labels ≤ 8 * load_of problem problem.items q).
      omega arith)

  each : (rows : List MatrixRow) (tree : Option Plain) → rows ≡ []
      → MainStands problem values (best_of problem rows) false tree → (q : List ℕ) → IsLegal problem.items q
      → ExtendsFailLeaf problem tree q
  each rows tree empty h q legal =
      main_leaf None tree
      (subst (λ rows. MainStands problem values (best_of problem rows) false tree) empty h) q legal
      (λ reached. reached)

module _ (below : BoundIsBelow) (judged : Judged) (stands : IsProblem judged.problem) where
  abbrev values : List ℕ
  values = values_of judged.problem judged.cert.lemmas

  hold : TreesStand judged.problem (best_of judged.problem judged.matrix) false judged.cert
      → LemmasHold judged.problem values
  hold trees =
      values_hold below judged.problem stands (best_of judged.problem judged.matrix) false judged.cert trees

  pub fail_leaves_hold : RuleHolds judged → FailLeavesRefuse judged
  fail_leaves_hold rule = record {
    best = λ is q legal less.
        let trees = trees_of judged rule KindBest is in
        smaller below judged.problem stands values (hold trees) judged.matrix judged.cert.main_tree trees.main
        q legal less;
    no_solution = λ is q legal.
        let trees = trees_of judged rule KindNoSolution is in
        each below judged.problem stands values (hold trees) judged.matrix judged.cert.main_tree
        (matrix_of judged rule KindNoSolution is) trees.main q legal;
  }
