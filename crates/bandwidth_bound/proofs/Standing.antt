-- What the trees of a certificate show where the acceptance rule holds.
use Rattle.std.proofs.Common.{◌≡◌, ℕ, ◌*◌, ◌≤◌, ◌⊎◌, inl, inr, ◌||◌, Bool, true, false, List, [], ◌∷◌, map, fold, min, Option, Some, None, refl, subst, arith}
use Rattle.pack_model.specs.Problem.{Parts, IsProblem}
use Rattle.class_frame.specs.Classes.{load_of}
use Rattle.class_frame.specs.Frame.{least}
use Rattle.grouping_tree.specs.Partial.{begins}
use Rattle.grouping_tree.proofs.Fronts.{front-legal, legal-partial}
use Rattle.matrix_rows.specs.declared.matrix.MatrixRow.{MatrixRow}
use Rattle.matrix_text.specs.Frames.{grouping_of}
use Rattle.cert_text.specs.Trees.{Plain}
use Rattle.cert_text.specs.declared.parts.Kind.{Kind}
use Rattle.cert_text.specs.declared.parts.Kind.TheVariants.{KindBetween, KindBest, KindNoSolution}
use Rattle.bandwidth_bound.specs.Covering.{ReachesBest, TreesShow, extends_some}
use Rattle.bandwidth_bound.specs.Follows.{EachReaches, NoneIsBetter, NoneIsSolvable}
use Rattle.bandwidth_bound.specs.Goals.{main_goal}
use Rattle.bandwidth_bound.specs.Laws.{FailingIsFinal}
use Rattle.bandwidth_bound.specs.Lemmas.{LemmasHold, values_of}
use Rattle.bandwidth_bound.specs.PriceLaws.{BoundIsBelow}
use Rattle.bandwidth_bound.specs.Prices.{lower8_of}
use Rattle.bandwidth_bound.specs.Rule.{Judged, MainStands, MatrixOfKind, RuleHolds, TreeOfKind, TreesStand, best_of, least_open, lower_of, open_of}
use Rattle.bandwidth_bound.specs.Solvable.{Solvable}
use Rattle.bandwidth_bound.specs.Trees.{TreeStands, open_places}
use Rattle.bandwidth_bound.proofs.StandingLemmas.{values_hold}
use Rattle.bandwidth_bound.proofs.TreeClaims.{claim, none_open}

-- ---- the least of some numbers

-- the least at places is at most what it is at those that a grouping extends, where it extends one
module _ (f : List ℕ → ℕ) (q : List ℕ) (n : ℕ) (each : (p : List ℕ) → begins p q ≡ true → f p ≤ n) where
  least_from : (start : ℕ) (places : List (List ℕ)) → (start ≤ n) ⊎ (extends_some places q ≡ true)
      → fold min start (map f places) ≤ n
  least_from start [] (inl low) = low
  least_from start [] (inr e) = absurd cc
  least_from start (p ∷ places) (inl low) = least_from (min start (f p)) places (inl (omega arith))
  least_from start (p ∷ places) (inr e) = by (begins p q) refl e (least_from (min start (f p)) places)
    where
      by : (b : Bool) → begins p q ≡ b → (b || extends_some places q) ≡ true
          → ((min start (f p) ≤ n) ⊎ (extends_some places q ≡ true)
          → fold min (min start (f p)) (map f places) ≤ n)
          → fold min (min start (f p)) (map f places) ≤ n
      by true here any rest = let low : f p ≤ n = each p here in rest (inl (omega arith))
      by false here any rest = rest (inr any)

  least_extended : (places : List (List ℕ)) → extends_some places q ≡ true → least (map f places) ≤ n
  least_extended [] e = absurd cc
  least_extended (p ∷ places) e = by (begins p q) refl e
    where
      by : (b : Bool) → begins p q ≡ b → (b || extends_some places q) ≡ true
          → fold min (f p) (map f places) ≤ n
      by true here any = least_from (f p) places (inl (each p here))
      by false here any = least_from (f p) places (inr any)

-- ---- the rule by kind

-- the trees of a certificate of the kind stand
pub trees_of : (judged : Judged) → RuleHolds judged → (kind : Kind) → judged.cert.kind ≡ kind
    → TreeOfKind kind judged.problem judged.matrix judged.cert
trees_of judged rule kind is =
    subst (λ kind. TreeOfKind kind judged.problem judged.matrix judged.cert) is rule.tree

-- the matrix is one of the kind
pub matrix_of : (judged : Judged) → RuleHolds judged → (kind : Kind) → judged.cert.kind ≡ kind
    → MatrixOfKind kind judged.problem judged.matrix
matrix_of judged rule kind is =
    subst (λ kind. MatrixOfKind kind judged.problem judged.matrix) is rule.matrix

-- ---- the main tree

module _ (below : BoundIsBelow) (final : FailingIsFinal) where
  -- a grouping that can meet all deadlines has at least the best's load or extends an open place
  pub trees_claim : (problem : Parts) (values : List ℕ) (best : Option ℕ) (may_leave : Bool)
      (p q : List ℕ) (tree : Plain) → IsProblem problem → LemmasHold problem values
      → TreeStands (main_goal problem values best may_leave) p tree → Solvable problem q
      → begins p q ≡ true
      → ReachesBest problem best q ⊎ (extends_some (open_places problem.items p tree) q ≡ true)
  trees_claim problem values best may_leave p q tree stands hold h solvable e =
      claim (main_goal problem values best may_leave) q solvable.legal (load_of problem problem.items q)
      (λ place partial b. below problem stands None values hold place q partial solvable.legal b)
      (λ place named partial b refuted.
      final problem stands place q named partial solvable.legal b refuted solvable)
      p tree h e

  module _ (problem : Parts) (stands : IsProblem problem) (values : List ℕ)
      (hold : LemmasHold problem values) where
    -- the same of the main tree
    main_claims : (best : Option ℕ) (may_leave : Bool) (tree : Option Plain)
        → MainStands problem values best may_leave tree → (q : List ℕ) → Solvable problem q
        → ReachesBest problem best q ⊎ (extends_some (open_of problem tree) q ≡ true)
    main_claims best may_leave None h q solvable = absurd h
    main_claims best may_leave (Some tree) h q solvable =
        trees_claim problem values best may_leave [] q tree stands hold h solvable refl

    main_closed : (best : Option ℕ) (tree : Option Plain) → MainStands problem values best false tree
        → open_of problem tree ≡ []
    main_closed best None h = absurd h
    main_closed best (Some tree) h = none_open (main_goal problem values best false) refl [] tree h

    -- without open leaves it has at least the best's load
    reached : (best : Option ℕ) (tree : Option Plain) → MainStands problem values best false tree
        → (q : List ℕ) → Solvable problem q → ReachesBest problem best q
    reached best tree h q solvable = elim (main_claims best false tree h q solvable) [
      | inl it ↦ it
      | inr some ↦ absurd (
          let none : extends_some [] q ≡ true =
          subst (λ places. extends_some places q ≡ true) (main_closed best tree h) some in
          cc)
    ]

    none_better : (rows : List MatrixRow) (tree : Option Plain)
        → MainStands problem values (best_of problem rows) false tree
        → NoneIsBetter problem (load_of problem problem.items (grouping_of problem rows))
    none_better [] tree h q solvable = absurd (reached None tree h q solvable)
    none_better (row ∷ rows) tree h q solvable =
        let labels : List ℕ = grouping_of problem (row ∷ rows) in
        let it : 8 * load_of problem problem.items labels ≤ 8 * load_of problem problem.items q =
        reached (best_of problem (row ∷ rows)) tree h q solvable in
        omega arith

    none_solvable : (rows : List MatrixRow) (tree : Option Plain) → rows ≡ []
        → MainStands problem values (best_of problem rows) false tree → NoneIsSolvable problem
    none_solvable rows tree empty h q solvable =
        reached None tree
        (subst (λ rows. MainStands problem values (best_of problem rows) false tree) empty h) q solvable

    -- the least bound at open places is below
    open_below : (tree : Option Plain) (q : List ℕ) → Solvable problem q
        → extends_some (open_of problem tree) q ≡ true
        → least_open problem values tree ≤ 8 * load_of problem problem.items q
    open_below tree q solvable some =
        let legal = solvable.legal in
        least_extended (lower8_of problem values problem.items) q (8 * load_of problem problem.items q)
        (λ p e. below problem stands None values hold p q
        (front-legal problem.items p q e (legal-partial problem.items q legal)) legal e)
        (open_of problem tree) some

    each_reaches : (best : Option ℕ) (tree : Option Plain) → MainStands problem values best true tree
        → EachReaches problem (lower_of problem values best tree)
    each_reaches None tree h q solvable = elim (main_claims None true tree h q solvable) [
      | inl it ↦ absurd it
      | inr some ↦ open_below tree q solvable some
    ]
    each_reaches (Some best) tree h q solvable = elim (main_claims (Some best) true tree h q solvable) [
      | inl it ↦ (let high : 8 * best ≤ 8 * load_of problem problem.items q = it in omega arith)
      | inr some ↦ (let low = open_below tree q solvable some in omega arith)
    ]

  -- ---- the certificate

  module _ (judged : Judged) (stands : IsProblem judged.problem) where
    abbrev values : List ℕ
    values = values_of judged.problem judged.cert.lemmas

    abbrev best : Option ℕ
    best = best_of judged.problem judged.matrix

    hold : (may_leave : Bool) → TreesStand judged.problem best may_leave judged.cert
        → LemmasHold judged.problem values
    hold may_leave trees = values_hold below judged.problem stands best may_leave judged.cert trees

    pub trees_hold : RuleHolds judged → TreesShow judged
    trees_hold rule = record {
      best = λ is.
          let trees = trees_of judged rule KindBest is in
          none_better judged.problem stands values (hold false trees) judged.matrix judged.cert.main_tree
          trees.main;
      no_solution = λ is.
          let trees = trees_of judged rule KindNoSolution is in
          none_solvable judged.problem stands values (hold false trees) judged.matrix judged.cert.main_tree
          (matrix_of judged rule KindNoSolution is) trees.main;
      between = λ is.
          let trees = (trees_of judged rule KindBetween is).0 in
          each_reaches judged.problem stands values (hold true trees) best judged.cert.main_tree trees.main;
    }
