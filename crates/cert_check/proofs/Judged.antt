-- What a walk finds of what it was told, and of a whole certificate.
use Rattle.std.proofs.Common.{◌≡◌, ◌≤◌, ◌^◌, ◌-◌, ℕ, append-nil, min, Bool, true, false, List, [], ◌∷◌, length, map, Option, Some, None, IsTrue, Ok, Err, Result, refl, sym, ap, subst, ◌∙◌, arith, true≢false, inl, inr, eqb-true}
use Rattle.std.specs.Prelude.{◌↔◌, ◌||◌, ◌&&◌, ◌==◌, not, unwrap_or, OnOk, IsSome}
use Rattle.std.proofs.lemmas.Bool.{eq-eqb, false≢true}
use Rattle.pack_model.specs.Problem.{Parts}
use Rattle.class_frame.specs.Classes.{frames_of_classes, load_of}
use Rattle.class_frame.specs.Frame.{least}
use Rattle.matrix_rows.specs.declared.matrix.MatrixRow.{MatrixRow}
use Rattle.matrix_text.specs.Frames.{grouping_of, order_of}
use Rattle.matrix_text.specs.Placed.{Placed}
use Rattle.cert_text.specs.declared.parts.FrameLine.{FrameLine}
use Rattle.cert_text.specs.declared.parts.Kind.{Kind}
use Rattle.cert_text.specs.declared.parts.Kind.TheVariants.{KindPlaced, KindTimed, KindBetween, KindBest, KindNoSolution}
use Rattle.cert_text.specs.Parts.{CertParts, HasParts}
use Rattle.cert_text.specs.Trees.{Plain}
use Rattle.bandwidth_bound.specs.Follows.{HasTiming, Holds}
use Rattle.bandwidth_bound.specs.Goals.{main_goal}
use Rattle.bandwidth_bound.specs.Lemmas.{values_of}
use Rattle.bandwidth_bound.specs.Prices.{lower8_of}
use Rattle.bandwidth_bound.specs.Rule.{MainStands, MatrixOfKind, TimingOfKind, TreesStand, best_of, open_of}
use Rattle.bandwidth_bound.specs.Timing.{TimingStands}
use Rattle.bandwidth_bound.specs.Trees.{TreeStands}
use Rattle.bandwidth_bound.specs.declared.verdict.Verdict.{Verdict}
use Rattle.bandwidth_bound.specs.declared.verdict.Verdict.TheVariants as verdict
use Rattle.cert_check.specs.declared.cert_walk.CertWalk.{CertWalk}
use Rattle.cert_check.specs.declared.fault.CheckFault.{CheckFault}
use Rattle.cert_check.specs.declared.fault.CheckFault.TheVariants as fault
use Rattle.cert_check.specs.declared.placing.Placing.{Placing}
use Rattle.cert_check.specs.Accept.{IsFound, judged_of}
use Rattle.cert_check.specs.Kinds.{has_row, is_kind_placed, is_to_be_placed}
use Rattle.cert_check.specs.Nodes.{bounds_of, lowered, nodes_of}
use Rattle.cert_check.specs.Said.{Said, cert_said, lemmas_said, lines_said, main_aim, main_said, may_leave_of, with_end}
use Rattle.cert_check.specs.Taken.{AllStandSaid, HasOwnParts, IsClosed, IsLate, IsOpen, IsPlaced, IsPlacing, KnowsMatrix, ShowFirst, Stores, falls, goal_said, load_in, one_more}
use Rattle.cert_check.specs.Told.{IsFoundTold, IsVerdictTold, TreesOfTold, bounds_told, verdict_told}
use Rattle.cert_check.specs.Trees.{IsAnswer, IsVerdict, TreeOfBest, lower_with, verdict_of}
use Rattle.cert_check.specs.Walk.{goal_of}
use Rattle.cert_check.proofs.Found.{holds_placed, holds_without}
use Rattle.cert_check.proofs.KindLaws.{best_is, found_by_trees, has_rows, lines_without, no_timing, rows_without, timing_from, timing_to, timing_without}
use Rattle.cert_check.proofs.SaidTrees.{kind_kept, lines_kept, stand_trees, trees_stand, values_are}
use Rattle.cert_check.proofs.StoreLaws.{none_falls, some_falls, tree_stands}
use Rattle.cert_check.proofs.TreeLaws.{bounds, long, lower_same}
use Rattle.cert_check.proofs.Walks.{lowered_append, lowered_least, lowered_none, lowered_some_of, walked}

-- ---- the matrix

-- a kind whose matrix part holds, without a placed matrix
pub without_placing : (kind : Kind) (problem : Parts) (rows : List MatrixRow) → ¬ Placed problem rows
    → MatrixOfKind kind problem rows → is_to_be_placed kind rows ≡ false
without_placing KindPlaced problem rows other matrix = absurd (other matrix)
without_placing KindTimed problem rows other matrix = absurd (other matrix)
without_placing KindBetween problem [] other matrix = refl
without_placing KindBetween problem (row ∷ rows) other matrix = absurd (other matrix)
without_placing KindBest problem rows other matrix = absurd (other matrix)
without_placing KindNoSolution problem rows other matrix = refl

-- and with one
pub with_placing : (kind : Kind) (problem : Parts) (rows : List MatrixRow) → ¬ (rows ≡ [])
    → MatrixOfKind kind problem rows → is_to_be_placed kind rows ≡ true
with_placing KindPlaced problem rows some matrix = refl
with_placing KindTimed problem rows some matrix = refl
with_placing KindBetween problem [] some matrix = absurd (some refl)
with_placing KindBetween problem (row ∷ rows) some matrix = refl
with_placing KindBest problem rows some matrix = refl
with_placing KindNoSolution problem rows some matrix = absurd (some matrix)

-- what is stored of a matrix that has rows or is placed
abbrev PlacedBy : Parts → List MatrixRow → Bool → Type 0
PlacedBy problem rows placed = IsTrue placed ↔ Placed problem rows

pub placed_said : (problem : Parts) (rows : List MatrixRow) (placing : Option Placing) (placed : Bool)
    → IsPlaced problem rows placing → (IsTrue placed ↔ IsSome placing) → PlacedBy problem rows placed
placed_said problem rows None placed is some = (λ e. absurd (false≢true (some.0 e)), λ p. absurd (is p))
placed_said problem rows (Some placing) placed is some = (λ e. is.placed, λ p. some.1 refl)

no_rows : (rows : List MatrixRow) → IsTrue (not (has_row rows)) ↔ (rows ≡ [])
no_rows [] = (λ e. refl, λ e. refl)
no_rows (row ∷ rows) = (λ e. absurd (true≢false (sym e)), λ e. absurd cc)

-- what is asked of a kind
abbrev pub matrix_test : Kind → Bool → Bool → Bool
matrix_test KindPlaced placed some = placed
matrix_test KindTimed placed some = placed
matrix_test KindBetween placed some = placed || not some
matrix_test KindBest placed some = placed
matrix_test KindNoSolution placed some = not some

pub matrix_tested : (kind : Kind) (problem : Parts) (rows : List MatrixRow) (placed : Bool)
    → PlacedBy problem rows placed
    → IsTrue (matrix_test kind placed (has_row rows)) ↔ MatrixOfKind kind problem rows
matrix_tested KindPlaced problem rows placed by = by
matrix_tested KindTimed problem rows placed by = by
matrix_tested KindBetween problem [] true by = (λ e. tt, λ m. refl)
matrix_tested KindBetween problem [] false by = (λ e. tt, λ m. refl)
matrix_tested KindBetween problem (row ∷ rows) true by = by
matrix_tested KindBetween problem (row ∷ rows) false by = by
matrix_tested KindBest problem rows placed by = by
matrix_tested KindNoSolution problem rows placed by = no_rows rows

-- ---- the times

-- no lines were counted
none_counted : (n : ℕ) (lines : List FrameLine) → n ≡ min (length lines) (2 ^ 32 - 1)
    → IsTrue (n == 0) ↔ (lines ≡ [])
none_counted n [] is = (λ e. refl, λ e. eq-eqb n 0 (omega arith))
none_counted n (line ∷ lines) is =
    (λ e. absurd (let zero : n ≡ 0 = eqb-true n 0 e in omega arith), λ e. absurd cc)

placed_none : (kind : Kind) (problem : Parts) (rows : List MatrixRow) (lines : List FrameLine)
    → is_kind_placed kind ≡ true → (lines ≡ []) ↔ TimingOfKind kind problem rows lines
placed_none KindPlaced problem rows lines is = (λ e. e, λ e. e)
placed_none KindTimed problem rows lines is = absurd (true≢false (sym is))
placed_none KindBetween problem rows lines is = absurd (true≢false (sym is))
placed_none KindBest problem rows lines is = absurd (true≢false (sym is))
placed_none KindNoSolution problem rows lines is = absurd (true≢false (sym is))

pub and_then : {P Q R : Type 0} → (P ↔ Q) → (Q ↔ R) → P ↔ R
and_then a b = (λ p. b.0 (a.0 p), λ r. a.1 (b.1 r))

module _ (problem : Parts) (rows : List MatrixRow) (walk : CertWalk) (s : Said)
    (stores : Stores problem rows walk s) (matrix : MatrixOfKind s.kind problem rows) where
  -- of the kind `placed`
  pub timing_placed : is_kind_placed s.kind ≡ true
      → IsTrue (walk.lines == 0) ↔ TimingOfKind s.kind problem rows s.lines
  timing_placed is =
      and_then (none_counted walk.lines s.lines stores.lines) (placed_none s.kind problem rows s.lines is)

  -- without a placed matrix
  pub timing_none : ¬ Placed problem rows
      → IsTrue (walk.lines == 0) ↔ TimingOfKind s.kind problem rows s.lines
  timing_none other =
      let is : is_to_be_placed s.kind rows ≡ false = without_placing s.kind problem rows other matrix in
      and_then (none_counted walk.lines s.lines stores.lines)
      (timing_without s.kind problem rows s.lines is, lines_without s.kind problem rows s.lines is)

  -- with one
  pub timing_some : (placing : Placing) → IsPlacing problem rows placing
      → IsLate problem (Some placing) s.lines walk.late → is_kind_placed s.kind ≡ false
      → IsTrue (not walk.late && (walk.lines == length placing.order.items))
      ↔ TimingOfKind s.kind problem rows s.lines
  timing_some placing is late other =
      let to : is_to_be_placed s.kind rows ≡ true =
      with_placing s.kind problem rows (has_rows problem rows stores.knows.stands is.placed) matrix in
      and_then (by walk.late late)
      (timing_from s.kind problem rows s.lines to other, timing_to s.kind problem rows s.lines to other)
    where
      stand : ShowFirst placing.frames.items placing.order.items problem.network.nominal_ticks s.lines
          → length s.lines ≡ length placing.order.items → TimingStands problem rows s.lines
      stand first all =
          let bit = problem.network.nominal_ticks in
          let moved : ShowFirst placing.frames.items (order_of problem rows) bit s.lines =
          subst (λ o. ShowFirst placing.frames.items o bit s.lines) is.order first in
          let here = subst (λ f. ShowFirst f (order_of problem rows) bit s.lines)
          is.frames moved in
          record { count = all ∙ ap length is.order; each = here.each }

      first : TimingStands problem rows s.lines
          → ShowFirst placing.frames.items placing.order.items problem.network.nominal_ticks s.lines
      first stands =
          subst (λ f. ShowFirst f placing.order.items problem.network.nominal_ticks s.lines) (sym is.frames)
          (subst (λ o. ShowFirst (frames_of_classes problem problem.items (grouping_of problem rows)) o
          problem.network.nominal_ticks s.lines) (sym is.order)
          (record { few = omega (arith, stands.count); each = stands.each }))

      by : (b : Bool) → IsLate problem (Some placing) s.lines b
          → IsTrue (not b && (walk.lines == length placing.order.items)) ↔ TimingStands problem rows s.lines
      by true l = (λ e. absurd (true≢false (sym e)), λ stands. absurd (l (first stands)))
      by false l = (
        λ e.
            let all : walk.lines ≡ length placing.order.items = eqb-true _ _ e in
            stand l (omega (arith, all, l.few, is.stages.few, stores.lines)),
        λ stands.
            eq-eqb walk.lines (length placing.order.items)
            (omega (arith, stands.count, ap length is.order, is.stages.few, stores.lines)),
      )

-- ---- the trees

-- what each kind is answered
abbrev pub IsOfKind : Kind → CertWalk → Option ℕ → Option ℕ → Result Verdict CheckFault → Type 0
IsOfKind KindPlaced walk lower load answer = answer ≡ Ok verdict.Placed
IsOfKind KindTimed walk lower load answer = answer ≡ Ok (verdict.Timed (unwrap_or load 0))
IsOfKind KindBetween walk lower load answer = IsOpen walk lower load answer
IsOfKind KindBest walk lower load answer = IsClosed walk (verdict.Best (unwrap_or load 0)) answer
IsOfKind KindNoSolution walk lower load answer = IsClosed walk verdict.NoSolution answer

-- the same verdict, where the same holds
pub verdict_same : {P Q : Type 0} {shown other : Verdict} → (P ↔ Q) → (P → shown ≡ other)
    → (answer : Result Verdict CheckFault) → IsVerdict P shown answer → IsVerdict Q other answer
verdict_same same turn (Ok v) is = (same.0 is.0, is.1 ∙ turn is.0)
verdict_same same turn (Err fault.RejectedMatrix) is = is
verdict_same same turn (Err fault.RejectedTiming) is = is
verdict_same same turn (Err fault.RejectedTree) is = λ q. is (same.1 q)
verdict_same same turn (Err fault.Memory) is = is

-- ---- what a walk finds of what it was told

module _ (problem : Parts) (rows : List MatrixRow) (walk : CertWalk) (s : Said)
    (stores : Stores problem rows walk s) (lower best : Option ℕ) where
  -- the bounds that were told
  abbrev told : List ℕ
  told = bounds_told problem s lower

  all_stand : falls walk ≡ false → AllStandSaid problem s
  all_stand stays =
      let stay = none_falls walk stays in tree_stands problem walk.walk s (stores.in_tree stay.0) stay.1

  least_is : falls walk ≡ false → lowered None told ≡ lowered walk.walk.least (one_more lower)
  least_is stays =
      let stay = none_falls walk stays in
      lowered_append None (bounds_of (goal_said problem s.tree) ([] ∷ []) s.tree.nodes) (one_more lower)
      ∙ ap (λ o. lowered o (one_more lower)) (sym ((stores.in_tree stay.0).takes.least stay.1))

  -- the kinds without open leaves
  closed_told : (shown : Verdict) (answer : Result Verdict CheckFault) → IsClosed walk shown answer
      → IsVerdict (AllStandSaid problem s) shown answer
  closed_told shown (Ok v) closed = (all_stand closed.0, closed.1)
  closed_told shown (Err fault.RejectedMatrix) closed = closed
  closed_told shown (Err fault.RejectedTiming) closed = closed
  closed_told shown (Err fault.RejectedTree) closed = some_falls problem rows walk s stores closed
  closed_told shown (Err fault.Memory) closed = closed

  -- the kind `open`
  open_told : (answer : Result Verdict CheckFault) → IsOpen walk lower best answer
      → IsVerdict (TreesOfTold KindBetween problem s lower) (verdict_told KindBetween problem best s lower)
      answer
  open_told (Ok v) found =
      let there : lowered None told ≡ Some found.1.0 = least_is found.0 ∙ found.1.1 in
      let some : 1 ≤ length told = lowered_some_of told found.1.0 there in
      let same : Some found.1.0 ≡ Some (least told) = sym there ∙ lowered_least told some in
      let here : found.1.0 ≡ least told = cc in
      ((all_stand found.0, some), found.1.2 ∙ ap (λ n. verdict.Between best (lower_with best n)) here)
  open_told (Err fault.RejectedMatrix) found = found
  open_told (Err fault.RejectedTiming) found = found
  open_told (Err fault.RejectedTree) (inl fell) = λ holds. some_falls problem rows walk s stores fell holds.0
  open_told (Err fault.RejectedTree) (inr none) = λ holds.
      lowered_none told (least_is none.0 ∙ none.1) holds.1
  open_told (Err fault.Memory) found = found

  -- what is answered is that of the trees
  told_is : (kind : Kind) (answer : Result Verdict CheckFault) → IsOfKind kind walk lower best answer
      → IsVerdict (TreesOfTold kind problem s lower) (verdict_told kind problem best s lower) answer
  told_is KindPlaced answer found = subst (IsVerdict _ verdict.Placed) (sym found) (tt, refl)
  told_is KindTimed answer found =
      subst (IsVerdict _ (verdict.Timed (unwrap_or best 0))) (sym found) (tt, refl)
  told_is KindBetween answer found = open_told answer found
  told_is KindBest answer found = closed_told (verdict.Best (unwrap_or best 0)) answer found
  told_is KindNoSolution answer found = closed_told verdict.NoSolution answer found

  -- by the kind that is stored
  pub answer_by : (kind : Kind) → walk.kind ≡ kind → (answer : Result Verdict CheckFault)
      → IsOfKind kind walk lower best answer → IsVerdictTold problem best s lower answer
  answer_by kind is answer found =
      told_is s.kind answer
      (subst (λ k. IsOfKind k walk lower best answer) (sym is ∙ stores.kind) found)

-- matrix and times hold
pub found_told : (problem : Parts) (rows : List MatrixRow) (best : Option ℕ) (s : Said) (lower : Option ℕ)
    → MatrixOfKind s.kind problem rows → TimingOfKind s.kind problem rows s.lines
    → (answer : Result Verdict CheckFault) → IsVerdictTold problem best s lower answer
    → IsFoundTold problem rows best s lower answer
found_told problem rows best s lower matrix timing (Ok v) is = (matrix, timing, is)
found_told problem rows best s lower matrix timing (Err fault.RejectedMatrix) is = absurd is
found_told problem rows best s lower matrix timing (Err fault.RejectedTiming) is = absurd is
found_told problem rows best s lower matrix timing (Err fault.RejectedTree) is = (matrix, timing, is)
found_told problem rows best s lower matrix timing (Err fault.Memory) is = absurd is

-- ---- a whole certificate

-- the main tree, where there is one
pub the_tree : (main : Option Plain) → IsSome main → (tree : Plain) × (main ≡ Some tree)
the_tree None some = absurd (false≢true some)
the_tree (Some tree) some = (tree, refl)

module _ (problem : Parts) (rows : List MatrixRow) (best : Option ℕ) (cert : CertParts) where
  -- what was said of the certificate
  abbrev said_with : Option Plain → Said
  said_with main = with_end (main_said best main (lemmas_said cert.lemmas (lines_said problem cert)))

  kind_of_main : (main : Option Plain) → (said_with main).kind ≡ cert.kind
  kind_of_main None = kind_kept problem cert.lemmas (lines_said problem cert)
  kind_of_main (Some tree) = kind_kept problem cert.lemmas (lines_said problem cert)

  lines_of_main : (main : Option Plain) → (said_with main).lines ≡ cert.frames
  lines_of_main None = lines_kept problem cert.lemmas (lines_said problem cert)
  lines_of_main (Some tree) = lines_kept problem cert.lemmas (lines_said problem cert)

  module _ (tree : Plain) (is : cert.main_tree ≡ Some tree) where
    -- the bounds at the open leaves are those that were told
    bounds_are : TreesStand problem best (may_leave_of cert.kind) cert
        → bounds_told problem (said_with (Some tree)) None ≡ bounds problem best cert
    bounds_are stands =
        let main : TreeStands (main_goal problem (values_of problem cert.lemmas) best (may_leave_of cert.kind)) []
        tree =
        subst (MainStands problem (values_of problem cert.lemmas) best (may_leave_of cert.kind)) is stands.main in
        append-nil (bounds_of (goal_said problem (said_with (Some tree)).tree) ([] ∷ []) (nodes_of tree))
        ∙ ap (λ vs. bounds_of (goal_of problem vs (main_aim
        (lemmas_said cert.lemmas (lines_said problem cert)).kind best)) ([] ∷ []) (nodes_of tree))
        (values_are problem cert best tree stands.lemmas)
        ∙ ap (λ k. bounds_of (goal_of problem (values_of problem cert.lemmas) (main_aim k best)) ([] ∷ [])
        (nodes_of tree)) (kind_kept problem cert.lemmas (lines_said problem cert))
        ∙ (walked (main_goal problem (values_of problem cert.lemmas) best (may_leave_of cert.kind)) [] [] tree
        main).opens
        ∙ ap (λ t. map (lower8_of problem (values_of problem cert.lemmas) problem.items) (open_of problem t))
        (sym is)

    -- the kinds without open leaves
    closed_same : (leave : Bool) → may_leave_of cert.kind ≡ leave
        → AllStandSaid problem (said_with (Some tree)) ↔ TreesStand problem best leave cert
    closed_same leave e = (
      λ all. subst (λ b. TreesStand problem best b cert) e (trees_stand problem cert best tree is all),
      λ stands.
          stand_trees problem cert best tree is (subst (λ b. TreesStand problem best b cert) (sym e) stands),
    )

    -- the kind `open`
    open_same : may_leave_of cert.kind ≡ true
        → TreesOfTold KindBetween problem (said_with (Some tree)) None ↔ TreeOfBest KindBetween problem best cert
    open_same e = (
      λ holds.
          let stands = trees_stand problem cert best tree is holds.0 in (
            subst (λ b. TreesStand problem best b cert) e stands,
            omega (arith, holds.1, ap length (bounds_are stands), long problem best cert),
          ),
      λ holds.
          let stands = subst (λ b. TreesStand problem best b cert) (sym e) holds.0 in (
            stand_trees problem cert best tree is stands,
            omega (arith, holds.1, ap length (bounds_are stands), long problem best cert),
          ),
    )

    open_verdict : TreesOfTold KindBetween problem (said_with (Some tree)) None
        → verdict_told KindBetween problem best (said_with (Some tree)) None
        ≡ verdict_of KindBetween problem best cert
    open_verdict holds =
        ap (λ ns. verdict.Between best (lower_with best (least ns)))
        (bounds_are (trees_stand problem cert best tree is holds.0))
        ∙ ap (verdict.Between best) (lower_same problem best cert best)

  -- the main tree of a kind that has one
  tree_of : (kind : Kind) → HasOwnParts cert → cert.kind ≡ kind
      → HasParts kind cert.frames cert.lemmas cert.main_tree
  tree_of kind parts is = subst (λ k. HasParts k cert.frames cert.lemmas cert.main_tree) is parts

  -- what holds of the certificate is what holds of what it says
  abbrev IsSame : Kind → Option Plain → Type 0
  IsSame kind main =
      (TreesOfTold kind problem (said_with main) None ↔ TreeOfBest kind problem best cert)
      × (TreesOfTold kind problem (said_with main) None
      → verdict_told kind problem best (said_with main) None ≡ verdict_of kind problem best cert)

  trees_same : HasOwnParts cert → (kind : Kind) → cert.kind ≡ kind → IsSame kind cert.main_tree
  trees_same parts KindPlaced is = ((λ h. h, λ h. h), λ h. refl)
  trees_same parts KindTimed is = ((λ h. h, λ h. h), λ h. refl)
  trees_same parts KindBetween is =
      let tree = the_tree cert.main_tree (tree_of KindBetween parts is) in
      subst (IsSame KindBetween) (sym tree.1)
      (open_same tree.0 tree.1 (ap may_leave_of is), open_verdict tree.0 tree.1)
  trees_same parts KindBest is =
      let tree = the_tree cert.main_tree (tree_of KindBest parts is) in
      subst (IsSame KindBest) (sym tree.1) (closed_same tree.0 tree.1 false (ap may_leave_of is), λ h. refl)
  trees_same parts KindNoSolution is =
      let tree = the_tree cert.main_tree (tree_of KindNoSolution parts is) in
      subst (IsSame KindNoSolution) (sym tree.1)
      (closed_same tree.0 tree.1 false (ap may_leave_of is), λ h. refl)

  answer_told : HasOwnParts cert → (answer : Result Verdict CheckFault)
      → IsVerdictTold problem best (said_with cert.main_tree) None answer → IsAnswer problem best cert answer
  answer_told parts answer told =
      let same : IsSame cert.kind cert.main_tree = trees_same parts cert.kind refl in
      verdict_same same.0 same.1 answer
      (subst (λ k. IsVerdict (TreesOfTold k problem (said_with cert.main_tree) None)
      (verdict_told k problem best (said_with cert.main_tree) None) answer) (kind_of_main cert.main_tree) told)

-- ---- all parts

module _ (problem : Parts) (rows : List MatrixRow) (some : Bool) (placing : Option Placing) (cert : CertParts)
    (knows : KnowsMatrix problem rows some placing) where
  -- the load is that of the rows
  best_same : (p : Option Placing) → IsPlaced problem rows p → MatrixOfKind cert.kind problem rows
      → best_of problem rows ≡ load_in p
  best_same None other matrix =
      none_of rows (without_placing cert.kind problem rows other matrix) matrix
    where
      none_of : (rs : List MatrixRow) → is_to_be_placed cert.kind rs ≡ false → MatrixOfKind cert.kind problem rs
          → best_of problem rs ≡ None
      none_of rs is m = ap (best_of problem) (rows_without cert.kind problem rs is m)
  best_same (Some p) is matrix =
      best_is problem rows p.load (has_rows problem rows knows.stands is.placed) is.load

  load_same : (p : Option Placing) → IsPlaced problem rows p → MatrixOfKind cert.kind problem rows
      → HasTiming cert.kind rows
      → unwrap_or (load_in p) 0 ≡ load_of problem problem.items (grouping_of problem rows)
  load_same None other matrix has =
      absurd (no_timing cert.kind rows (without_placing cert.kind problem rows other matrix) has)
  load_same (Some p) is matrix has = is.load

  -- what the certificate says
  abbrev best : Option ℕ
  best = load_in placing

  abbrev said : Said
  said = cert_said problem best cert

  matrix : MatrixOfKind said.kind problem rows → MatrixOfKind cert.kind problem rows
  matrix m = subst (λ k. MatrixOfKind k problem rows) (kind_of_main problem rows best cert cert.main_tree) m

  unplaced : MatrixOfKind cert.kind problem rows → MatrixOfKind said.kind problem rows
  unplaced m =
      subst (λ k. MatrixOfKind k problem rows) (sym (kind_of_main problem rows best cert cert.main_tree)) m

  timing : TimingOfKind said.kind problem rows said.lines → TimingOfKind cert.kind problem rows cert.frames
  timing t =
      subst (λ k. TimingOfKind k problem rows cert.frames) (kind_of_main problem rows best cert cert.main_tree)
      (subst (TimingOfKind said.kind problem rows) (lines_of_main problem rows best cert cert.main_tree) t)

  untimed : TimingOfKind cert.kind problem rows cert.frames → TimingOfKind said.kind problem rows said.lines
  untimed t =
      subst (TimingOfKind said.kind problem rows) (sym (lines_of_main problem rows best cert cert.main_tree))
      (subst (λ k. TimingOfKind k problem rows cert.frames)
      (sym (kind_of_main problem rows best cert cert.main_tree)) t)

  by_trees : HasOwnParts cert → (answer : Result Verdict CheckFault) → MatrixOfKind said.kind problem rows
      → TimingOfKind said.kind problem rows said.lines → IsVerdictTold problem best said None answer
      → IsFound problem rows cert answer
  by_trees parts answer m t told =
      found_by_trees problem rows cert best (matrix m) (timing t)
      (best_same placing knows.placed (matrix m)) (load_same placing knows.placed (matrix m)) answer
      (answer_told problem rows best cert parts answer told)

  -- what was found of that is found of it
  pub found_cert : HasOwnParts cert → (answer : Result Verdict CheckFault)
      → IsFoundTold problem rows best said None answer → IsFound problem rows cert answer
  found_cert parts (Ok shown) f = by_trees parts (Ok shown) f.0 f.1 f.2
  found_cert parts (Err fault.RejectedMatrix) f = λ m. f (unplaced m)
  found_cert parts (Err fault.RejectedTiming) f = (matrix f.0, λ t. f.1 (untimed t))
  found_cert parts (Err fault.RejectedTree) f = by_trees parts (Err fault.RejectedTree) f.0 f.1 f.2
  found_cert parts (Err fault.Memory) f = absurd f

  -- what follows
  pub holds_cert : (answer : Result Verdict CheckFault) → IsFound problem rows cert answer
      → OnOk answer (Holds (judged_of problem rows cert))
  holds_cert answer found = by placing knows.placed answer found
    where
      by : (p : Option Placing) → IsPlaced problem rows p → (answer : Result Verdict CheckFault)
          → IsFound problem rows cert answer → OnOk answer (Holds (judged_of problem rows cert))
      by None other (Ok shown) found =
          holds_without problem rows cert knows.stands
          (without_placing cert.kind problem rows other found.rule.matrix) (Ok shown) found
      by None other (Err why) found = tt
      by (Some p) is answer found =
          holds_placed problem rows cert knows.stands knows.sorted is.one_place
          is.legal is.named answer found
