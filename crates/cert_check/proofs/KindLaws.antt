-- The parts of the acceptance rule by the kind of a certificate, and what is found of a certificate by its
-- kind.
use Rattle.std.proofs.Common.{◌≡◌, ◌<◌, ℕ, true, false, List, [], ◌∷◌, length, Option, Some, true≢false, Ok, Err, Result, refl, sym, ap, subst, arith, All, count_by}
use Rattle.std.proofs.lemmas.List.Elements.{All-head}
use Rattle.std.specs.Prelude.{unwrap_or}
use Rattle.pack_model.specs.declared.signal.Signal.{Signal}
use Rattle.pack_model.specs.Problem.{Parts, IsProblem}
use Rattle.pack_model.proofs.Laws.{tests}
use Rattle.class_frame.specs.Classes.{load_of}
use Rattle.matrix_rows.specs.declared.matrix.MatrixRow.{MatrixRow}
use Rattle.matrix_text.specs.Frames.{grouping_of}
use Rattle.matrix_text.specs.Items.{is_named}
use Rattle.matrix_text.specs.Placed.{Placed}
use Rattle.cert_text.specs.declared.parts.Kind.{Kind}
use Rattle.cert_text.specs.declared.parts.Kind.TheVariants.{KindPlaced, KindTimed, KindBetween, KindBest, KindNoSolution}
use Rattle.cert_text.specs.declared.parts.FrameLine.{FrameLine}
use Rattle.cert_text.specs.Parts.{CertParts}
use Rattle.bandwidth_bound.specs.Follows.{HasMatrix, HasTiming}
use Rattle.bandwidth_bound.specs.Lemmas.{values_of}
use Rattle.bandwidth_bound.specs.Rule.{IsOfKind, MatrixOfKind, TimingOfKind, TreeOfKind, best_of, lower_of}
use Rattle.bandwidth_bound.specs.Timing.{TimingStands}
use Rattle.bandwidth_bound.specs.declared.verdict.Verdict.{Verdict}
use Rattle.cert_check.specs.Accept.{IsFound, judged_of}
use Rattle.cert_check.specs.Kinds.{is_kind_placed, is_to_be_placed}
use Rattle.cert_check.specs.Trees.{IsAnswer, TreeOfBest, verdict_of}
use Rattle.cert_check.specs.declared.fault.CheckFault.{CheckFault}
use Rattle.cert_check.specs.declared.fault.CheckFault.TheVariants as fault

-- the timing part of a kind other than `placed` whose matrix is to be placed
pub timing_from : (kind : Kind) (problem : Parts) (rows : List MatrixRow) (lines : List FrameLine)
    → is_to_be_placed kind rows ≡ true → is_kind_placed kind ≡ false
    → TimingStands problem rows lines → TimingOfKind kind problem rows lines
timing_from KindPlaced problem rows lines is other stands = absurd (true≢false other)
timing_from KindTimed problem rows lines is other stands = stands
timing_from KindBetween problem [] lines is other stands = absurd (true≢false (sym is))
timing_from KindBetween problem (row ∷ rows) lines is other stands = stands
timing_from KindBest problem rows lines is other stands = stands
timing_from KindNoSolution problem rows lines is other stands = absurd (true≢false (sym is))

pub timing_to : (kind : Kind) (problem : Parts) (rows : List MatrixRow) (lines : List FrameLine)
    → is_to_be_placed kind rows ≡ true → is_kind_placed kind ≡ false
    → TimingOfKind kind problem rows lines → TimingStands problem rows lines
timing_to KindPlaced problem rows lines is other holds = absurd (true≢false other)
timing_to KindTimed problem rows lines is other holds = holds
timing_to KindBetween problem [] lines is other holds = absurd (true≢false (sym is))
timing_to KindBetween problem (row ∷ rows) lines is other holds = holds
timing_to KindBest problem rows lines is other holds = holds
timing_to KindNoSolution problem rows lines is other holds = absurd (true≢false (sym is))

-- the timing part of a kind that speaks of times
pub timing_of : (kind : Kind) (problem : Parts) (rows : List MatrixRow) (lines : List FrameLine)
    → HasTiming kind rows
    → TimingOfKind kind problem rows lines → TimingStands problem rows lines
timing_of KindPlaced problem rows lines has holds = absurd has
timing_of KindTimed problem rows lines has holds = holds
timing_of KindBetween problem [] lines has holds = absurd has
timing_of KindBetween problem (row ∷ rows) lines has holds = holds
timing_of KindBest problem rows lines has holds = holds
timing_of KindNoSolution problem rows lines has holds = absurd has

-- a kind whose matrix is to have no rows
pub matrix_without : (kind : Kind) (problem : Parts) (rows : List MatrixRow)
    → is_to_be_placed kind rows ≡ false
    → rows ≡ [] → MatrixOfKind kind problem rows
matrix_without KindPlaced problem rows is none = absurd (true≢false is)
matrix_without KindTimed problem rows is none = absurd (true≢false is)
matrix_without KindBetween problem [] is none = tt
matrix_without KindBetween problem (row ∷ rows) is none = absurd (true≢false is)
matrix_without KindBest problem rows is none = absurd (true≢false is)
matrix_without KindNoSolution problem rows is none = none

pub rows_without : (kind : Kind) (problem : Parts) (rows : List MatrixRow) → is_to_be_placed kind rows ≡ false
    → MatrixOfKind kind problem rows → rows ≡ []
rows_without KindPlaced problem rows is holds = absurd (true≢false is)
rows_without KindTimed problem rows is holds = absurd (true≢false is)
rows_without KindBetween problem [] is holds = refl
rows_without KindBetween problem (row ∷ rows) is holds = absurd (true≢false is)
rows_without KindBest problem rows is holds = absurd (true≢false is)
rows_without KindNoSolution problem rows is holds = holds

pub timing_without : (kind : Kind) (problem : Parts) (rows : List MatrixRow) (lines : List FrameLine)
    → is_to_be_placed kind rows ≡ false → lines ≡ [] → TimingOfKind kind problem rows lines
timing_without KindPlaced problem rows lines is none = absurd (true≢false is)
timing_without KindTimed problem rows lines is none = absurd (true≢false is)
timing_without KindBetween problem [] lines is none = none
timing_without KindBetween problem (row ∷ rows) lines is none = absurd (true≢false is)
timing_without KindBest problem rows lines is none = absurd (true≢false is)
timing_without KindNoSolution problem rows lines is none = none

pub lines_without : (kind : Kind) (problem : Parts) (rows : List MatrixRow) (lines : List FrameLine)
    → is_to_be_placed kind rows ≡ false → TimingOfKind kind problem rows lines → lines ≡ []
lines_without KindPlaced problem rows lines is holds = absurd (true≢false is)
lines_without KindTimed problem rows lines is holds = absurd (true≢false is)
lines_without KindBetween problem [] lines is holds = holds
lines_without KindBetween problem (row ∷ rows) lines is holds = absurd (true≢false is)
lines_without KindBest problem rows lines is holds = absurd (true≢false is)
lines_without KindNoSolution problem rows lines is holds = holds

-- neither matrix nor times are spoken of
pub no_matrix : (kind : Kind) (rows : List MatrixRow) → is_to_be_placed kind rows ≡ false
    → ¬ HasMatrix kind rows
no_matrix KindPlaced rows is has = true≢false is
no_matrix KindTimed rows is has = true≢false is
no_matrix KindBetween [] is has = has
no_matrix KindBetween (row ∷ rows) is has = true≢false is
no_matrix KindBest rows is has = true≢false is
no_matrix KindNoSolution rows is has = has

pub no_timing : (kind : Kind) (rows : List MatrixRow) → is_to_be_placed kind rows ≡ false
    → ¬ HasTiming kind rows
no_timing KindPlaced rows is has = has
no_timing KindTimed rows is has = true≢false is
no_timing KindBetween [] is has = has
no_timing KindBetween (row ∷ rows) is has = true≢false is
no_timing KindBest rows is has = true≢false is
no_timing KindNoSolution rows is has = has

-- the tree part, where the load of the matrix is that of its rows
tree_of : (kind : Kind) (problem : Parts) (rows : List MatrixRow) (cert : CertParts)
    → TreeOfBest kind problem (best_of problem rows) cert → TreeOfKind kind problem rows cert
tree_of KindPlaced problem rows cert holds = tt
tree_of KindTimed problem rows cert holds = tt
tree_of KindBetween problem rows cert holds = holds
tree_of KindBest problem rows cert holds = holds
tree_of KindNoSolution problem rows cert holds = holds

of_tree : (kind : Kind) (problem : Parts) (rows : List MatrixRow) (cert : CertParts)
    → TreeOfKind kind problem rows cert → TreeOfBest kind problem (best_of problem rows) cert
of_tree KindPlaced problem rows cert holds = tt
of_tree KindTimed problem rows cert holds = tt
of_tree KindBetween problem rows cert holds = holds
of_tree KindBest problem rows cert holds = holds
of_tree KindNoSolution problem rows cert holds = holds

-- the verdict of the kind
verdict_is : (kind : Kind) (problem : Parts) (rows : List MatrixRow) (cert : CertParts) (best : Option ℕ)
    → cert.kind ≡ kind → best_of problem rows ≡ best
    → (HasTiming kind rows → unwrap_or best 0 ≡ load_of problem problem.items (grouping_of problem rows))
    → IsOfKind (verdict_of kind problem best cert) (judged_of problem rows cert)
verdict_is KindPlaced problem rows cert best is same load = is
verdict_is KindTimed problem rows cert best is same load = (is, load tt)
verdict_is KindBetween problem rows cert best is same load =
    (is, sym same, ap (λ b. lower_of problem (values_of problem cert.lemmas) b cert.main_tree) (sym same))
verdict_is KindBest problem rows cert best is same load = (is, load tt)
verdict_is KindNoSolution problem rows cert best is same load = is

-- what was found of the trees is what is found of the certificate, where matrix and timing hold
module _ (problem : Parts) (rows : List MatrixRow) (cert : CertParts) (best : Option ℕ)
    (matrix : MatrixOfKind cert.kind problem rows) (timing : TimingOfKind cert.kind problem rows cert.frames)
    (same : best_of problem rows ≡ best)
    (load : HasTiming cert.kind rows
    → unwrap_or best 0 ≡ load_of problem problem.items (grouping_of problem rows)) where
  pub found_by_trees : (answer : Result Verdict CheckFault) → IsAnswer problem best cert answer
      → IsFound problem rows cert answer
  found_by_trees (Ok shown) is = record {
    rule = record {
      matrix = matrix;
      timing = timing;
      tree =
          tree_of cert.kind problem rows cert
          (subst (λ b. TreeOfBest cert.kind problem b cert) (sym same) is.0);
    };
    of_kind = subst (λ v. IsOfKind v (judged_of problem rows cert)) (sym is.1)
        (verdict_is cert.kind problem rows cert best refl same load);
  }
  found_by_trees (Err fault.RejectedMatrix) is = absurd is
  found_by_trees (Err fault.RejectedTiming) is = absurd is
  found_by_trees (Err fault.RejectedTree) is = (
    matrix,
    timing,
    λ tree.
        is (subst (λ b. TreeOfBest cert.kind problem b cert) same (of_tree cert.kind problem rows cert tree)),
  )
  found_by_trees (Err fault.Memory) is = tt

-- a placed matrix has rows
pub has_rows : (problem : Parts) (rows : List MatrixRow) → IsProblem problem → Placed problem rows
    → ¬ (rows ≡ [])
has_rows problem [] stands placed none = by problem.signals placed.one_row.each (tests problem stands).some
  where
    by : (signals : List Signal) → All (λ (signal : Signal). count_by (is_named signal.name) [] ≡ 1) signals
        → 0 < length signals → ⊥
    by [] each some = absurd (omega arith)
    by (signal ∷ signals) each some =
        let one : count_by (is_named signal.name) [] ≡ 1 =
        All-head (λ (signal : Signal). count_by (is_named signal.name) [] ≡ 1) signal signals each in
        absurd (omega (arith, one))
has_rows problem (row ∷ rows) stands placed none = cc

-- the load of a matrix with rows
pub best_is : (problem : Parts) (rows : List MatrixRow) (load : ℕ) → ¬ (rows ≡ [])
    → load ≡ load_of problem problem.items (grouping_of problem rows) → best_of problem rows ≡ Some load
best_is problem [] load some is = absurd (some refl)
best_is problem (row ∷ rows) load some is = ap Some (sym is)
