-- The acceptance rule: when a matrix and a certificate of a problem show a verdict, and else which part fails
-- first.
use Rattle.std.specs.Prelude.{◌≡◌, ◌≤◌, ◌*◌, ⊤, ℕ, min, Bool, true, false, List, [], ◌∷◌, length, map, Option, None, Some}
use Rattle.pack_model.specs.Problem.{Parts}
use Rattle.class_frame.specs.Classes.{load_of}
use Rattle.class_frame.specs.Frame.{least}
use Rattle.matrix_rows.specs.declared.matrix.MatrixRow.{MatrixRow}
use Rattle.matrix_text.specs.Frames.{grouping_of}
use Rattle.matrix_text.specs.Placed.{Placed}
use Rattle.cert_text.specs.declared.parts.Kind.{Kind}
use Rattle.cert_text.specs.declared.parts.Kind.TheVariants.{KindPlaced, KindTimed, KindBetween, KindBest, KindNoSolution}
use Rattle.cert_text.specs.declared.parts.FrameLine.{FrameLine}
use Rattle.cert_text.specs.Parts.{CertParts}
use Rattle.cert_text.specs.Trees.{Plain}
use Rattle.bandwidth_bound.specs.Goals.{main_goal}
use Rattle.bandwidth_bound.specs.Lemmas.{LemmasStand, values_of}
use Rattle.bandwidth_bound.specs.Prices.{lower8_of}
use Rattle.bandwidth_bound.specs.Trees.{TreeStands, open_places}
use Rattle.bandwidth_bound.specs.declared.verdict.Verdict.{Verdict}
use Rattle.bandwidth_bound.specs.declared.verdict.Verdict.TheVariants as verdict
use Rattle.bandwidth_bound.specs.declared.verdict.Part.{Part}
use Rattle.bandwidth_bound.specs.declared.verdict.Part.TheVariants as part
use Rattle.bandwidth_bound.specs.Timing.{TimingStands}

-- What is judged.
pub record Judged : Type 0 where
  pub problem : Parts
  pub matrix : List MatrixRow
  pub cert : CertParts

-- the matrix part by kind: the matrix is placed; for the kind `none` it has no rows, for `open` it may have
-- none
abbrev pub MatrixOfKind : Kind → Parts → List MatrixRow → Type 0
MatrixOfKind KindPlaced problem rows = Placed problem rows
MatrixOfKind KindTimed problem rows = Placed problem rows
MatrixOfKind KindBetween problem [] = ⊤
MatrixOfKind KindBetween problem (row ∷ rows) = Placed problem (row ∷ rows)
MatrixOfKind KindBest problem rows = Placed problem rows
MatrixOfKind KindNoSolution problem rows = rows ≡ []

-- the timing part by kind: the lines show that each frame passes; for the kind `placed`, and without rows,
-- there are none
abbrev pub TimingOfKind : Kind → Parts → List MatrixRow → List FrameLine → Type 0
TimingOfKind KindPlaced problem rows lines = lines ≡ []
TimingOfKind KindTimed problem rows lines = TimingStands problem rows lines
TimingOfKind KindBetween problem [] lines = lines ≡ []
TimingOfKind KindBetween problem (row ∷ rows) lines = TimingStands problem (row ∷ rows) lines
TimingOfKind KindBest problem rows lines = TimingStands problem rows lines
TimingOfKind KindNoSolution problem rows lines = lines ≡ []

-- the load of the matrix, where it has rows, in ticks a common period
abbrev pub best_of : Parts → List MatrixRow → Option ℕ
best_of problem [] = None
best_of problem (row ∷ rows) = Some (load_of problem problem.items (grouping_of problem (row ∷ rows)))

-- the main tree stands at the empty grouping
abbrev pub MainStands : Parts → List ℕ → Option ℕ → Bool → Option Plain → Type 0
MainStands problem values best may_leave None = ⊥
MainStands problem values best may_leave (Some tree) =
    TreeStands (main_goal problem values best may_leave) [] tree

-- the places of the open leaves of the main tree
abbrev pub open_of : Parts → Option Plain → List (List ℕ)
open_of problem None = []
open_of problem (Some tree) = open_places problem.items [] tree

-- the least bound at the open leaves of the main tree, in eighths
abbrev pub least_open : Parts → List ℕ → Option Plain → ℕ
least_open problem values tree =
    least (map (lower8_of problem values problem.items) (open_of problem tree))

-- the bound that a certificate of the kind `open` shows, in eighths: the least at its open leaves, and the
-- best
abbrev pub lower_of : Parts → List ℕ → Option ℕ → Option Plain → ℕ
lower_of problem values None tree = least_open problem values tree
lower_of problem values (Some best) tree = min (least_open problem values tree) (8 * best)

-- the lemmas stand, and the main tree stands with their values
pub record TreesStand (problem : Parts) (best : Option ℕ) (may_leave : Bool)
    (cert : CertParts) : Type 0 where
  pub lemmas : LemmasStand problem cert.lemmas
  pub main : MainStands problem (values_of problem cert.lemmas) best may_leave cert.main_tree

-- the tree part by kind: the kinds `placed` and `timed` have no trees; for the others the trees stand, for
-- `open` with open leaves in the main tree, and at least one
abbrev pub TreeOfKind : Kind → Parts → List MatrixRow → CertParts → Type 0
TreeOfKind KindPlaced problem rows cert = ⊤
TreeOfKind KindTimed problem rows cert = ⊤
TreeOfKind KindBetween problem rows cert =
    TreesStand problem (best_of problem rows) true cert × (1 ≤ length (open_of problem cert.main_tree))
TreeOfKind KindBest problem rows cert = TreesStand problem (best_of problem rows) false cert
TreeOfKind KindNoSolution problem rows cert = TreesStand problem (best_of problem rows) false cert

-- the matrix part of the rule
abbrev pub MatrixHolds : Judged → Type 0
MatrixHolds judged = MatrixOfKind judged.cert.kind judged.problem judged.matrix

-- the timing part of the rule
abbrev pub TimingHolds : Judged → Type 0
TimingHolds judged = TimingOfKind judged.cert.kind judged.problem judged.matrix judged.cert.frames

-- the tree part of the rule
abbrev pub TreeHolds : Judged → Type 0
TreeHolds judged = TreeOfKind judged.cert.kind judged.problem judged.matrix judged.cert

-- the acceptance rule
pub record RuleHolds (judged : Judged) : Type 0 where
  pub matrix : MatrixHolds judged
  pub timing : TimingHolds judged
  pub tree : TreeHolds judged

-- the load of the matrix, in ticks a common period
abbrev pub load_in : Judged → ℕ
load_in judged = load_of judged.problem judged.problem.items (grouping_of judged.problem judged.matrix)

-- the bound that the certificate shows, in eighths of ticks a common period
abbrev pub lower_in : Judged → ℕ
lower_in judged =
    lower_of judged.problem (values_of judged.problem judged.cert.lemmas)
    (best_of judged.problem judged.matrix) judged.cert.main_tree

-- the verdict is that of the kind, with the matrix's load and the bound where it names them
abbrev pub IsOfKind : Verdict → Judged → Type 0
IsOfKind verdict.Placed judged = judged.cert.kind ≡ KindPlaced
IsOfKind (verdict.Timed load) judged = (judged.cert.kind ≡ KindTimed) × (load ≡ load_in judged)
IsOfKind (verdict.Between best lower) judged =
    (judged.cert.kind ≡ KindBetween) × (best ≡ best_of judged.problem judged.matrix)
    × (lower ≡ lower_in judged)
IsOfKind (verdict.Best load) judged = (judged.cert.kind ≡ KindBest) × (load ≡ load_in judged)
IsOfKind verdict.NoSolution judged = judged.cert.kind ≡ KindNoSolution

-- the rule holds, with this verdict
pub record Accepts (judged : Judged) (shown : Verdict) : Type 0 where
  pub rule : RuleHolds judged
  pub of_kind : IsOfKind shown judged

-- this part is the first of the rule that doesn't hold
abbrev pub FailsFirst : Part → Judged → Type 0
FailsFirst part.Matrix judged = ¬ MatrixHolds judged
FailsFirst part.Timing judged = MatrixHolds judged × ¬ TimingHolds judged
FailsFirst part.Tree judged = MatrixHolds judged × TimingHolds judged × ¬ TreeHolds judged
