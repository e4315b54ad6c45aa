-- What follows from what is found of a certificate with a placed matrix.
use Rattle.std.proofs.Common.{◌≡◌, ◌*◌, ◌^◌, ◌<◌, ℕ, false, List, arith, Result, Ok, Err, Option, Some, None}
use Rattle.std.specs.Prelude.{OnOk}
use Rattle.pack_model.specs.Problem.{Parts, IsProblem, IsSorted}
use Rattle.pack_model.proofs.Laws.{tests}
use Rattle.class_frame.specs.Classes.{load_of}
use Rattle.class_frame.specs.Grouping.{IsOrder}
use Rattle.class_frame.specs.Legal.{IsLegal}
use Rattle.grouping_tree.proofs.Fronts.{legal-partial}
use Rattle.matrix_rows.specs.declared.matrix.MatrixRow.{MatrixRow}
use Rattle.matrix_text.specs.Frames.{grouping_of, order_of}
use Rattle.matrix_text.specs.OnePlace.{OnePlace}
use Rattle.cert_text.specs.Parts.{CertParts}
use Rattle.bandwidth_bound.specs.Covering.{TreesShow}
use Rattle.bandwidth_bound.specs.Follows.{Holds}
use Rattle.bandwidth_bound.specs.Rule.{RuleHolds}
use Rattle.bandwidth_bound.specs.declared.verdict.Verdict.{Verdict}
use Rattle.bandwidth_bound.proofs.Final.{all_items, failing_is_final}
use Rattle.bandwidth_bound.proofs.Loads.{loads_fit}
use Rattle.bandwidth_bound.proofs.PriceBound.{bound_is_below}
use Rattle.bandwidth_bound.proofs.Shown.{shown_is_solvable}
use Rattle.bandwidth_bound.proofs.Standing.{trees_hold}
use Rattle.cert_check.specs.declared.fault.CheckFault.{CheckFault}
use Rattle.cert_check.specs.declared.placing.Placing.{Placing}
use Rattle.cert_check.specs.Accept.{IsFound, judged_of}
use Rattle.cert_check.specs.Kinds.{is_to_be_placed}
use Rattle.cert_check.specs.Taken.{IsPlaced, load_in}
use Rattle.cert_check.specs.Trees.{HasRoom}
use Rattle.cert_check.proofs.BusLaws.{shown_never_late}
use Rattle.cert_check.proofs.KindLaws.{no_matrix, no_timing, timing_of}

module _ (problem : Parts) (rows : List MatrixRow) (cert : CertParts) (stands : IsProblem problem) where
  -- what the trees show
  trees : RuleHolds (judged_of problem rows cert) → TreesShow (judged_of problem rows cert)
  trees rule = trees_hold bound_is_below failing_is_final (judged_of problem rows cert) stands rule

  -- of a certificate whose matrix is to have no rows
  pub holds_without : is_to_be_placed cert.kind rows ≡ false → (answer : Result Verdict CheckFault)
      → IsFound problem rows cert answer → OnOk answer (Holds (judged_of problem rows cert))
  holds_without is (Ok shown) found =
      let shows : TreesShow (judged_of problem rows cert) = trees found.rule in record {
        one_place = λ has. absurd (no_matrix cert.kind rows is has);
        passes = λ has. absurd (no_timing cert.kind rows is has);
        never_late = λ has. absurd (no_timing cert.kind rows is has);
        solvable = λ has. absurd (no_timing cert.kind rows is has);
        best = shows.best;
        no_solution = shows.no_solution;
        between = shows.between;
      }
  holds_without is (Err why) found = tt

  -- of one with a placed matrix
  pub holds_placed : IsSorted problem.signals problem.items → OnePlace problem rows
      → IsLegal problem.items (grouping_of problem rows)
      → IsOrder (grouping_of problem rows) (order_of problem rows)
      → (answer : Result Verdict CheckFault) → IsFound problem rows cert answer
      → OnOk answer (Holds (judged_of problem rows cert))
  holds_placed sorted one_place legal named (Ok shown) found =
      let shows : TreesShow (judged_of problem rows cert) = trees found.rule in record {
        one_place = λ has. one_place;
        passes = λ has. (shown_is_solvable (judged_of problem rows cert) found.rule has legal named).0;
        never_late = λ has.
            shown_never_late problem rows stands sorted legal.grouping named cert.frames
            (timing_of cert.kind problem rows cert.frames has found.rule.timing);
        solvable = λ has. (shown_is_solvable (judged_of problem rows cert) found.rule has legal named).1;
        best = shows.best;
        no_solution = shows.no_solution;
        between = shows.between;
      }
  holds_placed sorted one_place legal named (Err why) found = tt

-- the load of a legal grouping has room for an eighth
load_fits : (problem : Parts) → IsProblem problem → (labels : List ℕ) → IsLegal problem.items labels
    → 8 * load_of problem problem.items labels < 2 ^ 128
load_fits problem stands labels legal =
    loads_fit problem stands problem.items (all_items problem) labels
    (legal-partial problem.items labels legal)
    (omega (arith, legal.grouping.each, (tests problem stands).few_items))

-- and so has that of a placed matrix
pub has_room : (problem : Parts) (rows : List MatrixRow) (placing : Option Placing) → IsProblem problem
    → IsPlaced problem rows placing → HasRoom (load_in placing)
has_room problem rows None stands is = tt
has_room problem rows (Some placing) stands is =
    omega (arith, load_fits problem stands (grouping_of problem rows) is.legal, is.load)
