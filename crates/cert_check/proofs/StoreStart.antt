-- What a walk over events stores before the first.
use Rattle.std.proofs.Common.{◌≡◌, Bool, false, List, [], ◌∷◌, length, Option, Some, None, replicate, refl, ap, sym, subst, arith, nat_eq, ne_eqb, not, true≢false}
use Rattle.pack_model.specs.Problem.{Parts, IsProblem, IsSorted}
use Rattle.matrix_rows.specs.declared.matrix.MatrixRow.{MatrixRow}
use Rattle.cert_text.specs.declared.parts.Kind.TheVariants.{KindPlaced}
use Rattle.cert_check.specs.declared.cert_walk.CertWalk.{CertWalk}
use Rattle.cert_check.specs.declared.placing.Placing.{Placing}
use Rattle.cert_check.specs.declared.walk.Walk.{Walk}
use Rattle.cert_check.specs.Kinds.{has_row}
use Rattle.cert_check.specs.Nodes.{Takes}
use Rattle.cert_check.specs.Said.{no_aim}
use Rattle.cert_check.specs.Taken.{IsLate, IsPlaced, Taken}
use Rattle.cert_check.specs.Walk.{IsWalk, goal_of, start, values_in, way_of}
use Rattle.cert_check.proofs.Walks.{takes_none}

-- whether a matrix has rows
pub row_said : (rows : List MatrixRow) → not (nat_eq (length rows) 0) ≡ has_row rows
row_said [] = refl
row_said (row ∷ rows) = ap not (ne_eqb (length (row ∷ rows)) 0 (λ e. omega (arith, e)))

-- each of no lines shows its frame
none_late : (problem : Parts) (placing : Option Placing) → IsLate problem placing [] false
none_late problem None = tt
none_late problem (Some placing) =
    record { few = omega arith; each = λ place d inside. absurd (omega (arith, inside)) }

module _ (problem : Parts) (rows : List MatrixRow) (some : Bool) (placing : Option Placing) (now : Walk) where
  -- a walk that took no event
  abbrev pub fresh : CertWalk
  fresh = record {
    has_rows = some;
    placing = placing;
    kind = KindPlaced;
    lines = 0;
    late = false;
    last = None;
    failed = false;
    walk = now;
    finished = false;
  }

  pub none_stored : IsProblem problem → IsSorted problem.signals problem.items → some ≡ has_row rows
      → IsPlaced problem rows placing → IsWalk problem now → way_of problem now ≡ start → now.aim ≡ no_aim
      → now.values.items ≡ replicate (length problem.senders) 0 → Taken fresh problem rows []
  none_stored stands sorted is placed walks begins aim kept = record {
    knows = record { stands = stands; sorted = sorted; has_rows = is; placed = placed };
    kind = refl;
    lines = omega arith;
    late = none_late problem placing;
    last = λ e. refl;
    in_tree = λ e. record {
      walks = walks;
      kept = kept;
      aim = aim;
      used = λ i. values_in (aim i).range (kept i);
      next = tt;
      stand = tt;
      takes =
          subst (λ way. Takes (goal_of problem (replicate (length problem.senders) 0) no_aim) start way [])
          (sym begins) (takes_none (goal_of problem (replicate (length problem.senders) 0) no_aim) start);
    };
    senders = walks.ready.senders;
    falls = λ e. absurd (true≢false (sym e));
    finished = refl;
  }
