use Rattle.std.proofs.Common.{ℕ, ◌+◌, ◌<◌, arith, length, ◌∙◌, ap, inl, refl, get_or, subst, sym}
use Rattle.std.proofs.lemmas.Bool.{false≢true}
use Rattle.std.proofs.lemmas.List.{get_or-replicate, length-replicate, length-set}
use Rattle.placed_matrix.specs.Tables.{no_row}
use Rattle.placed_matrix.proofs.FirstRows.{HasFirst, with_first, with_agreeing, disagrees, all_agree, in_range_at}
use Rattle.placed_matrix.proofs.checks.frames_agree.Goals as goal
use Rattle.placed_matrix.proofs.checks.frames_agree.Goals.{then-first_of-id, else-first_of-id+else-not-agree}

pub loop-number-init : goal.loop-number-init
loop-number-init c = record {
  long = length-replicate 2048 no_row;
  first = λ id below. inl (get_or-replicate 2048 id no_row 0 below, λ k d lt. absurd (omega arith));
}

pub returns-then-not-agree : goal.returns-then-not-agree
returns-then-not-agree c = (
  λ t. absurd (false≢true t),
  λ agree. absurd (disagrees c.args.rows.now c.loop-number.number c.index-rows-number.result
      c.loop-number-test.true c.index-rows-number.is c.loop-number.first_of c.index-rows-first_of.result
      (in_range_at c.args.rows.now c.loop-number.number c.index-rows-number.result c.loop-number-test.true
      c.index-rows-number.is c.requires).id c.if-first_of-id.false c.index-rows-first_of.is
      (λ same. false≢true (c.if-not-agree.ensures.1 same)) c.loop-number.invariant.first agree),
)

pub loop-number-preserved : goal.loop-number-preserved
loop-number-preserved c =
    elim c.if-first_of-id.branch [
      | then-first_of-id w ↦ record {
        long = ap length w.first_of-is ∙ length-set _ _ _ ∙ c.loop-number.invariant.long;
        first =
            subst (λ t. (id : ℕ) → id < 2048
            → HasFirst c.args.rows.now (c.loop-number.number + 1) id (get_or t id 0)) (sym w.first_of-is)
            (with_first c.args.rows.now c.loop-number.number c.index-rows-number.result
            c.loop-number-test.true c.index-rows-number.is c.loop-number.first_of
            c.loop-number.invariant.long (omega arith)
            (in_range_at c.args.rows.now c.loop-number.number c.index-rows-number.result
            c.loop-number-test.true c.index-rows-number.is c.requires).id w.if-first_of-id.true
            c.loop-number.invariant.first);
      }
      | else-first_of-id+else-not-agree w ↦ record {
        long = ap length w.first_of-is ∙ c.loop-number.invariant.long;
        first =
            subst (λ t. (id : ℕ) → id < 2048
            → HasFirst c.args.rows.now (c.loop-number.number + 1) id (get_or t id 0)) (sym w.first_of-is)
            (with_agreeing c.args.rows.now c.loop-number.number c.index-rows-number.result
            c.loop-number-test.true c.index-rows-number.is c.loop-number.first_of
            w.index-rows-first_of.result
            (in_range_at c.args.rows.now c.loop-number.number c.index-rows-number.result
            c.loop-number-test.true c.index-rows-number.is c.requires).id w.if-first_of-id.false
            w.index-rows-first_of.is (w.agree.ensures.0 w.if-not-agree.false)
            c.loop-number.invariant.first);
      }
    ]

pub returns : goal.returns
returns c = (
  λ _. all_agree c.args.rows.now c.loop-number.number c.loop-number.first_of (omega arith)
      (λ k d lt. (c.requires k d lt).id) c.loop-number.invariant.first,
  λ _. refl,
)
