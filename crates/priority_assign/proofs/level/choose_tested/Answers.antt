use Rattle.std.proofs.Common.{◌≡◌, ℕ, ◌-◌, inl, inr, length, subst, arith}
use Rattle.std.proofs.lemmas.Bool.{cases_lt}
use Rattle.priority_assign.specs.Level.{moved_last, PassesAt}
use Rattle.priority_assign.proofs.Moved.{moved_last-last, moved_last-step}
use Rattle.priority_assign.proofs.Levels.{named_moved, passes_at_moved}
use Rattle.priority_assign.proofs.SentOnce.{times_moved}
use Rattle.priority_assign.proofs.level.choose_tested.Goals as goal

-- the last frame is at the end already
pub returns-then-end_passes-clause-chosen : goal.returns-then-end_passes-clause-chosen
returns-then-end_passes-clause-chosen c =
    let last : ℕ = length c.args.level.now - 1 in
    record {
      inside = omega (arith, c.requires.some);
      passes = (passes_at_moved c.args.frames.now c.args.level.now c.args.level.now c.args.blocked c.args.bit last c.end_passes.result
          (omega (arith, c.requires.some)) (moved_last-last c.args.level.now last (omega (arith, c.requires.some))) c.end_passes.ensures).0
          c.if-end_passes.true;
      none_later = λ later after within. absurd (omega arith);
    }

-- the level is the old one with the frame at the index moved to its end
moved : (c : goal.After-slice_known-in-loop-index-1) → c.swap.new.self ≡ moved_last c.args.level.now (c.loop-index.index - 1)
moved c = moved_last-step c.args.level.now c.loop-index.level c.swap.new.self c.loop-index.index (omega arith) (omega arith)
    c.loop-index.invariant.moved c.swap.ensures.len c.swap.ensures.by_index

pub end_passes-requires-in-loop-index-clause-named : goal.end_passes-requires-in-loop-index-clause-named
end_passes-requires-in-loop-index-clause-named c =
    named_moved c.args.frames.now c.args.level.now c.swap.new.self (c.loop-index.index - 1) (omega arith) (moved c) c.requires.named

pub end_passes-requires-in-loop-index-clause-times : goal.end_passes-requires-in-loop-index-clause-times
end_passes-requires-in-loop-index-clause-times c =
    times_moved c.args.frames.now c.args.level.now c.swap.new.self c.args.blocked (c.loop-index.index - 1) c.args.times (omega arith) (moved c)
    c.requires.times

pub returns-then-end_passes-2-clause-moved : goal.returns-then-end_passes-2-clause-moved
returns-then-end_passes-2-clause-moved c =
    moved_last-step c.args.level.now c.loop-index.level c.swap.new.self c.loop-index.index (omega arith) (omega arith)
    c.loop-index.invariant.moved c.swap.ensures.len c.swap.ensures.by_index

pub returns-then-end_passes-2-clause-chosen : goal.returns-then-end_passes-2-clause-chosen
returns-then-end_passes-2-clause-chosen c =
    let is : c.swap.new.self ≡ moved_last c.args.level.now (c.loop-index.index - 1) =
    moved_last-step c.args.level.now c.loop-index.level c.swap.new.self c.loop-index.index (omega arith) (omega arith)
    c.loop-index.invariant.moved c.swap.ensures.len c.swap.ensures.by_index in
    record {
      inside = omega arith;
      passes = (passes_at_moved c.args.frames.now c.args.level.now c.swap.new.self c.args.blocked c.args.bit (c.loop-index.index - 1)
          c.end_passes-in-loop-index.result (omega arith) is c.end_passes-in-loop-index.ensures).0 c.if-end_passes-2.true;
      none_later = λ later after within. c.loop-index.invariant.failed later (omega arith) within;
    }

pub loop-index-preserved : goal.loop-index-preserved
loop-index-preserved c =
    let is : c.swap.new.self ≡ moved_last c.args.level.now (c.loop-index.index - 1) =
    moved_last-step c.args.level.now c.loop-index.level c.swap.new.self c.loop-index.index (omega arith) (omega arith)
    c.loop-index.invariant.moved c.swap.ensures.len c.swap.ensures.by_index in
    let fails : PassesAt c.args.frames.now c.args.level.now c.args.blocked c.args.bit (c.loop-index.index - 1) → ⊥ = λ passes.
    let it = (passes_at_moved c.args.frames.now c.args.level.now c.swap.new.self c.args.blocked c.args.bit (c.loop-index.index - 1)
    c.end_passes-in-loop-index.result (omega arith) is c.end_passes-in-loop-index.ensures).1 passes in cc in
    record {
      moved = is;
      failed = λ k from within passes. elim (cases_lt (c.loop-index.index - 1) k) [
        | inl later ↦ c.loop-index.invariant.failed k (omega arith) within passes
        | inr here ↦
            let same : k ≡ c.loop-index.index - 1 = omega arith in
            fails (subst (PassesAt c.args.frames.now c.args.level.now c.args.blocked c.args.bit) same passes)
      ];
    }
