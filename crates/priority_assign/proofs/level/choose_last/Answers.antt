use Rattle.std.proofs.Common.{ℕ, ◌+◌, ◌-◌, length, Some, arith}
use Rattle.std.proofs.lemmas.Slice.{put_mid-rotated}
use Rattle.priority_assign.specs.Once.{IsLastInTime}
use Rattle.priority_assign.proofs.Levels.{fits_if_passes}
use Rattle.priority_assign.proofs.SentOnce.{in_time_if_passes, known_fit, passes_by_known, fit_without, fit_after_first, busy_from_first}
use Rattle.priority_assign.proofs.level.choose_last.Goals as goal

-- a frame that passes ends by its deadline where each is sent once
pub returns-in_err-index-clause-none : goal.returns-in_err-index-clause-none
returns-in_err-index-clause-none c =
    rw c.from_residual.ensures (λ index inside passes.
    (c.in_err-index.ensures {u = tt}).none index inside
    (in_time_if_passes c.args.frames.now c.args.level.now c.args.blocked c.args.bit (c.args.blocked + c.args.once.now.ticks) index
    c.requires.named c.requires.bit.some inside (omega (arith, c.requires.once.ticks)) passes))

-- the last such frame passes where a busy period that is known ends in time
pub returns-then-ends_with-clause-chosen : goal.returns-then-ends_with-clause-chosen
returns-then-ends_with-clause-chosen c =
    let asked : ℕ = c.args.blocked + c.args.once.now.ticks in
    let it : IsLastInTime c.args.frames.now c.args.level.now asked c.in_ok-index.index = (c.in_ok-index.ensures {u = tt}).last in
    record {
      inside = it.inside;
      passes = passes_by_known c.args.frames.now c.args.level.now c.args.blocked c.args.bit c.in_ok-index.index c.busy_by.result
          c.requires.named c.requires.bit it.inside
          (known_fit c.args.frames.now c.args.level.now c.args.blocked asked c.in_ok-index.index c.args.once.now c.busy_by.result
          c.requires.named it.inside (omega (arith, c.requires.once.ticks)) c.requires.once c.busy_by.ensures)
          (c.ends_with.ensures.0 c.if-ends_with.true);
      none_later = λ later after inside passes. it.none_later later after inside
          (in_time_if_passes c.args.frames.now c.args.level.now c.args.blocked c.args.bit asked later c.requires.named c.requires.bit.some
          inside (omega (arith, c.requires.once.ticks)) passes);
    }

-- a frame that passes has a busy period
pub returns-in_err-first-clause-none : goal.returns-in_err-first-clause-none
returns-in_err-first-clause-none c =
    rw c.from_residual-in_err-first.ensures (λ index inside passes.
    let fits = fits_if_passes c.args.frames.now c.args.level.now c.args.blocked c.args.bit index c.requires.named inside passes in
    omega (
      arith,
      (c.in_err-first.ensures {u = tt}).none fits.0 (fit_without c.args.frames.now c.args.level.now c.args.blocked fits.0 fits.1),
      fits.2,
    ))

pub returns-in_err-busy-clause-none : goal.returns-in_err-busy-clause-none
returns-in_err-busy-clause-none c =
    rw c.from_residual-in_err-busy.ensures (λ index inside passes.
    let fits = fits_if_passes c.args.frames.now c.args.level.now c.args.blocked c.args.bit index c.requires.named inside passes in
    let first = c.in_ok-first.ensures {u = tt} in
    omega (
      arith,
      (c.in_err-busy.ensures {u = tt}).none fits.0
          (fit_after_first c.args.frames.now c.args.level.now c.args.blocked c.in_ok-first.first fits.0 index c.requires.named
          inside first.none_before fits.1),
      fits.2,
    ))

pub returns-then-ends_with-clause-moved : goal.returns-then-ends_with-clause-moved
returns-then-ends_with-clause-moved c =
    let it : IsLastInTime c.args.frames.now c.args.level.now (c.args.blocked + c.args.once.now.ticks) c.in_ok-index.index =
    (c.in_ok-index.ensures {u = tt}).last in
    put_mid-rotated c.in_ok-index.index (length c.args.level.now - c.in_ok-index.index) c.args.level.now c.rotate_left.new.self 0
    it.inside (omega arith) c.rotate_left.ensures.after

-- the last such frame passes where the least busy period ends in time
pub returns-then-ends_with-2-clause-chosen : goal.returns-then-ends_with-2-clause-chosen
returns-then-ends_with-2-clause-chosen c =
    let asked : ℕ = c.args.blocked + c.args.once.now.ticks in
    let it : IsLastInTime c.args.frames.now c.args.level.now asked c.in_ok-index.index = (c.in_ok-index.ensures {u = tt}).last in
    record {
      inside = it.inside;
      passes = passes_by_known c.args.frames.now c.args.level.now c.args.blocked c.args.bit c.in_ok-index.index (Some c.in_ok-busy.busy)
          c.requires.named c.requires.bit it.inside
          (busy_from_first c.args.frames.now c.args.level.now c.args.blocked c.in_ok-first.first c.in_ok-busy.busy c.in_ok-index.index
          c.requires.named it.inside (c.in_ok-first.ensures {u = tt}).some (c.in_ok-first.ensures {u = tt}).none_before (c.in_ok-busy.ensures {u = tt}).least).holds
          (c.ends_with-2.ensures.0 c.if-ends_with-2.true);
      none_later = λ later after inside passes. it.none_later later after inside
          (in_time_if_passes c.args.frames.now c.args.level.now c.args.blocked c.args.bit asked later c.requires.named c.requires.bit.some
          inside (omega (arith, c.requires.once.ticks)) passes);
    }

pub returns-then-ends_with-2-clause-moved : goal.returns-then-ends_with-2-clause-moved
returns-then-ends_with-2-clause-moved c =
    let it : IsLastInTime c.args.frames.now c.args.level.now (c.args.blocked + c.args.once.now.ticks) c.in_ok-index.index =
    (c.in_ok-index.ensures {u = tt}).last in
    put_mid-rotated c.in_ok-index.index (length c.args.level.now - c.in_ok-index.index) c.args.level.now c.rotate_left-then-ends_with-2.new.self 0
    it.inside (omega arith) c.rotate_left-then-ends_with-2.ensures.after

-- the times of the level
pub choose_tested-requires-clause-times : goal.choose_tested-requires-clause-times
choose_tested-requires-clause-times c =
    let first = c.in_ok-first.ensures {u = tt} in
    let busy = c.in_ok-busy.ensures {u = tt} in
    record {
      asked = omega (arith, c.requires.once.ticks);
      short = omega (arith, c.requires.once.few, c.requires.blocked);
      first = first.none_before;
      low = omega (arith, first.within);
      busy =
          busy_from_first c.args.frames.now c.args.level.now c.args.blocked c.in_ok-first.first c.in_ok-busy.busy c.in_ok-index.index
          c.requires.named (c.in_ok-index.ensures {u = tt}).last.inside first.some first.none_before busy.least;
      limit = omega (arith, busy.within);
    }
