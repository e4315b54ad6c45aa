use Rattle.std.proofs.Common.{ℕ, ◌+◌, ◌*◌, ◌≤◌, subst, sym, arith}
use Rattle.busy_period.specs.Demand.{work_of}
use Rattle.busy_period.proofs.Lines.{start-le}
use Rattle.busy_period.proofs.line.climb_start.Goals as goal

pub returns-then-start-from-clause-none : goal.returns-then-start-from-clause-none
returns-then-start-from-clause-none c = λ time fit.
    let line = c.line_below-line in
    let P : ℕ → Type 0 = λ parts. (t : ℕ)
    → line.result.offset + line.result.slope * t
    ≤ parts * work_of c.args.frames.now c.args.numbers.now t in
    omega (
      arith,
      start-le c.args.frames.now c.args.numbers.now c.args.base c.args.ahead c.args.from time
          c.from-parts.result line.result.offset
          line.result.slope c.from.result c.from-2.result c.div_ceil-start.result c.from.ensures
          c.from-2.ensures c.if-line-parts.false
          (subst P (sym c.from-parts.ensures) line.ensures.below) c.div_ceil-start.ensures fit,
    )

pub returns-clause-below : goal.returns-clause-below
returns-clause-below c = λ time fit.
    let line = c.line_below-line in
    let P : ℕ → Type 0 = λ parts. (t : ℕ)
    → line.result.offset + line.result.slope * t
    ≤ parts * work_of c.args.frames.now c.args.numbers.now t in
    omega (
      arith,
      start-le c.args.frames.now c.args.numbers.now c.args.base c.args.ahead c.args.from time
          c.from-parts.result line.result.offset
          line.result.slope c.from.result c.from-2.result c.div_ceil-start.result c.from.ensures
          c.from-2.ensures c.if-line-parts.false
          (subst P (sym c.from-parts.ensures) line.ensures.below) c.div_ceil-start.ensures fit,
      fit.begun,
    )
