use Rattle.std.proofs.Common.{ℕ, ◌+◌, ◌*◌, ◌≤◌, sym, subst}
use Rattle.busy_period.specs.Demand.{work_of}
use Rattle.busy_period.proofs.Lines.{made_up-ge, never_made_up}
use Rattle.busy_period.proofs.leap.made_up_after.Goals as goal

pub returns-clause-some : goal.returns-clause-some
returns-clause-some c = λ more made.
    let now : ℕ = work_of c.args.frames.now c.args.numbers.now c.args.time in
    let later : ℕ = work_of c.args.frames.now c.args.numbers.now (c.args.time + more) in
    let rise = c.rise_after-rise in
    let P : ℕ → Type 0 = λ parts. parts * now + rise.result.slope * more ≤ parts * later + rise.result.lag in
    made_up-ge c.from-parts.result rise.result.slope rise.result.lag c.args.gap c.from.result now later more
    c.div_ceil.result c.from.ensures c.if-missing-rise.false c.if-rise-parts.false c.div_ceil.ensures
    (subst P (sym c.from-parts.ensures) (rise.ensures.rises more)) made

pub returns-then-rise-parts-clause-none : goal.returns-then-rise-parts-clause-none
returns-then-rise-parts-clause-none c = λ more made.
    let now : ℕ = work_of c.args.frames.now c.args.numbers.now c.args.time in
    let later : ℕ = work_of c.args.frames.now c.args.numbers.now (c.args.time + more) in
    let rise = c.rise_after-rise in
    let P : ℕ → Type 0 = λ parts. parts * now + rise.result.slope * more ≤ parts * later + rise.result.lag in
    never_made_up c.from-parts.result rise.result.slope rise.result.lag c.args.gap c.from.result now later more
    c.from.ensures c.if-missing-rise.false c.if-rise-parts.true
    (subst P (sym c.from-parts.ensures) (rise.ensures.rises more)) made
