use Rattle.std.proofs.Common.{subst}
use Rattle.bandwidth_bound.specs.Rule.{MatrixOfKind, TimingOfKind}
use Rattle.cert_check.specs.Taken.{load_in}
use Rattle.cert_check.specs.Told.{IsVerdictTold}
use Rattle.cert_check.proofs.Judged.{found_told}
use Rattle.cert_check.proofs.Nexts.{denied, said}
use Rattle.cert_check.proofs.cert_walk.CertWalk.judge.Goals as goal

pub returns-then-not-matrix_stands-clause-told : goal.returns-then-not-matrix_stands-clause-told
returns-then-not-matrix_stands-clause-told c = λ problem rows s stores.
    denied c.matrix_stands.result (MatrixOfKind s.kind problem rows) c.if-not-matrix_stands.true
    (c.matrix_stands.ensures problem rows s stores)

pub returns-then-not-timing_stands-clause-told : goal.returns-then-not-timing_stands-clause-told
returns-then-not-timing_stands-clause-told c = λ problem rows s stores.
    let matrix : MatrixOfKind s.kind problem rows =
    said c.matrix_stands.result (MatrixOfKind s.kind problem rows) c.if-not-matrix_stands.false
    (c.matrix_stands.ensures problem rows s stores) in (
      matrix,
      denied c.timing_stands.result (TimingOfKind s.kind problem rows s.lines) c.if-not-timing_stands.true
          (c.timing_stands.ensures problem rows s stores matrix),
    )

pub returns-clause-told : goal.returns-clause-told
returns-clause-told c = λ problem rows s stores.
    let matrix : MatrixOfKind s.kind problem rows =
    said c.matrix_stands.result (MatrixOfKind s.kind problem rows) c.if-not-matrix_stands.false
    (c.matrix_stands.ensures problem rows s stores) in
    found_told problem rows (load_in c.args.self.now.placing) s c.args.lower matrix
    (said c.timing_stands.result (TimingOfKind s.kind problem rows s.lines) c.if-not-timing_stands.false
    (c.timing_stands.ensures problem rows s stores matrix))
    c.judge_trees.result (c.judge_trees.ensures problem rows s stores)

pub returns-clause-known : goal.returns-clause-known
returns-clause-known c = λ e.
    let stored = c.requires.1 in
    subst (IsVerdictTold c.requires.0 (load_in c.args.self.now.placing) stored.1 c.args.lower) e
    (c.judge_trees.ensures c.requires.0 stored.0 stored.1 stored.2)
