use Rattle.std.proofs.Common.{◌≡◌, ◌∙◌, ℕ, [], List, Option, ap, sym, subst}
use Rattle.pack_model.specs.Problem.{Parts}
use Rattle.matrix_rows.specs.declared.matrix.MatrixRow.{MatrixRow}
use Rattle.cert_text.specs.declared.parts.FrameLine.{FrameLine}
use Rattle.cert_text.specs.declared.parts.Kind.{Kind}
use Rattle.cert_text.specs.Parts.{CertParts, LemmaOf}
use Rattle.cert_text.specs.Trees.{Plain}
use Rattle.cert_check.specs.declared.cert_walk.CertWalk.{CertWalk}
use Rattle.cert_check.specs.Said.{cert_said, lemmas_said, main_said, nothing_said, with_end, with_kind, with_lines}
use Rattle.cert_check.specs.Taken.{Stores, StoresMore, Taken, load_in}
use Rattle.cert_check.proofs.Judged.{found_cert, holds_cert}
use Rattle.cert_check.proofs.StoreLaws.{still, stores_then}
use Rattle.cert_check.proofs.check.check_cert.Goals as goal

-- a walk that took the parts of a certificate stores it whole
whole : (problem : Parts) (rows : List MatrixRow) (cert : CertParts) (kind : Kind) (lines : List FrameLine)
    (lemmas : List (LemmaOf Plain)) (tree : Option Plain) (load : Option ℕ) (new now : CertWalk)
    → Taken new problem rows [] → kind ≡ cert.kind → lines ≡ cert.frames
    → lemmas ≡ cert.lemmas → tree ≡ cert.main_tree → now.placing ≡ new.placing → load ≡ load_in new.placing
    → StoresMore problem new now
    (λ s. with_end (main_said load tree (lemmas_said lemmas (with_lines lines (with_kind kind s)))))
    → Stores problem rows now (cert_said problem (load_in now.placing) cert)
whole problem rows cert kind lines lemmas tree load new now none k ls ms t p l step =
    subst (Stores problem rows now)
    (λ i. with_end (main_said ((l ∙ ap load_in (sym p)) i) (t i)
    (lemmas_said (ms i) (with_lines (ls i) (with_kind (k i) (nothing_said problem))))))
    (step.stores rows (nothing_said problem) none)

pub take_lines-requires : goal.take_lines-requires
take_lines-requires c =
    still (c.take_kind.ensures c.args.problem.now)
    (c.args.matrix.now, nothing_said c.args.problem.now, c.in_ok-walk.ensures)

pub take_lemmas-requires : goal.take_lemmas-requires
take_lemmas-requires c =
    still c.take_lines.ensures (still (c.take_kind.ensures c.args.problem.now)
    (c.args.matrix.now, nothing_said c.args.problem.now, c.in_ok-walk.ensures))

pub take_main_tree-requires : goal.take_main_tree-requires
take_main_tree-requires c =
    still c.take_lemmas.ensures (still c.take_lines.ensures (still (c.take_kind.ensures c.args.problem.now)
    (c.args.matrix.now, nothing_said c.args.problem.now, c.in_ok-walk.ensures)))

pub judge-requires : goal.judge-requires
judge-requires c = (
  c.args.problem.now,
  still (c.take_finish.ensures c.args.problem.now) (still c.take_main_tree.ensures
      (still c.take_lemmas.ensures (still c.take_lines.ensures (still (c.take_kind.ensures c.args.problem.now)
      (c.args.matrix.now, nothing_said c.args.problem.now, c.in_ok-walk.ensures))))),
)

pub returns : goal.returns
returns c =
    let kind = c.take_kind.ensures c.args.problem.now in
    let three = stores_then (stores_then kind c.take_lines.ensures) c.take_lemmas.ensures in
    let all = stores_then (stores_then three c.take_main_tree.ensures) (c.take_finish.ensures c.args.problem.now) in
    let stores =
    whole c.args.problem.now c.args.matrix.now c.args.cert.now c.kind.result c.frames.result.now _ _ _
    c.in_ok-walk.walk c.take_finish.new.self c.in_ok-walk.ensures c.kind.ensures.value
    c.frames.ensures c.lemmas.ensures c.main_tree.ensures all.placing (ap load_in three.placing) all in
    let found =
    found_cert c.args.problem.now c.args.matrix.now c.take_finish.new.self.has_rows
    c.take_finish.new.self.placing c.args.cert.now stores.knows c.kind.ensures.has_parts c.judge.result
    (c.judge.ensures.told c.args.problem.now c.args.matrix.now
    (cert_said c.args.problem.now (load_in c.take_finish.new.self.placing) c.args.cert.now) stores) in record {
      found = found;
      holds = holds_cert c.args.problem.now c.args.matrix.now c.take_finish.new.self.has_rows
          c.take_finish.new.self.placing c.args.cert.now stores.knows c.judge.result found;
    }
