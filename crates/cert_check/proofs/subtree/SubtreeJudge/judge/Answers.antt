use Rattle.std.proofs.Common.{◌∙◌, sym}
use Rattle.cert_text.specs.PlainTree.{plain_of}
use Rattle.cert_check.specs.Walk.{way_of}
use Rattle.cert_check.proofs.PlaceLaws.{place_taken}
use Rattle.cert_check.proofs.subtree.SubtreeJudge.judge.Goals as goal

pub returns-then-has_failed-clause-found : goal.returns-then-has_failed-clause-found
returns-then-has_failed-clause-found c = λ values judge.
    (place_taken c.args.problem.now c.args.aim values c.args.place.now c.begin_at.new.self
    (way_of c.args.problem.now c.take_tree.new.walk) (plain_of c.args.tree.now) c.begin_at.ensures.aim
    (c.begin_at.ensures.values ∙ judge.values_are) c.begin_at.ensures.begins c.take_tree.ensures.takes).fails
    (sym c.has_failed.ensures ∙ c.if-has_failed.true)

pub returns-clause-found : goal.returns-clause-found
returns-clause-found c = λ values judge.
    let taken =
    place_taken c.args.problem.now c.args.aim values c.args.place.now c.begin_at.new.self
    (way_of c.args.problem.now c.take_tree.new.walk) (plain_of c.args.tree.now) c.begin_at.ensures.aim
    (c.begin_at.ensures.values ∙ judge.values_are) c.begin_at.ensures.begins c.take_tree.ensures.takes in
    let stays = sym c.has_failed.ensures ∙ c.if-has_failed.false in
    (taken.stands stays, c.least.ensures ∙ taken.least stays)
