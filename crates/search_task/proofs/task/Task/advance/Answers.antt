use Rattle.std.proofs.Common.{None, ◌∙◌, subst, sym}
use Rattle.search_judge.specs.Judges.{IsJudge, JudgesOver}
use Rattle.search_judge.proofs.Places.{steps_over}
use Rattle.tree_search.specs.Shown.{items_of, start_of}
use Rattle.search_task.specs.Task.{search_of, taken_over}
use Rattle.search_task.proofs.Tasks.{closed_at, is_task, steps_kept}
use Rattle.search_task.proofs.task.Task.advance.Goals as goal

pub returns-clause-steps : goal.returns-clause-steps
returns-clause-steps c =
    let problem = c.args.problem.now in
    let self = c.args.self.now in
    let x = taken_over self c.args.best in
    let gives = c.in_ok-made.ensures.gives x (rw c.lesser.ensures at c.in_ok-search.ensures.at) in
    let is : IsJudge problem None self.lemmas.items c.in_ok-judge.judge =
    subst (λ vs. IsJudge problem None vs c.in_ok-judge.judge) c.deref.ensures.value c.in_ok-judge.ensures.is
    in
    steps_kept problem self.lemmas.items (items_of problem c.in_ok-search.search)
    (start_of c.in_ok-search.search)
    self.path.items c.in_ok-judge.judge c.in_ok-made.made x gives.0 (search_of c.keep.new.self) is
    c.in_ok-search.ensures.items c.in_ok-search.ensures.start gives.1
    (c.in_ok-keep.ensures.at gives.0 gives.2)

pub returns-clause-fewer : goal.returns-clause-fewer
returns-clause-fewer c = λ less.
    let x = taken_over c.args.self.now c.args.best in
    let gives = c.in_ok-made.ensures.gives x (rw c.lesser.ensures at c.in_ok-search.ensures.at) in
    closed_at c.args.problem.now c.advance.new.self gives.0 c.keep.new.self gives.2
    (c.in_ok-keep.ensures.at gives.0 gives.2) (c.in_ok-made.ensures.fewer less)

pub returns-clause-task : goal.returns-clause-task
returns-clause-task c =
    let problem = c.args.problem.now in
    let self = c.args.self.now in
    let x = taken_over self c.args.best in
    let gives = c.in_ok-made.ensures.gives x (rw c.lesser.ensures at c.in_ok-search.ensures.at) in
    let is : IsJudge problem None self.lemmas.items c.in_ok-judge.judge =
    subst (λ vs. IsJudge problem None vs c.in_ok-judge.judge) c.deref.ensures.value c.in_ok-judge.ensures.is
    in
    let told = c.in_ok-search.ensures in
    let kept = c.in_ok-keep.ensures in
    is_task problem c.problem_stands.ensures.problem self c.keep.new.self
    c.advance.new.self c.args.best c.in_ok-made.made gives.0 c.requires gives.2
    (steps_over problem None self.lemmas.items (items_of problem c.in_ok-search.search)
    (start_of c.in_ok-search.search)
    self.path.items c.in_ok-judge.judge c.in_ok-made.made x gives.0 is told.items told.start gives.1)
    (kept.at gives.0 gives.2) kept.open (kept.path ∙ told.path) (kept.lemmas ∙ told.lemmas)

pub keep-requires-clause-suits : goal.keep-requires-clause-suits
keep-requires-clause-suits c =
    let problem = c.args.problem.now in
    let begun = subst (λ items. JudgesOver problem items c.in_ok-judge.judge) (sym c.in_ok-search.ensures.items)
    c.in_ok-judge.ensures.suits in
    subst (λ items. JudgesOver problem items c.advance.new.judge) (sym c.in_ok-made.ensures.goes_on.items)
    (c.in_ok-made.ensures.suits problem (items_of problem c.in_ok-search.search) begun)
