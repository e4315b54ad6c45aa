use Rattle.std.proofs.Common.{◌≡◌, ℕ, length, take, sym, ◌∙◌}
use Rattle.grouping_tree.specs.Grouped.{labels_of, range_of}
use Rattle.search_judge.proofs.Asked.{can_pass, no_sender}
use Rattle.search_judge.proofs.judge.SearchJudge.stuck.Goals as goal

pub returns-clause-can_pass : goal.returns-clause-can_pass
returns-clause-can_pass c =
    let problem = c.args.problem.now in
    let range = c.args.self.now.range in
    let frames = c.frames-frames.result.now in
    let bit : ℕ = c.from-bit.result in
    let bit_is : bit ≡ problem.network.nominal_ticks = cc in
    can_pass problem range (range_of problem c.args.partial.now) (labels_of c.args.partial.now) frames bit
    (no_sender range (sym c.is_some.ensures ∙ c.if-is_some.false)) c.requires.suits.items_are
    (c.frames-frames.ensures.value problem c.requires.belongs) bit_is c.in_ok-found.found
    (take (length frames) c.find_stuck.new.order) c.in_ok-found.ensures.passes
