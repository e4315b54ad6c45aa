use Rattle.std.proofs.Common.{◌≡◌, sym, ◌∙◌}
use Rattle.cert_text.proofs.Trees.{plain-Bound, plain-Fail, plain-Left}
use Rattle.std.proofs.lemmas.List.{map-id}
use Rattle.std.proofs.lemmas.Iterator.Adapters.{YieldsList-from_vec}
use Rattle.std.proofs.lemmas.Iterator.Consumers.{YieldsList-end}
use Rattle.tree_search.proofs.Flattens.{flat-whole, flats-push}
use Rattle.tree_search.proofs.tree.+flatten.Goals as goal

pub loop-child-preserved : goal.loop-child-preserved
loop-child-preserved t c =
    flats-push c.push.new.self.items c.loop-child.nodes.items c.flatten.new.nodes.items c.loop-child.yielded
    c.in-Some.child c.loop-child.invariant c.in_ok-flatten-in-Inner.ensures

pub returns-in-None : goal.returns-in-None
returns-in-None t c =
    let given = c.into_iter-child-iterator.ensures.into_iter_gives in
    let whole =
    YieldsList-end (YieldsList-from_vec {s = c.into_iter-child-iterator.result} c.in-Inner.children.items
    given.0 (given.1 ∙ c.in-Inner.children.ok.0)) c.loop-child.yielded c.loop-child.child-iterator
    c.loop-child.yielded_by c.next.result c.next.new.self c.in-None.is c.next.ensures.steps in
    let all : c.loop-child.yielded ≡ c.in-Inner.children.items = sym (map-id c.loop-child.yielded)
    ∙ whole.0 in
    flat-whole c.args.nodes.now.items c.push.new.self.items c.loop-child.nodes.items c.loop-child.yielded
    c.in-Inner.children c.args.tree c.len.result
    c.in_ok-push-in-Inner.ensures.items c.loop-child.invariant all c.in-Inner.is
    (c.len.ensures ∙ c.in-Inner.children.ok.0)

pub returns-in_ok-push-in-Bound : goal.returns-in_ok-push-in-Bound
returns-in_ok-push-in-Bound t c = rw (c.in-Bound.is, plain-Bound) c.in_ok-push-in-Bound.ensures.items

pub returns-in_ok-push-in-Left : goal.returns-in_ok-push-in-Left
returns-in_ok-push-in-Left t c = rw (c.in-Left.is, plain-Left) c.in_ok-push-in-Left.ensures.items

pub returns-in_ok-push-in-Fail : goal.returns-in_ok-push-in-Fail
returns-in_ok-push-in-Fail t c =
    rw (c.in-Fail.is, plain-Fail c.in-Fail.refuted) c.in_ok-push-in-Fail.ensures.items
