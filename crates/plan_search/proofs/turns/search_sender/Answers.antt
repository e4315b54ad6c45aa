use Rattle.std.proofs.Common.{◌≡◌, ◌<◌, ◌^◌, ◌*◌, [], None, Some, false, refl, sym, ap, ◌∙◌, arith}
use Rattle.pack_model.specs.Problem.{sent_by}
use Rattle.cert_text.specs.Parts.{LemmaOf}
use Rattle.cert_text.specs.PlainTree.{plain_of}
use Rattle.cert_text.specs.Trees.{Plain}
use Rattle.bandwidth_bound.specs.Prices.{lower8_of}
use Rattle.plan_search.specs.Searches.{trimmed}
use Rattle.tree_search.specs.Shown.{items_of, start_of}
use Rattle.tree_search.specs.Open.{has_open}
use Rattle.plan_search.proofs.Sought.{ended, has-found}
use Rattle.search_judge.proofs.Places.{judges_over, open_at, taken_at}
use Rattle.plan_search.proofs.Spends.{Reached, reached, trimmed-is}
use Rattle.plan_search.proofs.turns.search_sender.Goals as goal

pub returns-then-pending : goal.returns-then-pending
returns-then-pending c =
    let told = c.in_ok-advance.ensures in
    let it : Reached c.args.problem.now c.args.sender c.args.share c.advance.new.self =
    reached c.args.problem.now c.args.sender c.args.share c.in_ok-advance.field-0 c.in_ok-judge.judge
    c.new-search.result c.advance.new.self c.in_ok-judge.ensures.is
    (c.new-search.ensures.items ∙ c.in_ok-partial.ensures.range)
    (c.new-search.ensures.start ∙ c.in_ok-partial.ensures.none) c.new-search.ensures.at told.within told.fewer
    told.gives in
    record {
      end = it.end;
      search = it.search;
      gives = open_at c.args.problem.now c.advance.new.self it.end it.at ∙ sym c.pending.ensures
          ∙ c.if-pending.true;
    }

pub unreachable-requires : goal.unreachable-requires
unreachable-requires c =
    let told = c.in_ok-advance.ensures in
    let it : Reached c.args.problem.now c.args.sender c.args.share c.advance.new.self =
    reached c.args.problem.now c.args.sender c.args.share c.in_ok-advance.field-0 c.in_ok-judge.judge
    c.new-search.result c.advance.new.self c.in_ok-judge.ensures.is
    (c.new-search.ensures.items ∙ c.in_ok-partial.ensures.range)
    (c.new-search.ensures.start ∙ c.in_ok-partial.ensures.none) c.new-search.ensures.at told.within told.fewer
    told.gives in
    let closed : has_open it.end.tree ≡ false =
    open_at c.args.problem.now c.advance.new.self it.end it.at ∙ sym c.pending.ensures ∙ c.if-pending.false in
    absurd (has-found c.args.problem.now c.in_ok-partial.ensures.belongs.stands c.args.sender c.args.share
    it.end
    it.search closed (it.at.found ∙ sym c.take_found.ensures.found ∙ c.in_default.is))

pub overflow_mul-value : goal.overflow_mul-value
overflow_mul-value c =
    let told = c.in_ok-advance.ensures in
    let it : Reached c.args.problem.now c.args.sender c.args.share c.advance.new.self =
    reached c.args.problem.now c.args.sender c.args.share c.in_ok-advance.field-0 c.in_ok-judge.judge
    c.new-search.result c.advance.new.self c.in_ok-judge.ensures.is
    (c.new-search.ensures.items ∙ c.in_ok-partial.ensures.range)
    (c.new-search.ensures.start ∙ c.in_ok-partial.ensures.none) c.new-search.ensures.at told.within told.fewer
    told.gives in
    let closed : has_open it.end.tree ≡ false =
    open_at c.args.problem.now c.advance.new.self it.end it.at ∙ sym c.pending.ensures ∙ c.if-pending.false in
    let small : 8 * c.in-Some.found.load < 2 ^ 128 =
    (ended c.args.problem.now c.in_ok-partial.ensures.belongs.stands c.args.sender c.args.share it.end
    it.search
    closed c.in-Some.found (it.at.found ∙ sym c.take_found.ensures.found ∙ c.in-Some.is)).small in
    omega arith

pub into_trimmed-requires-clause-suits : goal.into_trimmed-requires-clause-suits
into_trimmed-requires-clause-suits c =
    let problem = c.args.problem.now in
    c.in_ok-advance.ensures.suits problem (items_of problem c.take_found.new.self)
    (judges_over problem (Some c.args.sender) [] (items_of problem c.take_found.new.self) c.in_ok-judge.judge
    c.in_ok-judge.ensures.is
    (ap (items_of problem) c.take_found.ensures.rest ∙ c.in_ok-advance.ensures.goes_on.items
    ∙ c.new-search.ensures.items ∙ c.in_ok-partial.ensures.range))

pub into_trimmed-requires-clause-tree : goal.into_trimmed-requires-clause-tree
into_trimmed-requires-clause-tree c =
    let told = c.in_ok-advance.ensures in
    let it : Reached c.args.problem.now c.args.sender c.args.share c.advance.new.self =
    reached c.args.problem.now c.args.sender c.args.share c.in_ok-advance.field-0 c.in_ok-judge.judge
    c.new-search.result c.advance.new.self c.in_ok-judge.ensures.is
    (c.new-search.ensures.items ∙ c.in_ok-partial.ensures.range)
    (c.new-search.ensures.start ∙ c.in_ok-partial.ensures.none) c.new-search.ensures.at told.within told.fewer
    told.gives in (
      record { tree = it.end.tree; best = it.end.best; found = None },
      taken_at c.args.problem.now c.advance.new.self c.take_found.new.self it.end c.take_found.ensures.rest
          it.at,
    )

pub returns : goal.returns
returns c =
    let told = c.in_ok-advance.ensures in
    let problem = c.args.problem.now in
    let sender = c.args.sender in
    let found = c.in-Some.found in
    let taken = c.take_found.new.self in
    let it : Reached problem sender c.args.share c.advance.new.self =
    reached problem sender c.args.share c.in_ok-advance.field-0 c.in_ok-judge.judge
    c.new-search.result c.advance.new.self c.in_ok-judge.ensures.is
    (c.new-search.ensures.items ∙ c.in_ok-partial.ensures.range)
    (c.new-search.ensures.start ∙ c.in_ok-partial.ensures.none) c.new-search.ensures.at told.within told.fewer
    told.gives in
    let closed : has_open it.end.tree ≡ false =
    open_at problem c.advance.new.self it.end it.at ∙ sym c.pending.ensures ∙ c.if-pending.false in
    let tree : plain_of c.in_ok-tree.tree ≡ trimmed problem (Some sender) [] (8 * found.load) it.end.tree =
    c.in_ok-tree.ensures (record { tree = it.end.tree; best = it.end.best; found = None })
    (taken_at problem c.advance.new.self taken it.end c.take_found.ensures.rest it.at)
    ∙ trimmed-is problem sender (8 * found.load) taken
    (λ parts items p. lower8_of parts c.advance.new.judge.values.items items p)
    (λ parts items p. lower8_of parts c.in_ok-judge.judge.values.items items p) it.end.tree
    (ap (items_of problem) c.take_found.ensures.rest ∙ told.goes_on.items ∙ c.new-search.ensures.items
    ∙ c.in_ok-partial.ensures.range)
    (ap start_of c.take_found.ensures.rest ∙ told.goes_on.start ∙ c.new-search.ensures.start
    ∙ c.in_ok-partial.ensures.none) told.bounds
    (ap (λ v. lower8_of problem v (sent_by problem.items sender)) c.in_ok-judge.ensures.is.values_are) in
    let lemma : Plain → LemmaOf Plain = λ t. record { sender = sender; value = 8 * found.load; tree = t } in
    record {
      end = it.end;
      search = it.search;
      gives = (
        closed,
        (found, it.at.found ∙ sym c.take_found.ensures.found ∙ c.in-Some.is, ap lemma tree, refl),
      );
    }
