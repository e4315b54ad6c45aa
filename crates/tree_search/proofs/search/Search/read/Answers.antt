use Rattle.std.proofs.Common.{◌≡◌, true, false, refl, sym, ◌∙◌, arith}
use Rattle.grouping_tree.specs.Grouped.{labels_of, range_of}
use Rattle.tree_search.specs.Shown.{items_of, start_of}
use Rattle.tree_search.proofs.Moves.{entered-agenda, entered-front, left-agenda, left-below}
use Rattle.tree_search.proofs.Walks.{walks-closed, walks-inner, walks-open}
use Rattle.tree_search.proofs.search.Search.read.Goals as goal

pub enter-requires-clause-some : goal.enter-requires-clause-some
enter-requires-clause-some c =
    let self = c.args.self.now in
    let here =
    walks-inner (items_of c.args.problem.now self) (start_of self) c.requires.walks.0 c.requires.walks.1
    c.args.node self.base (labels_of self.partial) self.open c.in-Inner.count c.in-Inner.is c.requires.walks.2 in
    here.0

pub returns-in_ok-push-in-Inner-clause-goes_on : goal.returns-in_ok-push-in-Inner-clause-goes_on
returns-in_ok-push-in-Inner-clause-goes_on c =
    let self = c.args.self.now in
    let told = c.enter.ensures in
    let old = labels_of self.partial in
    let new = labels_of c.enter.new.self in
    let below = c.requires.search.below in
    let front = entered-front self.base old new below told.front in
    let is_open =
    walks-open (items_of c.args.problem.now self) (start_of self) c.requires.walks.0 c.requires.walks.1
    c.args.node self.base old self.open c.requires.walks.2 in
    record {
      is_of = record {
        belongs = told.belongs;
        below = omega arith;
        done = λ e. absurd (let both : true ≡ false = sym is_open ∙ e in cc);
      };
      items = told.range;
      start = front;
      base = refl;
      room = told.room;
    }

pub returns-in_ok-push-in-Inner-clause-gives : goal.returns-in_ok-push-in-Inner-clause-gives
returns-in_ok-push-in-Inner-clause-gives c = λ t rest walks.
    let problem = c.args.problem.now in
    let self = c.args.self.now in
    let told = c.enter.ensures in
    let old = labels_of self.partial in
    let is_open =
    walks-open (items_of problem self) (start_of self) t rest c.args.node self.base old self.open walks in
    let here =
    walks-inner (items_of problem self) (start_of self) t rest c.args.node
    self.base old self.open c.in-Inner.count c.in-Inner.is walks in
    let places =
    entered-agenda (items_of problem self) (range_of problem c.enter.new.self) self.base old
    (labels_of c.enter.new.self) told.range (told.places self.base c.requires.search.below) in
    rw (is_open, places) here.2

pub returns-in_ok-push-in_default-clause-goes_on : goal.returns-in_ok-push-in_default-clause-goes_on
returns-in_ok-push-in_default-clause-goes_on c =
    let told = c.leave-self.ensures in
    let self = c.args.self.now in
    let old = labels_of self.partial in
    let new = labels_of c.leave-self.new.self in
    record {
      is_of = record {
        belongs = told.belongs;
        below =
            left-below self.base old new c.leave-self.result c.requires.search.below told.next told.none;
        done = λ e. (told.none e).0 ∙ sym told.front;
      };
      items = told.range;
      start = told.front;
      base = refl;
      room = told.room;
    }

pub returns-in_ok-push-in_default-clause-gives : goal.returns-in_ok-push-in_default-clause-gives
returns-in_ok-push-in_default-clause-gives c = λ t rest walks.
    let problem = c.args.problem.now in
    let self = c.args.self.now in
    let told = c.leave-self.ensures in
    let old = labels_of self.partial in
    let places =
    left-agenda (items_of problem self) (range_of problem c.leave-self.new.self) self.base old
    (labels_of c.leave-self.new.self) c.leave-self.result told.range told.next told.none in
    rw places
    (walks-closed (items_of problem self) (start_of self) t rest c.args.node
    self.base old self.open c.in_default.not-Inner c.requires.closed walks)
