-- What a walk over events stores after one more.
use Rattle.std.proofs.Common.{◌≡◌, ◌<◌, ◌≤◌, ◌+◌, ◌-◌, ◌^◌, ◌⊎◌, inl, inr, ℕ, min, Bool, true, false, List, [], ◌∷◌, ◌++◌, length, get_or, Option, Some, None, refl, sym, ap, subst, ◌∙◌, arith, true≢false}
use Rattle.std.specs.Prelude.{◌||◌, not}
use Rattle.std.proofs.lemmas.Bool.{cases_lt}
use Rattle.std.proofs.lemmas.List.{get_or_append_left, get_or_push, length_push}
use Rattle.pack_model.specs.Problem.{Parts}
use Rattle.busy_period.specs.declared.timed.Timed.{Timed}
use Rattle.response_test.specs.Frame.{IsShown}
use Rattle.matrix_rows.specs.declared.matrix.MatrixRow.{MatrixRow}
use Rattle.cert_text.specs.declared.parts.FrameLine.{FrameLine}
use Rattle.cert_text.specs.declared.parts.Kind.{Kind}
use Rattle.cert_check.specs.declared.cert_walk.CertWalk.{CertWalk}
use Rattle.cert_check.specs.declared.placing.Placing.{Placing}
use Rattle.cert_check.specs.declared.walk.Aim.{Aim}
use Rattle.cert_check.specs.declared.walk.Walk.{Walk}
use Rattle.cert_check.specs.Nodes.{Node, Takes}
use Rattle.cert_check.specs.Said.{Said, tree_begun, with_end, with_kind, with_line, with_node, with_nodes}
use Rattle.cert_check.specs.Taken.{AllStandSaid, ComesNext, HasStored, IsInTree, IsLate, IsPlaced, IsPlacing, IsShowing, ShowFirst, ShowsAt, Stores, StoresMore, falls, goal_said}
use Rattle.cert_check.specs.Walk.{IsWalk, Keeps, TakesOne, goal_in, goal_of, start, values_in, way_of}
use Rattle.cert_check.proofs.Walks.{stand_first, takes_append, takes_failed, takes_none}

-- ---- step by step

-- a walk that went on still stores something
pub still : {problem : Parts} {before after : CertWalk} {more : Said → Said}
    → StoresMore problem before after more → HasStored problem before → HasStored problem after
still {more = more} step has = (has.0, more has.1, step.stores has.0 has.1 has.2)

-- two steps are one
pub stores_then : {problem : Parts} {before between after : CertWalk} {first second : Said → Said}
    → StoresMore problem before between first → StoresMore problem between after second
    → StoresMore problem before after (λ s. second (first s))
stores_then {first = first} a b = record {
  stores = λ rows s stores. b.stores rows (first s) (a.stores rows s stores);
  placing = b.placing ∙ a.placing;
}

-- where the same was said
pub stores_same : {problem : Parts} {before after : CertWalk} {more : Said → Said} (same : Said → Said)
    → ((s : Said) → more s ≡ same s) → StoresMore problem before after more
    → StoresMore problem before after same
stores_same {problem = problem} {after = after} same is step = record {
  stores = λ rows s stores. subst (Stores problem rows after) (is s) (step.stores rows s stores);
  placing = step.placing;
}

-- ---- one more node

-- where something of the trees doesn't stand, any nodes change nothing
pub nodes_passed : (problem : Parts) (walk : CertWalk) (nodes : List Node) → falls walk ≡ true
    → StoresMore problem walk walk (with_nodes nodes)
nodes_passed problem walk nodes fell = record {
  stores = λ rows s stores. record {
    knows = stores.knows;
    kind = stores.kind;
    lines = stores.lines;
    late = stores.late;
    last = stores.last;
    in_tree = λ e.
        let old = stores.in_tree e in record {
          walks = old.walks;
          kept = old.kept;
          aim = old.aim;
          used = old.used;
          next = old.next;
          stand = old.stand;
          takes =
              takes_failed (goal_said problem s.tree) start (way_of problem walk.walk) s.tree.nodes nodes
              (sym (ap (λ b. b || walk.walk.failed) e) ∙ fell) old.takes;
        };
    senders = stores.senders;
    falls = λ e all. stores.falls e (fewer s all);
    finished = stores.finished;
  };
  placing = refl;
}
  where
    fewer : (s : Said) → AllStandSaid problem (with_nodes nodes s) → AllStandSaid problem s
    fewer s all = (
      record {
        next = all.0.next;
        nodes = stand_first (goal_said problem s.tree) ([] ∷ []) s.tree.nodes nodes all.0.nodes;
      },
      all.1,
    )

module _ (problem : Parts) (walk : CertWalk) (nodes : List Node) where
  -- after a tree that doesn't stand
  pub none_stored : walk.failed ≡ true → StoresMore problem walk walk (with_nodes nodes)
  none_stored failed = nodes_passed problem walk nodes (ap (λ b. b || walk.walk.failed) failed)

  -- taken by the walk over the tree
  pub nodes_stored : walk.failed ≡ false → (now : Walk) → IsWalk problem now → Keeps walk.walk now
      → Takes (goal_in problem walk.walk) (way_of problem walk.walk) (way_of problem now) nodes
      → StoresMore problem walk (record walk { walk = now }) (with_nodes nodes)
  nodes_stored stays now walks keeps takes = record {
    stores = λ rows s stores. record {
      knows = stores.knows;
      kind = stores.kind;
      lines = stores.lines;
      late = stores.late;
      last = stores.last;
      in_tree = λ e. in_tree_now s (stores.in_tree stays);
      senders = ap length keeps.values ∙ stores.senders;
      falls = λ e. absurd (true≢false (sym e ∙ stays));
      finished = stores.finished;
    };
    placing = refl;
  }
    where
      in_tree_now : (s : Said) → IsInTree problem walk.walk s.values s.tree s.older
          → IsInTree problem now s.values (record s.tree { nodes = s.tree.nodes ++ nodes }) s.older
      in_tree_now s old = record {
        walks = walks;
        kept = keeps.values ∙ old.kept;
        aim = keeps.aim ∙ old.aim;
        used =
            (λ i. values_in (keeps.aim i).range (keeps.values i)) ∙ old.used;
        next = old.next;
        stand = old.stand;
        takes =
            takes_append (goal_said problem s.tree) start (way_of problem walk.walk) (way_of problem now)
            s.tree.nodes nodes old.takes
            (subst (λ goal. Takes goal (way_of problem walk.walk) (way_of problem now) nodes)
            (λ i. goal_of problem (old.used i) (old.aim i)) takes);
      }

-- one node after a tree that doesn't stand
pub node_passed : (problem : Parts) (walk : CertWalk) (node : Node) → walk.failed ≡ true
    → StoresMore problem walk walk (with_node node)
node_passed problem walk node = none_stored problem walk (node ∷ [])

-- one that was taken
pub node_stored : (problem : Parts) (walk : CertWalk) (node : Node) → walk.failed ≡ false → (now : Walk)
    → IsWalk problem now → Keeps walk.walk now → TakesOne problem walk.walk now node
    → StoresMore problem walk (record walk { walk = now }) (with_node node)
node_stored problem walk node = nodes_stored problem walk (node ∷ [])

-- ---- a tree ends, and another one begins

-- the tree that is being told doesn't stand
pub tree_falls : (problem : Parts) (walk : Walk) (s : Said)
    → IsInTree problem walk s.values s.tree s.older → walk.failed ≡ true
    → ¬ AllStandSaid problem s
tree_falls problem walk s old failed all = old.takes.fails refl failed all.0.nodes

-- or stands with all others
pub tree_stands : (problem : Parts) (walk : Walk) (s : Said)
    → IsInTree problem walk s.values s.tree s.older → walk.failed ≡ false
    → AllStandSaid problem s
tree_stands problem walk s old stays =
    (record { next = old.next; nodes = old.takes.stands stays }, old.stand)

-- what the code asks before a tree begins
pub some_falls : (problem : Parts) (rows : List MatrixRow) (walk : CertWalk) (s : Said)
    → Stores problem rows walk s → (walk.failed || walk.walk.failed) ≡ true → ¬ AllStandSaid problem s
some_falls problem rows walk s stores falls = by walk.failed refl falls
  where
    by : (failed : Bool) → walk.failed ≡ failed → (failed || walk.walk.failed) ≡ true
        → ¬ AllStandSaid problem s
    by true e f = stores.falls e
    by false e f = tree_falls problem walk.walk s (stores.in_tree e) f

pub none_falls : (walk : CertWalk) → (walk.failed || walk.walk.failed) ≡ false
    → (walk.failed ≡ false) × (walk.walk.failed ≡ false)
none_falls walk stays = by walk.failed refl stays
  where
    by : (failed : Bool) → walk.failed ≡ failed → (failed || walk.walk.failed) ≡ false
        → (walk.failed ≡ false) × (walk.walk.failed ≡ false)
    by true e f = absurd (true≢false f)
    by false e f = (e, f)

-- a tree begins, with this last sender and these values
abbrev begun : Aim → Option ℕ → List ℕ → Said → Said
begun aim last values s = record (tree_begun aim s) { last = last; values = values }

module _ (problem : Parts) (rows : List MatrixRow) (walk : CertWalk) (s : Said)
    (stores : Stores problem rows walk s) (aim : Aim) (last : Option ℕ) (values : List ℕ) where
  -- a walk over the tree begins
  pub begun_stored : (walk.failed || walk.walk.failed) ≡ false → ComesNext problem s.last aim.range
      → (now : Walk) (sender : Option ℕ) → IsWalk problem now → way_of problem now ≡ start → now.aim ≡ aim
      → now.values.items ≡ values → sender ≡ last
      → values_in aim.range values ≡ values_in aim.range s.values
      → Stores problem rows (record walk { walk = now; last = sender }) (begun aim last values s)
  begun_stored stays next now sender walks begins same kept is used =
      let stay = none_falls walk stays in record {
        knows = stores.knows;
        kind = stores.kind;
        lines = stores.lines;
        late = stores.late;
        last = λ e. is;
        in_tree = λ e. record {
          walks = walks;
          kept = kept;
          aim = same;
          used = (λ i. values_in (same i).range (kept i)) ∙ used;
          next = next;
          stand = tree_stands problem walk.walk s (stores.in_tree stay.0) stay.1;
          takes =
              subst (λ way. Takes (goal_of problem (values_in aim.range s.values) aim) start way [])
              (sym begins) (takes_none (goal_of problem (values_in aim.range s.values) aim) start);
        };
        senders = walks.ready.senders;
        falls = λ e. absurd (true≢false (sym e ∙ stay.0));
        finished = stores.finished;
      }

-- ---- one more frame line

module _ (frames : List Timed) (order : List ℕ) (bit : ℕ) (lines : List FrameLine) (line : FrameLine) where
  -- the line shows its frame
  abbrev Shown : Type 0
  Shown =
      (length lines < length order)
      × IsShown frames order (length lines) bit line.busy line.queue

  shown_more : ShowFirst frames order bit lines → Shown → ShowFirst frames order bit (lines ++ line ∷ [])
  shown_more first shown = record {
    few = omega (arith, shown.0, length_push lines line);
    each = λ place d inside.
        by place d (cases_lt place (length lines)) (omega (arith, inside, length_push lines line));
  }
    where
      by : (place : ℕ) (d : FrameLine) → (place < length lines) ⊎ (length lines ≤ place)
          → place < length lines + 1
          → IsShown frames order place bit (get_or (lines ++ line ∷ []) place d).busy
          (get_or (lines ++ line ∷ []) place d).queue
      by place d (inl before) inside =
          subst (λ (l : FrameLine). IsShown frames order place bit l.busy l.queue)
          (sym (get_or_append_left lines (line ∷ []) d place before)) (first.each place d before)
      by place d (inr after) inside =
          let last : length lines ≡ place = omega arith in
          subst (λ n. IsShown frames order n bit (get_or (lines ++ line ∷ []) n d).busy
          (get_or (lines ++ line ∷ []) n d).queue) last
          (subst (λ (l : FrameLine). IsShown frames order (length lines) bit l.busy l.queue)
          (sym (get_or_push lines line d (length lines) refl)) shown.1)

  shown_before : ShowFirst frames order bit (lines ++ line ∷ []) → ShowFirst frames order bit lines
  shown_before first = record {
    few = omega (arith, first.few, length_push lines line);
    each = λ place d inside.
        subst (λ (l : FrameLine). IsShown frames order place bit l.busy l.queue)
        (get_or_append_left lines (line ∷ []) d place inside)
        (first.each place d (omega (arith, inside, length_push lines line)));
  }

  shown_last : ShowFirst frames order bit (lines ++ line ∷ []) → Shown
  shown_last first =
      let none : FrameLine = line in (
        omega (arith, first.few, length_push lines line),
        subst (λ (l : FrameLine). IsShown frames order (length lines) bit l.busy l.queue)
            (get_or_push lines line none (length lines) refl)
            (first.each (length lines) none (omega (arith, length_push lines line))),
      )

-- whether some line so far doesn't show its frame, with one more
late_more : (problem : Parts) (placing : Option Placing) (lines : List FrameLine) (line : FrameLine)
    (late shows : Bool) (place : ℕ) → IsLate problem placing lines late
    → (late ≡ false → (p : Placing) → placing ≡ Some p → place ≡ length lines)
    → IsShowing problem placing place line shows
    → IsLate problem placing (lines ++ line ∷ []) (late || not shows)
late_more problem None lines line late shows place is at showing = tt
late_more problem (Some p) lines line true true place is at showing =
    λ first. is (shown_before p.frames.items p.order.items problem.network.nominal_ticks lines line first)
late_more problem (Some p) lines line true false place is at showing =
    λ first. is (shown_before p.frames.items p.order.items problem.network.nominal_ticks lines line first)
late_more problem (Some p) lines line false true place is at showing =
    shown_more p.frames.items p.order.items problem.network.nominal_ticks lines line is
    (subst (λ n. ShowsAt problem p n line) (at refl p refl) (showing.0 refl))
late_more problem (Some p) lines line false false place is at showing = λ first.
    let shown : ShowsAt problem p place line =
    subst (λ n. ShowsAt problem p n line) (sym (at refl p refl))
    (shown_last p.frames.items p.order.items problem.network.nominal_ticks lines line first) in
    absurd (true≢false (sym (showing.1 shown)))

module _ (problem : Parts) (walk : CertWalk) (line : FrameLine) where
  -- the place of the next line, as long as each so far shows its frame
  next_place : (rows : List MatrixRow) (s : Said) → Stores problem rows walk s → walk.late ≡ false
      → (p : Placing) → walk.placing ≡ Some p → walk.lines ≡ length s.lines
  next_place rows s stores early p is =
      let placing : IsPlacing problem rows p = subst (IsPlaced problem rows) is stores.knows.placed in
      let late : IsLate problem (Some p) s.lines false =
      subst (λ b. IsLate problem (Some p) s.lines b) early
      (subst (λ q. IsLate problem q s.lines walk.late) is stores.late) in
      omega (arith, late.few, placing.stages.few, stores.lines)

  pub line_stored : (shows : Bool) → IsShowing problem walk.placing walk.lines line shows
      → (lines : ℕ) → lines ≡ min (walk.lines + 1) (2 ^ 32 - 1)
      → StoresMore problem walk (record walk { late = walk.late || not shows; lines = lines }) (with_line line)
  line_stored shows showing lines more = record {
    stores = λ rows s stores. record {
      knows = stores.knows;
      kind = stores.kind;
      lines = omega (arith, more, stores.lines, length_push s.lines line);
      late =
          late_more problem walk.placing s.lines line walk.late shows walk.lines stores.late
          (next_place rows s stores) showing;
      last = stores.last;
      in_tree = stores.in_tree;
      senders = stores.senders;
      falls = stores.falls;
      finished = stores.finished;
    };
    placing = refl;
  }

-- ---- the kind, or the end

module _ (problem : Parts) (walk : CertWalk) where
  pub kind_stored : (kind : Kind) → StoresMore problem walk (record walk { kind = kind }) (with_kind kind)
  kind_stored kind = record {
    stores = λ rows s stores. record {
      knows = stores.knows;
      kind = refl;
      lines = stores.lines;
      late = stores.late;
      last = stores.last;
      in_tree = stores.in_tree;
      senders = stores.senders;
      falls = stores.falls;
      finished = stores.finished;
    };
    placing = refl;
  }

  pub finish_stored : StoresMore problem walk (record walk { finished = true }) with_end
  finish_stored = record {
    stores = λ rows s stores. record {
      knows = stores.knows;
      kind = stores.kind;
      lines = stores.lines;
      late = stores.late;
      last = stores.last;
      in_tree = stores.in_tree;
      senders = stores.senders;
      falls = stores.falls;
      finished = refl;
    };
    placing = refl;
  }
