-- What a walk with shards has taken, step by step.
use Rattle.std.specs.Prelude.{◌||◌, IfSome, OnOk}
use Rattle.std.proofs.Common.{◌≡◌, ◌<◌, ℕ, Bool, true, false, List, [], ◌∷◌, ◌++◌, length, map, All, Option, None, Some, Ok, Err, Result, refl, sym, ap, subst, ◌∙◌, append_assoc, append-nil, true≢false, Vec, Global}
use Rattle.std.specs.List.{flat_map}
use Rattle.std.proofs.lemmas.List.Elements.{All-nil}
use Rattle.pack_model.specs.Problem.{Parts}
use Rattle.grouping_tree.specs.Grouped.{items_in}
use Rattle.grouping_tree.specs.Partial.{IsPartial}
use Rattle.matrix_rows.specs.declared.matrix.MatrixRow.{MatrixRow}
use Rattle.cert_text.specs.declared.event.Event.{Event}
use Rattle.cert_text.specs.declared.event.Event.TheVariants as event
use Rattle.cert_text.specs.declared.parts.Tree.{Tree}
use Rattle.cert_text.specs.CertEvents.{cert_events, tree_events}
use Rattle.cert_text.specs.Given.{BeginsEvents}
use Rattle.cert_text.specs.Parts.{CertOf, unmark_cert}
use Rattle.cert_text.specs.PlainTree.{plain_of}
use Rattle.cert_text.specs.Trees.{Marked, Plain, Plains, bound, fail, inner, left, more, none, unmark, unmark_all}
use Rattle.bandwidth_bound.specs.declared.verdict.Verdict.{Verdict}
use Rattle.cert_check.specs.declared.cert_walk.CertWalk.{CertWalk}
use Rattle.cert_check.specs.declared.fault.CheckFault.{CheckFault}
use Rattle.cert_check.specs.declared.fault.CheckFault.TheVariants as fault
use Rattle.cert_check.specs.Entries.{Entry, as_event, as_hole, in_full}
use Rattle.cert_check.specs.Nodes.{lowered}
use Rattle.cert_check.specs.Holes.{Hole, HoleStands, HolesStand, bounds_in_hole, hole_here, holes_in, holes_of}
use Rattle.cert_check.specs.Joined.{IsAimed, IsFoundHolding, IsFoundInFull, denied}
use Rattle.cert_check.specs.Said.{said_by}
use Rattle.cert_check.specs.Taken.{AllStandSaid, HasOwnParts, Taken, falls, load_in}
use Rattle.cert_check.specs.Told.{IsFoundOf}
use Rattle.cert_check.proofs.AimLaws.{holes_aimed}
use Rattle.cert_check.proofs.HoleSteps.{event_taken, failed_stays, hole_taken, holes_stay}
use Rattle.cert_check.proofs.JoinedLaws.{found_in_full}
use Rattle.cert_check.proofs.StoreLaws.{none_falls, tree_stands}
use Rattle.cert_check.proofs.SubtreeLaws.{load_same}
use Rattle.par_check.specs.declared.gathering.Gathering.{Gathering}
use Rattle.par_check.specs.declared.shard.Goal.{Goal}
use Rattle.par_check.specs.declared.shard.Shard.{Shard}
use Rattle.par_check.specs.declared.shard_walk.ShardWalk.{ShardWalk}
use Rattle.par_check.specs.Gathered.{IsOfTree, bare, bare_all, bare_of, open_events}
use Rattle.par_check.specs.Shards.{AreFound, IsShard, ShardStands, lesser}
use Rattle.par_check.specs.ShardWalks.{BeginsShard, IsBegun, KnowsHoles, ShardsTaken, TakesOn, goal_by, of_hole, of_shard, part_events, with_part}
use Rattle.par_check.proofs.BatchLaws.{batch_falls, batch_stands, shard_more}
use Rattle.par_check.proofs.Marks.{goes_on, open_goes_on}

-- a shard at a place where a walk was
pub shard_legal : (problem : Parts) (shard : Shard) (range : Option ℕ) (p : List ℕ) → shard.lemma ≡ range
    → shard.path ≡ p → IfSome shard.lemma (λ sender. sender < length problem.senders)
    → IsPartial (items_in problem.items range) p → IsShard problem shard
shard_legal problem shard range p lemma_is path_is sender legal = record {
  sender = sender;
  path =
      subst (IsPartial (items_in problem.items shard.lemma)) (sym path_is)
      (subst (λ r. IsPartial (items_in problem.items r) p) (sym lemma_is) legal);
}

-- ---- entries

in_full_append : (xs ys : List Entry) → in_full (xs ++ ys) ≡ in_full xs ++ in_full ys
in_full_append [] ys = refl
in_full_append (as_event e ∷ xs) ys = ap (λ es. e ∷ es) (in_full_append xs ys)
in_full_append (as_hole t ∷ xs) ys =
    ap (λ es. tree_events t ++ es) (in_full_append xs ys) ∙ sym (append_assoc (tree_events t) (in_full xs) (in_full ys))

abbrev mutual
  unmark_bare : (t : Plain) → unmark (bare t) ≡ t
  unmark_bare (inner ts) = ap inner (unmark_bare_all ts)
  unmark_bare bound = refl
  unmark_bare left = refl
  unmark_bare (fail named) = refl

  unmark_bare_all : (ts : Plains) → unmark_all (bare_all ts) ≡ ts
  unmark_bare_all none = refl
  unmark_bare_all (more t ts) = λ i. more (unmark_bare t i) (unmark_bare_all ts i)

module _ (problem : Parts) (rows : List MatrixRow) where
  -- a walk that hasn't failed hadn't before
  still_stands : (before after : CertWalk) (entries further : List Entry) → Taken before problem rows entries
      → Taken after problem rows (entries ++ further) → falls after ≡ false → falls before ≡ false
  still_stands before after entries further first now well = by (falls before) refl
    where
      all : AllStandSaid problem (said_by problem (load_in before.placing) (entries ++ further))
      all =
          subst (λ best. AllStandSaid problem (said_by problem best (entries ++ further)))
          (load_same problem rows after.placing before.placing now.knows.placed first.knows.placed)
          (tree_stands problem after.walk (said_by problem (load_in after.placing) (entries ++ further))
          (now.in_tree (none_falls after well).0) (none_falls after well).1)

      by : (b : Bool) → falls before ≡ b → falls before ≡ false
      by true e = absurd (failed_stays problem rows before entries further first e all)
      by false e = e

  -- ---- no event

  pub none_taken : (walk : ShardWalk) → Taken walk.walk problem rows [] → walk.gathering ≡ None
      → walk.batch.items ≡ [] → walk.lower ≡ None → walk.denied ≡ false → ShardsTaken problem rows walk []
  unfolding holes_in
  none_taken walk taken nothing empty least calm = record {
    entries = [];
    taken = taken;
    said = sym (ap part_events nothing);
    begun = subst (IsBegun walk.walk []) (sym nothing) tt;
    holes = λ still well. record {
      judged = [];
      waiting = [];
      both = refl;
      stand = All-nil (HoleStands problem);
      least = least;
      shards = ap (map of_shard) (sym empty);
      legal = subst (All (IsShard problem)) (sym empty) (All-nil (IsShard problem));
    };
    denies = λ d. absurd (true≢false (sym d ∙ calm));
  }

  module _ (walk : ShardWalk) (events : List Event) (s : ShardsTaken problem rows walk events)
      (nothing : walk.gathering ≡ None) where
    -- the events are those of the entries
    in_entries : events ≡ in_full s.entries
    in_entries =
        s.said ∙ ap (λ part. in_full s.entries ++ part_events part) nothing ∙ append-nil (in_full s.entries)

    -- after more entries as well
    none_open : (entries : List Entry) → in_full entries ≡ in_full entries ++ part_events walk.gathering
    none_open entries =
        sym (append-nil (in_full entries)) ∙ ap (λ part. in_full entries ++ part_events part) (sym nothing)

    -- ---- an event that isn't one of a shard

    module _ (after : CertWalk) (e : Event) (now : Taken after problem rows (s.entries ++ as_event e ∷ [])) where
      abbrev entries_now : List Entry
      entries_now = s.entries ++ as_event e ∷ []

      said_now : events ++ e ∷ [] ≡ in_full entries_now
      said_now = ap (λ es. es ++ e ∷ []) in_entries ∙ sym (in_full_append s.entries (as_event e ∷ []))

      holes_now : walk.denied ≡ false → falls after ≡ false
          → KnowsHoles problem walk.lower walk.batch.items (holes_of problem after entries_now)
      holes_now calm well =
          subst (KnowsHoles problem walk.lower walk.batch.items)
          (sym (event_taken problem rows walk.walk after s.entries e s.taken now))
          (s.holes calm (still_stands walk.walk after s.entries (as_event e ∷ []) s.taken now well))

      denies_now : walk.denied ≡ true → ¬ HolesStand problem after entries_now
      denies_now d stand =
          s.denies d (holes_stay problem rows walk.walk after s.entries (as_event e ∷ []) s.taken now stand)

      -- with what is gathered of a marked tree that begins here, if it does
      with_begun : (part : Option Gathering) (number : ℕ) → part_events part ≡ [] → IsBegun after entries_now part
          → ShardsTaken problem rows (record walk { walk = after; gathering = part; number = number })
          (events ++ e ∷ [])
      with_begun part number empty begun = record {
        entries = entries_now;
        taken = now;
        said = said_now ∙ sym (append-nil (in_full entries_now))
            ∙ ap (λ es. in_full entries_now ++ es) (sym empty);
        begun = begun;
        holes = holes_now;
        denies = denies_now;
      }

      pub event_more : ShardsTaken problem rows (record walk { walk = after }) (events ++ e ∷ [])
      event_more =
          with_begun walk.gathering walk.number (ap part_events nothing)
          (subst (IsBegun after entries_now) (sym nothing) tt)

      -- a mark, after which a tree is gathered, or walked as it comes
      pub mark_more : (later : ShardWalk) → e ≡ event.ShardMark → BeginsShard (record walk { walk = after }) later
          → ShardsTaken problem rows later (events ++ e ∷ [])
      mark_more later is begins =
          subst (λ w. ShardsTaken problem rows w (events ++ e ∷ [])) (sym begins.rest)
          (with_begun later.gathering later.number begins.empty (by later.gathering begins.stands))
        where
          by : (part : Option Gathering) → IfSome part (λ p. falls after ≡ false) → IsBegun after entries_now part
          by None well = tt
          by (Some part) well = ((s.entries, ap (λ x. s.entries ++ as_event x ∷ []) is), well)

    -- ---- a shard

    module _ (well : falls walk.walk ≡ false) (tree : Tree) (after : CertWalk)
        (now : Taken after problem rows (s.entries ++ as_hole (bare_of tree) ∷ [])) (shard : Shard)
        (legal : IsShard problem shard) (lemma_is : shard.lemma ≡ walk.walk.walk.aim.range)
        (path_is : shard.path ≡ (hole_here problem walk.walk (plain_of tree)).place) (tree_is : shard.tree ≡ tree) where
      abbrev with_hole : List Entry
      with_hole = s.entries ++ as_hole (bare_of tree) ∷ []

      same : of_hole (hole_here problem walk.walk (unmark (bare_of tree))) ≡ of_shard shard
      same = λ i. (
        sym lemma_is i,
        sym path_is i,
        (unmark_bare (plain_of tree) ∙ ap plain_of (sym tree_is)) i,
      )

      pub keep_more : (batch : Vec Shard Global) (number : ℕ) → batch.items ≡ walk.batch.items ++ shard ∷ []
          → ShardsTaken problem rows (record walk { walk = after; batch = batch; number = number })
          (events ++ tree_events (bare_of tree))
      keep_more batch number one = record {
        entries = with_hole;
        taken = now;
        said = ap (λ es. es ++ tree_events (bare_of tree)) in_entries
            ∙ ap (λ es. in_full s.entries ++ es) (sym (append-nil (tree_events (bare_of tree))))
            ∙ sym (in_full_append s.entries (as_hole (bare_of tree) ∷ [])) ∙ none_open with_hole;
        begun = subst (IsBegun after with_hole) (sym nothing) tt;
        holes = λ calm fine.
            subst (λ shards. KnowsHoles problem walk.lower shards (holes_of problem after with_hole)) (sym one)
            (subst (KnowsHoles problem walk.lower (walk.batch.items ++ shard ∷ []))
            (sym (hole_taken problem rows walk.walk after s.entries (bare_of tree) s.taken now fine))
            (shard_more problem walk.walk walk.lower walk.batch.items (holes_of problem walk.walk s.entries) shard
            (hole_here problem walk.walk (unmark (bare_of tree))) (s.holes calm well) same legal));
        denies = λ d stand.
            s.denies d (holes_stay problem rows walk.walk after s.entries (as_hole (bare_of tree) ∷ []) s.taken now
            stand);
      }

  -- ---- a part of a marked tree

  module _ (walk : ShardWalk) (part : Gathering) (events : List Event)
      (s : ShardsTaken problem rows (with_part walk part) events) where
    abbrev front : List Entry
    front = s.begun.0.0

    abbrev opened : List Event
    opened = open_events part.nodes.items

    marked_now : events ≡ in_full front ++ event.ShardMark ∷ opened
    marked_now =
        s.said ∙ ap (λ es. in_full es ++ opened) s.begun.0.1
        ∙ ap (λ es. es ++ opened) (in_full_append front (as_event event.ShardMark ∷ []))
        ∙ append_assoc (in_full front) (event.ShardMark ∷ []) opened

    -- the next event is one of a tree
    pub next_of_tree : (e : Event) → BeginsEvents (events ++ e ∷ []) → IsOfTree e
    next_of_tree e begins =
        let on = goes_on begins.marked (in_full front) (e ∷ begins.rest) part.nodes.items begins.in_range.stands
        (begins.begins ∙ append_assoc events (e ∷ []) begins.rest
        ∙ ap (λ es. es ++ e ∷ begins.rest) marked_now
        ∙ append_assoc (in_full front) (event.ShardMark ∷ opened) (e ∷ begins.rest)) in
        let is : e ∷ begins.rest ≡ on.next ∷ on.more = on.is in
        let same : on.next ≡ e = cc in
        subst IsOfTree same on.of_tree

    -- one event more, after which it isn't whole
    pub goes_further : (further : Gathering) (e : Event) → open_events further.nodes.items ≡ opened ++ e ∷ []
        → ShardsTaken problem rows (with_part walk further) (events ++ e ∷ [])
    goes_further further e more_events = record {
      entries = s.entries;
      taken = s.taken;
      said = ap (λ es. es ++ e ∷ []) s.said ∙ append_assoc (in_full s.entries) opened (e ∷ [])
          ∙ ap (λ es. in_full s.entries ++ es) (sym more_events);
      begun = s.begun;
      holes = s.holes;
      denies = s.denies;
    }

    module _ (nothing : walk.gathering ≡ None) (tree : Tree) (e : Event)
        (whole : tree_events (bare_of tree) ≡ opened ++ e ∷ []) where
      -- with its last event it is a tree after the events before the mark
      to_tree : events ++ e ∷ [] ≡ in_full s.entries ++ tree_events (bare_of tree)
      to_tree =
          ap (λ es. es ++ e ∷ []) s.said ∙ append_assoc (in_full s.entries) opened (e ∷ [])
          ∙ ap (λ es. in_full s.entries ++ es) (sym whole)

      pub without_part : ShardsTaken problem rows walk (in_full s.entries)
      without_part = record {
        entries = s.entries;
        taken = s.taken;
        said = sym (append-nil (in_full s.entries))
            ∙ ap (λ p. in_full s.entries ++ part_events p) (sym nothing);
        begun = subst (IsBegun walk.walk s.entries) (sym nothing) tt;
        holes = s.holes;
        denies = s.denies;
      }

      pub tree_begins : BeginsEvents (events ++ e ∷ [])
          → BeginsEvents (in_full s.entries ++ tree_events (bare_of tree))
      tree_begins begins = subst BeginsEvents to_tree begins

      pub whole_more : (later : ShardWalk) → BeginsEvents (events ++ e ∷ [])
          → TakesOn problem walk later (tree_events (bare_of tree))
          → ShardsTaken problem rows later (events ++ e ∷ [])
      whole_more later begins takes =
          subst (ShardsTaken problem rows later) (sym to_tree)
          (takes rows (in_full s.entries) without_part (tree_begins begins))

  -- ---- a batch that is judged

  module _ (walk : ShardWalk) (events : List Event) (s : ShardsTaken problem rows walk events)
      (batch : Vec Shard Global) (empty : batch.items ≡ []) where
    -- where something is known not to stand
    pub batch_left : (walk.denied || falls walk.walk) ≡ true
        → ShardsTaken problem rows (record walk { batch = batch }) events
    batch_left failed = record {
      entries = s.entries;
      taken = s.taken;
      said = s.said;
      begun = s.begun;
      holes = λ calm well. absurd (by walk.denied failed calm well);
      denies = s.denies;
    }
      where
        by : (b : Bool) → (b || falls walk.walk) ≡ true → b ≡ false → falls walk.walk ≡ false → ⊥
        by true fell calm well = true≢false calm
        by false fell calm well = true≢false (sym fell ∙ well)

    module _ (begins : BeginsEvents events) (calm : walk.denied ≡ false) (well : falls walk.walk ≡ false) where
      abbrev here : List Hole
      here = holes_of problem walk.walk s.entries

      begins_entries : BeginsEvents (in_full s.entries)
      begins_entries = record {
        marked = begins.marked;
        rest = part_events walk.gathering ++ begins.rest;
        in_range = begins.in_range;
        begins = begins.begins ∙ ap (λ es. es ++ begins.rest) s.said
            ∙ append_assoc (in_full s.entries) (part_events walk.gathering) begins.rest;
      }

      aimed : All (IsAimed walk.walk) here
      aimed = holes_aimed problem rows walk.walk s.entries s.taken begins_entries well

      -- the shards stand
      pub batch_shown : (found lower : Option ℕ)
          → AreFound problem (goal_by walk.walk) walk.batch.items (Ok found) → lower ≡ lesser walk.lower found
          → ShardsTaken problem rows (record walk { batch = batch; lower = lower }) events
      batch_shown found lower stand is = record {
        entries = s.entries;
        taken = s.taken;
        said = s.said;
        begun = s.begun;
        holes = λ still fine.
            subst (λ shards. KnowsHoles problem lower shards here) (sym empty)
            (subst (λ o. KnowsHoles problem o [] here) (sym is)
            (batch_stands problem walk.walk walk.lower walk.batch.items here (s.holes calm well) aimed found stand));
        denies = λ d. absurd (true≢false (sym d ∙ calm));
      }

      -- some don't
      pub batch_denied : ¬ All (ShardStands problem (goal_by walk.walk)) walk.batch.items
          → ShardsTaken problem rows (record walk { batch = batch; denied = true }) events
      batch_denied falling = record {
        entries = s.entries;
        taken = s.taken;
        said = s.said;
        begun = s.begun;
        holes = λ still fine. absurd (true≢false still);
        denies = λ d. batch_falls problem walk.walk walk.lower walk.batch.items here (s.holes calm well) aimed falling;
      }

  -- ---- the verdict

  module _ (walk : ShardWalk) (marked : CertOf Marked) (s : ShardsTaken problem rows walk (cert_events marked))
      (empty : walk.batch.items ≡ []) (answer : Result Verdict CheckFault)
      (told : IsFoundOf problem rows walk.walk s.entries walk.lower answer)
      (parts : HasOwnParts (unmark_cert marked)) where
    -- no marked tree is being read
    whole : in_full s.entries ≡ cert_events marked
    whole = by walk.gathering refl
      where
        by : (part : Option Gathering) → walk.gathering ≡ part → in_full s.entries ≡ cert_events marked
        by None is = sym (in_entries walk (cert_events marked) s is)
        by (Some part) is =
            let begun : IsBegun walk.walk s.entries (Some part) = subst (IsBegun walk.walk s.entries) is s.begun in
            let opened : List Event = open_events part.nodes.items in
            absurd (open_goes_on marked (in_full begun.0.0) part.nodes.items
            (s.said ∙ ap (λ p. in_full s.entries ++ part_events p) is
            ∙ ap (λ es. in_full es ++ opened) begun.0.1
            ∙ ap (λ es. es ++ opened) (in_full_append begun.0.0 (as_event event.ShardMark ∷ []))
            ∙ append_assoc (in_full begun.0.0) (event.ShardMark ∷ []) opened))

    full : IsFoundInFull problem rows walk.walk s.entries (unmark_cert marked) walk.lower answer
    full = found_in_full problem rows walk.walk s.entries marked walk.lower answer parts s.taken whole told

    -- all holes are judged
    no_more : (waiting : List Hole) → map of_hole waiting ≡ map of_shard walk.batch.items → waiting ≡ []
    no_more [] is = refl
    no_more (hole ∷ waiting) is =
        absurd (let e : map of_hole (hole ∷ waiting) ≡ [] = is ∙ ap (map of_shard) empty in cc)

    pub shown : walk.denied ≡ false → IsFoundHolding problem rows (unmark_cert marked) answer
    shown calm = by (falls walk.walk) refl
      where
        by : (b : Bool) → falls walk.walk ≡ b → IsFoundHolding problem rows (unmark_cert marked) answer
        by true fell = full.failed fell
        by false well =
            let knows = s.holes calm well in
            let all : holes_of problem walk.walk s.entries ≡ knows.judged =
            knows.both ∙ ap (λ hs. knows.judged ++ hs) (no_more knows.waiting knows.shards)
            ∙ append-nil knows.judged in
            full.all_stand (subst (All (HoleStands problem)) (sym all) knows.stand)
            (subst (λ hs. walk.lower ≡ lowered None (flat_map (bounds_in_hole problem) hs)) (sym all) knows.least)

    pub denied_so : walk.denied ≡ true → IsFoundHolding problem rows (unmark_cert marked) (denied answer)
    denied_so d = full.some_falls (s.denies d)

    -- where the walk refuses
    pub refused : (why : CheckFault) → answer ≡ Err why → IsFoundHolding problem rows (unmark_cert marked) (Err why)
    refused why is = by walk.denied refl
      where
        by : (b : Bool) → walk.denied ≡ b → IsFoundHolding problem rows (unmark_cert marked) (Err why)
        by true d = subst (IsFoundHolding problem rows (unmark_cert marked)) (ap denied is) (denied_so d)
        by false calm = subst (IsFoundHolding problem rows (unmark_cert marked)) is (shown calm)

-- ---- the calls

-- what follows where a call answers Ok
pub where_ok : {T E A B : Type 0} (result : Result T E) → (A → B) → OnOk result A → OnOk result B
where_ok (Ok x) then is = then is
where_ok (Err e) then is = tt

-- neither of two is true
pub neither : (a b : Bool) → (a || b) ≡ false → (a ≡ false) × (b ≡ false)
neither true b e = absurd (true≢false e)
neither false b e = (refl, e)

-- what is found of shards is found of the same shards
pub found_same : (problem : Parts) (goal other : Goal) (shards again : List Shard)
    (answer : Result (Option ℕ) CheckFault) → goal ≡ other → shards ≡ again → AreFound problem goal shards answer
    → AreFound problem other again answer
found_same problem goal other shards again answer goal_is shards_are found =
    subst (λ ss. AreFound problem other ss answer) shards_are
    (subst (λ g. AreFound problem g shards answer) goal_is found)

-- some shard doesn't stand
pub some_fall : (problem : Parts) (goal : Goal) (shards : List Shard) (why : CheckFault) → why ≡ fault.RejectedTree
    → AreFound problem goal shards (Err why) → ¬ All (ShardStands problem goal) shards
some_fall problem goal shards why is found = subst (λ w. AreFound problem goal shards (Err w)) is found

-- the shards that were moved
pub items_same : (shards other : Vec Shard Global) → shards ≡ other → shards.items ≡ other.items
items_same shards other is = ap (λ (v : Vec Shard Global). v.items) is

pub items_none : (shards other : Vec Shard Global) → shards ≡ other → other.items ≡ [] → shards.items ≡ []
items_none shards other is empty = items_same shards other is ∙ empty
