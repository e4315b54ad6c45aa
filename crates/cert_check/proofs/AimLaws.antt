-- What the holes that a walk was told are to show.
use Rattle.std.specs.Prelude.{⊤}
use Rattle.std.proofs.Common.{◌≡◌, ◌≤◌, ◌<◌, ◌⊎◌, inl, inr, ℕ, Bool, true, false, All, List, [], ◌∷◌, ◌++◌, length, get_or, set, fold, map, Option, None, Some, refl, sym, ap, subst, ◌∙◌, append_assoc, arith}
use Rattle.std.proofs.lemmas.Grind.{get_or-set_at}
use Rattle.std.proofs.lemmas.List.{get_or-set_other, length-replicate, length-set}
use Rattle.std.proofs.lemmas.List.Elements.{All-append, All-map, All-nil}
use Rattle.std.specs.List.{flat_map}
use Rattle.pack_model.specs.Problem.{Parts}
use Rattle.matrix_rows.specs.declared.matrix.MatrixRow.{MatrixRow}
use Rattle.cert_text.specs.declared.event.Event.{Event}
use Rattle.cert_text.specs.declared.event.Event.TheVariants as event
use Rattle.cert_text.specs.declared.parts.FrameLine.{FrameLine}
use Rattle.cert_text.specs.CertEvents.{cert_events, lemma_events, main_events, tree_events, trees_events}
use Rattle.cert_text.specs.Parts.{CertOf, LemmaOf}
use Rattle.cert_text.specs.Trees.{Marked, Markeds, m_bound, m_fail, m_inner, m_left, m_more, m_none, shard}
use Rattle.cert_check.specs.declared.cert_walk.CertWalk.{CertWalk}
use Rattle.cert_check.specs.declared.walk.Aim.{Aim}
use Rattle.cert_check.specs.Entries.{in_full}
use Rattle.cert_check.specs.Holes.{holes_in, holes_of_tree, holes_of_trees}
use Rattle.cert_check.specs.Joined.{HolesAimed, IsAimed, aim_in}
use Rattle.cert_check.specs.Said.{Said, TreeSaid, and_said, lemma_aim, lemma_begun, main_aim, main_begun, nothing_said, said_by, with_end, with_node}
use Rattle.cert_check.specs.Nodes.{Node, bound_leaf, fail_leaf, inner_node, open_leaf}
use Rattle.cert_check.specs.Taken.{ComesNext, EachStandsSaid, Stores, falls, goal_said, load_in}
use Rattle.cert_check.specs.Walk.{values_in}
use Rattle.cert_check.proofs.FillLaws.{filled, filled_none}
use Rattle.cert_check.proofs.HoleLaws.{full_is, hole_in, none_begun, said_filled, tree_filled}
use Rattle.cert_check.proofs.SaidLaws.{all_events}
use Rattle.cert_check.proofs.StoreLaws.{none_falls, tree_stands}

-- ---- the order of events

-- where the events of a certificate are: before its head, at its lines, or in its trees, of which the main one
-- is the last
data Stage : Type 0 where
  at_head : Stage
  at_lines : Stage
  at_trees : Bool → Stage

-- where they are after one more, which may stand there
abbrev after : Event → Stage → Option Stage
after (event.Head kind) at_head = Some at_lines
after (event.FrameOf line) at_lines = Some at_lines
after (event.LemmaOf sender value) at_lines = Some (at_trees false)
after (event.LemmaOf sender value) (at_trees false) = Some (at_trees false)
after event.Main at_lines = Some (at_trees true)
after event.Main (at_trees false) = Some (at_trees true)
after (event.Node n) (at_trees main) = Some (at_trees main)
after event.BoundLeaf (at_trees main) = Some (at_trees main)
after event.OpenLeaf (at_trees main) = Some (at_trees main)
after (event.FailLeaf named) (at_trees main) = Some (at_trees main)
after event.ShardMark (at_trees main) = Some (at_trees main)
after event.JoinMark (at_trees main) = Some (at_trees main)
after event.Finish at_lines = Some at_lines
after event.Finish (at_trees main) = Some (at_trees main)
after e stage = None

-- events may stand one after the other
abbrev InOrder : Option Stage → List Event → Type 0
InOrder None es = ⊥
InOrder (Some stage) [] = ⊤
InOrder (Some stage) (e ∷ es) = InOrder (after e stage) es

order_front : (stage : Option Stage) (es more : List Event) → InOrder stage (es ++ more) → InOrder stage es
order_front None es more order = order
order_front (Some stage) [] more order = tt
order_front (Some stage) (e ∷ es) more order = order_front (after e stage) es more order

mutual
  unfolding tree_events trees_events

  tree_order : (main : Bool) (t : Marked) (es : List Event) → InOrder (Some (at_trees main)) es
      → InOrder (Some (at_trees main)) (tree_events t ++ es)
  tree_order main (m_inner ts) es order = trees_order main ts es order
  tree_order main m_bound es order = order
  tree_order main m_left es order = order
  tree_order main (m_fail named) es order = order
  tree_order main (shard t) es order =
      subst (InOrder (Some (at_trees main))) (sym (append_assoc (tree_events t) (event.JoinMark ∷ []) es))
      (tree_order main t (event.JoinMark ∷ es) order)

  trees_order : (main : Bool) (ts : Markeds) (es : List Event) → InOrder (Some (at_trees main)) es
      → InOrder (Some (at_trees main)) (trees_events ts ++ es)
  trees_order main m_none es order = order
  trees_order main (m_more t ts) es order =
      subst (InOrder (Some (at_trees main))) (sym (append_assoc (tree_events t) (trees_events ts) es))
      (tree_order main t (trees_events ts ++ es) (trees_order main ts es order))

-- after the lines, or after the tree of a lemma
abbrev InBoth : List Event → Type 0
InBoth es = InOrder (Some at_lines) es × InOrder (Some (at_trees false)) es

main_order : (tree : Option Marked) → InBoth (main_events tree ++ event.Finish ∷ [])
main_order None = (tt, tt)
main_order (Some t) = let order = tree_order true t (event.Finish ∷ []) tt in (order, order)

lemmas_order : (lemmas : List (LemmaOf Marked)) (es : List Event) → InBoth es
    → InBoth (flat_map lemma_events lemmas ++ es)
lemmas_order [] es both = both
lemmas_order (lemma ∷ lemmas) es both =
    let order =
    subst (InOrder (Some (at_trees false)))
    (sym (append_assoc (tree_events lemma.tree) (flat_map lemma_events lemmas) es))
    (tree_order false lemma.tree (flat_map lemma_events lemmas ++ es) (lemmas_order lemmas es both).1) in
    (order, order)

lines_order : (frames : List FrameLine) (es : List Event) → InOrder (Some at_lines) es
    → InOrder (Some at_lines) (map event.FrameOf frames ++ es)
lines_order [] es order = order
lines_order (line ∷ frames) es order = lines_order frames es order

cert_order : (c : CertOf Marked) → InOrder (Some at_head) (cert_events c)
cert_order c =
    let end = main_events c.main_tree ++ event.Finish ∷ [] in
    lines_order c.frames (flat_map lemma_events c.lemmas ++ end)
    (lemmas_order c.lemmas end (main_order c.main_tree)).0

-- ---- what trees are to show

-- a sender has a lemma so far
abbrev IsSoFar : Option ℕ → ℕ → Type 0
IsSoFar None sender = ⊥
IsSoFar (Some last) sender = sender ≤ last

-- a tree is that of a lemma, whose value is among these
record IsOfLemma (values : List ℕ) (last : Option ℕ) (tree : TreeSaid) : Type 0 where
  pub sender : ℕ
  pub aim : tree.aim ≡ lemma_aim sender (get_or values sender 0)
  pub so_far : IsSoFar last sender

-- or it has no nodes
abbrev IsOld : List ℕ → Option ℕ → TreeSaid → Type 0
IsOld values last tree = (tree.nodes ≡ []) ⊎ IsOfLemma values last tree

abbrev AreOld : List ℕ → Option ℕ → List TreeSaid → Type 0
AreOld values last [] = ⊤
AreOld values last (tree ∷ trees) = IsOld values last tree × AreOld values last trees

module _ (problem : Parts) (best : Option ℕ) where
  -- the tree that is being told
  abbrev IsAt : Stage → Said → Type 0
  IsAt at_head s = s.tree.nodes ≡ []
  IsAt at_lines s = s.tree.nodes ≡ []
  IsAt (at_trees false) s = IsOfLemma s.values s.last s.tree
  IsAt (at_trees true) s = (s.tree.aim ≡ main_aim s.kind best) × (s.tree.values ≡ s.values)

  record Aims (stage : Stage) (s : Said) : Type 0 where
    pub here : IsAt stage s
    pub older : AreOld s.values s.last s.older
    pub senders : length s.values ≡ length problem.senders

  -- the sender of each lemma may come after that of the lemma before
  abbrev EachNext : List TreeSaid → Type 0
  EachNext [] = ⊤
  EachNext (tree ∷ trees) = ComesNext problem tree.last tree.aim.range × EachNext trees

  abbrev AllNext : Said → Type 0
  AllNext s = EachNext (s.tree ∷ s.older)

  event_next : (s : Said) (e : Event) → AllNext (and_said best s e) → AllNext s
  event_next s (event.Head kind) all = all
  event_next s (event.FrameOf line) all = all
  event_next s (event.LemmaOf sender value) all = all.1
  event_next s event.Main all = all.1
  event_next s (event.Node n) all = all
  event_next s event.BoundLeaf all = all
  event_next s event.OpenLeaf all = all
  event_next s (event.FailLeaf named) all = all
  event_next s event.ShardMark all = all
  event_next s event.JoinMark all = all
  event_next s event.Finish all = all

  fewer_next : (s : Said) (es : List Event) → AllNext (fold (and_said best) s es) → AllNext s
  fewer_next s [] all = all
  fewer_next s (e ∷ es) all = event_next s e (fewer_next (and_said best s e) es all)

  -- a lemma's value stays with the next lemma
  old_later : (values : List ℕ) (last : Option ℕ) (sender value : ℕ) (tree : TreeSaid)
      → ComesNext problem last (Some sender) → IsOld values last tree
      → IsOld (set values sender value) (Some sender) tree
  old_later values last sender value tree next (inl none) = inl none
  old_later values None sender value tree next (inr old) = absurd old.so_far
  old_later values (Some last) sender value tree next (inr old) =
      let before : old.sender < sender = omega (arith, old.so_far, next.1) in inr (record {
        sender = old.sender;
        aim = old.aim ∙ ap (lemma_aim old.sender)
            (sym (get_or-set_other values sender old.sender value 0 (λ same. omega arith)));
        so_far = omega (arith, before);
      })

  each_later : (values : List ℕ) (last : Option ℕ) (sender value : ℕ) (trees : List TreeSaid)
      → ComesNext problem last (Some sender) → AreOld values last trees
      → AreOld (set values sender value) (Some sender) trees
  each_later values last sender value [] next old = tt
  each_later values last sender value (tree ∷ trees) next old = (
    old_later values last sender value tree next old.0,
    each_later values last sender value trees next old.1,
  )

  is_there : (last : Option ℕ) (sender : ℕ) → ComesNext problem last (Some sender)
      → sender < length problem.senders
  is_there None sender next = next
  is_there (Some last) sender next = next.0

  -- another tree begins
  lemma_aims : (s : Said) (sender value : ℕ) → ComesNext problem s.last (Some sender)
      → AreOld s.values s.last (s.tree ∷ s.older) → length s.values ≡ length problem.senders
      → Aims (at_trees false) (lemma_begun sender value s)
  lemma_aims s sender value next old senders = record {
    here = record {
      sender = sender;
      aim = ap (lemma_aim sender) (sym (get_or-set_at s.values sender sender value 0 refl
          (omega (arith, senders, is_there s.last sender next))));
      so_far = omega arith;
    };
    older = each_later s.values s.last sender value (s.tree ∷ s.older) next old;
    senders = length-set s.values sender value ∙ senders;
  }

  main_aims : (s : Said) → AreOld s.values s.last (s.tree ∷ s.older)
      → length s.values ≡ length problem.senders → Aims (at_trees true) (main_begun best s)
  main_aims s old senders = record { here = (refl, refl); older = old; senders = senders }

  -- further nodes
  node_aims : (main : Bool) (s : Said) (n : Node) → Aims (at_trees main) s
      → Aims (at_trees main) (with_node n s)
  node_aims true s n aims = record { here = aims.here; older = aims.older; senders = aims.senders }
  node_aims false s n aims = record {
    here = record { sender = aims.here.sender; aim = aims.here.aim; so_far = aims.here.so_far };
    older = aims.older;
    senders = aims.senders;
  }

  -- what changes no tree
  same_aims : (main : Bool) (s : Said) → Aims (at_trees main) s → Aims (at_trees main) (with_end s)
  same_aims true s aims = record { here = aims.here; older = aims.older; senders = aims.senders }
  same_aims false s aims = record { here = aims.here; older = aims.older; senders = aims.senders }

  -- events in order
  events_aims : (stage : Stage) (s : Said) (es : List Event) → InOrder (Some stage) es
      → AllNext (fold (and_said best) s es) → Aims stage s
      → (last : Stage) × Aims last (fold (and_said best) s es)
  events_aims stage s [] order next aims = (stage, aims)
  events_aims at_head s (event.Head kind ∷ es) order next aims =
      events_aims at_lines (and_said best s (event.Head kind)) es order next
      (record { here = aims.here; older = aims.older; senders = aims.senders })
  events_aims at_lines s (event.FrameOf line ∷ es) order next aims =
      events_aims at_lines (and_said best s (event.FrameOf line)) es order next
      (record { here = aims.here; older = aims.older; senders = aims.senders })
  events_aims at_lines s (event.LemmaOf sender value ∷ es) order next aims =
      events_aims (at_trees false) (lemma_begun sender value s) es order next
      (lemma_aims s sender value (fewer_next (lemma_begun sender value s) es next).0
      (inl aims.here, aims.older) aims.senders)
  events_aims (at_trees false) s (event.LemmaOf sender value ∷ es) order next aims =
      events_aims (at_trees false) (lemma_begun sender value s) es order next
      (lemma_aims s sender value (fewer_next (lemma_begun sender value s) es next).0
      (inr aims.here, aims.older) aims.senders)
  events_aims at_lines s (event.Main ∷ es) order next aims =
      events_aims (at_trees true) (main_begun best s) es order next
      (main_aims s (inl aims.here, aims.older) aims.senders)
  events_aims (at_trees false) s (event.Main ∷ es) order next aims =
      events_aims (at_trees true) (main_begun best s) es order next
      (main_aims s (inr aims.here, aims.older) aims.senders)
  events_aims (at_trees main) s (event.Node n ∷ es) order next aims =
      events_aims (at_trees main) (with_node (inner_node n) s) es order next
      (node_aims main s (inner_node n) aims)
  events_aims (at_trees main) s (event.BoundLeaf ∷ es) order next aims =
      events_aims (at_trees main) (with_node bound_leaf s) es order next (node_aims main s bound_leaf aims)
  events_aims (at_trees main) s (event.OpenLeaf ∷ es) order next aims =
      events_aims (at_trees main) (with_node open_leaf s) es order next (node_aims main s open_leaf aims)
  events_aims (at_trees main) s (event.FailLeaf named ∷ es) order next aims =
      events_aims (at_trees main) (with_node (fail_leaf named) s) es order next
      (node_aims main s (fail_leaf named) aims)
  events_aims (at_trees main) s (event.ShardMark ∷ es) order next aims =
      events_aims (at_trees main) s es order next aims
  events_aims (at_trees main) s (event.JoinMark ∷ es) order next aims =
      events_aims (at_trees main) s es order next aims
  events_aims at_lines s (event.Finish ∷ es) order next aims =
      events_aims at_lines (and_said best s event.Finish) es order next
      (record { here = aims.here; older = aims.older; senders = aims.senders })
  events_aims (at_trees main) s (event.Finish ∷ es) order next aims =
      events_aims (at_trees main) (and_said best s event.Finish) es order next (same_aims main s aims)
  events_aims stage s (e ∷ es) order next aims = absurd order

  none_aims : Aims at_head (nothing_said problem)
  none_aims = record { here = refl; older = tt; senders = length-replicate (length problem.senders) 0 }

  -- what stands follows one another, in full too
  stand_next : (trees : List TreeSaid) → EachStandsSaid problem trees → EachNext (map tree_filled trees)
  stand_next [] each = tt
  stand_next (tree ∷ trees) each = (each.0.next, stand_next trees each.1)

-- ---- what holes are to show

module _ (problem : Parts) (rows : List MatrixRow) (walk : CertWalk) (s : Said)
    (stores : Stores problem rows walk s) (stays : falls walk ≡ false) where
  -- the load of the matrix
  abbrev load : Option ℕ
  load = load_in walk.placing

  kept : walk.walk.values.items ≡ s.values
  kept = (stores.in_tree (none_falls walk stays).0).kept

  -- a tree is to show what the walk stores
  abbrev IsTreeAimed : TreeSaid → Type 0
  IsTreeAimed tree =
      (tree.aim ≡ aim_in walk tree.aim.range)
      × (values_in tree.aim.range tree.values ≡ values_in tree.aim.range walk.walk.values.items)

  lemma_aimed : (tree : TreeSaid) → IsOfLemma s.values s.last (tree_filled tree) → IsTreeAimed tree
  lemma_aimed tree old =
      let range : tree.aim.range ≡ Some old.sender = ap (λ (aim : Aim). aim.range) old.aim in (
        old.aim ∙ ap (λ vs. lemma_aim old.sender (get_or vs old.sender 0)) (sym kept)
            ∙ ap (aim_in walk) (sym range),
        ap (λ r. values_in r tree.values) range
            ∙ ap (λ r. values_in r walk.walk.values.items) (sym range),
      )

  main_aimed : (tree : TreeSaid) → tree.aim ≡ main_aim s.kind load → tree.values ≡ s.values → IsTreeAimed tree
  main_aimed tree aim values = (
    aim ∙ ap (λ kind. main_aim kind load) (sym stores.kind)
        ∙ ap (aim_in walk) (sym (ap (λ (a : Aim). a.range) aim)),
    ap (values_in tree.aim.range) (values ∙ sym kept),
  )

  tree_aimed : (tree : TreeSaid) → IsTreeAimed tree → All (IsAimed walk) (holes_of_tree problem tree)
  tree_aimed tree aimed =
      All-map (IsAimed walk) (hole_in problem tree)
      (holes_in (goal_said problem tree) ([] ∷ []) tree.nodes) (λ k d inside. aimed)

  none_aimed : (tree : TreeSaid) (trees : List TreeSaid) → filled tree.nodes ≡ []
      → All (IsAimed walk) (holes_of_trees problem trees)
      → All (IsAimed walk) (holes_of_trees problem (tree ∷ trees))
  none_aimed tree trees none rest =
      subst (All (IsAimed walk)) (sym (none_begun problem tree trees (filled_none tree.nodes none))) rest

  more_aimed : (tree : TreeSaid) (trees : List TreeSaid) → IsTreeAimed tree
      → All (IsAimed walk) (holes_of_trees problem trees)
      → All (IsAimed walk) (holes_of_trees problem (tree ∷ trees))
  more_aimed tree trees aimed rest =
      All-append (IsAimed walk) (holes_of_trees problem trees) (holes_of_tree problem tree) rest
      (tree_aimed tree aimed)

  old_aimed : (trees : List TreeSaid) → AreOld s.values s.last (map tree_filled trees)
      → All (IsAimed walk) (holes_of_trees problem trees)
  old_aimed [] old = All-nil (IsAimed walk)
  old_aimed (tree ∷ trees) old = by old.0 (old_aimed trees old.1)
    where
      by : IsOld s.values s.last (tree_filled tree) → All (IsAimed walk) (holes_of_trees problem trees)
          → All (IsAimed walk) (holes_of_trees problem (tree ∷ trees))
      by (inl none) rest = none_aimed tree trees none rest
      by (inr lemma) rest = more_aimed tree trees (lemma_aimed tree lemma) rest

  all_aimed : (stage : Stage) → Aims problem load stage (said_filled s)
      → All (IsAimed walk) (holes_of_trees problem (s.tree ∷ s.older))
  all_aimed at_head aims = none_aimed s.tree s.older aims.here (old_aimed s.older aims.older)
  all_aimed at_lines aims = none_aimed s.tree s.older aims.here (old_aimed s.older aims.older)
  all_aimed (at_trees false) aims =
      more_aimed s.tree s.older (lemma_aimed s.tree aims.here) (old_aimed s.older aims.older)
  all_aimed (at_trees true) aims =
      more_aimed s.tree s.older (main_aimed s.tree aims.here.0 aims.here.1) (old_aimed s.older aims.older)

pub holes_aimed : HolesAimed
holes_aimed problem rows walk entries taken begins stays =
    let best = load_in walk.placing in
    let s : Said = said_by problem best entries in
    let stay = none_falls walk stays in
    let all = tree_stands problem walk.walk s (taken.in_tree stay.0) stay.1 in
    let said : fold (and_said best) (nothing_said problem) (in_full entries) ≡ said_filled s =
    sym (all_events best (nothing_said problem) (in_full entries)) ∙ full_is problem best entries in
    let order : InOrder (Some at_head) (in_full entries) =
    order_front (Some at_head) (in_full entries) begins.rest
    (subst (InOrder (Some at_head)) begins.begins (cert_order begins.marked)) in
    let aims =
    events_aims problem best at_head (nothing_said problem) (in_full entries) order
    (subst (AllNext problem best) (sym said) (stand_next problem best (s.tree ∷ s.older) all))
    (none_aims problem best) in
    all_aimed problem rows walk s taken stays aims.0 (subst (Aims problem best aims.0) said aims.1)
