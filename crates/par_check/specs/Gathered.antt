-- The events of a tree without marks, and of a part of one.
use Rattle.std.specs.Prelude.{◌≡◌, ⊤, ◌+◌, List, ◌∷◌, ◌++◌, length, Result, IfOk}
use Rattle.std.specs.List.{flat_map}
use Rattle.pack_model.specs.declared.memory.Memory.{Memory}
use Rattle.cert_text.specs.declared.event.Event.{Event}
use Rattle.cert_text.specs.declared.event.Event.TheVariants as event
use Rattle.cert_text.specs.declared.parts.Tree.{Tree}
use Rattle.cert_text.specs.CertEvents.{tree_events}
use Rattle.cert_text.specs.PlainTree.{plain_of}
use Rattle.cert_text.specs.Trees.{Marked, Markeds, Plain, Plains, bound, fail, inner, left, m_bound, m_fail, m_inner, m_left, m_more, m_none, more, none}
use Rattle.par_check.specs.declared.gathering.Gathered.{Gathered}
use Rattle.par_check.specs.declared.gathering.Gathered.TheVariants.{Part, Whole}
use Rattle.par_check.specs.declared.gathering.OpenNode.{OpenNode}

-- the tree in which no subtree is marked
abbrev mutual
  pub bare : Plain → Marked
  bare (inner ts) = m_inner (bare_all ts)
  bare bound = m_bound
  bare left = m_left
  bare (fail named) = m_fail named

  pub bare_all : Plains → Markeds
  bare_all none = m_none
  bare_all (more t ts) = m_more (bare t) (bare_all ts)

abbrev pub bare_of : Tree → Marked
bare_of tree = bare (plain_of tree)

-- the events of an inner node that lacks subtrees
abbrev pub node_events : OpenNode → List Event
node_events node =
    event.Node (length node.subtrees.items + (node.lacking + 1))
    ∷ flat_map (λ t. tree_events (bare_of t)) node.subtrees.items

-- those of such nodes, of which each is the next subtree of the one before
abbrev pub open_events : List OpenNode → List Event
open_events nodes = flat_map node_events nodes

-- those of a tree, or of a part of one
abbrev pub gathered_events : Gathered → List Event
gathered_events (Part part) = open_events part.nodes.items
gathered_events (Whole tree) = tree_events (bare_of tree)

-- want of memory aside, further events were taken after those of open nodes
abbrev pub Gathers : List OpenNode → Result Gathered Memory → List Event → Type 0
Gathers nodes result events = IfOk result (λ all. gathered_events all ≡ open_events nodes ++ events)

-- the event is one of a tree
abbrev pub IsOfTree : Event → Type 0
IsOfTree (event.Head kind) = ⊥
IsOfTree (event.FrameOf line) = ⊥
IsOfTree (event.LemmaOf sender value) = ⊥
IsOfTree event.Main = ⊥
IsOfTree (event.Node n) = ⊤
IsOfTree event.BoundLeaf = ⊤
IsOfTree event.OpenLeaf = ⊤
IsOfTree (event.FailLeaf named) = ⊤
IsOfTree event.ShardMark = ⊥
IsOfTree event.JoinMark = ⊥
IsOfTree event.Finish = ⊥
