-- What the events of a certificate say, and holes among them, one after the other: its trees as the nodes that
-- were told of them.
use Rattle.std.specs.Prelude.{ℕ, Bool, true, false, List, [], ◌∷◌, ◌++◌, length, Option, None, Some, fold, replicate, slice_set}
use Rattle.pack_model.specs.Problem.{Parts}
use Rattle.cert_text.specs.declared.event.Event.{Event}
use Rattle.cert_text.specs.declared.event.Event.TheVariants as event
use Rattle.cert_text.specs.declared.parts.FrameLine.{FrameLine}
use Rattle.cert_text.specs.declared.parts.Kind.{Kind}
use Rattle.cert_text.specs.declared.parts.Kind.TheVariants.{KindPlaced, KindTimed, KindBetween, KindBest, KindNoSolution}
use Rattle.cert_text.specs.Parts.{CertParts, LemmaOf}
use Rattle.cert_text.specs.Trees.{Plain, unmark}
use Rattle.bandwidth_bound.specs.Goals.{eighths}
use Rattle.cert_check.specs.Entries.{Entry, as_event, as_hole}
use Rattle.cert_check.specs.Nodes.{Node, bound_leaf, fail_leaf, hole, inner_node, nodes_of, open_leaf}
use Rattle.cert_check.specs.declared.walk.Aim.{Aim}

-- A tree as far as it was told: what it is to show, the sender of the last lemma before it, if there is one,
-- the values of the lemmas before it by sender, and its nodes in preorder.
pub record TreeSaid : Type 0 where
  pub aim : Aim
  pub last : Option ℕ
  pub values : List ℕ
  pub nodes : List Node

-- What was said: the kind, the frame lines, the sender of the last lemma, the values of the lemmas by sender, 0
-- where there is none, the tree that is being told, those before it, the last first, and whether the end was.
pub record Said : Type 0 where
  pub kind : Kind
  pub lines : List FrameLine
  pub last : Option ℕ
  pub values : List ℕ
  pub tree : TreeSaid
  pub older : List TreeSaid
  pub finished : Bool

-- a tree that is to show nothing
abbrev pub no_aim : Aim
no_aim = record { range = None; value = None; may_leave = false }

-- what the tree of a lemma is to show
abbrev pub lemma_aim : ℕ → ℕ → Aim
lemma_aim sender value = record { range = Some sender; value = Some value; may_leave = false }

-- leaves of the main tree may be left open: of the kind `open` alone
abbrev pub may_leave_of : Kind → Bool
may_leave_of KindPlaced = false
may_leave_of KindTimed = false
may_leave_of KindBetween = true
may_leave_of KindBest = false
may_leave_of KindNoSolution = false

-- what the main tree is to show, where the load of the matrix is this
abbrev pub main_aim : Kind → Option ℕ → Aim
main_aim kind best = record { range = None; value = eighths best; may_leave = may_leave_of kind }

-- nothing was said; before the first tree stands one without nodes, which is to show nothing
abbrev pub nothing_said : Parts → Said
nothing_said problem = record {
  kind = KindPlaced;
  lines = [];
  last = None;
  values = replicate (length problem.senders) 0;
  tree = record { aim = no_aim; last = None; values = replicate (length problem.senders) 0; nodes = [] };
  older = [];
  finished = false;
}

-- a tree begins
abbrev pub tree_begun : Aim → Said → Said
tree_begun aim s = record s {
  tree = record { aim = aim; last = s.last; values = s.values; nodes = [] };
  older = s.tree ∷ s.older;
}

-- the tree of a lemma begins
abbrev pub lemma_begun : ℕ → ℕ → Said → Said
lemma_begun sender value s =
    record (tree_begun (lemma_aim sender value) s) {
      last = Some sender;
      values = slice_set s.values sender value;
    }

-- the main tree begins
abbrev pub main_begun : Option ℕ → Said → Said
main_begun best s = tree_begun (main_aim s.kind best) s

-- further nodes of the tree
abbrev pub with_nodes : List Node → Said → Said
with_nodes nodes s = record s { tree = record s.tree { nodes = s.tree.nodes ++ nodes } }

abbrev pub with_node : Node → Said → Said
with_node node s = with_nodes (node ∷ []) s

-- the kind
abbrev pub with_kind : Kind → Said → Said
with_kind kind s = record s { kind = kind }

-- further frame lines
abbrev pub with_lines : List FrameLine → Said → Said
with_lines lines s = record s { lines = s.lines ++ lines }

abbrev pub with_line : FrameLine → Said → Said
with_line line s = with_lines (line ∷ []) s

-- the end
abbrev pub with_end : Said → Said
with_end s = record s { finished = true }

-- one event more, where the load of the matrix is this; marks say nothing
abbrev pub and_said : Option ℕ → Said → Event → Said
and_said best s (event.Head kind) = with_kind kind s
and_said best s (event.FrameOf line) = with_line line s
and_said best s (event.LemmaOf sender value) = lemma_begun sender value s
and_said best s event.Main = main_begun best s
and_said best s (event.Node n) = with_node (inner_node n) s
and_said best s event.BoundLeaf = with_node bound_leaf s
and_said best s event.OpenLeaf = with_node open_leaf s
and_said best s (event.FailLeaf named) = with_node (fail_leaf named) s
and_said best s event.ShardMark = s
and_said best s event.JoinMark = s
and_said best s event.Finish = with_end s

-- one entry more: a hole is one node of the tree
abbrev pub and_entry : Option ℕ → Said → Entry → Said
and_entry best s (as_event event) = and_said best s event
and_entry best s (as_hole tree) = with_node (hole (unmark tree)) s

-- what entries say
abbrev pub said_by : Parts → Option ℕ → List Entry → Said
said_by problem best entries = fold (and_entry best) (nothing_said problem) entries

-- a lemma with its whole tree
abbrev pub lemma_said : Said → LemmaOf Plain → Said
lemma_said s lemma = with_nodes (nodes_of lemma.tree) (lemma_begun lemma.sender lemma.value s)

-- lemmas with theirs
abbrev pub lemmas_said : List (LemmaOf Plain) → Said → Said
lemmas_said lemmas s = fold lemma_said s lemmas

-- a whole main tree, if there is one
abbrev pub main_said : Option ℕ → Option Plain → Said → Said
main_said best None s = s
main_said best (Some tree) s = with_nodes (nodes_of tree) (main_begun best s)

-- the kind and the frame lines of a certificate
abbrev pub lines_said : Parts → CertParts → Said
lines_said problem cert = with_lines cert.frames (with_kind cert.kind (nothing_said problem))

-- a whole certificate
abbrev pub cert_said : Parts → Option ℕ → CertParts → Said
cert_said problem best cert =
    with_end (main_said best cert.main_tree (lemmas_said cert.lemmas (lines_said problem cert)))
