-- What a walk over the events of a certificate stores after some of them.
use Rattle.std.specs.Prelude.{◌≡◌, ◌≤◌, ◌<◌, ◌↔◌, ◌-◌, ◌^◌, ⊤, ℕ, IsTrue, min, Bool, true, false, List, [], ◌∷◌, length, slice_index_or, ◌||◌, ◌⊎◌, Option, None, Some, option_map, Result, Ok, Err}
use Rattle.pack_model.specs.Problem.{Parts, IsProblem, IsSorted}
use Rattle.busy_period.specs.declared.timed.Timed.{Timed}
use Rattle.busy_period.specs.Stage.{IsStage}
use Rattle.response_test.specs.Queueing.{IsBit}
use Rattle.response_test.specs.Frame.{IsShown}
use Rattle.class_frame.specs.Classes.{frames_of_classes, load_of}
use Rattle.class_frame.specs.Grouping.{IsOrder}
use Rattle.class_frame.specs.Legal.{IsLegal}
use Rattle.matrix_rows.specs.declared.matrix.MatrixRow.{MatrixRow}
use Rattle.matrix_text.specs.Frames.{grouping_of, order_of}
use Rattle.matrix_text.specs.OnePlace.{OnePlace}
use Rattle.matrix_text.specs.Placed.{Placed}
use Rattle.cert_text.specs.declared.parts.FrameLine.{FrameLine}
use Rattle.cert_text.specs.Parts.{CertParts, HasParts}
use Rattle.bandwidth_bound.specs.Trees.{Goal}
use Rattle.bandwidth_bound.specs.declared.verdict.Verdict.{Verdict}
use Rattle.bandwidth_bound.specs.declared.verdict.Verdict.TheVariants as verdict
use Rattle.cert_check.specs.declared.cert_walk.CertWalk.{CertWalk}
use Rattle.cert_check.specs.declared.fault.CheckFault.{CheckFault}
use Rattle.cert_check.specs.declared.fault.CheckFault.TheVariants as fault
use Rattle.cert_check.specs.declared.placing.Placing.{Placing}
use Rattle.cert_check.specs.declared.walk.Walk.{Walk}
use Rattle.cert_check.specs.Kinds.{has_row}
use Rattle.cert_check.specs.Entries.{Entry}
use Rattle.cert_check.specs.Nodes.{NodesStand, Takes, Way, lowered}
use Rattle.cert_check.specs.Said.{Said, TreeSaid, said_by}
use Rattle.cert_check.specs.Trees.{lower_with}
use Rattle.cert_check.specs.Walk.{IsWalk, goal_of, start, values_in, values_used, way_of}

-- the frames of an order, with a nominal bit
pub record AreStages (frames : List Timed) (order : List ℕ) (bit : ℕ) : Type 0 where
  pub stages : (place : ℕ) → place < length order → IsStage frames order place
  pub is_bit : IsBit frames bit
  pub few : length order ≤ 128

-- the frames of a placed matrix: their times by label, their labels by ascending identifier, and their load
pub record IsPlacing (problem : Parts) (rows : List MatrixRow) (placing : Placing) : Type 0 where
  pub placed : Placed problem rows
  pub one_place : OnePlace problem rows
  pub legal : IsLegal problem.items (grouping_of problem rows)
  pub named : IsOrder (grouping_of problem rows) (order_of problem rows)
  pub frames : placing.frames.items ≡ frames_of_classes problem problem.items (grouping_of problem rows)
  pub order : placing.order.items ≡ order_of problem rows
  pub stages : AreStages placing.frames.items placing.order.items problem.network.nominal_ticks
  pub load : placing.load ≡ load_of problem problem.items (grouping_of problem rows)

-- the matrix is placed with these frames, or isn't
abbrev pub IsPlaced : Parts → List MatrixRow → Option Placing → Type 0
IsPlaced problem rows None = ¬ Placed problem rows
IsPlaced problem rows (Some placing) = IsPlacing problem rows placing

-- the load of the matrix, where it is placed
abbrev pub load_in : Option Placing → Option ℕ
load_in placing = option_map (λ (p : Placing). p.load) placing

-- so many lines show the frames at the first places of the order
pub record ShowFirst (frames : List Timed) (order : List ℕ) (bit : ℕ) (lines : List FrameLine) : Type 0 where
  pub few : length lines ≤ length order
  pub each : (place : ℕ) (d : FrameLine) → place < length lines
      → IsShown frames order place bit (slice_index_or lines place d).busy
      (slice_index_or lines place d).queue

-- whether some line doesn't show the frame at its place, where the matrix is placed
abbrev pub IsLate : Parts → Option Placing → List FrameLine → Bool → Type 0
IsLate problem None lines late = ⊤
IsLate problem (Some placing) lines false =
    ShowFirst placing.frames.items placing.order.items problem.network.nominal_ticks lines
IsLate problem (Some placing) lines true =
    ¬ ShowFirst placing.frames.items placing.order.items problem.network.nominal_ticks lines

-- the sender of a lemma is there, and comes after that of the lemma before
abbrev pub ComesNext : Parts → Option ℕ → Option ℕ → Type 0
ComesNext problem last None = ⊤
ComesNext problem None (Some sender) = sender < length problem.senders
ComesNext problem (Some last) (Some sender) = (sender < length problem.senders) × (last < sender)

-- what a tree is to show
abbrev pub goal_said : Parts → TreeSaid → Goal
goal_said problem tree = goal_of problem (values_in tree.aim.range tree.values) tree.aim

-- the nodes of a tree that were told stand, and for the tree of a lemma its sender may come next
pub record StandsSaid (problem : Parts) (tree : TreeSaid) : Type 0 where
  pub next : ComesNext problem tree.last tree.aim.range
  pub nodes : NodesStand (goal_said problem tree) ([] ∷ []) tree.nodes

-- each of some trees does so
abbrev pub EachStandsSaid : Parts → List TreeSaid → Type 0
EachStandsSaid problem [] = ⊤
EachStandsSaid problem (tree ∷ trees) = StandsSaid problem tree × EachStandsSaid problem trees

-- all that was told of trees stands
abbrev pub AllStandSaid : Parts → Said → Type 0
AllStandSaid problem s = EachStandsSaid problem (s.tree ∷ s.older)

-- the walk took the nodes of the tree that is being told, and those before it stand
pub record IsInTree (problem : Parts) (walk : Walk) (values : List ℕ) (tree : TreeSaid)
    (older : List TreeSaid) : Type 0 where
  pub walks : IsWalk problem walk
  pub kept : walk.values.items ≡ values
  pub aim : walk.aim ≡ tree.aim
  pub used : values_used walk ≡ values_in tree.aim.range tree.values
  pub next : ComesNext problem tree.last tree.aim.range
  pub stand : EachStandsSaid problem older
  pub takes : Takes (goal_said problem tree) start (way_of problem walk) tree.nodes

-- a problem and its matrix stand, with whether the matrix has rows and is placed, and its frames
pub record KnowsMatrix (problem : Parts) (rows : List MatrixRow) (some : Bool)
    (placing : Option Placing) : Type 0 where
  pub stands : IsProblem problem
  pub sorted : IsSorted problem.signals problem.items
  pub has_rows : some ≡ has_row rows
  pub placed : IsPlaced problem rows placing

-- What the walk stores where this was said: what it knows of the matrix; the kind; how many frame lines there
-- were, up to 2^32 - 1, and whether one of them doesn't show its frame; the last lemma's sender and the place in
-- the tree as long as all that was told of trees stands, and else that some of it doesn't; a value for each
-- sender; whether the end was said.
pub record Stores (problem : Parts) (rows : List MatrixRow) (walk : CertWalk) (s : Said) : Type 0 where
  pub knows : KnowsMatrix problem rows walk.has_rows walk.placing
  pub kind : walk.kind ≡ s.kind
  pub lines : walk.lines ≡ min (length s.lines) (2 ^ 32 - 1)
  pub late : IsLate problem walk.placing s.lines walk.late
  pub last : walk.failed ≡ false → walk.last ≡ s.last
  pub in_tree : walk.failed ≡ false → IsInTree problem walk.walk s.values s.tree s.older
  pub senders : length walk.walk.values.items ≡ length problem.senders
  pub falls : walk.failed ≡ true → ¬ AllStandSaid problem s
  pub finished : walk.finished ≡ s.finished

-- a walk went on from the one to the other by more that was said
pub record StoresMore (problem : Parts) (before after : CertWalk) (more : Said → Said) : Type 0 where
  pub stores : (rows : List MatrixRow) (s : Said) → Stores problem rows before s
      → Stores problem rows after (more s)
  pub placing : after.placing ≡ before.placing

-- the walk took these events and holes, over this problem and this matrix
abbrev pub Taken : CertWalk → Parts → List MatrixRow → List Entry → Type 0
Taken walk problem rows entries = Stores problem rows walk (said_by problem (load_in walk.placing) entries)

-- it stores what something said leaves
abbrev pub HasStored : Parts → CertWalk → Type 0
HasStored problem walk = (rows : List MatrixRow) × (s : Said) × Stores problem rows walk s

-- it took some events and holes over some matrix
abbrev pub HasTaken : CertWalk → Parts → Type 0
HasTaken walk problem = (rows : List MatrixRow) × (entries : List Entry) × Taken walk problem rows entries

-- a line shows the frame at a place of the order
abbrev pub ShowsAt : Parts → Placing → ℕ → FrameLine → Type 0
ShowsAt problem placing place line =
    (place < length placing.order.items)
    × IsShown placing.frames.items placing.order.items place problem.network.nominal_ticks line.busy line.queue

-- whether a line does so, where the matrix is placed
abbrev pub IsShowing : Parts → Option Placing → ℕ → FrameLine → Bool → Type 0
IsShowing problem None place line shows = ⊤
IsShowing problem (Some placing) place line shows = IsTrue shows ↔ ShowsAt problem placing place line

-- a certificate has the parts of its kind
abbrev pub HasOwnParts : CertParts → Type 0
HasOwnParts cert = HasParts cert.kind cert.frames cert.lemmas cert.main_tree

-- something of the trees doesn't stand
abbrev pub falls : CertWalk → Bool
falls walk = walk.failed || walk.walk.failed

-- where a walk is in its tree; it has failed where something of the trees doesn't stand
abbrev pub way_in : Parts → CertWalk → Way
way_in problem walk = record (way_of problem walk.walk) { failed = falls walk }

-- the answer is this verdict, unless something of the trees doesn't stand
abbrev pub IsClosed : CertWalk → Verdict → Result Verdict CheckFault → Type 0
IsClosed walk shown (Ok answer) = (falls walk ≡ false) × (answer ≡ shown)
IsClosed walk shown (Err fault.RejectedMatrix) = ⊥
IsClosed walk shown (Err fault.RejectedTiming) = ⊥
IsClosed walk shown (Err fault.RejectedTree) = falls walk ≡ true
IsClosed walk shown (Err fault.Memory) = ⊥

-- a bound that may be given
abbrev pub one_more : Option ℕ → List ℕ
one_more None = []
one_more (Some bound) = bound ∷ []

-- the answer is the lesser of the least bound at the open leaves, with one more where it is given, and of 8
-- times the best, unless something of the trees doesn't stand, or no leaf is open
abbrev pub IsOpen : CertWalk → Option ℕ → Option ℕ → Result Verdict CheckFault → Type 0
IsOpen walk lower best (Ok answer) =
    (falls walk ≡ false) × ((least : ℕ) × (lowered walk.walk.least (one_more lower) ≡ Some least)
    × (answer ≡ verdict.Between best (lower_with best least)))
IsOpen walk lower best (Err fault.RejectedMatrix) = ⊥
IsOpen walk lower best (Err fault.RejectedTiming) = ⊥
IsOpen walk lower best (Err fault.RejectedTree) =
    (falls walk ≡ true) ⊎ ((falls walk ≡ false) × (lowered walk.walk.least (one_more lower) ≡ None))
IsOpen walk lower best (Err fault.Memory) = ⊥
