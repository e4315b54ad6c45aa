-- What a walk stores whose marked trees are judged apart: the project's own.
use Rattle.std.specs.Prelude.{◌≡◌, ⊤, ℕ, true, false, All, List, [], ◌∷◌, ◌++◌, map, Option, None, Some, IfSome}
use Rattle.std.specs.List.{flat_map}
use Rattle.pack_model.specs.Problem.{Parts}
use Rattle.matrix_rows.specs.declared.matrix.MatrixRow.{MatrixRow}
use Rattle.cert_text.specs.declared.event.Event.{Event}
use Rattle.cert_text.specs.declared.event.Event.TheVariants as event
use Rattle.cert_text.specs.Given.{BeginsEvents}
use Rattle.cert_text.specs.PlainTree.{plain_of}
use Rattle.cert_text.specs.Trees.{Plain}
use Rattle.cert_check.specs.declared.cert_walk.CertWalk.{CertWalk}
use Rattle.cert_check.specs.Entries.{Entry, as_event, in_full}
use Rattle.cert_check.specs.Holes.{Hole, HoleStands, HolesStand, bounds_in_hole, holes_of}
use Rattle.cert_check.specs.Nodes.{lowered}
use Rattle.cert_check.specs.Taken.{Taken, falls, load_in}
use Rattle.par_check.specs.declared.gathering.Gathering.{Gathering}
use Rattle.par_check.specs.declared.shard.Goal.{Goal}
use Rattle.par_check.specs.declared.shard.Shard.{Shard}
use Rattle.par_check.specs.declared.shard_walk.ShardWalk.{ShardWalk}
use Rattle.par_check.specs.Gathered.{open_events}
use Rattle.par_check.specs.Shards.{IsShard}

-- the events of the marked tree that is being read, as far as they were taken
abbrev pub part_events : Option Gathering → List Event
part_events None = []
part_events (Some part) = open_events part.nodes.items

-- it began with a mark, where the walk hadn't failed
abbrev pub IsBegun : CertWalk → List Entry → Option Gathering → Type 0
IsBegun walk entries None = ⊤
IsBegun walk entries (Some part) =
    ((front : List Entry) × (entries ≡ front ++ as_event event.ShardMark ∷ [])) × (falls walk ≡ false)

-- where a shard stands, and its tree
abbrev pub of_shard : Shard → Option ℕ × List ℕ × Plain
of_shard shard = (shard.lemma, shard.path, plain_of shard.tree)

-- where a hole stands, and its tree
abbrev pub of_hole : Hole → Option ℕ × List ℕ × Plain
of_hole hole = (hole.aim.range, hole.place, hole.tree)

-- The holes so far are some that were judged, which stand and have this least bound, and then those of the shards
-- of the batch.
pub record KnowsHoles (problem : Parts) (lower : Option ℕ) (batch : List Shard) (holes : List Hole) : Type 0 where
  pub judged : List Hole
  pub waiting : List Hole
  pub both : holes ≡ judged ++ waiting
  pub stand : All (HoleStands problem) judged
  pub least : lower ≡ lowered None (flat_map (bounds_in_hole problem) judged)
  pub shards : map of_hole waiting ≡ map of_shard batch
  pub legal : All (IsShard problem) batch

-- The walk took these events: all but those of shards one by one, and a hole in the place of each shard. As long as
-- nothing of the trees is known not to stand, it knows the holes.
pub record ShardsTaken (problem : Parts) (rows : List MatrixRow) (walk : ShardWalk) (events : List Event) : Type 0 where
  pub entries : List Entry
  pub taken : Taken walk.walk problem rows entries
  pub said : events ≡ in_full entries ++ part_events walk.gathering
  pub begun : IsBegun walk.walk entries walk.gathering
  pub holes : walk.denied ≡ false → falls walk.walk ≡ false
      → KnowsHoles problem walk.lower walk.batch.items (holes_of problem walk.walk entries)
  pub denies : walk.denied ≡ true → ¬ HolesStand problem walk.walk entries

-- it took some events, which begin a certificate with these after them
abbrev pub MayTake : Parts → ShardWalk → List Event → Type 0
MayTake problem walk more = (rows : List MatrixRow) × (events : List Event)
    × ShardsTaken problem rows walk events × BeginsEvents (events ++ more)

-- whatever it took, it took these after that, where they begin a certificate
abbrev pub TakesOn : Parts → ShardWalk → ShardWalk → List Event → Type 0
TakesOn problem before after more = (rows : List MatrixRow) (events : List Event)
    → ShardsTaken problem rows before events → BeginsEvents (events ++ more)
    → ShardsTaken problem rows after (events ++ more)

-- it took these events, which begin a certificate
abbrev pub ShardsBegun : Parts → List MatrixRow → ShardWalk → List Event → Type 0
ShardsBegun problem rows walk events = ShardsTaken problem rows walk events × BeginsEvents events

-- it took some events, which begin a certificate
abbrev pub HasShards : Parts → ShardWalk → Type 0
HasShards problem walk = (rows : List MatrixRow) × (events : List Event)
    × ShardsTaken problem rows walk events × BeginsEvents events

-- whatever it took, it still has taken
abbrev pub StaysTaken : Parts → ShardWalk → ShardWalk → Type 0
StaysTaken problem before after = (rows : List MatrixRow) (events : List Event)
    → ShardsTaken problem rows before events → BeginsEvents events → ShardsTaken problem rows after events

-- A marked tree begins: it is gathered from now on, where nothing is known not to stand, or walked as it comes.
pub record BeginsShard (before after : ShardWalk) : Type 0 where
  pub rest : after ≡ record before { gathering = after.gathering; number = after.number }
  pub empty : part_events after.gathering ≡ []
  pub stands : IfSome after.gathering (λ part. falls before.walk ≡ false)

-- with this part of a marked tree
abbrev pub with_part : ShardWalk → Gathering → ShardWalk
with_part walk part = record walk { gathering = Some part }

-- what the trees are to show, by what a walk stores
abbrev pub goal_by : CertWalk → Goal
goal_by walk = record { kind = walk.kind; best = load_in walk.placing; lemmas = walk.walk.values.items }
