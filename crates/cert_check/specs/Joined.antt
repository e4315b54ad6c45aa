-- What is found of a certificate whose marked trees were judged apart: the laws of holes, the project's own.
use Rattle.std.specs.Prelude.{◌≡◌, ◌∷◌, ◌++◌, [], ℕ, All, List, true, map, ◌↔◌, false, Option, None, Some, Result, Ok, Err, OnOk, slice_index_or}
use Rattle.pack_model.specs.Problem.{Parts}
use Rattle.matrix_rows.specs.declared.matrix.MatrixRow.{MatrixRow}
use Rattle.cert_text.specs.declared.event.Event.{Event}
use Rattle.cert_text.specs.CertEvents.{cert_events}
use Rattle.cert_text.specs.Given.{BeginsEvents}
use Rattle.cert_text.specs.Parts.{CertOf, CertParts, unmark_cert}
use Rattle.cert_text.specs.Trees.{Marked, unmark}
use Rattle.bandwidth_bound.specs.Follows.{Holds}
use Rattle.bandwidth_bound.specs.declared.verdict.Verdict.{Verdict}
use Rattle.cert_check.specs.declared.cert_walk.CertWalk.{CertWalk}
use Rattle.cert_check.specs.declared.fault.CheckFault.{CheckFault}
use Rattle.cert_check.specs.declared.fault.CheckFault.TheVariants as fault
use Rattle.cert_check.specs.declared.walk.Aim.{Aim}
use Rattle.cert_check.specs.Accept.{IsFound, judged_of}
use Rattle.cert_check.specs.Entries.{Entry, as_event, as_hole, in_full}
use Rattle.cert_check.specs.Holes.{Hole, HolesStand, hole_here, holes_of, least_in_holes}
use Rattle.cert_check.specs.Said.{lemma_aim, main_aim, said_by}
use Rattle.cert_check.specs.Taken.{AllStandSaid, HasOwnParts, Taken, falls, load_in}
use Rattle.cert_check.specs.Told.{IsFoundOf}
use Rattle.cert_check.specs.Walk.{values_in}

-- ---- the holes that a walk was told, entry by entry

-- an event adds none
abbrev pub EventTaken : Type 0
EventTaken = (problem : Parts) (rows : List MatrixRow) (before after : CertWalk) (entries : List Entry)
    (event : Event) → Taken before problem rows entries
    → Taken after problem rows (entries ++ as_event event ∷ [])
    → holes_of problem after (entries ++ as_event event ∷ []) ≡ holes_of problem before entries

-- one that is passed over, where all that was told stands afterwards, is where the walk was
abbrev pub HoleTaken : Type 0
HoleTaken = (problem : Parts) (rows : List MatrixRow) (before after : CertWalk) (entries : List Entry)
    (tree : Marked) → Taken before problem rows entries
    → Taken after problem rows (entries ++ as_hole tree ∷ []) → falls after ≡ false
    → holes_of problem after (entries ++ as_hole tree ∷ [])
    ≡ holes_of problem before entries ++ hole_here problem before (unmark tree) ∷ []

-- where the tree of some hole doesn't stand, that stays so
abbrev pub HolesStay : Type 0
HolesStay = (problem : Parts) (rows : List MatrixRow) (before after : CertWalk) (entries more : List Entry)
    → Taken before problem rows entries → Taken after problem rows (entries ++ more)
    → HolesStand problem after (entries ++ more) → HolesStand problem before entries

-- ---- what holes are to show

-- what a tree over all items is to show, or one over a sender's, by what a walk stores
abbrev pub aim_in : CertWalk → Option ℕ → Aim
aim_in walk None = main_aim walk.kind (load_in walk.placing)
aim_in walk (Some sender) = lemma_aim sender (slice_index_or walk.walk.values.items sender 0)

-- a hole is in the main tree or in a lemma's, with the values that the walk stores
abbrev pub IsAimed : CertWalk → Hole → Type 0
IsAimed walk h =
    (h.aim ≡ aim_in walk h.aim.range) × (h.values ≡ values_in h.aim.range walk.walk.values.items)

-- all are, as long as all that was told stands
abbrev pub HolesAimed : Type 0
HolesAimed = (problem : Parts) (rows : List MatrixRow) (walk : CertWalk) (entries : List Entry)
    → Taken walk problem rows entries → BeginsEvents (in_full entries) → falls walk ≡ false
    → All (IsAimed walk) (holes_of problem walk entries)

-- ---- trees that don't stand

-- where a walk has failed, what it was told doesn't stand, whatever follows
abbrev pub FailedStays : Type 0
FailedStays = (problem : Parts) (rows : List MatrixRow) (walk : CertWalk) (entries more : List Entry)
    → Taken walk problem rows entries → falls walk ≡ true
    → ¬ AllStandSaid problem (said_by problem (load_in walk.placing) (entries ++ more))

-- all that was told stands in full where it stands with holes, and the tree of each hole at its place
abbrev pub StandsInFull : Type 0
StandsInFull = (problem : Parts) (rows : List MatrixRow) (walk : CertWalk) (entries : List Entry)
    → Taken walk problem rows entries
    → AllStandSaid problem (said_by problem (load_in walk.placing) (map as_event (in_full entries)))
    ↔ (AllStandSaid problem (said_by problem (load_in walk.placing) entries)
    × HolesStand problem walk entries)

-- ---- the whole certificate

-- an answer, where some tree besides doesn't stand
abbrev pub denied : Result Verdict CheckFault → Result Verdict CheckFault
denied (Ok shown) = Err fault.RejectedTree
denied (Err why) = Err why

-- this is found of the certificate, and what follows from it holds
abbrev pub IsFoundHolding : Parts → List MatrixRow → CertParts → Result Verdict CheckFault → Type 0
IsFoundHolding problem rows cert answer =
    IsFound problem rows cert answer × OnOk answer (Holds (judged_of problem rows cert))

-- What was found of a certificate with holes is what is found of it in full: where the walk failed; where all
-- holes stand, and the bound that was given is the least in those of the main tree; and where some hole doesn't
-- stand, but for the tree part.
pub record IsFoundInFull (problem : Parts) (rows : List MatrixRow) (walk : CertWalk) (entries : List Entry)
    (cert : CertParts) (lower : Option ℕ) (answer : Result Verdict CheckFault) : Type 0 where
  pub failed : falls walk ≡ true → IsFoundHolding problem rows cert answer
  pub all_stand : HolesStand problem walk entries → lower ≡ least_in_holes problem walk entries
      → IsFoundHolding problem rows cert answer
  pub some_falls : ¬ HolesStand problem walk entries → IsFoundHolding problem rows cert (denied answer)

-- so it is
abbrev pub FoundInFull : Type 0
FoundInFull = (problem : Parts) (rows : List MatrixRow) (walk : CertWalk) (entries : List Entry)
    (marked : CertOf Marked) (lower : Option ℕ) (answer : Result Verdict CheckFault)
    → HasOwnParts (unmark_cert marked) → Taken walk problem rows entries
    → in_full entries ≡ cert_events marked → IsFoundOf problem rows walk entries lower answer
    → IsFoundInFull problem rows walk entries (unmark_cert marked) lower answer
