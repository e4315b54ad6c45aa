-- Bit stuffing, as ISO 11898-1 has it: after five equal bits, inserted ones counted, one opposite bit
-- is inserted. A run of five that ends with the last bit counts as stuffed; that is the project's own.
use Rattle.std.specs.Prelude.{◌≡◌, ℕ, ◌+◌, ◌<◌, ◌==◌, Bool, true, not, List, [], ◌∷◌, ◌++◌, fold, if◌then◌else◌}
use Rattle.std.specs.Bool.{beq}

-- how many equal bits end with this one, after a run of so many equal to `value`; after no run, one
abbrev pub run_with : ℕ → Bool → Bool → ℕ
run_with run value bit = if beq bit value then run + 1 else 1

-- after a run of so many bits equal to `value`, the bits are sent as `out`
pub data Stuffed : ℕ → Bool → List Bool → List Bool → Type 0 where
  -- after five equal bits comes an opposite one, which begins the next run
  inserts : {run : ℕ} {value : Bool} {bits more : List Bool} → run ≡ 5 → Stuffed 1 (not value) bits more
      → Stuffed run value bits (not value ∷ more)
  -- else the next bit is sent, which carries the run on or begins one
  sends : {run : ℕ} {value bit : Bool} {rest more : List Bool} → run < 5
      → Stuffed (run_with run value bit) bit rest more → Stuffed run value (bit ∷ rest) (bit ∷ more)
  -- and at the end there is no more
  ends : {run : ℕ} {value : Bool} → run < 5 → Stuffed run value [] []

-- a run of so many bits equal to a value, after which no bit is inserted
pub record Run : Type 0 where
  pub long : ℕ
  pub value : Bool

-- before the first bit of a frame there is no run
abbrev pub no_run : Run
no_run = record { long = 0; value = true }

-- whether a bit is the fifth of a run
abbrev pub is_fifth : Run → Bool → Bool
is_fifth run bit = run_with run.long run.value bit == 5

-- a bit as it is sent, with the one inserted after it, if there is one
abbrev pub sent_of : Run → Bool → List Bool
sent_of run bit = if is_fifth run bit then bit ∷ not bit ∷ [] else bit ∷ []

-- the run that a bit leaves
abbrev pub run_after : Run → Bool → Run
run_after run bit =
    if is_fifth run bit then record { long = 1; value = not bit }
    else record { long = run_with run.long run.value bit; value = bit }

-- the run that these bits leave
abbrev pub run_of : Run → List Bool → Run
run_of run bits = fold run_after run bits

-- the bits as they are sent, computed bit by bit
unfoldable pub stuffed_of : Run → List Bool → List Bool
stuffed_of run [] = []
stuffed_of run (bit ∷ rest) = sent_of run bit ++ stuffed_of (run_after run bit) rest
