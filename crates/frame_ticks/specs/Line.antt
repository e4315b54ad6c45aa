-- What a sender puts on the line.
use Rattle.std.specs.Prelude.{◌≡◌, ◌+◌, Bool, List, length}
use Rattle.frame_ticks.specs.declared.line.Line.{Line}
use Rattle.frame_ticks.specs.Stuffing.{Run, run_of, stuffed_of}

-- the run that ends what was sent
abbrev pub run_at : Line → Run
run_at line = record { long = line.run; value = line.value }

-- these bits were sent, and those that stuffing inserts
pub record Sends (old new : Line) (bits : List Bool) : Type 0 where
  pub run : run_at new ≡ run_of (run_at old) bits
  pub sent : new.sent ≡ old.sent + length (stuffed_of (run_at old) bits)
