-- Laws of what a sender puts on the line.
use Rattle.std.proofs.Common.{◌≡◌, ◌+◌, Bool, true, false, not, List, [], ◌∷◌, ◌++◌, length, refl, sym, ap, ◌∙◌, arith, length-append, add_assoc}
use Rattle.frame_ticks.specs.declared.line.Line.{Line}
use Rattle.frame_ticks.specs.Line.{Sends, run_at}
use Rattle.frame_ticks.specs.Stuffing.{run_with, is_fifth, run_of, stuffed_of}
use Rattle.frame_ticks.proofs.StuffingLaws.{stuffed_of-nil, stuffed_of-one, stuffed_of-append, run_of-append}

-- no bit
pub Sends-nil : (line : Line) → Sends line line []
Sends-nil line = record { run = refl; sent = rw stuffed_of-nil (omega arith) }

-- the fifth bit of a run is sent with an opposite one
pub Sends-fifth : (old new : Line) (bit : Bool) → is_fifth (run_at old) bit ≡ true → new.run ≡ 1
    → new.value ≡ not bit → new.sent ≡ old.sent + 1 + 1 → Sends old new (bit ∷ [])
Sends-fifth old new bit fifth run value sent = record {
  run = rw (fifth, run, value) refl;
  sent = rw (stuffed_of-one, fifth) (omega arith);
}

-- another is sent alone
pub Sends-other : (old new : Line) (bit : Bool) → is_fifth (run_at old) bit ≡ false
    → new.run ≡ run_with old.run old.value bit → new.value ≡ bit → new.sent ≡ old.sent + 1
    → Sends old new (bit ∷ [])
Sends-other old new bit other run value sent = record {
  run = rw (other, run, value) refl;
  sent = rw (stuffed_of-one, other) (omega arith);
}

-- bits, and then others
pub Sends-append : (old middle new : Line) (front rest : List Bool) → Sends old middle front
    → Sends middle new rest → Sends old new (front ++ rest)
Sends-append old middle new front rest first second = record {
  run = second.run ∙ ap (λ run. run_of run rest) first.run ∙ sym (run_of-append (run_at old) front rest);
  sent =
      second.sent ∙ ap (λ run. middle.sent + length (stuffed_of run rest)) first.run
      ∙ ap (λ sent. sent + length (stuffed_of (run_of (run_at old) front) rest)) first.sent
      ∙ add_assoc old.sent (length (stuffed_of (run_at old) front))
      (length (stuffed_of (run_of (run_at old) front) rest))
      ∙ ap (λ more. old.sent + more)
      (sym (ap length (stuffed_of-append (run_at old) front rest)
      ∙ length-append (stuffed_of (run_at old) front) (stuffed_of (run_of (run_at old) front) rest)));
}
