-- Laws of stuffing, bit by bit.
use Rattle.std.proofs.Common.{◌≡◌, Bool, List, [], ◌∷◌, ◌++◌, refl, sym, append_assoc}
use Rattle.std.proofs.lemmas.List.{append-nil}
use Rattle.std.proofs.lemmas.List.Sums.{fold-append}
use Rattle.frame_ticks.specs.Stuffing.{Run, sent_of, run_after, run_of, stuffed_of}

-- nothing is sent for no bits
pub stuffed_of-nil : (run : Run) → stuffed_of run [] ≡ []
unfolding stuffed_of
stuffed_of-nil run = refl

-- the first bit, and the others after the run that it leaves
pub stuffed_of-cons : (run : Run) (bit : Bool) (rest : List Bool)
    → stuffed_of run (bit ∷ rest) ≡ sent_of run bit ++ stuffed_of (run_after run bit) rest
unfolding stuffed_of
stuffed_of-cons run bit rest = refl

-- one bit
pub stuffed_of-one : (run : Run) (bit : Bool) → stuffed_of run (bit ∷ []) ≡ sent_of run bit
stuffed_of-one run bit = rw (stuffed_of-cons, stuffed_of-nil) (append-nil (sent_of run bit))

-- bits sent in two parts: the second follows the run that the first leaves
pub stuffed_of-append : (run : Run) (front rest : List Bool)
    → stuffed_of run (front ++ rest) ≡ stuffed_of run front ++ stuffed_of (run_of run front) rest
stuffed_of-append run [] rest = rw stuffed_of-nil refl
stuffed_of-append run (bit ∷ front) rest =
    rw (
      stuffed_of-cons run bit (front ++ rest),
      stuffed_of-cons run bit front,
      stuffed_of-append (run_after run bit) front rest,
    )
    (sym (append_assoc (sent_of run bit) (stuffed_of (run_after run bit) front)
    (stuffed_of (run_of (run_after run bit) front) rest)))

-- the run that two parts leave
pub run_of-append : (run : Run) (front rest : List Bool)
    → run_of run (front ++ rest) ≡ run_of (run_of run front) rest
run_of-append run front rest = fold-append run_after run front rest
