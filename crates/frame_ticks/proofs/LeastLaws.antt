-- How long a frame lasts at least.
use Rattle.std.proofs.Common.{◌≡◌, ℕ, ◌+◌, ◌*◌, ◌≤◌, Bool, true, false, List, [], ◌∷◌, length, refl, ap, ◌∙◌, arith, length-append}
use Rattle.std.proofs.Math.Nat.{mul-le-mul_right}
use Rattle.pack_model.specs.declared.network.Network.{Network}
use Rattle.frame_ticks.specs.Bits.{bits_of, nominal_bits_of}
use Rattle.frame_ticks.specs.Stuffing.{Run, no_run, is_fifth, sent_of, run_after, stuffed_of}
use Rattle.frame_ticks.specs.Ticks.{ticks_of}
use Rattle.frame_ticks.proofs.StuffingLaws.{stuffed_of-cons}
use Rattle.frame_ticks.proofs.BitLaws.{length-nominal_bits_of, to_brs-bits_of, after_brs-bits_of, size_of_bits-bits_of}

-- stuffing leaves no bit out
sent-some : (run : Run) (bit : Bool) → 1 ≤ length (sent_of run bit)
sent-some run bit = by (is_fifth run bit) refl
  where
    by : (fifth : Bool) → is_fifth run bit ≡ fifth → 1 ≤ length (sent_of run bit)
    by true is = rw is (omega arith)
    by false is = rw is (omega arith)

stuffed-at_least : (run : Run) (bits : List Bool) → length bits ≤ length (stuffed_of run bits)
stuffed-at_least run [] = omega arith
stuffed-at_least run (bit ∷ rest) =
    let sent : length (stuffed_of run (bit ∷ rest))
    ≡ length (sent_of run bit) + length (stuffed_of (run_after run bit) rest) =
    ap length (stuffed_of-cons run bit rest)
    ∙ length-append (sent_of run bit) (stuffed_of (run_after run bit) rest) in
    omega (arith, sent-some run bit, stuffed-at_least (run_after run bit) rest)

-- each frame has at least 30 nominal bits
pub ticks_of-at_least : (network : Network) (id : ℕ) (esi : Bool) (payload : List ℕ)
    → 30 * network.nominal_ticks ≤ ticks_of network (bits_of id esi payload)
ticks_of-at_least network id esi payload =
    let nominal : length (nominal_bits_of id) ≤ length (stuffed_of no_run (nominal_bits_of id)) =
    stuffed-at_least no_run (nominal_bits_of id) in
    let least : 30 ≤ length (stuffed_of no_run (nominal_bits_of id)) + 13 =
    omega (arith, length-nominal_bits_of id) in
    let product : 30 * network.nominal_ticks
    ≤ (length (stuffed_of no_run (nominal_bits_of id)) + 13) * network.nominal_ticks =
    mul-le-mul_right network.nominal_ticks least in
    rw (to_brs-bits_of id esi payload, after_brs-bits_of id esi payload, size_of_bits-bits_of id esi payload)
    (omega arith)
