-- Laws of whole frames.
use Rattle.std.proofs.Common.{◌≡◌, ℕ, ◌+◌, ◌-◌, ◌*◌, ◌≤◌, Bool, List, length, sym, ap, subst, ◌∙◌, arith}
use Rattle.fd_length.proofs.Sizes.{IsSize-at_most}
use Rattle.pack_model.specs.declared.network.Network.{Network}
use Rattle.frame_ticks.specs.declared.line.Line.{Line}
use Rattle.frame_ticks.specs.Bits.{IsFrame, bits_of}
use Rattle.frame_ticks.specs.Line.{Sends, run_at}
use Rattle.frame_ticks.specs.Stuffing.{no_run, run_of, stuffed_of}
use Rattle.frame_ticks.specs.Ticks.{ticks_of, ticks_sent, to_brs, after_brs, size_of_bits}
use Rattle.frame_ticks.specs.Worst.{worst_ticks_of}
use Rattle.frame_ticks.proofs.BitLaws.{length-bits_of, size_of_bits-bits_of}
use Rattle.frame_ticks.proofs.BoundLaws.{ticks_of-at_most}

-- a frame has 22 bits and eight for each byte
pub length-frame : (bits : List Bool) (frame : IsFrame bits) → length bits ≡ 22 + 8 * length frame.payload
length-frame bits frame = ap length frame.same ∙ length-bits_of frame.id frame.esi frame.payload

-- of which there are at most 64
pub length-frame_payload : (bits : List Bool) (frame : IsFrame bits) → length frame.payload ≤ 64
length-frame_payload bits frame = IsSize-at_most (length frame.payload) frame.listed

-- no frame lasts longer than the greatest length for its number of data bytes
pub ticks_of-frame : (network : Network) (bits : List Bool) → IsFrame bits
    → ticks_of network bits ≤ worst_ticks_of network (size_of_bits bits)
ticks_of-frame network bits frame =
    let frame_bits = bits_of frame.id frame.esi frame.payload in
    let size = size_of_bits-bits_of frame.id frame.esi frame.payload in
    rw frame.same
    (subst (λ n. ticks_of network frame_bits ≤ worst_ticks_of network n) (sym size)
    (ticks_of-at_most network frame.id frame.esi frame.payload))

-- the ticks of what was sent from an idle line are those of the bits
pub ticks_of-sent : (network : Network) (bits front rest : List Bool) (idle middle last : Line)
    (ticks size : ℕ) → run_at idle ≡ no_run → idle.sent ≡ 0 → Sends idle middle front → Sends middle last rest
    → to_brs bits ≡ front → after_brs bits ≡ rest → size_of_bits bits ≡ size
    → ticks ≡ ticks_sent network size middle.sent (last.sent - middle.sent) → ticks ≡ ticks_of network bits
ticks_of-sent network bits front rest idle middle last ticks size run none first second front_is rest_is
    size_is counted =
    let nominal : middle.sent ≡ length (stuffed_of no_run front) =
    first.sent ∙ ap (λ start. idle.sent + length (stuffed_of start front)) run ∙ (omega arith) in
    let begun : run_at middle ≡ run_of no_run front = first.run ∙ ap (λ start. run_of start front) run in
    let others : last.sent - middle.sent ≡ length (stuffed_of (run_of no_run front) rest) =
    (omega (arith, second.sent)) ∙ ap (λ start. length (stuffed_of start rest)) begun in
    rw (front_is, rest_is, size_is, ← nominal, ← others) counted
