-- How many bits stuffing inserts at most.
use Rattle.std.proofs.Common.{◌≡◌, ℕ, ◌+◌, ◌*◌, ◌<◌, ◌≤◌, ◌≢◌, ◌⊎◌, Bool, true, false, List, [], ◌∷◌, ◌++◌, length, refl, sym, ap, ◌∙◌, inl, inr, arith, append_assoc, length-append}
use Rattle.std.proofs.lemmas.Bool.Decides.{nat_tests}
use Rattle.frame_ticks.specs.Bits.{arbitration_bits, format_bits, nominal_bits_of, data_bits_of, bits_of, number_bits}
use Rattle.frame_ticks.specs.Ticks.{ticks_sent, ticks_of}
use Rattle.frame_ticks.specs.Worst.{crc_bits_of, worst_ticks_of}
use Rattle.pack_model.specs.declared.network.Network.{Network}
use Rattle.std.proofs.Math.Nat.{mul-le-mul_right}
use Rattle.frame_ticks.specs.Stuffing.{Run, no_run, run_with, is_fifth, sent_of, run_after, run_of, stuffed_of}
use Rattle.frame_ticks.proofs.BitLaws.{length-arbitration_bits, length-data_bits_of, to_brs-bits_of, after_brs-bits_of, size_of_bits-bits_of}
use Rattle.frame_ticks.proofs.StuffingLaws.{stuffed_of-nil, stuffed_of-cons, stuffed_of-append, run_of-append}

-- a run carried on is one bit longer at most, and never empty
pub run_with-bounds : (run : ℕ) (value bit : Bool)
    → (run_with run value bit ≤ run + 1) × (1 ≤ run_with run value bit)
run_with-bounds run true true = (omega arith, omega arith)
run_with-bounds run true false = (omega arith, omega arith)
run_with-bounds run false true = (omega arith, omega arith)
run_with-bounds run false false = (omega arith, omega arith)

-- four bits of a run pay for one inserted
pub record Pays (sent bits : ℕ) (before after : Run) : Type 0 where
  pub paid : 4 * sent + after.long ≤ 5 * bits + before.long
  pub short : after.long < 5
  pub some : 1 ≤ before.long + bits → 1 ≤ after.long

pub Pays-bit : (run : Run) (bit : Bool) → run.long < 5
    → Pays (length (sent_of run bit)) 1 run (run_after run bit)
Pays-bit run bit short = by_fifth (is_fifth run bit) refl (run_with-bounds run.long run.value bit) where
  by_fifth : (fifth : Bool) → is_fifth run bit ≡ fifth
      → (run_with run.long run.value bit ≤ run.long + 1) × (1 ≤ run_with run.long run.value bit)
      → Pays (length (sent_of run bit)) 1 run (run_after run bit)
  by_fifth true is bounds =
      let five : run_with run.long run.value bit ≡ 5 = grind (arith, nat_tests) in
      rw is (record { paid = omega arith; short = omega arith; some = λ _. omega arith })
  by_fifth false is bounds =
      let other : run_with run.long run.value bit ≢ 5 = grind (arith, nat_tests) in
      rw is (record { paid = omega arith; short = omega arith; some = λ _. omega arith })

pub Pays-bits : (run : Run) (bits : List Bool) → run.long < 5
    → Pays (length (stuffed_of run bits)) (length bits) run (run_of run bits)
Pays-bits run [] short =
    rw stuffed_of-nil (record { paid = omega arith; short = short; some = λ h. omega arith })
Pays-bits run (bit ∷ rest) short =
    let first = Pays-bit run bit short in
    let others = Pays-bits (run_after run bit) rest first.short in
    let sent : length (stuffed_of run (bit ∷ rest))
    ≡ length (sent_of run bit) + length (stuffed_of (run_after run bit) rest) =
    ap length (stuffed_of-cons run bit rest)
    ∙ length-append (sent_of run bit) (stuffed_of (run_after run bit) rest) in
    record {
      paid = omega (arith, sent, first.paid, others.paid);
      short = others.short;
      some = λ _. others.some (omega (arith, first.some (omega arith)));
    }

-- a dominant bit leaves a run of dominant bits, or one inserted bit
pub run_after-dominant : (run : Run)
    → ((run_after run false).value ≡ false) ⊎ ((run_after run false).long ≡ 1)
run_after-dominant run = by_fifth (is_fifth run false) refl where
  by_fifth : (fifth : Bool) → is_fifth run false ≡ fifth
      → ((run_after run false).value ≡ false) ⊎ ((run_after run false).long ≡ 1)
  by_fifth true is = inr (rw is refl)
  by_fifth false is = inl (rw is refl)

-- after such a run nothing is inserted among FDF, res and BRS, and BRS begins a run
pub stuffed_of-format : (long : ℕ) (value : Bool) → (value ≡ false) ⊎ (long ≡ 1)
    → (length (stuffed_of (record { long = long; value = value }) format_bits) ≡ 3)
    × ((run_of (record { long = long; value = value }) format_bits).long ≡ 1)
unfolding stuffed_of
stuffed_of-format long false h = (refl, refl)
stuffed_of-format long true (inl h) = absurd (cc)
stuffed_of-format long true (inr h) = rw h (refl, refl)

-- up to BRS at most three bits are inserted, all of them up to IDE, and BRS begins a run
pub nominal-bounds : (id : ℕ)
    → (length (stuffed_of no_run (nominal_bits_of id)) ≤ 20) × ((run_of no_run (nominal_bits_of id)).long ≡ 1)
nominal-bounds id =
    let front = false ∷ number_bits 11 id ++ (false ∷ []) in
    let split : arbitration_bits id ≡ front ++ (false ∷ []) =
    sym (append_assoc (false ∷ number_bits 11 id) (false ∷ []) (false ∷ [])) in
    let long : length (arbitration_bits id) ≡ 14 = length-arbitration_bits id in
    let pays = Pays-bits no_run (arbitration_bits id) (omega arith) in
    let at_ide : run_of no_run (arbitration_bits id) ≡ run_after (run_of no_run front) false =
    ap (λ bits. run_of no_run bits) split ∙ run_of-append no_run front (false ∷ []) in
    let dominant = run_after-dominant (run_of no_run front) in
    let format =
    stuffed_of-format (run_of no_run (arbitration_bits id)).long
    (run_of no_run (arbitration_bits id)).value (rw at_ide dominant) in
    let sent = ap length (stuffed_of-append no_run (arbitration_bits id) format_bits)
    ∙ length-append (stuffed_of no_run (arbitration_bits id))
    (stuffed_of (run_of no_run (arbitration_bits id)) format_bits) in
    let three : length (stuffed_of (run_of no_run (arbitration_bits id)) format_bits) ≡ 3 = format.0 in (
      omega (arith, sent, pays.paid, pays.some (omega arith)),
      ap (λ run. run.long) (run_of-append no_run (arbitration_bits id) format_bits) ∙ format.1,
    )

-- after BRS at most two bits for each byte and one more are inserted
pub data-bounds : (run : Run) (esi : Bool) (payload : List ℕ) → run.long ≡ 1
    → length (stuffed_of run (data_bits_of esi payload)) ≤ 6 + 10 * length payload
data-bounds run esi payload begun =
    let long = length-data_bits_of esi payload in
    let pays = Pays-bits run (data_bits_of esi payload) (omega arith) in
    omega (arith, pays.paid, pays.some (omega arith))

-- fewer bits take fewer ticks
pub ticks_sent-at_most : (network : Network) (size nominal others : ℕ) → nominal ≤ 20 → others ≤ 6 + 10 * size
    → ticks_sent network size nominal others ≤ worst_ticks_of network size
ticks_sent-at_most network size nominal others few_nominal few_others =
    let first = mul-le-mul_right {m = nominal + 13} {n = 33} network.nominal_ticks (omega arith) in
    let second =
    mul-le-mul_right {m = others + crc_bits_of size} {n = 6 + 10 * size + crc_bits_of
    size} network.data_ticks (omega arith) in
    omega (arith, first, second)

-- no frame lasts longer than the greatest length for its number of data bytes
pub ticks_of-at_most : (network : Network) (id : ℕ) (esi : Bool) (payload : List ℕ)
    → ticks_of network (bits_of id esi payload) ≤ worst_ticks_of network (length payload)
ticks_of-at_most network id esi payload =
    let nominal = nominal-bounds id in
    rw (to_brs-bits_of id esi payload, after_brs-bits_of id esi payload, size_of_bits-bits_of id esi payload)
    (ticks_sent-at_most network (length payload) (length (stuffed_of no_run (nominal_bits_of id))) _ nominal.0
    (data-bounds (run_of no_run (nominal_bits_of id)) esi payload nominal.1))
