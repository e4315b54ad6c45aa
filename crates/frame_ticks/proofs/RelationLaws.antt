-- The relation of stuffing holds of exactly one list, the one that is computed.
use Rattle.std.proofs.Common.{◌≡◌, ◌↔◌, ℕ, ◌<◌, Bool, true, false, not, List, [], ◌∷◌, ◌++◌, length, refl, sym, ap, ◌∙◌, arith}
use Rattle.std.proofs.lemmas.Bool.Decides.{nat_tests}
use Rattle.pack_model.specs.declared.network.Network.{Network}
use Rattle.frame_ticks.specs.Stuffing.{Stuffed, inserts, sends, ends, no_run, run_with, is_fifth, sent_of, run_after, run_of, stuffed_of}
use Rattle.frame_ticks.specs.Ticks.{Lasts, to_brs, after_brs, size_of_bits, ticks_sent, ticks_of}
use Rattle.frame_ticks.proofs.BoundLaws.{run_with-bounds}
use Rattle.frame_ticks.proofs.StuffingLaws.{stuffed_of-nil, stuffed_of-cons, stuffed_of-append}
use Rattle.std.proofs.lemmas.List.{append_cancel_left, take-append-drop}

-- what is computed is what the relation holds of
pub Stuffed-of : (long : ℕ) (value : Bool) (bits : List Bool) → long < 5
    → Stuffed long value bits (stuffed_of (record { long = long; value = value }) bits)
Stuffed-of long value [] short = rw stuffed_of-nil (ends short)
Stuffed-of long value (bit ∷ rest) short =
    rw stuffed_of-cons
    (by_fifth (is_fifth (record { long = long; value = value }) bit) refl
    (Stuffed-of 1 (not bit) rest (omega arith))
    (λ below. Stuffed-of (run_with long value bit) bit rest below)) where
      by_fifth : (fifth : Bool) → is_fifth (record { long = long; value = value }) bit ≡ fifth
          → Stuffed 1 (not bit) rest (stuffed_of (record { long = 1; value = not bit }) rest)
          → (run_with long value bit < 5
          → Stuffed (run_with long value bit) bit rest
          (stuffed_of (record { long = run_with long value bit; value = bit }) rest))
          → Stuffed long value (bit ∷ rest)
          (sent_of (record { long = long; value = value }) bit
          ++ stuffed_of (run_after (record { long = long; value = value }) bit) rest)
      by_fifth true is after_fifth after_other =
          let five : run_with long value bit ≡ 5 = grind (arith, nat_tests) in
          rw is (sends short (inserts five after_fifth))
      by_fifth false is after_fifth after_other =
          let bounds = run_with-bounds long value bit in
          let below : run_with long value bit < 5 = grind (arith, nat_tests) in
          rw is (sends short (after_other below))

-- there is one outcome at most
pub Stuffed-unique : {run : ℕ} {value : Bool} {bits out other : List Bool} → Stuffed run value bits out
    → Stuffed run value bits other → out ≡ other
Stuffed-unique (inserts {value = value} full first) (inserts also second) =
    ap (λ more. not value ∷ more) (Stuffed-unique first second)
Stuffed-unique (inserts full first) (sends short second) = absurd (omega arith)
Stuffed-unique (inserts full first) (ends short) = absurd (omega arith)
Stuffed-unique (sends short first) (inserts full second) = absurd (omega arith)
Stuffed-unique (sends {bit = bit} short first) (sends also second) =
    ap (λ more. bit ∷ more) (Stuffed-unique first second)
Stuffed-unique (ends short) (inserts full second) = absurd (omega arith)
Stuffed-unique (ends short) (ends also) = refl

-- where there is no run yet, its value tells nothing
pub stuffed_of-no_run : (value : Bool) (bits : List Bool)
    → stuffed_of (record { long = 0; value = value }) bits ≡ stuffed_of no_run bits
stuffed_of-no_run true bits = refl
stuffed_of-no_run false [] = rw (stuffed_of-nil, stuffed_of-nil) refl
stuffed_of-no_run false (true ∷ rest) = rw (stuffed_of-cons, stuffed_of-cons) refl
stuffed_of-no_run false (false ∷ rest) = rw (stuffed_of-cons, stuffed_of-cons) refl

-- from the start there is exactly one outcome
pub Stuffed-exactly : (value : Bool) (bits out : List Bool)
    → Stuffed 0 value bits out ↔ (out ≡ stuffed_of no_run bits)
Stuffed-exactly value bits out = (
  λ sent. Stuffed-unique sent (Stuffed-of 0 value bits (omega arith)) ∙ stuffed_of-no_run value bits,
  λ same. rw (same, ← stuffed_of-no_run value bits) (Stuffed-of 0 value bits (omega arith)),
)

-- what is sent splits after BRS
pub stuffed_of-split : (bits : List Bool)
    → stuffed_of no_run bits ≡ stuffed_of no_run (to_brs bits)
    ++ stuffed_of (run_of no_run (to_brs bits)) (after_brs bits)
stuffed_of-split bits =
    ap (λ all. stuffed_of no_run all) (sym (take-append-drop 17 bits))
    ∙ stuffed_of-append no_run (to_brs bits) (after_brs bits)

-- the computed ticks are those of the relation
pub Lasts-from_value : (network : Network) (bits : List Bool) (ticks : ℕ) → ticks ≡ ticks_of network bits
    → Lasts network bits ticks
Lasts-from_value network bits ticks value = record {
  nominal = stuffed_of no_run (to_brs bits);
  others = stuffed_of (run_of no_run (to_brs bits)) (after_brs bits);
  sent_to_brs = Stuffed-of 0 true (to_brs bits) (omega arith);
  sent = rw (← stuffed_of-split bits) (Stuffed-of 0 true bits (omega arith));
  counted = value;
}

-- and no others are
pub ticks_of-from_Lasts : (network : Network) (bits : List Bool) (ticks : ℕ) → Lasts network bits ticks
    → ticks ≡ ticks_of network bits
ticks_of-from_Lasts network bits ticks lasts =
    let nominal = (Stuffed-exactly true (to_brs bits) lasts.nominal).0 lasts.sent_to_brs in
    let all = (Stuffed-exactly true bits (lasts.nominal ++ lasts.others)).0 lasts.sent in
    let others =
    append_cancel_left (stuffed_of no_run (to_brs bits)) lasts.others
    (stuffed_of (run_of no_run (to_brs bits)) (after_brs bits))
    (ap (λ front. front ++ lasts.others) (sym nominal) ∙ all ∙ stuffed_of-split bits) in
    lasts.counted
    ∙ ap (λ front. ticks_sent network (size_of_bits bits) (length front) (length lasts.others)) nominal
    ∙ ap (λ rest. ticks_sent network (size_of_bits bits) (length (stuffed_of no_run (to_brs bits)))
    (length rest)) others
