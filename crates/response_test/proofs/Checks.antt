-- What the tests of a bit's time and of a common period say, and that of a stage as one set with them.
use Rattle.std.proofs.Common.{◌≡◌, ℕ, ◌%◌, ◌≤◌, ◌&&◌, true, IsTrue, List, nat_eq, nat_le}
use Rattle.std.specs.List.{list_all}
use Rattle.std.proofs.lemmas.Bool.{and_parts, eqb-true, leb-true}
use Rattle.std.proofs.lemmas.List.Elements.{All-weaker}
use Rattle.std.proofs.lemmas.List.Sums.{AllPass-from_list_all}
use Rattle.busy_period.specs.declared.timed.Timed.{Timed}
use Rattle.busy_period.proofs.Checks.{stage_from_test}
use Rattle.response_test.specs.Queueing.{IsBit}
use Rattle.response_test.specs.Refuted.{IsCommon}
use Rattle.response_test.specs.Checked.{is_bit, is_common}

pub bit_from_test : (frames : List Timed) (bit : ℕ) → IsTrue (is_bit frames bit) → IsBit frames bit
bit_from_test frames bit it =
    let parts = and_parts (nat_le 1 bit) (list_all (λ (frame : Timed). nat_le bit frame.ticks) frames) it in
    record {
      some = leb-true 1 bit parts.0;
      within = All-weaker (λ (frame : Timed). nat_le bit frame.ticks ≡ true) (λ frame. bit ≤ frame.ticks) (λ frame. leb-true bit frame.ticks) frames
          (AllPass-from_list_all (λ (frame : Timed). nat_le bit frame.ticks) frames parts.1);
    }

-- what the test of a common period says
pub common_from_test : (frames : List Timed) (hyper : ℕ) → IsTrue (is_common frames hyper) → IsCommon frames hyper
common_from_test frames hyper it =
    let multiple = λ (frame : Timed). nat_eq (hyper % frame.period) 0 in
    let parts = and_parts (nat_le 1 hyper && nat_le hyper 1000000000000000) (list_all multiple frames) it in
    let range = and_parts (nat_le 1 hyper) (nat_le hyper 1000000000000000) parts.0 in
    record {
      some = leb-true 1 hyper range.0;
      within = leb-true hyper 1000000000000000 range.1;
      multiple = All-weaker (λ (frame : Timed). multiple frame ≡ true) (λ frame. hyper % frame.period ≡ 0) (λ frame. eqb-true (hyper % frame.period) 0) frames
          (AllPass-from_list_all multiple frames parts.1);
    }

-- the laws, for the tests
pub ruleset written_out = (stage_from_test, bit_from_test, common_from_test)
