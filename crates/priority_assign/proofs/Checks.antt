-- What the test of frames that are written out says.
use Rattle.std.proofs.Common.{◌≡◌, ◌≤◌, true, ◌&&◌, IsTrue, List, length, nat_le, All}
use Rattle.std.specs.List.{list_all}
use Rattle.std.proofs.lemmas.Bool.{and_parts, leb-true}
use Rattle.std.proofs.lemmas.List.Elements.{All-weaker}
use Rattle.std.proofs.lemmas.List.Sums.{AllPass-from_list_all}
use Rattle.busy_period.specs.declared.timed.Timed.{Timed}
use Rattle.busy_period.specs.Timed.{IsInRange}
use Rattle.busy_period.specs.Checked.{is_in_range}
use Rattle.busy_period.proofs.Checks.{in_range_from_test}
use Rattle.response_test.specs.Checked.{is_bit}
use Rattle.response_test.specs.Queueing.{IsBit}
use Rattle.response_test.proofs.Checks.{bit_from_test}
use Rattle.priority_assign.specs.Checked.{are_given}

-- at most 128 frames
pub few_from_test : (frames : List Timed) → IsTrue (are_given frames) → length frames ≤ 128
few_from_test frames it =
    leb-true (length frames) 128
    (and_parts (nat_le (length frames) 128) (list_all is_in_range frames)
    (and_parts (nat_le (length frames) 128 && list_all is_in_range frames) (is_bit frames 1) it).0).0

-- each in range
pub ranges_from_test : (frames : List Timed) → IsTrue (are_given frames) → All IsInRange frames
ranges_from_test frames it =
    All-weaker (λ frame. is_in_range frame ≡ true) IsInRange in_range_from_test frames
    (AllPass-from_list_all is_in_range frames
    (and_parts (nat_le (length frames) 128) (list_all is_in_range frames)
    (and_parts (nat_le (length frames) 128 && list_all is_in_range frames) (is_bit frames 1) it).0).1)

-- a bit is no longer than any
pub bit_of_test : (frames : List Timed) → IsTrue (are_given frames) → IsBit frames 1
bit_of_test frames it =
    bit_from_test frames 1 (and_parts (nat_le (length frames) 128 && list_all is_in_range frames) (is_bit frames 1) it).1

-- all three, for the tests
pub ruleset given = (few_from_test, ranges_from_test, bit_of_test)
