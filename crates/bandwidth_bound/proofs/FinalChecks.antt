-- What the tests of frames that are written out say.
use Rattle.std.proofs.Common.{◌≤◌, IsTrue, List, [], ◌∷◌, length, All}
use Rattle.busy_period.specs.declared.timed.Timed.{Timed}
use Rattle.busy_period.specs.Timed.{IsInRange}
use Rattle.busy_period.specs.Checked.{is_stage}
use Rattle.busy_period.proofs.Checks.{stage_from_test}
use Rattle.response_test.proofs.Checks.{bit_from_test, common_from_test}

pub few_from_test : (frames : List Timed) → IsTrue (is_stage frames (0 ∷ []) 0) → length frames ≤ 128
few_from_test frames it = (stage_from_test frames (0 ∷ []) 0 it).few

pub range_from_test : (frames : List Timed) → IsTrue (is_stage frames (0 ∷ []) 0) → All IsInRange frames
range_from_test frames it = (stage_from_test frames (0 ∷ []) 0 it).in_range

-- the laws, for the tests
pub ruleset written_out = (few_from_test, range_from_test, bit_from_test, common_from_test)
