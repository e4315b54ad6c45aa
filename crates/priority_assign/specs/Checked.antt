use Rattle.std.specs.Prelude.{Bool, ◌&&◌, List, length, nat_le}
use Rattle.std.specs.List.{list_all}
use Rattle.busy_period.specs.declared.timed.Timed.{Timed}
use Rattle.busy_period.specs.Checked.{is_in_range}
use Rattle.response_test.specs.Checked.{is_bit}

-- a test that computes whether `assign` may be asked with a bit of 1 tick, for frames that are written out
abbrev pub are_given : List Timed → Bool
are_given frames = nat_le (length frames) 128 && list_all is_in_range frames && is_bit frames 1
