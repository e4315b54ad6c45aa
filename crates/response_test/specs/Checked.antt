use Rattle.std.specs.Prelude.{ℕ, ◌%◌, Bool, ◌&&◌, List, nat_eq, nat_le}
use Rattle.std.specs.List.{list_all}
use Rattle.busy_period.specs.declared.timed.Timed.{Timed}

-- a test that computes whether `IsBit` holds, for frames that are written out
abbrev pub is_bit : List Timed → ℕ → Bool
is_bit frames bit = nat_le 1 bit && list_all (λ frame. nat_le bit frame.ticks) frames

-- and one for `IsCommon`
abbrev pub is_common : List Timed → ℕ → Bool
is_common frames hyper =
    nat_le 1 hyper && nat_le hyper 1000000000000000 && list_all (λ frame. nat_eq (hyper % frame.period) 0) frames
