use Rattle.std.specs.Prelude.{ℕ, Bool, true, ◌&&◌, not, List, [], ◌∷◌, length, nat_eq, nat_le, nat_lt}
use Rattle.std.specs.List.{list_all}
use Rattle.busy_period.specs.declared.timed.TheConstants.{MAX_FRAMES}
use Rattle.busy_period.specs.declared.timed.Timed.{Timed}

-- tests that compute whether `IsInRange`, `IsDistinct` and `IsStage` hold, for stages that are written out
abbrev pub is_in_range : Timed → Bool
is_in_range frame =
    nat_le 1 frame.period && nat_le frame.period 100000000000 && nat_le frame.jitter 100000000000
    && nat_le 1 frame.ticks && nat_le frame.ticks 100000000
    && nat_le 1 frame.deadline && nat_le frame.deadline 100000000000

abbrev pub are_distinct : List ℕ → Bool
are_distinct [] = true
are_distinct (x ∷ xs) = list_all (λ y. not (nat_eq x y)) xs && are_distinct xs

abbrev pub is_stage : List Timed → List ℕ → ℕ → Bool
is_stage frames order place =
    nat_le (length frames) MAX_FRAMES && list_all is_in_range frames && list_all
    (λ number. nat_lt number (length frames)) order
    && are_distinct order && nat_lt place (length order)
