-- The laws of a class as a frame: the project's own.
use Rattle.std.specs.Prelude.{◌≤◌, ◌≡◌, ◌%◌, ◌++◌, List, length}
use Rattle.pack_model.specs.declared.item.Item.{Item}
use Rattle.pack_model.specs.Problem.{Parts, IsProblem, IsCommonPeriod, periods_of}
use Rattle.busy_period.specs.Timed.{IsInRange}
use Rattle.busy_period.specs.Harder.{IsHarder}
use Rattle.class_frame.specs.Frame.{signals_of_items, bytes_of_items, ticks_of_items, period_of_items, timed_of_items}

-- some signal is of the items
abbrev pub HasSignal : Parts → List Item → Type 0
HasSignal problem items = 1 ≤ length (signals_of_items problem items)

-- more items, within 64 bytes, are a harder frame
abbrev pub MoreIsHarder : Type 0
MoreIsHarder = (problem : Parts) (items more : List Item) → IsProblem problem → HasSignal problem items
    → bytes_of_items (items ++ more) ≤ 64
    → IsHarder (timed_of_items problem items) (timed_of_items problem (items ++ more))

-- a frame's period divides the common period
abbrev pub PeriodDivides : Type 0
PeriodDivides = (problem : Parts) (items : List Item) → IsCommonPeriod (periods_of problem.network problem.signals) problem.hyper
    → HasSignal problem items → problem.hyper % period_of_items problem items ≡ 0

-- a nominal bit is no longer than a frame
abbrev pub BitWithin : Type 0
BitWithin = (problem : Parts) (items : List Item) → problem.network.nominal_ticks ≤ ticks_of_items problem items

-- a frame's times are within the limits of a stage
abbrev pub FrameInRange : Type 0
FrameInRange = (problem : Parts) (items : List Item) → IsProblem problem → HasSignal problem items → IsInRange (timed_of_items problem items)
