-- Tests that compute whether frames and releases that are written out are those of a bus.
use Rattle.std.specs.Prelude.{Bool, true, ◌&&◌, List, [], ◌∷◌, length, nat_le, nat_lt}
use Rattle.std.specs.List.{list_all}
use Rattle.frame_ticks.specs.declared.bits.TheConstants.{IDENTIFIERS}
use Rattle.busy_period.specs.declared.timed.TheConstants.{MAX_FRAMES}
use Rattle.fd_length.specs.Size.{is_size}
use Rattle.busy_period.specs.Checked.{is_in_range}
use Rattle.bus_run.specs.declared.run.BusFrame.{BusFrame}
use Rattle.bus_run.specs.declared.run.Release.{Release}

-- whether each identifier is below all later ones
abbrev pub is_ascending : List BusFrame → Bool
is_ascending [] = true
is_ascending (frame ∷ frames) = list_all (λ later. nat_lt frame.id later.id) frames && is_ascending frames

-- whether a frame may be one of a bus
abbrev pub is_bus_frame : BusFrame → Bool
is_bus_frame frame = nat_lt frame.id IDENTIFIERS && is_size frame.size && is_in_range frame.timed

-- whether `AreBusFrames` holds
abbrev pub are_bus_frames : List BusFrame → Bool
are_bus_frames frames =
    nat_le (length frames) MAX_FRAMES && is_ascending frames && list_all is_bus_frame frames

-- whether the times of a release are within the limit
abbrev pub is_limited : Release → Bool
is_limited release = nat_le release.arrival 1000000000000000000 && nat_le release.queued 1000000000000000000

-- whether releases are few, and their times within the limit
abbrev pub are_limited : List Release → Bool
are_limited releases = nat_le (length releases) 4294967295 && list_all is_limited releases
