-- Items in one frame: its header, bytes, size, weight, times, ticks and load. Headers are those of AUTOSAR IpduM, sizes and ticks those of ISO 11898-1; how the times of signals are merged, and the weights, are the project's own.
use Rattle.std.specs.Prelude.{ℕ, Bool, ◌*◌, ◌/◌, min, max, List, [], ◌∷◌, Option, map, fold, sum_by, unwrap_or, slice_get, is_some, if◌then◌else◌}
use Rattle.std.specs.List.{filter_map, flat_map, list_any}
use Rattle.std.specs.Int.{div_ceil}
use Rattle.pack_model.specs.declared.signal.Signal.{Signal}
use Rattle.pack_model.specs.declared.item.Item.{Item}
use Rattle.pack_model.specs.Problem.{Parts}
use Rattle.fd_length.specs.Size.{fd_size_of}
use Rattle.frame_ticks.specs.Worst.{worst_ticks_of}
use Rattle.container_pdu.specs.declared.header.Header.{Header}
use Rattle.container_pdu.specs.Bytes.{header_of, bytes_of_parts}
use Rattle.busy_period.specs.declared.timed.Timed.{Timed}

-- the ids of the I-PDUs among items, in order
abbrev pub ids_of : List Item → List ℕ
ids_of items = filter_map (λ item. item.pdu) items

-- the header that items have in one frame
abbrev pub header_of_items : List Item → Header
header_of_items items = header_of (ids_of items)

-- an item is an I-PDU
abbrev pub is_pdu : Item → Bool
is_pdu item = is_some item.pdu

-- the bytes of an item alone: its bits, rounded up
abbrev pub bytes_of_item : Item → ℕ
bytes_of_item item = div_ceil item.bits 8

-- the bytes of items in one frame: of free items their bits together, rounded up; of I-PDUs the bytes of each, with headers where they are two or more
abbrev pub bytes_of_items : List Item → ℕ
bytes_of_items items =
    if list_any is_pdu items then bytes_of_parts (ids_of items) (map bytes_of_item items)
    else div_ceil (sum_by (λ item. item.bits) items) 8

-- the data length of the frame of items; none above 64 bytes
abbrev pub size_of_items : List Item → Option ℕ
size_of_items items = fd_size_of (bytes_of_items items)

-- the weight of an item: the bits of a free one, 8 times the bytes of an I-PDU
abbrev pub weight_of_item : Item → ℕ
weight_of_item item = if is_pdu item then 8 * bytes_of_item item else item.bits

-- the weight of items: of each, together
abbrev pub weight_of_items : List Item → ℕ
weight_of_items items = sum_by weight_of_item items

-- the signals of items, by item and then by list place
abbrev pub signals_of_items : Parts → List Item → List Signal
signals_of_items problem items = flat_map (λ item. filter_map (slice_get problem.signals) item.members) items

-- the least of some numbers, 0 of none
abbrev pub least : List ℕ → ℕ
least [] = 0
least (x ∷ xs) = fold min x xs

-- the greatest of some numbers, 0 of none
abbrev pub greatest : List ℕ → ℕ
greatest xs = fold max 0 xs

-- the frame's period in ticks: the least of its signals
abbrev pub period_of_items : Parts → List Item → ℕ
period_of_items problem items = problem.network.ticks_per_us * least (map (λ signal. signal.period_us) (signals_of_items problem items))

-- the frame's deadline in ticks: the least of its signals
abbrev pub deadline_of_items : Parts → List Item → ℕ
deadline_of_items problem items = problem.network.ticks_per_us * least (map (λ signal. signal.deadline_us) (signals_of_items problem items))

-- the frame's jitter in ticks: the greatest of its signals
abbrev pub jitter_of_items : Parts → List Item → ℕ
jitter_of_items problem items = problem.network.ticks_per_us * greatest (map (λ signal. signal.jitter_us) (signals_of_items problem items))

-- the greatest length of the frame in ticks, within 64 bytes
abbrev pub ticks_of_items : Parts → List Item → ℕ
ticks_of_items problem items = worst_ticks_of problem.network (unwrap_or (size_of_items items) 0)

-- the items as a frame of the response-time test
abbrev pub timed_of_items : Parts → List Item → Timed
timed_of_items problem items = record {
  period = period_of_items problem items;
  jitter = jitter_of_items problem items;
  ticks = ticks_of_items problem items;
  deadline = deadline_of_items problem items;
}

-- the load of the frame: its ticks in a common period
abbrev pub load_of_items : Parts → List Item → ℕ
load_of_items problem items = ticks_of_items problem items * (problem.hyper / period_of_items problem items)
