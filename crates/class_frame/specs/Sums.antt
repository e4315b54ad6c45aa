-- Running sums of items: the project's own.
use Rattle.std.specs.Prelude.{ℕ, Bool, true, ◌⊎◌, ◌≡◌, ◌≤◌, ◌+◌, ◌^◌, ◌&&◌, min, max, nat_lt, List, length, map, fold, sum_by, Option, Some, None}
use Rattle.std.specs.List.{list_all}
use Rattle.pack_model.specs.declared.network.Network.{Network}
use Rattle.pack_model.specs.declared.signal.Signal.{Signal}
use Rattle.pack_model.specs.declared.item.Item.{Item}
use Rattle.pack_model.specs.Problem.{Parts, IsProblem}
use Rattle.class_frame.specs.Frame.{ids_of, bytes_of_item, weight_of_item, signals_of_items}
use Rattle.class_frame.specs.declared.sums.Sums.{Sums}
use Rattle.class_frame.specs.declared.times.Times.{Times}

-- the figure that no number, period or deadline is above
abbrev pub top : ℕ
top = 4294967295

-- the times of signals: the least period and deadline, and the greatest jitter
abbrev pub times_of : List Signal → Times
times_of signals = record {
  period_us = fold min top (map (λ signal. signal.period_us) signals);
  deadline_us = fold min top (map (λ signal. signal.deadline_us) signals);
  jitter_us = fold max 0 (map (λ signal. signal.jitter_us) signals);
}

-- times with those of one more signal
abbrev pub with_signal : Times → Signal → Times
with_signal times signal = record {
  period_us = min times.period_us signal.period_us;
  deadline_us = min times.deadline_us signal.deadline_us;
  jitter_us = max times.jitter_us signal.jitter_us;
}

-- an item is free or has an id of 24 bits at most
abbrev pub is_short : Option ℕ → Bool
is_short None = true
is_short (Some id) = nat_lt id (2 ^ 24)

-- the sums of items
abbrev pub sums_of : Parts → List Item → Sums
sums_of problem items = record {
  items = length items;
  pdus = length (ids_of items);
  short_ids = list_all (λ item. is_short item.pdu) items;
  bits = sum_by (λ item. item.bits) items;
  bytes = sum_by bytes_of_item items;
  weight = sum_by weight_of_item items;
  first_sender = fold min top (map (λ item. item.sender) items);
  last_sender = fold max 0 (map (λ item. item.sender) items);
  period_us = (times_of (signals_of_items problem items)).period_us;
  deadline_us = (times_of (signals_of_items problem items)).deadline_us;
  jitter_us = (times_of (signals_of_items problem items)).jitter_us;
}

-- the sums are those of the items
abbrev pub AreSums : Parts → List Item → Sums → Type 0
AreSums problem items sums = sums ≡ sums_of problem items

-- sums joined, part by part
abbrev pub joined : Sums → Sums → Sums
joined a b = record {
  items = a.items + b.items;
  pdus = a.pdus + b.pdus;
  short_ids = a.short_ids && b.short_ids;
  bits = a.bits + b.bits;
  bytes = a.bytes + b.bytes;
  weight = a.weight + b.weight;
  first_sender = min a.first_sender b.first_sender;
  last_sender = max a.last_sender b.last_sender;
  period_us = min a.period_us b.period_us;
  deadline_us = min a.deadline_us b.deadline_us;
  jitter_us = max a.jitter_us b.jitter_us;
}

-- sums that are no more than those of 128 items of at most 512 bits
pub record IsSmall (sums : Sums) : Type 0 where
  pub items : sums.items ≤ 128
  pub pdus : sums.pdus ≤ 128
  pub bits : sums.bits ≤ 65536
  pub bytes : sums.bytes ≤ 8192
  pub weight : sums.weight ≤ 65536

-- items of these sums and so many bytes can be in one frame: of one sender, all free or all I-PDUs, within 64 bytes
pub record IsOneFrame (sums : Sums) (bytes : ℕ) : Type 0 where
  pub one_sender : sums.last_sender ≤ sums.first_sender
  pub one_kind : (sums.pdus ≡ 0) ⊎ (sums.pdus ≡ sums.items)
  pub small : bytes ≤ 64

-- a problem that stands is on the network
pub record IsOn (problem : Parts) (network : Network) : Type 0 where
  pub stands : IsProblem problem
  pub same : problem.network ≡ network
