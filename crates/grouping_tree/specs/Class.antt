-- What is kept of a class: the project's own.
use Rattle.std.specs.Prelude.{ℕ, ◌≡◌, ◌==◌, ◌+◌, ◌*◌, ◌/◌, ◌&&◌, min, List, AllPairs}
use Rattle.pack_model.specs.declared.item.Item.{Item}
use Rattle.pack_model.specs.Problem.{Parts}
use Rattle.container_pdu.specs.Bytes.{header_bytes}
use Rattle.class_frame.specs.Frame.{header_of_items, is_pdu, period_of_items, timed_of_items}
use Rattle.class_frame.specs.Sums.{sums_of}
use Rattle.class_frame.specs.declared.sums.Sums.{Sums}
use Rattle.grouping_tree.specs.Slack.{free_bits_of}
use Rattle.grouping_tree.specs.declared.class.Class.{Class}
use Rattle.grouping_tree.specs.declared.class.Fill.{Fill}

-- what of sums says what items take in one frame
abbrev pub fill_of : Sums → Fill
fill_of sums = record { pdus = sums.pdus; weight = sums.weight; sender = sums.first_sender; short_ids = sums.short_ids }

-- that of items and of others, one after the other
abbrev pub together : Fill → Fill → Fill
together a b = record {
  pdus = a.pdus + b.pdus;
  weight = a.weight + b.weight;
  sender = min a.sender b.sender;
  short_ids = a.short_ids && b.short_ids;
}

-- that of these items
abbrev pub IsFill : Parts → List Item → Fill → Type 0
IsFill problem items fill = fill ≡ fill_of (sums_of problem items)

-- those of one sender, and both of free items or both of I-PDUs
pub record AreAlike (a b : Fill) : Type 0 where
  pub sender : a.sender ≡ b.sender
  pub kind : (a.pdus == 0) ≡ (b.pdus == 0)

-- all are free or all are I-PDUs
abbrev pub AreOneKind : List Item → Type 0
AreOneKind items = AllPairs (λ item other. is_pdu item ≡ is_pdu other) items

-- the bytes of the header that items have in one frame
abbrev pub header_bytes_of : List Item → ℕ
header_bytes_of items = header_bytes (header_of_items items)

-- what is kept of a class: what its items take, how often its frame is sent in a common period, the ticks of its free bits in eighths, and the frame
pub record IsClass (problem : Parts) (items : List Item) (class : Class) : Type 0 where
  pub fill : IsFill problem items class.fill
  pub share : class.share ≡ problem.hyper / period_of_items problem items
  pub free : class.free ≡ 10 * problem.network.data_ticks * free_bits_of items
  pub frame : class.frame ≡ timed_of_items problem items
