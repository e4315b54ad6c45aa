-- The problem of a network and its signals. Items stand for AUTOSAR COM's I-PDUs with fixed layout; limits
-- are the project's own.
use Rattle.std.specs.Prelude.{Bool, false, ℕ, ◌+◌, ◌*◌, ◌%◌, ◌&&◌, not, ◌==◌, nat_eq, nat_lt, List, [], ◌∷◌, ◌++◌, length, map, filter, find, sum_by, fold, is_some, unwrap_or, Option, None, Some, Result, Ok, Err, if◌then◌else◌, ◌≡◌, ◌≤◌, All, ⊤}
use Rattle.std.specs.List.{list_any, enumerate_from, flat_map, range_with_len, position_or_len}
use Rattle.std.specs.List.Sorted.{IsPermutation}
use Rattle.std.specs.Str.{bytes_eq}
use Rattle.pack_model.specs.declared.network.Network.{Network}
use Rattle.pack_model.specs.declared.signal.Signal.{Signal}
use Rattle.pack_model.specs.declared.item.Item.{Item}
use Rattle.pack_model.specs.declared.period.TheConstants.{MAX_HYPER}
use Rattle.pack_model.specs.declared.problem.TheConstants.{MAX_SIGNALS, MAX_ITEMS}
use Rattle.pack_model.specs.declared.problem.ProblemFault.{ProblemFault}
use Rattle.pack_model.specs.declared.problem.ProblemFault.TheVariants.{NoSignals, TooManySignals, TwiceNamed, PduSenders, PduTooLarge, TooManyItems, PeriodsMixed, Memory}
use Rattle.pack_model.specs.Network.{NetworkStands}
use Rattle.pack_model.specs.Signal.{SignalStands, same_pdu}

-- what a problem says: its network, its signals in list order, its items in order, its senders in order, and
-- the common period in ticks
pub record Parts : Type 0 where
  pub network : Network
  pub signals : List Signal
  pub items : List Item
  pub senders : List (List ℕ)
  pub hyper : ℕ

-- the names of the signals, in list order
abbrev pub names_of : List Signal → List (List ℕ)
names_of signals = map (λ s. s.name) signals

-- the first place whose name stands at an earlier place too; the names of `earlier` stand before the list
abbrev pub first_repeat : List (List ℕ) → List (List ℕ) → Option ℕ
first_repeat earlier [] = None
first_repeat earlier (x ∷ xs) =
    if list_any (bytes_eq x) earlier then Some (length earlier) else first_repeat (earlier ++ x ∷ []) xs

-- two signals of one I-PDU have different senders
abbrev pub is_clash : Signal → Signal → Bool
is_clash signal other = same_pdu signal.pdu other.pdu && not (bytes_eq signal.sender other.sender)

-- the first place whose signal is of an I-PDU that an earlier signal of another sender is of; the signals of
-- `earlier` stand before the list
abbrev pub first_clash : List Signal → List Signal → Option ℕ
first_clash earlier [] = None
first_clash earlier (x ∷ xs) =
    if list_any (is_clash x) earlier then Some (length earlier) else first_clash (earlier ++ x ∷ []) xs

-- the different elements of a list, each at its first place
abbrev pub distinct : {X : Type 0} → (X → X → Bool) → List X → List X
distinct eq [] = []
distinct eq (x ∷ xs) = x ∷ filter (λ y. not (eq x y)) (distinct eq xs)

-- the senders, by their first place in the list
abbrev pub senders_of : List Signal → List (List ℕ)
senders_of signals = distinct bytes_eq (map (λ s. s.sender) signals)

-- the signals of a list with their places
abbrev pub placed : List Signal → List (ℕ × Signal)
placed signals = enumerate_from 0 signals

-- a signal of this I-PDU at this place and one of that at that place are of one item: one free signal, or one
-- I-PDU
abbrev pub is_one_item : Option ℕ → ℕ → Option ℕ → ℕ → Bool
is_one_item None place None other = nat_eq place other
is_one_item (Some id) place (Some other_id) other = nat_eq id other_id
is_one_item None place (Some other_id) other = false
is_one_item (Some id) place None other = false

-- the signals at two places are of one item
abbrev pub same_item : ℕ × Signal → ℕ × Signal → Bool
same_item e f = is_one_item e.1.pdu e.0 f.1.pdu f.0

-- the signals of the item of a signal, with their places
abbrev pub signals_with : List Signal → ℕ × Signal → List (ℕ × Signal)
signals_with signals e = filter (same_item e) (placed signals)

-- the item of a signal: the free signal alone, or all signals of the I-PDU
abbrev pub item_of : List Signal → ℕ × Signal → Item
item_of signals e = record {
  sender = position_or_len (bytes_eq e.1.sender) (senders_of signals);
  pdu = e.1.pdu;
  members = map (λ f. f.0) (signals_with signals e);
  bits = sum_by (λ f. f.1.bits) (signals_with signals e);
}

-- the first signal of each item
abbrev pub firsts_of : List Signal → List (ℕ × Signal)
firsts_of signals = distinct same_item (placed signals)

-- the items by the list place of their first signal
abbrev pub items_in_order : List Signal → List Item
items_in_order signals = map (item_of signals) (firsts_of signals)

-- the items of the sender of a number
abbrev pub sent_by : List Item → ℕ → List Item
sent_by items sender = filter (λ item. item.sender == sender) items

-- the items of the first senders, by sender and then as they stood
abbrev pub by_sender : ℕ → List Item → List Item
by_sender senders items = flat_map (sent_by items) (range_with_len 0 senders)

-- the items by sender, and then by the list place of their first signal
abbrev pub items_of : List Signal → List Item
items_of signals = by_sender (length (senders_of signals)) (items_in_order signals)

-- an I-PDU has more bits than a frame
abbrev pub is_too_large : Item → Bool
is_too_large item = is_some item.pdu && nat_lt 512 item.bits

-- the least common multiple of two numbers from 1 on: the least multiple of the first that the second divides
unfoldable pub lcm : ℕ → ℕ → ℕ
lcm a b = a * unwrap_or (find (λ k. (a * k) % b == 0) (range_with_len 1 b)) b

-- the periods of the signals in ticks
abbrev pub periods_of : Network → List Signal → List ℕ
periods_of network signals = map (λ signal. network.ticks_per_us * signal.period_us) signals

-- the common period of the signals in ticks: the least common multiple of their periods
abbrev pub hyper_of : Network → List Signal → ℕ
hyper_of network signals = fold lcm 1 (periods_of network signals)

-- the parts of the problem of a network and signals
abbrev pub parts_of : Network → List Signal → Parts
parts_of network signals =
    record {
      network = network;
      signals = signals;
      items = items_of signals;
      senders =
          senders_of signals;
      hyper = hyper_of network signals;
    }

-- A row is the place in the list plus 2, since the header is row 1.
abbrev pub twice_named : Option ℕ → Result Parts ProblemFault → Result Parts ProblemFault
twice_named None next = next
twice_named (Some place) next = Err (TwiceNamed (place + 2))

abbrev pub pdu_senders : Option ℕ → Result Parts ProblemFault → Result Parts ProblemFault
pdu_senders None next = next
pdu_senders (Some place) next = Err (PduSenders (place + 2))

-- the refusal of an I-PDU that is too large, by its id
abbrev pub pdu_too_large : Option Item → Result Parts ProblemFault → Result Parts ProblemFault
pdu_too_large None next = next
pdu_too_large (Some item) next = Err (PduTooLarge (unwrap_or item.pdu 0))

-- the problem of a network and signals, or the first refusal
abbrev pub problem_of : Network → List Signal → Result Parts ProblemFault
problem_of network signals =
    if length signals == 0 then Err NoSignals
    else if nat_lt MAX_SIGNALS (length signals) then Err TooManySignals
    else twice_named (first_repeat [] (names_of signals))
    (pdu_senders (first_clash [] signals)
    (pdu_too_large (find is_too_large (items_in_order signals))
    (if nat_lt MAX_ITEMS (length (items_in_order signals)) then Err TooManyItems
    else if nat_lt MAX_HYPER (hyper_of network signals) then Err PeriodsMixed
    else Ok (parts_of network signals))))

-- the answer is what the definition says, want of memory aside
abbrev pub Answers : {X : Type 0} → Result X ProblemFault → Result X ProblemFault → Type 0
Answers (Err Memory) definition = ⊤
Answers answer definition = answer ≡ definition

-- the parts are those of a problem that stands
pub record IsProblem (p : Parts) : Type 0 where
  pub network : NetworkStands p.network
  pub signals : All SignalStands p.signals
  pub stands : problem_of p.network p.signals ≡ Ok p

-- the items are those of the list, in another order
abbrev pub IsSorted : List Signal → List Item → Type 0
IsSorted signals items = IsPermutation (items_in_order signals) items

-- the common period is the least number from 1 on that each period divides
pub record IsCommonPeriod (periods : List ℕ) (hyper : ℕ) : Type 0 where
  pub some : 1 ≤ hyper
  pub each : All (λ period. hyper % period ≡ 0) periods
  pub least : (other : ℕ) → 1 ≤ other → All (λ period. other % period ≡ 0) periods → hyper ≤ other
