-- Generated cases: the project's own.
use Rattle.std.specs.Prelude.{◌≡◌, ◌≤◌, Ok, length, ℕ, zero, suc, ◌+◌, ◌*◌, List, [], ◌∷◌, ◌++◌, map, None, slice_index, codes, decimal}
use Rattle.std.specs.List.{range_with_len}
use Rattle.pack_model.specs.declared.network.Network.{Network}
use Rattle.pack_model.specs.declared.signal.Signal.{Signal}
use Rattle.pack_model.specs.Problem.{Parts, parts_of, problem_of}
use Rattle.case_gen.specs.declared.generate.Case.{Case}
use Rattle.case_gen.specs.Draws.{next_state, state_after, drawn}

-- the network of each case
abbrev pub case_network : Network
case_network = record { ticks_per_us = 80; nominal_ticks = 160; data_ticks = 40; first_id = 256 }

-- the periods that are drawn from, in microseconds
abbrev pub periods : List ℕ
periods = 10000 ∷ 20000 ∷ 50000 ∷ 100000 ∷ []

-- the period of the signal that is drawn from a state: the second of its two draws
abbrev pub period_of : ℕ → ℕ
period_of state = slice_index periods (drawn 4 (next_state state))

-- the signal of a number, of a sender, that is drawn from a state: its bits, and then its period
abbrev pub signal_of : ℕ → ℕ → ℕ → Signal
signal_of sender number state = record {
  name = codes "S" ++ decimal number;
  sender = codes "ECU" ++ decimal sender;
  pdu = None;
  bits = 1 + drawn 16 state;
  period_us = period_of state;
  deadline_us = period_of state;
  jitter_us = 0;
}

-- the number of signals of a sender, drawn from a state
abbrev pub count_of : ℕ → ℕ
count_of state = 4 + drawn 5 state

-- the signals of a sender, of whom the first has this number, drawn from a state: their count, and then each in turn
abbrev pub signals_of : ℕ → ℕ → ℕ → List Signal
signals_of sender first state =
    map (λ k. signal_of sender (first + k) (state_after (next_state state) (2 * k))) (range_with_len 0 (count_of state))

-- where a sender's draws begin: at the number of its first signal, and at a state
pub record Start : Type 0 where
  pub first : ℕ
  pub state : ℕ

-- where the next sender begins
abbrev pub next_start : Start → Start
next_start start = record {
  first = start.first + count_of start.state;
  state = state_after (next_state start.state) (2 * count_of start.state);
}

-- where the sender at a place begins: the first after the draw of the number of senders
abbrev pub start_of : ℕ → ℕ → Start
start_of number zero = record { first = 1; state = next_state number }
start_of number (suc place) = next_start (start_of number place)

-- the signals of the first senders
abbrev pub signals_of_senders : ℕ → ℕ → List Signal
signals_of_senders number zero = []
signals_of_senders number (suc place) =
    signals_of_senders number place
    ++ signals_of (place + 1) (start_of number place).first (start_of number place).state

-- the number of senders of the case of a number
abbrev pub senders_of : ℕ → ℕ
senders_of number = 2 + drawn 3 number

-- the case of a number
abbrev pub case_of : ℕ → Case
case_of number = record { network = case_network; signals = signals_of_senders number (senders_of number) }

-- the parts of the problem of the case of a number
abbrev pub parts_of_case : ℕ → Parts
parts_of_case number = parts_of (case_of number).network (case_of number).signals

-- What the case of a number is: a problem, of few signals and a short common period.
pub record CaseStands (number : ℕ) : Type 0 where
  pub problem : problem_of (case_of number).network (case_of number).signals ≡ Ok (parts_of_case number)
  pub few : length (case_of number).signals ≤ 32
  pub short : (parts_of_case number).hyper ≤ 8000000
