-- Signals. Limits are the project's own.
use Rattle.std.specs.Prelude.{Bool, false, ℕ, nat_eq, ◌≤◌, Option, None, Some, IfSome}
use Rattle.pack_model.specs.declared.signal.Signal.{Signal}

-- each figure of the signal is in its range; a signal's and a sender's names are names by their type
pub record SignalStands (s : Signal) : Type 0 where
  pub pdu_low : IfSome s.pdu (λ id. 1 ≤ id)
  pub bits_low : 1 ≤ s.bits
  pub bits_high : s.bits ≤ 512
  pub period_low : 1 ≤ s.period_us
  pub period_high : s.period_us ≤ 100000000
  pub deadline_low : 1 ≤ s.deadline_us
  pub deadline_high : s.deadline_us ≤ 100000000
  pub jitter_high : s.jitter_us ≤ 100000000

-- both are the id of one I-PDU
abbrev pub same_pdu : Option ℕ → Option ℕ → Bool
same_pdu (Some id) (Some other) = nat_eq id other
same_pdu None other = false
same_pdu (Some id) None = false
