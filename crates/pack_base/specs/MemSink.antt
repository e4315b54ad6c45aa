-- What a sink in memory was told and counts.
use Rattle.std.specs.Prelude.{◌≡◌, ℕ, List, [], Option, None, Some}
use Rattle.pack_base.specs.Failures.{IsNextListed, IsNextCall}
use Rattle.pack_base.specs.declared.mem_sink.MemSink.{MemSink}

-- all that was said, which it tells
abbrev pub said_to : MemSink → Option (List ℕ)
said_to sink = Some sink.said.items

abbrev pub faults_of : MemSink → ℕ
faults_of sink = sink.faults

-- its count of refused growths
abbrev pub refused_of : MemSink → ℕ
refused_of sink = sink.refused

-- the numbers of the calls that are to fail
abbrev pub listed_of : MemSink → List ℕ
listed_of sink = sink.failures.numbers.items

-- its next call is to fail
abbrev pub FailsNext : MemSink → Type 0
FailsNext sink = IsNextListed sink.failures

-- a call of it was made, and the same calls are to fail
abbrev pub CallMade : MemSink → MemSink → Type 0
CallMade old new = IsNextCall old.failures new.failures

-- the same was said, no call of it was made, and no count changed
pub record SameButListed (old new : MemSink) : Type 0 where
  pub said : new.said.items ≡ old.said.items
  pub from : new.failures.from ≡ old.failures.from
  pub made : new.failures.made ≡ old.failures.made
  pub faults : new.faults ≡ old.faults
  pub refused : new.refused ≡ old.refused

-- nothing was said, no calls were made or are to fail, and its counts are 0
pub record IsNewSink (sink : MemSink) : Type 0 where
  pub said : sink.said.items ≡ []
  pub listed : sink.failures.numbers.items ≡ []
  pub from : sink.failures.from ≡ None
  pub made : sink.failures.made ≡ 0
  pub faults : sink.faults ≡ 0
  pub refused : sink.refused ≡ 0
