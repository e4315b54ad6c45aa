use Rattle.std.proofs.Common.{ℕ, ◌+◌, ◌<◌, ◌≤◌, ◌^◌, get_or}
use Rattle.busy_period.specs.Demand.{work_of}
use Rattle.response_test.proofs.chain.end_of_chain.Given as goal

-- the times so far are a chain
abbrev pub invariant-loop-k : goal.invariant-loop-k
invariant-loop-k l = record {
  climbs : (j : ℕ) → j + 1 < l.k → get_or l.times (j + 1) 0 ≤ l.base + work_of l.frames l.numbers (get_or l.times j 0 + l.ahead);
  low : (j : ℕ) → j < l.k → get_or l.times j 0 ≤ 2 ^ 45;
}
