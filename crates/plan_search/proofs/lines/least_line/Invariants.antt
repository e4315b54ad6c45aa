use Rattle.std.proofs.Common.{◌≡◌, ℕ, ◌<◌, length, get_or}
use Rattle.response_test.specs.Frame.{FrameLeastStart}
use Rattle.plan_search.proofs.lines.least_line.Given as goal

-- the least starts of the instances so far
abbrev pub invariant-loop-instance : goal.invariant-loop-instance
invariant-loop-instance l = record {
  count : length l.queue.items ≡ l.instance;
  starts : (k d : ℕ) → k < l.instance → FrameLeastStart l.frames l.order l.place l.bit k
      (get_or l.queue.items k d);
}
