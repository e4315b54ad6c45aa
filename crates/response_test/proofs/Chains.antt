-- Laws of chains and climbs.
use Rattle.std.proofs.Common.{◌≡◌, ℕ, ◌+◌, ◌-◌, ◌*◌, ◌<◌, ◌≤◌, zero, suc, List, length, get_or, take, ap, arith, add-zero}
use Rattle.busy_period.specs.declared.timed.Timed.{Timed}
use Rattle.busy_period.specs.Stage.{own_of, lower_of}
use Rattle.busy_period.specs.Demand.{work_of, blocking_of, demand_of}
use Rattle.busy_period.proofs.Stages.{work-own}
use Rattle.response_test.specs.Chain.{IsChain, last_of}

-- a climb that has come so far
pub record IsClimbing (demand : ℕ → ℕ) (first until : ℕ) (times : List ℕ) (time : ℕ) : Type 0 where
  pub some : 1 ≤ length times
  pub begins : get_or times 0 0 ≡ first
  pub climbs : (k : ℕ) → k + 1 < length times → get_or times (k + 1) 0 ≡ demand (get_or times k 0)
  pub before : (k : ℕ) → k + 1 < length times → get_or times k 0 < until
  pub last : last_of times ≡ time
  pub risen : first ≤ time

-- a solution at or after a chain's first time is at least each of its times
pub chain-le : (demand : ℕ → ℕ) (first : ℕ) (times : List ℕ) (time : ℕ)
    → ((earlier later : ℕ) → earlier ≤ later → demand earlier ≤ demand later)
    → IsChain demand first times → first ≤ time → demand time ≤ time
    → (k : ℕ) → k < length times → get_or times k 0 ≤ time
chain-le demand first times time rises chain from done zero inside = omega (arith, chain.begins)
chain-le demand first times time rises chain from done (suc k) inside =
    let earlier : get_or times k 0 ≤ time = chain-le demand first times time rises chain from done k (omega arith) in
    let step : get_or times (k + 1) 0 ≤ demand (get_or times k 0) = chain.climbs k (omega arith) in
    let asked : demand (get_or times k 0) ≤ demand time = rises (get_or times k 0) time earlier in
    let same : get_or times (suc k) 0 ≡ get_or times (k + 1) 0 = ap (λ n. get_or times n 0) (omega arith) in
    omega arith

-- and so it is at least the last one
pub last-le : (demand : ℕ → ℕ) (first : ℕ) (times : List ℕ) (time : ℕ)
    → ((earlier later : ℕ) → earlier ≤ later → demand earlier ≤ demand later)
    → IsChain demand first times → first ≤ time → demand time ≤ time → last_of times ≤ time
last-le demand first times time rises chain from done =
    let some : 1 ≤ length times = chain.some in
    chain-le demand first times time rises chain from done (length times - 1) (omega arith)

-- the demand at a frame's level, as a base and the work of the frames up to its place
pub level_demand : (frames : List Timed) (order : List ℕ) (place base : ℕ) → place < length order
    → base ≡ blocking_of frames (lower_of order place) + 0 * (own_of frames order place).ticks
    → (time : ℕ) → base + work_of frames (take (place + 1) order) (time + 0) ≡ demand_of frames order place time
level_demand frames order place base inside same time =
    omega (arith, same, work-own frames order place time inside, ap (work_of frames (take (place + 1) order)) (add-zero time))
