-- Counts of faults and of bytes: they never fall, and stay at 2^64 - 1 once they are there.
use Rattle.std.specs.Prelude.{ℕ, ◌+◌, ◌-◌, ◌^◌, ◌≤◌, min, Result, OnErr}
use Rattle.pack_base.specs.declared.outside.Failed.{Failed}

-- a count after n more
abbrev pub counted : ℕ → ℕ → ℕ
counted before n = min (before + n) (2 ^ 64 - 1)

-- a count grew by at least n, or stands at its last value
abbrev pub GrewBy : ℕ → ℕ → ℕ → Type 0
GrewBy n before now = counted before n ≤ now

-- a count rose: it is greater than before, or stands at its last value
abbrev pub Rose : ℕ → ℕ → Type 0
Rose before now = GrewBy 1 before now

-- a failure is answered only where its count of faults rose
abbrev pub HasCause : {T : Type 0} → ℕ → ℕ → Result T Failed → Type 0
HasCause before now result = OnErr result (Rose before now)
