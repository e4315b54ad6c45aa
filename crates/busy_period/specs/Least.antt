use Rattle.std.specs.Prelude.{ℕ, ◌≤◌}

-- n is the least number at which P holds
pub record IsLeast (P : ℕ → Type 0) (n : ℕ) : Type 0 where
  pub holds : P n
  pub least : (m : ℕ) → P m → n ≤ m
