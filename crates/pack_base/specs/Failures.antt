-- The calls of an object in memory that are to fail.
use Rattle.std.specs.Prelude.{◌≡◌, ◌≤◌, ◌⊎◌, ℕ, min, Option, None, Some, Contains}
use Rattle.pack_base.specs.Counts.{counted}
use Rattle.pack_base.specs.declared.failures.Failures.{Failures}

-- there is a number from which all calls are to fail, and this one is at or after it
abbrev pub IsFrom : Option ℕ → ℕ → Type 0
IsFrom None number = ⊥
IsFrom (Some from) number = from ≤ number

-- the earlier of the number from which all calls are to fail, where there is one, and a further one
abbrev pub earlier : Option ℕ → ℕ → ℕ
earlier None number = number
earlier (Some from) number = min from number

-- the next call's number is among those that are to fail
abbrev pub IsNextListed : Failures → Type 0
IsNextListed failures =
    Contains failures.numbers.items (counted failures.made 1) ⊎ IsFrom failures.from (counted failures.made 1)

-- one more call was made, and the same numbers are to fail
pub record IsNextCall (old new : Failures) : Type 0 where
  pub numbers : new.numbers.items ≡ old.numbers.items
  pub from : new.from ≡ old.from
  pub made : new.made ≡ counted old.made 1
