-- Decimals, as the texts write them: the project's own rule.
use Rattle.std.specs.Prelude.{ℕ, ◌+◌, ◌-◌, ◌*◌, ◌==◌, ◌&&◌, ◌||◌, List, [], ◌∷◌, length, slice_index, Bool, not, nat_le, Option, Some, None, if◌then◌else◌}
use Rattle.std.specs.Str.{all_ascii_digits}

-- the number that digits spell, the most significant first, after the number so far
abbrev pub value_after : ℕ → List ℕ → ℕ
value_after n [] = n
value_after n (b ∷ rest) = value_after (n * 10 + (b - 48)) rest

-- digits alone, at least one, and no leading zero other than `0` itself
abbrev pub is_decimal : List ℕ → Bool
is_decimal bytes =
    all_ascii_digits bytes && nat_le 1
    (length bytes) && ((length bytes == 1) || not (slice_index bytes 0 == 48))

-- the number that the bytes spell, where they spell one from low to high
abbrev pub decimal_of : ℕ → ℕ → List ℕ → Option ℕ
decimal_of low high bytes =
    if is_decimal bytes && nat_le low (value_after 0 bytes) && nat_le (value_after 0 bytes) high
    then Some (value_after 0 bytes) else None
