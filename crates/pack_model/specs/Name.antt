-- Names of signals and senders: the project's own rule.
use Rattle.std.specs.Prelude.{ℕ, List, length, Bool, ◌&&◌, not, nat_le, nat_eq, IsTrue}
use Rattle.std.specs.List.{list_all}

-- a printing ASCII byte that is neither a comma nor a double quote
abbrev pub is_name_byte : ℕ → Bool
is_name_byte b = nat_le 0x21 b && nat_le b 0x7e && not (nat_eq b 0x2c) && not (nat_eq b 0x22)

-- 1 to 64 such bytes
abbrev pub is_name : List ℕ → Bool
is_name bytes = nat_le 1 (length bytes) && nat_le (length bytes) 64 && list_all is_name_byte bytes

-- the bytes are a name
abbrev pub IsName : List ℕ → Type 0
IsName bytes = IsTrue (is_name bytes)
