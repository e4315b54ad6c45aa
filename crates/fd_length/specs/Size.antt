-- The data lengths of a CAN FD frame, as ISO 11898-1 lists them.
use Rattle.std.specs.Prelude.{ℕ, Bool, List, [], ◌∷◌, Option, ◌≤◌, ◌==◌, nat_le, find, position, unwrap_or, slice_index, IsTrue}
use Rattle.std.specs.List.{list_any}

-- the data lengths of a frame in bytes, in the order of their data length codes 0 to 15
abbrev pub sizes : List ℕ
sizes = 0 ∷ 1 ∷ 2 ∷ 3 ∷ 4 ∷ 5 ∷ 6 ∷ 7 ∷ 8 ∷ 12 ∷ 16 ∷ 20 ∷ 24 ∷ 32 ∷ 48 ∷ 64 ∷ []

-- whether a number of bytes is one of the list
abbrev pub is_size : ℕ → Bool
is_size size = list_any (λ listed. listed == size) sizes

-- a number of bytes is one of the list
abbrev pub IsSize : ℕ → Type 0
IsSize size = IsTrue (is_size size)

-- the least size of the list that is at least so many bytes
pub record IsFdSize (bytes size : ℕ) : Type 0 where
  pub listed : IsSize size
  pub enough : bytes ≤ size
  pub least : (other : ℕ) → IsSize other → bytes ≤ other → size ≤ other

-- the first size of the list that is at least so many bytes
abbrev pub fd_size_of : ℕ → Option ℕ
fd_size_of bytes = find (λ listed. nat_le bytes listed) sizes

-- the size that a data length code stands for
abbrev pub size_of_code : ℕ → ℕ
size_of_code code = slice_index sizes code

-- the data length code of a size, its place in the list
abbrev pub code_of_size : ℕ → ℕ
code_of_size size = unwrap_or (position (λ listed. listed == size) sizes) 0
