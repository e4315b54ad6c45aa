-- Laws of the data lengths, for the proofs of callers.
use Rattle.std.proofs.Common.{◌≡◌, ℕ, ◌≤◌, ◌<◌, Option, Some, None, refl, ap, ◌∙◌, arith}
use Rattle.std.proofs.lemmas.Bool.Decides.{nat_tests}
use Rattle.fd_length.specs.Size.{IsSize, IsFdSize, fd_size_of, code_of_size}

-- a frame has at most 64 data bytes
pub IsSize-at_most : (size : ℕ) → IsSize size → size ≤ 64
IsSize-at_most size h = grind (arith, nat_tests)

-- a size is the least that holds itself
pub fd_size_of-size : (size : ℕ) → IsSize size → fd_size_of size ≡ Some size
fd_size_of-size size h = grind (arith, nat_tests)

-- above 64 bytes there is no size
pub fd_size_of-none : (bytes : ℕ) → 64 < bytes → fd_size_of bytes ≡ None
fd_size_of-none bytes h = grind (arith, nat_tests)

-- up to 64 bytes there is one
pub fd_size_of-some : (bytes : ℕ) → bytes ≤ 64 → (size : ℕ) × (fd_size_of bytes ≡ Some size)
fd_size_of-some bytes within = from_option (fd_size_of bytes) (λ missing. grind (arith, nat_tests)) where
  from_option : (found : Option ℕ) → (found ≡ None → ⊥) → (size : ℕ) × (found ≡ Some size)
  from_option None h = absurd (h refl)
  from_option (Some size) h = (size, refl)

-- fewer bytes never need a greater size
pub fd_size_of-rises : (fewer more size larger : ℕ) → fewer ≤ more → fd_size_of fewer ≡ Some size
    → fd_size_of more ≡ Some larger → size ≤ larger
fd_size_of-rises fewer more size larger h small large = grind (arith, nat_tests)

-- what the table gives is the least size
pub IsFdSize-from_value : (bytes size : ℕ) → fd_size_of bytes ≡ Some size → IsFdSize bytes size
IsFdSize-from_value bytes size h = record {
  listed = grind (arith, nat_tests);
  enough = grind (arith, nat_tests);
  least =
      λ other listed enough. fd_size_of-rises bytes other size other enough h (fd_size_of-size other listed);
}

-- the least size is what the table gives
pub fd_size_of-least : (bytes size : ℕ) → IsFdSize bytes size → fd_size_of bytes ≡ Some size
fd_size_of-least bytes size h =
    let below = IsSize-at_most size h.listed in
    let found = fd_size_of-some bytes (omega (arith, h.enough)) in
    let least = IsFdSize-from_value bytes found.0 found.1 in
    let up = h.least found.0 least.listed least.enough in
    let down = least.least size h.listed h.enough in
    let same : found.0 ≡ size = omega arith in
    found.1 ∙ ap (λ n. Some n) same

-- a size has one of the sixteen codes
pub code_of_size-at_most : (size : ℕ) → IsSize size → code_of_size size ≤ 15
code_of_size-at_most size h = grind (arith, nat_tests)
