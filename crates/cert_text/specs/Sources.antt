-- Reading on in a file: which bytes were read, where it broke off, and where the file ends.
use Rattle.std.specs.Prelude.{◌≡◌, ◌⊎◌, ◌==◌, ◌<◌, ◌≤◌, ◌+◌, ◌-◌, ◌^◌, ℕ, Bool, true, false, not, List, [], ◌∷◌, ◌++◌, length, Option, None, Some, IsSome, Result, Ok, Err}
use Rattle.std.specs.List.{list_all}
use Rattle.pack_base.specs.Counts.{Rose}
use Rattle.pack_base.specs.Outside.{Files, Later, SameFaults, bytes_at}
use Rattle.cert_text.specs.declared.fault.FeedFault.{FeedFault}
use Rattle.cert_text.specs.declared.fault.FeedFault.TheVariants as fault
use Rattle.cert_text.specs.CertText.{CertRefusal, bad_line, cut}

-- the bytes that were read and not taken yet, and how many were read
pub record Held : Type 0 where
  pub left : List ℕ
  pub count : ℕ

-- no byte was read
abbrev pub nothing_held : Held
nothing_held = record { left = []; count = 0 }

-- the file begins with the bytes
abbrev pub Begins : List ℕ → List ℕ → Type 0
Begins bytes file = (rest : List ℕ) × (bytes ++ rest ≡ file)

-- no byte is LF
abbrev pub no_end : List ℕ → Bool
no_end bytes = list_all (λ b. not (b == 10)) bytes

-- why reading broke off, where it did
abbrev pub cause : FeedFault → Option FeedFault
cause fault.ReadFault = Some fault.ReadFault
cause fault.TooLarge = Some fault.TooLarge
cause (fault.BadLine n) = None
cause fault.Cut = None
cause fault.Memory = None

-- why reading broke off in a call, where it did
abbrev pub broke : {T : Type 0} → Result T FeedFault → Option FeedFault
broke (Ok x) = None
broke (Err e) = cause e

-- a count of bytes given grew by so many, or stands at its last value
abbrev pub Gave : ℕ → ℕ → ℕ → Type 0
Gave n before now = (now ≡ before + n) ⊎ (2 ^ 64 - 1 ≤ now)

-- a call read these bytes more, from a place on: as many as the count of bytes given grew; a file that is
-- told and begins with the bytes so far begins with these behind them; it broke off where a read failed, or
-- where there are 2 ^ 63 bytes
pub record Reads {F : Type 0} (files : F → Files) (read_faults write_faults given : F → List ℕ → ℕ)
    (name : List ℕ) (at : ℕ) (old now : F) (why : Option FeedFault) (more : List ℕ) : Type 0 where
  pub same : files now ≡ files old
  pub later : Later read_faults write_faults given old now
  pub quiet : (why ≡ Some fault.ReadFault → ⊥) → SameFaults read_faults write_faults old now
  pub rose : why ≡ Some fault.ReadFault → Rose (read_faults old name) (read_faults now name)
  pub gave : Gave (length more) (given old name) (given now name)
  pub front : IsSome (files old) → (bytes : List ℕ) → length bytes ≡ at
      → Begins bytes (bytes_at (files old) name) → Begins (bytes ++ more) (bytes_at (files old) name)
  pub large : why ≡ Some fault.TooLarge → 2 ^ 63 ≤ at + length more
  pub within : (why ≡ Some fault.TooLarge → ⊥) → at + length more < 2 ^ 63

-- a file that is told and begins with as many bytes ends with these behind them
abbrev pub Ends : Files → List ℕ → ℕ → List ℕ → Type 0
Ends files name at more =
    IsSome files → (bytes : List ℕ) → length bytes ≡ at → Begins bytes (bytes_at files name)
    → bytes ++ more ≡ bytes_at files name

-- the next piece stands in the place of what was left, if there is one
pub record ReadOn (files : Files) (name : List ℕ) (old now : Held) (more : List ℕ)
    (goes_on : Bool) : Type 0 where
  pub count : now.count ≡ old.count + length more
  pub left : now.left ≡ more
  pub some : goes_on ≡ true → 0 < length more
  pub none : goes_on ≡ false → (more ≡ []) × Ends files name old.count more

-- what is left up to the next LF was put behind the line, or all where there is none
pub record TakesHere (old now : Held) (before line : List ℕ) (has_end : Bool) : Type 0 where
  pub front : List ℕ
  pub text : line ≡ before ++ front
  pub free : no_end front ≡ true
  pub count : now.count ≡ old.count
  pub found : has_end ≡ true → (old.left ≡ front ++ 10 ∷ now.left) × (length now.left < 65536)
  pub none : has_end ≡ false → old.left ≡ front

-- all up to these bytes was taken, a byte at least
pub record TakesUntil (old now : Held) (rest : List ℕ) : Type 0 where
  pub left : now.left ≡ rest
  pub count : now.count ≡ old.count
  pub few : length rest < 65536

-- the next line was taken, or there is no LF up to the file's end
pub record TakesLine (files : Files) (name : List ℕ) (old now : Held) (more line : List ℕ)
    (has_end : Bool) : Type 0 where
  pub count : now.count ≡ old.count + length more
  pub free : no_end line ≡ true
  pub found : has_end ≡ true → (old.left ++ more ≡ line ++ 10 ∷ now.left) × (length now.left < 65536)
  pub none : has_end ≡ false → (old.left ++ more ≡ line) × Ends files name old.count more

-- all was passed over up to the file's end; whether that was nothing
pub record Drains (files : Files) (name : List ℕ) (old now : Held) (more : List ℕ)
    (is_end : Bool) : Type 0 where
  pub count : now.count ≡ old.count + length more
  pub ends : Ends files name old.count more
  pub left : now.left ≡ []
  pub nothing : is_end ≡ true → old.left ++ more ≡ []
  pub some : is_end ≡ false → 0 < length (old.left ++ more)

-- what a fault says of the text
abbrev pub text_refusal : FeedFault → Option CertRefusal
text_refusal fault.ReadFault = None
text_refusal fault.TooLarge = None
text_refusal (fault.BadLine n) = Some (bad_line n)
text_refusal fault.Cut = Some cut
text_refusal fault.Memory = None
