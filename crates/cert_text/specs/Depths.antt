-- How deep a feed stands, and when it may go on.
use Rattle.std.specs.Prelude.{◌≢◌, ◌<◌, ◌≤◌, ◌+◌, ◌-◌, ◌^◌, ℕ, Bool, true, false, List, [], ◌∷◌, length, Result, Ok, Err}
use Rattle.cert_text.specs.declared.event.Event.{Event}
use Rattle.cert_text.specs.declared.event.Event.TheVariants as event
use Rattle.cert_text.specs.declared.fault.FeedFault.{FeedFault}
use Rattle.cert_text.specs.declared.symbol.Symbol.{Symbol}
use Rattle.cert_text.specs.declared.symbol.Symbol.TheVariants as symbol
use Rattle.cert_text.specs.Sources.{Held}

-- how many inner nodes lack subtrees, where these pieces are to come
abbrev pub depth_of : List Symbol → ℕ
depth_of [] = 0
depth_of (symbol.TreeAt marks depth ∷ ss) = depth
depth_of (symbol.Join depth ∷ ss) = depth
depth_of (s ∷ ss) = 0

-- fewer bytes than a file may have were read, and each line judged took one at least
pub record IsWithin (held : Held) (lines : ℕ) : Type 0 where
  pub count : held.count < 2 ^ 63
  pub taken : lines + length held.left ≤ held.count

-- pieces are to come, and less than a piece of the file isn't judged
pub record MayGoOn (to_come : List Symbol) (held : Held) (lines : ℕ) : Type 0 where
  pub some : to_come ≢ []
  pub within : IsWithin held lines
  pub few : length held.left < 65536

-- how many bytes may come after those judged
abbrev pub bytes_ahead : Held → ℕ
bytes_ahead held = 2 ^ 63 + length held.left - held.count

-- no further event comes after this answer
abbrev pub is_last : Result Event FeedFault → Bool
is_last (Ok event.Finish) = true
is_last (Ok e) = false
is_last (Err fault) = true
