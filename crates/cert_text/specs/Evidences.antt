-- The lines of evidence that bytes begin with.
use Rattle.std.specs.Prelude.{◌≡◌, ◌≤◌, ℕ, List, [], ◌∷◌, ◌++◌, length, map, decimal}
use Rattle.std.specs.List.{join_with_byte}
use Rattle.response_test.specs.declared.evidence.Evidence.{Evidence}
use Rattle.cert_text.specs.declared.line.Line.TheVariants as line
use Rattle.cert_text.specs.Lines.{AreNumbers, LineInRange, line_text}

-- numbers with a blank behind each, and then these bytes
abbrev pub with_blanks : List ℕ → List ℕ → List ℕ
with_blanks [] rest = rest
with_blanks (n ∷ ns) rest = decimal n ++ (32 ∷ with_blanks ns rest)

-- the bytes begin with these numbers and a blank behind each
pub record BlankNumbers (bytes ns left : List ℕ) : Type 0 where
  pub text : bytes ≡ with_blanks ns left
  pub small : AreNumbers ns

-- the bytes begin with these numbers and LF
pub record EndNumbers (bytes ns after : List ℕ) : Type 0 where
  pub text : bytes ≡ join_with_byte 32 (map decimal ns) ++ (10 ∷ after)
  pub small : AreNumbers ns
  pub some : 1 ≤ length ns

-- the bytes begin with this line of evidence, and these follow its LF
pub record BeginsAgainst (bytes : List ℕ) (label : ℕ) (e : Evidence) (after : List ℕ) : Type 0 where
  pub text : bytes ≡ line_text (line.AgainstLine label e) ++ (10 ∷ after)
  pub in_range : LineInRange (line.AgainstLine label e)

-- the bytes begin with the line of a fail leaf with so much evidence, and these follow its LF
pub record BeginsFail (bytes : List ℕ) (n : ℕ) (after : List ℕ) : Type 0 where
  pub text : bytes ≡ line_text (line.FailLine n) ++ (10 ∷ after)
  pub some : 1 ≤ n
  pub most : n ≤ 128
