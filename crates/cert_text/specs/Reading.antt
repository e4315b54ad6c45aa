-- The certificate of a text, or its first refusal, as the reader finds them line by line.
use Rattle.std.specs.Prelude.{ℕ, ◌+◌, List, [], ◌∷◌, Option, Some, None, Result, Ok, Err}
use Rattle.std.specs.Option.{option_and_then}
use Rattle.cert_text.specs.declared.line.Line.{Line}
use Rattle.cert_text.specs.declared.symbol.Symbol.{Symbol}
use Rattle.cert_text.specs.Parts.{CertParts}
use Rattle.cert_text.specs.CertText.{CertRefusal, bad_line, cut, ended_lines, unfinished}
use Rattle.cert_text.specs.Words.{line_of}
use Rattle.cert_text.specs.Grammar.{after, start}
use Rattle.cert_text.specs.Making.{cert_made, made, nothing_made}
use Rattle.cert_text.specs.Heard.{collect, silent}

-- what is to come after lines of bytes
unfoldable pub lead : List Symbol → List (List ℕ) → Option (List Symbol)
lead ss [] = Some ss
lead ss (b ∷ bs) = option_and_then (λ next. lead next bs) (option_and_then (λ l. after ss l) (line_of b))

-- at the end of the lines
abbrev pub at_end : ℕ → List Symbol → List ℕ → Option CertRefusal
at_end n [] [] = None
at_end n [] (b ∷ bytes) = Some (bad_line n)
at_end n (s ∷ ss) bytes = Some cut

-- a line that can't stand is bad
abbrev pub or_bad : ℕ → (List Symbol → Option CertRefusal) → Option (List Symbol) → Option CertRefusal
or_bad n further None = Some (bad_line n)
or_bad n further (Some next) = further next

-- the first refusal from line n on
unfoldable pub refusal : ℕ → List Symbol → List (List ℕ) → List ℕ → Option CertRefusal
refusal n ss [] rest = at_end n ss rest
refusal n ss (b ∷ bs) rest =
    or_bad n (λ next. refusal (n + 1) next bs rest) (option_and_then (λ l. after ss l) (line_of b))

-- a line, if there is one, and then these
abbrev pub onto_said : Option Line → List Line → List Line
onto_said None ls = ls
onto_said (Some l) ls = l ∷ ls

-- the lines that lines of bytes say
unfoldable pub lines_said : List (List ℕ) → List Line
lines_said [] = []
lines_said (b ∷ bs) = onto_said (line_of b) (lines_said bs)

-- the certificate that a text's lines make
unfoldable pub value_of : List ℕ → CertParts
value_of bytes = cert_made (made nothing_made (collect silent (lines_said (ended_lines bytes))))

-- the first refusal of a text, if it has one
abbrev pub refusal_of : List ℕ → Option CertRefusal
refusal_of bytes = refusal 1 start (ended_lines bytes) (unfinished bytes)

-- a value, unless it is refused
abbrev pub unless : Option CertRefusal → CertParts → Result CertParts CertRefusal
unless None cert = Ok cert
unless (Some why) cert = Err why

-- the certificate of a text, or why it has none
unfoldable pub cert_of_text : List ℕ → Result CertParts CertRefusal
cert_of_text bytes = unless (refusal_of bytes) (value_of bytes)
