use Rattle.std.proofs.Common.{◌≡◌, ◌++◌, length}
use Rattle.std.specs.Option.{option_map}
use Rattle.cert_text.specs.CertText.{parts}
use Rattle.cert_text.specs.Words.{numbers_of}
use Rattle.cert_text.proofs.words.numbers_in.Given as goal

-- the words that are left decide
abbrev pub invariant-loop-word : goal.invariant-loop-word
invariant-loop-word l = option_map (λ ns. l.numbers.items ++ ns) (numbers_of (parts 32 l.left)) ≡ numbers_of (parts 32 l.text)

abbrev pub decreases-loop-word : goal.decreases-loop-word
decreases-loop-word l = length l.left
