use Rattle.std.proofs.Common.{◌≡◌, ◌++◌, length}
use Rattle.std.specs.Option.{option_map}
use Rattle.cert_text.specs.CertText.{parts}
use Rattle.cert_text.specs.Words.{before_slash}
use Rattle.cert_text.proofs.words.sides_in.Given as goal

-- the words that are left decide
abbrev pub invariant-loop-word : goal.invariant-loop-word
invariant-loop-word l = option_map (λ p. (l.numbers.items ++ p.0, p.1)) (before_slash (parts 32 l.left)) ≡ before_slash (parts 32 l.text)

abbrev pub decreases-loop-word : goal.decreases-loop-word
decreases-loop-word l = length l.left
