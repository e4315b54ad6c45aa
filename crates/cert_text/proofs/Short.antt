-- Words that are too few or too many for a line.
use Rattle.std.proofs.Common.{◌≡◌, ◌<◌, ℕ, List, [], ◌∷◌, length, Option, Some, None, arith, refl}
use Rattle.std.specs.Option.{option_and_then}
use Rattle.csv_table.specs.Decimal.{decimal_of}
use Rattle.cert_text.specs.Words.{first_said, frame_said, kind_said, lemma_said, long_said, number_of, worded, words_said}

-- nothing follows from what is there
nothing : {A : Type 0} {B : Type 0} (o : Option A) → option_and_then {T = A} {U = B} (λ x. None) o ≡ None
nothing None = refl
nothing (Some x) = refl

-- a label alone is no evidence
pub long_alone : (l : List ℕ) → long_said (l ∷ []) ≡ None
long_alone l = nothing (decimal_of 0 127 l)

-- a busy period alone is no frame
pub frame_alone : (t : List ℕ) → frame_said (t ∷ []) ≡ None
frame_alone t = nothing (number_of t)

-- a word and further ones
pub words_more : (w : List ℕ) (ws : List (List ℕ)) → 0 < length ws → words_said (w ∷ ws) ≡ worded w ws
words_more w [] some = absurd (omega arith)
words_more w (x ∷ ws) some = refl

-- a lemma has two numbers
pub lemma_more : (s v : List ℕ) (ws : List (List ℕ)) → 0 < length ws → lemma_said (s ∷ v ∷ ws) ≡ None
lemma_more s v [] some = absurd (omega arith)
lemma_more s v (x ∷ ws) some = refl

-- a kind has one name
pub kind_more : (w : List ℕ) (ws : List (List ℕ)) → 0 < length ws → kind_said (w ∷ ws) ≡ None
kind_more w [] some = absurd (omega arith)
kind_more w (x ∷ ws) some = refl

-- the first line has three words
pub first_more : (a b : List ℕ) (ws : List (List ℕ)) → 0 < length ws → first_said (a ∷ b ∷ ws) ≡ None
first_more a b [] some = absurd (omega arith)
first_more a b (x ∷ ws) some = refl
