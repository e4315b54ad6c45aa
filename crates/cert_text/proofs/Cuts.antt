-- Bytes cut at a byte that isn't in them.
use Rattle.std.proofs.Common.{◌≡◌, ◌<◌, ◌==◌, ℕ, List, [], ◌∷◌, ◌++◌, Bool, true, false, not, refl, ap, ◌∙◌, arith}
use Rattle.std.specs.List.{AllByRecursion, join_with_byte, list_all, onto_first}
use Rattle.std.specs.Str.Parse.{AllDigits}
use Rattle.std.proofs.lemmas.Bool.{and_parts, eq-eqb, ne_eqb}
use Rattle.std.proofs.lemmas.List.Folds.{list_all-append}
use Rattle.std.proofs.lemmas.Str.Parse.{digit_from_value}
use Rattle.cert_text.specs.CertText.{parts}

-- no byte has this value
abbrev pub free : ℕ → List ℕ → Bool
free byte bytes = list_all (λ b. not (b == byte)) bytes

-- what is not true is false
not_true : (b : Bool) → not b ≡ true → b ≡ false
not_true true e = cc
not_true false e = refl

-- bytes without the byte are the part before it
pub parts_free : (byte : ℕ) (line rest : List ℕ) → free byte line ≡ true → parts byte (line ++ byte ∷ rest) ≡ line ∷ parts byte rest
unfolding parts
parts_free byte [] rest e = rw (eq-eqb byte byte refl) refl
parts_free byte (b ∷ line) rest e =
    let both = and_parts (not (b == byte)) (free byte line) e in
    rw (not_true (b == byte) both.0) (ap (onto_first b) (parts_free byte line rest both.1))

-- bytes without the byte are one part
pub parts_alone : (byte : ℕ) (line : List ℕ) → free byte line ≡ true → parts byte line ≡ line ∷ []
unfolding parts
parts_alone byte [] e = refl
parts_alone byte (b ∷ line) e =
    let both = and_parts (not (b == byte)) (free byte line) e in
    rw (not_true (b == byte) both.0) (ap (onto_first b) (parts_alone byte line both.1))

-- words without the byte, joined by it, are cut into them
pub parts_joined : (byte : ℕ) (w : List ℕ) (ws : List (List ℕ)) → AllByRecursion (λ w. free byte w ≡ true) (w ∷ ws) → parts byte (join_with_byte byte (w ∷ ws)) ≡ w ∷ ws
parts_joined byte w [] all = parts_alone byte w all.0
parts_joined byte w (x ∷ ws) all = parts_free byte w (join_with_byte byte (x ∷ ws)) all.0 ∙ ap (λ others. w ∷ others) (parts_joined byte x ws all.1)

-- words without a byte, joined by another, are without it
pub joined_free : (byte with : ℕ) (w : List ℕ) (ws : List (List ℕ)) → not (with == byte) ≡ true → AllByRecursion (λ w. free byte w ≡ true) (w ∷ ws) → free byte (join_with_byte with (w ∷ ws)) ≡ true
joined_free byte with w [] other all = all.0
joined_free byte with w (x ∷ ws) other all =
    rw (list_all-append (λ b. not (b == byte)) w (with ∷ join_with_byte with (x ∷ ws)), all.0, other) (joined_free byte with x ws other all.1)

-- digits are without a byte below them
pub digits_free : (byte : ℕ) (bytes : List ℕ) → byte < 48 → AllDigits 10 bytes → free byte bytes ≡ true
digits_free byte [] low d = refl
digits_free byte (b ∷ bytes) low d =
    let is = digit_from_value b d.0 in
    let other : (b == byte) ≡ false = ne_eqb b byte (λ z. absurd (omega (arith, z, is))) in
    rw other (digits_free byte bytes low d.1)

-- what holds of each of two lists holds of each of both
pub all_append : {X : Type 0} (P : X → Type 0) (xs ys : List X) → AllByRecursion P xs → AllByRecursion P ys → AllByRecursion P (xs ++ ys)
all_append P [] ys a b = b
all_append P (x ∷ xs) ys a b = (a.0, all_append P xs ys a.1 b)
