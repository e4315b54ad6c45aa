-- Numbers digit by digit.
use Rattle.std.proofs.Common.{◌≡◌, ◌≢◌, ◌<◌, ◌+◌, ◌*◌, ◌-◌, ◌^◌, ℕ, zero, suc, true, List, [], ◌∷◌, ◌++◌, length, get_or, take, drop, refl, sym, ap, ◌∙◌, decimal, drop-cons, add-one, arith}
use Rattle.std.specs.Char.{is_ascii_digit}
use Rattle.std.specs.Str.{all_ascii_digits}
use Rattle.std.proofs.lemmas.Bool.{and_parts}
use Rattle.std.proofs.lemmas.Fmt.{decimal-digits_value}
use Rattle.std.proofs.lemmas.List.{length-take-le, take-append-drop, take_more}
use Rattle.csv_table.specs.Decimal.{value_after}
use Rattle.csv_table.proofs.Decimals.{own}

-- the value of one digit more
value_more : (n : ℕ) (digits : List ℕ) (b : ℕ) → value_after n (digits ++ b ∷ []) ≡ value_after n digits * 10 + (b - 48)
value_more n [] b = refl
value_more n (d ∷ digits) b = value_more (n * 10 + (d - 48)) digits b

-- digits and one more
digits_more : (digits : List ℕ) (b : ℕ) → all_ascii_digits digits ≡ true → is_ascii_digit b ≡ true → all_ascii_digits (digits ++ b ∷ []) ≡ true
digits_more [] b all one = rw one refl
digits_more (d ∷ digits) b all one =
    let both = and_parts (is_ascii_digit d) (all_ascii_digits digits) all in
    rw (both.0, digits_more digits b both.1 one) refl

-- so many bytes after the first, and it, are digits with this value, without a zero before others
pub record IsSpelledSoFar (first : ℕ) (rest : List ℕ) (place v : ℕ) : Type 0 where
  pub is : v ≡ value_after 0 (first ∷ take place rest)
  pub digits : all_ascii_digits (first ∷ take place rest) ≡ true
  pub lead : 0 < place → first ≢ 48

-- one digit
pub spelled_one : (first : ℕ) (rest : List ℕ) → is_ascii_digit first ≡ true → IsSpelledSoFar first rest 0 (first - 48)
spelled_one first rest digit = record { is = omega arith; digits = rw digit refl; lead = λ some. absurd (omega arith) }

-- one digit more
pub spelled_more : (first : ℕ) (rest : List ℕ) (place v b : ℕ) → IsSpelledSoFar first rest place v → place < length rest → b ≡ get_or rest place 0 → is_ascii_digit b ≡ true → first ≢ 48
    → IsSpelledSoFar first rest (place + 1) (v * 10 + (b - 48))
spelled_more first rest place v b s low is digit other =
    let t : take (place + 1) rest ≡ take place rest ++ b ∷ [] = take_more rest place 0 low ∙ ap (λ (x : ℕ). take place rest ++ x ∷ []) (sym is) in
    record {
      is = ap (λ (x : ℕ). x * 10 + (b - 48)) s.is ∙ sym (value_more 0 (first ∷ take place rest) b) ∙ ap (λ (x : List ℕ). value_after 0 (first ∷ x)) (sym t);
      digits = ap (λ (x : List ℕ). all_ascii_digits (first ∷ x)) t ∙ digits_more (first ∷ take place rest) b s.digits digit;
      lead = λ some. other;
    }

-- up to a byte that ends them they are the number's spelling
pub spelled_all : (bytes : List ℕ) (first : ℕ) (rest : List ℕ) (place v end : ℕ) → bytes ≡ first ∷ rest → IsSpelledSoFar first rest place v → place < length rest → get_or rest place 0 ≡ end → v < 2 ^ 64
    → bytes ≡ decimal v ++ end ∷ drop (place + 1) rest
spelled_all bytes first rest place v end is s low ends small =
    let word : List ℕ = first ∷ take place rest in
    let size : length (take place rest) ≡ place = length-take-le place rest (omega arith) in
    let fits : value_after 0 word < 2 ^ 64 = let e = s.is in omega arith in
    let spelled : decimal (value_after 0 word) ≡ word = decimal-digits_value own word s.digits (omega arith) (λ e. alone e) fits in
    let after : drop place rest ≡ end ∷ drop (place + 1) rest = rw (add-one, drop-cons rest place 0) (ap (λ (x : ℕ). x ∷ drop (suc place) rest) ends) in
    is ∙ ap (λ (x : List ℕ). first ∷ x) (sym (take-append-drop place rest) ∙ ap (λ (x : List ℕ). take place rest ++ x) after) ∙ ap (λ (x : List ℕ). x ++ end ∷ drop (place + 1) rest) (sym spelled ∙ ap decimal (sym s.is))
  where
    alone : first ≡ 48 → length (first ∷ take place rest) ≡ 1
    alone e = by place low s
      where
        by : (k : ℕ) → k < length rest → IsSpelledSoFar first rest k v → length (first ∷ take k rest) ≡ 1
        by zero room z = refl
        by (suc k) room z = absurd (z.lead (omega arith) e)
