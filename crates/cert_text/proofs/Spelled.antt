-- What words say is spelled so, and in range.
use Rattle.std.proofs.Common.{◌≡◌, ◌<◌, ◌≤◌, ◌^◌, ◌&&◌, ℕ, List, [], ◌∷◌, ◌++◌, length, map, codes, decimal, Bool, true, false, cond, Option, Some, None, refl, sym, ap, subst, ◌∙◌, arith, nat_le, nat_lt}
use Rattle.std.specs.Prelude.{⊤, IfSome}
use Rattle.std.specs.Option.{option_and_then, option_map}
use Rattle.std.specs.List.{join_with_byte}
use Rattle.std.specs.Str.{bytes_eq}
use Rattle.std.proofs.lemmas.Bool.{and_parts, leb-true, ltb-true}
use Rattle.std.proofs.lemmas.List.{length-map}
use Rattle.std.proofs.lemmas.List.Splits.{join_with_byte-slice_split}
use Rattle.std.proofs.lemmas.Slice.Eq.{bytes_eq-Decides}
use Rattle.csv_table.specs.Decimal.{decimal_of, is_decimal, value_after}
use Rattle.csv_table.proofs.Decimals.{decimal_of-spelled}
use Rattle.response_test.specs.declared.evidence.Evidence.TheVariants as evidence
use Rattle.cert_text.proofs.Wide.{wide_spelled}
use Rattle.cert_text.specs.declared.parts.Kind.{Kind}
use Rattle.cert_text.specs.declared.parts.Kind.TheVariants.{KindPlaced, KindTimed, KindBetween, KindBest, KindNoSolution}
use Rattle.cert_text.specs.declared.line.Line.{Line}
use Rattle.cert_text.specs.declared.line.Line.TheVariants as line
use Rattle.cert_text.specs.CertText.{parts}
use Rattle.cert_text.specs.Lines.{AreNumbers, LineInRange, kind_name, line_text, line_words}
use Rattle.cert_text.specs.Words.{alone, before_slash, both_sides, fail_said, first_said, frame_of, frame_said, inner_said, kind_of, kind_said, late_said, lemma_said, line_of, long_said, number_of, numbers_of, over_said, some_numbers, wide_of, worded, words_said}

-- of what there is, this holds
abbrev Sure : {A : Type 0} → Option A → (A → Type 0) → Type 0
Sure None P = ⊤
Sure (Some x) P = P x

-- these words are the line's
abbrev Right : List (List ℕ) → Option Line → Type 0
Right ws None = ⊤
Right ws (Some l) = (line_words l ≡ ws) × LineInRange l

-- what follows from a word that is right
then_right : {A : Type 0} (ws : List (List ℕ)) (P : A → Type 0) (o : Option A) (f : A → Option Line) → Sure o P → ((x : A) → P x → Right ws (f x)) → Right ws (option_and_then f o)
then_right ws P None f s h = tt
then_right ws P (Some x) f s h = h x s

-- a line of a word that is right
map_right : {A : Type 0} (ws : List (List ℕ)) (P : A → Type 0) (o : Option A) (f : A → Line) → Sure o P → ((x : A) → P x → (line_words (f x) ≡ ws) × LineInRange (f x)) → Right ws (option_map f o)
map_right ws P None f s h = tt
map_right ws P (Some x) f s h = h x s

-- one line or the other
if_right : (ws : List (List ℕ)) (b : Bool) (x y : Option Line) → (b ≡ true → Right ws x) → Right ws y → Right ws (cond b x y)
if_right ws true x y h k = h refl
if_right ws false x y h k = k

-- what is there under a condition
if_sure : {A : Type 0} (P : A → Type 0) (b : Bool) (o : Option A) → (b ≡ true → Sure o P) → Sure (cond b o None) P
if_sure P true o h = h refl
if_sure P false o h = tt

-- the same bytes
word : (w name : List ℕ) → bytes_eq w name ≡ true → w ≡ name
word w name e = (bytes_eq-Decides w name).0 e

-- a number that a word says is in its range
number_sure : (low high : ℕ) (w : List ℕ) → high < 2 ^ 64 → Sure (decimal_of low high w) (λ n. (w ≡ decimal n) × (low ≤ n) × (n ≤ high))
number_sure low high w small = by (decimal_of low high w) (decimal_of-spelled low high w small)
  where
    by : (o : Option ℕ) → IfSome o (λ n. (w ≡ decimal n) × (low ≤ n) × (n ≤ high)) → Sure o (λ n. (w ≡ decimal n) × (low ≤ n) × (n ≤ high))
    by None h = tt
    by (Some n) h = h

-- so is a number below 2 ^ 128
wide_sure : (w : List ℕ) → Sure (wide_of w) (λ n. (w ≡ decimal n) × (n < 2 ^ 128))
wide_sure w = if_sure (λ n. (w ≡ decimal n) × (n < 2 ^ 128)) (is_decimal w && nat_lt (value_after 0 w) (2 ^ 128)) (Some (value_after 0 w)) (λ e.
    let both = and_parts (is_decimal w) (nat_lt (value_after 0 w) (2 ^ 128)) e in
    let small = ltb-true (value_after 0 w) (2 ^ 128) both.1 in
    (wide_spelled w both.0 small, small))

-- the words of numbers
abbrev Numbers : List (List ℕ) → List ℕ → Type 0
Numbers ws ns = (map decimal ns ≡ ws) × AreNumbers ns

-- numbers that words say are spelled by them
numbers_sure : (ws : List (List ℕ)) → Sure (numbers_of ws) (Numbers ws)
numbers_sure [] = (refl, tt)
numbers_sure (w ∷ ws) = by (number_of w) (number_sure 0 18446744073709551615 w (omega arith)) (numbers_of ws) (numbers_sure ws)
  where
    by : (o : Option ℕ) → Sure o (λ n. (w ≡ decimal n) × (0 ≤ n) × (n ≤ 18446744073709551615)) → (os : Option (List ℕ)) → Sure os (Numbers ws)
        → Sure (option_and_then (λ n. option_map (λ ns. n ∷ ns) os) o) (Numbers (w ∷ ws))
    by None s os ss = tt
    by (Some n) s None ss = tt
    by (Some n) s (Some ns) ss = (cc (s.0, ss.0), (omega arith, ss.1))

-- these numbers are spelled so, and there is one at least
abbrev SomeNumbers : List (List ℕ) → List ℕ → Type 0
SomeNumbers ws ns = (map decimal ns ≡ ws) × (1 ≤ length ns) × (length ns ≡ length ws) × AreNumbers ns

-- numbers of which there is one at least
some_sure : (ws : List (List ℕ)) → Sure (some_numbers ws) (SomeNumbers ws)
some_sure ws = if_sure (SomeNumbers ws) (nat_le 1 (length ws)) (numbers_of ws) (λ e. by (numbers_of ws) (numbers_sure ws) (leb-true 1 (length ws) e))
  where
    by : (o : Option (List ℕ)) → Sure o (Numbers ws) → 1 ≤ length ws → Sure o (SomeNumbers ws)
    by None s some = tt
    by (Some ns) s some =
        let mapped : length (map decimal ns) ≡ length ns = rw length-map refl in
        let same : length ns ≡ length ws = sym mapped ∙ ap length s.0 in
        (s.0, omega arith, same, s.1)

-- these numbers stand before a slash, and these words after it
abbrev BeforeSlash : List (List ℕ) → (List ℕ × List (List ℕ)) → Type 0
BeforeSlash ws p = (map decimal p.0 ++ (codes "/" ∷ p.1) ≡ ws) × AreNumbers p.0

-- numbers before a slash are spelled so
slash_sure : (ws : List (List ℕ)) → Sure (before_slash ws) (BeforeSlash ws)
slash_sure [] = tt
slash_sure (w ∷ ws) = by (bytes_eq w (codes "/")) refl (number_of w) (number_sure 0 18446744073709551615 w (omega arith)) (before_slash ws) (slash_sure ws)
  where
    by : (b : Bool) → bytes_eq w (codes "/") ≡ b → (n : Option ℕ) → Sure n (λ n. (w ≡ decimal n) × (0 ≤ n) × (n ≤ 18446744073709551615)) → (o : Option (List ℕ × List (List ℕ))) → Sure o (BeforeSlash ws)
        → Sure {A = List ℕ × List (List ℕ)} (cond b (Some ([], ws)) (option_and_then (λ n. option_map (λ p. (n ∷ p.0, p.1)) o) n)) (BeforeSlash (w ∷ ws))
    by true e n t o s = (ap (λ x. x ∷ ws) (sym (word w (codes "/") e)), tt)
    by false e None t o s = tt
    by false e (Some n) t None s = tt
    by false e (Some n) t (Some p) s = (let head = t.0 in let tail = s.0 in cc (head, tail), (omega (arith, t.2), s.1))

-- these numbers stand before a slash and after it
abbrev BothSides : List (List ℕ) → (List ℕ × List ℕ) → Type 0
BothSides ws p = (map decimal p.0 ++ (codes "/" ∷ map decimal p.1) ≡ ws) × (1 ≤ length p.0) × AreNumbers p.0 × (1 ≤ length p.1) × AreNumbers p.1

-- numbers before a slash and after it are spelled so
sides_sure : (ws : List (List ℕ)) → Sure (both_sides (before_slash ws)) (BothSides ws)
sides_sure ws = by (before_slash ws) (slash_sure ws)
  where
    with_some : (p : List ℕ × List (List ℕ)) → BeforeSlash ws p → 1 ≤ length p.0 → (o : Option (List ℕ)) → Sure o (SomeNumbers p.1) → Sure {A = List ℕ × List ℕ} (option_map (λ ns. (p.0, ns)) o) (BothSides ws)
    with_some p s some None t = tt
    with_some p s some (Some ns) t = (ap (λ ys. map decimal p.0 ++ (codes "/" ∷ ys)) t.0 ∙ s.0, some, s.1, t.1, t.3)

    by : (o : Option (List ℕ × List (List ℕ))) → Sure o (BeforeSlash ws) → Sure (both_sides o) (BothSides ws)
    by None s = tt
    by (Some p) s = if_sure {A = List ℕ × List ℕ} (BothSides ws) (nat_le 1 (length p.0)) (option_map (λ ns. (p.0, ns)) (some_numbers p.1)) (λ e. with_some p s (leb-true 1 (length p.0) e) (some_numbers p.1) (some_sure p.1))

-- ---- each line

-- a kind is named so
kind_sure : (w : List ℕ) → Sure (kind_of w) (λ k. kind_name k ≡ w)
kind_sure w =
    choose KindPlaced (codes "placed") _ refl (choose KindTimed (codes "timed") _ refl (choose KindBetween (codes "open") _ refl (choose KindBest (codes "best") _ refl (choose KindNoSolution (codes "none") None refl tt))))
  where
    by : (k : Kind) (name : List ℕ) (o : Option Kind) (b : Bool) → bytes_eq w name ≡ b → kind_name k ≡ name → Sure o (λ k. kind_name k ≡ w) → Sure (cond b (Some k) o) (λ k. kind_name k ≡ w)
    by k name o true e is s = is ∙ sym (word w name e)
    by k name o false e is s = s

    choose : (k : Kind) (name : List ℕ) (o : Option Kind) → kind_name k ≡ name → Sure o (λ k. kind_name k ≡ w) → Sure (cond (bytes_eq w name) (Some k) o) (λ k. kind_name k ≡ w)
    choose k name o is s = by k name o (bytes_eq w name) refl is s

-- the line of a kind
kind_right : (w : List ℕ) (ws : List (List ℕ)) → w ≡ codes "kind" → Right (w ∷ ws) (kind_said ws)
unfolding line_words
kind_right w [] e = tt
kind_right w (x ∷ []) e = map_right (w ∷ x ∷ []) (λ k. kind_name k ≡ x) (kind_of x) line.KindLine (kind_sure x) (λ k is. (cc, tt))
kind_right w (x ∷ y ∷ ws) e = tt

-- the first line
first_right : (w : List ℕ) (ws : List (List ℕ)) → w ≡ codes "canpack" → Right (w ∷ ws) (first_said ws)
unfolding line_words
first_right w [] e = tt
first_right w (a ∷ []) e = tt
first_right w (a ∷ b ∷ []) e = if_right (w ∷ a ∷ b ∷ []) (bytes_eq a (codes "certificate") && bytes_eq b (codes "1")) (Some line.FirstLine) None
    (λ t.
    let both = and_parts (bytes_eq a (codes "certificate")) (bytes_eq b (codes "1")) t in
    let x : a ≡ codes "certificate" = word a (codes "certificate") both.0 in
    let y : b ≡ codes "1" = word b (codes "1") both.1 in
    (cc, tt))
    tt
first_right w (a ∷ b ∷ c ∷ ws) e = tt

-- the line of a frame
frame_right : (w : List ℕ) (ws : List (List ℕ)) → w ≡ codes "frame" → Right (w ∷ ws) (frame_said ws)
unfolding line_words
frame_right w [] e = tt
frame_right w (t ∷ q) e =
    then_right (w ∷ t ∷ q) (λ n. (t ≡ decimal n) × (0 ≤ n) × (n ≤ 18446744073709551615)) (number_of t) (λ busy. option_and_then (frame_of busy) (some_numbers q)) (number_sure 0 18446744073709551615 t (omega arith))
    (λ busy b.
    then_right (w ∷ t ∷ q) (SomeNumbers q) (some_numbers q) (frame_of busy) (some_sure q)
    (λ queue s.
    if_right (w ∷ t ∷ q) (nat_le (length queue) 256) (Some (line.FrameWords (record { busy = busy; queue = queue }))) None
    (λ few. let most : length queue ≤ 256 = leb-true (length queue) 256 few in (cc (e, b.0, s.0), (omega (arith, b.2), s.1, most, s.3)))
    tt))

-- the line of a lemma
lemma_right : (w : List ℕ) (ws : List (List ℕ)) → w ≡ codes "lemma" → Right (w ∷ ws) (lemma_said ws)
unfolding line_words
lemma_right w [] e = tt
lemma_right w (s ∷ []) e = tt
lemma_right w (s ∷ v ∷ []) e =
    then_right (w ∷ s ∷ v ∷ []) (λ n. (s ≡ decimal n) × (0 ≤ n) × (n ≤ 255)) (decimal_of 0 255 s) (λ sender. option_map (λ value. line.LemmaWords sender value) (wide_of v)) (number_sure 0 255 s (omega arith))
    (λ sender b. map_right (w ∷ s ∷ v ∷ []) (λ n. (v ≡ decimal n) × (n < 2 ^ 128)) (wide_of v) (λ value. line.LemmaWords sender value) (wide_sure v) (λ value x. (cc (e, b.0, x.0), (b.2, x.1))))
lemma_right w (s ∷ v ∷ x ∷ ws) e = tt

-- the line of an inner node
inner_right : (w : List ℕ) (ws : List (List ℕ)) → w ≡ codes "i" → Right (w ∷ ws) (inner_said ws)
unfolding line_words
inner_right w [] e = tt
inner_right w (n ∷ []) e = map_right (w ∷ n ∷ []) (λ k. (n ≡ decimal k) × (1 ≤ k) × (k ≤ 128)) (decimal_of 1 128 n) line.InnerLine (number_sure 1 128 n (omega arith)) (λ k b. (cc (e, b.0), (b.1, b.2)))
inner_right w (n ∷ x ∷ ws) e = tt

-- the line of a fail leaf
fail_right : (w : List ℕ) (ws : List (List ℕ)) → w ≡ codes "f" → Right (w ∷ ws) (fail_said ws)
unfolding line_words
fail_right w [] e = tt
fail_right w (n ∷ []) e = map_right (w ∷ n ∷ []) (λ k. (n ≡ decimal k) × (0 ≤ k) × (k ≤ 128)) (decimal_of 0 128 n) line.FailLine (number_sure 0 128 n (omega arith)) (λ k b. (cc (e, b.0), b.2))
fail_right w (n ∷ x ∷ ws) e = tt

-- the line of a bus that is asked for too much
over_right : (w : List ℕ) (ws : List (List ℕ)) → w ≡ codes "over" → Right (w ∷ ws) (over_said ws)
unfolding line_words
over_right w [] e = tt
over_right w (n ∷ []) e = map_right (w ∷ n ∷ []) (λ k. (n ≡ decimal k) × (0 ≤ k) × (k ≤ 127)) (decimal_of 0 127 n) (λ label. line.AgainstLine label evidence.Over) (number_sure 0 127 n (omega arith)) (λ k b. (cc (e, b.0), (b.2, tt)))
over_right w (n ∷ x ∷ ws) e = tt

-- the line of a busy period that is too long
long_right : (w : List ℕ) (ws : List (List ℕ)) → w ≡ codes "long" → Right (w ∷ ws) (long_said ws)
unfolding line_words
long_right w [] e = tt
long_right w (l ∷ ws) e =
    then_right (w ∷ l ∷ ws) (λ n. (l ≡ decimal n) × (0 ≤ n) × (n ≤ 127)) (decimal_of 0 127 l) (λ label. option_map (λ b. line.AgainstLine label (evidence.Long b)) (some_numbers ws)) (number_sure 0 127 l (omega arith))
    (λ label b. map_right (w ∷ l ∷ ws) (SomeNumbers ws) (some_numbers ws) (λ b. line.AgainstLine label (evidence.Long b)) (some_sure ws) (λ ns s. (cc (e, b.0, s.0), (b.2, (s.1, s.3)))))

-- the line of an instance that is late
late_right : (w : List ℕ) (ws : List (List ℕ)) → w ≡ codes "late" → Right (w ∷ ws) (late_said ws)
unfolding line_words
late_right w [] e = tt
late_right w (l ∷ []) e = tt
late_right w (l ∷ q ∷ ws) e =
    let all = w ∷ l ∷ q ∷ ws in
    then_right all (λ n. (l ≡ decimal n) × (0 ≤ n) × (n ≤ 127)) (decimal_of 0 127 l) _ (number_sure 0 127 l (omega arith))
    (λ label x.
    then_right all (λ n. (q ≡ decimal n) × (0 ≤ n) × (n ≤ 18446744073709551615)) (number_of q) _ (number_sure 0 18446744073709551615 q (omega arith))
    (λ n y.
    map_right all (BothSides ws) (both_sides (before_slash ws)) (λ p. line.AgainstLine label (evidence.Late n p.0 p.1)) (sides_sure ws)
    (λ p s. (cc (e, x.0, y.0, s.0), (x.2, (omega (arith, y.2), s.1, s.2, s.3, s.4))))))

-- ---- any words

module _ (w : List ℕ) (ws : List (List ℕ)) where
  -- a line by its first word
  when : (name : List ℕ) (x y : Option Line) → (w ≡ name → Right (w ∷ ws) x) → Right (w ∷ ws) y → Right (w ∷ ws) (cond (bytes_eq w name) x y)
  when name x y h k = if_right (w ∷ ws) (bytes_eq w name) x y (λ e. h (word w name e)) k

-- the lines of one word
alone_right : (w : List ℕ) → Right (w ∷ []) (alone w)
unfolding line_words
alone_right w =
    when w [] (codes "b") _ _ (λ e. (cc (e), tt))
    (when w [] (codes "o") _ _ (λ e. (cc (e), tt))
    (when w [] (codes "shard") _ _ (λ e. (cc (e), tt))
    (when w [] (codes "join") _ _ (λ e. (cc (e), tt))
    (when w [] (codes "main") _ _ (λ e. (cc (e), tt))
    (when w [] (codes "end") _ _ (λ e. (cc (e), tt)) tt)))))

-- the lines of a word and further ones
worded_right : (w : List ℕ) (ws : List (List ℕ)) → Right (w ∷ ws) (worded w ws)
worded_right w ws =
    when w ws (codes "i") _ _ (inner_right w ws)
    (when w ws (codes "f") _ _ (fail_right w ws)
    (when w ws (codes "over") _ _ (over_right w ws)
    (when w ws (codes "late") _ _ (late_right w ws)
    (when w ws (codes "long") _ _ (long_right w ws)
    (when w ws (codes "frame") _ _ (frame_right w ws)
    (when w ws (codes "lemma") _ _ (lemma_right w ws)
    (when w ws (codes "kind") _ _ (kind_right w ws)
    (when w ws (codes "canpack") _ _ (first_right w ws) tt))))))))

-- the line of any words
words_right : (ws : List (List ℕ)) → Right ws (words_said ws)
words_right [] = tt
words_right (w ∷ []) = alone_right w
words_right (w ∷ x ∷ ws) = worded_right w (x ∷ ws)

-- what a line says is spelled so, and in range
pub line_of-spelled : (bytes : List ℕ) (l : Line) → line_of bytes ≡ Some l → (line_text l ≡ bytes) × LineInRange l
unfolding line_of parts
line_of-spelled bytes l e =
    let r = subst (Right (parts 32 bytes)) e (words_right (parts 32 bytes)) in
    (ap (join_with_byte 32) r.0 ∙ join_with_byte-slice_split 32 bytes, r.1)
