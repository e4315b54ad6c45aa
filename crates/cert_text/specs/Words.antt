-- The line that words say.
use Rattle.std.specs.Prelude.{◌≡◌, ◌<◌, ◌++◌, map, decimal, ℕ, ◌^◌, ◌&&◌, List, [], ◌∷◌, length, codes, nat_le, nat_lt, Option, Some, None, if◌then◌else◌}
use Rattle.std.specs.List.{AllByRecursion}
use Rattle.std.specs.Option.{option_and_then, option_map}
use Rattle.std.specs.Str.{bytes_eq}
use Rattle.csv_table.specs.Decimal.{decimal_of, is_decimal, value_after}
use Rattle.response_test.specs.declared.evidence.Evidence.TheVariants as evidence
use Rattle.cert_text.specs.declared.parts.Kind.{Kind}
use Rattle.cert_text.specs.declared.parts.Kind.TheVariants.{KindPlaced, KindTimed, KindBetween, KindBest, KindNoSolution}
use Rattle.cert_text.specs.declared.line.Line.{Line}
use Rattle.cert_text.specs.declared.line.Line.TheVariants as line
use Rattle.cert_text.specs.CertText.{parts}

-- a number below 2 ^ 64
abbrev pub number_of : List ℕ → Option ℕ
number_of word = decimal_of 0 18446744073709551615 word

-- a number below 2 ^ 128
abbrev pub wide_of : List ℕ → Option ℕ
wide_of word =
    if is_decimal word && nat_lt (value_after 0 word) (2 ^ 128) then Some (value_after 0 word) else None

-- numbers, where each word is one
abbrev pub numbers_of : List (List ℕ) → Option (List ℕ)
numbers_of [] = Some []
numbers_of (word ∷ others) =
    option_and_then (λ n. option_map (λ ns. n ∷ ns) (numbers_of others)) (number_of word)

-- at least one number
abbrev pub some_numbers : List (List ℕ) → Option (List ℕ)
some_numbers ws = if nat_le 1 (length ws) then numbers_of ws else None

-- the first words are these numbers, and the others those of the bytes that are left
pub record BeginsNumbers (text ns left : List ℕ) : Type 0 where
  pub words : parts 32 text ≡ map decimal ns ++ parts 32 left
  pub small : AllByRecursion (λ n. n < 2 ^ 64) ns

-- the numbers before the first word that is a slash, and the words after it
abbrev pub before_slash : List (List ℕ) → Option (List ℕ × List (List ℕ))
before_slash [] = None
before_slash (w ∷ ws) =
    if bytes_eq w (codes "/") then Some ([], ws)
    else option_and_then (λ n. option_map (λ p. (n ∷ p.0, p.1)) (before_slash ws)) (number_of w)

-- at least one number, a slash, and at least one number
abbrev pub both_sides : Option (List ℕ × List (List ℕ)) → Option (List ℕ × List ℕ)
both_sides None = None
both_sides (Some p) = if nat_le 1 (length p.0) then option_map (λ ns. (p.0, ns)) (some_numbers p.1) else None

-- the kind with this name
abbrev pub kind_of : List ℕ → Option Kind
kind_of w =
    if bytes_eq w (codes "placed") then Some KindPlaced
    else if bytes_eq w (codes "timed") then Some KindTimed
    else if bytes_eq w (codes "open") then Some KindBetween
    else if bytes_eq w (codes "best") then Some KindBest
    else if bytes_eq w (codes "none") then Some KindNoSolution else None

-- after `canpack`
abbrev pub first_said : List (List ℕ) → Option Line
first_said (a ∷ b ∷ []) =
    if bytes_eq a (codes "certificate") && bytes_eq b (codes "1") then Some line.FirstLine else None
first_said ws = None

-- after `kind`
abbrev pub kind_said : List (List ℕ) → Option Line
kind_said (w ∷ []) = option_map line.KindLine (kind_of w)
kind_said ws = None

-- a frame with 1 to 256 numbers in its queue
abbrev pub frame_of : ℕ → List ℕ → Option Line
frame_of busy queue =
    if nat_le (length queue) 256 then Some (line.FrameWords (record { busy = busy; queue = queue })) else None

-- after `frame`
abbrev pub frame_said : List (List ℕ) → Option Line
frame_said [] = None
frame_said (t ∷ ws) =
    option_and_then (λ busy. option_and_then (frame_of busy) (some_numbers ws)) (number_of t)

-- after `lemma`
abbrev pub lemma_said : List (List ℕ) → Option Line
lemma_said (s ∷ v ∷ []) =
    option_and_then (λ sender. option_map (λ value. line.LemmaWords sender value) (wide_of v))
    (decimal_of 0 255 s)
lemma_said ws = None

-- one number
abbrev pub one : ℕ → ℕ → List (List ℕ) → Option ℕ
one low high [] = None
one low high (w ∷ []) = decimal_of low high w
one low high (w ∷ x ∷ ws) = None

-- after `i`
abbrev pub inner_said : List (List ℕ) → Option Line
inner_said ws = option_map line.InnerLine (one 1 128 ws)

-- after `f`
abbrev pub fail_said : List (List ℕ) → Option Line
fail_said ws = option_map line.FailLine (one 0 128 ws)

-- after `over`
abbrev pub over_said : List (List ℕ) → Option Line
over_said ws = option_map (λ label. line.AgainstLine label evidence.Over) (one 0 127 ws)

-- after `long`
abbrev pub long_said : List (List ℕ) → Option Line
long_said [] = None
long_said (l ∷ ws) =
    option_and_then (λ label. option_map (λ b. line.AgainstLine label (evidence.Long b)) (some_numbers ws))
    (decimal_of 0 127 l)

-- after `late`
abbrev pub late_said : List (List ℕ) → Option Line
late_said [] = None
late_said (l ∷ []) = None
late_said (l ∷ q ∷ ws) =
    option_and_then
    (λ label.
    option_and_then
    (λ n. option_map (λ p. line.AgainstLine label (evidence.Late n p.0 p.1)) (both_sides (before_slash ws)))
    (number_of q))
    (decimal_of 0 127 l)

-- the line of one word
abbrev pub alone : List ℕ → Option Line
alone w =
    if bytes_eq w (codes "b") then Some line.BoundLine
    else if bytes_eq w (codes "o") then Some line.OpenLine
    else if bytes_eq w (codes "shard") then Some line.ShardLine
    else if bytes_eq w (codes "join") then Some line.JoinLine
    else if bytes_eq w (codes "main") then Some line.MainLine
    else if bytes_eq w (codes "end") then Some line.EndLine else None

-- the line of a word and further ones
abbrev pub worded : List ℕ → List (List ℕ) → Option Line
worded w ws =
    if bytes_eq w (codes "i") then inner_said ws
    else if bytes_eq w (codes "f") then fail_said ws
    else if bytes_eq w (codes "over") then over_said ws
    else if bytes_eq w (codes "late") then late_said ws
    else if bytes_eq w (codes "long") then long_said ws
    else if bytes_eq w (codes "frame") then frame_said ws
    else if bytes_eq w (codes "lemma") then lemma_said ws
    else if bytes_eq w (codes "kind") then kind_said ws
    else if bytes_eq w (codes "canpack") then first_said ws else None

-- the line of words
abbrev pub words_said : List (List ℕ) → Option Line
words_said [] = None
words_said (w ∷ []) = alone w
words_said (w ∷ x ∷ ws) = worded w (x ∷ ws)

-- what a line says
unfoldable pub line_of : List ℕ → Option Line
line_of bytes = words_said (parts 32 bytes)
