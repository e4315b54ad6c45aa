-- A written network is read: its line, byte by byte, to tokens, to a value.
use Rattle.std.proofs.Common.{◌≡◌, ◌≤◌, ◌<◌, ◌^◌, ◌++◌, ◌∷◌, ℕ, true, List, [], Option, Some, Ok, refl, ap, ◌∙◌, arith, codes, decimal, nat_le, option_and_then}
use Rattle.std.specs.Prelude.{IsUtf8}
use Rattle.std.specs.Str.{is_utf8}
use Rattle.std.proofs.lemmas.Bool.{le-leb}
use Rattle.std.proofs.lemmas.Str.{IsUtf8-append, IsUtf8-from_ascii, is_utf8-from_IsUtf8}
use Rattle.std.proofs.lemmas.Fmt.{IsAscii-decimal}
use Rattle.json.specs.Lex.{Lexeme, token, comma, colon, between, fresh, lex, punctuate}
use Rattle.json.specs.Token as tok
use Rattle.json.specs.Word.{ends_word}
use Rattle.json.specs.Print.{IsNumber}
use Rattle.json.specs.Json as json
use Rattle.json.proofs.Printed.Decimals.{IsNumber-decimal}
use Rattle.json.proofs.Printed.Numbers.{lex-number}
use Rattle.json.proofs.Printed.Utf8.{IsUtf8-are_ascii, are_ascii}
use Rattle.csv.specs.Reading.{strip_bom}
use Rattle.serde_json.specs.Data.{Data, number, unsigned, object, member, no_members}
use Rattle.serde_json.specs.Read.{max_depth, of_json, read}
use Rattle.serde_json.proofs.Numbers.{number_of-decimal}
use Rattle.serde_json.proofs.OnLiterals.{serde_json_on_literals}
use Rattle.pack_model.specs.Network.{NetworkStands}
use Rattle.pack_model.specs.declared.network.Network.{Network}
use Rattle.csv_table.specs.Columns.{◌>>=◌, or_error}
use Rattle.input_text.specs.NetworkText.{in_range, network_in, network_of, network_text, not_json, value_in}

-- the parts of the line after each number
abbrev part5 : List ℕ
part5 = codes "}\n"

abbrev part4 : ℕ → List ℕ
part4 first = codes ",\"first_id\":" ++ (decimal first ++ part5)

abbrev part3 : ℕ → ℕ → List ℕ
part3 bit first = codes ",\"data_ticks\":" ++ (decimal bit ++ part4 first)

abbrev part2 : ℕ → ℕ → ℕ → List ℕ
part2 nominal bit first = codes ",\"nominal_ticks\":" ++ (decimal nominal ++ part3 bit first)

abbrev part1 : ℕ → ℕ → ℕ → ℕ → List ℕ
part1 ticks nominal bit first = codes ",\"ticks_per_us\":" ++ (decimal ticks ++ part2 nominal bit first)

-- ---- the lexemes

abbrev named : List ℕ → List ℕ → List Lexeme → List Lexeme
named name digits rest = token (tok.string name) ∷ colon ∷ token (tok.number digits) ∷ rest

-- a number ends where a comma or a brace stands
number_lexed : (s rest : List ℕ) (ls : List Lexeme) → IsNumber s → ends_word rest ≡ true
    → lex between rest ≡ ls → lex between (s ++ rest) ≡ token (tok.number s) ∷ ls
number_lexed s rest ls is ended e = lex-number s rest is ended
    ∙ ap (λ (x : List Lexeme). token (tok.number s) ∷ x) e

decimal_lexed : (n : ℕ) (rest : List ℕ) (ls : List Lexeme) → n < 2 ^ 64 → ends_word rest ≡ true
    → lex between rest ≡ ls → lex between (decimal n ++ rest) ≡ token (tok.number (decimal n)) ∷ ls
decimal_lexed n rest ls small = number_lexed (decimal n) rest ls (IsNumber-decimal n small)

abbrev lexemes4 : ℕ → List Lexeme
lexemes4 first = comma ∷ named (codes "first_id") (decimal first) (token tok.end_object ∷ [])

abbrev lexemes3 : ℕ → ℕ → List Lexeme
lexemes3 bit first = comma ∷ named (codes "data_ticks") (decimal bit) (lexemes4 first)

abbrev lexemes2 : ℕ → ℕ → ℕ → List Lexeme
lexemes2 nominal bit first = comma ∷ named (codes "nominal_ticks") (decimal nominal) (lexemes3 bit first)

abbrev lexemes1 : ℕ → ℕ → ℕ → ℕ → List Lexeme
lexemes1 ticks nominal bit first =
    comma ∷ named (codes "ticks_per_us") (decimal ticks) (lexemes2 nominal bit first)

abbrev lexemes : ℕ → ℕ → ℕ → ℕ → List Lexeme
lexemes ticks nominal bit first =
    token tok.begin_object ∷ named (codes "version") (codes "1") (lexemes1 ticks nominal bit first)

-- a name and its colon
last_lexed : lex between part5 ≡ token tok.end_object ∷ []
unfolding serde_json_on_literals
last_lexed = refl

first_id_lexed : (rest : List ℕ)
    → lex between (codes ",\"first_id\":" ++ rest)
    ≡ comma ∷ token (tok.string (codes "first_id")) ∷ colon ∷ lex between rest
unfolding serde_json_on_literals
first_id_lexed rest = refl

data_ticks_lexed : (rest : List ℕ)
    → lex between (codes ",\"data_ticks\":" ++ rest)
    ≡ comma ∷ token (tok.string (codes "data_ticks")) ∷ colon ∷ lex between rest
unfolding serde_json_on_literals
data_ticks_lexed rest = refl

nominal_ticks_lexed : (rest : List ℕ)
    → lex between (codes ",\"nominal_ticks\":" ++ rest)
    ≡ comma ∷ token (tok.string (codes "nominal_ticks")) ∷ colon ∷ lex between rest
unfolding serde_json_on_literals
nominal_ticks_lexed rest = refl

ticks_per_us_lexed : (rest : List ℕ)
    → lex between (codes ",\"ticks_per_us\":" ++ rest)
    ≡ comma ∷ token (tok.string (codes "ticks_per_us")) ∷ colon ∷ lex between rest
unfolding serde_json_on_literals
ticks_per_us_lexed rest = refl

version_lexed : (rest : List ℕ)
    → lex between (codes "{\"version\":" ++ rest)
    ≡ token tok.begin_object ∷ token (tok.string (codes "version")) ∷ colon ∷ lex between rest
unfolding serde_json_on_literals
version_lexed rest = refl

one_is_number : IsNumber (codes "1")
unfolding serde_json_on_literals
one_is_number = refl

-- the line's lexemes
abbrev line : ℕ → ℕ → ℕ → ℕ → List ℕ
line ticks nominal bit first = codes "{\"version\":" ++ (codes "1" ++ part1 ticks nominal bit first)

record Small (ticks nominal bit first : ℕ) : Type 0 where
  ticks_small : ticks < 2 ^ 64
  nominal_small : nominal < 2 ^ 64
  bit_small : bit < 2 ^ 64
  first_small : first < 2 ^ 64

part4_lexed : (first : ℕ) → first < 2 ^ 64 → lex between (part4 first) ≡ lexemes4 first
part4_lexed first small = first_id_lexed (decimal first ++ part5)
    ∙ ap (λ (x : List Lexeme). comma ∷ token (tok.string (codes "first_id")) ∷ colon ∷ x)
    (decimal_lexed first part5 _ small refl last_lexed)

part3_lexed : (bit first : ℕ) → bit < 2 ^ 64 → first < 2 ^ 64
    → lex between (part3 bit first) ≡ lexemes3 bit first
part3_lexed bit first b f = data_ticks_lexed (decimal bit ++ part4 first)
    ∙ ap (λ (x : List Lexeme). comma ∷ token (tok.string (codes "data_ticks")) ∷ colon ∷ x)
    (decimal_lexed bit (part4 first) _ b refl (part4_lexed first f))

part2_lexed : (nominal bit first : ℕ) → nominal < 2 ^ 64 → bit < 2 ^ 64 → first < 2 ^ 64
    → lex between (part2 nominal bit first) ≡ lexemes2 nominal bit first
part2_lexed nominal bit first n b f = nominal_ticks_lexed (decimal nominal ++ part3 bit first)
    ∙ ap (λ (x : List Lexeme). comma ∷ token (tok.string (codes "nominal_ticks")) ∷ colon ∷ x)
    (decimal_lexed nominal (part3 bit first) _ n refl (part3_lexed bit first b f))

part1_lexed : (ticks nominal bit first : ℕ) → Small ticks nominal bit first
    → lex between (part1 ticks nominal bit first) ≡ lexemes1 ticks nominal bit first
part1_lexed ticks nominal bit first s = ticks_per_us_lexed (decimal ticks ++ part2 nominal bit first)
    ∙ ap (λ (x : List Lexeme). comma ∷ token (tok.string (codes "ticks_per_us")) ∷ colon ∷ x)
    (decimal_lexed ticks (part2 nominal bit first) _ s.ticks_small refl
    (part2_lexed nominal bit first s.nominal_small s.bit_small s.first_small))

line_lexed : (ticks nominal bit first : ℕ) → Small ticks nominal bit first
    → lex between (line ticks nominal bit first) ≡ lexemes ticks nominal bit first
line_lexed ticks nominal bit first s =
    version_lexed (codes "1" ++ part1 ticks nominal bit first)
    ∙ ap (λ (x : List Lexeme). token tok.begin_object ∷ token (tok.string (codes "version")) ∷ colon ∷ x)
    (number_lexed (codes "1") (part1 ticks nominal bit first) _ one_is_number refl
    (part1_lexed ticks nominal bit first s))

-- ---- the value

abbrev value_of : ℕ → ℕ → ℕ → ℕ → Data
value_of ticks nominal bit first =
    object (member (codes "data_ticks") (number (unsigned bit))
    (member (codes "first_id") (number (unsigned first))
    (member (codes "nominal_ticks") (number (unsigned nominal))
    (member (codes "ticks_per_us") (number (unsigned ticks))
    (member (codes "version") (number (unsigned 1)) no_members)))))

abbrev value_from : List Lexeme → Option Data
value_from ls =
    option_and_then of_json (option_and_then (λ p. json.if_last p.0 p.1)
    (json.value max_depth (punctuate fresh ls)))

lexemes_read : (ticks nominal bit first : ℕ) → Small ticks nominal bit first
    → value_from (lexemes ticks nominal bit first) ≡ Some (value_of ticks nominal bit first)
unfolding serde_json_on_literals
lexemes_read ticks nominal bit first s =
    rw (
      number_of-decimal ticks s.ticks_small,
      number_of-decimal nominal s.nominal_small,
      number_of-decimal bit s.bit_small,
      number_of-decimal first s.first_small,
    ) refl

line_read : (ticks nominal bit first : ℕ) → Small ticks nominal bit first
    → read (line ticks nominal bit first) ≡ Some (value_of ticks nominal bit first)
line_read ticks nominal bit first s = ap value_from (line_lexed ticks nominal bit first s)
    ∙ lexemes_read ticks nominal bit first s

-- ---- the network

decimal_utf8 : (n : ℕ) (name rest : List ℕ) → n < 2 ^ 64 → are_ascii name ≡ true → IsUtf8 rest
    → IsUtf8 (name ++ (decimal n ++ rest))
decimal_utf8 n name rest small ascii h =
    IsUtf8-append name (decimal n ++ rest) (IsUtf8-are_ascii name ascii)
    (IsUtf8-append (decimal n) rest (IsUtf8-from_ascii (decimal n) (IsAscii-decimal n small)) h)

line_utf8 : (ticks nominal bit first : ℕ) → Small ticks nominal bit first
    → IsUtf8 (line ticks nominal bit first)
line_utf8 ticks nominal bit first s =
    let p4 =
    decimal_utf8 first (codes ",\"first_id\":") part5 s.first_small refl (IsUtf8-are_ascii part5 refl) in
    let p3 = decimal_utf8 bit (codes ",\"data_ticks\":") (part4 first) s.bit_small refl p4 in
    let p2 = decimal_utf8 nominal (codes ",\"nominal_ticks\":") (part3 bit first) s.nominal_small refl p3 in
    decimal_utf8 ticks (codes "{\"version\":1,\"ticks_per_us\":")
    (part2 nominal bit first) s.ticks_small refl p2

line_kept : (ticks nominal bit first : ℕ)
    → strip_bom (line ticks nominal bit first) ≡ line ticks nominal bit first
unfolding strip_bom
line_kept ticks nominal bit first = refl

value_back : (ticks nominal bit first : ℕ) → Small ticks nominal bit first
    → value_in (line ticks nominal bit first) ≡ Some (value_of ticks nominal bit first)
value_back ticks nominal bit first s =
    let is : is_utf8 (line ticks nominal bit first) ≡ true =
    is_utf8-from_IsUtf8 (line ticks nominal bit first) (line_utf8 ticks nominal bit first s) in
    rw (line_kept ticks nominal bit first, is, line_read ticks nominal bit first s) refl

ranged_back : (low high n : ℕ) → low ≤ n → n ≤ high → in_range low high (Some n) ≡ Some n
ranged_back low high n above below =
    let a : nat_le low n ≡ true = le-leb _ _ above in
    let b : nat_le n high ≡ true = le-leb _ _ below in
    rw (a, b) refl

members_back : (n : Network) → NetworkStands n
    → network_in (value_of n.ticks_per_us n.nominal_ticks n.data_ticks n.first_id) ≡ Ok n
members_back n s =
    rw (
      ranged_back 1 1000 n.ticks_per_us s.ticks_low s.ticks_high,
      ranged_back 1 10000 n.nominal_ticks s.nominal_low s.nominal_high,
      ranged_back 1 n.nominal_ticks n.data_ticks s.data_low s.data_high,
      ranged_back 0 1920 n.first_id (omega arith) s.first_id_high,
    ) refl

-- the written text is read
pub network_back : (n : Network) → NetworkStands n → network_of (network_text n) ≡ Ok n
network_back n s =
    let small : Small n.ticks_per_us n.nominal_ticks n.data_ticks n.first_id = record {
      ticks_small = omega (arith, s.ticks_high);
      nominal_small = omega (arith, s.nominal_high);
      bit_small = omega (arith, s.data_high, s.nominal_high);
      first_small = omega (arith, s.first_id_high);
    } in
    ap (λ (o : Option Data). or_error not_json o >>= network_in)
    (value_back n.ticks_per_us n.nominal_ticks n.data_ticks n.first_id small) ∙ members_back n s
