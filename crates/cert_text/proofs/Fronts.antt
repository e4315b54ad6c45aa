-- Words that begin with numbers.
use Rattle.std.proofs.Common.{◌≡◌, ◌<◌, ◌^◌, ℕ, List, [], ◌∷◌, ◌++◌, Option, None, Some, map, refl, sym, ap, ◌∙◌, append_assoc, decimal, arith}
use Rattle.std.specs.List.{AllByRecursion}
use Rattle.std.specs.Option.{option_map}
use Rattle.std.proofs.lemmas.List.{map-append}
use Rattle.cert_text.specs.CertText.{parts}
use Rattle.cert_text.specs.Words.{BeginsNumbers, before_slash, numbers_of}
use Rattle.cert_text.proofs.Cuts.{all_append, parts_free}
use Rattle.cert_text.proofs.Read.{decimal_clean, not_slash, number_back}

-- no number
pub begins_none : (text : List ℕ) → BeginsNumbers text [] text
begins_none text = record { words = refl; small = tt }

-- one number more
pub begins_more : (text ns left after : List ℕ) (n : ℕ) → BeginsNumbers text ns left → left ≡ decimal n ++ 32 ∷ after → n < 2 ^ 64 → BeginsNumbers text (ns ++ n ∷ []) after
begins_more text ns left after n b is small =
    let cut : parts 32 left ≡ decimal n ∷ parts 32 after = ap (parts 32) is ∙ parts_free 32 (decimal n) after (decimal_clean 32 n (omega arith) (omega arith)) in
    record {
      words =
          b.words ∙ ap (λ (ws : List (List ℕ)). map decimal ns ++ ws) cut ∙ sym (append_assoc (map decimal ns) (decimal n ∷ []) (parts 32 after))
          ∙ ap (λ (ws : List (List ℕ)). ws ++ parts 32 after) (sym (map-append decimal ns (n ∷ [])));
      small = all_append (λ n. n < 2 ^ 64) ns (n ∷ []) b.small (small, tt);
    }

-- the numbers of numbers and further words
numbers_first : (ns : List ℕ) (ws : List (List ℕ)) → AllByRecursion (λ n. n < 2 ^ 64) ns → numbers_of (map decimal ns ++ ws) ≡ option_map (λ others. ns ++ others) (numbers_of ws)
numbers_first [] ws small = same (numbers_of ws)
  where
    same : (o : Option (List ℕ)) → o ≡ option_map (λ x. x) o
    same None = refl
    same (Some x) = refl
numbers_first (n ∷ ns) ws small = rw (number_back n small.0, numbers_first ns ws small.1) (both (numbers_of ws))
  where
    both : (o : Option (List ℕ)) → option_map (λ x. n ∷ x) (option_map (λ x. ns ++ x) o) ≡ option_map (λ x. n ∷ (ns ++ x)) o
    both None = refl
    both (Some x) = refl

-- numbers, and the words after a slash
abbrev Front : Type 0
Front = List ℕ × List (List ℕ)

-- these numbers before others
abbrev pub onto_front : List ℕ → Option (List ℕ × List (List ℕ)) → Option (List ℕ × List (List ℕ))
onto_front ns o = option_map {T = Front} {U = Front} (λ p. (ns ++ p.0, p.1)) o

-- numbers before a slash among further words
slash_first : (ns : List ℕ) (ws : List (List ℕ)) → AllByRecursion (λ n. n < 2 ^ 64) ns → before_slash (map decimal ns ++ ws) ≡ onto_front ns (before_slash ws)
slash_first [] ws small = same (before_slash ws)
  where
    same : (o : Option Front) → o ≡ onto_front [] o
    same None = refl
    same (Some x) = refl
slash_first (n ∷ ns) ws small = rw (not_slash n small.0, number_back n small.0, slash_first ns ws small.1) (both (before_slash ws))
  where
    both : (o : Option Front) → onto_front (n ∷ []) (onto_front ns o) ≡ onto_front (n ∷ ns) o
    both None = refl
    both (Some x) = refl

-- what follows decides over the numbers
pub numbers_go_on : (text ns left : List ℕ) → BeginsNumbers text ns left → option_map (λ others. ns ++ others) (numbers_of (parts 32 left)) ≡ numbers_of (parts 32 text)
numbers_go_on text ns left b = sym (ap numbers_of b.words ∙ numbers_first ns (parts 32 left) b.small)

-- and over those before a slash
pub slash_goes_on : (text ns left : List ℕ) → BeginsNumbers text ns left → onto_front ns (before_slash (parts 32 left)) ≡ before_slash (parts 32 text)
slash_goes_on text ns left b = sym (ap before_slash b.words ∙ slash_first ns (parts 32 left) b.small)
