-- The bytes that lines of evidence begin with.
use Rattle.std.proofs.Common.{◌≡◌, ◌<◌, ◌≤◌, ◌^◌, ℕ, List, [], ◌∷◌, ◌++◌, length, map, refl, sym, ap, ◌∙◌, append_assoc, decimal, arith}
use Rattle.std.specs.List.{join_with_byte}
use Rattle.std.proofs.lemmas.List.{length-append, map-append}
use Rattle.response_test.specs.declared.evidence.Evidence.TheVariants as evidence
use Rattle.cert_text.specs.Lines.{line_words}
use Rattle.cert_text.specs.Evidences.{BeginsAgainst, BeginsFail, BlankNumbers, EndNumbers, with_blanks}
use Rattle.cert_text.proofs.Cuts.{all_append}

-- no number
pub blank_none : (bytes : List ℕ) → BlankNumbers bytes [] bytes
blank_none bytes = record { text = refl; small = tt }

-- one number more has its blank too
blanks_more : (ns : List ℕ) (n : ℕ) (rest : List ℕ) → with_blanks (ns ++ n ∷ []) rest ≡ with_blanks ns (decimal n ++ 32 ∷ rest)
blanks_more [] n rest = refl
blanks_more (m ∷ ns) n rest = ap (λ (x : List ℕ). decimal m ++ 32 ∷ x) (blanks_more ns n rest)

-- one number more
pub blank_more : (bytes ns left after : List ℕ) (n : ℕ) → BlankNumbers bytes ns left → left ≡ decimal n ++ 32 ∷ after → n < 2 ^ 64 → BlankNumbers bytes (ns ++ n ∷ []) after
blank_more bytes ns left after n b is small = record {
  text = b.text ∙ ap (with_blanks ns) is ∙ sym (blanks_more ns n after);
  small = all_append (λ n. n < 2 ^ 64) ns (n ∷ []) b.small (small, tt);
}

-- the words of numbers and further ones, with blanks between them
joined : (ns : List ℕ) (x : List ℕ) (ws : List (List ℕ)) (rest : List ℕ) → join_with_byte 32 (map decimal ns ++ x ∷ ws) ++ rest ≡ with_blanks ns (join_with_byte 32 (x ∷ ws) ++ rest)
joined [] x ws rest = refl
joined (n ∷ []) x ws rest = append_assoc (decimal n) (32 ∷ join_with_byte 32 (x ∷ ws)) rest
joined (n ∷ m ∷ ns) x ws rest =
    append_assoc (decimal n) (32 ∷ join_with_byte 32 (map decimal (m ∷ ns) ++ x ∷ ws)) rest ∙ ap (λ (z : List ℕ). decimal n ++ 32 ∷ z) (joined (m ∷ ns) x ws rest)

-- the last number, up to LF
pub end_more : (bytes ns left after : List ℕ) (n : ℕ) → BlankNumbers bytes ns left → left ≡ decimal n ++ 10 ∷ after → n < 2 ^ 64 → EndNumbers bytes (ns ++ n ∷ []) after
end_more bytes ns left after n b is small = record {
  text =
      b.text ∙ ap (with_blanks ns) is ∙ sym (joined ns (decimal n) [] (10 ∷ after))
      ∙ ap (λ (ws : List (List ℕ)). join_with_byte 32 ws ++ 10 ∷ after) (sym (map-append decimal ns (n ∷ [])));
  small = all_append (λ n. n < 2 ^ 64) ns (n ∷ []) b.small (small, tt);
  some = let size = length-append ns (n ∷ []) in omega (arith, size);
}

-- a bus that is asked for too much
pub begins_over : (bytes after : List ℕ) (label : ℕ) → bytes ≡ decimal label ++ 10 ∷ after → label ≤ 127 → BeginsAgainst (111 ∷ 118 ∷ 101 ∷ 114 ∷ 32 ∷ bytes) label evidence.Over after
unfolding line_words
begins_over bytes after label e low = record { text = ap (λ (x : List ℕ). 111 ∷ 118 ∷ 101 ∷ 114 ∷ 32 ∷ x) e; in_range = (low, tt) }

-- a busy period that is too long
pub begins_long : (bytes left ns after : List ℕ) (label : ℕ) → bytes ≡ decimal label ++ 32 ∷ left → label ≤ 127 → EndNumbers left ns after
    → BeginsAgainst (108 ∷ 111 ∷ 110 ∷ 103 ∷ 32 ∷ bytes) label (evidence.Long ns) after
unfolding line_words
begins_long bytes left [] after label e low b = absurd (let some = b.some in omega arith)
begins_long bytes left (n ∷ ns) after label e low b = record {
  text =
      ap (λ (x : List ℕ). 108 ∷ 111 ∷ 110 ∷ 103 ∷ 32 ∷ x)
      (e ∙ ap (λ (x : List ℕ). decimal label ++ 32 ∷ x) b.text ∙ sym (append_assoc (decimal label) (32 ∷ join_with_byte 32 (map decimal (n ∷ ns))) (10 ∷ after)));
  in_range = (low, (b.some, b.small));
}

-- the numbers after a slash
slashed : (left ns after : List ℕ) → EndNumbers left ns after → 47 ∷ 32 ∷ left ≡ join_with_byte 32 ((47 ∷ []) ∷ map decimal ns) ++ 10 ∷ after
slashed left [] after w = absurd (let some = w.some in omega arith)
slashed left (n ∷ ns) after w = ap (λ (x : List ℕ). 47 ∷ 32 ∷ x) w.text

-- an instance that is late
pub begins_late : (bytes one two three four bs ws after : List ℕ) (label q : ℕ) → bytes ≡ decimal label ++ 32 ∷ one → label ≤ 127 → one ≡ decimal q ++ 32 ∷ two → q < 2 ^ 64 → BlankNumbers two bs three → 1 ≤ length bs
    → three ≡ 47 ∷ 32 ∷ four → EndNumbers four ws after → BeginsAgainst (108 ∷ 97 ∷ 116 ∷ 101 ∷ 32 ∷ bytes) label (evidence.Late q bs ws) after
unfolding line_words
begins_late bytes one two three four bs ws after label q e low f small b some slash w = record {
  text =
      ap (λ (x : List ℕ). 108 ∷ 97 ∷ 116 ∷ 101 ∷ 32 ∷ x)
      (e ∙ ap (λ (x : List ℕ). decimal label ++ 32 ∷ x) (f ∙ ap (λ (x : List ℕ). decimal q ++ 32 ∷ x) (b.text ∙ ap (with_blanks bs) (slash ∙ slashed four ws after w)))
      ∙ sym (joined (label ∷ q ∷ bs) (47 ∷ []) (map decimal ws) (10 ∷ after)));
  in_range = (low, (small, some, b.small, w.some, w.small));
}

-- a fail leaf with evidence
pub begins_lacking : (bytes rest after : List ℕ) (n : ℕ) → bytes ≡ 102 ∷ 32 ∷ rest → rest ≡ decimal n ++ 10 ∷ after → 1 ≤ n → n ≤ 128 → BeginsFail bytes n after
unfolding line_words
begins_lacking bytes rest after n is e some most = record { text = is ∙ ap (λ (x : List ℕ). 102 ∷ 32 ∷ x) e; some = some; most = most }
