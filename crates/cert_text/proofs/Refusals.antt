-- The first refusal is that of the user's words.
use Rattle.std.proofs.Common.{◌≡◌, ◌+◌, ◌-◌, ℕ, suc, List, [], ◌∷◌, ◌++◌, length, take, Option, Some, None, refl, sym, ap, subst, ◌∙◌, arith, inl, inr, append_assoc, append-nil, length-append}
use Rattle.std.proofs.Math.Seq.{take-append_seam}
use Rattle.std.specs.Option.{option_and_then}
use Rattle.cert_text.specs.declared.symbol.Symbol.{Symbol}
use Rattle.cert_text.specs.Parts.{CertParts}
use Rattle.cert_text.specs.CertText.{BeginsText, CertRefusal, CertText, IsBadLine, IsCut, bad_line, cut, ended_lines, unfinished, with_ends}
use Rattle.cert_text.specs.Words.{line_of}
use Rattle.cert_text.specs.Grammar.{after, start}
use Rattle.cert_text.specs.Reading.{at_end, lead, or_bad, refusal}
use Rattle.cert_text.proofs.Texts.{Ends, begins-lead, cert-lead, ended_free, ended_lines-of, lead-begins, lead-cert, lines_and_rest}

-- what a refusal says of the bytes
abbrev pub Answer : List ℕ → Option CertRefusal → Type 0
Answer bytes None = (cert : CertParts) × CertText bytes cert
Answer bytes (Some (bad_line n)) = IsBadLine bytes n
Answer bytes (Some cut) = IsCut bytes

-- one line more
lead_more : (ss next : List Symbol) (before : List (List ℕ)) (b : List ℕ) → lead ss before ≡ Some next → lead ss (before ++ b ∷ []) ≡ option_and_then (λ l. after next l) (line_of b)
unfolding lead
lead_more ss next [] b e = ends (option_and_then (λ l. after ss l) (line_of b)) ∙ ap (λ x. option_and_then (λ l. after x l) (line_of b)) (let same : ss ≡ next = cc in same)
  where
    ends : (o : Option (List Symbol)) → option_and_then (λ x. lead x []) o ≡ o
    ends None = refl
    ends (Some x) = refl
lead_more ss next (a ∷ before) b e = by (option_and_then (λ l. after ss l) (line_of a)) (λ x h. lead_more x next before b h) e
  where
    by : (o : Option (List Symbol)) → ((x : List Symbol) → lead x before ≡ Some next → lead x (before ++ b ∷ []) ≡ option_and_then (λ l. after next l) (line_of b))
        → option_and_then (λ x. lead x before) o ≡ Some next → option_and_then (λ x. lead x (before ++ b ∷ [])) o ≡ option_and_then (λ l. after next l) (line_of b)
    by None further e = absurd (let none : None ≡ Some next = e in cc)
    by (Some x) further e = further x e

-- the ended lines of ended lines are they
own_lines : (bytes : List ℕ) → ended_lines (with_ends (ended_lines bytes)) ≡ ended_lines bytes
own_lines bytes = ap ended_lines (sym (append-nil (with_ends (ended_lines bytes)))) ∙ ended_lines-of (ended_lines bytes) [] (ended_free bytes) refl

-- lines that are a certificate lead to the end
whole_only : (bytes : List ℕ) (ss : List Symbol) (cert : CertParts) → lead start (ended_lines bytes) ≡ Some ss → CertText (with_ends (ended_lines bytes)) cert → ss ≡ []
whole_only bytes ss cert e c =
    let l = cert-lead (with_ends (ended_lines bytes)) cert c in
    let all : Some ss ≡ Some [] = sym e ∙ ap (lead start) (sym (own_lines bytes)) ∙ l.0 in
    cc (all)

-- at the end of the lines
ends : (bytes rest : List ℕ) (ss : List Symbol) (n : ℕ) → lead start (ended_lines bytes) ≡ Some ss → n ≡ length (ended_lines bytes) + 1 → unfinished bytes ≡ rest → Answer bytes (at_end n ss rest)
ends bytes [] [] n e at none =
    let c = lead-cert (ended_lines bytes) e in
    let whole : with_ends (ended_lines bytes) ≡ bytes = sym (lines_and_rest bytes ∙ ap (λ x. with_ends (ended_lines bytes) ++ x) none ∙ append-nil (with_ends (ended_lines bytes))) in
    (c.0, subst (λ x. CertText x c.0) whole c.1)
ends bytes (b ∷ rest) [] n e at some =
    let all : take (n - 1) (ended_lines bytes) ≡ ended_lines bytes =
    (let same : n - 1 ≡ length (ended_lines bytes) = omega arith in rw same (ap (take (length (ended_lines bytes))) (sym (append-nil (ended_lines bytes))) ∙ take-append_seam (ended_lines bytes) [])) in
    record {
      some = omega arith;
      before = subst (λ x. BeginsText (with_ends x)) (sym all) (lead-begins (ended_lines bytes) [] e);
      bad = inr (at, lead-cert (ended_lines bytes) e, λ z. let h : b ∷ rest ≡ [] = sym some ∙ z in cc);
    }
ends bytes rest (s ∷ ss) n e at is = record {
  stand = lead-begins (ended_lines bytes) (s ∷ ss) e;
  not_whole = λ cert c. let h = whole_only bytes (s ∷ ss) cert e c in cc;
}

-- a front of lines
ends_front : (xs ys : List (List ℕ)) → Ends (xs ++ ys) → Ends xs
ends_front [] ys h = tt
ends_front (x ∷ xs) ys h = (h.0, ends_front xs ys h.1)

-- a line that leads nowhere is the first bad one
bad_here : (bytes : List ℕ) (before bs : List (List ℕ)) (b : List ℕ) (ss : List Symbol) (n : ℕ) → before ++ b ∷ bs ≡ ended_lines bytes → lead start before ≡ Some ss → n ≡ length before + 1
    → option_and_then (λ l. after ss l) (line_of b) ≡ None → IsBadLine bytes n
bad_here bytes before bs b ss n is e at none =
    let less : n - 1 ≡ length before = omega arith in
    let fronts : take (n - 1) (ended_lines bytes) ≡ before = rw (less, ← is) (take-append_seam before (b ∷ bs)) in
    let longer : length (before ++ b ∷ []) ≡ n = omega (arith, length-append before (b ∷ [])) in
    let with_it : take n (ended_lines bytes) ≡ before ++ b ∷ [] = rw (← is, ← longer) (ap (take (length (before ++ b ∷ []))) (sym (append_assoc before (b ∷ []) bs)) ∙ take-append_seam (before ++ b ∷ []) bs) in
    let count : length (ended_lines bytes) ≡ length before + suc (length bs) = rw (← is) (length-append before (b ∷ bs)) in
    record {
      some = omega arith;
      before = subst (λ x. BeginsText (with_ends x)) (sym fronts) (lead-begins before ss e);
      bad = inl (
        omega arith,
        λ begins.
            let l = begins-lead (before ++ b ∷ []) (ends_front (before ++ b ∷ []) bs (subst Ends (sym is ∙ sym (append_assoc before (b ∷ []) bs)) (ended_free bytes))) (subst (λ x. BeginsText (with_ends x)) with_it begins) in
            let h : None ≡ Some l.0 = sym none ∙ sym (lead_more start ss before b e) ∙ l.1 in
            cc,
      );
    }

-- the first refusal from a line on
walk : (bytes : List ℕ) (bs before : List (List ℕ)) (ss : List Symbol) (n : ℕ) → before ++ bs ≡ ended_lines bytes → lead start before ≡ Some ss → n ≡ length before + 1
    → Answer bytes (refusal n ss bs (unfinished bytes))
unfolding refusal
walk bytes [] before ss n is e at =
    let all : before ≡ ended_lines bytes = sym (append-nil before) ∙ is in
    ends bytes (unfinished bytes) ss n (ap (lead start) (sym all) ∙ e) (at ∙ ap (λ x. length x + 1) all) refl
walk bytes (b ∷ bs) before ss n is e at =
    by (option_and_then (λ l. after ss l) (line_of b)) refl
    (λ next step. walk bytes bs (before ++ b ∷ []) next (n + 1) (append_assoc before (b ∷ []) bs ∙ is) (lead_more start ss before b e ∙ step) (let longer = length-append before (b ∷ []) in omega (arith, longer)))
  where
    by : (o : Option (List Symbol)) → option_and_then (λ l. after ss l) (line_of b) ≡ o
        → ((next : List Symbol) → option_and_then (λ l. after ss l) (line_of b) ≡ Some next → Answer bytes (refusal (n + 1) next bs (unfinished bytes)))
        → Answer bytes (or_bad n (λ next. refusal (n + 1) next bs (unfinished bytes)) o)
    by None step further = bad_here bytes before bs b ss n is e at step
    by (Some next) step further = further next step

-- what the first refusal says, or that there is none
pub refusal-answer : (bytes : List ℕ) → Answer bytes (refusal 1 start (ended_lines bytes) (unfinished bytes))
unfolding lead
refusal-answer bytes = walk bytes (ended_lines bytes) [] start 1 refl refl (omega arith)
