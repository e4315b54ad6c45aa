-- A text has one certificate, and exactly one refusal where it has none.
use Rattle.std.proofs.Common.{◌≡◌, ◌≢◌, ◌⊎◌, ◌<◌, ◌≤◌, ◌+◌, ◌-◌, ℕ, zero, suc, List, [], ◌∷◌, ◌++◌, length, map, take, drop, Option, Some, None, refl, sym, ap, subst, ◌∙◌, arith, inl, inr, append_assoc, append-nil}
use Rattle.std.specs.List.{AllByRecursion}
use Rattle.std.proofs.lemmas.Bool.{cases_lt}
use Rattle.cert_text.specs.declared.line.Line.{Line}
use Rattle.cert_text.specs.Trees.{Plain}
use Rattle.cert_text.specs.Parts.{CertOf}
use Rattle.cert_text.specs.CertEvents.{cert_events}
use Rattle.cert_text.specs.Lines.{LineInRange, cert_lines, ended, line_text}
use Rattle.cert_text.specs.CertText.{BeginsText, CertRefusal, CertText, IsBadLine, IsCut, bad_line, cut, ended_lines, unfinished, with_ends}
use Rattle.cert_text.specs.Grammar.{start}
use Rattle.cert_text.specs.Making.{cert_made, made, nothing_made}
use Rattle.cert_text.specs.Heard.{collect, silent}
use Rattle.cert_text.specs.Reading.{lines_said, onto_said, refusal, value_of}
use Rattle.cert_text.proofs.Build.{made-cert}
use Rattle.cert_text.proofs.Events.{collect_back}
use Rattle.cert_text.proofs.Read.{line_of-text}
use Rattle.cert_text.proofs.Refusals.{Answer, refusal-answer}
use Rattle.cert_text.proofs.Texts.{cert-lead, cert-lines, lines_and_rest}

-- lines in range are said by their bytes
lines_back : (ls : List Line) → AllByRecursion LineInRange ls → lines_said (map line_text ls) ≡ ls
unfolding lines_said
lines_back [] small = refl
lines_back (l ∷ ls) small = ap (λ o. onto_said o (lines_said (map line_text ls))) (line_of-text l small.0) ∙ ap (λ x. l ∷ x) (lines_back ls small.1)

-- the certificate of a text is what its lines make
pub cert-value : (bytes : List ℕ) (cert : CertOf Plain) → CertText bytes cert → value_of bytes ≡ cert
unfolding value_of collect
cert-value bytes cert c =
    let lines : lines_said (ended_lines bytes) ≡ cert_lines c.marked = ap lines_said (cert-lines bytes cert c) ∙ lines_back (cert_lines c.marked) c.in_range.numbers in
    let events : collect silent (cert_lines c.marked) ≡ cert_events c.marked =
    ap (collect silent) (sym (append-nil (cert_lines c.marked))) ∙ collect_back (cert_events c.marked) [] ∙ append-nil (cert_events c.marked) in
    ap (λ ls. cert_made (made nothing_made (collect silent ls))) lines ∙ ap (λ es. cert_made (made nothing_made es)) events ∙ made-cert c.marked ∙ c.unmarked

-- so it is one
pub cert-unique : (bytes : List ℕ) (a b : CertOf Plain) → CertText bytes a → CertText bytes b → a ≡ b
cert-unique bytes a b x y = sym (cert-value bytes a x) ∙ cert-value bytes b y

-- ---- one answer

-- the bytes of lines are joined as they are
ends_append : (a b : List (List ℕ)) → with_ends (a ++ b) ≡ with_ends a ++ with_ends b
ends_append [] b = refl
ends_append (x ∷ a) b = ap (λ y. ended x ++ y) (ends_append a b) ∙ sym (append_assoc (ended x) (with_ends a) (with_ends b))

-- a front and the rest are the whole
split : (n : ℕ) (xs : List (List ℕ)) → xs ≡ take n xs ++ drop n xs
split zero xs = refl
split (suc n) [] = refl
split (suc n) (x ∷ xs) = ap (λ ys. x ∷ ys) (split n xs)

-- a shorter front begins a longer one
fewer : (n m : ℕ) (xs : List (List ℕ)) → n ≤ m → (rest : List (List ℕ)) × (take m xs ≡ take n xs ++ rest)
fewer zero m xs le = (take m xs, refl)
fewer (suc n) zero xs le = absurd (omega arith)
fewer (suc n) (suc m) [] le = ([], refl)
fewer (suc n) (suc m) (x ∷ xs) le = let more = fewer n m xs (omega arith) in (more.0, ap (λ ys. x ∷ ys) more.1)

-- fewer lines begin what more begin
begins_fewer : (n m : ℕ) (xs : List (List ℕ)) → n ≤ m → BeginsText (with_ends (take m xs)) → BeginsText (with_ends (take n xs))
begins_fewer n m xs le b =
    let f = fewer n m xs le in
    record {
      marked = b.marked;
      rest = with_ends f.0 ++ b.rest;
      in_range = b.in_range;
      text = b.text ∙ ap (λ x. with_ends x ++ b.rest) f.1 ∙ ap (λ x. x ++ b.rest) (ends_append (take n xs) f.0) ∙ append_assoc (with_ends (take n xs)) (with_ends f.0) b.rest;
    }

-- fewer lines begin what all lines and more bytes begin
begins_all : (n : ℕ) (xs : List (List ℕ)) (rest : List ℕ) → BeginsText (with_ends xs ++ rest) → BeginsText (with_ends (take n xs))
begins_all n xs rest b = record {
  marked = b.marked;
  rest = with_ends (drop n xs) ++ (rest ++ b.rest);
  in_range = b.in_range;
  text = b.text ∙ append_assoc (with_ends xs) rest b.rest ∙ ap (λ x. with_ends x ++ (rest ++ b.rest)) (split n xs) ∙ ap (λ x. x ++ (rest ++ b.rest)) (ends_append (take n xs) (drop n xs))
      ∙ append_assoc (with_ends (take n xs)) (with_ends (drop n xs)) (rest ++ b.rest);
}

-- a certificate's text begins one
text_begins : (bytes : List ℕ) (cert : CertOf Plain) → CertText bytes cert → BeginsText bytes
text_begins bytes cert c = record { marked = c.marked; rest = []; in_range = c.in_range; text = c.text ∙ sym (append-nil bytes) }

-- a bad line isn't in a certificate
bad_no_cert : (bytes : List ℕ) (n : ℕ) (cert : CertOf Plain) → IsBadLine bytes n → CertText bytes cert → ⊥
bad_no_cert bytes n cert b c = by b.bad
  where
    by : ((n ≤ length (ended_lines bytes)) × (BeginsText (with_ends (take n (ended_lines bytes))) → ⊥))
        ⊎ ((n ≡ length (ended_lines bytes) + 1) × ((cert : CertOf Plain) × CertText (with_ends (ended_lines bytes)) cert) × (unfinished bytes ≢ [])) → ⊥
    by (inl x) = x.1 (begins_all n (ended_lines bytes) (unfinished bytes) (subst BeginsText (lines_and_rest bytes) (text_begins bytes cert c)))
    by (inr x) = x.2 (cert-lead bytes cert c).1

-- a bad line is no cut
bad_no_cut : (bytes : List ℕ) (n : ℕ) → IsBadLine bytes n → IsCut bytes → ⊥
bad_no_cut bytes n b c = by b.bad
  where
    by : ((n ≤ length (ended_lines bytes)) × (BeginsText (with_ends (take n (ended_lines bytes))) → ⊥))
        ⊎ ((n ≡ length (ended_lines bytes) + 1) × ((cert : CertOf Plain) × CertText (with_ends (ended_lines bytes)) cert) × (unfinished bytes ≢ [])) → ⊥
    by (inl x) = x.1 (begins_all n (ended_lines bytes) [] (subst BeginsText (sym (append-nil (with_ends (ended_lines bytes)))) c.stand))
    by (inr x) = c.not_whole x.1.0 x.1.1

-- a text that is cut has no certificate
cut_no_cert : (bytes : List ℕ) (cert : CertOf Plain) → IsCut bytes → CertText bytes cert → ⊥
cut_no_cert bytes cert c t =
    let whole : with_ends (ended_lines bytes) ≡ bytes = sym (lines_and_rest bytes ∙ ap (λ x. with_ends (ended_lines bytes) ++ x) (cert-lead bytes cert t).1 ∙ append-nil (with_ends (ended_lines bytes))) in
    c.not_whole cert (subst (λ x. CertText x cert) (sym whole) t)

-- of two bad lines neither is before the other
not_before : (bytes : List ℕ) (n m : ℕ) → IsBadLine bytes n → IsBadLine bytes m → n < m → ⊥
not_before bytes n m a b lt = by a.bad b.bad
  where
    by : ((n ≤ length (ended_lines bytes)) × (BeginsText (with_ends (take n (ended_lines bytes))) → ⊥))
        ⊎ ((n ≡ length (ended_lines bytes) + 1) × ((cert : CertOf Plain) × CertText (with_ends (ended_lines bytes)) cert) × (unfinished bytes ≢ []))
        → ((m ≤ length (ended_lines bytes)) × (BeginsText (with_ends (take m (ended_lines bytes))) → ⊥))
        ⊎ ((m ≡ length (ended_lines bytes) + 1) × ((cert : CertOf Plain) × CertText (with_ends (ended_lines bytes)) cert) × (unfinished bytes ≢ [])) → ⊥
    by (inl x) y = x.1 (begins_fewer n (m - 1) (ended_lines bytes) (omega arith) b.before)
    by (inr x) (inl y) = omega (arith, x.0, y.0)
    by (inr x) (inr y) = omega (arith, x.0, y.0)

-- two answers are one
pub answer-unique : (bytes : List ℕ) (r s : Option CertRefusal) → Answer bytes r → Answer bytes s → r ≡ s
answer-unique bytes None None a b = refl
answer-unique bytes None (Some (bad_line n)) a b = absurd (bad_no_cert bytes n a.0 b a.1)
answer-unique bytes None (Some cut) a b = absurd (cut_no_cert bytes a.0 b a.1)
answer-unique bytes (Some (bad_line n)) None a b = absurd (bad_no_cert bytes n b.0 a b.1)
answer-unique bytes (Some (bad_line n)) (Some (bad_line m)) a b = ap (λ k. Some (bad_line k)) (elim (cases_lt n m) [
  | inl lt ↦ absurd (not_before bytes n m a b lt)
  | inr ge ↦ elim (cases_lt m n) [ inl gt ↦ absurd (not_before bytes m n b a gt) | inr le ↦ omega arith ]
])
answer-unique bytes (Some (bad_line n)) (Some cut) a b = absurd (bad_no_cut bytes n a b)
answer-unique bytes (Some cut) None a b = absurd (cut_no_cert bytes b.0 a b.1)
answer-unique bytes (Some cut) (Some (bad_line n)) a b = absurd (bad_no_cut bytes n b a)
answer-unique bytes (Some cut) (Some cut) a b = refl

-- a refusal comes exactly where it says so
pub refusal-exact : (bytes : List ℕ) (r : Option CertRefusal) → Answer bytes r → refusal 1 start (ended_lines bytes) (unfinished bytes) ≡ r
refusal-exact bytes r a = answer-unique bytes (refusal 1 start (ended_lines bytes) (unfinished bytes)) r (refusal-answer bytes) a
