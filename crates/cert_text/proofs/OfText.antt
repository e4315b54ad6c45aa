-- The certificate of a text, or why it has none, in the user's words.
use Rattle.std.proofs.Common.{◌≡◌, ℕ, List, map, false, true, Option, Some, None, Ok, Err, refl, sym, ap, subst, ◌∙◌}
use Rattle.std.specs.Prelude.{IsSome}
use Rattle.std.specs.Option.{option_map}
use Rattle.cert_text.specs.declared.parts.Kind.{Kind}
use Rattle.cert_text.specs.declared.parts.Kind.TheVariants.{KindPlaced, KindTimed, KindBetween, KindBest, KindNoSolution}
use Rattle.cert_text.specs.declared.parts.FrameLine.{FrameLine}
use Rattle.cert_text.specs.Trees.{unmark}
use Rattle.cert_text.specs.Parts.{CertParts, HasParts, LemmaOf, unmark_lemma}
use Rattle.cert_text.specs.CertText.{CertRefusal, CertText, IsAnswer, bad_line, cut}
use Rattle.cert_text.specs.Reading.{cert_of_text, refusal_of, unless, value_of}
use Rattle.cert_text.proofs.Exact.{cert-value, refusal-exact}
use Rattle.cert_text.proofs.Refusals.{Answer, refusal-answer}

-- a text that is refused has no certificate
pub of_text-refused : (bytes : List ℕ) (why : CertRefusal) → refusal_of bytes ≡ Some why → cert_of_text bytes ≡ Err why
unfolding cert_of_text
of_text-refused bytes why e = ap (λ r. unless r (value_of bytes)) e

-- a text that isn't refused has the certificate that its lines make
pub of_text-whole : (bytes : List ℕ) (cert : CertParts) → refusal_of bytes ≡ None → value_of bytes ≡ cert → cert_of_text bytes ≡ Ok cert
unfolding cert_of_text
of_text-whole bytes cert e is = ap (λ r. unless r (value_of bytes)) e ∙ ap (λ x. Ok x) is

-- the certificate of a text is in the user's words its certificate, and each refusal is one
pub of_text-answer : (bytes : List ℕ) → IsAnswer bytes (cert_of_text bytes)
unfolding cert_of_text
of_text-answer bytes = by (refusal_of bytes) (refusal-answer bytes)
  where
    by : (r : Option CertRefusal) → Answer bytes r → IsAnswer bytes (unless r (value_of bytes))
    by None a = subst (CertText bytes) (sym (cert-value bytes a.0 a.1)) a.1
    by (Some (bad_line n)) a = a
    by (Some cut) a = a

-- the certificate of a text is found
pub of_text-cert : (bytes : List ℕ) (cert : CertParts) → CertText bytes cert → cert_of_text bytes ≡ Ok cert
of_text-cert bytes cert c = of_text-whole bytes cert (refusal-exact bytes None (cert, c)) (cert-value bytes cert c)

-- what is there is there after a function
some_mapped : {A : Type 0} {B : Type 0} (f : A → B) (o : Option A) → IsSome o → IsSome (option_map f o)
some_mapped f None h = absurd (let no : false ≡ true = h in cc)
some_mapped f (Some x) h = refl

-- other lemmas and another tree in their places change nothing of which parts there are
pub mapped_parts : {T : Type 0} {U : Type 0} (f : LemmaOf T → LemmaOf U) (g : T → U) (k : Kind) (frames : List FrameLine) (lemmas : List (LemmaOf T)) (tree : Option T) → HasParts k frames lemmas tree
    → HasParts k frames (map f lemmas) (option_map g tree)
mapped_parts f g KindPlaced frames lemmas tree has = (has.0, ap (map f) has.1, ap (option_map g) has.2)
mapped_parts f g KindTimed frames lemmas tree has = (ap (map f) has.0, ap (option_map g) has.1)
mapped_parts f g KindBetween frames lemmas tree has = some_mapped g tree has
mapped_parts f g KindBest frames lemmas tree has = some_mapped g tree has
mapped_parts f g KindNoSolution frames lemmas tree has = some_mapped g tree has

-- a certificate that a text has, has the parts of its kind
pub text_parts : (bytes : List ℕ) (cert : CertParts) → CertText bytes cert → HasParts cert.kind cert.frames cert.lemmas cert.main_tree
text_parts bytes cert c =
    let m = c.marked in
    subst (λ (x : CertParts). HasParts x.kind x.frames x.lemmas x.main_tree) c.unmarked (mapped_parts unmark_lemma unmark m.kind m.frames m.lemmas m.main_tree c.in_range.stands.parts)

-- so has the certificate that lines make
pub made_parts : (bytes : List ℕ) (cert : CertParts) → refusal_of bytes ≡ None → value_of bytes ≡ cert → HasParts cert.kind cert.frames cert.lemmas cert.main_tree
made_parts bytes cert none is =
    let found : IsAnswer bytes (Ok cert) = subst (IsAnswer bytes) (of_text-whole bytes cert none is) (of_text-answer bytes) in
    text_parts bytes cert found
