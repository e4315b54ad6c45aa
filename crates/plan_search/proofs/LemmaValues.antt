-- The values of lemmas by sender.
use Rattle.std.proofs.Common.{◌≡◌, ℕ, zero, suc, ◌+◌, ◌-◌, ◌<◌, cond, List, [], ◌∷◌, length, drop, get_or, map, All, replicate, refl, sym, ap, ◌∙◌, arith}
use Rattle.std.specs.List.{range_with_len}
use Rattle.std.proofs.Math.ListN.{set}
use Rattle.std.proofs.Math.Seq.{drop-cons}
use Rattle.std.proofs.lemmas.Bool.{eq-eqb, ne_eqb}
use Rattle.std.proofs.lemmas.List.{drop_all, get_or-map, length-map}
use Rattle.std.proofs.lemmas.List.FromFn.{length-range_with_len}
use Rattle.pack_model.specs.Problem.{Parts}
use Rattle.cert_text.specs.declared.parts.Lemma.{Lemma}
use Rattle.cert_text.specs.PlainTree.{plain_lemma}
use Rattle.cert_text.specs.Parts.{LemmaOf}
use Rattle.cert_text.specs.Trees.{Plain}
use Rattle.bandwidth_bound.specs.Lemmas.{value_of, values_of}

-- without lemmas they are 0
pub no-values : (a n : ℕ) → map (value_of []) (range_with_len a n) ≡ replicate n 0
no-values a zero = refl
no-values a (suc n) = ap (λ (vs : List ℕ). 0 ∷ vs) (no-values (a + 1) n)

module _ (lemma : LemmaOf Plain) (lemmas : List (LemmaOf Plain)) where
  other : (s : ℕ) → (lemma.sender ≡ s → ⊥) → value_of (lemma ∷ lemmas) s ≡ value_of lemmas s
  other s ne = ap (λ b. cond b lemma.value (value_of lemmas s)) (ne_eqb lemma.sender s ne)

  later : (a n : ℕ) → lemma.sender < a
      → map (value_of (lemma ∷ lemmas)) (range_with_len a n) ≡ map (value_of lemmas) (range_with_len a n)
  later a zero lt = refl
  later a (suc n) lt =
      ap (λ v. v ∷ map (value_of (lemma ∷ lemmas)) (range_with_len (a + 1) n))
      (other a (λ e. omega (arith, e)))
      ∙ ap (λ (vs : List ℕ). value_of lemmas a ∷ vs) (later (a + 1) n (omega arith))

  value-set : (a n j : ℕ) → j < n → lemma.sender ≡ a + j
      → map (value_of (lemma ∷ lemmas)) (range_with_len a n)
      ≡ set (map (value_of lemmas) (range_with_len a n)) j lemma.value
  value-set a zero j lt is = absurd (omega arith)
  value-set a (suc n) zero lt is =
      ap (λ b. cond b lemma.value (value_of lemmas a) ∷ map (value_of (lemma ∷ lemmas))
      (range_with_len (a + 1) n))
      (eq-eqb lemma.sender a (omega (arith, is)))
      ∙ ap (λ (vs : List ℕ). lemma.value ∷ vs) (later (a + 1) n (omega (arith, is)))
  value-set a (suc n) (suc j) lt is =
      ap (λ v. v ∷ map (value_of (lemma ∷ lemmas)) (range_with_len (a + 1) n))
      (other a (λ e. omega (arith, e, is)))
      ∙ ap (λ (vs : List ℕ). value_of lemmas a ∷ vs) (value-set (a + 1) n j (omega arith) (omega (arith, is)))

  -- one lemma before the others sets its sender's
  pub value-more : (n : ℕ) → lemma.sender < n
      → map (value_of (lemma ∷ lemmas)) (range_with_len 0 n)
      ≡ set (map (value_of lemmas) (range_with_len 0 n)) lemma.sender lemma.value
  value-more n lt = value-set 0 n lemma.sender lt (omega arith)

-- one lemma more, from the last one on
pub values-step : (problem : Parts) (lemmas : List Lemma) (lemma : Lemma) (k : ℕ) (values : List ℕ)
    → k < length lemmas → lemma ≡ get_or lemmas (length lemmas - 1 - k) lemma
    → lemma.sender < length problem.senders
    → values ≡ values_of problem (map plain_lemma (drop (length lemmas - k) lemmas))
    → set values lemma.sender lemma.value
    ≡ values_of problem (map plain_lemma (drop (length lemmas - (k + 1)) lemmas))
values-step problem lemmas lemma k values lt at low are =
    let i = length lemmas - 1 - k in
    let place : length lemmas - (k + 1) ≡ i = omega arith in
    let next : suc i ≡ length lemmas - k = omega arith in
    let rest = map plain_lemma (drop (length lemmas - k) lemmas) in
    let parts : drop (length lemmas - (k + 1)) lemmas ≡ lemma ∷ drop (length lemmas - k) lemmas =
    ap (λ m. drop m lemmas) place ∙ drop-cons lemmas i lemma (omega arith)
    ∙ ap (λ l. l ∷ drop (suc i) lemmas) (sym at) ∙ ap (λ m. lemma ∷ drop m lemmas) next in
    ap (λ vs. set vs lemma.sender lemma.value) are
    ∙ sym (value-more (plain_lemma lemma) rest (length problem.senders) low)
    ∙ ap (λ ls. values_of problem (map plain_lemma ls)) (sym parts)

-- before the first one
pub values-none : (problem : Parts) (lemmas : List Lemma) (values : List ℕ)
    → values ≡ replicate (length problem.senders) 0
    → values ≡ values_of problem (map plain_lemma (drop (length lemmas - 0) lemmas))
values-none problem lemmas values are =
    are ∙ sym (no-values 0 (length problem.senders))
    ∙ ap (λ ls. values_of problem (map plain_lemma ls))
    (sym (drop_all (length lemmas - 0) lemmas (omega arith)))

-- there is one for each sender
pub length-values : (problem : Parts) (lemmas : List (LemmaOf Plain))
    → length (values_of problem lemmas) ≡ length problem.senders
length-values problem lemmas =
    length-map (range_with_len 0 (length problem.senders)) (value_of lemmas)
    ∙ length-range_with_len 0 (length problem.senders)

-- where the senders of lemmas are there, they are of the lemmas that the code holds
pub senders-low : (problem : Parts) (lemmas : List Lemma)
    → All (λ (lemma : LemmaOf Plain). lemma.sender < length problem.senders) (map plain_lemma lemmas)
    → All (λ (lemma : Lemma). lemma.sender < length problem.senders) lemmas
senders-low problem lemmas low k d lt = omega (
  arith,
  low k (plain_lemma d) (omega (arith, lt, length-map lemmas plain_lemma)),
  ap (λ (l : LemmaOf Plain). l.sender) (get_or-map plain_lemma lemmas k d (plain_lemma d) lt),
)
