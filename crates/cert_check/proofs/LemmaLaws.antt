-- The values of lemmas, one after the other.
use Rattle.std.proofs.Common.{◌≡◌, ◌⊎◌, inl, inr, ◌<◌, ◌==◌, ℕ, false, cond, List, [], ◌∷◌, ◌++◌, length, get_or, set, replicate, All, refl, sym, ap, ◌∙◌, arith, zero-add}
use Rattle.std.proofs.lemmas.Bool.{cases_eq, eq-eqb, ne_eqb}
use Rattle.std.proofs.lemmas.Grind.{get_or-set_at}
use Rattle.std.proofs.lemmas.List.{ext_get_or, get_or-replicate, get_or-set_other, length-replicate, length-set}
use Rattle.std.proofs.lemmas.List.Elements.{All-head, All-tail}
use Rattle.std.proofs.lemmas.List.FromFn.{get_or-map-range_with_len, length-map-range_with_len}
use Rattle.pack_model.specs.Problem.{Parts}
use Rattle.cert_text.specs.Parts.{LemmaOf}
use Rattle.cert_text.specs.Trees.{Plain}
use Rattle.bandwidth_bound.specs.Lemmas.{value_of, values_of}

-- the value of another sender's lemma
value_other : (front : List (LemmaOf Plain)) (lemma : LemmaOf Plain) (sender : ℕ)
    → (lemma.sender == sender) ≡ false → value_of (front ++ lemma ∷ []) sender ≡ value_of front sender
value_other [] lemma sender other = ap (λ b. cond b lemma.value 0) other
value_other (first ∷ front) lemma sender other =
    ap (cond (first.sender == sender) first.value) (value_other front lemma sender other)

-- the value of the last lemma, whose sender comes after all others
value_last : (front : List (LemmaOf Plain)) (lemma : LemmaOf Plain)
    → All (λ (l : LemmaOf Plain). l.sender < lemma.sender) front
    → value_of (front ++ lemma ∷ []) lemma.sender ≡ lemma.value
value_last [] lemma before = ap (λ b. cond b lemma.value 0) (eq-eqb lemma.sender lemma.sender refl)
value_last (first ∷ front) lemma before =
    let less : first.sender < lemma.sender =
    All-head (λ (l : LemmaOf Plain). l.sender < lemma.sender) first front before in
    ap (λ b. cond b first.value (value_of (front ++ lemma ∷ []) lemma.sender))
    (ne_eqb first.sender lemma.sender (λ same. omega arith))
    ∙ value_last front lemma (All-tail (λ (l : LemmaOf Plain). l.sender < lemma.sender) first front before)

-- the values with one more lemma, whose sender comes after all others
pub values_more : (problem : Parts) (front : List (LemmaOf Plain)) (lemma : LemmaOf Plain)
    → All (λ (l : LemmaOf Plain). l.sender < lemma.sender) front → lemma.sender < length problem.senders
    → values_of problem (front ++ lemma ∷ []) ≡ set (values_of problem front) lemma.sender lemma.value
values_more problem front lemma before there =
    ext_get_or 0 (values_of problem (front ++ lemma ∷ [])) (set (values_of problem front) lemma.sender lemma.value)
    (omega (
      arith,
      long (front ++ lemma ∷ []),
      long front,
      length-set (values_of problem front) lemma.sender lemma.value,
    ))
    (λ s inside. by s (omega (arith, inside, long (front ++ lemma ∷ []))) (cases_eq s lemma.sender))
  where
    long : (lemmas : List (LemmaOf Plain)) → length (values_of problem lemmas) ≡ length problem.senders
    long lemmas = length-map-range_with_len (value_of lemmas) 0 (length problem.senders)

    value : (lemmas : List (LemmaOf Plain)) (s : ℕ) → s < length problem.senders
        → get_or (values_of problem lemmas) s 0 ≡ value_of lemmas s
    value lemmas s within =
        get_or-map-range_with_len (value_of lemmas) 0 (length problem.senders) s s 0 within (zero-add s)

    by : (s : ℕ) → s < length problem.senders → (s ≡ lemma.sender) ⊎ (s ≡ lemma.sender → ⊥)
        → get_or (values_of problem (front ++ lemma ∷ [])) s 0
        ≡ get_or (set (values_of problem front) lemma.sender lemma.value) s 0
    by s within (inl same) =
        value (front ++ lemma ∷ []) s within ∙ ap (value_of (front ++ lemma ∷ [])) same
        ∙ value_last front lemma before
        ∙ sym (get_or-set_at (values_of problem front) lemma.sender s lemma.value 0 same
        (omega (arith, there, long front)))
    by s within (inr other) =
        value (front ++ lemma ∷ []) s within
        ∙ value_other front lemma s (ne_eqb lemma.sender s (λ e. other (sym e)))
        ∙ sym (value front s within)
        ∙ sym (get_or-set_other (values_of problem front) lemma.sender s lemma.value 0 other)

-- without lemmas
pub values_none : (problem : Parts) → values_of problem [] ≡ replicate (length problem.senders) 0
values_none problem =
    ext_get_or 0 (values_of problem []) (replicate (length problem.senders) 0)
    (long ∙ sym (length-replicate (length problem.senders) 0))
    (λ s inside.
    get_or-map-range_with_len (value_of []) 0 (length problem.senders) s s 0 (omega (arith, inside, long))
    (zero-add s)
    ∙ sym (get_or-replicate (length problem.senders) s 0 0 (omega (arith, inside, long))))
  where
    long : length (values_of problem []) ≡ length problem.senders
    long = length-map-range_with_len (value_of []) 0 (length problem.senders)
