-- The values of lemmas that stand are at most 8 times the load of every legal grouping of their sender's
-- items.
use Rattle.std.proofs.Common.{◌≡◌, ℕ, ◌*◌, ◌≤◌, ◌==◌, inl, inr, Bool, true, false, if◌then◌else◌, List, [], ◌∷◌, length, All, slice_index_or, Option, Some, refl, sym, subst, arith}
use Rattle.std.proofs.lemmas.Bool.{eqb-true}
use Rattle.std.proofs.lemmas.List.Elements.{All-head, All-tail}
use Rattle.std.proofs.lemmas.List.FromFn.{get_or-map-range_with_len}
use Rattle.pack_model.specs.Problem.{Parts, IsProblem, sent_by}
use Rattle.class_frame.specs.Classes.{load_of}
use Rattle.class_frame.specs.Legal.{IsLegal}
use Rattle.cert_text.specs.Parts.{CertParts, LemmaOf}
use Rattle.cert_text.specs.Trees.{Plain}
use Rattle.bandwidth_bound.specs.Covering.{extends_some}
use Rattle.bandwidth_bound.specs.Goals.{lemma_goal}
use Rattle.bandwidth_bound.specs.Lemmas.{LemmaStands, LemmasHold, StandingLemmasHold, value_of, values_of}
use Rattle.bandwidth_bound.specs.PriceLaws.{BoundIsBelow}
use Rattle.bandwidth_bound.specs.Rule.{TreesStand}
use Rattle.bandwidth_bound.specs.Trees.{TreeStands}
use Rattle.bandwidth_bound.proofs.TreeClaims.{claim, none_open}

-- no lemmas hold
none_hold : (problem : Parts) → LemmasHold problem []
none_hold problem sender low q legal = omega arith

module _ (below : BoundIsBelow) (problem : Parts) (stands : IsProblem problem) where
  -- the value of a lemma that stands is at most 8 times the load of its sender's groupings
  lemma_holds : (sender value : ℕ) (tree : Plain) → TreeStands (lemma_goal problem sender value) [] tree
      → (q : List ℕ) → IsLegal (sent_by problem.items sender) q
      → value ≤ 8 * load_of problem (sent_by problem.items sender) q
  lemma_holds sender value tree h q legal =
      elim (claim (lemma_goal problem sender value) q legal (load_of problem (sent_by problem.items sender) q)
      (λ p partial e. below problem stands (Some sender) [] (none_hold problem) p q partial legal e)
      (λ p named partial e failing. failing) [] tree h refl) [
        | inl reached ↦ reached
        | inr some ↦ absurd (
            let none : extends_some [] q ≡ true =
            subst (λ places. extends_some places q ≡ true)
            (none_open (lemma_goal problem sender value) refl [] tree h) some in
            cc)
      ]

  -- so is what they say of a sender
  value_holds : (lemmas : List (LemmaOf Plain)) → All (LemmaStands problem) lemmas → (sender : ℕ)
      → (q : List ℕ) → IsLegal (sent_by problem.items sender) q
      → value_of lemmas sender ≤ 8 * load_of problem (sent_by problem.items sender) q
  value_holds [] each sender q legal = omega arith
  value_holds (lemma ∷ lemmas) each sender q legal =
      by (lemma.sender == sender) refl
      (value_holds lemmas (All-tail (LemmaStands problem) lemma lemmas each) sender q legal)
    where
      by : (b : Bool) → (lemma.sender == sender) ≡ b
          → value_of lemmas sender ≤ 8 * load_of problem (sent_by problem.items sender) q
          → (if b then lemma.value else value_of lemmas sender)
          ≤ 8 * load_of problem (sent_by problem.items sender) q
      by true same rest =
          let its : lemma.sender ≡ sender = eqb-true lemma.sender sender same in
          subst (λ n. lemma.value ≤ 8 * load_of problem (sent_by problem.items n) q) its
          (lemma_holds lemma.sender lemma.value lemma.tree
          (All-head (LemmaStands problem) lemma lemmas each).1 q
          (subst (λ n. IsLegal (sent_by problem.items n) q) (sym its) legal))
      by false other rest = rest

pub standing_lemmas_hold : BoundIsBelow → StandingLemmasHold
standing_lemmas_hold below problem stands lemmas stand sender low q legal =
    let value : slice_index_or (values_of problem lemmas) sender 0 ≡ value_of lemmas sender =
    get_or-map-range_with_len (value_of lemmas) 0 (length problem.senders) sender sender 0 low (omega arith)
    in
    omega (arith, value, value_holds below problem stands lemmas stand.each sender q legal)

-- so hold the values of a certificate's lemmas, where its trees stand
pub values_hold : BoundIsBelow → (problem : Parts) → IsProblem problem → (best : Option ℕ)
    (may_leave : Bool) (cert : CertParts) → TreesStand problem best may_leave cert
    → LemmasHold problem (values_of problem cert.lemmas)
values_hold below problem stands best may_leave cert trees =
    standing_lemmas_hold below problem stands cert.lemmas trees.lemmas
