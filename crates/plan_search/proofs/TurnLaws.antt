-- What the turns of senders leave.
use Rattle.std.proofs.Common.{◌≡◌, ℕ, zero, suc, ◌+◌, ◌-◌, ◌<◌, ◌≤◌, ◌⊎◌, inl, inr, Bool, true, false, List, [], ◌∷◌, ◌++◌, length, get_or, map, All, sum_by, refl, sym, ap, subst, ◌∙◌, arith, length-append}
use Rattle.std.specs.List.{range_with_len}
use Rattle.std.specs.List.Sorted.{IsStrictlyIncreasing}
use Rattle.std.proofs.Math.Nat.{div-le_self}
use Rattle.std.proofs.lemmas.Bool.{cases_lt}
use Rattle.std.proofs.lemmas.List.{get_or-append-add, map-append}
use Rattle.std.proofs.lemmas.List.Elements.{All-map, All-nil, All-push, All-weaker}
use Rattle.std.proofs.lemmas.List.Sums.{sum_by-append, sum_by-cons}
use Rattle.pack_model.specs.Problem.{Parts, IsProblem, sent_by}
use Rattle.pack_model.proofs.Laws.{tests}
use Rattle.pack_model.proofs.Numbering.{few_senders}
use Rattle.class_frame.specs.Legal.{IsLegal}
use Rattle.grouping_tree.proofs.Classes.{get_or-front}
use Rattle.cert_text.specs.Parts.{LemmaOf}
use Rattle.cert_text.specs.Trees.{Plain}
use Rattle.cert_text.specs.Written.{TreeFits}
use Rattle.bandwidth_bound.specs.Lemmas.{LemmaStands}
use Rattle.bandwidth_bound.proofs.PriceSplits.{range-split}
use Rattle.tree_search.specs.Open.{has_open, nodes_of}
use Rattle.plan_search.specs.Begin.{AreTurns, IsTurn, Turns, after_turn, lemma_of, no_turns, share_of}
use Rattle.plan_search.specs.Searches.{LemmaIsTrimmed, nodes_of_lemmas, places_of, places_of_first}
use Rattle.plan_search.proofs.Sought.{Ended, ended}

-- ---- lists

-- one greater number more
increasing-push : (xs : List ℕ) (x : ℕ) → IsStrictlyIncreasing xs → All (λ y. y < x) xs
    → IsStrictlyIncreasing (xs ++ x ∷ [])
increasing-push xs x up low k lt = by (cases_lt (k + 1) (length xs))
  where
    within : k + 1 ≤ length xs
    within = omega (arith, lt, length-append xs (x ∷ []))

    by : (k + 1 < length xs) ⊎ (length xs ≤ k + 1)
        → get_or (xs ++ x ∷ []) k 0 < get_or (xs ++ x ∷ []) (k + 1) 0
    by (inl inside) =
        omega (
          arith,
          up k inside,
          get_or-front xs (x ∷ []) k 0 (omega arith),
          get_or-front xs (x ∷ []) (k + 1) 0 inside,
        )
    by (inr last) =
        let e : length xs + 0 ≡ k + 1 = omega (arith, within) in
        omega (
          arith,
          low k 0 (omega (arith, within)),
          get_or-front xs (x ∷ []) k 0 (omega (arith, within)),
          ap (λ n. get_or (xs ++ x ∷ []) n 0) e,
          get_or-append-add xs (x ∷ []) 0 0,
        )

nodes-push : (lemmas : List (LemmaOf Plain)) (lemma : LemmaOf Plain)
    → nodes_of_lemmas (lemmas ++ lemma ∷ []) ≡ nodes_of_lemmas lemmas + nodes_of lemma.tree
nodes-push lemmas lemma =
    sum_by-append (λ (one : LemmaOf Plain). nodes_of one.tree) lemmas (lemma ∷ [])
    ∙ omega (arith, sum_by-cons (λ (one : LemmaOf Plain). nodes_of one.tree) lemma [])

places-more : (problem : Parts) (n : ℕ) → places_of_first problem (n + 1)
    ≡ places_of_first problem n + places_of problem n
places-more problem n =
    let e : 0 + n ≡ n = omega arith in
    ap (sum_by (places_of problem)) (range-split 0 n 1)
    ∙ sum_by-append (places_of problem) (range_with_len 0 n) (range_with_len (0 + n) 1)
    ∙ omega (arith, sum_by-cons (places_of problem) (0 + n) [], ap (places_of problem) e)

share-le : (left waiting : ℕ) → share_of left waiting ≤ left
share-le left waiting = omega (arith, div-le_self left (waiting + 1))

-- there are no more senders than signals
pub senders-few : (problem : Parts) → IsProblem problem → length problem.senders ≤ 2048
senders-few problem stands =
    let it = tests problem stands in
    omega (arith, ap length it.senders, few_senders problem.signals, it.few)

-- ---- turns

module _ (problem : Parts) (stands : IsProblem problem) (branches : ℕ) where
  -- after the turns of the first senders: their lemmas stand, trimmed, within the branches spent, and where
  -- each search ended each grouping is a legal one of its sender's items
  pub record TurnsStand (n : ℕ) (turns : Turns) : Type 0 where
    pub nodes : turns.left + nodes_of_lemmas turns.lemmas ≡ branches
    pub ascending : IsStrictlyIncreasing (map (λ lemma. lemma.sender) turns.lemmas)
    pub below : All (λ lemma. lemma.sender < n) turns.lemmas
    pub each : All (LemmaStands problem) turns.lemmas
    pub are_trimmed : All (LemmaIsTrimmed problem) turns.lemmas
    pub counted : nodes_of_lemmas turns.lemmas ≤ places_of_first problem n
    pub fit : All (λ lemma. TreeFits 0 lemma.tree) turns.lemmas
    pub few : length turns.groupings ≤ n
    pub legal : length turns.groupings ≡ n → (s : ℕ) → s < n
        → IsLegal (sent_by problem.items s) (get_or turns.groupings s [])

  none-stand : TurnsStand 0 (no_turns branches)
  none-stand = record {
    nodes = omega arith;
    ascending = λ k lt. absurd (omega arith);
    below = All-nil (λ (lemma : LemmaOf Plain). lemma.sender < 0);
    each = All-nil (LemmaStands problem);
    are_trimmed = All-nil (LemmaIsTrimmed problem);
    counted = omega arith;
    fit = All-nil (λ (lemma : LemmaOf Plain). TreeFits 0 lemma.tree);
    few = omega arith;
    legal = λ e s lt. absurd (omega arith);
  }

  -- a turn that gives nothing
  spent-stand : (n : ℕ) (turns : Turns) → TurnsStand n turns → TurnsStand (n + 1) turns
  spent-stand n turns at = record {
    nodes = at.nodes;
    ascending = at.ascending;
    below = All-weaker (λ (lemma : LemmaOf Plain). lemma.sender < n)
        (λ (lemma : LemmaOf Plain). lemma.sender < n + 1)
        (λ lemma lt. omega arith) turns.lemmas at.below;
    each = at.each;
    are_trimmed = at.are_trimmed;
    counted = omega (arith, at.counted, places-more problem n);
    fit = at.fit;
    few = omega (arith, at.few);
    legal = λ e s lt. absurd (omega (arith, at.few, e));
  }

  -- a turn that gives a lemma and a grouping
  ended-stand : (n share : ℕ) (turns : Turns) (lemma : LemmaOf Plain) (load : ℕ) (labels : List ℕ)
      → n < length problem.senders → TurnsStand n turns
      → lemma.sender ≡ n → LemmaStands problem lemma → LemmaIsTrimmed problem lemma
      → nodes_of lemma.tree ≤ turns.left
      → nodes_of lemma.tree ≤ places_of problem n → TreeFits 0 lemma.tree
      → IsLegal (sent_by problem.items n) labels → TurnsStand (n + 1) (after_turn turns lemma labels)
  ended-stand n share turns lemma load labels lt at own here trimmed within counted fit legal =
      let before = spent-stand n turns at in record {
        nodes = omega (arith, at.nodes, within, nodes-push turns.lemmas lemma);
        ascending = subst IsStrictlyIncreasing
            (sym (map-append (λ (one : LemmaOf Plain). one.sender) turns.lemmas (lemma ∷ [])))
            (increasing-push (map (λ (one : LemmaOf Plain). one.sender) turns.lemmas) lemma.sender
            at.ascending
            (All-map (λ y. y < lemma.sender) (λ (one : LemmaOf Plain). one.sender) turns.lemmas
            (All-weaker (λ (one : LemmaOf Plain). one.sender < n)
            (λ (one : LemmaOf Plain). one.sender < lemma.sender)
            (λ one low. omega (arith, own)) turns.lemmas at.below)));
        below = All-push (λ (one : LemmaOf Plain). one.sender < n + 1) turns.lemmas lemma before.below
            (omega (arith, own));
        each = All-push (LemmaStands problem) turns.lemmas lemma at.each here;
        are_trimmed = All-push (LemmaIsTrimmed problem) turns.lemmas lemma at.are_trimmed trimmed;
        counted = omega (arith, at.counted, places-more problem n, counted, nodes-push turns.lemmas lemma);
        fit = All-push (λ (one : LemmaOf Plain). TreeFits 0 one.tree) turns.lemmas lemma at.fit fit;
        few = omega (arith, at.few, length-append turns.groupings (labels ∷ []));
        legal = λ e s low. each-legal (omega (arith, e, length-append turns.groupings (labels ∷ []))) s low
            (cases_lt s n);
      }
    where
      each-legal : length turns.groupings ≡ n → (s : ℕ) → s < n + 1 → (s < n) ⊎ (n ≤ s)
          → IsLegal (sent_by problem.items s) (get_or (turns.groupings ++ labels ∷ []) s [])
      each-legal all s low (inl inside) =
          subst (IsLegal (sent_by problem.items s))
          (sym (get_or-front turns.groupings (labels ∷ []) s [] (omega (arith, all)))) (at.legal all s inside)
      each-legal all s low (inr last) =
          let e : length turns.groupings + 0 ≡ s = omega (arith, all) in
          let same : n ≡ s = omega arith in
          let is : labels ≡ get_or (turns.groupings ++ labels ∷ []) s [] =
          sym (get_or-append-add turns.groupings (labels ∷ []) 0 [])
          ∙ ap (λ m. get_or (turns.groupings ++ labels ∷ []) m []) e in
          subst (IsLegal (sent_by problem.items s)) is (subst
          (λ m. IsLegal (sent_by problem.items m) labels) same legal)

  turn-stands : (n : ℕ) (before after : Turns) → n < length problem.senders → TurnsStand n before
      → IsTurn problem n before after → TurnsStand (n + 1) after
  turn-stands n before after lt at turn = by (has_open turn.end.tree) refl
    where
      share : ℕ
      share = share_of before.left (length problem.senders - n)

      by : (b : Bool) → has_open turn.end.tree ≡ b → TurnsStand (n + 1) after
      by true left = subst (TurnsStand (n + 1)) (sym (turn.spent left)) (spent-stand n before at)
      by false closed =
          let one = turn.ended closed in
          let found = one.0 in
          let lemma = lemma_of problem n found.load turn.end.tree in
          let it : Ended problem stands n share found lemma.tree =
          ended problem stands n share turn.end turn.search closed found one.1 in
          subst (TurnsStand (n + 1)) (sym one.2)
          (ended-stand n share before lemma found.load found.labels lt at refl
          (lt, it.tree_stands) it.is_trimmed
          (omega (arith, it.within, share-le before.left (length problem.senders - n))) it.counted it.fits
          it.legal)

  -- the turns of the first senders stand
  pub turns-stand : (n : ℕ) (turns : Turns) → n ≤ length problem.senders → AreTurns problem branches n turns
      → TurnsStand n turns
  turns-stand zero turns le are = subst (TurnsStand 0) (sym are) none-stand
  turns-stand (suc n) turns le are =
      subst (λ m. TurnsStand m turns) (omega arith)
      (turn-stands n are.0 turns (omega arith) (turns-stand n are.0 (omega arith) are.1) are.2)
