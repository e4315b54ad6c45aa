-- Frames that are named as stuck: they are a failing set, their evidence refutes them, and they are always the same.
use Rattle.std.proofs.Common.{◌≡◌, ℕ, suc, ◌<◌, ◌≤◌, List, [], ◌∷◌, length, take, get_or, All, Contains, refl, sym, ap, subst, ◌∙◌, arith, length-take}
use Rattle.std.specs.List.Sorted.{IsStrictlyIncreasing}
use Rattle.std.proofs.lemmas.List.{get_or-map, length-map}
use Rattle.busy_period.specs.declared.timed.Timed.{Timed}
use Rattle.busy_period.specs.Timed.{IsInRange}
use Rattle.busy_period.specs.Stage.{IsStage}
use Rattle.response_test.specs.declared.evidence.Evidence.{Evidence}
use Rattle.response_test.specs.Order.{FailSet, OrderPasses, others_of}
use Rattle.response_test.specs.Queueing.{IsBit}
use Rattle.response_test.proofs.OneEvidence.{evidence_is_one}
use Rattle.response_test.proofs.Order.{no_order_passes}
use Rattle.priority_assign.proofs.OneOrder.{length-names, one_stuck}
use Rattle.priority_assign.proofs.Steps.{stuck_is_failing}
use Rattle.bandwidth_bound.specs.Failing.{AreRefuted, numbers_of, order_below}
use Rattle.bandwidth_bound.proofs.Final.{distinct_rising, order_stage}
use Rattle.search_judge.specs.Findings.{NamesStuck}
use Rattle.search_judge.specs.Stuck.{HasEvidence}
use Rattle.search_judge.proofs.Evidences.{evidence_refutes}

-- what is asked of frames to judge them
pub record AreGiven (frames : List Timed) (bit : ℕ) : Type 0 where
  pub few : length frames ≤ 128
  pub in_range : All IsInRange frames
  pub bit_is : IsBit frames bit

number_of : ℕ × Evidence → ℕ
number_of entry = entry.0

-- entries with the same numbers and the evidence against each are the same
one_named : (frames : List Timed) (bit hyper : ℕ) (members : List ℕ) (named other : List (ℕ × Evidence))
    → numbers_of named ≡ numbers_of other → All (HasEvidence frames bit hyper members) named
    → All (HasEvidence frames bit hyper members) other → named ≡ other
one_named frames bit hyper members [] [] same first second = refl
one_named frames bit hyper members [] (b ∷ bs) same first second = absurd cc
one_named frames bit hyper members (a ∷ named) [] same first second = absurd cc
one_named frames bit hyper members (a ∷ named) (b ∷ other) same first second =
    let Has : ℕ × Evidence → Type 0 = HasEvidence frames bit hyper members in
    let number : a.0 ≡ b.0 = cc in
    let rest : numbers_of named ≡ numbers_of other = cc in
    let Of : ℕ → Type 0 = λ own. Has (own, a.1) in
    let here : Has (b.0, a.1) = subst Of number (first 0 a (omega arith)) in
    let evidence : a.1 ≡ b.1 =
    evidence_is_one frames (order_below frames members b.0) (length (others_of b.0 members)) bit hyper a.1 b.1
    here (second 0 b (omega arith)) in
    let head : a ≡ b = λ i. (number i, evidence i) in
    let tail : named ≡ other =
    one_named frames bit hyper members named other rest
    (λ k d inside. first (suc k) d (omega arith)) (λ k d inside. second (suc k) d (omega arith)) in
    λ i. head i ∷ tail i

module _ (frames : List Timed) (bit hyper : ℕ) (given : AreGiven frames bit) where
  -- how many are named
  few_named : (named : List (ℕ × Evidence)) → NamesStuck frames bit hyper named
      → length named ≤ length frames
  few_named named it =
      omega (
        arith,
        ap length it.are,
        length-map named (λ (entry : ℕ × Evidence). entry.0),
        length-take (length named) it.order,
        length-names frames it.order it.lowest_first.fills.names_each_once,
      )

  -- they are a failing set
  failing : (named : List (ℕ × Evidence)) (it : NamesStuck frames bit hyper named)
      → FailSet frames bit (take (length named) it.order)
  failing named it =
      stuck_is_failing frames bit (length named) it.order
      (record { in_range = given.in_range; some_bit = given.bit_is.some }) (omega (arith, it.some))
      (omega (arith, few_named named it, length-names frames it.order it.lowest_first.fills.names_each_once))
      it.lowest_first

  -- so no order lets each frame pass
  pub none_passes : (named : List (ℕ × Evidence)) → NamesStuck frames bit hyper named → (order : List ℕ)
      → ¬ (OrderPasses frames bit order)
  none_passes named it order passes =
      no_order_passes frames bit (take (length named) it.order) order given.bit_is.some given.in_range
      (failing named it) passes

  -- their evidence refutes them
  pub named_refuted : (named : List (ℕ × Evidence)) → NamesStuck frames bit hyper named
      → AreRefuted frames bit hyper named
  named_refuted named it =
      let members : List ℕ = numbers_of named in
      let there : All (λ number. number < length frames) members =
      subst (All (λ number. number < length frames)) (sym it.are) (failing named it).named in
      let rises : IsStrictlyIncreasing members =
      subst IsStrictlyIncreasing (sym it.are) it.lowest_first.fills.ascending in
      record {
        some = it.some;
        there = there;
        ascending = rises;
        refuted = λ k d inside.
            let entry : ℕ × Evidence = get_or named k d in
            let low : k < length members = omega (arith, inside, length-map named (λ (e : ℕ × Evidence). e.0)) in
            let at : get_or members k entry.0 ≡ entry.0 =
            get_or-map (λ (e : ℕ × Evidence). e.0) named k d entry.0 inside in
            let among : Contains members entry.0 = (k, low, at) in
            let stage : IsStage frames (order_below frames members entry.0)
            (length (others_of entry.0 members)) =
            order_stage frames members entry.0 given.few given.in_range there (distinct_rising members rises)
            among in
            evidence_refutes frames (order_below frames members entry.0) (length (others_of entry.0 members)) bit
            hyper entry.1 stage given.bit_is (it.evidence k d inside);
      }

  -- and they are always the same
  pub one_stuck_set : (named other : List (ℕ × Evidence)) → NamesStuck frames bit hyper named
      → NamesStuck frames bit hyper other → named ≡ other
  one_stuck_set named other it it' =
      let numbers : numbers_of named ≡ numbers_of other =
      it.are
      ∙ one_stuck frames bit (record { in_range = given.in_range; some_bit = given.bit_is.some }) it.order
      it'.order (length named) (length other) it.lowest_first it'.lowest_first (few_named named it)
      (few_named other it')
      ∙ sym it'.are in
      one_named frames bit hyper (numbers_of other) named other numbers
      (subst (λ members. All (HasEvidence frames bit hyper members) named) numbers it.evidence) it'.evidence
