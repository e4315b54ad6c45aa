use Rattle.std.proofs.Common.{◌≡◌, ℕ, ◌+◌, ◌-◌, ◌<◌, ◌≤◌, inl, inr, List, get_or, length, ap, subst, sym, ◌∙◌, arith}
use Rattle.std.proofs.lemmas.Bool.{cases_lt, false≢true}
use Rattle.std.proofs.lemmas.List.{get_or-map, get_or_default, length-map}
use Rattle.busy_period.specs.Demand.{blocking_of}
use Rattle.busy_period.specs.Stage.{lower_of}
use Rattle.busy_period.specs.declared.timed.Timed.{Timed}
use Rattle.response_test.specs.Order.{remaining_of}
use Rattle.response_test.specs.declared.evidence.Evidence.{Evidence}
use Rattle.bandwidth_bound.specs.Failing.{RefutedBelow, numbers_of, order_with}
use Rattle.bandwidth_bound.proofs.Final.{distinct_rising}
use Rattle.bandwidth_bound.proofs.FinalNamed.{few_below, room-below}
use Rattle.bandwidth_bound.proofs.Orders.{member-at, order-long, order-lower, order-stage, refuted-here}
use Rattle.bandwidth_bound.proofs.failing.are_refuted.Goals as goal

abbrev number_of : ℕ × Evidence → ℕ
number_of entry = entry.0

-- there are as many members as entries
many : (members : List ℕ) (named : List (ℕ × Evidence)) → members ≡ numbers_of named → length members ≡ length named
many members named are = ap length are ∙ length-map named number_of

-- the number of an entry is the member's
own-at : (members : List ℕ) (named : List (ℕ × Evidence)) (k : ℕ) (entry : ℕ × Evidence) → members ≡ numbers_of named
    → k < length named → (get_or named k entry).0 ≡ get_or members k 0
own-at members named k entry are inside =
    sym (get_or-map number_of named k entry 0 inside) ∙ ap (λ l. get_or l k 0) (sym are)

pub order_below-order-requires-clause-few : goal.order_below-order-requires-clause-few
order_below-order-requires-clause-few c =
    let members : List ℕ = c.args.members.now in
    omega (
      arith,
      c.requires.few,
      few_below members (length c.args.frames.now) (distinct_rising members c.requires.ascending) c.requires.there,
    )

pub order_below-order-requires-clause-room : goal.order_below-order-requires-clause-room
order_below-order-requires-clause-room c =
    let r = c.requires in
    let members : List ℕ = c.args.members.now in
    let inside : length members - 1 < length members =
    omega (arith, r.some, many members c.args.named.now r.members) in
    room-below c.args.frames.now members c.as_slice.result.now (get_or members (length members - 1) 0)
    r.few r.in_range r.there r.ascending (member-at members (length members - 1) inside)
    (c.as_slice.ensures.value ∙ c.remaining-rest.ensures)

pub blocking-blocked-requires : goal.blocking-blocked-requires
blocking-blocked-requires c =
    let r = c.requires in
    let members : List ℕ = c.args.members.now in
    let last : ℕ = length members - 1 in
    order-stage c.args.frames.now members c.as_slice-2.result.now last last r.few r.in_range r.there r.ascending
    (omega (arith, r.some, many members c.args.named.now r.members))
    (c.as_slice-2.ensures.value ∙ c.order_below-order.ensures
    ∙ ap (λ rest. order_with (get_or members last 0) members rest) (c.as_slice.ensures.value ∙ c.remaining-rest.ensures))
    (omega arith)

pub refuted_blocked-requires-clause-stage : goal.refuted_blocked-requires-clause-stage
refuted_blocked-requires-clause-stage c =
    let r = c.requires in
    let members : List ℕ = c.args.members.now in
    order-stage c.args.frames.now members c.as_slice-in-loop-k.result.now (c.loop-k.k - 1) (length members - 1)
    r.few r.in_range r.there r.ascending (omega arith)
    (c.as_slice-in-loop-k.ensures.value ∙ c.loop-k.invariant.order (omega arith)) (omega arith)

pub refuted_blocked-requires-clause-blocked : goal.refuted_blocked-requires-clause-blocked
refuted_blocked-requires-clause-blocked c =
    let r = c.requires in
    let members : List ℕ = c.args.members.now in
    let frames : List Timed = c.args.frames.now in
    let rest : List ℕ = remaining_of frames members in
    let last : ℕ = length members - 1 in
    let first : lower_of c.as_slice-2.result.now last ≡ rest =
    order-lower members c.as_slice-2.result.now rest last last r.ascending
    (omega (arith, r.some, many members c.args.named.now r.members))
    (c.as_slice-2.ensures.value ∙ c.order_below-order.ensures
    ∙ ap (λ l. order_with (get_or members last 0) members l) (c.as_slice.ensures.value ∙ c.remaining-rest.ensures))
    (omega arith) in
    let here : lower_of c.as_slice-in-loop-k.result.now last ≡ rest =
    order-lower members c.as_slice-in-loop-k.result.now rest (c.loop-k.k - 1) last r.ascending (omega arith)
    (c.as_slice-in-loop-k.ensures.value ∙ c.loop-k.invariant.order (omega arith)) (omega arith) in
    c.blocking-blocked.ensures.value ∙ ap (λ l. blocking_of frames l) (first ∙ sym here)

pub returns-then-not-refuted_blocked : goal.returns-then-not-refuted_blocked
returns-then-not-refuted_blocked c =
    let r = c.requires in
    let members : List ℕ = c.args.members.now in
    let named : List (ℕ × Evidence) = c.args.named.now in
    let k : ℕ = c.loop-k.k - 1 in
    let d = c.index-named-k.result in
    let entry = get_or named k d in
    let inside : k < length named = omega (arith, many members named r.members) in
    let here = refuted-here c.args.frames.now c.args.bit c.args.hyper members c.as_slice-in-loop-k.result.now k
    (length members - 1) entry.0 entry.1 r.ascending (omega arith)
    (own-at members named k d r.members inside)
    (c.as_slice-in-loop-k.ensures.value ∙ c.loop-k.invariant.order (omega arith)) (omega arith) in (
      λ t. absurd (false≢true t),
      λ all.
          sym c.if-not-refuted_blocked.true
          ∙ c.refuted_blocked.ensures.value.1 (here.1 (all k d inside)),
    )

pub go_back-requires-clause-room : goal.go_back-requires-clause-room
go_back-requires-clause-room c =
    let members : List ℕ = c.args.members.now in
    order-long members c.loop-k.order.items (remaining_of c.args.frames.now members) (c.loop-k.k - 1)
    c.requires.ascending (omega arith) (c.loop-k.invariant.order (omega arith))

-- what the loop has found holds for the member that was judged too
more : (frames : List Timed) (bit hyper : ℕ) (members : List ℕ) (named : List (ℕ × Evidence)) (k : ℕ)
    (e : ℕ × Evidence) → 0 < k → k ≤ length named
    → RefutedBelow frames bit hyper members (get_or named (k - 1) e).0 (get_or named (k - 1) e).1
    → ((j : ℕ) (d : ℕ × Evidence) → k ≤ j → j < length named
    → RefutedBelow frames bit hyper members (get_or named j d).0 (get_or named j d).1)
    → (j : ℕ) (d : ℕ × Evidence) → k - 1 ≤ j → j < length named
    → RefutedBelow frames bit hyper members (get_or named j d).0 (get_or named j d).1
more frames bit hyper members named k e some within here later j d from inside = elim (cases_lt (k - 1) j) [
  | inl after ↦ later j d (omega arith) inside
  | inr not_after ↦
      let at : k - 1 ≡ j = omega arith in
      subst (λ (entry : ℕ × Evidence). RefutedBelow frames bit hyper members entry.0 entry.1)
      (ap (λ i. get_or named i e) at ∙ get_or_default named j e d inside) here
]

pub loop-k-preserved-then-k-gt0 : goal.loop-k-preserved-then-k-gt0
loop-k-preserved-then-k-gt0 c =
    let r = c.requires in
    let members : List ℕ = c.args.members.now in
    let named : List (ℕ × Evidence) = c.args.named.now in
    let k : ℕ = c.loop-k.k - 1 in
    let d = c.index-named-k.result in
    let entry = get_or named k d in
    let inside : k < length named = omega (arith, many members named r.members) in
    let here = refuted-here c.args.frames.now c.args.bit c.args.hyper members c.as_slice-in-loop-k.result.now k
    (length members - 1) entry.0 entry.1 r.ascending (omega arith)
    (own-at members named k d r.members inside)
    (c.as_slice-in-loop-k.ensures.value ∙ c.loop-k.invariant.order (omega arith)) (omega arith) in
    let back : k ≡ k - 1 + 1 = omega arith in
    record {
      order = λ some.
          c.go_back.ensures.below (remaining_of c.args.frames.now members)
          (c.loop-k.invariant.order (omega arith)
          ∙ ap (λ i. order_with (get_or members i 0) members (remaining_of c.args.frames.now members)) back);
      refuted = more c.args.frames.now c.args.bit c.args.hyper members named c.loop-k.k d (omega arith)
          (omega arith) (here.0 (c.refuted_blocked.ensures.value.0 cc)) c.loop-k.invariant.refuted;
    }

pub loop-k-preserved : goal.loop-k-preserved
loop-k-preserved c =
    let r = c.requires in
    let members : List ℕ = c.args.members.now in
    let named : List (ℕ × Evidence) = c.args.named.now in
    let k : ℕ = c.loop-k.k - 1 in
    let d = c.index-named-k.result in
    let entry = get_or named k d in
    let inside : k < length named = omega (arith, many members named r.members) in
    let here = refuted-here c.args.frames.now c.args.bit c.args.hyper members c.as_slice-in-loop-k.result.now k
    (length members - 1) entry.0 entry.1 r.ascending (omega arith)
    (own-at members named k d r.members inside)
    (c.as_slice-in-loop-k.ensures.value ∙ c.loop-k.invariant.order (omega arith)) (omega arith) in
    record {
      order = λ some. absurd (omega (arith, some, c.if-k-gt0.false));
      refuted = more c.args.frames.now c.args.bit c.args.hyper members named c.loop-k.k d (omega arith)
          (omega arith) (here.0 (c.refuted_blocked.ensures.value.0 cc)) c.loop-k.invariant.refuted;
    }
