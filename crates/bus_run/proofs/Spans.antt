-- Spans of time in which a bus is in use, each charged to a frame or to none. These laws know nothing of what
-- is sent.
use Rattle.std.proofs.Common.{◌≡◌, ℕ, ◌+◌, ◌-◌, ◌<◌, ◌≤◌, ◌⊎◌, zero, suc, inl, inr, Bool, true, false, cond, List, [], ◌∷◌, length, get_or, Option, Some, None, sum_by, Contains, ltb, leb, eqb, refl, ap, ◌∙◌, arith}
use Rattle.std.proofs.lemmas.Bool.{cases_lt, eq-eqb, lt-ltb}
use Rattle.std.proofs.lemmas.List.Sums.{sum_by-cons, sum_by-le-sum_by, get_or-le-sum_by}
use Rattle.bus_run.proofs.Numbers.{sum_by-plus, sum_by-le_within}

-- a time in which the bus is in use, up to but without its end, and the frame that it is charged to
pub record Span : Type 0 where
  pub start : ℕ
  pub stop : ℕ
  pub charge : Option ℕ

-- no span
abbrev pub none_span : Span
none_span = record { start = 0; stop = 0; charge = None }

-- the span of a number
abbrev pub span_at : List Span → ℕ → Span
span_at spans k = get_or spans k none_span

-- no span starts before one earlier in the list has stopped, and none stops before it starts
pub record AreApart (spans : List Span) : Type 0 where
  pub forward : (k : ℕ) → k < length spans → (span_at spans k).start ≤ (span_at spans k).stop
  pub apart : (i k : ℕ) → i < k → k < length spans → (span_at spans i).stop ≤ (span_at spans k).start

-- a moment is in a span that starts by some time
pub record IsIn (spans : List Span) (by moment : ℕ) : Type 0 where
  pub number : ℕ
  pub there : number < length spans
  pub started : (span_at spans number).start ≤ by
  pub after : (span_at spans number).start ≤ moment
  pub before : moment < (span_at spans number).stop

-- the ticks of a span that stops after one time and starts by another
abbrev pub part_of : ℕ → ℕ → Span → ℕ
part_of from by span = cond (ltb from span.stop) (cond (leb span.start by) (span.stop - span.start) 0) 0

-- the ticks of all such spans
abbrev pub window : ℕ → ℕ → List Span → ℕ
window from by spans = sum_by (part_of from by) spans

-- a span in the window has all its ticks
part_inside : (from by : ℕ) (span : Span) → from < span.stop → span.start ≤ by
    → part_of from by span ≡ span.stop - span.start
part_inside from by span stops starts = grind (arith, stops, starts)

-- a span that stops before the window has none
part_early : (from by : ℕ) (span : Span) → span.stop ≤ from → part_of from by span ≡ 0
part_early from by span early = grind (arith, early)

-- a span that starts after the window has none
part_late : (from by : ℕ) (span : Span) → by < span.start → part_of from by span ≡ 0
part_late from by span late = grind (arith, late)

-- a later window has no more of a span
part-le : (from from' by : ℕ) (span : Span) → from ≤ from' → part_of from' by span ≤ part_of from by span
part-le from from' by span le = grind (arith, le)

-- what is left of the spans without the first
tail_apart : (span : Span) (spans : List Span) → AreApart (span ∷ spans) → AreApart spans
tail_apart span spans it = record {
  forward = λ k inside. it.forward (suc k) (omega arith);
  apart = λ i k lt inside. it.apart (suc i) (suc k) (omega arith) (omega arith);
}

-- a moment that is not in the first span is in the others
in_tail : (span : Span) (spans : List Span) (by moment : ℕ) → IsIn (span ∷ spans) by moment
    → span.stop ≤ moment → IsIn spans by moment
in_tail span spans by moment it past = at it.number it.there it.started it.after it.before
  where
    at : (k : ℕ) → k < length (span ∷ spans) → (span_at (span ∷ spans) k).start ≤ by
        → (span_at (span ∷ spans) k).start ≤ moment
        → moment < (span_at (span ∷ spans) k).stop → IsIn spans by moment
    at zero there started after before = absurd (omega (arith, before, past))
    at (suc k) there started after before =
        record { number = k; there = omega (arith, there); started = started; after = after; before = before }

-- a moment is in the first span, or past it
first_or_past : (span : Span) (spans : List Span) (by moment : ℕ) → AreApart (span ∷ spans)
    → IsIn (span ∷ spans) by moment
    → ((span.start ≤ by) × (span.start ≤ moment) × (moment < span.stop)) ⊎ (span.stop ≤ moment)
first_or_past span spans by moment apart it = at it.number it.there it.started it.after it.before
  where
    at : (k : ℕ) → k < length (span ∷ spans) → (span_at (span ∷ spans) k).start ≤ by
        → (span_at (span ∷ spans) k).start ≤ moment
        → moment < (span_at (span ∷ spans) k).stop
        → ((span.start ≤ by) × (span.start ≤ moment) × (moment < span.stop)) ⊎ (span.stop ≤ moment)
    at zero there started after before = inl (started, after, before)
    at (suc k) there started after before =
        inr (omega (arith, apart.apart 0 (suc k) (omega arith) there, after))

-- Where each moment from one to another is in a span that starts by some time, the spans that stop after the
-- first and start by then have at least so many ticks.
pub filled : (from to by : ℕ) (spans : List Span) → AreApart spans
    → ((moment : ℕ) → from ≤ moment → moment < to → IsIn spans by moment)
    → to ≤ from + window from by spans
filled from to by [] apart busy =
    elim (cases_lt from to) [
      | inr past ↦ omega arith
      | inl some ↦
          let at : IsIn [] by from = busy from (omega arith) some in
          absurd (omega (arith, at.there))
    ]
filled from to by (span ∷ spans) apart busy =
    let whole : window from by (span ∷ spans) ≡ part_of from by span + window from by spans =
    sum_by-cons (part_of from by) span spans in
    elim (cases_lt from to) [
      | inr past ↦ omega arith
      | inl some ↦ elim (first_or_past span spans by from apart (busy from (omega arith) some)) [
        | inr past ↦
            let rest : to ≤ from + window from by spans =
            filled from to by spans (tail_apart span spans apart)
            (λ moment after before. in_tail span spans by moment (busy moment after before) (omega arith)) in
            omega arith
        | inl (started, after, before) ↦
            let rest : to ≤ span.stop + window span.stop by spans =
            filled span.stop to by spans (tail_apart span spans apart)
            (λ moment after' before'. in_tail span spans by moment (busy moment (omega arith) before')
            after') in
            let fewer : window span.stop by spans ≤ window from by spans =
            sum_by-le-sum_by (part_of span.stop by) (part_of from by) spans
            (λ s. part-le from span.stop by s (omega arith)) in
            let here : part_of from by span ≡ span.stop - span.start =
            part_inside from by span before started in
            omega arith
      ]
    ]

-- whether a charge is to a frame of this number
abbrev pub is_charged : ℕ → Option ℕ → Bool
is_charged number None = false
is_charged number (Some other) = eqb number other

-- whether a charge is to a frame of a greater number than a place, so a lower one
abbrev pub is_lower : ℕ → Option ℕ → Bool
is_lower place None = false
is_lower place (Some other) = ltb place other

-- whether there is no charge
abbrev pub is_free : Option ℕ → Bool
is_free None = true
is_free (Some other) = false

-- the ticks of the spans of a window whose charge passes a test
abbrev pub sorted_part : (Option ℕ → Bool) → ℕ → ℕ → Span → ℕ
sorted_part test from by span = cond (test span.charge) (part_of from by span) 0

-- the ticks of all such spans
abbrev pub sorted : (Option ℕ → Bool) → ℕ → ℕ → List Span → ℕ
sorted test from by spans = sum_by (sorted_part test from by) spans

-- the ticks of a window that are charged to a frame
abbrev pub charged : ℕ → ℕ → List Span → ℕ → ℕ
charged from by spans number = sorted (is_charged number) from by spans

-- the ticks of a window that are charged to lower frames than a place
abbrev pub lower_charged : ℕ → ℕ → ℕ → List Span → ℕ
lower_charged place from by spans = sorted (is_lower place) from by spans

-- the ticks of a window that are charged to none
abbrev pub uncharged : ℕ → ℕ → List Span → ℕ
uncharged from by spans = sorted is_free from by spans

-- one member of a list is at most the sum over those equal to it
one_of : (levels : List ℕ) (number ticks : ℕ) → Contains levels number
    → ticks ≤ sum_by (λ i. cond (eqb i number) ticks 0) levels
one_of levels number ticks (k, inside, is) =
    let f : ℕ → ℕ = λ i. cond (eqb i number) ticks 0 in
    let one : f (get_or levels k number) ≤ sum_by f levels = get_or-le-sum_by f levels k number inside in
    let same : f (get_or levels k number) ≡ f number = ap f is in
    let here : f number ≡ ticks = ap (λ b. cond b ticks 0) (eq-eqb number number refl) in
    omega arith

-- each span is charged to a level, to a lower frame or to none
each_charge : (levels : List ℕ) (place ticks : ℕ) (charge : Option ℕ)
    → ((i : ℕ) → i ≤ place → Contains levels i)
    → ticks ≤ cond (is_lower place charge) ticks 0 + cond (is_free charge) ticks 0 + sum_by
    (λ i. cond (is_charged i charge) ticks 0) levels
each_charge levels place ticks None all = omega arith
each_charge levels place ticks (Some number) all =
    elim (cases_lt place number) [
      | inl lower ↦
          let is : cond (ltb place number) ticks 0 ≡ ticks =
          ap (λ b. cond b ticks 0) (lt-ltb place number lower) in
          omega arith
      | inr level ↦ omega (arith, one_of levels number ticks (all number level))
    ]

-- so the ticks of a window are those of the levels, of lower frames and of none
pub window-split : (levels : List ℕ) (place from by : ℕ) (spans : List Span)
    → ((i : ℕ) → i ≤ place → Contains levels i)
    → window from by spans
    ≤ lower_charged place from by spans + uncharged from by spans + sum_by (charged from by spans) levels
window-split levels place from by [] all = omega arith
window-split levels place from by (span ∷ spans) all =
    let rest : window from by spans
    ≤ lower_charged place from by spans + uncharged from by spans + sum_by (charged from by spans) levels =
    window-split levels place from by spans all in
    let first : part_of from by span
    ≤ sorted_part (is_lower place) from by span + sorted_part is_free from by span
    + sum_by (λ i. sorted_part (is_charged i) from by span) levels =
    each_charge levels place (part_of from by span) span.charge all in
    let both : sum_by (λ i. sorted_part (is_charged i) from by span + charged from by spans i) levels
    ≡ sum_by (λ i. sorted_part (is_charged i) from by span) levels + sum_by (charged from by spans) levels =
    sum_by-plus (λ i. sorted_part (is_charged i) from by span) (charged from by spans) levels in
    let whole : sum_by (λ i. sorted_part (is_charged i) from by span + charged from by spans i) levels
    ≤ sum_by (charged from by (span ∷ spans)) levels =
    sum_by-le-sum_by (λ i. sorted_part (is_charged i) from by span + charged from by spans i)
    (charged from by (span ∷ spans)) levels
    (λ i. omega (arith, sum_by-cons (sorted_part (is_charged i) from by) span spans)) in
    omega (
      arith,
      sum_by-cons (part_of from by) span spans,
      sum_by-cons (sorted_part (is_lower place) from by) span spans,
      sum_by-cons (sorted_part is_free from by) span spans,
    )

-- the spans of a window that are charged to lower frames start before the window, and are short
pub record Blocks (place from by most : ℕ) (spans : List Span) : Type 0 where
  pub early : (k : ℕ) → k < length spans → is_lower place (span_at spans k).charge ≡ true
      → from < (span_at spans k).stop
      → (span_at spans k).start ≤ by → (span_at spans k).start < from
  pub short : (k : ℕ) → k < length spans → is_lower place (span_at spans k).charge ≡ true
      → (span_at spans k).stop - (span_at spans k).start ≤ most

-- what a span brings: nothing, or it is in the window and passes the test
pub brings : (test : Option ℕ → Bool) (from by : ℕ) (span : Span)
    → (sorted_part test from by span ≡ 0)
    ⊎ ((test span.charge ≡ true) × (from < span.stop) × (span.start ≤ by)
    × (sorted_part test from by span ≡ span.stop - span.start))
brings test from by span = at (test span.charge) refl (cases_lt from span.stop) (cases_lt by span.start)
  where
    at : (b : Bool) → test span.charge ≡ b → (from < span.stop) ⊎ (span.stop ≤ from)
        → (by < span.start) ⊎ (span.start ≤ by)
        → (sorted_part test from by span ≡ 0)
        ⊎ ((test span.charge ≡ true) × (from < span.stop) × (span.start ≤ by)
        × (sorted_part test from by span ≡ span.stop - span.start))
    at false e stops starts = inl (ap (λ b. cond b (part_of from by span) 0) e)
    at true e (inr early) starts =
        inl (ap (λ b. cond b (part_of from by span) 0) e ∙ part_early from by span early)
    at true e (inl stops) (inl late) =
        inl (ap (λ b. cond b (part_of from by span) 0) e ∙ part_late from by span late)
    at true e (inl stops) (inr starts) =
        inr (
          e,
          stops,
          starts,
          ap (λ b. cond b (part_of from by span) 0) e ∙ part_inside from by span stops starts,
        )

-- spans that bring nothing bring nothing together
pub all_bring_none : (f : Span → ℕ) (spans : List Span)
    → ((k : ℕ) → k < length spans → f (span_at spans k) ≡ 0) → sum_by f spans ≡ 0
all_bring_none f [] none = refl
all_bring_none f (span ∷ spans) none =
    omega (
      arith,
      sum_by-cons f span spans,
      none 0 (omega arith),
      all_bring_none f spans (λ k inside. none (suc k) (omega arith)),
    )

-- one lower span blocks at most
pub lower-le : (place from by most : ℕ) (spans : List Span) → AreApart spans → Blocks place from by most spans
    → lower_charged place from by spans ≤ most
lower-le place from by most [] apart it = omega arith
lower-le place from by most (span ∷ spans) apart it =
    let f : Span → ℕ = sorted_part (is_lower place) from by in
    let whole : sum_by f (span ∷ spans) ≡ f span + sum_by f spans = sum_by-cons f span spans in
    elim (brings (is_lower place) from by span) [
      | inl none ↦
          let rest : sum_by f spans ≤ most =
          lower-le place from by most spans (tail_apart span spans apart) (record {
            early = λ k inside. it.early (suc k) (omega arith);
            short = λ k inside. it.short (suc k) (omega arith);
          }) in
          omega arith
      | inr (lower, stops, starts, is) ↦
          let none : sum_by f spans ≡ 0 =
          all_bring_none f spans (λ k inside. elim (brings (is_lower place) from by (span_at spans k)) [
            | inl none ↦ none
            | inr (lower', stops', starts', is') ↦
                absurd (omega (
                  arith,
                  it.early (suc k) (omega arith) lower' stops' starts',
                  apart.apart 0 (suc k) (omega arith) (omega arith),
                ))
          ]) in
          omega (arith, it.short 0 (omega arith) lower)
    ]

-- All that the law uses of what is sent. From one moment to another, in the window of the spans that stop
-- after the first and start by some time: spans lie apart; none that starts from the first moment on is
-- charged to a lower frame; the bus is always in use; and how much is charged to each level, and how much to
-- none, is stated.
pub record Facts (levels : List ℕ) (place from to by most spare : ℕ) (work : ℕ → ℕ) (spans : List Span) : Type
    0 where
  pub apart : AreApart spans
  pub none_lower : Blocks place from by most spans
  pub in_use : (moment : ℕ) → from ≤ moment → moment < to → IsIn spans by moment
  pub level_ticks : (level : ℕ) → Contains levels level → charged from by spans level ≤ work level
  pub other_ticks : uncharged from by spans ≤ spare

-- The law of spans: the time is at most one lower span, what is charged to none, and the work of the levels.
pub spans_fill : (levels : List ℕ) (place from to by most spare : ℕ) (work : ℕ → ℕ) (spans : List Span)
    → ((i : ℕ) → i ≤ place → Contains levels i) → Facts levels place from to by most spare work spans
    → to ≤ from + (most + spare + sum_by work levels)
spans_fill levels place from to by most spare work spans all it =
    omega (
      arith,
      filled from to by spans it.apart it.in_use,
      window-split levels place from by spans all,
      lower-le place from by most spans it.apart it.none_lower,
      it.other_ticks,
      sum_by-le_within (charged from by spans) work levels it.level_ticks,
    )
