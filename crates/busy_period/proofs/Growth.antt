-- What frames ask for grows as they get harder, and as lower ones move up.
use Rattle.std.proofs.Common.{◌≡◌, ℕ, ◌+◌, ◌*◌, ◌<◌, ◌≤◌, ◌⊎◌, inl, inr, List, [], ◌∷◌, max, sum_by, Contains, refl, subst, arith}
use Rattle.std.specs.Int.{div_ceil}
use Rattle.std.proofs.lemmas.Bool.{cases_lt}
use Rattle.std.proofs.lemmas.Grind.{div_ceil_times}
use Rattle.std.proofs.lemmas.List.Elements.{Contains-append_right, Contains-append_cases}
use Rattle.std.proofs.lemmas.List.Sums.{sum_by-cons}
use Rattle.std.proofs.Math.Nat.{mul-le-mul, mul-le-mul_left, mul-le-mul_right, lt_of_mul-lt-mul_right}
use Rattle.busy_period.specs.declared.timed.Timed.{Timed}
use Rattle.busy_period.specs.Timed.{frame_at}
use Rattle.busy_period.specs.Demand.{instances_of, asks_of, work_of, blocking_of}
use Rattle.busy_period.specs.Harder.{IsHarder, Grows}
use Rattle.busy_period.proofs.Instances.{div_ceil-le}
use Rattle.busy_period.proofs.Sums.{one, IsDistinct-absent, sum_within}

-- a quotient rounded up never falls as its divisor does
pub div_ceil-ge_divisor : (a y z : ℕ) → 1 ≤ z → z ≤ y → div_ceil a y ≤ div_ceil a z
div_ceil-ge_divisor a y z some le =
    let up : a ≤ div_ceil a z * z = (div_ceil_times a z some).0 in
    let more : div_ceil a z * z ≤ div_ceil a z * y = mul-le-mul_left (div_ceil a z) le in
    let down : div_ceil a y * y < a + y = (div_ceil_times a y (omega arith)).1 in
    let below : div_ceil a y * y < (div_ceil a z + 1) * y = omega arith in
    let lt : div_ceil a y < div_ceil a z + 1 = lt_of_mul-lt-mul_right y below in
    omega arith

-- a harder frame has no fewer instances
pub instances-harder : (frame harder : Timed) (time : ℕ) → IsHarder frame harder
    → instances_of frame time ≤ instances_of harder time
instances-harder frame harder time it =
    let later : div_ceil (time + frame.jitter) frame.period ≤ div_ceil (time + harder.jitter) frame.period =
    div_ceil-le (time + frame.jitter) (time + harder.jitter) frame.period (omega (arith, it.jitter)) in
    omega (
      arith,
      div_ceil-ge_divisor
          (time + harder.jitter) frame.period harder.period it.some_period it.period,
    )

-- a harder frame asks for no less
pub asks-harder : (frame harder : Timed) (time : ℕ) → IsHarder frame harder
    → asks_of frame time ≤ asks_of harder time
asks-harder frame harder time it = mul-le-mul (instances-harder frame harder time it) it.ticks

-- within some time a frame asks for one sending at least
pub one_instance_at_least : (frame : Timed) (time : ℕ) → 1 ≤ frame.period → 1 ≤ time
    → frame.ticks ≤ asks_of frame time
one_instance_at_least frame time some later =
    let up : time + frame.jitter ≤ instances_of frame time * frame.period =
    (div_ceil_times (time + frame.jitter) frame.period some).0 in
    let at_least_one : 1 ≤ instances_of frame time = elim (cases_lt 0 (instances_of frame time)) [
      | inl some' ↦ some'
      | inr none ↦ absurd (omega (arith, mul-le-mul_right frame.period none))
    ] in
    let times : 1 * frame.ticks ≤ instances_of frame time * frame.ticks =
    mul-le-mul_right frame.ticks at_least_one in
    omega arith

-- blocking is at least the ticks of each of the frames
pub ticks-le-blocking : (frames : List Timed) (numbers : List ℕ) (number : ℕ) → Contains numbers number
    → (frame_at frames number).ticks ≤ blocking_of frames numbers
ticks-le-blocking frames [] number (k, inside, is) = absurd (omega (arith, inside))
ticks-le-blocking frames (first ∷ rest) number in' =
    elim (Contains-append_cases (first ∷ []) rest number in') [
      | inl here ↦
          let same : first ≡ number = one first number here in
          let P : ℕ → Type 0 =
          λ n. (frame_at frames n).ticks ≤ max (frame_at frames first).ticks (blocking_of frames rest) in
          subst P same (omega arith)
      | inr later ↦ omega (arith, ticks-le-blocking frames rest number later)
    ]

-- and it is the ticks of one of them, or 0
pub blocking_is_of_one : (frames : List Timed) (numbers : List ℕ)
    → (blocking_of frames numbers ≡ 0)
    ⊎ ((number : ℕ) × Contains numbers number
    × (blocking_of frames numbers ≡ (frame_at frames number).ticks))
blocking_is_of_one frames [] = inl refl
blocking_is_of_one frames (first ∷ rest) =
    elim (cases_lt (frame_at frames first).ticks (blocking_of frames rest)) [
      | inr first_is_most ↦ inr (first, (0, omega arith, refl), omega arith)
      | inl rest_is_more ↦ elim (blocking_is_of_one frames rest) [
        | inl none ↦ absurd (omega arith)
        | inr found ↦ inr (
          found.0,
          Contains-append_right (first ∷ []) rest found.0 found.1,
          omega (arith, found.2),
        )
      ]
    ]

-- blocking and the work of higher frames never fall together as they grow: a frame that moves up takes at
-- most its ticks from the blocking, and adds one sending at least
pub claims-grow : (frames : List Timed) (higher lower : List ℕ) (frames' : List Timed)
    (higher' lower' : List ℕ) (time : ℕ)
    → 1 ≤ time → Grows frames higher lower frames' higher' lower'
    → blocking_of frames lower + work_of frames higher time
    ≤ blocking_of frames' lower' + work_of frames' higher' time
claims-grow frames higher lower frames' higher' lower' time some it =
    let asks : ℕ → ℕ = λ number. asks_of (frame_at frames number) time in
    let asks' : ℕ → ℕ = λ number. asks_of (frame_at frames' number) time in
    let work : sum_by asks higher ≤ sum_by asks' higher' =
    sum_within asks asks' higher higher' it.distinct it.stay_higher
    (λ number in'. asks-harder (frame_at frames number) (frame_at frames' number) time
    (it.higher_harder number in')) in
    elim (blocking_is_of_one frames lower) [
      | inl none ↦ omega arith
      | inr (number, in', is) ↦
          let harder : IsHarder (frame_at frames number) (frame_at frames' number) =
          it.lower_harder number in' in
          elim (it.stay_or_move_up number in') [
            | inl stays ↦ omega (arith, ticks-le-blocking frames' lower' number stays, harder.ticks)
            | inr moves ↦
                let more : sum_by asks (number ∷ higher) ≤ sum_by asks' higher' =
                sum_within asks asks' (number ∷ higher) higher'
                (IsDistinct-absent number higher it.distinct moves.0)
                (λ z in''. elim (Contains-append_cases (number ∷ []) higher z in'') [
                  | inl here ↦ subst (Contains higher') (one number z here) moves.1
                  | inr there ↦ it.stay_higher z there
                ])
                (λ z in''. asks-harder (frame_at frames z) (frame_at frames' z) time
                (elim (Contains-append_cases (number ∷ []) higher z in'') [
                  | inl here ↦
                      let P : ℕ → Type 0 = λ n. IsHarder (frame_at frames n) (frame_at frames' n) in
                      subst P (one number z here) harder
                  | inr there ↦ it.higher_harder z there
                ])) in
                let sent : (frame_at frames number).ticks ≤ asks number =
                one_instance_at_least (frame_at frames number) time
                (omega (arith, harder.some_period, harder.period)) some in
                omega (arith, sum_by-cons asks number higher)
          ]
    ]
