-- Lines below the work of frames, in parts of a tick.
use Rattle.std.proofs.Common.{◌≡◌, ℕ, ◌+◌, ◌-◌, ◌*◌, ◌/◌, ◌<◌, ◌≤◌, inl, inr, List, length, take, get_or, ap, ◌∙◌, arith}
use Rattle.std.proofs.lemmas.Bool.{cases_lt}
use Rattle.std.specs.Int.{div_ceil}
use Rattle.std.proofs.lemmas.Grind.{div_ceil_times}
use Rattle.std.proofs.lemmas.List.Sums.{sum_by_more}
use Rattle.std.proofs.Math.Nat.{mul-le-mul_left, mul-le-mul_right}
use Rattle.busy_period.specs.declared.timed.Timed.{Timed}
use Rattle.busy_period.specs.Timed.{frame_at}
use Rattle.busy_period.specs.Demand.{instances_of, asks_of, work_of}
use Rattle.busy_period.specs.Busy.{IsFit}
use Rattle.busy_period.proofs.Instances.{asks-le, quotient-le}

-- a frame asks for its share of the bus over the time and its jitter
pub share-le-asks : (frame : Timed) (parts time : ℕ) → 1 ≤ frame.period
    → frame.ticks * parts / frame.period * (time + frame.jitter) ≤ parts * asks_of frame time
share-le-asks frame parts time some =
    let share : ℕ = frame.ticks * parts / frame.period in
    let whole : time + frame.jitter ≤ instances_of frame time * frame.period =
    (div_ceil_times (time + frame.jitter) frame.period some).0 in
    let over : share * (time + frame.jitter) ≤ share * (instances_of frame time * frame.period) =
    mul-le-mul_left share whole in
    let down : frame.period * share ≤ frame.ticks * parts = omega arith in
    let times : frame.period * share * instances_of frame time
    ≤ frame.ticks * parts * instances_of frame time =
    mul-le-mul_right (instances_of frame time) down in
    omega arith

-- one more frame's share goes onto the line
pub line-more : (parts offset slope share jitter time work asks : ℕ) → offset + slope * time ≤ parts * work
    → share * (time + jitter) ≤ parts * asks
    → offset + share * jitter + (slope + share) * time ≤ parts * (work + asks)
line-more parts offset slope share jitter time work asks before more = omega arith

-- where the line rises slower than time it is met no earlier than this
pub start-le-fit : (frames : List Timed) (numbers : List ℕ) (base ahead from time parts offset slope : ℕ)
    → ((t : ℕ) → offset + slope * t ≤ parts * work_of frames numbers t)
    → IsFit frames numbers base ahead from time
    → base * parts + slope * ahead + offset + slope * time ≤ parts * time
start-le-fit frames numbers base ahead from time parts offset slope below fit =
    let line : offset + slope * (time + ahead) ≤ parts * work_of frames numbers (time + ahead) =
    below (time + ahead) in
    let done : parts * (base + work_of frames numbers (time + ahead)) ≤ parts * time =
    mul-le-mul_left parts fit.done in
    omega arith

-- so a whole bus never has time for more
pub none-if-whole : (time parts fixed slope : ℕ) → parts ≤ slope → 0 < fixed
    → ¬ (fixed + slope * time ≤ parts * time)
none-if-whole time parts fixed slope whole some fits = omega (arith, mul-le-mul_right time whole)

pub quotient-le-fit : (time parts fixed slope : ℕ) → slope < parts → fixed + slope * time ≤ parts * time
    → div_ceil fixed (parts - slope) ≤ time
quotient-le-fit time parts fixed slope part fits =
    let split : parts ≡ parts - slope + slope = omega arith in
    let same : parts * time ≡ (parts - slope + slope) * time = ap (λ n. n * time) split in
    quotient-le fixed (parts - slope) time (omega arith) (omega arith)

-- so no fit is before the time where the line meets it
pub start-le : (frames : List Timed) (numbers : List ℕ)
    (base ahead from time parts offset slope base' ahead' start : ℕ)
    → base' ≡ base → ahead' ≡ ahead → slope < parts
    → ((t : ℕ) → offset + slope * t ≤ parts * work_of frames numbers t)
    → start ≡ div_ceil (base' * parts + slope * ahead' + offset) (parts - slope)
    → IsFit frames numbers base ahead from time → start ≤ time
start-le frames numbers base ahead from time parts offset slope base' ahead' start same same' part below is
    fit =
    omega (
      arith,
      quotient-le-fit time parts (base' * parts + slope * ahead' + offset) slope part (omega (
        arith,
        start-le-fit frames numbers base ahead from time parts offset slope below fit,
        ap (λ n. n * parts) same,
        ap (λ n. slope * n) same',
      )),
    )

share_split : (share wait more : ℕ) → wait ≤ more → share * more ≡ share * wait + share * (more - wait)
share_split share wait more le =
    let split : more ≡ wait + (more - wait) = omega arith in
    ap (λ n. share * n) split ∙ omega arith

rise-extra : (parts share period ticks now then extra wait more : ℕ) → then ≡ now + extra
    → share * more ≡ share * wait + share * (more - wait)
    → share * (now * period + (more - wait)) ≤ share * (then * period)
    → share * period ≤ ticks * parts
    → parts * (now * ticks) + share * more ≤ parts * (then * ticks) + share * wait
rise-extra parts share period ticks now then extra wait more same split over down =
    let apart : share * (then * period) ≡ share * (now * period) + share * period * extra =
    ap (λ n. share * (n * period)) same ∙ omega arith in
    let whole : parts * (then * ticks) ≡ parts * (now * ticks) + ticks * parts * extra =
    ap (λ n. parts * (n * ticks)) same ∙ omega arith in
    let down' : share * period * extra ≤ ticks * parts * extra = mul-le-mul_right extra down in
    omega arith

-- a share over the time beyond a wait is at most the ticks of the instances beyond
rise-beyond : (parts share period ticks now then wait more : ℕ) → 1 ≤ period → wait ≤ more
    → now * period + (more - wait) ≤ then * period
    → share * period ≤ ticks * parts
    → parts * (now * ticks) + share * more ≤ parts * (then * ticks) + share * wait
rise-beyond parts share period ticks now then wait more some le past down =
    let over : share * (now * period + (more - wait)) ≤ share * (then * period) = mul-le-mul_left share past in
    let split : share * more ≡ share * wait + share * (more - wait) = share_split share wait more le in
    elim (cases_lt then now) [
      | inl fewer ↦ absurd (omega (arith, mul-le-mul_right period fewer, past))
      | inr as_many ↦
          let extra : ℕ = then - now in
          let same : then ≡ now + extra = omega arith in
          rise-extra parts share period ticks now then extra wait more same split over down
    ]

-- a frame whose share starts once it has waited until it asks again
pub asks-rise : (frame : Timed) (parts time wait share more : ℕ) → 1 ≤ frame.period
    → time + frame.jitter + wait ≡ instances_of frame time * frame.period
    → share * frame.period ≤ frame.ticks * parts
    → parts * asks_of frame time + share * more ≤ parts * asks_of frame (time + more) + share * wait
asks-rise frame parts time wait share more some until down =
    elim (cases_lt wait more) [
      | inr soon ↦
          let waits : share * more ≤ share * wait = mul-le-mul_left share soon in
          let later : parts * asks_of frame time ≤ parts * asks_of frame (time + more) =
          mul-le-mul_left parts (asks-le frame time (time + more) (omega arith)) in
          omega arith
      | inl beyond ↦
          let now : ℕ = instances_of frame time in
          let then : ℕ = instances_of frame (time + more) in
          let whole : time + more + frame.jitter ≤ then * frame.period =
          (div_ceil_times (time + more + frame.jitter) frame.period some).0 in
          let past : now * frame.period + (more - wait) ≤ then * frame.period = omega arith in
          rise-beyond parts share frame.period frame.ticks now then wait more some
          (omega (arith, beyond)) past down
    ]

-- one more frame's share goes onto the rise
pub rise-more : (parts slope lag share wait more work asks work' asks' : ℕ)
    → parts * work + slope * more ≤ parts * work' + lag
    → parts * asks + share * more ≤ parts * asks' + share * wait
    → parts * (work + asks) + (slope + share) * more ≤ parts * (work' + asks') + (lag + share * wait)
rise-more parts slope lag share wait more work asks work' asks' before one = omega arith

-- what is missing in parts takes at least this long where the rise is slower than time
pub made_up-ge : (parts slope lag gap gap' now later more ticks : ℕ) → gap' ≡ gap
    → lag < gap' * parts → slope < parts
    → ticks ≡ div_ceil (gap' * parts - lag) (parts - slope)
    → parts * now + slope * more ≤ parts * later + lag
    → later + gap ≤ now + more
    → ticks ≤ more
made_up-ge parts slope lag gap gap' now later more ticks same some part is rise made =
    let times : parts * (later + gap) ≤ parts * (now + more) = mul-le-mul_left parts made in
    let split : parts ≡ parts - slope + slope = omega arith in
    let apart : parts * more ≡ (parts - slope + slope) * more = ap (λ n. n * more) split in
    let missing : gap' * parts ≡ gap * parts = ap (λ n. n * parts) same in
    omega (arith, quotient-le (gap' * parts - lag) (parts - slope) more (omega arith) (omega arith))

-- and is never made up where the rise is as fast
pub never_made_up : (parts slope lag gap gap' now later more : ℕ) → gap' ≡ gap
    → lag < gap' * parts → parts ≤ slope
    → parts * now + slope * more ≤ parts * later + lag
    → ¬ (later + gap ≤ now + more)
never_made_up parts slope lag gap gap' now later more same some whole rise made =
    let times : parts * (later + gap) ≤ parts * (now + more) = mul-le-mul_left parts made in
    let missing : gap' * parts ≡ gap * parts = ap (λ n. n * parts) same in
    omega (arith, mul-le-mul_right more whole)

-- so the rise of one more frame's work
pub rises_with_one : (frames : List Timed) (numbers : List ℕ)
    (time index more slope lag share wait' wait : ℕ) → index < length numbers → wait' ≡ wait
    → 68719476736 * work_of frames (take index numbers) time + slope * more
    ≤ 68719476736 * work_of frames (take index numbers) (time + more) + lag
    → 68719476736 * asks_of (frame_at frames (get_or numbers index 0)) time + share * more
    ≤ 68719476736 * asks_of (frame_at frames (get_or numbers index 0)) (time + more) + share * wait
    → 68719476736 * work_of frames (take (index + 1) numbers) time + (slope + share) * more
    ≤ 68719476736 * work_of frames (take (index + 1) numbers) (time + more) + (lag + share * wait')
rises_with_one frames numbers time index more slope lag share wait' wait inside same before one =
    let now : ℕ = work_of frames (take index numbers) time in
    let later : ℕ = work_of frames (take index numbers) (time + more) in
    let asks : ℕ = asks_of (frame_at frames (get_or numbers index 0)) time in
    let asks' : ℕ = asks_of (frame_at frames (get_or numbers index 0)) (time + more) in
    let now_more : work_of frames (take (index + 1) numbers) time ≡ now + asks =
    sum_by_more (λ i. asks_of (frame_at frames i) time) numbers index 0 inside in
    let later_more : work_of frames (take (index + 1) numbers) (time + more) ≡ later + asks' =
    sum_by_more (λ i. asks_of (frame_at frames i) (time + more)) numbers index 0 inside in
    let product : share * wait' ≡ share * wait = ap (λ n. share * n) same in
    omega (
      arith,
      rise-more 68719476736 slope lag share wait more now asks later asks' before one,
      now_more,
      later_more,
      product,
    )
