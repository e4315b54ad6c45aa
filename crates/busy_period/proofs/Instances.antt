-- Laws of the instances and ticks that one frame asks for.
use Rattle.std.proofs.Common.{◌≡◌, ℕ, ◌+◌, ◌*◌, ◌/◌, ◌<◌, ◌≤◌, ◌^◌, zero, suc, inl, inr, arith}
use Rattle.std.proofs.lemmas.Bool.{cases_lt}
use Rattle.std.proofs.Math.Nat.{mul-le-mul, mul-le-mul_left, mul-le-mul_right, lt_of_mul-lt-mul_right, div-zero, mod-zero}
use Rattle.std.proofs.lemmas.Grind.{div_ceil_times}
use Rattle.std.specs.Int.{div_ceil}
use Rattle.busy_period.specs.declared.timed.Timed.{Timed}
use Rattle.busy_period.specs.Timed.{IsInRange}
use Rattle.busy_period.specs.Demand.{instances_of, asks_of}

-- a quotient rounded up never falls in its dividend
pub div_ceil-le : (a b y : ℕ) → a ≤ b → div_ceil a y ≤ div_ceil b y
div_ceil-le a b zero le = grind (arith, div-zero a, div-zero b, mod-zero a, mod-zero b)
div_ceil-le a b (suc y) le =
    let up : b ≤ div_ceil b (suc y) * suc y = (div_ceil_times b (suc y) (omega arith)).0 in
    let down : div_ceil a (suc y) * suc y < a + suc y = (div_ceil_times a (suc y) (omega arith)).1 in
    let below : div_ceil a (suc y) * suc y < (div_ceil b (suc y) + 1) * suc y = omega arith in
    let lt : div_ceil a (suc y) < div_ceil b (suc y) + 1 = lt_of_mul-lt-mul_right (suc y) below in
    omega arith

-- it is at most the dividend, where it divides by at least 1
pub div_ceil-le_self : (a y : ℕ) → 1 ≤ y → div_ceil a y ≤ a
div_ceil-le_self a y some =
    let down : div_ceil a y * y < a + y = (div_ceil_times a y (omega arith)).1 in
    let up : a + y ≤ (a + 1) * y = omega (arith, mul-le-mul_left a some) in
    let below : div_ceil a y * y < (a + 1) * y = omega arith in
    let lt : div_ceil a y < a + 1 = lt_of_mul-lt-mul_right y below in
    omega arith

-- what a frame asks for never falls in time
pub asks-le : (frame : Timed) (earlier later : ℕ) → earlier ≤ later
    → asks_of frame earlier ≤ asks_of frame later
asks-le frame earlier later le = mul-le-mul_right frame.ticks (div_ceil-le _ _ frame.period (omega arith))

-- what a frame in range asks for within 2^46 ticks
pub asks-bound : (frame : Timed) (time : ℕ) → IsInRange frame → time ≤ 2 ^ 46
    → asks_of frame time ≤ 2 ^ 47 * 100000000
asks-bound frame time range le =
    let instances : instances_of frame time ≤ 2 ^ 47 =
    omega (arith, div_ceil-le_self (time + frame.jitter) frame.period range.some_period) in
    mul-le-mul instances range.ticks

-- a number below a quotient rounded up, and one at least as great
pub below_quotient : (a y q : ℕ) → 1 ≤ y → q < div_ceil a y → q * y < a
below_quotient a y q some below =
    let down : div_ceil a y * y < a + y = (div_ceil_times a y some).1 in
    let more : (q + 1) * y ≤ div_ceil a y * y = mul-le-mul_right y (omega arith) in
    omega arith

pub quotient-le : (a y q : ℕ) → 1 ≤ y → a ≤ q * y → div_ceil a y ≤ q
quotient-le a y q some le =
    let down : div_ceil a y * y < a + y = (div_ceil_times a y some).1 in
    let below : div_ceil a y * y < (q + 1) * y = omega arith in
    let lt : div_ceil a y < q + 1 = lt_of_mul-lt-mul_right y below in
    omega arith

-- a product with an inverse that was rounded down gives no more than a quotient rounded up
pub inverse-le : (a' inverse' a inverse y whole : ℕ) → a' ≡ a → inverse' ≡ inverse → 1 ≤ a → 1 ≤ y
    → inverse * y < whole
    → a' * inverse' / whole + 1 ≤ div_ceil a y
inverse-le a' inverse' a inverse y whole same same' some some' small =
    let q : ℕ = a * inverse / whole in
    let quotient : a' * inverse' / whole ≡ q = cc in
    let down : whole * q ≤ a * inverse = omega arith in
    let over : whole * q * y ≤ a * inverse * y = mul-le-mul_right y down in
    let short : a * (inverse * y + 1) ≤ a * whole = mul-le-mul_left a (omega arith) in
    let less : q * y * whole < a * whole = omega arith in
    let fewer : q * y < a = lt_of_mul-lt-mul_right whole less in
    let up : a ≤ div_ceil a y * y = (div_ceil_times a y some').0 in
    elim (cases_lt q (div_ceil a y)) [
      | inl below ↦ omega arith
      | inr above ↦ absurd (omega (arith, mul-le-mul_right y above))
    ]
