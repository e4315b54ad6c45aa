use Rattle.std.proofs.Common.{◌≡◌, ◌<◌, ◌≤◌, ◌-◌, ◌^◌, ◌&&◌, ℕ, Bool, true, false, cond, Some, None, refl, arith, nat_lt, inl, inr}
use Rattle.std.specs.Str.{all_ascii_digits}
use Rattle.std.proofs.lemmas.Bool.{cases_lt, le-ltb, lt-ltb}
use Rattle.csv_table.specs.Decimal.{value_after}
use Rattle.csv_table.proofs.Decimals.{beyond}
use Rattle.cert_text.proofs.words.wide_digits.Goals as goal

neither : (b : Bool) → (b && false) ≡ false
neither true = refl
neither false = refl

none_over : (x y : ℕ) → None ≡ cond (nat_lt x y) (Some x) None → y ≤ x
none_over x y e = elim (cases_lt x y) [ inl lt ↦ absurd (let h = rw (lt-ltb x y lt) at e in cc (h)) | inr ge ↦ ge ]

pub returns-in_default : goal.returns-in_default
returns-in_default c =
    let step = none_over _ _ c.in_default.ensures in
    let over : 2 ^ 128 - 1 < value_after 0 c.args.bytes.now =
    beyond c.loop-byte.value (2 ^ 128 - 1) c.loop-byte.byte-index c.args.bytes.now c.loop-byte-test.true c.loop-byte.invariant.2 (omega (arith, step)) in
    let none : nat_lt (value_after 0 c.args.bytes.now) (2 ^ 128) ≡ false = le-ltb _ _ (omega arith) in
    rw (none, neither (all_ascii_digits c.args.bytes.now)) refl
