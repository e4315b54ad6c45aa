use Rattle.std.proofs.Common.{arith, ◌≡◌, ◌<◌, ◌&&◌, Bool, true, false, refl, nat_le}
use Rattle.std.specs.Str.{all_ascii_digits}
use Rattle.std.proofs.lemmas.Bool.{lt-leb}
use Rattle.csv_table.specs.Decimal.{value_after}
use Rattle.csv_table.proofs.Decimals.{beyond}
use Rattle.csv_table.proofs.decimal.digits_up_to.Goals as goal

neither : (b : Bool) → (b && false) ≡ false
neither true = refl
neither false = refl

pub returns-then-value-limit : goal.returns-then-value-limit
returns-then-value-limit c =
    let over : c.args.limit < value_after 0 c.args.bytes.now =
    beyond c.loop-byte.value c.args.limit c.loop-byte.byte-index c.args.bytes.now c.loop-byte-test.true
    c.loop-byte.invariant.2 (omega (arith, c.if-value-limit.true)) in
    let none : nat_le (value_after 0 c.args.bytes.now) c.args.limit ≡ false = lt-leb _ _ over in
    rw (none, neither (all_ascii_digits c.args.bytes.now)) refl
