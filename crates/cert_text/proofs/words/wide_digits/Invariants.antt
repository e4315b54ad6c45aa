use Rattle.std.proofs.Common.{◌≡◌, ◌<◌, ◌^◌, drop}
use Rattle.std.specs.Str.{all_ascii_digits}
use Rattle.csv_table.specs.Decimal.{value_after}
use Rattle.cert_text.proofs.words.wide_digits.Given as goal

-- the digits that are left decide, and go on from the value so far
abbrev pub invariant-loop-byte : goal.invariant-loop-byte
invariant-loop-byte l =
    (l.value < 2 ^ 128) × (all_ascii_digits (drop l.byte-index l.bytes) ≡ all_ascii_digits l.bytes) × (value_after l.value (drop l.byte-index l.bytes) ≡ value_after 0 l.bytes)
