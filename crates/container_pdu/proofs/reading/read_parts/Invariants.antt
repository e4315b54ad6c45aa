use Rattle.std.proofs.Common.{◌≡◌, ◌-◌, ◌≤◌, length}
use Rattle.container_pdu.specs.Reading.{parts_after, parts_of}
use Rattle.container_pdu.proofs.reading.read_parts.Given as goal

-- the parts so far and the bytes that are left give what all bytes give
abbrev pub invariant-loop : goal.invariant-loop
invariant-loop l =
    (length l.rest ≤ length l.payload)
    × (parts_after l.header (length l.payload) (length l.payload - l.counter) l.parts.items l.rest
    ≡ parts_of l.header l.payload)
