use Rattle.std.proofs.Common.{◌≡◌, take}
use Rattle.container_pdu.specs.Bytes.{parts_text}
use Rattle.container_pdu.proofs.writing.container_of.Given as goal

-- the parts so far are written
abbrev pub invariant-loop-part : goal.invariant-loop-part
invariant-loop-part l = l.out.items ≡ parts_text l.header (take l.part-index l.parts)
