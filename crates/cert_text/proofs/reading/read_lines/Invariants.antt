use Rattle.std.proofs.Common.{◌≡◌, ◌+◌, ◌≤◌, length}
use Rattle.cert_text.specs.CertText.{ended_lines, unfinished}
use Rattle.cert_text.specs.Grammar.{start}
use Rattle.cert_text.specs.Making.{made, nothing_made}
use Rattle.cert_text.specs.Heard.{collect, heard_by, silent}
use Rattle.cert_text.specs.Reading.{lines_said, refusal}
use Rattle.cert_text.specs.MadeBy.{made_by}
use Rattle.cert_text.proofs.reading.read_lines.Given as goal

-- the text that is left decides, and each line took a byte at least
abbrev pub invariant-loop-line : goal.invariant-loop-line
invariant-loop-line l = record {
  text : refusal l.number l.position (ended_lines l.left) (unfinished l.left) ≡ refusal 1 start (ended_lines l.bytes) (unfinished l.bytes);
  value : made (made_by l.builder) (collect (heard_by l.hearing) (lines_said (ended_lines l.left))) ≡ made nothing_made (collect silent (lines_said (ended_lines l.bytes)));
  fits : l.number + length l.left ≤ length l.bytes + 1;
}

abbrev pub decreases-loop-line : goal.decreases-loop-line
decreases-loop-line l = length l.left
