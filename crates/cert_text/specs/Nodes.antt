-- The nodes that one line tells whole.
use Rattle.std.specs.Prelude.{◌≡◌, zero, List, [], ◌++◌, ℕ}
use Rattle.cert_text.specs.declared.event.Event.{Event}
use Rattle.cert_text.specs.declared.event.Event.TheVariants as event
use Rattle.cert_text.specs.declared.line.Line.{Line}
use Rattle.cert_text.specs.declared.line.Line.TheVariants as line
use Rattle.cert_text.specs.declared.node.Node.{Node}
use Rattle.cert_text.specs.declared.node.Node.TheVariants as node
use Rattle.cert_text.specs.Lines.{LineInRange, ended, line_text}

-- the line of a node
abbrev pub node_line : Node → Line
node_line (node.Inner n) = line.InnerLine n
node_line node.Bound = line.BoundLine
node_line node.Open = line.OpenLine
node_line node.Fail = line.FailLine zero

-- its event
abbrev pub node_event : Node → Event
node_event (node.Inner n) = event.Node n
node_event node.Bound = event.BoundLeaf
node_event node.Open = event.OpenLeaf
node_event node.Fail = event.FailLeaf []

-- the bytes begin with the line of a node, and these follow its LF
pub record BeginsNode (bytes : List ℕ) (n : Node) (after : List ℕ) : Type 0 where
  pub text : bytes ≡ ended (line_text (node_line n)) ++ after
  pub in_range : LineInRange (node_line n)
