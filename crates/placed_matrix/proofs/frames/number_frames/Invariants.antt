use Rattle.std.proofs.Common.{◌≡◌, length, take}
use Rattle.placed_matrix.specs.Frames.{identifiers_of, grouping_of}
use Rattle.placed_matrix.specs.Tables.{HasLabels}
use Rattle.placed_matrix.proofs.Numbering.{firsts}
use Rattle.placed_matrix.proofs.frames.number_frames.Given as goal

-- the frames of the items so far have their labels, and so do the items
abbrev pub invariant-loop-number : goal.invariant-loop-number
invariant-loop-number l = record {
  long : length l.label_of ≡ 2048;
  table : HasLabels (firsts (identifiers_of l.problem l.rows) l.number) l.label_of;
  frames : l.frames ≡ length (firsts (identifiers_of l.problem l.rows) l.number);
  labels : take l.number l.labels ≡ take l.number (grouping_of l.problem l.rows);
}
