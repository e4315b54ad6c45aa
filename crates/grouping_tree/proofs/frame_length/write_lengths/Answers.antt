use Rattle.std.proofs.Common.{◌∙◌, arith, length-set}
use Rattle.grouping_tree.specs.Grouped.{IsFrameLength}
use Rattle.grouping_tree.proofs.Steps.{set_more}
use Rattle.grouping_tree.proofs.frame_length.write_lengths.Goals as goal

pub loop-bytes-preserved : goal.loop-bytes-preserved
loop-bytes-preserved c =
    let i = c.loop-bytes.invariant in
    record {
      room = length-set c.loop-bytes.lengths.items c.loop-bytes.bytes c.of.result ∙ i.room;
      each =
          set_more (IsFrameLength c.args.network.now) c.loop-bytes.lengths.items c.loop-bytes.bytes c.of.result
          (omega (arith, i.room, c.loop-bytes-test.true)) c.of.ensures i.each;
    }

pub returns-clause-each : goal.returns-clause-each
returns-clause-each c = λ k d lt.
    c.loop-bytes.invariant.each k d (omega (arith, lt, c.loop-bytes-test.false))
