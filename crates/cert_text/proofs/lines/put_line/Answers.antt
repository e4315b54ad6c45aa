use Rattle.std.proofs.Common.{codes, refl}
use Rattle.cert_text.specs.declared.line.Line.TheVariants as line
use Rattle.cert_text.specs.Lines.{line_words}
use Rattle.cert_text.proofs.Adds.{adds-fixed}
use Rattle.cert_text.proofs.lines.put_line.Goals as goal

pub returns-in-FirstLine : goal.returns-in-FirstLine
unfolding line_words
returns-in-FirstLine c =
    adds-fixed c.put_ended.result c.args.out.now.items c.put_ended.new.out.items (codes "canpack certificate 1") line.FirstLine c.args.line.now c.put_ended.ensures c.in-FirstLine.is refl tt

pub returns-in-MainLine : goal.returns-in-MainLine
unfolding line_words
returns-in-MainLine c =
    adds-fixed c.put_ended-in-MainLine.result c.args.out.now.items c.put_ended-in-MainLine.new.out.items (codes "main") line.MainLine c.args.line.now c.put_ended-in-MainLine.ensures c.in-MainLine.is refl tt

pub returns-in-BoundLine : goal.returns-in-BoundLine
unfolding line_words
returns-in-BoundLine c =
    adds-fixed c.put_ended-in-BoundLine.result c.args.out.now.items c.put_ended-in-BoundLine.new.out.items (codes "b") line.BoundLine c.args.line.now c.put_ended-in-BoundLine.ensures c.in-BoundLine.is refl tt

pub returns-in-OpenLine : goal.returns-in-OpenLine
unfolding line_words
returns-in-OpenLine c =
    adds-fixed c.put_ended-in-OpenLine.result c.args.out.now.items c.put_ended-in-OpenLine.new.out.items (codes "o") line.OpenLine c.args.line.now c.put_ended-in-OpenLine.ensures c.in-OpenLine.is refl tt

pub returns-in-ShardLine : goal.returns-in-ShardLine
unfolding line_words
returns-in-ShardLine c =
    adds-fixed c.put_ended-in-ShardLine.result c.args.out.now.items c.put_ended-in-ShardLine.new.out.items (codes "shard") line.ShardLine c.args.line.now c.put_ended-in-ShardLine.ensures c.in-ShardLine.is refl tt

pub returns-in-JoinLine : goal.returns-in-JoinLine
unfolding line_words
returns-in-JoinLine c =
    adds-fixed c.put_ended-in-JoinLine.result c.args.out.now.items c.put_ended-in-JoinLine.new.out.items (codes "join") line.JoinLine c.args.line.now c.put_ended-in-JoinLine.ensures c.in-JoinLine.is refl tt

pub returns-in-EndLine : goal.returns-in-EndLine
unfolding line_words
returns-in-EndLine c =
    adds-fixed c.put_ended-in-EndLine.result c.args.out.now.items c.put_ended-in-EndLine.new.out.items (codes "end") line.EndLine c.args.line.now c.put_ended-in-EndLine.ensures c.in-EndLine.is refl tt

pub returns-in-KindLine : goal.returns-in-KindLine
unfolding line_words
returns-in-KindLine c =
    adds-fixed c.put_ended-in-KindLine.result c.args.out.now.items c.put_ended-in-KindLine.new.out.items c.kind_line.result.now (line.KindLine c.in-KindLine.kind) c.args.line.now c.put_ended-in-KindLine.ensures c.in-KindLine.is c.kind_line.ensures tt
