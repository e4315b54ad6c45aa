use Rattle.cert_text.proofs.TreeLines.{adds-lemma}
use Rattle.cert_text.proofs.writing.put_lemma.Goals as goal

pub returns : goal.returns
returns c =
    adds-lemma c.args.marks c.lemma_marks-shard.result c.args.lemma.now c.args.out.now.items c.put_line.new.out.items c.put_opening.new.out.items c.put_tree.new.out.items c.put_closing.new.out.items c.lemma_marks-shard.ensures
    c.in_ok-put_line.ensures c.in_ok-put_opening.ensures c.in_ok-put_tree.ensures c.in_ok-put_closing.ensures
