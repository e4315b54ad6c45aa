use Rattle.cert_text.specs.CertText.{parts}
use Rattle.cert_text.specs.Words.{line_of}
use Rattle.cert_text.proofs.CutAt.{parts_some}
use Rattle.cert_text.proofs.Short.{words_more}
use Rattle.cert_text.proofs.words.read_line.Goals as goal

pub returns-in-None : goal.returns-in-None
unfolding line_of
returns-in-None c = rw c.in-None.ensures.parts c.alone_in.ensures

pub returns-in-Some : goal.returns-in-Some
unfolding line_of
returns-in-Some c =
    rw (c.in-Some.ensures.parts, words_more c.in-Some.word.now (parts 32 c.in-Some.rest.now) (parts_some 32 c.in-Some.rest.now)) c.worded_in.ensures
