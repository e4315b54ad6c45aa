use Rattle.cert_text.proofs.Fits.{written-bytes, written-text}
use Rattle.cert_text.proofs.OfText.{of_text-cert}
use Rattle.cert_text.proofs.writing.write_cert.Goals as goal

pub returns-clause-exact : goal.returns-clause-exact
returns-clause-exact c = written-bytes c.args.marks c.args.cert.now c.new-out.result.items c.put_cert.new.out.items c.new-out.ensures.items c.in_ok-put_cert.ensures.lines

pub returns-clause-text : goal.returns-clause-text
returns-clause-text c =
    written-text c.args.marks c.args.cert.now c.new-out.result.items c.put_cert.new.out.items c.requires.fits c.in_ok-put_cert.ensures.has_parts c.new-out.ensures.items c.in_ok-put_cert.ensures.lines

pub returns-clause-reads_back : goal.returns-clause-reads_back
returns-clause-reads_back c =
    of_text-cert c.put_cert.new.out.items c.args.cert.now
    (written-text c.args.marks c.args.cert.now c.new-out.result.items c.put_cert.new.out.items c.requires.fits c.in_ok-put_cert.ensures.has_parts c.new-out.ensures.items c.in_ok-put_cert.ensures.lines)
