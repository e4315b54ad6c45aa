use Rattle.std.proofs.Common.{Bor, List, ℕ, Some}
use Rattle.csv.specs.Records.{fields_of}
use Rattle.csv_table.proofs.Records.{takes, took}
use Rattle.csv_table.proofs.rows.take.Goals as goal

pub returns-in-Ok-clause-open : goal.returns-in-Ok-clause-open
returns-in-Ok-clause-open c = λ e.
    let read = rw e at (c.in-Ok.ensures.reads c.requires.trim c.requires.ready) in
    (took (λ (s : Bor (List ℕ)). Some s.now) c.args.reader.now c.read_byte_record.new.self
    (fields_of c.read_byte_record.new.row) c.requires read
    (c.in-Ok.ensures.ready c.requires.trim) c.in-Ok.ensures.flexible).0

pub returns-in-Ok-clause-takes : goal.returns-in-Ok-clause-takes
returns-in-Ok-clause-takes c =
    takes (λ (s : Bor (List ℕ)). Some s.now) c.args.reader.now c.read_byte_record.new.self c.in-Ok.found
    (fields_of c.read_byte_record.new.row) c.requires
    (c.in-Ok.ensures.reads c.requires.trim c.requires.ready)
    (c.in-Ok.ensures.ready c.requires.trim) c.in-Ok.ensures.flexible
