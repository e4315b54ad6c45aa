use Rattle.std.proofs.Common.{◌≡◌, ◌-◌, ℕ, length, replicate, ap, arith}
use Rattle.std.proofs.lemmas.List.{length-append, length-replicate}
use Rattle.std.proofs.lemmas.Result.{IfOk-weaker}
use Rattle.container_pdu.specs.Bytes.{parts_text}
use Rattle.container_pdu.proofs.writing.write_container.Goals as goal

pub returns-clause-reads_back : goal.returns-clause-reads_back
returns-clause-reads_back c =
    IfOk-weaker c.container_of.result _ _ (λ v e.
    let zeros = c.args.size - length (parts_text c.args.header c.args.parts.now) in
    let size : length v.items ≡ c.args.size =
    omega (
      arith,
      ap length e,
      length-append (parts_text c.args.header c.args.parts.now) (replicate zeros 0),
      length-replicate {A = ℕ} zeros 0,
      c.requires.fits.room,
    ) in
    record { fits = rw size c.requires.fits; spelled = rw size e }) c.container_of.ensures
