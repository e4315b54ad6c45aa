use Rattle.std.proofs.Common.{ap, length, subst, ◌∙◌, arith}
use Rattle.pack_model.specs.Gives.{Gives}
use Rattle.container_pdu.specs.Reading.{parts_of, told}
use Rattle.container_pdu.proofs.Again.{container_again}
use Rattle.container_pdu.proofs.Standing.{is_found}
use Rattle.container_pdu.proofs.Refused.{is_refused, refused_again}
use Rattle.container_pdu.proofs.reading.read_container.Goals as goal

pub returns-clause-found : goal.returns-clause-found
returns-clause-found c =
    is_found c.args.header c.args.payload.now c.read_parts.result c.requires
    (λ i. omega (arith, c.type_inv.payload i)) c.read_parts.ensures

pub returns-clause-reads : goal.returns-clause-reads
returns-clause-reads c =
    λ parts is. subst (λ f. Gives (λ v. v.items) told c.read_parts.result f)
    (ap (parts_of c.args.header) is.spelled
    ∙ container_again c.args.header parts (length c.args.payload.now) is.fits) c.read_parts.ensures

pub returns-clause-refused : goal.returns-clause-refused
returns-clause-refused c =
    is_refused c.args.header c.args.payload.now c.read_parts.result c.requires
    (λ i. omega (arith, c.type_inv.payload i)) c.read_parts.ensures

pub returns-clause-refuses : goal.returns-clause-refuses
returns-clause-refuses c =
    λ why is. subst (λ f. Gives (λ v. v.items) told c.read_parts.result f)
    (refused_again c.args.header c.args.payload.now why is) c.read_parts.ensures
