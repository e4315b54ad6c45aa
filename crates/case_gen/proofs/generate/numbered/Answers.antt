use Rattle.std.proofs.Common.{◌≡◌, ◌++◌, Err, decimal, sym, ◌∙◌, ap, subst, rules}
use Rattle.pack_model.specs.Name.{IsName}
use Rattle.case_gen.proofs.Names.{numbered_is_name}
use Rattle.case_gen.proofs.generate.numbered.Goals as goal

-- letters and a number are a name
pub unreachable-requires : goal.unreachable-requires
unreachable-requires c =
    let letters = c.args.letters.now in
    let number = c.args.number in
    let spelled : c.as_bytes.result.now ≡ letters ++ decimal number = search rules in
    c.new.ensures.bad_name.0 (c.in-Err-BadName.is ∙ ap Err c.in-Err-BadName.field-0-is)
    (subst IsName (sym spelled) (numbered_is_name letters number c.requires.short c.requires.letters (search rules)))
