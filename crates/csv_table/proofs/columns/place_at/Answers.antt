use Rattle.std.proofs.Common.{◌≡◌, ◌∙◌, ap, Bor, List, ℕ, [], Option, Some, None, refl}
use Rattle.std.specs.Prelude.{option_map, unwrap_or}
use Rattle.csv.specs.Records.{fields_of}
use Rattle.csv_table.proofs.Fields.{unwrap_or-field_at}
use Rattle.csv_table.proofs.columns.place_at.Goals as goal

pointed : (o : Option (Bor (List ℕ))) (d : Bor (List ℕ))
    → (unwrap_or o d).now ≡ unwrap_or (option_map (λ s. s.now) o) d.now
pointed None d = refl
pointed (Some s) d = refl

pub returns : goal.returns
returns c =
    ap (λ (s : Bor (List ℕ)). s.now) c.unwrap_or.ensures ∙ pointed c.get.result _
    ∙ ap (λ (o : Option (List ℕ)). unwrap_or o []) c.get.ensures.value
    ∙ unwrap_or-field_at (fields_of c.args.row.now) c.args.place
