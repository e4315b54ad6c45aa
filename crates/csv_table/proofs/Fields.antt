-- Laws on the fields of a record.
use Rattle.std.proofs.Common.{◌≡◌, ℕ, zero, suc, List, [], ◌∷◌, get_or, refl}
use Rattle.std.specs.Prelude.{unwrap_or}
use Rattle.csv.specs.Records as records

-- the field at a place, or none
pub unwrap_or-field_at : (fields : List (List ℕ)) (place : ℕ)
    → unwrap_or (records.field_at fields place) [] ≡ get_or fields place []
unfolding records.field_at
unwrap_or-field_at [] place = refl
unwrap_or-field_at (f ∷ fs) zero = refl
unwrap_or-field_at (f ∷ fs) (suc place) = unwrap_or-field_at fs place
