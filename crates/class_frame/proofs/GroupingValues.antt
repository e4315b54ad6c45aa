-- Worked values of the definitions of groupings.
use Rattle.std.proofs.Common.{◌≡◌, ℕ, [], ◌∷◌, refl}
use Rattle.class_frame.specs.Grouping.{classes_of, class_of}

two_classes : classes_of (0 ∷ 0 ∷ 1 ∷ []) ≡ 2
two_classes = refl

no_class : classes_of [] ≡ 0
no_class = refl

first_class : class_of {X = ℕ} 0 (0 ∷ 0 ∷ 1 ∷ []) (80 ∷ 81 ∷ 82 ∷ []) ≡ 80 ∷ 81 ∷ []
first_class = refl

second_class : class_of {X = ℕ} 1 (0 ∷ 0 ∷ 1 ∷ []) (80 ∷ 81 ∷ 82 ∷ []) ≡ 82 ∷ []
second_class = refl

unused_label : class_of {X = ℕ} 2 (0 ∷ 0 ∷ 1 ∷ []) (80 ∷ 81 ∷ 82 ∷ []) ≡ []
unused_label = refl
