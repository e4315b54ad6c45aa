-- Laws on lists that the kit lacks, for the crates above too.
use Rattle.std.proofs.Common.{◌≡◌, ◌<◌, ◌+◌, ℕ, Bool, true, false, List, [], ◌∷◌, ◌++◌, length, map, take, drop, get_or, Option, None, Some, refl, sym, ap, ◌∙◌, arith, add-one, drop-cons, true≢false, ◌||◌, if◌then◌else◌}
use Rattle.std.specs.List.{list_any, position_or_len}
use Rattle.std.proofs.lemmas.List.{take_more, get_or-map, length-map}

-- what is left of a mapped list begins with its next element
pub drop-map_cons : {X Y : Type 0} (f : X → Y) (xs : List X) (i : ℕ) (x : X) → i < length xs
    → x ≡ get_or xs i x → drop i (map f xs) ≡ f x ∷ drop (i + 1) (map f xs)
drop-map_cons f xs i x lt at =
    let in_map : i < length (map f xs) = simp length-map lt in
    drop-cons (map f xs) i (f x) in_map
    ∙ ap (λ m. get_or (map f xs) i (f x) ∷ drop m (map f xs)) (sym (add-one i))
    ∙ ap (λ y. y ∷ drop (i + 1) (map f xs)) (get_or-map f xs i x (f x) lt ∙ ap f (sym at))

-- one more element of a mapped list
pub take-map_more : {X Y : Type 0} (f : X → Y) (xs : List X) (i : ℕ) (x : X) → i < length xs
    → x ≡ get_or xs i x → take (i + 1) (map f xs) ≡ take i (map f xs) ++ f x ∷ []
take-map_more f xs i x lt at =
    let in_map : i < length (map f xs) = simp length-map lt in
    take_more (map f xs) i (f x) in_map
    ∙ ap (λ y. take i (map f xs) ++ y ∷ []) (get_or-map f xs i x (f x) lt ∙ ap f (sym at))

-- what passes the test somewhere has a first place
pub first_place : {X : Type 0} (p : X → Bool) (xs : List X) → list_any p xs ≡ true
    → position_or_len p xs < length xs
first_place p [] h = absurd (true≢false (sym h))
first_place p (x ∷ xs) h = by (p x) refl (first_place p xs)
  where
    by : (b : Bool) → p x ≡ b → (list_any p xs ≡ true → position_or_len p xs < length xs)
        → position_or_len p (x ∷ xs) < length (x ∷ xs)
    by true e rest = rw e (omega arith)
    by false e rest = let later : position_or_len p xs < length xs =
        rest (sym (ap (λ b. b || list_any p xs) e) ∙ h) in rw e (omega arith)

-- a search that finds nothing passes its first element and finds nothing in the rest
pub none_from : (b : Bool) (n : ℕ) (o : Option ℕ) → (if b then Some n else o) ≡ None
    → (b ≡ false) × (o ≡ None)
none_from true n o h = absurd (let wrong : Some n ≡ None = h in cc)
none_from false n o h = (refl, h)
