-- Steps of the place of a walk.
use Rattle.std.proofs.Common.{◌≡◌, ◌<◌, ◌≤◌, ◌+◌, ℕ, List, [], ◌∷◌, ◌++◌, length, take, Bool, false, Option, None, Some, sym, ap, subst, ◌∙◌, arith, refl, length-append, IsTrue}
use Rattle.std.specs.Prelude.{IfSome, ◌↔◌}
use Rattle.std.proofs.lemmas.Bool.{false≢true}
use Rattle.pack_model.specs.Problem.{Parts}
use Rattle.pack_model.specs.declared.item.Item.{Item}
use Rattle.grouping_tree.specs.Grouped.{labels_of, range_of}
use Rattle.grouping_tree.specs.Partial.{IsPartial}
use Rattle.grouping_tree.specs.Walk.{options_from, places_left}
use Rattle.grouping_tree.proofs.Fronts.{partial-append}
use Rattle.grouping_tree.proofs.Options.{next-low}
use Rattle.grouping_tree.proofs.Used.{classes_low, few, long}
use Rattle.grouping_tree.proofs.Walks.{left-none, places_back, places_next}
use Rattle.cert_check.specs.declared.node_place.NodePlace.{NodePlace}
use Rattle.cert_check.specs.Places.{IsOver, IsPlace, labels_at, labels_with}

-- the labels of a place are a partial grouping
pub place_legal : (problem : Parts) (place : NodePlace) → IsPlace problem place
    → IsPartial (range_of problem place.partial) (labels_at place)
place_legal problem place is = by place.ahead is.legal
  where
    by : (ahead : Option ℕ)
        → IfSome ahead (λ label. IsPartial (range_of problem place.partial) (labels_of place.partial ++ label ∷ []))
        → IsPartial (range_of problem place.partial) (labels_with (labels_of place.partial) ahead)
    by None h = is.belongs.legal
    by (Some label) h = h

-- where the last label is put too these are the labels
pub all_put : (place : NodePlace) → place.ahead ≡ None → labels_at place ≡ labels_of place.partial
all_put place e = ap (labels_with (labels_of place.partial)) e

-- a label fewer at the front
pub front-shorter : (xs p : List ℕ) (l : ℕ) → take (length (p ++ l ∷ [])) xs ≡ p ++ l ∷ [] → take (length p) xs ≡ p
front-shorter xs [] l e = refl
front-shorter [] (a ∷ p) l e = absurd cc
front-shorter (x ∷ xs) (a ∷ p) l e =
    let head : x ≡ a = cc in
    let tail : take (length (p ++ l ∷ [])) xs ≡ p ++ l ∷ [] = cc in
    λ i. head i ∷ front-shorter xs p l tail i

-- the last label is low
pub last_low : (problem : Parts) (place : NodePlace) (q : List ℕ) (l : ℕ) → IsPlace problem place
    → labels_at place ≡ q ++ l ∷ [] → l + 1 ≤ 128
last_low problem place q l is e =
    let items : List Item = range_of problem place.partial in
    let legal : IsPartial items (q ++ l ∷ []) = subst (IsPartial items) e (place_legal problem place is) in
    omega (
      arith,
      next-low items q l legal,
      classes_low items q (partial-append items q (l ∷ []) legal),
      legal.within,
      length-append q (l ∷ []),
      long problem place.partial is.belongs,
      few problem place.partial is.belongs,
    )

-- where a place isn't the root it has a label
pub some_label : (root : Bool) (p : List ℕ) → root ≡ false → (IsTrue root ↔ (p ≡ [])) → 0 < length p
some_label root [] e iff = absurd (false≢true (sym e ∙ iff.1 refl))
some_label root (l ∷ p) e iff = omega arith

pub over_on : (problem : Parts) (before between after : NodePlace) → IsOver problem before between
    → IsOver problem between after → IsOver problem before after
over_on problem before between after first second = record {
  range = second.range ∙ first.range;
  sender = second.sender ∙ first.sender;
  room = second.room ∙ first.room;
}

-- the places that are left, on to the next option after the last label
module _ (problem : Parts) (first old back : NodePlace) (last : ℕ) (over : IsOver problem old back)
    (put : back.ahead ≡ None) (labels : labels_at old ≡ labels_at back ++ last ∷ [])
    (left : places_left (range_of problem first.partial) 0 (labels_at first)
    ≡ places_left (range_of problem old.partial) 0 (labels_at old)) where
  there : labels_of back.partial ≡ labels_at back
  there = sym (all_put back put)

  pub place_next : (new : NodePlace) (x : ℕ) → IsOver problem back new
      → options_from (range_of problem back.partial) (labels_of back.partial) (last + 1)
      ≡ x ∷ options_from (range_of problem back.partial) (labels_of back.partial) (x + 1)
      → labels_at new ≡ labels_at back ++ x ∷ []
      → places_left (range_of problem first.partial) 0 (labels_at first)
      ≡ labels_at new ∷ places_left (range_of problem new.partial) 0 (labels_at new)
  place_next new x went option is =
      let items : List Item = range_of problem back.partial in
      left ∙ ap (λ xs. places_left xs 0 (labels_at old)) (sym over.range)
      ∙ places_next items 0 (labels_at old) (labels_at back) (labels_at new) last last x labels refl (omega arith)
      (subst (λ p. options_from items p (last + 1) ≡ x ∷ options_from items p (x + 1)) there option) is
      ∙ ap (λ xs. labels_at new ∷ places_left xs 0 (labels_at new)) (sym went.range)

  -- and back where there is none
  pub place_back : options_from (range_of problem back.partial) (labels_of back.partial) (last + 1) ≡ []
      → places_left (range_of problem first.partial) 0 (labels_at first)
      ≡ places_left (range_of problem back.partial) 0 (labels_at back)
  place_back none =
      let items : List Item = range_of problem back.partial in
      left ∙ ap (λ xs. places_left xs 0 (labels_at old)) (sym over.range)
      ∙ places_back items 0 (labels_at old) (labels_at back) last last labels refl (omega arith)
      (subst (λ p. options_from items p (last + 1) ≡ []) there none)

-- at the root none is left
pub none_left : (items : List Item) (p : List ℕ) → p ≡ [] → places_left items 0 p ≡ []
none_left items p e = left-none items 0 p (omega (arith, ap length e))
