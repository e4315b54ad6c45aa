-- A walk goes on to the next place.
use Rattle.std.proofs.Common.{◌≡◌, ℕ, ◌<◌, ◌≤◌, List, [], ◌∷◌, ◌++◌, length, take, replicate, Bool, true, false, Option, refl, sym, ap, ◌∙◌, append_assoc, arith}
use Rattle.std.proofs.lemmas.List.{drop_all, length-take-le, take-take, take_all}
use Rattle.pack_model.specs.declared.item.Item.{Item}
use Rattle.pack_model.specs.Problem.{Parts}
use Rattle.cert_text.specs.Trees.{left}
use Rattle.grouping_tree.specs.Grouped.{labels_of}
use Rattle.grouping_tree.specs.Walk.{places_below, places_beside, places_left}
use Rattle.tree_search.specs.declared.finding.Found.{Found}
use Rattle.tree_search.specs.declared.node.Node.{Node}
use Rattle.tree_search.specs.declared.node.Node.TheVariants.{Left}
use Rattle.tree_search.specs.declared.search.Search.{Search}
use Rattle.tree_search.specs.Shown.{GoesOn, IsAt, IsOf, Shows, agenda, items_of}

-- at first the one place is open
pub agenda-start : (items : List Item) (labels : List ℕ)
    → agenda items (length labels) labels true ≡ labels ∷ []
agenda-start items labels =
    ap (λ rest. labels ∷ places_beside items (take (length labels) labels) rest)
    (drop_all (length labels) labels (omega arith))

-- all labels are the front of a walk that begins at them
pub start-all : (labels : List ℕ) → take (length labels) labels ≡ labels
start-all labels = take_all (length labels) labels (omega arith)

-- the same of a search that begins there
pub agenda-first : (items : List Item) (base : ℕ) (labels : List ℕ) (is_open : Bool) → is_open ≡ true
    → base ≡ length labels → agenda items base labels is_open ≡ take base labels ∷ []
agenda-first items base labels is_open o b =
    rw (o, b) (agenda-start items labels ∙ ap (λ p. p ∷ []) (sym (start-all labels)))

-- a place to which the walk leaves has the front too
pub left-below : {X Y : Type 0} (base : ℕ) (old new : List ℕ) (b : Bool) → base ≤ length old
    → (b ≡ true → (base < length new) × X) → (b ≡ false → (new ≡ take base old) × Y) → base ≤ length new
left-below base old new true le next last = omega (arith, (next refl).0)
left-below base old new false le next last =
    let e : length new ≡ length (take base old) = ap length (last refl).0 in
    omega (arith, e, length-take-le base old le)

-- the places that are open then are those that were still to come
pub left-agenda : {X Y : Type 0} (items items' : List Item) (base : ℕ) (old new : List ℕ) (b : Bool)
    → items' ≡ items
    → (b ≡ true → X × (places_left items base old ≡ new ∷ places_left items' base new))
    → (b ≡ false → Y × (places_left items base old ≡ []))
    → agenda items base new b ≡ places_left items base old
left-agenda items items' base old new true range next last =
    ap (λ xs. new ∷ places_left xs base new) (sym range) ∙ sym (next refl).1
left-agenda items items' base old new false range next last = sym (last refl).1

-- a place that the walk enters has the front too
pub entered-front : (base : ℕ) (old new : List ℕ) → base ≤ length old → take (length old) new ≡ old
    → take base new ≡ take base old
entered-front base old new le e = sym (take-take base (length old) new le) ∙ ap (take base) e

-- the places that are open then are those below the one before, and those that were still to come
pub entered-agenda : (items items' : List Item) (base : ℕ) (old new : List ℕ) → items' ≡ items
    → new ∷ places_left items' base new ≡ places_below items old ++ places_left items base old
    → agenda items base new true ≡ places_below items old ++ places_left items base old
entered-agenda items items' base old new range e = ap (λ xs. new ∷ places_left xs base new) (sym range) ∙ e

-- one open leaf is shown at first
pub shows-start : (items : List Item) (labels : List ℕ) (nodes : List Node) (base : ℕ) (is_open : Bool)
    → base ≡ length labels → is_open ≡ true → nodes ≡ []
    → Shows items (take base labels) nodes (agenda items base labels is_open) left
shows-start items labels nodes base is_open b o n =
    rw (b, o, n, agenda-start items labels, start-all labels)
    (record { closed = tt; flat_is = refl; open_are = refl; options = refl })

pub at-start : (problem : Parts) (search : Search) (best : Option ℕ) (found : Option Found)
    → search.base ≡ length (labels_of search.partial) → search.open ≡ true
    → search.nodes.items ≡ [] → search.best ≡ best → search.found ≡ found
    → IsAt problem search (record { tree = left; best = best; found = found })
at-start problem search best found b o n is nothing = record {
  shows =
      shows-start (items_of problem search)
      (labels_of search.partial) search.nodes.items search.base search.open b o n;
  best = sym is;
  found = sym nothing;
}

-- a search goes on as itself, and as one that went on from it
pub goes_on-same : (problem : Parts) (search : Search) → IsOf problem search → GoesOn problem search search
goes_on-same problem search is_of =
    record { is_of = is_of; items = refl; start = refl; base = refl; room = refl }

pub goes_on-trans : (problem : Parts) (a b c : Search) → GoesOn problem a b → GoesOn problem b c
    → GoesOn problem a c
goes_on-trans problem a b c h k = record {
  is_of = k.is_of;
  items = k.items ∙ h.items;
  start = k.start ∙ h.start;
  base = k.base ∙ h.base;
  room = k.room ∙ h.room;
}

-- one open leaf more
pub open-more : (nodes nodes' : List Node) (p : List ℕ) (places places' : List (List ℕ))
    → nodes' ≡ nodes ++ Left ∷ [] → places' ≡ places
    → nodes' ++ replicate (length places') Left ≡ nodes ++ replicate (length (p ∷ places)) Left
open-more nodes nodes' p places places' e f =
    rw (e, f) (append_assoc nodes (Left ∷ []) (replicate (length places) Left))
