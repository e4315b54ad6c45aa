-- Numbers of nodes, of open leaves and of partial groupings.
use Rattle.std.proofs.Common.{◌≡◌, ℕ, zero, suc, ◌+◌, ◌<◌, ◌≤◌, List, [], ◌∷◌, ◌++◌, length, replicate, sum_by, Bool, true, false, cond, refl, ap, ◌∙◌, length-append, arith}
use Rattle.std.proofs.lemmas.List.{length_push}
use Rattle.std.proofs.lemmas.List.Sums.{sum_by-cons}
use Rattle.pack_model.specs.declared.item.Item.{Item}
use Rattle.cert_text.specs.Trees.{Plain, Plains, bound, fail, inner, left, more, none}
use Rattle.grouping_tree.specs.Partial.{options_of}
use Rattle.grouping_tree.specs.Walk.{with_each}
use Rattle.bandwidth_bound.specs.Trees.{EachStands, open_places, open_places_each}
use Rattle.tree_search.specs.declared.node.Node.{Node}
use Rattle.tree_search.specs.declared.node.Node.TheVariants.{Inner, Bound, Left, Fail}
use Rattle.tree_search.specs.Count.{place_count}
use Rattle.tree_search.specs.Flat.{IsClosed, flat, flat_each}
use Rattle.tree_search.specs.Open.{HasOptions, any_goal, nodes_in, nodes_of}
use Rattle.tree_search.specs.Shown.{Shows}
use Rattle.tree_search.specs.Trim.{AreTrimmed, IsTrimmed, trim, trim_each}

-- nodes besides open leaves
abbrev done_in : List Node → ℕ
done_in [] = 0
done_in (Inner n ∷ nodes) = done_in nodes + 1
done_in (Bound ∷ nodes) = done_in nodes + 1
done_in (Left ∷ nodes) = done_in nodes
done_in (Fail named ∷ nodes) = done_in nodes + 1

done_in-append : (xs ys : List Node) → done_in (xs ++ ys) ≡ done_in xs + done_in ys
done_in-append [] ys = omega arith
done_in-append (Inner n ∷ xs) ys = omega (arith, done_in-append xs ys)
done_in-append (Bound ∷ xs) ys = omega (arith, done_in-append xs ys)
done_in-append (Left ∷ xs) ys = done_in-append xs ys
done_in-append (Fail named ∷ xs) ys = omega (arith, done_in-append xs ys)

done_in-closed : (xs : List Node) → IsClosed xs → done_in xs ≡ length xs
done_in-closed [] h = refl
done_in-closed (Inner n ∷ xs) h = omega (arith, done_in-closed xs h)
done_in-closed (Bound ∷ xs) h = omega (arith, done_in-closed xs h)
done_in-closed (Left ∷ xs) h = absurd h
done_in-closed (Fail named ∷ xs) h = omega (arith, done_in-closed xs h)

done_in-lefts : (n : ℕ) → done_in (replicate n Left) ≡ 0
done_in-lefts zero = refl
done_in-lefts (suc n) = done_in-lefts n

mutual
  nodes_of-flat : (t : Plain) → nodes_of t ≡ done_in (flat t)
  nodes_of-flat (inner ts) = ap (λ n. n + 1) (nodes_in-flat ts)
  nodes_of-flat bound = refl
  nodes_of-flat left = refl
  nodes_of-flat (fail named) = refl

  nodes_in-flat : (ts : Plains) → nodes_in ts ≡ done_in (flat_each ts)
  nodes_in-flat none = refl
  nodes_in-flat (more t ts) =
      omega (arith, nodes_of-flat t, nodes_in-flat ts, done_in-append (flat t) (flat_each ts))

-- the nodes that are done are the tree's nodes besides open leaves
pub nodes_of-shown : (items : List Item) (from : List ℕ) (nodes : List Node) (places : List (List ℕ))
    (t : Plain)
    → Shows items from nodes places t → nodes_of t ≡ length nodes
nodes_of-shown items from nodes places t h =
    let lefts = replicate (length places) Left in
    omega (
      arith,
      nodes_of-flat t,
      ap done_in h.flat_is,
      done_in-append nodes lefts,
      done_in-closed nodes h.closed,
      done_in-lefts (length places),
    )

some-place : (items : List Item) (n : ℕ) (p : List ℕ) → 1 ≤ place_count items n p
some-place items zero p = omega arith
some-place items (suc n) p = omega arith

-- each node and each open leaf of a tree stands at a partial grouping of its own
mutual
  pub nodes-le_places : (items : List Item) (n : ℕ) (p : List ℕ) (t : Plain) → n + length p ≡ length items
      → HasOptions items p t
      → nodes_of t + length (open_places items p t) ≤ place_count items n p
  nodes-le_places items zero p (inner ts) e h = absurd (omega (arith, h.0))
  nodes-le_places items (suc n) p (inner ts) e h =
      omega (arith, nodes-le_sum items n p (options_of items p) ts e h.1)
  nodes-le_places items n p bound e h = omega (arith, some-place items n p)
  nodes-le_places items n p left e h = omega (arith, some-place items n p)
  nodes-le_places items n p (fail named) e h = omega (arith, some-place items n p)

  nodes-le_sum : (items : List Item) (n : ℕ) (p ls : List ℕ) (ts : Plains) → suc n + length p ≡ length items
      → EachStands (any_goal items) p ls ts
      → nodes_in ts + length (open_places_each items p ls ts) ≤ sum_by (place_count items n) (with_each p ls)
  nodes-le_sum items n p [] none e h = omega arith
  nodes-le_sum items n p [] (more t ts) e h = absurd h
  nodes-le_sum items n p (l ∷ ls) none e h = absurd h
  nodes-le_sum items n p (l ∷ ls) (more t ts) e h =
      let q = p ++ l ∷ [] in
      let here = open_places items q t in
      let after = open_places_each items p ls ts in
      omega (
        arith,
        nodes-le_places items n q t (omega (arith, length_push p l)) h.0,
        nodes-le_sum items n p ls ts e h.1,
        length-append here after,
        sum_by-cons (place_count items n) q (with_each p ls),
      )

-- a search with an open leaf has fewer nodes than there are partial groupings
pub nodes-lt_places : (items : List Item) (n : ℕ) (from : List ℕ) (nodes : List Node) (p : List ℕ)
    (places : List (List ℕ)) (t : Plain)
    → n + length from ≡ length items → Shows items from nodes (p ∷ places) t
    → length nodes < place_count items n from
nodes-lt_places items n from nodes p places t e shows =
    omega (
      arith,
      nodes-le_places items n from t e shows.options,
      nodes_of-shown items from nodes (p ∷ places) t shows,
      ap length shows.open_are,
    )

module _ (items : List Item) (cut : List ℕ → Bool) where
  -- trimming trims
  trimmed-cond : (b : Bool) (p : List ℕ) (t : Plain) → (b ≡ false → IsTrimmed items cut p t)
      → IsTrimmed items cut p (cond b bound t)
  trimmed-cond true p t f = tt
  trimmed-cond false p t f = f refl

  mutual
    pub is_trimmed : (p : List ℕ) (t : Plain) → IsTrimmed items cut p (trim items cut p t)
    is_trimmed p (inner ts) =
        trimmed-cond (cut p) p (inner (trim_each items cut p (options_of items p) ts))
        (λ e. (e, are_trimmed p (options_of items p) ts))
    is_trimmed p bound = tt
    is_trimmed p left = tt
    is_trimmed p (fail named) = tt

    are_trimmed : (p ls : List ℕ) (ts : Plains) → AreTrimmed items cut p ls (trim_each items cut p ls ts)
    are_trimmed p [] ts = tt
    are_trimmed p (l ∷ ls) none = tt
    are_trimmed p (l ∷ ls) (more t ts) = (is_trimmed (p ++ l ∷ []) t, are_trimmed p ls ts)

  -- trimming adds no node
  nodes-cond : (b : Bool) (t : Plain) (n : ℕ) → 1 ≤ n → nodes_of t ≤ n → nodes_of (cond b bound t) ≤ n
  nodes-cond true t n some le = some
  nodes-cond false t n some le = le

  mutual
    pub nodes-trim : (p : List ℕ) (t : Plain) → nodes_of (trim items cut p t) ≤ nodes_of t
    nodes-trim p (inner ts) =
        nodes-cond (cut p) (inner (trim_each items cut p (options_of items p) ts)) (nodes_in ts + 1)
        (omega arith)
        (omega (arith, nodes-trim_each p (options_of items p) ts))
    nodes-trim p bound = omega arith
    nodes-trim p left = omega arith
    nodes-trim p (fail named) = omega arith

    nodes-trim_each : (p ls : List ℕ) (ts : Plains) → nodes_in (trim_each items cut p ls ts) ≤ nodes_in ts
    nodes-trim_each p [] ts = omega arith
    nodes-trim_each p (l ∷ ls) none = omega arith
    nodes-trim_each p (l ∷ ls) (more t ts) =
        omega (arith, nodes-trim (p ++ l ∷ []) t, nodes-trim_each p ls ts)

  -- and opens no leaf
  nil-cond : (b : Bool) (p : List ℕ) (t : Plain) → open_places items p t ≡ []
      → open_places items p (cond b bound t) ≡ []
  nil-cond true p t e = refl
  nil-cond false p t e = e

  both : (xs ys xs' ys' : List (List ℕ)) → xs ++ ys ≡ [] → (xs ≡ [] → xs' ≡ []) → (ys ≡ [] → ys' ≡ [])
      → xs' ++ ys' ≡ []
  both [] ys xs' ys' e f g = ap (λ zs. zs ++ ys') (f refl) ∙ g e
  both (x ∷ xs) ys xs' ys' e f g = cc

  mutual
    pub open-trim : (p : List ℕ) (t : Plain) → open_places items p t ≡ []
        → open_places items p (trim items cut p t) ≡ []
    open-trim p (inner ts) e =
        nil-cond (cut p) p (inner (trim_each items cut p (options_of items p) ts))
        (open-trim_each p (options_of items p) ts e)
    open-trim p bound e = refl
    open-trim p left e = e
    open-trim p (fail named) e = refl

    open-trim_each : (p ls : List ℕ) (ts : Plains) → open_places_each items p ls ts ≡ []
        → open_places_each items p ls (trim_each items cut p ls ts) ≡ []
    open-trim_each p [] ts e = e
    open-trim_each p (l ∷ ls) none e = e
    open-trim_each p (l ∷ ls) (more t ts) e =
        both (open_places items (p ++ l ∷ []) t) (open_places_each items p ls ts)
        (open_places items (p ++ l ∷ []) (trim items cut (p ++ l ∷ []) t))
        (open_places_each items p ls (trim_each items cut p ls ts)) e
        (open-trim (p ++ l ∷ []) t) (open-trim_each p ls ts)
