-- A walk over the nodes of a tree in preorder, up to its first open leaf.
use Rattle.std.proofs.Common.{◌≡◌, ℕ, zero, suc, ◌+◌, ◌<◌, List, [], ◌∷◌, ◌++◌, length, replicate, Bool, true, false, refl, sym, ap, ◌∙◌, append_assoc, append-nil, add-one}
use Rattle.std.specs.Prelude.{⊤}
use Rattle.pack_model.specs.declared.item.Item.{Item}
use Rattle.cert_text.specs.Trees.{Plain, Plains, bound, fail, inner, left, more, none}
use Rattle.grouping_tree.specs.Partial.{options_of}
use Rattle.grouping_tree.specs.Walk.{places_below, places_left, with_each}
use Rattle.bandwidth_bound.specs.Trees.{EachStands, open_places, open_places_each}
use Rattle.tree_search.specs.declared.node.Node.{Node}
use Rattle.tree_search.specs.declared.node.Node.TheVariants.{Inner, Bound, Left, Fail}
use Rattle.tree_search.specs.Flat.{IsClosed, count_of, flat, flat_each, flats}
use Rattle.tree_search.specs.Open.{HasOptions, any_goal}
use Rattle.tree_search.specs.Shown.{Shows, agenda}
use Rattle.tree_search.specs.Trim.{AllHaveOptions}
use Rattle.tree_search.proofs.Builds.{flat_each-list, list_of}
use Rattle.tree_search.proofs.Flattens.{flats-append}
use Rattle.tree_search.proofs.Trims.{options-children}
use Rattle.tree_search.specs.Walks.{EndsOpen, Walks, opens}

module _ (items : List Item) where
  -- the subtrees of an inner node, one for each option
  count-options : (p ls : List ℕ) (ts : Plains) → EachStands (any_goal items) p ls ts
      → count_of ts ≡ length ls
  count-options p [] none h = refl
  count-options p [] (more t ts) h = absurd h
  count-options p (l ∷ ls) none h = absurd h
  count-options p (l ∷ ls) (more t ts) h = ap (λ n. n + 1) (count-options p ls ts h.1) ∙ add-one (length ls)

  opens-children : (p ls : List ℕ) (ts : Plains) (ps : List (List ℕ)) (us : List Plain)
      → EachStands (any_goal items) p ls ts
      → opens items (with_each p ls ++ ps) (list_of ts ++ us)
      ≡ open_places_each items p ls ts ++ opens items ps us
  opens-children p [] none ps us h = refl
  opens-children p [] (more t ts) ps us h = absurd h
  opens-children p (l ∷ ls) none ps us h = absurd h
  opens-children p (l ∷ ls) (more t ts) ps us h =
      ap (λ xs. open_places items (p ++ l ∷ []) t ++ xs) (opens-children p ls ts ps us h.1)
      ∙ sym (append_assoc (open_places items (p ++ l ∷ []) t) (open_places_each items p ls ts)
      (opens items ps us))

  module _ (from : List ℕ) (t : Plain) (rest : List Node) where
    -- a node is at a place
    walks-some : (all : List Node) (node : Node) → all ≡ node ∷ rest → Walks items from t all [] → ⊥
    walks-some all node is h = missing h.trees h.options (sym is ∙ h.parts)
      where
        missing : (trees : List Plain) → AllHaveOptions items [] trees → node ∷ rest ≡ flats trees → ⊥
        missing [] c e = cc
        missing (u ∷ us) c e = c

    module _ (node : Node) (p : List ℕ) (ps : List (List ℕ)) where
      -- at an inner node an item is left, and so many subtrees follow as there are options
      walks-left : (n : ℕ) → node ≡ Inner n → Walks items from t (node ∷ rest) (p ∷ ps)
          → (length p < length items) × (n ≡ length (options_of items p))
      walks-left n is h = go h.trees h.options h.parts
        where
          go : (trees : List Plain) → AllHaveOptions items (p ∷ ps) trees → node ∷ rest ≡ flats trees
              → (length p < length items) × (n ≡ length (options_of items p))
          go [] c e = cc
          go (inner ts ∷ us) c e =
              let count : n ≡ count_of ts = cc in
              (c.0.0, count ∙ count-options p (options_of items p) ts c.0.1)
          go (bound ∷ us) c e = cc
          go (left ∷ us) c e = cc
          go (fail named ∷ us) c e = cc

      -- its subtrees come next
      walks-below : (n : ℕ) → node ≡ Inner n → Walks items from t (node ∷ rest) (p ∷ ps)
          → Walks items from t rest (places_below items p ++ ps)
      walks-below n is h = go h.trees h.options h.parts h.opens_are
        where
          go : (trees : List Plain) → AllHaveOptions items (p ∷ ps) trees → node ∷ rest ≡ flats trees
              → open_places items from t ≡ opens items (p ∷ ps) trees
              → Walks items from t rest (places_below items p ++ ps)
          go [] c e o = cc
          go (inner ts ∷ us) c e o =
              let is_rest : rest ≡ flat_each ts ++ flats us = cc in
              let ls = options_of items p in
              record {
                trees = list_of ts ++ us;
                parts = is_rest ∙ ap (λ xs. xs ++ flats us) (flat_each-list ts)
                    ∙ sym (flats-append (list_of ts) us);
                options = options-children items p ls ts ps us c.0.1 c.1;
                opens_are = o ∙ sym (opens-children p ls ts ps us c.0.1);
              }
          go (bound ∷ us) c e o = cc
          go (left ∷ us) c e o = cc
          go (fail named ∷ us) c e o = cc

      -- a leaf that is done
      walks-leaf : ((n : ℕ) → node ≡ Inner n → ⊥) → (node ≡ Left → ⊥)
          → Walks items from t (node ∷ rest) (p ∷ ps) → Walks items from t rest ps
      walks-leaf not_inner not_left h = go h.trees h.options h.parts h.opens_are
        where
          go : (trees : List Plain) → AllHaveOptions items (p ∷ ps) trees → node ∷ rest ≡ flats trees
              → open_places items from t ≡ opens items (p ∷ ps) trees → Walks items from t rest ps
          go [] c e o = cc
          go (inner ts ∷ us) c e o =
              let is : node ≡ Inner (count_of ts) = cc in
              absurd (not_inner (count_of ts) is)
          go (bound ∷ us) c e o =
              let is_rest : rest ≡ flats us = cc in
              record { trees = us; parts = is_rest; options = c.1; opens_are = o }
          go (left ∷ us) c e o =
              let is : node ≡ Left = cc in
              absurd (not_left is)
          go (fail named ∷ us) c e o =
              let is_rest : rest ≡ flats us = cc in
              record { trees = us; parts = is_rest; options = c.1; opens_are = o }

  -- trees whose nodes are open leaves are one at each place
  all-left : (k : ℕ) (ps : List (List ℕ)) (ts : List Plain) → AllHaveOptions items ps ts
      → flats ts ≡ replicate k Left
      → (flats ts ≡ replicate (length ps) Left) × (opens items ps ts ≡ ps)
  all-left k [] [] c e = (refl, refl)
  all-left k [] (t ∷ ts) c e = absurd c
  all-left k (p ∷ ps) [] c e = absurd c
  all-left zero (p ∷ ps) (inner us ∷ ts) c e = cc
  all-left (suc k) (p ∷ ps) (inner us ∷ ts) c e = cc
  all-left zero (p ∷ ps) (bound ∷ ts) c e = cc
  all-left (suc k) (p ∷ ps) (bound ∷ ts) c e = cc
  all-left zero (p ∷ ps) (left ∷ ts) c e = cc
  all-left (suc k) (p ∷ ps) (left ∷ ts) c e =
      let after : flats ts ≡ replicate k Left = cc in
      let rest = all-left k ps ts c.1 after in
      (ap (λ xs. Left ∷ xs) rest.0, ap (λ xs. p ∷ xs) rest.1)
  all-left zero (p ∷ ps) (fail named ∷ ts) c e = cc
  all-left (suc k) (p ∷ ps) (fail named ∷ ts) c e = cc

  -- the whole tree is walked at first
  pub walks-start : (nodes : List Node) (p : List ℕ) (t : Plain) → flat t ≡ nodes → HasOptions items p t
      → Walks items p t nodes (p ∷ [])
  walks-start nodes p t is options = record {
    trees = t ∷ [];
    parts = sym is ∙ sym (append-nil (flat t));
    options = (options, tt);
    opens_are = sym (append-nil (open_places items p t));
  }

  -- where the code stands
  module _ (from : List ℕ) (t : Plain) (rest : List Node) (node : Node) (base : ℕ) (labels : List ℕ) where
    pub walks-open : (is_open : Bool)
        → Walks items from t (node ∷ rest) (agenda items base labels is_open) → is_open ≡ true
    walks-open true h = refl
    walks-open false h = absurd (walks-some from t rest (node ∷ rest) node refl h)

    pub walks-inner : (is_open : Bool) (n : ℕ) → node ≡ Inner n
        → Walks items from t (node ∷ rest) (agenda items base labels is_open)
        → (length labels < length items) × (n ≡ length (options_of items labels))
        × Walks items from t rest (places_below items labels ++ places_left items base labels)
    walks-inner true n is h =
        let here = walks-left from t rest node labels (places_left items base labels) n is h in (
          here.0,
          here.1,
          walks-below from t rest node labels (places_left items base labels) n is h,
        )
    walks-inner false n is h = absurd (walks-some from t rest (node ∷ rest) node refl h)

    pub walks-closed : (is_open : Bool) → ((n : ℕ) → node ≡ Inner n → ⊥) → IsClosed (node ∷ [])
        → Walks items from t (node ∷ rest) (agenda items base labels is_open)
        → Walks items from t rest (places_left items base labels)
    walks-closed true not_inner closed h =
        walks-leaf from t rest node labels (places_left items base labels) not_inner
        (λ is. rw is at closed) h
    walks-closed false not_inner closed h = absurd (walks-some from t rest (node ∷ rest) node refl h)

-- the nodes are none, or an open leaf is first
abbrev pub BeginsOpen : List Node → Type 0
BeginsOpen [] = ⊤
BeginsOpen (node ∷ nodes) = node ≡ Left

closed-tail : (node : Node) (nodes : List Node) → IsClosed (node ∷ nodes) → IsClosed nodes
closed-tail (Inner n) nodes h = h
closed-tail Bound nodes h = h
closed-tail Left nodes h = absurd h
closed-tail (Fail named) nodes h = h

-- the nodes that are not done are open leaves
rest-open : (nodes rest closed : List Node) (k : ℕ) → IsClosed nodes → IsClosed closed → BeginsOpen rest
    → nodes ++ rest ≡ closed ++ replicate k Left → rest ≡ replicate k Left
rest-open [] rest [] k h c b e = e
rest-open [] [] (node ∷ closed) k h c b e = cc
rest-open [] (x ∷ rest) (node ∷ closed) k h c b e =
    let is : node ≡ Left = cc in
    absurd (rw is at c)
rest-open (x ∷ nodes) rest [] zero h c b e = cc
rest-open (x ∷ nodes) rest [] (suc k) h c b e =
    let is : x ≡ Left = cc in
    absurd (rw is at h)
rest-open (x ∷ nodes) rest (node ∷ closed) k h c b e =
    let after : nodes ++ rest ≡ closed ++ replicate k Left = cc in
    rest-open nodes rest closed k (closed-tail x nodes h) (closed-tail node closed c) b after

-- at the first open leaf the walk shows the tree
pub walks-end : (items : List Item) (from : List ℕ) (t : Plain) (all nodes rest : List Node)
    (places : List (List ℕ))
    → flat t ≡ all → HasOptions items from t → EndsOpen all → IsClosed nodes → nodes ++ rest ≡ all
    → BeginsOpen rest → Walks items from t rest places → Shows items from nodes places t
walks-end items from t all nodes rest places is options ends closed parts begins h =
    let opened =
    rest-open nodes rest ends.closed ends.count closed ends.are_closed begins (parts ∙ ends.parts) in
    let each = all-left items ends.count places h.trees h.options (sym h.parts ∙ opened) in
    record {
      closed = closed;
      flat_is = is ∙ sym parts ∙ ap (λ xs. nodes ++ xs) (h.parts ∙ each.0);
      open_are = h.opens_are ∙ each.1;
      options = options;
    }
