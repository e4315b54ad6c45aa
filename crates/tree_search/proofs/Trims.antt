-- Trimming in preorder.
use Rattle.std.proofs.Common.{◌≡◌, ℕ, suc, ◌+◌, ◌-◌, ◌<◌, ◌≤◌, List, [], ◌∷◌, ◌++◌, length, Bool, true, false, cond, Some, refl, sym, ap, ◌∙◌, append_assoc, append-nil, length-append, arith}
use Rattle.pack_model.specs.declared.item.Item.{Item}
use Rattle.cert_text.specs.Trees.{Plain, Plains, bound, fail, inner, left, more, none}
use Rattle.grouping_tree.specs.Partial.{options_of}
use Rattle.grouping_tree.specs.Walk.{places_below, places_left, with_each}
use Rattle.bandwidth_bound.specs.Trees.{EachStands}
use Rattle.tree_search.specs.declared.node.Node.{Node}
use Rattle.tree_search.specs.declared.node.Node.TheVariants.{Inner, Bound, Left, Fail}
use Rattle.tree_search.specs.Flat.{count_of, flat, flat_each, flats, subtrees}
use Rattle.tree_search.specs.Open.{HasOptions, any_goal}
use Rattle.tree_search.specs.Going.{places_on}
use Rattle.tree_search.specs.Shown.{agenda}
use Rattle.tree_search.proofs.Goings.{back-places}
use Rattle.tree_search.specs.Trim.{AllHaveOptions, Trims, trim, trim_each, trims}
use Rattle.tree_search.proofs.Builds.{flat_each-list, length-list, list_of}
use Rattle.tree_search.proofs.Flattens.{flats-append}

-- the subtrees of an inner node, before other trees
flats-subtrees : (ts : Plains) (us : List Plain) (ys : List Node)
    → flat_each ts ++ (flats us ++ ys) ≡ flats (list_of ts ++ us) ++ ys
flats-subtrees ts us ys =
    ap (λ xs. xs ++ (flats us ++ ys)) (flat_each-list ts)
    ∙ sym (append_assoc (flats (list_of ts)) (flats us) ys)
    ∙ ap (λ xs. xs ++ ys) (sym (flats-append (list_of ts) us))

-- no more trees are passed over than nodes are left
length-flat : (t : Plain) → 1 ≤ length (flat t)
length-flat (inner ts) = omega arith
length-flat bound = omega arith
length-flat left = omega arith
length-flat (fail named) = omega arith

length-flats : (ts : List Plain) → length ts ≤ length (flats ts)
length-flats [] = omega arith
length-flats (t ∷ ts) = omega (arith, length-flat t, length-flats ts, length-append (flat t) (flats ts))

-- the trees are what is left, where none is passed over
trees-left : (passed trees : List Plain) (rest : List Node) → rest ≡ flats passed ++ flats trees
    → length passed ≡ 0 → rest ≡ flats trees
trees-left [] trees rest e h = e
trees-left (u ∷ us) trees rest e h = absurd (omega arith)

no-trees : (trees : List Plain) → [] ≡ flats trees → trees ≡ []
no-trees [] e = refl
no-trees (t ∷ ts) e = absurd (omega (arith, length-flat t, ap length e, length-append (flat t) (flats ts)))

both_nil : (xs ys : List Node) → [] ≡ xs ++ ys → [] ≡ ys
both_nil [] ys e = e
both_nil (x ∷ xs) ys e = cc

module _ (items : List Item) where
  -- subtrees, one for each option, before other trees
  pub options-children : (p ls : List ℕ) (ts : Plains) (ps : List (List ℕ)) (us : List Plain)
      → EachStands (any_goal items) p ls ts → AllHaveOptions items ps us
      → AllHaveOptions items (with_each p ls ++ ps) (list_of ts ++ us)
  options-children p [] none ps us h m = m
  options-children p [] (more t ts) ps us h m = absurd h
  options-children p (l ∷ ls) none ps us h m = absurd h
  options-children p (l ∷ ls) (more t ts) ps us h m = (h.0, options-children p ls ts ps us h.1 m)

  module _ (cut : List ℕ → Bool) where
    pub count-trim : (p ls : List ℕ) (ts : Plains) → count_of (trim_each items cut p ls ts) ≡ count_of ts
    count-trim p [] ts = refl
    count-trim p (l ∷ ls) none = refl
    count-trim p (l ∷ ls) (more t ts) = ap (λ n. n + 1) (count-trim p ls ts)

    trims-children : (p ls : List ℕ) (ts : Plains) (ps : List (List ℕ)) (us : List Plain)
        → EachStands (any_goal items) p ls ts
        → trims items cut (with_each p ls ++ ps) (list_of ts ++ us) ≡ list_of (trim_each items cut p ls ts)
        ++ trims items cut ps us
    trims-children p [] none ps us h = refl
    trims-children p [] (more t ts) ps us h = absurd h
    trims-children p (l ∷ ls) none ps us h = absurd h
    trims-children p (l ∷ ls) (more t ts) ps us h =
        ap (λ xs. trim items cut (p ++ l ∷ []) t ∷ xs) (trims-children p ls ts ps us h.1)

    trims-nil : (ps : List (List ℕ)) → trims items cut ps [] ≡ []
    trims-nil [] = refl
    trims-nil (p ∷ ps) = refl

    module _ (wanted kept rest : List Node) where
      -- a node of a tree that is passed over
      trims-pass : (node : Node) (m : ℕ) (places : List (List ℕ))
          → Trims items cut wanted kept (node ∷ rest) (suc m) places
          → Trims items cut wanted kept rest (m + subtrees node) places
      trims-pass node m places h = pass h.passed h.parts h.skip_is
        where
          leaf : (us : List Plain) → rest ≡ flats us ++ flats h.trees → length us ≡ m → subtrees node ≡ 0
              → Trims items cut wanted kept rest (m + subtrees node) places
          leaf us is_rest count e =
              record {
                passed = us;
                trees = h.trees;
                parts = is_rest;
                skip_is = omega arith;
                options = h.options;
                wanted_is = h.wanted_is;
              }

          pass : (passed : List Plain) → node ∷ rest ≡ flats passed ++ flats h.trees → length passed ≡ suc m
              → Trims items cut wanted kept rest (m + subtrees node) places
          pass [] parts skip = absurd (omega arith)
          pass (inner ts ∷ us) parts skip =
              let is_node : node ≡ Inner (count_of ts) = cc in
              let is_rest : rest ≡ (flat_each ts ++ flats us) ++ flats h.trees = cc in
              record {
                passed = list_of ts ++ us;
                trees = h.trees;
                parts = is_rest ∙ append_assoc (flat_each ts) (flats us) (flats h.trees)
                    ∙ flats-subtrees ts us (flats h.trees);
                skip_is = rw is_node (omega (arith, length-append (list_of ts) us, length-list ts));
                options = h.options;
                wanted_is = h.wanted_is;
              }
          pass (bound ∷ us) parts skip =
              let is_node : node ≡ Bound = cc in
              leaf us (cc) (omega arith) (ap subtrees is_node)
          pass (left ∷ us) parts skip =
              let is_node : node ≡ Left = cc in
              leaf us (cc) (omega arith) (ap subtrees is_node)
          pass (fail named ∷ us) parts skip =
              let is_node : node ≡ Fail named = cc in
              leaf us (cc) (omega arith) (ap subtrees is_node)

      -- the same, where the code stands
      pub trims-over : (all : List Node) (node : Node) (skip : ℕ) (places : List (List ℕ))
          → 0 < skip → all ≡ node ∷ rest → Trims items cut wanted kept all skip places
          → Trims items cut wanted kept rest (skip - 1 + subtrees node) places
      trims-over all node skip places lt e h =
          let one_more : skip ≡ suc (skip - 1) = omega arith in
          trims-pass node (skip - 1) places (rw e at (rw one_more at h))

      -- no more trees are passed over than nodes are left
      pub trims-skip : (skip : ℕ) (places : List (List ℕ)) → Trims items cut wanted kept rest skip places
          → skip ≤ length rest
      trims-skip skip places h =
          omega (
            arith,
            h.skip_is,
            length-flats h.passed,
            ap length h.parts,
            length-append (flats h.passed) (flats h.trees),
          )

      module _ (node : Node) (p : List ℕ) (ps : List (List ℕ)) where
        -- an inner node that is cut
        pub trims-cut : (n : ℕ) → node ≡ Inner n → cut p ≡ true
            → Trims items cut wanted kept (node ∷ rest) 0 (p ∷ ps)
            → Trims items cut wanted (kept ++ Bound ∷ []) rest n ps
        trims-cut n is is_cut h =
            go h.trees h.options h.wanted_is (trees-left h.passed h.trees (node ∷ rest) h.parts h.skip_is)
          where
            go : (trees : List Plain) → AllHaveOptions items (p ∷ ps) trees
                → wanted ≡ kept ++ flats (trims items cut (p ∷ ps) trees) → node ∷ rest ≡ flats trees
                → Trims items cut wanted (kept ++ Bound ∷ []) rest n ps
            go [] c w e = cc
            go (inner ts ∷ us) c w e =
                let is_rest : rest ≡ flat_each ts ++ flats us = cc in
                let count : count_of ts ≡ n = cc in
                record {
                  passed = list_of ts;
                  trees = us;
                  parts = is_rest ∙ ap (λ xs. xs ++ flats us) (flat_each-list ts);
                  skip_is = length-list ts ∙ count;
                  options = c.1;
                  wanted_is =
                      w ∙ ap (λ b. kept ++ (flat
                      (cond b bound (inner (trim_each items cut p (options_of items p) ts)))
                      ++ flats (trims items cut ps us))) is_cut
                      ∙ sym (append_assoc kept (Bound ∷ []) (flats (trims items cut ps us)));
                }
            go (bound ∷ us) c w e = cc
            go (left ∷ us) c w e = cc
            go (fail named ∷ us) c w e = cc

        -- an inner node that is kept
        pub trims-keep : (n : ℕ) → node ≡ Inner n → cut p ≡ false
            → Trims items cut wanted kept (node ∷ rest) 0 (p ∷ ps)
            → Trims items cut wanted (kept ++ Inner n ∷ []) rest 0 (places_below items p ++ ps)
        trims-keep n is not_cut h =
            go h.trees h.options h.wanted_is (trees-left h.passed h.trees (node ∷ rest) h.parts h.skip_is)
          where
            go : (trees : List Plain) → AllHaveOptions items (p ∷ ps) trees
                → wanted ≡ kept ++ flats (trims items cut (p ∷ ps) trees) → node ∷ rest ≡ flats trees
                → Trims items cut wanted (kept ++ Inner n ∷ []) rest 0 (places_below items p ++ ps)
            go [] c w e = cc
            go (inner ts ∷ us) c w e =
                let is_rest : rest ≡ flat_each ts ++ flats us = cc in
                let count : count_of ts ≡ n = cc in
                let ls = options_of items p in
                let after = trims items cut ps us in
                let below = trim_each items cut p ls ts in
                record {
                  passed = [];
                  trees = list_of ts ++ us;
                  parts = is_rest ∙ ap (λ xs. xs ++ flats us) (flat_each-list ts)
                      ∙ sym (flats-append (list_of ts) us);
                  skip_is = refl;
                  options = options-children p ls ts ps us c.0.1 c.1;
                  wanted_is = w ∙ ap (λ b. kept ++ (flat (cond b bound (inner below)) ++ flats after)) not_cut
                      ∙ ap (λ m. kept ++ (Inner m ∷ (flat_each below ++ flats after)))
                      (count-trim p ls ts ∙ count)
                      ∙ ap (λ xs. kept ++ (Inner n ∷ (xs ++ flats after))) (flat_each-list below)
                      ∙ ap (λ xs. kept ++ (Inner n ∷ xs)) (sym (flats-append (list_of below) after))
                      ∙ ap (λ us. kept ++ (Inner n ∷ flats us)) (sym (trims-children p ls ts ps us c.0.1))
                      ∙ sym (append_assoc kept (Inner n ∷ [])
                      (flats (trims items cut (with_each p ls ++ ps) (list_of ts ++ us))));
                }
            go (bound ∷ us) c w e = cc
            go (left ∷ us) c w e = cc
            go (fail named ∷ us) c w e = cc

        -- a leaf
        pub trims-leaf : ((n : ℕ) → node ≡ Inner n → ⊥) → Trims items cut wanted kept (node ∷ rest) 0 (p ∷ ps)
            → Trims items cut wanted (kept ++ node ∷ []) rest 0 ps
        trims-leaf leaf h =
            go h.trees h.options h.wanted_is (trees-left h.passed h.trees (node ∷ rest) h.parts h.skip_is)
          where
            same : (m : Node) (us : List Plain) → AllHaveOptions items ps us
                → wanted ≡ kept ++ (m ∷ flats (trims items cut ps us)) → node ∷ rest ≡ m ∷ flats us
                → Trims items cut wanted (kept ++ node ∷ []) rest 0 ps
            same m us c w e =
                let is : node ≡ m = cc in
                let is_rest : rest ≡ flats us = cc in
                record {
                  passed = [];
                  trees = us;
                  parts = is_rest;
                  skip_is = refl;
                  options = c;
                  wanted_is = w ∙ ap (λ x. kept ++ (x ∷ flats (trims items cut ps us))) (sym is)
                      ∙ sym (append_assoc kept (node ∷ []) (flats (trims items cut ps us)));
                }

            go : (trees : List Plain) → AllHaveOptions items (p ∷ ps) trees
                → wanted ≡ kept ++ flats (trims items cut (p ∷ ps) trees) → node ∷ rest ≡ flats trees
                → Trims items cut wanted (kept ++ node ∷ []) rest 0 ps
            go [] c w e = cc
            go (inner ts ∷ us) c w e =
                let is : node ≡ Inner (count_of ts) = cc in
                absurd (leaf (count_of ts) is)
            go (bound ∷ us) c w e = same Bound us c.1 w e
            go (left ∷ us) c w e = same Left us c.1 w e
            go (fail named ∷ us) c w e = same (Fail named) us c.1 w e

    -- at the end all is trimmed
    pub trims-end : (wanted kept : List Node) (skip : ℕ) (places : List (List ℕ))
        → Trims items cut wanted kept [] skip places → wanted ≡ kept
    trims-end wanted kept skip places h =
        let nothing : h.trees ≡ [] = no-trees h.trees (both_nil (flats h.passed) (flats h.trees) h.parts) in
        h.wanted_is ∙ ap (λ ts. kept ++ flats (trims items cut places ts)) nothing
        ∙ ap (λ ts. kept ++ flats ts) (trims-nil places) ∙ append-nil kept

    -- the whole tree is to be trimmed at first
    pub trims-start : (nodes : List Node) (p : List ℕ) (t : Plain)
        → flat t ≡ nodes → HasOptions items p t
        → Trims items cut (flat (trim items cut p t)) [] nodes 0 (p ∷ [])
    trims-start nodes p t is options = record {
      passed = [];
      trees = t ∷ [];
      parts = sym is ∙ sym (append-nil (flat t));
      skip_is = refl;
      options = (options, tt);
      wanted_is = sym (append-nil (flat (trim items cut p t)));
    }

-- a leaf is read at the option that comes next
pub trims-next_leaf : (items : List Item) (cut : List ℕ → Bool) (wanted kept kept' rest : List Node)
    (node : Node) (skip base : ℕ) (places : List (List ℕ)) (labels : List ℕ) (option : ℕ)
    → places ≡ agenda items base (labels ++ option ∷ []) true → base ≤ length labels
    → ((n : ℕ) → node ≡ Inner n → ⊥) → kept' ≡ kept ++ node ∷ [] → skip ≡ 0
    → Trims items cut wanted kept (node ∷ rest) skip places
    → Trims items cut wanted kept' rest skip (places_on items base labels (Some (option + 1)))
trims-next_leaf items cut wanted kept kept' rest node skip base places labels option next le leaf pushed nothing h =
    let p = labels ++ option ∷ [] in
    rw (pushed, nothing, back-places items base p labels option option refl refl le)
    (trims-leaf items cut wanted kept rest node p (places_left items base p) leaf (rw (nothing, next) at h))
