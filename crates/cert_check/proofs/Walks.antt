-- Walks over nodes, one after the other, and over the nodes of a tree.
use Rattle.std.proofs.Common.{◌≡◌, ◌<◌, ℕ, suc, Bool, true, false, List, [], ◌∷◌, ◌++◌, length, map, get_or, take, ◌+◌, Option, None, Some, refl, sym, ap, subst, ◌∙◌, arith, true≢false, append_assoc, min, fold, ◌≤◌}
use Rattle.std.proofs.lemmas.List.{flat_map_more, length-map, map-append, take_more}
use Rattle.std.proofs.lemmas.List.Folds.{flat_map-map}
use Rattle.std.specs.List.{flat_map}
use Rattle.class_frame.specs.Frame.{least}
use Rattle.cert_text.specs.PlainTree.{onto}
use Rattle.cert_text.specs.Trees.{Plain, Plains, bound, fail, inner, left, more, none}
use Rattle.response_test.specs.declared.evidence.Evidence.{Evidence}
use Rattle.grouping_tree.specs.Partial.{options_of}
use Rattle.bandwidth_bound.specs.Trees.{Goal, TreeStands, EachStands, open_places, open_places_each}
use Rattle.cert_check.specs.Nodes.{Node, inner_node, bound_leaf, open_leaf, fail_leaf, count_trees, nodes_of, nodes_of_each, places_of, bounds_at, NodesStand, places_after_nodes, bounds_of, lowered, Way, Takes, TakesTree}

-- ---- nodes and then further ones

module _ (goal : Goal) where
  -- all stand where the first ones stand, and the further ones where those leave off
  pub stand_append : (places : List (List ℕ)) (ns ms : List Node) → NodesStand goal places ns
      → NodesStand goal (places_after_nodes goal places ns) ms → NodesStand goal places (ns ++ ms)
  unfolding NodesStand places_after_nodes
  stand_append places [] ms a b = b
  stand_append [] (n ∷ ns) ms a b = absurd a
  stand_append (p ∷ places) (n ∷ ns) ms a b = (a.0, stand_append (places_of goal p n ++ places) ns ms a.1 b)

  -- and conversely
  pub stand_first : (places : List (List ℕ)) (ns ms : List Node) → NodesStand goal places (ns ++ ms)
      → NodesStand goal places ns
  unfolding NodesStand
  stand_first places [] ms a = tt
  stand_first [] (n ∷ ns) ms a = absurd a
  stand_first (p ∷ places) (n ∷ ns) ms a = (a.0, stand_first (places_of goal p n ++ places) ns ms a.1)

  pub stand_further : (places : List (List ℕ)) (ns ms : List Node) → NodesStand goal places (ns ++ ms)
      → NodesStand goal (places_after_nodes goal places ns) ms
  unfolding NodesStand places_after_nodes
  stand_further places [] ms a = a
  stand_further [] (n ∷ ns) ms a = absurd a
  stand_further (p ∷ places) (n ∷ ns) ms a = stand_further (places_of goal p n ++ places) ns ms a.1

  pub after_append : (places : List (List ℕ)) (ns ms : List Node) → NodesStand goal places ns
      → places_after_nodes goal places (ns ++ ms)
      ≡ places_after_nodes goal (places_after_nodes goal places ns) ms
  unfolding NodesStand places_after_nodes
  after_append places [] ms a = refl
  after_append [] (n ∷ ns) ms a = absurd a
  after_append (p ∷ places) (n ∷ ns) ms a = after_append (places_of goal p n ++ places) ns ms a.1

  pub bounds_append : (places : List (List ℕ)) (ns ms : List Node) → NodesStand goal places ns
      → bounds_of goal places (ns ++ ms) ≡ bounds_of goal places ns
      ++ bounds_of goal (places_after_nodes goal places ns) ms
  unfolding NodesStand places_after_nodes bounds_of
  bounds_append places [] ms a = refl
  bounds_append [] (n ∷ ns) ms a = absurd a
  bounds_append (p ∷ places) (n ∷ ns) ms a =
      ap (λ xs. bounds_at goal p n ++ xs) (bounds_append (places_of goal p n ++ places) ns ms a.1)
      ∙ sym (append_assoc (bounds_at goal p n) (bounds_of goal (places_of goal p n ++ places) ns)
      (bounds_of goal (places_after_nodes goal (places_of goal p n ++ places) ns) ms))

pub lowered_append : (o : Option ℕ) (xs ys : List ℕ) → lowered o (xs ++ ys) ≡ lowered (lowered o xs) ys
lowered_append o [] ys = refl
lowered_append None (x ∷ xs) ys = lowered_append (Some x) xs ys
lowered_append (Some n) (x ∷ xs) ys = lowered_append (Some (min n x)) xs ys

-- ---- a walk that takes nodes and then further ones

module _ (goal : Goal) where
  -- no nodes
  pub takes_none : (way : Way) → Takes goal way way []
  unfolding NodesStand places_after_nodes bounds_of
  takes_none way = record {
    stays = λ e. e;
    fails = λ e f. absurd (true≢false (sym f ∙ e));
    stands = λ e. tt;
    places = λ e. refl;
    least = λ e. refl;
  }

  -- one that has failed takes any further ones
  pub takes_failed : (before after : Way) (ns ms : List Node) → after.failed ≡ true
      → Takes goal before after ns → Takes goal before after (ns ++ ms)
  takes_failed before after ns ms e a = record {
    stays = λ f. e;
    fails = λ f g s. a.fails f g (stand_first goal before.places ns ms s);
    stands = λ f. absurd (true≢false (sym e ∙ f));
    places = λ f. absurd (true≢false (sym e ∙ f));
    least = λ f. absurd (true≢false (sym e ∙ f));
  }

  pub takes_append : (before between now : Way) (ns ms : List Node) → Takes goal before between ns
      → Takes goal between now ms → Takes goal before now (ns ++ ms)
  takes_append before between now ns ms a b = by between.failed refl
    where
      by : (failed : Bool) → between.failed ≡ failed → Takes goal before now (ns ++ ms)
      by true e = record {
        stays = λ f. b.stays e;
        fails = λ f g s. a.fails f e (stand_first goal before.places ns ms s);
        stands = λ f. absurd (true≢false (sym (b.stays e) ∙ f));
        places = λ f. absurd (true≢false (sym (b.stays e) ∙ f));
        least = λ f. absurd (true≢false (sym (b.stays e) ∙ f));
      }
      by false e =
          let first : NodesStand goal before.places ns = a.stands e in record {
            stays = λ f. absurd (true≢false (sym (a.stays f) ∙ e));
            fails =
                λ f g s. b.fails e g (subst (λ ps. NodesStand goal ps ms) (sym (a.places e))
                (stand_further goal before.places ns ms s));
            stands =
                λ f. stand_append goal before.places ns ms first
                (subst (λ ps. NodesStand goal ps ms) (a.places e) (b.stands f));
            places = λ f. b.places f ∙ ap (λ ps. places_after_nodes goal ps ms) (a.places e)
                ∙ sym (after_append goal before.places ns ms first);
            least = λ f.
                b.least f ∙ ap (λ ps. lowered between.least (bounds_of goal ps ms)) (a.places e)
                ∙ ap (λ o. lowered o (bounds_of goal (places_after_nodes goal before.places ns) ms))
                (a.least e)
                ∙ sym (lowered_append before.least (bounds_of goal before.places ns)
                (bounds_of goal (places_after_nodes goal before.places ns) ms))
                ∙ ap (lowered before.least) (sym (bounds_append goal before.places ns ms first));
          }

  -- and what took it over the further ones alone
  pub takes_further : (before between now : Way) (ns ms : List Node) → before.failed ≡ false
      → between.failed ≡ false → Takes goal before between ns → Takes goal before now (ns ++ ms)
      → Takes goal between now ms
  takes_further before between now ns ms well e a b =
      let first : NodesStand goal before.places ns = a.stands e in record {
        stays = λ f. absurd (true≢false (sym f ∙ e));
        fails = λ f g s. b.fails well g (stand_append goal before.places ns ms first
            (subst (λ ps. NodesStand goal ps ms) (a.places e) s));
        stands = λ f.
            subst (λ ps. NodesStand goal ps ms) (sym (a.places e))
            (stand_further goal before.places ns ms (b.stands f));
        places = λ f. b.places f ∙ after_append goal before.places ns ms first
            ∙ ap (λ ps. places_after_nodes goal ps ms) (sym (a.places e));
        least = λ f.
            b.least f ∙ ap (lowered before.least) (bounds_append goal before.places ns ms first)
            ∙ lowered_append before.least (bounds_of goal before.places ns)
            (bounds_of goal (places_after_nodes goal before.places ns) ms)
            ∙ ap (λ o. lowered o (bounds_of goal (places_after_nodes goal before.places ns) ms))
            (sym (a.least e))
            ∙ ap (λ ps. lowered between.least (bounds_of goal ps ms)) (sym (a.places e));
      }

-- the nodes of one more element of a list
pub more_nodes : {X : Type 0} (f : X → List Node) (first : List Node) (xs : List X) (i : ℕ) (x : X)
    → i < length xs → x ≡ get_or xs i x
    → first ++ flat_map f (take i xs) ++ f x ≡ first ++ flat_map f (take (i + 1) xs)
more_nodes f first xs i x lt is =
    append_assoc first (flat_map f (take i xs)) (f x)
    ∙ ap (λ ns. first ++ ns)
    (flat_map_more f [] (take i xs) x
    ∙ ap (flat_map f) (ap (λ y. take i xs ++ y ∷ []) is ∙ sym (take_more xs i x lt)))

-- ---- the nodes of a tree

-- the nodes of a list of trees
count_onto : (ts : List Plain) → count_trees (onto ts none) ≡ length ts
count_onto [] = refl
count_onto (t ∷ ts) = ap suc (count_onto ts)

each_onto : (ts : List Plain) → nodes_of_each (onto ts none) ≡ flat_map nodes_of ts
unfolding nodes_of_each
each_onto [] = refl
each_onto (t ∷ ts) = ap (λ ns. nodes_of t ++ ns) (each_onto ts)

pub nodes_of_inner : {T : Type 0} (plain : T → Plain) (ts : List T)
    → nodes_of (inner (onto (map plain ts) none))
    ≡ inner_node (length ts) ∷ flat_map (λ t. nodes_of (plain t)) ts
unfolding nodes_of
nodes_of_inner plain ts =
    ap (λ n. inner_node n ∷ nodes_of_each (onto (map plain ts) none))
    (count_onto (map plain ts) ∙ length-map ts plain)
    ∙ ap (λ ns. inner_node (length ts) ∷ ns) (each_onto (map plain ts) ∙ flat_map-map nodes_of plain ts)

pub nodes_of_bound : nodes_of bound ≡ bound_leaf ∷ []
unfolding nodes_of
nodes_of_bound = refl

pub nodes_of_left : nodes_of left ≡ open_leaf ∷ []
unfolding nodes_of
nodes_of_left = refl

pub nodes_of_fail : (named : List (ℕ × Evidence)) → nodes_of (fail named) ≡ fail_leaf named ∷ []
unfolding nodes_of
nodes_of_fail named = refl

module _ (goal : Goal) where
  -- the place with each of some labels put
  abbrev put_each : List ℕ → List ℕ → List (List ℕ)
  put_each p labels = map (λ label. p ++ label ∷ []) labels

  each_count : (p : List ℕ) (labels : List ℕ) (ts : Plains) → EachStands goal p labels ts
      → count_trees ts ≡ length labels
  each_count p [] none h = refl
  each_count p [] (more t ts) h = absurd h
  each_count p (label ∷ labels) none h = absurd h
  each_count p (label ∷ labels) (more t ts) h = ap suc (each_count p labels ts h.1)

  -- the nodes of a tree stand, leave off where the places go on, and have its open leaves
  pub record TreeWalked (p : List ℕ) (rest : List (List ℕ)) (t : Plain) : Type 0 where
    pub stand : NodesStand goal (p ∷ rest) (nodes_of t)
    pub after : places_after_nodes goal (p ∷ rest) (nodes_of t) ≡ rest
    pub opens : bounds_of goal (p ∷ rest) (nodes_of t) ≡ map goal.lower8 (open_places goal.items p t)

  pub record EachWalked (p labels : List ℕ) (rest : List (List ℕ)) (ts : Plains) : Type 0 where
    pub stand : NodesStand goal (put_each p labels ++ rest) (nodes_of_each ts)
    pub after : places_after_nodes goal (put_each p labels ++ rest) (nodes_of_each ts) ≡ rest
    pub opens : bounds_of goal (put_each p labels ++ rest) (nodes_of_each ts)
        ≡ map goal.lower8 (open_places_each goal.items p labels ts)

  mutual
    unfolding nodes_of nodes_of_each NodesStand places_after_nodes bounds_of

    -- where the tree stands
    pub walked : (p : List ℕ) (rest : List (List ℕ)) (t : Plain) → TreeStands goal p t → TreeWalked p rest t
    walked p rest (inner ts) h =
        let each : EachWalked p (options_of goal.items p) rest ts =
        walked_each p (options_of goal.items p) rest ts h.1 in record {
          stand = ((h.0, each_count p (options_of goal.items p) ts h.1), each.stand);
          after = each.after;
          opens = each.opens;
        }
    walked p rest bound h = record { stand = (h, tt); after = refl; opens = refl }
    walked p rest left h = record { stand = (h, tt); after = refl; opens = refl }
    walked p rest (fail named) h = record { stand = (h, tt); after = refl; opens = refl }

    walked_each : (p labels : List ℕ) (rest : List (List ℕ)) (ts : Plains) → EachStands goal p labels ts
        → EachWalked p labels rest ts
    walked_each p [] rest none h = record { stand = tt; after = refl; opens = refl }
    walked_each p [] rest (more t ts) h = absurd h
    walked_each p (label ∷ labels) rest none h = absurd h
    walked_each p (label ∷ labels) rest (more t ts) h =
        let here : List ℕ = p ++ label ∷ [] in
        let later : List (List ℕ) = put_each p labels ++ rest in
        let one : TreeWalked here later t = walked here later t h.0 in
        let each : EachWalked p labels rest ts = walked_each p labels rest ts h.1 in record {
          stand =
              stand_append goal (here ∷ later) (nodes_of t) (nodes_of_each ts) one.stand
              (subst (λ ps. NodesStand goal ps (nodes_of_each ts)) (sym one.after) each.stand);
          after = after_append goal (here ∷ later) (nodes_of t) (nodes_of_each ts) one.stand
              ∙ ap (λ ps. places_after_nodes goal ps (nodes_of_each ts)) one.after ∙ each.after;
          opens =
              bounds_append goal (here ∷ later) (nodes_of t) (nodes_of_each ts) one.stand
              ∙ ap (λ ps. bounds_of goal (here ∷ later) (nodes_of t) ++ bounds_of goal ps (nodes_of_each ts))
              one.after
              ∙ ap (λ xs. xs ++ bounds_of goal later (nodes_of_each ts)) one.opens
              ∙ ap (λ xs. map goal.lower8 (open_places goal.items here t) ++ xs) each.opens
              ∙ sym (map-append goal.lower8 (open_places goal.items here t)
              (open_places_each goal.items p labels ts));
        }

  mutual
    unfolding nodes_of nodes_of_each NodesStand

    -- a tree whose nodes stand stands
    pub stood : (p : List ℕ) (rest : List (List ℕ)) (t : Plain) → NodesStand goal (p ∷ rest) (nodes_of t)
        → TreeStands goal p t
    stood p rest (inner ts) h = (h.0.0, stood_each p (options_of goal.items p) rest ts h.0.1 h.1)
    stood p rest bound h = h.0
    stood p rest left h = h.0
    stood p rest (fail named) h = h.0

    stood_each : (p labels : List ℕ) (rest : List (List ℕ)) (ts : Plains) → count_trees ts ≡ length labels
        → NodesStand goal (put_each p labels ++ rest) (nodes_of_each ts) → EachStands goal p labels ts
    stood_each p [] rest none e h = tt
    stood_each p [] rest (more t ts) e h = absurd (omega (arith, e))
    stood_each p (label ∷ labels) rest none e h = absurd (omega (arith, e))
    stood_each p (label ∷ labels) rest (more t ts) e h =
        let here : List ℕ = p ++ label ∷ [] in
        let later : List (List ℕ) = put_each p labels ++ rest in
        let one : TreeStands goal here t =
        stood here later t (stand_first goal (here ∷ later) (nodes_of t) (nodes_of_each ts) h) in (
          one,
          stood_each p labels rest ts (omega (arith, e))
              (subst (λ ps. NodesStand goal ps (nodes_of_each ts)) (walked here later t one).after
              (stand_further goal (here ∷ later) (nodes_of t) (nodes_of_each ts) h)),
        )

-- ---- a walk over a whole tree

-- the least of some numbers, as a walk finds it
pub lowered_some : (n : ℕ) (xs : List ℕ) → lowered (Some n) xs ≡ Some (fold min n xs)
lowered_some n [] = refl
lowered_some n (x ∷ xs) = lowered_some (min n x) xs

pub lowered_least : (xs : List ℕ) → 1 ≤ length xs → lowered None xs ≡ Some (least xs)
lowered_least [] some = absurd (omega arith)
lowered_least (x ∷ xs) some = lowered_some x xs

pub lowered_some_of : (xs : List ℕ) (n : ℕ) → lowered None xs ≡ Some n → 1 ≤ length xs
lowered_some_of [] n e = absurd cc
lowered_some_of (x ∷ xs) n e = omega arith

pub lowered_none : (xs : List ℕ) → lowered None xs ≡ None → ¬ (1 ≤ length xs)
lowered_none xs empty some = let e : Some (least xs) ≡ None = sym (lowered_least xs some) ∙ empty in absurd cc

-- a tree took a walk from a place
pub takes_tree : (goal : Goal) (p : List ℕ) (rest : List (List ℕ)) (before after : Way) (tree : Plain)
    → before.failed ≡ false → before.places ≡ p ∷ rest → Takes goal before after (nodes_of tree)
    → TakesTree goal p rest before after tree
takes_tree goal p rest before after tree well at takes = record {
  fails = λ failed stands.
      takes.fails well failed (subst (λ ps. NodesStand goal ps (nodes_of tree)) (sym at)
      (walked goal p rest tree stands).stand);
  stands = here;
  places = λ e.
      takes.places e ∙ ap (λ ps. places_after_nodes goal ps (nodes_of tree)) at
      ∙ (walked goal p rest tree (here e)).after;
  least = λ e.
      takes.least e ∙ ap (λ ps. lowered before.least (bounds_of goal ps (nodes_of tree))) at
      ∙ ap (lowered before.least) (walked goal p rest tree (here e)).opens;
}
  where
    here : after.failed ≡ false → TreeStands goal p tree
    here e = stood goal p rest tree (subst (λ ps. NodesStand goal ps (nodes_of tree)) at (takes.stands e))
