-- The search over one sender's items: what its tree shows, what it found, and how many nodes its tree has.
use Rattle.std.proofs.Common.{◌≡◌, ℕ, zero, suc, ◌+◌, ◌*◌, ◌^◌, ◌<◌, ◌≤◌, ◌⊎◌, inl, inr, ◌||◌, Bool, true, false, cond, List, [], ◌∷◌, ◌++◌, length, filter, All, Option, Some, None, nat_eq, nat_lt, Contains, refl, sym, ap, subst, ◌∙◌, arith}
use Rattle.std.proofs.lemmas.List.Elements.{All-contains_itself, All-filter, All-head}
use Rattle.pack_model.specs.declared.item.Item.{Item}
use Rattle.pack_model.specs.Problem.{Parts, IsProblem, sent_by}
use Rattle.class_frame.specs.Classes.{load_of}
use Rattle.class_frame.specs.Legal.{IsLegal}
use Rattle.grouping_tree.specs.Partial.{IsPartial, options_of}
use Rattle.grouping_tree.proofs.Fronts.{full-legal, legal-partial}
use Rattle.grouping_tree.proofs.Puts.{options-legal, some_option}
use Rattle.grouping_tree.proofs.Used.{partial-none}
use Rattle.cert_text.specs.Trees.{Plain, Plains, bound, fail, inner, left, more, none}
use Rattle.cert_text.specs.Written.{TreeFits}
use Rattle.bandwidth_bound.specs.Goals.{FailsIn, lemma_goal}
use Rattle.bandwidth_bound.specs.Prices.{lower8_of}
use Rattle.bandwidth_bound.specs.Trees.{EachStands, TreeStands}
use Rattle.bandwidth_bound.proofs.Loads.{loads_fit}
use Rattle.tree_search.specs.declared.finding.Finding.{Finding}
use Rattle.tree_search.specs.declared.finding.Finding.TheVariants.{Bounded, Failed, Complete, Parted}
use Rattle.tree_search.specs.declared.finding.Found.{Found}
use Rattle.tree_search.specs.Count.{place_count}
use Rattle.tree_search.specs.Open.{any_open, has_open, lefts, nodes_in, nodes_of, put_first, put_first_in}
use Rattle.tree_search.specs.Sound.{goal_of}
use Rattle.tree_search.specs.Step.{Searched, Step, Steps, best_after, found_after, leaf_after}
use Rattle.tree_search.specs.Trim.{reaches}
use Rattle.tree_search.proofs.Counts.{is_trimmed, nodes-le_places, nodes-trim}
use Rattle.tree_search.proofs.Firsts.{has_open-is, is_more}
use Rattle.tree_search.proofs.Standing.{has_options, stands-closed, stands-trim}
use Rattle.search_judge.specs.Findings.{Finds}
use Rattle.search_judge.proofs.Places.{closed_places, place_partial, tree_step}
use Rattle.plan_search.specs.Searches.{IsSearch, IsTrimmedIn, begun_with, trimmed}
use Rattle.plan_search.proofs.TreeFits.{few_in, small_in, standing_fits}

-- ---- nodes

nodes-by_test : (b : Bool) (u t t' : Plain) (ts ts' : Plains)
    → (b ≡ true → nodes_of t' ≡ nodes_of t + nodes_of u)
    → (any_open ts ≡ true → nodes_in ts' ≡ nodes_in ts + nodes_of u) → (b || any_open ts) ≡ true
    → nodes_in (cond b (more t' ts) (more t ts')) ≡ nodes_of t + nodes_in ts + nodes_of u
nodes-by_test true u t t' ts ts' f g e = omega (arith, f refl)
nodes-by_test false u t t' ts ts' f g e = omega (arith, g e)

mutual
  -- a tree in the place of the first open leaf brings its nodes
  pub nodes-put : (u t : Plain) → has_open t ≡ true → nodes_of (put_first u t) ≡ nodes_of t + nodes_of u
  nodes-put u (inner ts) e = omega (arith, nodes-put_in u ts e)
  nodes-put u bound e = absurd cc
  nodes-put u left e = omega arith
  nodes-put u (fail named) e = absurd cc

  nodes-put_in : (u : Plain) (ts : Plains) → any_open ts ≡ true
      → nodes_in (put_first_in u ts) ≡ nodes_in ts + nodes_of u
  nodes-put_in u none e = absurd cc
  nodes-put_in u (more t ts) e =
      nodes-by_test (has_open t) u t (put_first u t) ts (put_first_in u ts) (nodes-put u t)
      (nodes-put_in u ts) e

nodes-lefts : (n : ℕ) → nodes_in (lefts n) ≡ 0
nodes-lefts zero = refl
nodes-lefts (suc n) = omega (arith, nodes-lefts n)

-- what becomes of a leaf is one node
pub leaf-node : (finding : Finding) (n : ℕ) → nodes_of (leaf_after finding n) ≡ 1
leaf-node Bounded n = refl
leaf-node (Failed named) n = refl
leaf-node (Complete load order) n = refl
leaf-node Parted n = omega (arith, nodes-lefts n)

-- ---- the search over a sender's items

module _ (problem : Parts) (stands : IsProblem problem) (sender : ℕ) where
  abbrev own : List Item
  own = sent_by problem.items sender

  abbrev own8 : List ℕ → ℕ
  own8 = lower8_of problem [] own

  -- 8 times the load of a partial grouping fits 128 bits
  own-fits : (p : List ℕ) → IsPartial own p → 8 * load_of problem own p < 2 ^ 128
  own-fits p h =
      loads_fit problem stands own
      (All-filter (λ (item : Item). nat_eq item.sender sender) (Contains problem.items) problem.items
      (All-contains_itself problem.items)) p h (omega (arith, h.within, few_in problem stands (Some sender)))

  -- the best load is that of the grouping found, which is legal
  abbrev pub IsOfBest : Option Found → Option ℕ → Type 0
  IsOfBest None best = best ≡ None
  IsOfBest (Some found) best =
      (best ≡ Some found.load) × IsLegal own found.labels × (found.load ≡ load_of problem own found.labels)

  -- the search after so many steps
  record Sought (n : ℕ) (x : Searched) : Type 0 where
    pub nodes : nodes_of x.tree ≡ n
    pub tree : TreeStands (goal_of own own8 (FailsIn problem (Some sender)) true x.best) [] x.tree
    pub found : IsOfBest x.found x.best

  found-after : (finding : Finding) (p : List ℕ) (found : Option Found) (best : Option ℕ) → IsPartial own p
      → Finds problem (Some sender) [] best p finding → IsOfBest found best
      → IsOfBest (found_after finding p found) (best_after finding best)
  found-after Bounded p found best h f is = is
  found-after (Failed named) p found best h f is = is
  found-after (Complete load order) p found best h f is = (refl, full-legal own p f.2 h, f.3)
  found-after Parted p found best h f is = is

  sought-step : (n : ℕ) (x y : Searched) → Step (Finds problem (Some sender) []) own [] x y → Sought n x
      → Sought (n + 1) y
  sought-step n x y step at =
      let goal = goal_of own own8 (FailsIn problem (Some sender)) true x.best in
      let partial = place_partial problem stands (Some sender) [] [] (partial-none own) x y step at.tree in
      let leaf = leaf_after step.finding (length (options_of own step.place)) in
      let opens : has_open x.tree ≡ true = has_open-is goal [] x.tree at.tree ∙ ap is_more step.first in
      record {
        nodes = omega (
          arith,
          ap (λ (z : Searched). nodes_of z.tree) step.is,
          nodes-put leaf x.tree opens,
          leaf-node step.finding (length (options_of own step.place)),
          at.nodes,
        );
        tree = tree_step problem stands (Some sender) [] [] (partial-none own) x y step at.tree;
        found = subst (λ (z : Searched). IsOfBest z.found z.best) (sym step.is)
            (found-after step.finding step.place x.found x.best partial step.finds at.found);
      }

  sought-steps : (n : ℕ) (x y : Searched) → Steps (Finds problem (Some sender) []) own [] n x y → Sought 0 x
      → Sought n y
  sought-steps zero x y steps at = subst (Sought 0) (sym steps) at
  sought-steps (suc n) x y steps at =
      subst (λ m. Sought m y) (omega arith)
      (sought-step n steps.0 y steps.2 (sought-steps n x steps.0 steps.1 at))

  sought : (budget : ℕ) (end : Searched) (search : IsSearch problem (Some sender) [] None budget end)
      → Sought search.made end
  sought budget end search =
      sought-steps search.made (begun_with None) end search.steps
      (record { nodes = refl; tree = refl; found = refl })

  -- without a best no tree without open leaves stands
  mutual
    no-tree : (p : List ℕ) (t : Plain) → IsPartial own p
        → TreeStands (goal_of own own8 (FailsIn problem (Some sender)) false None) p t → ⊥
    no-tree p (inner ts) h s =
        no-trees p (options_of own p) ts (options-legal own p h) (some_option own p h s.0
        (small_in problem stands (Some sender))) s.1
    no-tree p bound h s = s
    no-tree p left h s = absurd cc
    no-tree p (fail named) h s = s

    no-trees : (p ls : List ℕ) (ts : Plains) → All (λ l. IsPartial own (p ++ l ∷ [])) ls → (ls ≡ [] → ⊥)
        → EachStands (goal_of own own8 (FailsIn problem (Some sender)) false None) p ls ts → ⊥
    no-trees p [] none h ne s = ne refl
    no-trees p [] (more t ts) h ne s = s
    no-trees p (l ∷ ls) none h ne s = s
    no-trees p (l ∷ ls) (more t ts) h ne s =
        no-tree (p ++ l ∷ []) t (All-head (λ l. IsPartial own (p ++ l ∷ [])) l ls h) s.0

  -- what a search that ended within its share gives: its best grouping, and the tree of the sender's lemma
  pub record Ended (share : ℕ) (found : Found) (tree : Plain) : Type 0 where
    pub legal : IsLegal own found.labels
    pub small : 8 * found.load < 2 ^ 128
    pub tree_stands : TreeStands (lemma_goal problem sender (8 * found.load)) [] tree
    pub is_trimmed : IsTrimmedIn problem (Some sender) [] (8 * found.load) tree
    pub within : nodes_of tree ≤ share
    pub counted : nodes_of tree ≤ place_count own (length own) []
    pub fits : TreeFits 0 tree

  module _ (share : ℕ) (end : Searched) (search : IsSearch problem (Some sender) [] None share end)
      (closed : has_open end.tree ≡ false) where
    -- with a best load the tree stands without open leaves
    closed-tree : (best : Option ℕ) → end.best ≡ best
        → TreeStands (goal_of own own8 (FailsIn problem (Some sender)) false best) [] end.tree
    closed-tree best e =
        let goal = goal_of own own8 (FailsIn problem (Some sender)) true best in
        let tree : TreeStands goal [] end.tree =
        subst (λ b. TreeStands (goal_of own own8 (FailsIn problem (Some sender)) true b) [] end.tree) e
        (sought share end search).tree in
        stands-closed goal [] end.tree (closed_places goal [] end.tree tree closed) tree

    -- it has found a grouping
    pub has-found : end.found ≡ None → ⊥
    has-found e =
        let is : IsOfBest None end.best = subst (λ f. IsOfBest f end.best) e
        (sought share end search).found in
        no-tree [] end.tree (partial-none own) (closed-tree None is)

    pub ended : (found : Found) → end.found ≡ Some found
        → Ended share found (trimmed problem (Some sender) [] (8 * found.load) end.tree)
    ended found e =
        let at = sought share end search in
        let is : IsOfBest (Some found) end.best = subst (λ f. IsOfBest f end.best) e at.found in
        let value = 8 * found.load in
        let cut = reaches own8 value in
        let goal = lemma_goal problem sender value in
        let tree = trimmed problem (Some sender) [] value end.tree in
        let it : TreeStands goal [] tree =
        stands-trim goal value refl [] end.tree (closed-tree (Some found.load) is.0) in
        let partial = legal-partial own found.labels is.1 in
        record {
          legal = is.1;
          small = omega (arith, is.2, own-fits found.labels partial);
          tree_stands = it;
          is_trimmed = is_trimmed own cut [] end.tree;
          within = omega (arith, nodes-trim own cut [] end.tree, at.nodes, search.within);
          counted = omega (
            arith,
            nodes-le_places own (length own) [] tree (omega arith) (has_options goal [] tree it),
          );
          fits = standing_fits problem stands (Some sender) [] (Some value) false tree it;
        }
