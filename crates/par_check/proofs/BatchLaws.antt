-- Shards and the holes in whose place they stand.
use Rattle.std.proofs.Common.{◌≡◌, ℕ, List, [], ◌∷◌, ◌++◌, length, map, All, Option, None, Some, Ok, refl, sym, ap, subst, ◌∙◌, append_assoc, append-nil}
use Rattle.std.specs.List.{AllByRecursion, flat_map}
use Rattle.std.proofs.Math.Seq.{drop-append_seam}
use Rattle.std.proofs.lemmas.Grind.{flat_map-append}
use Rattle.std.proofs.lemmas.List.{map-append}
use Rattle.std.proofs.lemmas.List.Elements.{All-append, All-drop, All-from_recursion, All-nil, All-push, recursion_from_All}
use Rattle.pack_model.specs.Problem.{Parts}
use Rattle.cert_text.specs.PlainTree.{plain_of}
use Rattle.cert_text.specs.Trees.{Plain}
use Rattle.bandwidth_bound.specs.Prices.{lower8_of}
use Rattle.bandwidth_bound.specs.Trees.{TreeStands, open_places}
use Rattle.cert_check.specs.declared.cert_walk.CertWalk.{CertWalk}
use Rattle.cert_check.specs.declared.walk.Aim.{Aim}
use Rattle.cert_check.specs.Holes.{Hole, HoleStands, bounds_in_hole, bounds_over}
use Rattle.cert_check.specs.Joined.{IsAimed, aim_in}
use Rattle.cert_check.specs.Nodes.{lowered}
use Rattle.cert_check.specs.Walk.{goal_of, values_in}
use Rattle.cert_check.proofs.Walks.{lowered_append}
use Rattle.par_check.specs.declared.shard.Shard.{Shard}
use Rattle.par_check.specs.Shards.{AreFound, IsShard, ShardStands, bounds_left, bounds_of_shard, goal_at, lesser}
use Rattle.par_check.specs.ShardWalks.{KnowsHoles, goal_by, of_hole, of_shard}
use Rattle.par_check.proofs.ShardLaws.{lesser_lowered, told}

module _ (problem : Parts) (walk : CertWalk) where
  -- what a tree at such a place is to show, and what of its open leaves
  abbrev StandsAt : Option ℕ × List ℕ × Plain → Type 0
  StandsAt at = TreeStands (told problem (goal_by walk) at.0) at.1 at.2

  aimed_stands : (range : Option ℕ) (aim : Aim) (values p : List ℕ) (tree : Plain) → aim ≡ aim_in walk range
      → values ≡ values_in range walk.walk.values.items
      → TreeStands (goal_of problem values aim) p tree ≡ TreeStands (told problem (goal_by walk) range) p tree
  aimed_stands None aim values p tree same used =
      λ i. TreeStands (goal_of problem (used i) (same i)) p tree
  aimed_stands (Some sender) aim values p tree same used =
      λ i. TreeStands (goal_of problem (used i) (same i)) p tree

  shard_stands : (lemma : Option ℕ) (p : List ℕ) (tree : Plain)
      → TreeStands (told problem (goal_by walk) lemma) p tree → TreeStands (goal_at problem (goal_by walk) lemma) p tree
  shard_stands None p tree stands = stands
  shard_stands (Some sender) p tree stands = stands

  stands_shard : (lemma : Option ℕ) (p : List ℕ) (tree : Plain)
      → TreeStands (goal_at problem (goal_by walk) lemma) p tree → TreeStands (told problem (goal_by walk) lemma) p tree
  stands_shard None p tree stands = stands
  stands_shard (Some sender) p tree stands = stands

  -- a shard stands where the hole stands in whose place it is
  to_shard : (hole : Hole) (shard : Shard) → of_hole hole ≡ of_shard shard → IsAimed walk hole
      → HoleStands problem hole → ShardStands problem (goal_by walk) shard
  to_shard hole shard same aimed stands =
      shard_stands shard.lemma shard.path (plain_of shard.tree)
      (subst StandsAt same
      (subst (λ (T : Type 0). T)
      (aimed_stands hole.aim.range hole.aim hole.values hole.place hole.tree aimed.0 aimed.1) stands))

  to_hole : (hole : Hole) (shard : Shard) → of_hole hole ≡ of_shard shard → IsAimed walk hole
      → ShardStands problem (goal_by walk) shard → HoleStands problem hole
  to_hole hole shard same aimed stands =
      subst (λ (T : Type 0). T)
      (sym (aimed_stands hole.aim.range hole.aim hole.values hole.place hole.tree aimed.0 aimed.1))
      (subst StandsAt (sym same) (stands_shard shard.lemma shard.path (plain_of shard.tree) stands))

  -- the bounds at the open leaves of both are the same
  hole_bounds : (range : Option ℕ) (hole : Hole) → hole.values ≡ values_in range walk.walk.values.items
      → bounds_over problem range hole
      ≡ bounds_left problem (goal_by walk) range (open_places problem.items hole.place hole.tree)
  hole_bounds None hole used =
      ap (λ values. map (lower8_of problem values problem.items) (open_places problem.items hole.place hole.tree)) used
  hole_bounds (Some sender) hole used = refl

  same_bounds : (hole : Hole) (shard : Shard) → of_hole hole ≡ of_shard shard → IsAimed walk hole
      → bounds_in_hole problem hole ≡ bounds_of_shard problem (goal_by walk) shard
  same_bounds hole shard same aimed =
      hole_bounds hole.aim.range hole aimed.1
      ∙ ap (λ (at : Option ℕ × List ℕ × Plain).
      bounds_left problem (goal_by walk) at.0 (open_places problem.items at.1 at.2)) same

  -- ---- of all shards

  each_shard : (holes : List Hole) (shards : List Shard) → map of_hole holes ≡ map of_shard shards
      → AllByRecursion (IsAimed walk) holes → AllByRecursion (HoleStands problem) holes
      → AllByRecursion (ShardStands problem (goal_by walk)) shards
  each_shard holes [] same aimed stand = tt
  each_shard [] (shard ∷ shards) same aimed stand = absurd cc
  each_shard (hole ∷ holes) (shard ∷ shards) same aimed stand =
      let here : of_hole hole ≡ of_shard shard = cc in
      let rest : map of_hole holes ≡ map of_shard shards = cc in (
        to_shard hole shard here aimed.0 stand.0,
        each_shard holes shards rest aimed.1 stand.1,
      )

  each_hole : (holes : List Hole) (shards : List Shard) → map of_hole holes ≡ map of_shard shards
      → AllByRecursion (IsAimed walk) holes → AllByRecursion (ShardStands problem (goal_by walk)) shards
      → AllByRecursion (HoleStands problem) holes
  each_hole [] shards same aimed stand = tt
  each_hole (hole ∷ holes) [] same aimed stand = absurd cc
  each_hole (hole ∷ holes) (shard ∷ shards) same aimed stand =
      let here : of_hole hole ≡ of_shard shard = cc in
      let rest : map of_hole holes ≡ map of_shard shards = cc in (
        to_hole hole shard here aimed.0 stand.0,
        each_hole holes shards rest aimed.1 stand.1,
      )

  all_bounds : (holes : List Hole) (shards : List Shard) → map of_hole holes ≡ map of_shard shards
      → AllByRecursion (IsAimed walk) holes
      → flat_map (bounds_in_hole problem) holes ≡ flat_map (bounds_of_shard problem (goal_by walk)) shards
  all_bounds [] [] same aimed = refl
  all_bounds [] (shard ∷ shards) same aimed = absurd cc
  all_bounds (hole ∷ holes) [] same aimed = absurd cc
  all_bounds (hole ∷ holes) (shard ∷ shards) same aimed =
      let here : of_hole hole ≡ of_shard shard = cc in
      let rest : map of_hole holes ≡ map of_shard shards = cc in
      ap (λ bounds. bounds ++ flat_map (bounds_in_hole problem) holes) (same_bounds hole shard here aimed.0)
      ∙ ap (λ bounds. bounds_of_shard problem (goal_by walk) shard ++ bounds)
      (all_bounds holes shards rest aimed.1)

  -- ---- the holes that are known

  latter : {X : Type 0} (P : X → Type 0) (first others all : List X) → all ≡ first ++ others → All P all
      → All P others
  latter P first others all both holds =
      subst (All P) (drop-append_seam first others)
      (All-drop P (length first) (first ++ others) (subst (All P) both holds))

  module _ (lower : Option ℕ) (batch : List Shard) (holes : List Hole)
      (knows : KnowsHoles problem lower batch holes) (aimed : All (IsAimed walk) holes) where
    waiting_aimed : AllByRecursion (IsAimed walk) knows.waiting
    waiting_aimed =
        recursion_from_All (IsAimed walk) knows.waiting
        (latter (IsAimed walk) knows.judged knows.waiting holes knows.both aimed)

    -- where the shards of the batch stand
    pub batch_stands : (found : Option ℕ) → AreFound problem (goal_by walk) batch (Ok found)
        → KnowsHoles problem (lesser lower found) [] holes
    batch_stands found stands =
        let judged : List ℕ = flat_map (bounds_in_hole problem) knows.judged in
        let waiting : List ℕ = flat_map (bounds_in_hole problem) knows.waiting in record {
          judged = holes;
          waiting = [];
          both = sym (append-nil holes);
          stand =
              subst (All (HoleStands problem)) (sym knows.both)
              (All-append (HoleStands problem) knows.judged knows.waiting knows.stand
              (All-from_recursion (HoleStands problem) knows.waiting
              (each_hole knows.waiting batch knows.shards waiting_aimed
              (recursion_from_All (ShardStands problem (goal_by walk)) batch stands.0))));
          least =
              ap (lesser lower)
              (stands.1 ∙ ap (lowered None) (sym (all_bounds knows.waiting batch knows.shards waiting_aimed)))
              ∙ lesser_lowered lower waiting
              ∙ ap (λ o. lowered o waiting) knows.least
              ∙ sym (lowered_append None judged waiting)
              ∙ ap (lowered None) (sym (flat_map-append (bounds_in_hole problem) knows.judged knows.waiting))
              ∙ ap (λ hs. lowered None (flat_map (bounds_in_hole problem) hs)) (sym knows.both);
          shards = refl;
          legal = All-nil (IsShard problem);
        }

    -- and where some don't
    pub batch_falls : ¬ All (ShardStands problem (goal_by walk)) batch → ¬ All (HoleStands problem) holes
    batch_falls falls stand =
        falls (All-from_recursion (ShardStands problem (goal_by walk)) batch
        (each_shard knows.waiting batch knows.shards waiting_aimed
        (recursion_from_All (HoleStands problem) knows.waiting
        (latter (HoleStands problem) knows.judged knows.waiting holes knows.both stand))))

  -- one shard more
  pub shard_more : (lower : Option ℕ) (batch : List Shard) (holes : List Hole) (shard : Shard) (hole : Hole)
      → KnowsHoles problem lower batch holes → of_hole hole ≡ of_shard shard → IsShard problem shard
      → KnowsHoles problem lower (batch ++ shard ∷ []) (holes ++ hole ∷ [])
  shard_more lower batch holes shard hole knows same legal = record {
    judged = knows.judged;
    waiting = knows.waiting ++ hole ∷ [];
    both = ap (λ hs. hs ++ hole ∷ []) knows.both ∙ append_assoc knows.judged knows.waiting (hole ∷ []);
    stand = knows.stand;
    least = knows.least;
    shards =
        map-append of_hole knows.waiting (hole ∷ []) ∙ ap (λ xs. xs ++ of_hole hole ∷ []) knows.shards
        ∙ ap (λ x. map of_shard batch ++ x ∷ []) same ∙ sym (map-append of_shard batch (shard ∷ []));
    legal = All-push (IsShard problem) batch shard knows.legal legal;
  }
