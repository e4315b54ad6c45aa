-- What is found of one shard after the other.
use Rattle.std.proofs.Common.{◌≡◌, ◌<◌, ◌+◌, ℕ, List, [], ◌∷◌, ◌++◌, length, map, min, get_or, take, Option, None, Some, Result, Ok, Err, refl, sym, ap, subst, ◌∙◌, arith, append-nil}
use Rattle.std.specs.List.{flat_map}
use Rattle.std.proofs.lemmas.Grind.{flat_map-append}
use Rattle.std.proofs.lemmas.List.{take_more}
use Rattle.std.proofs.lemmas.List.Elements.{All-more}
use Rattle.pack_model.specs.Problem.{Parts}
use Rattle.cert_text.specs.PlainTree.{plain_of}
use Rattle.cert_text.specs.Trees.{Plain}
use Rattle.bandwidth_bound.specs.Trees.{Goal as ToShow, TreeStands, open_places}
use Rattle.bandwidth_bound.proofs.TreeClaims.{none_open}
use Rattle.cert_check.specs.Nodes.{lowered}
use Rattle.cert_check.specs.Subtree.{IsFoundAt}
use Rattle.cert_check.specs.Walk.{goal_of, values_in}
use Rattle.cert_check.specs.declared.walk.Aim.{Aim}
use Rattle.cert_check.specs.declared.fault.CheckFault.{CheckFault}
use Rattle.cert_check.specs.declared.fault.CheckFault.TheVariants as fault
use Rattle.cert_check.proofs.Walks.{lowered_append}
use Rattle.par_check.specs.Aims.{aim_at}
use Rattle.par_check.specs.Shards.{AreFound, ShardStands, bounds_left, bounds_of_shard, goal_at, lesser}
use Rattle.par_check.specs.declared.shard.Goal.{Goal}
use Rattle.par_check.specs.declared.shard.Shard.{Shard}

-- ---- the least of numbers

lesser_lowered_some : (n m : ℕ) (xs : List ℕ) → lesser (Some n) (lowered (Some m) xs) ≡ lowered (Some (min n m)) xs
lesser_lowered_some n m [] = refl
lesser_lowered_some n m (x ∷ xs) =
    lesser_lowered_some n (min m x) xs
    ∙ ap (λ k. lowered (Some k) xs) (let e : min n (min m x) ≡ min (min n m) x = omega arith in e)

-- the lesser of what was the least before and of the least of some numbers
pub lesser_lowered : (o : Option ℕ) (xs : List ℕ) → lesser o (lowered None xs) ≡ lowered o xs
lesser_lowered None xs = refl
lesser_lowered (Some n) [] = refl
lesser_lowered (Some n) (x ∷ xs) = lesser_lowered_some n x xs

-- ---- one shard

module _ (problem : Parts) (goal : Goal) where
  -- what the judge of trees is told to show
  abbrev pub told : Option ℕ → ToShow
  told lemma = goal_of problem (values_in (aim_at goal lemma).range goal.lemmas) (aim_at goal lemma)

  -- a tree that the judge finds to stand
  pub shown_at : (lemma : Option ℕ) (p : List ℕ) (tree : Plain) (least : Option ℕ)
      → IsFoundAt (told lemma) p tree (Ok least)
      → TreeStands (goal_at problem goal lemma) p tree
      × (least ≡ lowered None (bounds_left problem goal lemma (open_places problem.items p tree)))
  shown_at None p tree least found = found
  shown_at (Some sender) p tree least found = (
    found.0,
    found.1 ∙ ap (λ places. lowered None (map (told (Some sender)).lower8 places))
        (none_open (told (Some sender)) refl p tree found.0),
  )

  -- and one that it finds not to
  pub denied_at : (lemma : Option ℕ) (p : List ℕ) (tree : Plain)
      → IsFoundAt (told lemma) p tree (Err fault.RejectedTree) → ¬ TreeStands (goal_at problem goal lemma) p tree
  denied_at None p tree found = found
  denied_at (Some sender) p tree found = found

  -- what the judge finds where it is told so
  pub told_at : (lemma : Option ℕ) (aim : Aim) (place p : List ℕ) (tree : Plain)
      (answer : Result (Option ℕ) CheckFault) → aim ≡ aim_at goal lemma → place ≡ p
      → IsFoundAt (goal_of problem (values_in aim.range goal.lemmas) aim) place tree answer
      → IsFoundAt (told lemma) p tree answer
  told_at lemma aim place p tree answer same at found =
      subst (λ q. IsFoundAt (told lemma) q tree answer) at
      (subst (λ (a : Aim). IsFoundAt (goal_of problem (values_in a.range goal.lemmas) a) place tree answer) same
      found)

  -- ---- one shard after the other

  module _ (shards : List Shard) (i : ℕ) (shard : Shard) (inside : i < length shards)
      (is : shard ≡ get_or shards i shard) where
    -- a fault at a shard
    pub fails_at : (why : CheckFault) → IsFoundAt (told shard.lemma) shard.path (plain_of shard.tree) (Err why)
        → AreFound problem goal shards (Err why)
    fails_at fault.RejectedMatrix found = found
    fails_at fault.RejectedTiming found = found
    fails_at fault.RejectedTree found = λ all.
        denied_at shard.lemma shard.path (plain_of shard.tree) found
        (subst (ShardStands problem goal) (sym is) (all i shard inside))
    fails_at fault.Memory found = tt

    -- one more that stands
    pub stand_more : (before now found : Option ℕ) → AreFound problem goal (take i shards) (Ok before)
        → IsFoundAt (told shard.lemma) shard.path (plain_of shard.tree) (Ok found) → now ≡ lesser before found
        → AreFound problem goal (take (i + 1) shards) (Ok now)
    stand_more before now found so_far here least =
        let shown = shown_at shard.lemma shard.path (plain_of shard.tree) found here in
        let bounds : List ℕ = bounds_of_shard problem goal shard in
        let earlier : List ℕ = flat_map (bounds_of_shard problem goal) (take i shards) in
        let more : take i shards ++ shard ∷ [] ≡ take (i + 1) shards =
        ap (λ s. take i shards ++ s ∷ []) is ∙ sym (take_more shards i shard inside) in (
          All-more (ShardStands problem goal) shards i shard inside so_far.0
              (subst (ShardStands problem goal) is shown.0),
          least ∙ ap (lesser before) shown.1 ∙ lesser_lowered before bounds
              ∙ ap (λ o. lowered o bounds) so_far.1 ∙ sym (lowered_append None earlier bounds)
              ∙ ap (λ xs. lowered None (earlier ++ xs)) (sym (append-nil bounds))
              ∙ ap (lowered None) (sym (flat_map-append (bounds_of_shard problem goal) (take i shards) (shard ∷ [])))
              ∙ ap (λ ss. lowered None (flat_map (bounds_of_shard problem goal) ss)) more,
        )
