-- What is found of a list of shards, chunk by chunk.
use Rattle.std.proofs.Common.{◌≡◌, ◌<◌, ◌≤◌, ◌+◌, ◌*◌, ◌/◌, ◌%◌, ℕ, suc, min, List, [], ◌∷◌, ◌++◌, All, length, get_or, take, drop, Option, None, Result, Ok, Err, refl, sym, ap, subst, ◌∙◌, arith}
use native.Mathlib.Nat.{suc-mul, zero-mul}
use Rattle.std.specs.Fork.{slice_chunk}
use Rattle.std.specs.List.{flat_map}
use Rattle.std.proofs.Math.Seq.{drop-append_seam, take-append_seam}
use Rattle.std.proofs.lemmas.Grind.{div_ceil_times, flat_map-append}
use Rattle.std.proofs.lemmas.List.{drop-drop, length-drop, take-append-drop}
use Rattle.std.proofs.lemmas.List.Elements.{All-append, All-drop, All-nil, All-take}
use Rattle.pack_model.specs.Problem.{Parts}
use Rattle.cert_check.specs.Nodes.{lowered}
use Rattle.cert_check.specs.declared.fault.CheckFault.{CheckFault}
use Rattle.cert_check.specs.declared.fault.CheckFault.TheVariants as fault
use Rattle.cert_check.proofs.Walks.{lowered_append}
use Rattle.par_check.specs.Shards.{AreFound, ShardStands, bounds_of_shard, joined_from, lesser}
use Rattle.par_check.specs.declared.shard.Goal.{Goal}
use Rattle.par_check.specs.declared.shard.Shard.{Shard}
use Rattle.par_check.proofs.ShardLaws.{lesser_lowered}

module _ (problem : Parts) (goal : Goal) where
  -- the bounds at the open leaves of shards
  abbrev bounds : List Shard → List ℕ
  bounds shards = flat_map (bounds_of_shard problem goal) shards

  -- what is found of shards where something was the least before
  abbrev AreFoundAfter : Option ℕ → List Shard → Result (Option ℕ) CheckFault → Type 0
  AreFoundAfter before shards (Ok least) =
      All (ShardStands problem goal) shards × (least ≡ lowered before (bounds shards))
  AreFoundAfter before shards (Err why) = AreFound problem goal shards (Err why)

  -- some that stand, and then others
  then_others : (before found : Option ℕ) (first others : List Shard) (answer : Result (Option ℕ) CheckFault)
      → AreFound problem goal first (Ok found) → AreFoundAfter (lesser before found) others answer
      → AreFoundAfter before (first ++ others) answer
  then_others before found first others (Ok least) here later = (
    All-append (ShardStands problem goal) first others here.0 later.0,
    later.1 ∙ ap (λ o. lowered (lesser before o) (bounds others)) here.1
        ∙ ap (λ o. lowered o (bounds others)) (lesser_lowered before (bounds first))
        ∙ sym (lowered_append before (bounds first) (bounds others))
        ∙ ap (lowered before) (sym (flat_map-append (bounds_of_shard problem goal) first others)),
  )
  then_others before found first others (Err fault.RejectedMatrix) here later = later
  then_others before found first others (Err fault.RejectedTiming) here later = later
  then_others before found first others (Err fault.RejectedTree) here later = λ all.
      later (subst (All (ShardStands problem goal)) (drop-append_seam first others)
      (All-drop (ShardStands problem goal) (length first) (first ++ others) all))
  then_others before found first others (Err fault.Memory) here later = tt

  -- a fault among the first ones
  fails_first : (before : Option ℕ) (first others : List Shard) (why : CheckFault)
      → AreFound problem goal first (Err why) → AreFoundAfter before (first ++ others) (Err why)
  fails_first before first others fault.RejectedMatrix found = found
  fails_first before first others fault.RejectedTiming found = found
  fails_first before first others fault.RejectedTree found = λ all.
      found (subst (All (ShardStands problem goal)) (take-append_seam first others)
      (All-take (ShardStands problem goal) (length first) (first ++ others) all))
  fails_first before first others fault.Memory found = tt

  found_of : (shards : List Shard) (answer : Result (Option ℕ) CheckFault) → AreFoundAfter None shards answer
      → AreFound problem goal shards answer
  found_of shards (Ok least) found = found
  found_of shards (Err why) found = found

  module _ (size : ℕ) where
    -- the answer about a chunk, and then what is found of the rest
    chunk_and_rest : (before : Option ℕ) (shards : List Shard) (answer : Result (Option ℕ) CheckFault)
        (answers : List (Result (Option ℕ) CheckFault)) → AreFound problem goal (take size shards) answer
        → ((least : Option ℕ) → AreFoundAfter least (drop size shards) (joined_from least answers))
        → AreFoundAfter before (take size shards ++ drop size shards) (joined_from before (answer ∷ answers))
    chunk_and_rest before shards (Ok found) answers here rest =
        then_others before found (take size shards) (drop size shards)
        (joined_from (lesser before found) answers) here (rest (lesser before found))
    chunk_and_rest before shards (Err why) answers here rest =
        fails_first before (take size shards) (drop size shards) why here

    -- what is found of the chunks is what is found of all
    join_after : (before : Option ℕ) (shards : List Shard) (answers : List (Result (Option ℕ) CheckFault))
        → length shards ≤ length answers * size
        → ((n : ℕ) (d : Result (Option ℕ) CheckFault) → n < length answers
        → AreFound problem goal (slice_chunk shards size n) (get_or answers n d))
        → AreFoundAfter before shards (joined_from before answers)
    join_after before [] [] few each = (All-nil (ShardStands problem goal), refl)
    join_after before (shard ∷ shards) [] few each = absurd (omega (arith, few, zero-mul size))
    join_after before shards (answer ∷ answers) few each =
        subst (λ ss. AreFoundAfter before ss (joined_from before (answer ∷ answers)))
        (take-append-drop size shards)
        (chunk_and_rest before shards answer answers
        (subst (λ k. AreFound problem goal (take size (drop k shards)) answer) (zero-mul size)
        (each 0 answer (omega arith)))
        (λ least. join_after least (drop size shards) answers
        (omega (arith, few, suc-mul (length answers) size, length-drop size shards))
        (λ n d inside.
        subst (λ ss. AreFound problem goal (take size ss) (get_or answers n d))
        (ap (λ k. drop k shards) (next n) ∙ sym (drop-drop (n * size) size shards))
        (each (suc n) d (omega arith)))))
      where
        next : (n : ℕ) → suc n * size ≡ size + n * size
        next n = omega (arith, suc-mul n size)

    -- so it is with nothing before, where there are as many answers as chunks
    pub join_chunks : (shards : List Shard) (answers seen : List (Result (Option ℕ) CheckFault))
        (answer : Result (Option ℕ) CheckFault) (count : ℕ) → 0 < size → seen ≡ answers → length seen ≡ count
        → count ≡ length shards / size + min 1 (length shards % size)
        → ((n : ℕ) (d : Result (Option ℕ) CheckFault) → n < length answers
        → AreFound problem goal (slice_chunk shards size n) (get_or answers n d))
        → answer ≡ joined_from None seen → AreFound problem goal shards answer
    join_chunks shards answers seen answer count some same many chunks each is =
        let few : length shards ≤ length answers * size =
        subst (λ n. length shards ≤ n * size) (sym (ap length (sym same) ∙ many ∙ chunks))
        (div_ceil_times (length shards) size some).0 in
        subst (AreFound problem goal shards) (sym (is ∙ ap (joined_from None) same))
        (found_of shards (joined_from None answers) (join_after None shards answers few each))

    -- the answer about the chunk of a number
    pub chunk_found : (shards part : List Shard) (n : ℕ) (answer : Result (Option ℕ) CheckFault)
        → part ≡ slice_chunk shards size n → AreFound problem goal part answer
        → AreFound problem goal (slice_chunk shards size n) answer
    chunk_found shards part n answer is found = subst (λ ss. AreFound problem goal ss answer) is found
