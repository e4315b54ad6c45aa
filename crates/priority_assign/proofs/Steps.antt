-- One more place that is filled, and what the answer says when all are or none can be.
use Rattle.std.proofs.Common.{◌≡◌, ℕ, ◌+◌, ◌-◌, ◌<◌, ◌≤◌, inl, inr, suc, true, false, Option, Some, None, is_some, IfSome, IfNone, List, [], ◌∷◌, ◌++◌, length, take, drop, get_or, max, nat_eq, Contains, sym, ◌∙◌, ap, subst, arith, length-take, length-drop, take-append-drop}
use Rattle.std.specs.Cmp.{nat_eq_equiv}
use Rattle.std.specs.List.{remove}
use Rattle.std.specs.List.Sorted.{IsPermutation, IsStrictlyIncreasing}
use Rattle.std.proofs.lemmas.Bool.{cases_lt, eqb-false, false≢true}
use Rattle.std.proofs.lemmas.List.{append_assoc, append-nil, drop_all, get_or_default, get_or-take, get_or-drop, get_or_at, take-take, take_all, take_at, drop_at, drop-drop}
use Rattle.std.proofs.lemmas.List.Elements.{All-get_or, All-take, All-drop}
use Rattle.std.proofs.lemmas.List.Edits.{length-remove}
use Rattle.std.proofs.lemmas.List.Sorted.{All-permutation, Contains-permutation, length_permutation, IsPermutation-append_left}
use Rattle.std.proofs.lemmas.Map.Keys.{IsDistinct-IsPermutation, apart_from_distinct, IsDistinct-from_apart}
use Rattle.busy_period.specs.declared.timed.Timed.{Timed}
use Rattle.busy_period.specs.Timed.{frame_at}
use Rattle.busy_period.specs.Demand.{blocking_of}
use Rattle.busy_period.proofs.Sums.{differ}
use Rattle.response_test.specs.Frame.{PassesAgainst, PassesBlocked}
use Rattle.response_test.specs.Order.{NamesEachOnce, OrderPasses, others_of, remaining_of, FailSet}
use Rattle.response_test.proofs.Order.{others_are, others_distinct, remaining_have, passes_under_fewer}
use Rattle.priority_assign.specs.Level.{moved_last, PassesAt, IsLastPassing}
use Rattle.priority_assign.specs.Lowest.{CanTakeLowest, TakesLowest, FillsLowestFirst, IsLowestFirst}
use Rattle.priority_assign.proofs.Moved.{length-moved_last, moved_last-permutation}
use Rattle.priority_assign.proofs.Filling.{Given, Named, below, rest_from_can_take, takes_permuted, takes_from_last_passing, rest_ascending}

-- a front of an order that names each frame once
pub front_named : (frames : List Timed) (order : List ℕ) (n : ℕ) → NamesEachOnce frames order → Named frames (take n order)
front_named frames order n names =
    record {
      named = All-take (λ number. number < length frames) n order names.named;
      distinct = IsDistinct-from_apart nat_eq (take n order) (λ i j d before inside.
          let i_in : i < n = omega (arith, inside, length-take n order) in
          let j_in : j < n = omega (arith, inside, length-take n order) in
          let apart : nat_eq (get_or order i d) (get_or order j d) ≡ false =
          apart_from_distinct nat_eq order i j d names.distinct before (omega (arith, inside, length-take n order)) in
          let first = get_or-take n order i d i_in in
          let second = get_or-take n order j d j_in in
          cc);
    }

-- and its back
pub back_named : (frames : List Timed) (order : List ℕ) (n : ℕ) → NamesEachOnce frames order → Named frames (drop n order)
back_named frames order n names =
    record {
      named = All-drop (λ number. number < length frames) n order names.named;
      distinct = IsDistinct-from_apart nat_eq (drop n order) (λ i j d before inside.
          let apart : nat_eq (get_or order (n + i) d) (get_or order (n + j) d) ≡ false =
          apart_from_distinct nat_eq order (n + i) (n + j) d names.distinct (omega arith) (omega (arith, inside, length-drop n order)) in
          let first = get_or-drop n order i d in
          let second = get_or-drop n order j d in
          cc);
    }

-- the two have nothing in common
pub front_and_back : (frames : List Timed) (order : List ℕ) (n z : ℕ) → NamesEachOnce frames order
    → Contains (take n order) z → ¬ (Contains (drop n order) z)
front_and_back frames order n z names (i, inside, at) (j, inside', at') =
    let i_in : i < n = omega (arith, inside, length-take n order) in
    let apart : nat_eq (get_or order i z) (get_or order (n + j) z) ≡ false =
    apart_from_distinct nat_eq order i (n + j) z names.distinct (omega arith) (omega (arith, inside', length-drop n order)) in
    eqb-false (get_or order i z) (get_or order (n + j) z) apart
    (sym (get_or-take n order i z i_in) ∙ at ∙ sym at' ∙ get_or-drop n order j z)

-- the same order after the frame at an index of its front of m took place m - 1
pub permuted : (order now : List ℕ) (m index : ℕ) → index < length (take m order)
    → now ≡ moved_last (take m order) index ++ drop m order → IsPermutation order now
permuted order now m index inside is =
    let P : List ℕ → Type 0 = λ xs. IsPermutation xs now in
    let Q : List ℕ → Type 0 = λ ys. IsPermutation (take m order ++ drop m order) ys in
    subst P (take-append-drop m order)
    (subst Q (sym is)
    (IsPermutation-append_left (drop m order) (take m order) (moved_last (take m order) index) (moved_last-permutation (take m order) index inside)))

pub names_permuted : (frames : List Timed) (xs ys : List ℕ) → IsPermutation xs ys → NamesEachOnce frames xs → NamesEachOnce frames ys
names_permuted frames xs ys same names =
    record {
      named = All-permutation (λ number. number < length frames) xs ys same names.named;
      distinct = IsDistinct-IsPermutation nat_eq nat_eq_equiv.symm xs ys same names.distinct;
      each = λ number inside. Contains-permutation xs ys number same (names.each number inside);
    }

-- a front that has the changed part, and the rest behind it
front_after : (level placed : List ℕ) (j : ℕ) → take (length level + j) (level ++ placed) ≡ level ++ take j placed
front_after [] placed j = let same : 0 + j ≡ j = omega arith in ap (λ n. take n placed) same
front_after (x ∷ level) placed j =
    let same : suc (length level) + j ≡ suc (length level + j) = omega arith in
    ap (λ n. take n (x ∷ (level ++ placed))) same ∙ ap (λ l. x ∷ l) (front_after level placed j)

-- what stands behind a front of m entries is the same where the rest is
pub behind_same : (order now : List ℕ) (m place : ℕ) → drop m now ≡ drop m order → m ≤ place
    → (drop (place + 1) now ≡ drop (place + 1) order) × (get_or now place 0 ≡ get_or order place 0)
behind_same order now m place same from =
    let j : ℕ = place + 1 - m in
    let at : m + j ≡ place + 1 = omega arith in
    let k : ℕ = place - m in
    let here : m + k ≡ place = omega arith in (
      ap (λ n. drop n now) (sym at) ∙ sym (drop-drop j m now) ∙ ap (drop j) same ∙ drop-drop j m order ∙ ap (λ n. drop n order) at,
      ap (λ i. get_or now i 0) (sym here) ∙ sym (get_or-drop m now k 0) ∙ ap (λ l. get_or l k 0) same ∙ get_or-drop m order k 0
          ∙ ap (λ i. get_or order i 0) here,
    )

-- the front behind which the rest begins: the others, the frame that took the place, and the two together
pub front_of_now : (order now : List ℕ) (m index : ℕ) → m ≤ length order → index < length (take m order)
    → now ≡ moved_last (take m order) index ++ drop m order
    → (take (m - 1) now ≡ remove (take m order) index)
    × (drop (m - 1) now ≡ get_or (take m order) index 0 ∷ drop m order)
    × (take m now ≡ moved_last (take m order) index)
    × (drop m now ≡ drop m order)
    × (get_or now (m - 1) 0 ≡ get_or (take m order) index 0)
front_of_now order now m index within inside was =
    let front : List ℕ = take m order in
    let rest : List ℕ = remove front index in
    let own : ℕ = get_or front index 0 in
    let long_rest : length rest ≡ m - 1 = omega (arith, length-remove front index inside, length-take m order) in
    let long_moved : length (moved_last front index) ≡ m = omega (arith, length-moved_last front index inside, length-take m order) in
    let split : now ≡ rest ++ (own ∷ drop m order) = was ∙ append_assoc rest (own ∷ []) (drop m order) in (
      ap (take (m - 1)) split ∙ take_at rest (own ∷ drop m order) (m - 1) long_rest,
      ap (drop (m - 1)) split ∙ drop_at rest (own ∷ drop m order) (m - 1) long_rest,
      ap (take m) was ∙ take_at (moved_last front index) (drop m order) m long_moved,
      ap (drop m) was ∙ drop_at (moved_last front index) (drop m order) m long_moved,
      ap (λ l. get_or l (m - 1) 0) split ∙ get_or_at rest own (drop m order) 0 (m - 1) long_rest,
    )

-- a longer front has the same frames as before
pub longer_front : (order now : List ℕ) (m index place : ℕ) → m ≤ length order → index < length (take m order)
    → now ≡ moved_last (take m order) index ++ drop m order → m ≤ place
    → IsPermutation (take (place + 1) order) (take (place + 1) now)
longer_front order now m index place within inside was from =
    let front : List ℕ = take m order in
    let j : ℕ = place + 1 - m in
    let moved : List ℕ = moved_last front index in
    let long : length front + j ≡ place + 1 = omega (arith, length-take m order) in
    let long' : length moved + j ≡ place + 1 = omega (arith, length-moved_last front index inside, length-take m order) in
    let before : take (place + 1) order ≡ front ++ take j (drop m order) =
    ap (λ n. take n order) (sym long) ∙ ap (take (length front + j)) (sym (take-append-drop m order)) ∙ front_after front (drop m order) j in
    let after : take (place + 1) now ≡ moved ++ take j (drop m order) =
    ap (λ n. take n now) (sym long') ∙ ap (take (length moved + j)) was ∙ front_after moved (drop m order) j in
    let P : List ℕ → Type 0 = λ xs. IsPermutation xs (take (place + 1) now) in
    let Q : List ℕ → Type 0 = λ ys. IsPermutation (front ++ take j (drop m order)) ys in
    subst P (sym before)
    (subst Q (sym after)
    (IsPermutation-append_left (take j (drop m order)) front moved (moved_last-permutation front index inside)))

-- one more place is filled
pub fills_one_more : (frames : List Timed) (bit blocked m : ℕ) (order now : List ℕ) (index : ℕ) → Given frames bit
    → m ≤ length order → FillsLowestFirst frames bit m order → blocked ≡ blocking_of frames (drop m order)
    → IsLastPassing frames (take m order) blocked bit index
    → now ≡ moved_last (take m order) index ++ drop m order
    → FillsLowestFirst frames bit (m - 1) now
fills_one_more frames bit blocked m order now index given within fills is it was =
    let front : List ℕ = take m order in
    let own : ℕ = get_or front index 0 in
    let parts = front_of_now order now m index within it.inside was in
    let names : NamesEachOnce frames order = fills.names_each_once in
    let names' : NamesEachOnce frames now = names_permuted frames order now (permuted order now m index it.inside was) names in
    let last : TakesLowest frames bit (moved_last front index) (drop m order) own =
    takes_permuted frames bit front (moved_last front index) (drop m order) own given (front_named frames order m names)
    (back_named frames order m names) (moved_last-permutation front index it.inside)
    (takes_from_last_passing frames bit blocked front (drop m order) index given (front_named frames order m names)
    (back_named frames order m names) fills.ascending is it) in
    let some : 0 < m = omega (arith, it.inside, length-take m order) in
    record {
      names_each_once = names';
      ascending = subst IsStrictlyIncreasing (sym parts.0) (rest_ascending front index it.inside fills.ascending);
      taken = λ place from inside. elim (cases_lt place m) [
        | inl here ↦
            let at : m ≡ place + 1 = omega arith in
            let at' : m - 1 ≡ place = omega arith in
            let P : List ℕ → Type 0 = λ xs. TakesLowest frames bit xs (drop m order) own in
            let Q : List ℕ → Type 0 = λ ys. TakesLowest frames bit (take m now) ys own in
            let R : ℕ → Type 0 = λ number. TakesLowest frames bit (take m now) (drop m now) number in
            let S : ℕ → Type 0 = λ n. TakesLowest frames bit (take n now) (drop n now) (get_or now (m - 1) 0) in
            let T : ℕ → Type 0 = λ i. TakesLowest frames bit (take (place + 1) now) (drop (place + 1) now) (get_or now i 0) in
            subst T at' (subst S at (subst R (sym parts.4) (subst Q (sym parts.3) (subst P (sym parts.2) last))))
        | inr later ↦
            let behind = behind_same order now m place parts.3 later in
            let inside' : place < length order = omega (arith, inside, length_permutation order now (permuted order now m index it.inside was)) in
            let taken : TakesLowest frames bit (take (place + 1) now) (drop (place + 1) order) (get_or order place 0) =
            takes_permuted frames bit (take (place + 1) order) (take (place + 1) now) (drop (place + 1) order) (get_or order place 0) given
            (front_named frames order (place + 1) names) (back_named frames order (place + 1) names)
            (longer_front order now m index place within it.inside was later) (fills.taken place later inside') in
            let P : List ℕ → Type 0 = λ ys. TakesLowest frames bit (take (place + 1) now) ys (get_or order place 0) in
            let Q : ℕ → Type 0 = λ number. TakesLowest frames bit (take (place + 1) now) (drop (place + 1) now) number in
            subst Q (sym behind.1) (subst P (sym behind.0) taken)
      ];
    }

-- the frame that took the place blocks from now on
pub blocked_one_more : (frames : List Timed) (m : ℕ) (order now : List ℕ) (index : ℕ) → m ≤ length order → index < length (take m order)
    → now ≡ moved_last (take m order) index ++ drop m order
    → blocking_of frames (drop (m - 1) now) ≡ max (frame_at frames (get_or now (m - 1) 0)).ticks (blocking_of frames (drop m order))
blocked_one_more frames m order now index within inside was =
    let parts = front_of_now order now m index within inside was in
    ap (blocking_of frames) parts.1 ∙ ap (λ number. max (frame_at frames number).ticks (blocking_of frames (drop m order))) (sym parts.4)

-- an order whose places are all filled passes
pub all_filled_passes : (frames : List Timed) (bit : ℕ) (order : List ℕ) → Given frames bit → FillsLowestFirst frames bit 0 order
    → OrderPasses frames bit order
all_filled_passes frames bit order given fills =
    record {
      names_each_once = fills.names_each_once;
      passes = λ place inside.
          let above : List ℕ = take (place + 1) order in
          let long : length above ≡ place + 1 = omega (arith, length-take (place + 1) order) in
          let own : get_or above place 0 ≡ get_or order place 0 = get_or-take (place + 1) order place 0 (omega arith) in
          let rest : remove above place ≡ take place order =
          ap (λ l. take place above ++ l) (drop_all (suc place) above (omega arith)) ∙ append-nil (take place above)
          ∙ take-take place (place + 1) order (omega arith) in
          let taken : TakesLowest frames bit above (drop (place + 1) order) (get_or order place 0) = fills.taken place (omega arith) inside in
          let P : ℕ → Type 0 = λ number. CanTakeLowest frames bit above (drop (place + 1) order) number in
          let passes : PassesAgainst frames (get_or above place 0) (remove above place) (drop (place + 1) order) bit =
          rest_from_can_take frames bit above (drop (place + 1) order) place given (front_named frames order (place + 1) fills.names_each_once)
          (back_named frames order (place + 1) fills.names_each_once) (omega arith) (subst P (sym own) taken.can_take) in
          let Q : ℕ → Type 0 = λ number. PassesAgainst frames number (remove above place) (drop (place + 1) order) bit in
          let R : List ℕ → Type 0 = λ higher. PassesAgainst frames (get_or order place 0) higher (drop (place + 1) order) bit in
          subst R rest (subst Q own passes);
    }

-- where none of the frames without a place passes, none can take the next one
pub stuck_is_lowest_first : (frames : List Timed) (bit blocked m : ℕ) (order : List ℕ) → Given frames bit
    → FillsLowestFirst frames bit m order → blocked ≡ blocking_of frames (drop m order)
    → ((index : ℕ) → index < length (take m order) → ¬ (PassesAt frames (take m order) blocked bit index))
    → IsLowestFirst frames bit m order
stuck_is_lowest_first frames bit blocked m order given fills is none =
    let front : List ℕ = take m order in
    record {
      fills = fills;
      none_can_take = λ own (j, inside, at) can.
          let same : get_or front j 0 ≡ own = get_or_default front j 0 own inside ∙ at in
          let Q : ℕ → Type 0 = λ number. CanTakeLowest frames bit front (drop m order) number in
          let R : ℕ → Type 0 = λ ticks. PassesBlocked frames (get_or front j 0) (remove front j) ticks bit in
          none j inside (subst R (sym is)
          (rest_from_can_take frames bit front (drop m order) j given (front_named frames order m fills.names_each_once)
          (back_named frames order m fills.names_each_once) inside (subst Q (sym same) can)));
    }

-- and they are a failing set
pub stuck_is_failing : (frames : List Timed) (bit m : ℕ) (order : List ℕ) → Given frames bit
    → 0 < m → m ≤ length order → IsLowestFirst frames bit m order → FailSet frames bit (take m order)
stuck_is_failing frames bit m order given some within it =
    let front : List ℕ = take m order in
    let names : NamesEachOnce frames order = it.fills.names_each_once in
    let front_names : Named frames front = front_named frames order m names in
    record {
      some = omega (arith, length-take m order);
      named = front_names.named;
      distinct = front_names.distinct;
      fails = λ own in' passes. it.none_can_take own in'
          (passes_under_fewer frames own (others_of own front) (drop m order) (others_of own front) (remaining_of frames front) bit
          given.some_bit given.in_range (below frames front own front_names in') (others_distinct own front front_names.distinct)
          (λ z among. (below frames front z front_names (others_are own front z among).0, among))
          (λ z among.
          let inside : z < length frames = below frames (drop m order) z (back_named frames order m names) among in
          (inside, inl (remaining_have frames front z inside (λ both. front_and_back frames order m z names both among))))
          passes);
    }

-- numbers that are their own indices name each frame once, ascending
pub numbered : (frames : List Timed) (bit : ℕ) (order : List ℕ) → length order ≡ length frames
    → ((index : ℕ) → index < length order → get_or order index 0 ≡ index) → FillsLowestFirst frames bit (length order) order
numbered frames bit order long each =
    let same : (k d : ℕ) → k < length order → get_or order k d ≡ k = λ k d inside. get_or_default order k d 0 inside ∙ each k inside in
    record {
      names_each_once = record {
        named = λ k d inside. omega (arith, same k d inside);
        distinct = IsDistinct-from_apart nat_eq order (λ i j d before inside.
            differ (get_or order i d) (get_or order j d) (λ is. omega (arith, same i d (omega arith), same j d inside)));
        each = λ number inside. (number, omega arith, same number number (omega arith));
      };
      ascending = λ k inside.
          let whole : take (length order) order ≡ order = take_all (length order) order (omega arith) in
          omega (
            arith,
            ap (λ l. get_or l k 0) whole,
            ap (λ l. get_or l (k + 1) 0) whole,
            ap length whole,
            same k 0 (omega (arith, ap length whole)),
            same (k + 1) 0 (omega (arith, ap length whole)),
          );
      taken = λ place from inside. absurd (omega arith);
    }

-- what holds where something, or nothing, was found
pub where_some : (found : Option ℕ) (P Q : ℕ → Type 0) → is_some found ≡ true → IfSome found P → IfSome found Q
    → (index : ℕ) × P index × Q index
where_some None P Q is p q = absurd (false≢true is)
where_some (Some index) P Q is p q = (index, p, q)

pub where_none : (found : Option ℕ) (A : Type 0) → is_some found ≡ false → IfNone found A → A
where_none None A is it = it
where_none (Some index) A is it = absurd (false≢true (sym is))

-- a front that was put back
pub put_back : (order level : List ℕ) (m : ℕ) → level ≡ take m order → level ++ drop m order ≡ order
put_back order level m same = ap (λ l. l ++ drop m order) same ∙ take-append-drop m order

-- what holds of the order after a frame was chosen, and of the frame that took the place
pub record Chosen (frames : List Timed) (bit m : ℕ) (order now : List ℕ) : Type 0 where
  pub fills : FillsLowestFirst frames bit (m - 1) now
  pub blocks : blocking_of frames (drop (m - 1) now) ≡ max (frame_at frames (get_or now (m - 1) 0)).ticks (blocking_of frames (drop m order))
  pub long : length now ≡ length order
  pub inside : get_or now (m - 1) 0 < length frames
  pub same : IsPermutation (take m order) (take m now)

-- the order after a frame was chosen
pub chosen_of : (frames : List Timed) (bit blocked m : ℕ) (order level : List ℕ) (found : Option ℕ) → Given frames bit
    → 0 < m → m ≤ length order → FillsLowestFirst frames bit m order → blocked ≡ blocking_of frames (drop m order)
    → is_some found ≡ true → IfSome found (IsLastPassing frames (take m order) blocked bit)
    → IfSome found (λ index. level ≡ moved_last (take m order) index)
    → Chosen frames bit m order (level ++ drop m order)
chosen_of frames bit blocked m order level found given some within fills is found_some chosen moved =
    let at = where_some found (IsLastPassing frames (take m order) blocked bit) (λ index. level ≡ moved_last (take m order) index) found_some chosen moved in
    let index : ℕ = at.0 in
    let it : IsLastPassing frames (take m order) blocked bit index = at.1 in
    let now : List ℕ = level ++ drop m order in
    let was : now ≡ moved_last (take m order) index ++ drop m order = ap (λ l. l ++ drop m order) at.2 in
    let long : length now ≡ length order = length_permutation order now (permuted order now m index it.inside was) in
    let filled : FillsLowestFirst frames bit (m - 1) now = fills_one_more frames bit blocked m order now index given within fills is it was in
    record {
      fills = filled;
      blocks = blocked_one_more frames m order now index within it.inside was;
      long = long;
      inside = All-get_or (λ number. number < length frames) now (m - 1) 0 (omega arith) filled.names_each_once.named;
      same = subst (IsPermutation (take m order)) (sym (front_of_now order now m index within it.inside was).2)
          (moved_last-permutation (take m order) index it.inside);
    }
