-- Labels by first use, as items come one by one.
use Rattle.std.proofs.Common.{◌≡◌, ℕ, ◌+◌, ◌<◌, ◌≤◌, ◌⊎◌, Bool, true, false, cond, List, [], ◌∷◌, ◌++◌, length, get_or, set, take, drop, nat_eq, inl, inr, sym, ap, subst, refl, ◌∙◌, ◌||◌, arith, true≢false, suc, find, slice_get, eq-eqb, if◌then◌else◌, take-append-drop}
use Rattle.std.specs.List.{list_any, position_or_len}
use Rattle.std.proofs.lemmas.Cmp.{nat_eq_equiv}
use Rattle.std.proofs.lemmas.Bool.{cases_eq, ne_eqb}
use Rattle.std.proofs.lemmas.List.{take_more, length-take-le, length-append, get_or-set_same, get_or-set_other}
use Rattle.std.proofs.lemmas.List.Folds.{list_any-append}
use Rattle.pack_model.specs.Problem.{distinct}
use Rattle.pack_model.proofs.Distinct.{distinct-push, distinct-front, length-distinct}
use Rattle.pack_model.proofs.ListLaws.{first_place}
use Rattle.placed_matrix.specs.Frames.{label_in}
use Rattle.placed_matrix.specs.Tables.{no_label, label_or_none, HasLabels}

-- what is found first stands at the first place
pub find_first : {X : Type 0} (p : X → Bool) (xs : List X) → find p xs ≡ slice_get xs (position_or_len p xs)
find_first p [] = refl
find_first p (x ∷ xs) = by (p x) refl (find_first p xs)
  where
    by : (b : Bool) → p x ≡ b → find p xs ≡ slice_get xs (position_or_len p xs)
        → find p (x ∷ xs) ≡ slice_get (x ∷ xs) (position_or_len p (x ∷ xs))
    by true e ih = rw e refl
    by false e ih = let next : suc (position_or_len p xs) ≡ 1 + position_or_len p xs = omega arith in
        rw e (ih ∙ ap (slice_get (x ∷ xs)) next)

-- a label in the front stays
pub label_front : (a b : List ℕ) (id : ℕ) → list_any (nat_eq id) a ≡ true
    → label_in (a ++ b) id ≡ label_in a id
label_front [] b id h = absurd (true≢false (sym h))
label_front (x ∷ xs) b id h = by (nat_eq id x) refl (label_front xs b id)
  where
    by : (c : Bool) → nat_eq id x ≡ c
        → (list_any (nat_eq id) xs ≡ true → label_in (xs ++ b) id ≡ label_in xs id)
        → label_in ((x ∷ xs) ++ b) id ≡ label_in (x ∷ xs) id
    by true e ih = rw e refl
    by false e ih = rw e (ap (λ n. 1 + n) (ih (sym (ap (λ c. c || list_any (nat_eq id) xs) e) ∙ h)))

-- a new one comes next
pub label_next : (front back : List ℕ) (id : ℕ) → list_any (nat_eq id) front ≡ false
    → label_in (front ++ id ∷ back) id ≡ length front
label_next [] back id none = rw (eq-eqb id id refl) refl
label_next (x ∷ xs) back id none = by (nat_eq id x) refl (label_next xs back id)
  where
    by : (b : Bool) → nat_eq id x ≡ b
        → (list_any (nat_eq id) xs ≡ false → label_in (xs ++ id ∷ back) id ≡ length xs)
        → label_in ((x ∷ xs) ++ id ∷ back) id ≡ length (x ∷ xs)
    by true e rest = absurd (true≢false (sym (ap (λ b. b || list_any (nat_eq id) xs) e) ∙ none))
    by false e rest =
        rw e (ap (λ n. 1 + n) (rest (sym (ap (λ b. b || list_any (nat_eq id) xs) e) ∙ none)) ∙ omega arith)

-- one more at the end changes no other label
kept_label : (a : List ℕ) (id other : ℕ) → (other ≡ id → ⊥)
    → label_or_none a other ≡ label_or_none (a ++ id ∷ []) other
kept_label a id other differ = by (list_any (nat_eq other) a) refl
  where
    by : (b : Bool) → list_any (nat_eq other) a ≡ b
        → label_or_none a other ≡ label_or_none (a ++ id ∷ []) other
    by true e =
        ap (λ b. if b then label_in a other else no_label) e ∙ sym (label_front a (id ∷ []) other e)
        ∙ sym (ap (λ b. if b then label_in (a ++ id ∷ []) other else no_label)
        (list_any-append (nat_eq other) a (id ∷ []) ∙ ap (λ b. b || list_any (nat_eq other) (id ∷ [])) e))
    by false e =
        ap (λ b. if b then label_in a other else no_label) e
        ∙ sym (ap (λ b. if b then label_in (a ++ id ∷ []) other else no_label)
        (list_any-append (nat_eq other) a (id ∷ []) ∙ ap (λ b. b || list_any (nat_eq other) (id ∷ [])) e
        ∙ ap (λ b. b || false) (ne_eqb other id differ)))

-- the different identifiers of the first items
abbrev pub firsts : List ℕ → ℕ → List ℕ
firsts ids number = distinct nat_eq (take number ids)

-- there are no more of them than items
pub few : (ids : List ℕ) (number : ℕ) → number ≤ length ids → length (firsts ids number) ≤ number
few ids number le =
    omega (arith, length-distinct nat_eq nat_eq_equiv (take number ids), length-take-le number ids le)

module _ (ids : List ℕ) (number id : ℕ) (lt : number < length ids) (at : get_or ids number 0 ≡ id) where
  firsts_more : firsts ids (number + 1)
      ≡ cond (list_any (nat_eq id) (firsts ids number)) (firsts ids number) (firsts ids number ++ id ∷ [])
  firsts_more = ap (distinct nat_eq) (take_more ids number 0 lt ∙ ap (λ x. take number ids ++ x ∷ []) at)
      ∙ distinct-push nat_eq nat_eq_equiv (take number ids) id

  -- the label that the item keeps
  final_label : list_any (nat_eq id) (firsts ids (number + 1)) ≡ true
      → label_in (distinct nat_eq ids) id ≡ label_in (firsts ids (number + 1)) id
  final_label there =
      let (more, is) = distinct-front nat_eq nat_eq_equiv (drop (number + 1) ids) (take (number + 1) ids) in
      ap (λ l. label_in l id) (ap (distinct nat_eq) (sym (take-append-drop (number + 1) ids)) ∙ is)
      ∙ label_front (firsts ids (number + 1)) more id there

  -- an identifier that has a label
  pub step_known : (table : List ℕ) (frames : ℕ) → id < 2048 → HasLabels (firsts ids number) table
      → frames ≡ length (firsts ids number) → (get_or table id 0 ≡ no_label → ⊥)
      → HasLabels (firsts ids (number + 1)) table × (get_or table id 0 ≡ label_in (distinct nat_eq ids) id)
      × (frames ≡ length (firsts ids (number + 1)))
  step_known table frames low has counted known = by (list_any (nat_eq id) (firsts ids number)) refl
    where
      by : (b : Bool) → list_any (nat_eq id) (firsts ids number) ≡ b
          → HasLabels (firsts ids (number + 1)) table
          × (get_or table id 0 ≡ label_in (distinct nat_eq ids) id)
          × (frames ≡ length (firsts ids (number + 1)))
      by false e =
          absurd (known (has id low ∙ ap (λ b. if b then label_in (firsts ids number) id else no_label) e))
      by true e =
          let same : firsts ids (number + 1) ≡ firsts ids number = firsts_more
          ∙ ap (λ b. cond b (firsts ids number) (firsts ids number ++ id ∷ [])) e in (
            subst (λ l. HasLabels l table) (sym same) has,
            has id low ∙ ap (λ b. if b then label_in (firsts ids number) id else no_label) e
                ∙ ap (λ l. label_in l id) (sym same) ∙ sym (final_label (ap (list_any (nat_eq id)) same ∙ e)),
            counted ∙ ap length (sym same),
          )

  -- an identifier that has none gets the next
  pub step_new : (table : List ℕ) (frames : ℕ) → id < 2048 → length table ≡ 2048 → length ids ≤ 128
      → HasLabels (firsts ids number) table → frames ≡ length (firsts ids number)
      → get_or table id 0 ≡ no_label
      → HasLabels (firsts ids (number + 1)) (set table id frames)
      × (frames ≡ label_in (distinct nat_eq ids) id) × (frames + 1 ≡ length (firsts ids (number + 1)))
  step_new table frames low long small has counted none = by (list_any (nat_eq id) (firsts ids number)) refl
    where
      by : (b : Bool) → list_any (nat_eq id) (firsts ids number) ≡ b
          → HasLabels (firsts ids (number + 1)) (set table id frames)
          × (frames ≡ label_in (distinct nat_eq ids) id) × (frames + 1 ≡ length (firsts ids (number + 1)))
      by true e =
          let label : get_or table id 0 ≡ label_in (firsts ids number) id = has id low
          ∙ ap (λ b. if b then label_in (firsts ids number) id else no_label) e in
          absurd (omega (
            arith,
            label,
            none,
            first_place (nat_eq id) (firsts ids number) e,
            few ids number (omega arith),
          ))
      by false e =
          let grown : firsts ids (number + 1) ≡ firsts ids number ++ id ∷ [] = firsts_more
          ∙ ap (λ b. cond b (firsts ids number) (firsts ids number ++ id ∷ [])) e in
          let there : list_any (nat_eq id) (firsts ids number ++ id ∷ []) ≡ true =
          list_any-append (nat_eq id) (firsts ids number) (id ∷ [])
          ∙ ap (λ b. b || list_any (nat_eq id) (id ∷ [])) e ∙ ap (λ b. b || false) (eq-eqb id id refl) in
          let last : label_in (firsts ids (number + 1)) id ≡ frames = ap (λ l. label_in l id) grown
          ∙ label_next (firsts ids number) [] id e ∙ sym counted in (
            subst (λ l. HasLabels l (set table id frames)) (sym grown)
                (λ other below. table_at other below (cases_eq other id)),
            sym last ∙ sym (final_label (ap (list_any (nat_eq id)) grown ∙ there)),
            omega (arith, counted, ap length grown, length-append (firsts ids number) (id ∷ [])),
          )
        where
          whole : list_any (nat_eq id) (firsts ids number ++ id ∷ []) ≡ true
          whole = list_any-append (nat_eq id) (firsts ids number) (id ∷ [])
              ∙ ap (λ b. b || list_any (nat_eq id) (id ∷ [])) e ∙ ap (λ b. b || false) (eq-eqb id id refl)

          table_at : (other : ℕ) → other < 2048 → (other ≡ id) ⊎ (other ≡ id → ⊥)
              → get_or (set table id frames) other 0 ≡ label_or_none (firsts ids number ++ id ∷ []) other
          table_at other below (inl same) =
              let inside : id < length table = omega arith in
              subst (λ o. get_or (set table id frames) o 0 ≡ label_or_none (firsts ids number ++ id ∷ []) o)
              (sym same)
              (get_or-set_same table id frames 0 inside
              ∙ sym (ap (λ b. if b then label_in (firsts ids number ++ id ∷ []) id else no_label) whole
              ∙ label_next (firsts ids number) [] id e ∙ sym counted))
          table_at other below (inr differ) = get_or-set_other table id other frames 0 differ
              ∙ has other below ∙ kept_label (firsts ids number) id other differ
