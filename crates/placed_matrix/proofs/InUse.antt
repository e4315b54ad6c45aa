-- The labels in use, as a table is walked.
use Rattle.std.proofs.Common.{◌≡◌, ℕ, ◌+◌, ◌<◌, Bool, true, false, cond, List, [], ◌∷◌, ◌++◌, length, get_or, map, set, take, drop, filter, not, nat_eq, sym, ap, refl, ◌∙◌, arith, append-nil, take-append-drop, eq-eqb}
use Rattle.std.specs.List.{list_any}
use Rattle.std.proofs.lemmas.Bool.{ne_eqb}
use Rattle.std.proofs.lemmas.List.{take_more_set, length-append}
use Rattle.std.proofs.lemmas.List.Elements.{filter-append, filter_more}
use Rattle.pack_model.proofs.ListLaws.{first_place}
use Rattle.placed_matrix.specs.Frames.{label_in}
use Rattle.placed_matrix.specs.Tables.{no_label, in_use, label_or_none}

-- one more label
used_more : (table : List ℕ) (i : ℕ) → i < length table → (get_or table i 0 ≡ no_label → ⊥)
    → in_use (take (i + 1) table) ≡ in_use (take i table) ++ get_or table i 0 ∷ []
used_more table i lt used = filter_more (λ label. not (nat_eq label no_label)) table i 0 lt
    ∙ ap (λ b. in_use (take i table) ++ cond (not b) (get_or table i 0 ∷ []) [])
    (ne_eqb (get_or table i 0) no_label used)

unused_more : (table : List ℕ) (i : ℕ) → i < length table → get_or table i 0 ≡ no_label
    → in_use (take (i + 1) table) ≡ in_use (take i table)
unused_more table i lt none = filter_more (λ label. not (nat_eq label no_label)) table i 0 lt
    ∙ ap (λ b. in_use (take i table) ++ cond (not b) (get_or table i 0 ∷ []) [])
    (eq-eqb (get_or table i 0) no_label none) ∙ append-nil (in_use (take i table))

-- there is room for one more
pub in_use_bound : (table : List ℕ) (i : ℕ) → i < length table → (get_or table i 0 ≡ no_label → ⊥)
    → length (in_use (take i table)) < length (in_use table)
in_use_bound table i lt used =
    let all : in_use table ≡ in_use (take (i + 1) table) ++ in_use (drop (i + 1) table) =
    ap in_use (sym (take-append-drop (i + 1) table))
    ∙ filter-append (λ label. not (nat_eq label no_label)) (take (i + 1) table) (drop (i + 1) table) in
    omega (
      arith,
      ap length all,
      length-append (in_use (take (i + 1) table)) (in_use (drop (i + 1) table)),
      ap length (used_more table i lt used),
      length-append (in_use (take i table)) (get_or table i 0 ∷ []),
    )

pub in_use_taken : (table order : List ℕ) (i place label : ℕ) → i < length table → label ≡ get_or table i 0
    → (label ≡ no_label → ⊥) → place < length order → place ≡ length (in_use (take i table))
    → take place order ≡ in_use (take i table)
    → (place + 1 ≡ length (in_use (take (i + 1) table)))
    × (take (place + 1) (set order place label) ≡ in_use (take (i + 1) table))
in_use_taken table order i place label lt is used room count so_far =
    let grown : in_use (take (i + 1) table) ≡ in_use (take i table) ++ label ∷ [] =
    used_more table i lt (λ e. used (is ∙ e)) ∙ ap (λ x. in_use (take i table) ++ x ∷ []) (sym is) in (
      omega (arith, count, ap length grown, length-append (in_use (take i table)) (label ∷ [])),
      take_more_set order place label room ∙ ap (λ l. l ++ label ∷ []) so_far ∙ sym grown,
    )

pub in_use_passed : (table order : List ℕ) (i place label : ℕ) → i < length table → label ≡ get_or table i 0
    → label ≡ no_label → place ≡ length (in_use (take i table)) → take place order ≡ in_use (take i table)
    → (place ≡ length (in_use (take (i + 1) table))) × (take place order ≡ in_use (take (i + 1) table))
in_use_passed table order i place label lt is none count so_far =
    let same : in_use (take (i + 1) table) ≡ in_use (take i table) = unused_more table i lt (sym is ∙ none) in
    (count ∙ ap length (sym same), so_far ∙ sym same)

-- a table whose labels are those of identifiers, walked from an identifier on
pub walked : (firsts ids : List ℕ) → length firsts < no_label
    → in_use (map (label_or_none firsts) ids)
    ≡ map (label_in firsts) (filter (λ id. list_any (nat_eq id) firsts) ids)
walked firsts [] few = refl
walked firsts (id ∷ ids) few = by (list_any (nat_eq id) firsts) refl (walked firsts ids few)
  where
    by : (b : Bool) → list_any (nat_eq id) firsts ≡ b
        → in_use (map (label_or_none firsts) ids)
        ≡ map (label_in firsts) (filter (λ i. list_any (nat_eq i) firsts) ids)
        → in_use (map (label_or_none firsts) (id ∷ ids))
        ≡ map (label_in firsts) (filter (λ i. list_any (nat_eq i) firsts) (id ∷ ids))
    by true e ih =
        let low : label_in firsts id < length firsts = first_place (nat_eq id) firsts e in
        let used : nat_eq (label_in firsts id) no_label ≡ false =
        ne_eqb (label_in firsts id) no_label (λ same. omega (arith, same, low)) in
        rw (e, used) (ap (λ l. label_in firsts id ∷ l) ih)
    by false e ih = rw e ih
