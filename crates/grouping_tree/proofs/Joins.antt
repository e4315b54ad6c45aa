-- When an item may join a class that has items, by what is kept of both.
use Rattle.std.proofs.Common.{◌≡◌, zero, suc, ◌==◌, ◌≤◌, ◌⊎◌, inl, inr, ◌&&◌, Bool, true, false, not, List, [], ◌∷◌, ◌++◌, length, map, nat_eq, nat_le, All, AllPairs, refl, sym, ap, ◌∙◌, arith}
use Rattle.std.specs.List.{list_all}
use Rattle.std.proofs.lemmas.Bool.{and_parts, cases_eq, eq-eqb, eqb-true, ne_eqb}
use Rattle.std.proofs.lemmas.List.Elements.{All-map}
use Rattle.std.proofs.lemmas.List.Folds.{list_all-append}
use Rattle.pack_model.specs.declared.item.Item.{Item}
use Rattle.pack_model.specs.Problem.{Parts}
use Rattle.class_frame.specs.Frame.{bytes_of_items, ids_of, is_pdu}
use Rattle.class_frame.specs.Legal.{ClassStands}
use Rattle.class_frame.specs.Sums.{top}
use Rattle.class_frame.proofs.Folds.{least_from, least_has}
use Rattle.class_frame.proofs.Standing.{all_from_count, count_from_kind, none_from_count}
use Rattle.grouping_tree.specs.Class.{AreAlike, AreOneKind, IsFill}
use Rattle.grouping_tree.specs.Partial.{alike, is_class, same_kind}
use Rattle.grouping_tree.specs.declared.class.Fill.{Fill}
use Rattle.grouping_tree.proofs.Options.{alike-kind, both, is_class-from, same_kind-from, same_kind-to}

-- two fills are alike or not
pub alike_or_not : (a b : Fill) → AreAlike a b ⊎ (AreAlike a b → ⊥)
alike_or_not a b = by (cases_eq a.sender b.sender)
  where
    kinds : (x y : Bool) → (x ≡ y) ⊎ (x ≡ y → ⊥)
    kinds true true = inl refl
    kinds true false = inr (λ e. absurd cc)
    kinds false true = inr (λ e. absurd cc)
    kinds false false = inl refl

    by : (a.sender ≡ b.sender) ⊎ (a.sender ≡ b.sender → ⊥) → AreAlike a b ⊎ (AreAlike a b → ⊥)
    by (inr apart) = inr (λ are. apart are.sender)
    by (inl same) = elim (kinds (a.pdus == 0) (b.pdus == 0)) [
      | inl kind ↦ inl (record { sender = same; kind = kind })
      | inr apart ↦ inr (λ are. apart are.kind)
    ]

-- whether the first item is an I-PDU says whether any is
kind_is : (problem : Parts) (x : Item) (xs : List Item) (fill : Fill) → IsFill problem (x ∷ xs) fill
    → AreOneKind (x ∷ xs) → (fill.pdus == 0) ≡ not (is_pdu x)
kind_is problem x xs fill is kind = by (count_from_kind (x ∷ xs) kind)
  where
    many : fill.pdus ≡ length (ids_of (x ∷ xs))
    many = ap (λ (f : Fill). f.pdus) is

    by : (length (ids_of (x ∷ xs)) ≡ 0) ⊎ (length (ids_of (x ∷ xs)) ≡ length (x ∷ xs)) → (fill.pdus == 0) ≡ not (is_pdu x)
    by (inl none) =
        eq-eqb fill.pdus 0 (many ∙ none)
        ∙ ap not (sym (none_from_count (x ∷ xs) none 0 x (omega arith)))
    by (inr all) =
        ne_eqb fill.pdus 0 (λ e. omega (arith, e, many, all))
        ∙ ap not (sym (all_from_count (x ∷ xs) all 0 x (omega arith)))

-- the sender of the first is that of all
sender_is : (problem : Parts) (x : Item) (xs : List Item) (fill : Fill) → IsFill problem (x ∷ xs) fill
    → AllPairs (λ item other. item.sender ≡ other.sender) (x ∷ xs) → All (λ item. item.sender ≤ top) (x ∷ xs)
    → fill.sender ≡ x.sender
sender_is problem x xs fill is same low =
    ap (λ (f : Fill). f.sender) is
    ∙ least_from top (map (λ (item : Item). item.sender) (x ∷ xs)) (omega arith)
    (All-map (λ n. n ≤ top) (λ (item : Item). item.sender) (x ∷ xs) low)
    ∙ least_has (λ n. n ≡ x.sender) (map (λ (item : Item). item.sender) (x ∷ xs)) (omega arith)
    (All-map (λ n. n ≡ x.sender) (λ (item : Item). item.sender) (x ∷ xs) each)
  where
    each : All (λ item. item.sender ≡ x.sender) (x ∷ xs)
    each zero d lt = refl
    each (suc i) d lt = sym (same 0 (suc i) d (omega arith) lt)

same_not : (a b : Bool) → not a ≡ not b → a ≡ b
same_not true true e = refl
same_not true false e = absurd cc
same_not false true e = absurd cc
same_not false false e = refl

-- a class that has items, and one more item, with what they take
pub record Joins (problem : Parts) (items : List Item) (item : Item) (before next : Fill) : Type 0 where
  pub some : 1 ≤ length items
  pub class : ClassStands items
  pub first : IsFill problem items before
  pub second : IsFill problem (item ∷ []) next
  pub low : All (λ item. item.sender ≤ top) items
  pub own_low : item.sender ≤ top

module _ (problem : Parts) (x : Item) (xs : List Item) (item : Item) (before next : Fill)
    (j : Joins problem (x ∷ xs) item before next) where
  old : list_all (alike x) xs ≡ true
  old =
      (and_parts (list_all (alike x) xs) (nat_le (bytes_of_items (x ∷ xs)) 64) (is_class-from (x ∷ xs) j.class)).0

  kind : (before.pdus == 0) ≡ not (is_pdu x)
  kind = kind_is problem x xs before j.first j.class.one_kind

  own_kind : (next.pdus == 0) ≡ not (is_pdu item)
  own_kind = kind_is problem item [] next j.second (λ i j d lt within. absurd (omega arith))

  sender : before.sender ≡ x.sender
  sender = sender_is problem x xs before j.first j.class.one_sender j.low

  own_sender : next.sender ≡ item.sender
  own_sender = sender_is problem item [] next j.second (λ i j d lt within. absurd (omega arith)) (λ i d lt. alone i d lt)
    where
      alone : All (λ item. item.sender ≤ top) (item ∷ [])
      alone zero d lt = j.own_low
      alone (suc i) d lt = absurd (omega arith)

  alike_from : AreAlike before next → alike x item ≡ true
  alike_from are =
      both (nat_eq x.sender item.sender) (same_kind (is_pdu x) (is_pdu item))
      (eq-eqb x.sender item.sender (sym sender ∙ are.sender ∙ own_sender))
      (same_kind-from (is_pdu x) (is_pdu item) (same_not (is_pdu x) (is_pdu item) (sym kind ∙ are.kind ∙ own_kind)))

  alike_to : alike x item ≡ true → AreAlike before next
  alike_to e =
      let parts = and_parts (nat_eq x.sender item.sender) (same_kind (is_pdu x) (is_pdu item)) e in
      record {
        sender = sender ∙ eqb-true x.sender item.sender parts.0 ∙ sym own_sender;
        kind = kind ∙ ap not (same_kind-to (is_pdu x) (is_pdu item) parts.1) ∙ sym own_kind;
      }

  -- all are like the first one where the last one is
  all_alike : (b : Bool) → alike x item ≡ b → list_all (alike x) (xs ++ item ∷ []) ≡ b
  all_alike b e = list_all-append (alike x) xs (item ∷ []) ∙ by (list_all (alike x) xs) old (alike x item) e
    where
      by : (a : Bool) → a ≡ true → (c : Bool) → c ≡ b → (a && (c && true)) ≡ b
      by true e true f = f
      by true e false f = f
      by false e c f = absurd cc

  kind_put : AreAlike before next → AreOneKind (x ∷ (xs ++ item ∷ []))
  kind_put are = alike-kind x (xs ++ item ∷ []) (all_alike true (alike_from are))

  class_put : AreAlike before next
      → is_class (x ∷ (xs ++ item ∷ [])) ≡ nat_le (bytes_of_items (x ∷ (xs ++ item ∷ []))) 64
  class_put are =
      ap (λ b. b && nat_le (bytes_of_items (x ∷ (xs ++ item ∷ []))) 64) (all_alike true (alike_from are))

  class_apart : (AreAlike before next → ⊥) → is_class (x ∷ (xs ++ item ∷ [])) ≡ false
  class_apart not_are = by (alike x item) refl
    where
      by : (b : Bool) → alike x item ≡ b → is_class (x ∷ (xs ++ item ∷ [])) ≡ false
      by true e = absurd (not_are (alike_to e))
      by false e =
          ap (λ b. b && nat_le (bytes_of_items (x ∷ (xs ++ item ∷ []))) 64) (all_alike false e)

-- where they are alike all are of one kind, and only their bytes count
pub joins_alike : (problem : Parts) (items : List Item) (item : Item) (before next : Fill)
    → Joins problem items item before next → AreAlike before next
    → AreOneKind (items ++ item ∷ [])
    × (is_class (items ++ item ∷ []) ≡ nat_le (bytes_of_items (items ++ item ∷ [])) 64)
joins_alike problem [] item before next j are = absurd (omega (arith, j.some))
joins_alike problem (x ∷ xs) item before next j are =
    (kind_put problem x xs item before next j are, class_put problem x xs item before next j are)

-- else they are no class
pub joins_apart : (problem : Parts) (items : List Item) (item : Item) (before next : Fill)
    → Joins problem items item before next → (AreAlike before next → ⊥) → is_class (items ++ item ∷ []) ≡ false
joins_apart problem [] item before next j not_are = absurd (omega (arith, j.some))
joins_apart problem (x ∷ xs) item before next j not_are = class_apart problem x xs item before next j not_are
