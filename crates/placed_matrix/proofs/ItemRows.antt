-- The item of each row, and the row of each item's first signal.
use Rattle.std.proofs.Common.{◌≡◌, ℕ, ◌<◌, true, false, List, length, get_or, sum_by, sym, ap, subst, ◌∙◌, All, Contains, Option, None, Some, true≢false}
use Rattle.std.specs.Int.{div_ceil}
use Rattle.std.proofs.lemmas.Bool.{eqb-true, false_from_ne_true}
use Rattle.pack_model.specs.declared.signal.Signal.{Signal}
use Rattle.pack_model.specs.declared.item.Item.{Item}
use Rattle.pack_model.specs.Signal.{same_pdu}
use Rattle.pack_model.specs.Problem.{IsSorted}
use Rattle.pack_model.proofs.ItemFacts.{in_an_item, members_pdu, bits_of_pdu}
use Rattle.placed_matrix.specs.Placed.{bytes_of_pdu}
use Rattle.placed_matrix.proofs.ItemsSoFar.{none_kept}

-- the item that the signal at a place is a member of
pub record ItemAt (signals : List Signal) (items : List Item) (place : ℕ) (item : Item) : Type 0 where
  pub number : ℕ
  pub within : number < length items
  pub at : item ≡ get_or items number item
  pub member : Contains item.members place
  pub pdu : (d : Signal) → (get_or signals place d).pdu ≡ item.pdu

module _ (signals : List Signal) (items : List Item) (sorted : IsSorted signals items) where
  pub item_at : (place : ℕ) → place < length signals → (item : Item) × ItemAt signals items place item
  item_at place lt =
      let (item, (n, n_in, n_at), (j, j_in, j_at)) = in_an_item signals items sorted place lt in
      let pdus =
      subst (λ (i : Item). All (λ m. (d : Signal) → (get_or signals m d).pdu ≡ i.pdu) i.members) n_at
      (members_pdu signals items sorted n item n_in) in (
        item,
        record {
          number = n;
          within = n_in;
          at = sym n_at;
          member = (j, j_in, j_at);
          pdu = λ d. ap (λ m. (get_or signals m d).pdu) (sym j_at) ∙ pdus j place j_in d;
        },
      )

  -- the bytes of an I-PDU are those of its item
  pub bytes_of_one : (number id : ℕ) (item : Item) → number < length items → item ≡ get_or items number item
      → item.pdu ≡ Some id → div_ceil item.bits 8 ≡ bytes_of_pdu signals id
  bytes_of_one number id item lt at is =
      let bits =
      bits_of_pdu signals items sorted number item lt id (ap (λ (i : Item). i.pdu) (sym at) ∙ is) in
      ap (λ n. div_ceil n 8) (ap (λ (i : Item). i.bits) at ∙ bits)

  -- an I-PDU that no item is has none
  pub bytes_of_none : (id : ℕ)
      → ((k : ℕ) (d : Item) → k < length items → (get_or items k d).pdu ≡ Some id → ⊥)
      → 0 ≡ bytes_of_pdu signals id
  bytes_of_none id none =
      sym (ap (λ l. div_ceil (sum_by (λ (s : Signal). s.bits) l) 8)
      (none_kept (λ (s : Signal). same_pdu (Some id) s.pdu) signals nowhere))
    where
      same : (o : Option ℕ) → same_pdu (Some id) o ≡ true → o ≡ Some id
      same None h = absurd (true≢false (sym h))
      same (Some other) h = ap Some (sym (eqb-true id other h))

      nowhere : (k : ℕ) (d : Signal) → k < length signals
          → same_pdu (Some id) (get_or signals k d).pdu ≡ false
      nowhere k d lt =
          let (item, is) = item_at k lt in
          false_from_ne_true _ (λ h. none is.number item
          is.within (ap (λ (i : Item). i.pdu) (sym is.at) ∙ sym (is.pdu d) ∙ same _ h))
