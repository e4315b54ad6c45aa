-- What the items of a problem are of its signals, for the crates above.
use Rattle.std.proofs.Common.{◌≡◌, ◌≤◌, ◌<◌, ℕ, true, List, [], ◌∷◌, ◌++◌, length, map, filter, get_or, Option, None, Some, All, Contains, sum_by, refl, sym, ap, subst, ◌∙◌, arith, eqb-true, true≢false}
use Rattle.std.specs.Prelude.{slice_get, slice_index_or}
use Rattle.std.specs.List.{filter_map, flat_map, range_with_len, Any}
use Rattle.std.specs.List.Sorted.{IsPermutation}
use Rattle.std.proofs.lemmas.List.{map-append, get_or_default, nil_from_length}
use Rattle.std.proofs.lemmas.List.Elements.{All-map, All-weaker, All-contains, filter_agree}
use Rattle.std.proofs.lemmas.List.Folds.{flat_map-map}
use Rattle.std.proofs.lemmas.List.Sums.{sum_by-cons}
use Rattle.std.proofs.lemmas.List.Sorted.{All-permutation, Contains-permutation, IsPermutation-refl, IsPermutation-map, IsPermutation-trans}
use Rattle.pack_model.specs.declared.signal.Signal.{Signal}
use Rattle.pack_model.specs.declared.item.Item.{Item}
use Rattle.pack_model.specs.Signal.{SignalStands, same_pdu}
use Rattle.pack_model.specs.Problem.{Parts, IsProblem, IsSorted, item_of, items_in_order, firsts_of, placed, same_item, signals_with, is_one_item}
use Rattle.pack_model.proofs.Laws.{element, tests}
use Rattle.pack_model.proofs.ProblemItems.{of_problem, small_pdus, pdu_sender, sender_at}
use Rattle.pack_model.proofs.Classes.{one_class, in_a_class, classes}
use Rattle.pack_model.proofs.Moves.{AtMostOne-map, AtMostOne-permutation, IsPermutation-flat_map}
use Rattle.pack_model.proofs.SameItem.{same_item_equivalence}
use Rattle.pack_model.proofs.PlacedLaws.{IsPlaced, IsHead, heads, all_with, members_same, member_there, placed_there, places_of, Contains-map, pdu_of_one_item, one_item_of_pdu, one_at_most, found_at_places, bits_of_placed, kept_by_signal}

-- the item is that of the signal at a place, which is its first member
pub record IsItemOf (signals : List Signal) (item : Item) : Type 0 where
  pub place : ℕ
  pub signal : Signal
  pub within : place < length signals
  pub at : signal ≡ get_or signals place signal
  pub is : item ≡ item_of signals (place, signal)
  pub rest : List ℕ
  pub members : item.members ≡ place ∷ rest

-- what holds of the item of each first signal holds of the items
of_heads : (signals : List Signal) (P : Item → Type 0)
    → ((e : ℕ × Signal) → IsHead signals e → P (item_of signals e)) → (items : List Item)
    → IsSorted signals items → All P items
of_heads signals P each items sorted =
    All-permutation P (items_in_order signals) items sorted
    (All-map P (item_of signals) (firsts_of signals)
    (All-weaker (IsHead signals) (λ e. P (item_of signals e)) each (firsts_of signals) (heads signals)))

-- a map of joined lists
map-flat_map : {X Y Z : Type 0} (f : Y → Z) (g : X → List Y) (xs : List X)
    → map f (flat_map g xs) ≡ flat_map (λ x. map f (g x)) xs
map-flat_map f g [] = refl
map-flat_map f g (x ∷ xs) = map-append f (g x) (flat_map g xs)
    ∙ ap (λ l. map f (g x) ++ l) (map-flat_map f g xs)

-- an I-PDU's signals are those of its id
of_pdu : (id a : ℕ) (o : Option ℕ) (b : ℕ) → is_one_item (Some id) a o b ≡ same_pdu (Some id) o
of_pdu id a None b = refl
of_pdu id a (Some other) b = refl

-- a free signal is at its own place
place_of_free : (o p : Option ℕ) (a b : ℕ) → o ≡ None → is_one_item o a p b ≡ true → b ≡ a
place_of_free o None a b free same = sym (eqb-true a b (sym (ap (λ x. is_one_item x a None b) free) ∙ same))
place_of_free o (Some other) a b free same =
    absurd (true≢false (sym same ∙ ap (λ x. is_one_item x a (Some other) b) free))

-- a free signal is its item's only one
free_alone : (signals : List Signal) (e : ℕ × Signal) → IsHead signals e → e.1.pdu ≡ None
    → signals_with signals e ≡ e ∷ []
free_alone signals e head free =
    let few =
    one_at_most (same_item e) e.0 0 signals (λ f same. place_of_free e.1.pdu f.1.pdu e.0 f.0 free same) in
    let none : head.rest ≡ [] = nil_from_length head.rest (omega (arith, few, ap length head.first)) in
    head.first ∙ ap (λ l. e ∷ l) none

-- a placed signal of a problem stands
signal_stands : (p : Parts) → IsProblem p → (e : ℕ × Signal) → IsPlaced p.signals e → SignalStands e.1
signal_stands p stands e here = subst SignalStands (sym here.at) (stands.signals e.0 e.1 here.within)

-- each item is that of its first signal
pub items_of_signals : (signals : List Signal) (items : List Item) → IsSorted signals items
    → All (IsItemOf signals) items
items_of_signals signals items sorted =
    of_heads signals (IsItemOf signals)
    (λ e head. record {
      place = e.0;
      signal = e.1;
      within = head.here.within;
      at = head.here.at;
      is =
          refl;
      rest = map (λ f. f.0) head.rest;
      members = ap (map (λ f. f.0)) head.first;
    })
    items sorted

-- its members are places of the list
pub members_within : (signals : List Signal) (items : List Item) → IsSorted signals items
    → All (λ item. All (λ m. m < length signals) item.members) items
members_within signals items sorted =
    of_heads signals (λ item. All (λ m. m < length signals) item.members)
    (λ e head k d lt. (members_same signals e k d lt).0)
    items sorted

-- each signal is in an item
pub in_an_item : (signals : List Signal) (items : List Item) → IsSorted signals items → (place : ℕ)
    → place < length signals → (item : Item) × Contains items item × Contains item.members place
in_an_item signals items sorted place lt =
    let found = element signals place lt in
    let there = placed_there signals place found.0 lt found.1 in
    let (k, e, within, at, same) =
    All-contains (λ f. Any (λ g. same_item f g ≡ true) (firsts_of signals)) (placed signals)
    (place, found.0) (in_a_class same_item same_item_equivalence (placed signals)) there in (
      item_of signals e,
      Contains-permutation (items_in_order signals) items (item_of signals e) sorted
          (Contains-map (item_of signals) (firsts_of signals) e (k, within, at)),
      member_there signals e place found.0 lt found.1
          (same_item_equivalence.symm e (place, found.0) ∙ same),
    )

-- and in no other
pub one_item : (signals : List Signal) (items : List Item) → IsSorted signals items → (i j m : ℕ) (d : Item)
    → i < length items → j < length items → Contains (get_or items i d).members m
    → Contains (get_or items j d).members m → i ≡ j
one_item signals items sorted i j m d lt_i lt_j in_i in_j =
    AtMostOne-permutation (λ item. Contains item.members m) (items_in_order signals) items sorted
    (AtMostOne-map (item_of signals) (λ item. Contains item.members m) (firsts_of signals)
    (λ i j e lt_i lt_j in_i in_j.
    one_class same_item same_item_equivalence (placed signals) i j e lt_i lt_j
    (meet (get_or (firsts_of signals) i e) (get_or (firsts_of signals) j e) in_i in_j)))
    i j d lt_i lt_j in_i in_j
  where
    meet : (e f : ℕ × Signal) → Contains (item_of signals e).members m
        → Contains (item_of signals f).members m → same_item e f ≡ true
    meet e f in_e in_f =
        let P : (ℕ × Signal) → ℕ → Type 0 =
        λ g n. (n < length signals) × ((d : Signal) → same_item g (n, get_or signals n d) ≡ true) in
        let of_e = All-contains (P e) (item_of signals e).members m (members_same signals e) in_e in
        let of_f = All-contains (P f) (item_of signals f).members m (members_same signals f) in_f in
        let x : ℕ × Signal = (m, get_or signals m e.1) in
        sym (same_item_equivalence.congr x e f (same_item_equivalence.symm x e ∙ of_e.1 e.1))
        ∙ same_item_equivalence.symm x f ∙ of_f.1 e.1

-- the items' members are the places of the list, each once
pub each_once : (signals : List Signal) (items : List Item) → IsSorted signals items
    → IsPermutation (range_with_len 0 (length signals)) (flat_map (λ item. item.members) items)
each_once signals items sorted =
    IsPermutation-trans (range_with_len 0 (length signals))
    (flat_map (λ item. item.members) (items_in_order signals))
    (flat_map (λ item. item.members) items) in_order
    (IsPermutation-flat_map (λ (item : Item). item.members) (items_in_order signals) items sorted)
  where
    in_order : IsPermutation (range_with_len 0 (length signals))
        (flat_map (λ item. item.members) (items_in_order signals))
    in_order =
        subst (λ l. IsPermutation l (flat_map (λ item. item.members) (items_in_order signals)))
        (places_of 0 signals)
        (subst (IsPermutation (map (λ e. e.0) (placed signals)))
        (map-flat_map (λ (e : ℕ × Signal). e.0) (signals_with signals) (firsts_of signals)
        ∙ sym (flat_map-map (λ (item : Item). item.members) (item_of signals) (firsts_of signals)))
        (IsPermutation-map (λ (e : ℕ × Signal). e.0) (placed signals)
        (flat_map (signals_with signals) (firsts_of signals))
        (classes same_item same_item_equivalence (placed signals))))

-- a member has the item's I-PDU, or is free where the item is
pub members_pdu : (signals : List Signal) (items : List Item) → IsSorted signals items
    → All (λ item. All (λ m. (d : Signal) → (get_or signals m d).pdu ≡ item.pdu) item.members) items
members_pdu signals items sorted =
    of_heads signals (λ item. All (λ m. (d : Signal) → (get_or signals m d).pdu ≡ item.pdu) item.members)
    (λ e head k n lt d. pdu_of_one_item e.1.pdu _ e.0 _ ((members_same signals e k n lt).1 d))
    items sorted

-- all signals of an I-PDU are in its item
pub pdu_together : (signals : List Signal) (items : List Item) → IsSorted signals items
    → All (λ item. (id : ℕ) → item.pdu ≡ Some id → (place : ℕ) (d : Signal) → place < length signals
    → (get_or signals place d).pdu ≡ Some id → Contains item.members place) items
pdu_together signals items sorted =
    of_heads signals (λ item. (id : ℕ) → item.pdu ≡ Some id → (place : ℕ) (d : Signal)
    → place < length signals → (get_or signals place d).pdu ≡ Some id → Contains item.members place)
    (λ e head id of_id place d lt at_id.
    member_there signals e place (get_or signals place d) lt
    (get_or_default signals place d (get_or signals place d) lt)
    (one_item_of_pdu e.1.pdu (get_or signals place d).pdu e.0 place id of_id at_id))
    items sorted

-- no two items are of one I-PDU
pub pdus_differ : (signals : List Signal) (items : List Item) → IsSorted signals items
    → (i j id : ℕ) (d : Item) → i < length items → j < length items → (get_or items i d).pdu ≡ Some id
    → (get_or items j d).pdu ≡ Some id → i ≡ j
pdus_differ signals items sorted i j id d lt_i lt_j of_i of_j =
    AtMostOne-permutation (λ item. item.pdu ≡ Some id) (items_in_order signals) items sorted
    (AtMostOne-map (item_of signals) (λ item. item.pdu ≡ Some id) (firsts_of signals)
    (λ i j e lt_i lt_j of_i of_j.
    one_class same_item same_item_equivalence (placed signals) i j e lt_i lt_j
    (one_item_of_pdu _ _ _ _ id of_i of_j)))
    i j d lt_i lt_j of_i of_j

-- a free item is one signal alone
pub alone : (signals : List Signal) (items : List Item) → IsSorted signals items
    → All (λ item. item.pdu ≡ None → (m : ℕ) × (item.members ≡ m ∷ [])) items
alone signals items sorted =
    of_heads signals (λ item. item.pdu ≡ None → (m : ℕ) × (item.members ≡ m ∷ []))
    (λ e head free. (e.0, ap (map (λ f. f.0)) (free_alone signals e head free)))
    items sorted

-- an item has the bits of its members
pub bits_of_members : (signals : List Signal) (items : List Item) → IsSorted signals items
    → All (λ item. item.bits ≡ sum_by (λ signal. signal.bits)
    (filter_map (slice_get signals) item.members)) items
bits_of_members signals items sorted =
    of_heads signals (λ item. item.bits
    ≡ sum_by (λ signal. signal.bits) (filter_map (slice_get signals) item.members))
    (λ e head. sym (ap (sum_by (λ signal. signal.bits))
    (found_at_places signals (signals_with signals e)
    (all_with signals e (IsPlaced signals) (λ f here same. here)))
    ∙ bits_of_placed (signals_with signals e)))
    items sorted

-- an I-PDU has the bits of its signals
pub bits_of_pdu : (signals : List Signal) (items : List Item) → IsSorted signals items
    → All (λ item. (id : ℕ) → item.pdu ≡ Some id
    → item.bits ≡ sum_by (λ signal. signal.bits)
    (filter (λ signal. same_pdu (Some id) signal.pdu) signals)) items
bits_of_pdu signals items sorted =
    of_heads signals (λ item. (id : ℕ) → item.pdu ≡ Some id
    → item.bits ≡ sum_by (λ signal. signal.bits)
    (filter (λ signal. same_pdu (Some id) signal.pdu) signals))
    (λ e head id of_id. bits_of_head e id of_id)
    items sorted
  where
    bits_of_head : (e : ℕ × Signal) (id : ℕ) → e.1.pdu ≡ Some id
        → (item_of signals e).bits
        ≡ sum_by (λ signal. signal.bits) (filter (λ signal. same_pdu (Some id) signal.pdu) signals)
    bits_of_head e id of_id =
        ap (sum_by (λ f. f.1.bits))
        (filter_agree (same_item e) (λ f. same_pdu (Some id) f.1.pdu)
        (λ f. ap (λ o. is_one_item o e.0 f.1.pdu f.0) of_id ∙ of_pdu id e.0 f.1.pdu f.0) (placed signals))
        ∙ sym (bits_of_placed (filter (λ f. same_pdu (Some id) f.1.pdu) (placed signals)))
        ∙ ap (sum_by (λ signal. signal.bits))
        (kept_by_signal (λ signal. same_pdu (Some id) signal.pdu) 0 signals)

-- an item has a bit, and no more than a frame
pub some_bits : (p : Parts) → IsProblem p → All (λ item. 1 ≤ item.bits) p.items
some_bits p stands =
    of_problem p stands (λ item. 1 ≤ item.bits)
    (of_heads p.signals (λ item. 1 ≤ item.bits)
    (λ e head.
    omega (
      arith,
      (signal_stands p stands e head.here).bits_low,
      ap (sum_by (λ (f : ℕ × Signal). f.1.bits)) head.first,
      sum_by-cons (λ (f : ℕ × Signal). f.1.bits) e head.rest,
    ))
    (items_in_order p.signals) (IsPermutation-refl (items_in_order p.signals)))

pub small_items : (p : Parts) → IsProblem p → All (λ item. item.bits ≤ 512) p.items
small_items p stands =
    of_problem p stands (λ item. item.bits ≤ 512)
    (λ k d lt. by (get_or (items_in_order p.signals) k d) (get_or (items_in_order p.signals) k d).pdu refl
    (small_pdus p stands k d lt) (small_free k d lt))
  where
    small_free : All (λ item. item.pdu ≡ None → item.bits ≤ 512) (items_in_order p.signals)
    small_free =
        of_heads p.signals (λ item. item.pdu ≡ None → item.bits ≤ 512)
        (λ e head free.
        omega (
          arith,
          (signal_stands p stands e head.here).bits_high,
          ap (sum_by (λ (f : ℕ × Signal). f.1.bits)) (free_alone p.signals e head free),
          sum_by-cons (λ (f : ℕ × Signal). f.1.bits) e [],
        ))
        (items_in_order p.signals) (IsPermutation-refl (items_in_order p.signals))

    by : (item : Item) (o : Option ℕ) → item.pdu ≡ o → ((id : ℕ) → item.pdu ≡ Some id → item.bits ≤ 512)
        → (item.pdu ≡ None → item.bits ≤ 512) → item.bits ≤ 512
    by item None is pdu free = free is
    by item (Some id) is pdu free = pdu id is

-- a member has the item's sender
pub members_sender : (p : Parts) → IsProblem p
    → All (λ item. All (λ m. (d : Signal)
    → (get_or p.signals m d).sender ≡ slice_index_or p.senders item.sender []) item.members) p.items
members_sender p stands =
    of_problem p stands (λ item.
    All (λ m. (d : Signal) → (get_or p.signals m d).sender
    ≡ slice_index_or p.senders item.sender []) item.members)
    (of_heads p.signals (λ item.
    All (λ m. (d : Signal) → (get_or p.signals m d).sender
    ≡ slice_index_or p.senders item.sender []) item.members)
    (λ e head k n lt d. of_member e head.here (get_or (item_of p.signals e).members k n)
    (members_same p.signals e k n lt).0 d ((members_same p.signals e k n lt).1 d))
    (items_in_order p.signals) (IsPermutation-refl (items_in_order p.signals)))
  where
    -- a signal of the item has its first signal's sender
    of_first : (e : ℕ × Signal) → IsPlaced p.signals e → (o : Option ℕ) → e.1.pdu ≡ o → (m : ℕ)
        → m < length p.signals → (d : Signal) → same_item e (m, get_or p.signals m d) ≡ true
        → (get_or p.signals m d).sender ≡ (get_or p.signals e.0 d).sender
    of_first e here None is m lt d same =
        ap (λ n. (get_or p.signals n d).sender)
        (place_of_free e.1.pdu (get_or p.signals m d).pdu e.0 m is same)
    of_first e here (Some id) is m lt d same =
        pdu_sender p.signals (tests p stands).one_sender m e.0 id d lt here.within (pdu_of_one_item e.1.pdu
        (get_or p.signals m d).pdu e.0 m same ∙ is)
        (ap (λ (s : Signal). s.pdu) (get_or_default p.signals e.0 d e.1 here.within ∙ sym here.at) ∙ is)

    of_member : (e : ℕ × Signal) → IsPlaced p.signals e → (m : ℕ) → m < length p.signals → (d : Signal)
        → same_item e (m, get_or p.signals m d) ≡ true
        → (get_or p.signals m d).sender ≡ get_or p.senders (item_of p.signals e).sender []
    of_member e here m lt d same =
        of_first e here e.1.pdu refl m lt d same
        ∙ ap (λ (s : Signal). s.sender) (get_or_default p.signals e.0 d e.1 here.within ∙ sym here.at)
        ∙ sym (sender_at p.signals e.0 e.1 here.within here.at)
        ∙ sym (ap (λ l. get_or l (item_of p.signals e).sender []) (tests p stands).senders)
