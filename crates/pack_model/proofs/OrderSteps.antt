-- The items in order, from the places of their signals.
use Rattle.std.proofs.Common.{◌≡◌, ◌≤◌, ◌<◌, ◌+◌, ℕ, true, filter, List, [], ◌∷◌, ◌++◌, length, map, get_or, sum_by, slice_index, None, refl, sym, ap, subst, ◌∙◌, arith, All, append_assoc, append-nil}
use Rattle.std.specs.List.{list_any, position_or_len, enumerate_from}
use Rattle.std.specs.Str.{bytes_eq}
use Rattle.std.proofs.lemmas.List.{take_all, length-map, get_or-map, get_or_default, nil_from_length}
use Rattle.std.proofs.lemmas.List.FromFn.{length-enumerate_from}
use Rattle.std.proofs.lemmas.List.Sums.{sum_by-cons, length-filter, count_by-le-length}
use Rattle.std.proofs.lemmas.List.Elements.{All-nil, All-cons, All-head, All-tail, All-map, All-filter}
use Rattle.pack_model.specs.declared.signal.Signal.{Signal}
use Rattle.pack_model.specs.declared.item.Item.{Item}
use Rattle.pack_model.specs.Items.{places_with, places_by_item, item_at, IsPlaces}
use Rattle.pack_model.specs.Problem.{placed, same_item, firsts_of, senders_of, item_of, items_in_order}
use Rattle.pack_model.proofs.ListLaws.{first_place}
use Rattle.pack_model.proofs.Numbering.{senders_there}
use Rattle.pack_model.proofs.Classes.{All-distinct}
use Rattle.pack_model.proofs.Groups.{heads}
use Rattle.pack_model.proofs.Clashes.{StandsBefore, placed_before}

-- each signal stands at its place
placed_stand : (signals : List Signal) → All (StandsBefore signals (length signals)) (placed signals)
placed_stand signals =
    let long : length (placed signals) ≤ length signals = simp length-enumerate_from (omega arith) in
    subst (All (StandsBefore signals (length signals))) (take_all (length signals) (placed signals) long)
    (placed_before signals (length signals) (omega arith))

-- a list that shows its first element at every default has one
some_of : (xs : List ℕ) (n : ℕ) → ((d : ℕ) → get_or xs 0 d ≡ n) → 0 < length xs
some_of [] n first = let here = first (n + 1) in absurd (omega arith)
some_of (x ∷ xs) n first = omega arith

-- the places of each item's signals are some, few, and in the list
pub groups_are_places : (signals : List Signal) → length signals ≤ 2048
    → All (IsPlaces signals) (places_by_item signals)
groups_are_places signals few =
    All-map (IsPlaces signals) (places_with (placed signals)) (firsts_of signals)
    (λ k d lt.
    let f : ℕ × Signal = get_or (firsts_of signals) k d in
    let count =
    length-map (filter (same_item (get_or (firsts_of signals) k d)) (placed signals))
    (λ (g : ℕ × Signal). g.0) in
    let all = length-enumerate_from 0 signals in
    record {
      some = some_of (places_with (placed signals) f) f.0 (heads (placed signals) k d lt);
      short =
          omega (
            arith,
            length-filter (same_item (get_or (firsts_of signals) k d)) (placed signals),
            count_by-le-length (same_item (get_or (firsts_of signals) k d)) (placed signals),
          );
      inside =
          All-map (λ p. p < length signals) (λ (g : ℕ × Signal). g.0) (filter (same_item f) (placed signals))
          (λ j e within. (All-filter (same_item f) (StandsBefore signals (length signals)) (placed signals)
          (placed_stand signals) j e within).before);
    })

-- the bits at the places of signals
bits_at_places : (signals : List Signal) (es : List (ℕ × Signal))
    → All (StandsBefore signals (length signals)) es
    → sum_by (slice_index (map (λ s. s.bits) signals)) (map (λ e. e.0) es) ≡ sum_by (λ e. e.1.bits) es
bits_at_places signals [] all = refl
bits_at_places signals (e ∷ es) all =
    let stands = All-head (StandsBefore signals (length signals)) e es all in
    let here : get_or (map (λ (s : Signal). s.bits) signals) e.0 0 ≡ e.1.bits =
    get_or-map (λ (s : Signal). s.bits) signals e.0 e.1 0 stands.before
    ∙ ap (λ (s : Signal). s.bits) (sym stands.at) in
    sum_by-cons (slice_index (map (λ (s : Signal). s.bits) signals)) e.0 (map (λ (f : ℕ × Signal). f.0) es)
    ∙ ap (λ n. n + sum_by (slice_index (map (λ (s : Signal). s.bits) signals))
    (map (λ (f : ℕ × Signal). f.0) es)) here
    ∙ ap (λ n. e.1.bits + n) (bits_at_places signals es
    (All-tail (StandsBefore signals (length signals)) e es all))
    ∙ sym (sum_by-cons (λ (f : ℕ × Signal). f.1.bits) e es)

-- the item at the places of an item's signals is the item
item_at_places : (signals : List Signal) (f : ℕ × Signal) → StandsBefore signals (length signals) f
    → ((d : ℕ) → get_or (places_with (placed signals) f) 0 d ≡ f.0)
    → item_at signals (senders_of signals) (places_with (placed signals) f) ≡ item_of signals f
item_at_places signals f stands first =
    let sender : get_or (map (λ (s : Signal). s.sender) signals)
    (get_or (places_with (placed signals) f) 0 0) [] ≡ f.1.sender =
    ap (λ n. get_or (map (λ (s : Signal). s.sender) signals) n []) (first 0)
    ∙ get_or-map (λ (s : Signal). s.sender) signals f.0 f.1 [] stands.before
    ∙ ap (λ (s : Signal). s.sender) (sym stands.at) in
    let pdu : get_or (map (λ (s : Signal). s.pdu) signals) (get_or (places_with (placed signals) f) 0 0) None
    ≡ f.1.pdu = ap (λ n. get_or (map (λ (s : Signal). s.pdu) signals) n None) (first 0)
    ∙ get_or-map (λ (s : Signal). s.pdu) signals f.0 f.1 None stands.before
    ∙ ap (λ (s : Signal). s.pdu) (sym stands.at) in
    let bits =
    bits_at_places signals (filter (same_item f) (placed signals))
    (All-filter (same_item f) (StandsBefore signals (length signals)) (placed signals)
    (placed_stand signals)) in
    λ i. record {
      sender = position_or_len (bytes_eq (sender i)) (senders_of signals);
      pdu = pdu i;
      members =
          places_with (placed signals) f;
      bits = bits i;
    }

-- two maps that agree at each element of a list
map_agree : {X Y Z : Type 0} (h : Y → Z) (g : X → Y) (k : X → Z) (xs : List X) → All (λ x. h (g x) ≡ k x) xs
    → map h (map g xs) ≡ map k xs
map_agree h g k [] all = refl
map_agree h g k (x ∷ xs) all =
    let here = All-head (λ x. h (g x) ≡ k x) x xs all in
    let rest = map_agree h g k xs (All-tail (λ x. h (g x) ≡ k x) x xs all) in
    λ i. here i ∷ rest i

-- the items at the places of each item are the items in order
pub items_at_places : (signals : List Signal)
    → map (item_at signals (senders_of signals)) (places_by_item signals) ≡ items_in_order signals
items_at_places signals =
    map_agree (item_at signals (senders_of signals)) (places_with (placed signals)) (item_of signals)
    (firsts_of signals)
    (λ k d lt. item_at_places signals (get_or (firsts_of signals) k d)
    (All-distinct same_item (StandsBefore signals (length signals)) (placed signals)
    (placed_stand signals) k d lt) (heads (placed signals) k d lt))

with_places : (P : Signal → Type 0) (n : ℕ) (xs : List Signal) → All P xs
    → All (λ (e : ℕ × Signal). P e.1) (enumerate_from n xs)
with_places P n [] all = λ k d lt. absurd (omega arith)
with_places P n (x ∷ xs) all =
    All-cons (λ (e : ℕ × Signal). P e.1) (n, x) (enumerate_from (n + 1) xs) (All-head P x xs all)
    (with_places P (n + 1) xs (All-tail P x xs all))

-- each item's sender has a number below the number of senders
pub all_numbered : (signals : List Signal)
    → All (λ item. item.sender < length (senders_of signals)) (items_in_order signals)
all_numbered signals =
    All-map (λ item. item.sender < length (senders_of signals)) (item_of signals) (firsts_of signals)
    (λ k d lt. first_place (bytes_eq (get_or (firsts_of signals) k d).1.sender) (senders_of signals)
    (All-distinct same_item (λ (e : ℕ × Signal). list_any (bytes_eq e.1.sender) (senders_of signals) ≡ true)
    (placed signals) (with_places
    (λ s. list_any (bytes_eq s.sender) (senders_of signals) ≡ true) 0 signals
    (senders_there signals)) k d lt))

-- what holds of each value of a map
pub All-of_map : {X Y : Type 0} (P : Y → Type 0) (f : X → Y) (xs : List X) → All P (map f xs)
    → All (λ x. P (f x)) xs
All-of_map P f [] all = All-nil (λ x. P (f x))
All-of_map P f (x ∷ xs) all =
    All-cons (λ x. P (f x)) x xs (All-head P (f x) (map f xs) all)
    (All-of_map P f xs (All-tail P (f x) (map f xs) all))

-- an item that is made from its first signal, its members and their bits
pub item_at_is : (signals : List Signal) (places : List ℕ) (k : ℕ) (first : Signal) (number : ℕ)
    (members : List ℕ) (bits : ℕ) → 0 < length places → k < length signals → k ≡ get_or places 0 k
    → first ≡ get_or signals k first → number ≡ position_or_len (bytes_eq first.sender) (senders_of signals)
    → members ≡ places → bits ≡ sum_by (slice_index (map (λ s. s.bits) signals)) places
    → (let made : Item = record { sender = number; pdu = first.pdu; members = members; bits = bits } in
    made ≡ item_at signals (senders_of signals) places)
item_at_is signals places k first number members bits some inside at is numbered same sum =
    let zeroth : get_or places 0 0 ≡ k = get_or_default places 0 0 k some ∙ sym at in
    let sender : get_or (map (λ (s : Signal). s.sender) signals) (get_or places 0 0) [] ≡ first.sender =
    ap (λ n. get_or (map (λ (s : Signal). s.sender) signals) n []) zeroth
    ∙ get_or-map (λ (s : Signal). s.sender) signals k first [] inside
    ∙ ap (λ (s : Signal). s.sender) (sym is) in
    let pdu : get_or (map (λ (s : Signal). s.pdu) signals) (get_or places 0 0) None ≡ first.pdu =
    ap (λ n. get_or (map (λ (s : Signal). s.pdu) signals) n None) zeroth
    ∙ get_or-map (λ (s : Signal). s.pdu) signals k first None inside
    ∙ ap (λ (s : Signal). s.pdu) (sym is) in
    let number_is : number ≡ position_or_len
    (bytes_eq (get_or (map (λ (s : Signal). s.sender) signals) (get_or places 0 0) []))
    (senders_of signals) = numbered
    ∙ ap (λ name. position_or_len (bytes_eq name) (senders_of signals)) (sym sender) in
    λ i. record { sender = number_is i; pdu = sym pdu i; members = same i; bits = sum i }

map_both : {X Y Z : Type 0} (h : Y → Z) (g : X → Y) (xs : List X) → map (λ x. h (g x)) xs ≡ map h (map g xs)
map_both h g [] = refl
map_both h g (x ∷ xs) = ap (λ zs. h (g x) ∷ zs) (map_both h g xs)

-- the loop over the lists of places
module _ {X : Type 0} (list : X → List ℕ) (signals : List Signal) where
  -- the items so far and those at the places that are left are all items
  pub record IsSplit (items : List Item) (rest : List X) : Type 0 where
    pub whole : items ++ map (λ x. item_at signals (senders_of signals) (list x)) rest
        ≡ items_in_order signals
    pub places : All (λ x. IsPlaces signals (list x)) rest

  pub split_begins : (items : List Item) (rest lists : List X) → length signals ≤ 2048 → items ≡ []
      → rest ≡ lists → map list lists ≡ places_by_item signals → IsSplit items rest
  split_begins items rest lists few none is by_item =
      let same : map list rest ≡ places_by_item signals = ap (map list) is ∙ by_item in
      record {
        whole = ap (λ l. l ++ map (λ x. item_at signals (senders_of signals) (list x)) rest) none
            ∙ map_both (item_at signals (senders_of signals)) list rest
            ∙ ap (map (item_at signals (senders_of signals))) same ∙ items_at_places signals;
        places =
            All-of_map (IsPlaces signals) list rest
            (subst (All (IsPlaces signals)) (sym same) (groups_are_places signals few));
      }

  pub split_head : (items : List Item) (rest next : List X) (x : X) → IsSplit items rest → rest ≡ x ∷ next
      → IsPlaces signals (list x)
  split_head items rest next x split is =
      All-head (λ x. IsPlaces signals (list x)) x next
      (subst (All (λ x. IsPlaces signals (list x))) is split.places)

  pub split_more : (items now : List Item) (rest next : List X) (x : X) (item : Item) → IsSplit items rest
      → rest ≡ x ∷ next → item ≡ item_at signals (senders_of signals) (list x) → now ≡ items ++ item ∷ []
      → IsSplit now next
  split_more items now rest next x item split is made pushed =
      record {
        whole =
            ap (λ l. l ++ map (λ y. item_at signals (senders_of signals) (list y)) next)
            (pushed ∙ ap (λ i. items ++ i ∷ []) made)
            ∙ append_assoc items (item_at signals (senders_of signals) (list x) ∷ [])
            (map (λ y. item_at signals (senders_of signals) (list y)) next)
            ∙ sym (ap (λ xs. items ++ map (λ y. item_at signals (senders_of signals) (list y)) xs) is)
            ∙ split.whole;
        places =
            All-tail (λ y. IsPlaces signals (list y)) x next
            (subst (All (λ y. IsPlaces signals (list y))) is split.places);
      }

  pub split_ends : (items : List Item) (rest : List X) → IsSplit items rest → length rest ≡ 0
      → items ≡ items_in_order signals
  split_ends items rest split none = sym (append-nil items)
      ∙ sym (ap (λ xs. items ++ map (λ y. item_at signals (senders_of signals) (list y)) xs)
      (nil_from_length rest none)) ∙ split.whole
