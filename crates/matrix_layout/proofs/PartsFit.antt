-- The parts of a frame lie in it.
use Rattle.std.proofs.Common.{◌≡◌, ℕ, ◌+◌, ◌*◌, ◌<◌, ◌≤◌, List, [], ◌∷◌, ◌++◌, length, sum, sum_by, All, refl, sym, ap, ◌∙◌, arith}
use Rattle.std.specs.List.{slice_get}
use Rattle.std.proofs.lemmas.Grind.{div_ceil_times}
use Rattle.std.proofs.lemmas.List.Elements.{All-nil, All-cons, All-head, All-tail, All-append, filter_map-append}
use Rattle.std.proofs.lemmas.List.Sums.{sum_by-cons, sum_by-append}
use Rattle.pack_model.specs.declared.signal.Signal.{Signal}
use Rattle.pack_model.specs.declared.item.Item.{Item}
use Rattle.pack_model.specs.Problem.{Parts, IsProblem, IsSorted}
use Rattle.pack_model.proofs.ItemFacts.{bits_of_members, members_within, small_items}
use Rattle.container_pdu.specs.declared.header.Header.{Header}
use Rattle.container_pdu.specs.declared.header.Header.TheVariants.{NoHeader, Short, Long}
use Rattle.container_pdu.specs.Bytes.{header_bytes}
use Rattle.class_frame.specs.Legal.{ClassStands}
use Rattle.class_frame.specs.Frame.{bytes_of_item, header_of_items}
use Rattle.matrix_layout.specs.ClassItems.{bits_of_items, bytes_with, places_of_items}
use Rattle.matrix_layout.specs.LaidOut.{FramePart, parts_from, parts_of_items, parts_with, signals_at, widths_of}
use Rattle.matrix_layout.proofs.ClassLaws.{few_bits, few_under_headers}

-- the members of an item are places of the list, and have its bits
pub record ItemFits (signals : List Signal) (item : Item) : Type 0 where
  pub inside : All (λ p. p < length signals) item.members
  pub bits : item.bits ≡ sum_by (λ signal. signal.bits) (signals_at signals item.members)
  pub small : item.bits ≤ 512

-- so it is with all items of a problem
pub items_fit : (problem : Parts) → IsProblem problem → IsSorted problem.signals problem.items
    → All (ItemFits problem.signals) problem.items
items_fit problem stands sorted = λ k d lt. record {
  inside = members_within problem.signals problem.items sorted k d lt;
  bits = bits_of_members problem.signals problem.items sorted k d lt;
  small = small_items problem stands k d lt;
}

-- a part's places are of the list, and its signals end within the frame
pub record PartFits (signals : List Signal) (part : FramePart) : Type 0 where
  pub inside : All (λ p. p < length signals) part.places
  pub room : 8 * part.at + sum (widths_of (signals_at signals part.places)) ≤ 512

-- the widths of signals together
sum-widths : (signals : List Signal) → sum (widths_of signals) ≡ sum_by (λ signal. signal.bits) signals
sum-widths [] = refl
sum-widths (s ∷ signals) = sum_by-cons (λ y. y) s.bits (widths_of signals)
    ∙ ap (λ n. s.bits + n) (sum-widths signals) ∙ sym (sum_by-cons (λ (t : Signal). t.bits) s signals)

-- the signals of an item have its bits
pub bits_at_item : (signals : List Signal) (item : Item) → ItemFits signals item
    → sum (widths_of (signals_at signals item.members)) ≡ item.bits
bits_at_item signals item fits = sum-widths (signals_at signals item.members) ∙ sym fits.bits

-- those of items theirs
pub bits_at_items : (signals : List Signal) (items : List Item) → All (ItemFits signals) items
    → sum (widths_of (signals_at signals (places_of_items items))) ≡ bits_of_items items
bits_at_items signals [] all = refl
bits_at_items signals (item ∷ items) all =
    let fits = All-head (ItemFits signals) item items all in
    sum-widths (signals_at signals (item.members ++ places_of_items items))
    ∙ ap (sum_by (λ (s : Signal). s.bits))
    (filter_map-append (slice_get signals) item.members (places_of_items items))
    ∙ sum_by-append (λ (s : Signal). s.bits) (signals_at signals item.members)
    (signals_at signals (places_of_items items))
    ∙ ap (λ n. n + sum_by (λ (s : Signal). s.bits) (signals_at signals (places_of_items items)))
    (sym fits.bits)
    ∙ ap (λ n. item.bits + n)
    (sym (sum-widths (signals_at signals (places_of_items items)))
    ∙ bits_at_items signals items (All-tail (ItemFits signals) item items all))
    ∙ sym (sum_by-cons (λ (y : Item). y.bits) item items)

-- the places of items are of the list
pub items_inside : (signals : List Signal) (items : List Item) → All (ItemFits signals) items
    → All (λ p. p < length signals) (places_of_items items)
items_inside signals [] all = All-nil (λ p. p < length signals)
items_inside signals (item ∷ items) all =
    All-append (λ p. p < length signals) item.members (places_of_items items)
    (All-head (ItemFits signals) item items all).inside
    (items_inside signals items (All-tail (ItemFits signals) item items all))

-- an item after its header ends where its bytes do
pub part_room : (signals : List Signal) (item : Item) (at : ℕ) → ItemFits signals item
    → at + bytes_of_item item ≤ 64 → 8 * at + sum (widths_of (signals_at signals item.members)) ≤ 512
part_room signals item at fits small =
    omega (arith, bits_at_item signals item fits, div_ceil_times item.bits 8 (omega arith))

-- the parts of a container
parts_from_fit : (signals : List Signal) (kind : Header) (next : ℕ) (items : List Item)
    → All (ItemFits signals) items → next + bytes_with kind items ≤ 64
    → All (PartFits signals) (parts_from kind next items)
parts_from_fit signals kind next [] all few = All-nil (PartFits signals)
parts_from_fit signals kind next (item ∷ items) all few =
    let sum = sum_by-cons (λ (y : Item). header_bytes kind + bytes_of_item y) item items in
    let fits = All-head (ItemFits signals) item items all in
    All-cons (PartFits signals) _ (parts_from kind (next + header_bytes kind + bytes_of_item item) items)
    (record {
      inside = fits.inside;
      room = part_room signals item (next + header_bytes kind) fits (omega (arith, sum));
    })
    (parts_from_fit signals kind (next + header_bytes kind + bytes_of_item item) items
    (All-tail (ItemFits signals) item items all) (omega (arith, sum)))

-- the part of a frame without headers
pub one_part_fits : (signals : List Signal) (items : List Item) → All (ItemFits signals) items
    → ClassStands items → header_of_items items ≡ NoHeader
    → PartFits signals (record { at = 0; places = places_of_items items })
one_part_fits signals items all stands headers = record {
  inside = items_inside signals items all;
  room =
      omega (
        arith,
        bits_at_items signals items all,
        few_bits items stands (λ k d lt. (all k d lt).small) headers,
      );
}

-- the parts of the frame of a class
pub parts_fit : (signals : List Signal) (items : List Item) → All (ItemFits signals) items → ClassStands items
    → All (PartFits signals) (parts_of_items items)
parts_fit signals items all stands = by (header_of_items items) refl
  where
    by : (kind : Header) → header_of_items items ≡ kind → All (PartFits signals) (parts_with kind items)
    by NoHeader e =
        All-cons (PartFits signals) _ [] (one_part_fits signals items all stands e)
        (All-nil (PartFits signals))
    by Short e =
        let few =
        few_under_headers items stands (λ none. let wrong : Short ≡ NoHeader = sym e ∙ none in cc) in
        parts_from_fit signals Short 0 items all (omega (arith, few, ap (λ kind. bytes_with kind items) e))
    by Long e =
        let few = few_under_headers items stands (λ none. let wrong : Long ≡ NoHeader = sym e ∙ none in cc) in
        parts_from_fit signals Long 0 items all (omega (arith, few, ap (λ kind. bytes_with kind items) e))

-- the parts of a frame with headers
pub parts_with-headers : (kind : Header) (items : List Item) → (kind ≡ NoHeader → ⊥)
    → parts_with kind items ≡ parts_from kind 0 items
parts_with-headers NoHeader items headers = absurd (headers refl)
parts_with-headers Short items headers = refl
parts_with-headers Long items headers = refl
