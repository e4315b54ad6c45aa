-- Sums of few small items are in range.
use Rattle.std.proofs.Common.{ℕ, ◌*◌, ◌≤◌, List, [], ◌∷◌, length, sum_by, All, Bool, true, false, arith, if◌then◌else◌}
use Rattle.std.proofs.lemmas.List.Sums.{sum_by-cons}
use Rattle.std.proofs.lemmas.List.Elements.{All-head, All-tail, All-weaker}
use Rattle.pack_model.specs.declared.item.Item.{Item}
use Rattle.pack_model.specs.Problem.{Parts}
use Rattle.class_frame.specs.Frame.{bytes_of_item, is_pdu, weight_of_item}
use Rattle.class_frame.specs.Sums.{sums_of, IsSmall}
use Rattle.class_frame.proofs.Standing.{length-ids}

-- a sum of small numbers
sum_bound : {X : Type 0} (f : X → ℕ) (most : ℕ) (xs : List X) → All (λ x. f x ≤ most) xs → sum_by f xs ≤ most * length xs
sum_bound f most [] all = omega arith
sum_bound {X} f most (x ∷ xs) all = omega (arith, sum_by-cons f x xs, All-head (λ (y : X). f y ≤ most) x xs all, sum_bound f most xs (All-tail (λ (y : X). f y ≤ most) x xs all))

bytes_low : (item : Item) → item.bits ≤ 512 → bytes_of_item item ≤ 64
bytes_low item small = grind arith

weight_low : (item : Item) → item.bits ≤ 512 → weight_of_item item ≤ 512
weight_low item small = by (is_pdu item)
  where
    by : (b : Bool) → (if b then 8 * bytes_of_item item else item.bits) ≤ 512
    by true = let low = bytes_low item small in omega arith
    by false = small

-- sums of at most 128 items of at most 512 bits
pub sums_of-small : (problem : Parts) (items : List Item) → length items ≤ 128 → All (λ item. item.bits ≤ 512) items → IsSmall (sums_of problem items)
sums_of-small problem items few small = record {
  items = few;
  pdus = omega (arith, length-ids items);
  bits = omega (arith, sum_bound (λ (item : Item). item.bits) 512 items small);
  bytes = omega (arith, sum_bound bytes_of_item 64 items (All-weaker (λ (item : Item). item.bits ≤ 512) (λ item. bytes_of_item item ≤ 64) bytes_low items small));
  weight = omega (arith, sum_bound weight_of_item 512 items (All-weaker (λ (item : Item). item.bits ≤ 512) (λ item. weight_of_item item ≤ 512) weight_low items small));
}
