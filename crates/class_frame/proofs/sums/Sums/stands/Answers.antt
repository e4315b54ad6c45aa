use Rattle.std.proofs.Common.{◌≡◌, ◌≤◌, ℕ, List, All, ◌⊎◌, inl, inr, length, ap, sym, ◌∙◌, arith}
use Rattle.pack_model.specs.declared.item.Item.{Item}
use Rattle.pack_model.specs.Problem.{Parts}
use Rattle.class_frame.specs.Legal.{ClassStands}
use Rattle.class_frame.specs.Frame.{ids_of, bytes_of_items}
use Rattle.class_frame.specs.declared.sums.Sums.{Sums}
use Rattle.class_frame.specs.Sums.{AreSums, IsOneFrame, top}
use Rattle.class_frame.proofs.Folds.{same_from_ends, ends_from_same}
use Rattle.class_frame.proofs.Standing.{kind_from_count, count_from_kind}
use Rattle.class_frame.proofs.sums.Sums.stands.Goals as goal

class_from : (problem : Parts) (items : List Item) (sums : Sums) (bytes : ℕ) → AreSums problem items sums → bytes ≡ bytes_of_items items → IsOneFrame sums bytes → ClassStands items
class_from problem items sums bytes is same one = record {
  one_sender = same_from_ends (λ (item : Item). item.sender) items (omega (arith, one.one_sender, ap (λ (s : Sums). s.first_sender) is, ap (λ (s : Sums). s.last_sender) is));
  one_kind = kind_from_count items (by one.one_kind);
  small = omega (arith, same, one.small);
}
  where
    by : (sums.pdus ≡ 0) ⊎ (sums.pdus ≡ sums.items) → (length (ids_of items) ≡ 0) ⊎ (length (ids_of items) ≡ length items)
    by (inl none) = inl (sym (ap (λ (s : Sums). s.pdus) is) ∙ none)
    by (inr all) = inr (sym (ap (λ (s : Sums). s.pdus) is) ∙ all ∙ ap (λ (s : Sums). s.items) is)

one_from : (problem : Parts) (items : List Item) (sums : Sums) (bytes : ℕ) → AreSums problem items sums → All (λ item. item.sender ≤ top) items → bytes ≡ bytes_of_items items → ClassStands items → IsOneFrame sums bytes
one_from problem items sums bytes is low same stands = record {
  one_sender = omega (arith, ends_from_same (λ (item : Item). item.sender) items low stands.one_sender, ap (λ (s : Sums). s.first_sender) is, ap (λ (s : Sums). s.last_sender) is);
  one_kind = by (count_from_kind items stands.one_kind);
  small = omega (arith, same, stands.small);
}
  where
    by : (length (ids_of items) ≡ 0) ⊎ (length (ids_of items) ≡ length items) → (sums.pdus ≡ 0) ⊎ (sums.pdus ≡ sums.items)
    by (inl none) = inl (ap (λ (s : Sums). s.pdus) is ∙ none)
    by (inr all) = inr (ap (λ (s : Sums). s.pdus) is ∙ all ∙ sym (ap (λ (s : Sums). s.items) is))

pub returns : goal.returns
returns c = λ problem items is low.
    let bytes = c.frame_bytes.ensures problem items is in
    (λ holds. class_from problem items c.args.self c.frame_bytes.result is bytes (c.is_one_frame.ensures.0 holds), λ stands. c.is_one_frame.ensures.1 (one_from problem items c.args.self c.frame_bytes.result is low bytes stands))
