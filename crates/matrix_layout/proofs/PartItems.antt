-- The parts of a frame of items: which item each of their places is of, and where they begin.
use Rattle.std.proofs.Common.{◌≡◌, ℕ, ◌+◌, ◌<◌, List, [], ◌∷◌, length, take, get_or, sum_by, All, Contains, None, suc, zero, refl, sym, subst, arith}
use Rattle.std.specs.List.{flat_map}
use Rattle.std.proofs.lemmas.List.{get_or_default}
use Rattle.std.proofs.lemmas.List.Elements.{All-nil, All-cons, Contains-get_or}
use Rattle.std.proofs.lemmas.List.Sums.{sum_by-cons}
use Rattle.pack_model.specs.declared.item.Item.{Item}
use Rattle.container_pdu.specs.declared.header.Header.{Header}
use Rattle.container_pdu.specs.declared.header.Header.TheVariants.{NoHeader, Short, Long}
use Rattle.container_pdu.specs.Bytes.{header_bytes}
use Rattle.class_frame.specs.Frame.{bytes_of_item}
use Rattle.matrix_layout.specs.LaidOut.{FramePart, parts_from, parts_with}
use Rattle.matrix_layout.proofs.SumLaws.{All-flat_map}

-- an item with no signal
abbrev pub none_item : Item
none_item = record { sender = 0; pdu = None; members = []; bits = 0 }

-- the bytes of items with a header each
abbrev pub bytes_with : Header → List Item → ℕ
bytes_with kind items = sum_by (λ item. header_bytes kind + bytes_of_item item) items

-- the byte at which a part begins after these items
abbrev pub at_after : Header → List Item → ℕ
at_after NoHeader before = 0
at_after Short before = header_bytes Short + bytes_with Short before
at_after Long before = header_bytes Long + bytes_with Long before

-- the list place of a number in a part is a member of an item, after whose earlier items the part begins
pub record IsPlaced (kind : Header) (items : List Item) (part : FramePart) (number : ℕ) : Type 0 where
  pub item : ℕ
  pub within : item < length items
  pub begins : part.at ≡ at_after kind (take item items)
  pub member : Contains (get_or items item none_item).members (get_or part.places number 0)
  pub whole : kind ≡ NoHeader → part.places ≡ flat_map (λ y. y.members) items
  pub own : (kind ≡ NoHeader → ⊥) → part.places ≡ (get_or items item none_item).members

-- each place of items is a member of one of them
of_an_item : (items : List Item)
    → All (λ m. (k : ℕ) × (k < length items) × Contains (get_or items k none_item).members m)
    (flat_map (λ item. item.members) items)
of_an_item items =
    All-flat_map (λ m. (k : ℕ) × (k < length items) × Contains (get_or items k none_item).members m)
    (λ (item : Item). item.members) items
    (λ k d lt j e within. (
      k,
      lt,
      subst (λ (y : Item). Contains (get_or items k none_item).members (get_or y.members j e))
          (get_or_default items k none_item d lt)
          (Contains-get_or (get_or items k none_item).members j e
          (subst (λ (y : Item). j < length y.members)
          (sym (get_or_default items k none_item d lt)) within)),
    ))

-- what the part of a number in a container is
pub record IsNext (kind : Header) (next : ℕ) (items : List Item) (part : FramePart) (k : ℕ) : Type 0 where
  pub within : k < length items
  pub begins : part.at ≡ next + header_bytes kind + bytes_with kind (take k items)
  pub own : part.places ≡ (get_or items k none_item).members

-- the parts of a container from a byte on
parts_next : (kind : Header) (next : ℕ) (items : List Item) (k : ℕ) (d : FramePart)
    → k < length (parts_from kind next items)
    → IsNext kind next items (get_or (parts_from kind next items) k d) k
parts_next kind next [] k d lt = absurd (omega arith)
parts_next kind next (item ∷ items) zero d lt =
    record { within = omega arith; begins = omega arith; own = refl }
parts_next kind next (item ∷ items) (suc k) d lt =
    let rest = parts_next kind (next + header_bytes kind + bytes_of_item item) items k d (omega arith) in
    record {
      within = omega (arith, rest.within);
      begins =
          omega (
            arith,
            rest.begins,
            sum_by-cons (λ y. header_bytes kind + bytes_of_item y) item (take k items),
          );
      own = rest.own;
    }

-- each place of the parts of items under headers
parts_headed : (kind : Header) (items : List Item) → (kind ≡ NoHeader → ⊥)
    → ((before : List Item) → at_after kind before ≡ header_bytes kind + bytes_with kind before)
    → All (λ part. (number : ℕ) → number < length part.places → IsPlaced kind items part number)
    (parts_from kind 0 items)
parts_headed kind items headed at = λ k d lt number in_part.
    let next = parts_next kind 0 items k d lt in
    record {
      item = k;
      within = next.within;
      begins = omega (arith, next.begins, at (take k items));
      member =
          subst (λ ms. Contains ms (get_or (get_or (parts_from kind 0 items) k d).places number 0)) next.own
          (Contains-get_or (get_or (parts_from kind 0 items) k d).places number 0 in_part);
      whole = λ none. absurd (headed none);
      own = λ _. next.own;
    }

-- each place of the parts of items
pub parts_placed : (kind : Header) (items : List Item)
    → All (λ part. (number : ℕ) → number < length part.places → IsPlaced kind items part number)
    (parts_with kind items)
parts_placed NoHeader items =
    All-cons (λ part. (number : ℕ) → number < length part.places → IsPlaced NoHeader items part number)
    (record { at = 0; places = flat_map (λ item. item.members) items }) [] (λ number lt.
    let (k, within, member) = of_an_item items number 0 lt in
    record {
      item = k;
      within = within;
      begins = refl;
      member = member;
      whole = λ _. refl;
      own = λ differ. absurd (differ refl);
    })
    (All-nil (λ part. (number : ℕ) → number < length part.places → IsPlaced NoHeader items part number))
parts_placed Short items =
    parts_headed Short items (λ e. let wrong : Short ≡ NoHeader = e in cc) (λ before. refl)
parts_placed Long items =
    parts_headed Long items (λ e. let wrong : Long ≡ NoHeader = e in cc) (λ before. refl)
