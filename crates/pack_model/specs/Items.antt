-- The steps by which a problem's items are found: the project's own.
use Rattle.std.specs.Prelude.{◌≡◌, ℕ, ◌+◌, List, [], ◌∷◌, ◌++◌, map, filter, sum_by, slice_index, slice_index_or, Option, None, Some, suc, zero, ◌<◌, ◌≤◌, length, All}
use Rattle.std.specs.List.{position_or_len}
use Rattle.std.specs.Str.{bytes_eq}
use Rattle.pack_model.specs.declared.signal.Signal.{Signal}
use Rattle.pack_model.specs.declared.item.Item.{Item}
use Rattle.pack_model.specs.declared.items.Key.{Key}
use Rattle.pack_model.specs.declared.items.Key.TheVariants.{Free, Pdu}
use Rattle.pack_model.specs.declared.problem.TheConstants.{MAX_SIGNALS}
use Rattle.pack_model.specs.declared.problem.ProblemFault.{ProblemFault}
use Rattle.pack_model.specs.declared.problem.ProblemFault.TheVariants.{TwiceNamed, PduSenders}
use Rattle.pack_model.specs.Problem.{placed, same_item, distinct}

-- the fault that a repeat is
abbrev pub IsRepeat : Option ℕ → ProblemFault → Type 0
IsRepeat None e = ⊥
IsRepeat (Some place) e = e ≡ TwiceNamed (place + 2)

-- the fault that a clash of senders is
abbrev pub IsClash : Option ℕ → ProblemFault → Type 0
IsClash None e = ⊥
IsClash (Some place) e = e ≡ PduSenders (place + 2)

-- what tells the item of a signal of this I-PDU, or none, at this place
abbrev pub key_at : Option ℕ → ℕ → Key
key_at None place = Free place
key_at (Some id) place = Pdu id

-- the places of the signals of an item
abbrev pub places_with : List (ℕ × Signal) → ℕ × Signal → List ℕ
places_with signals e = map (λ f. f.0) (filter (same_item e) signals)

-- the places of the signals of each item, by the list place of their first signal
abbrev pub groups_of : List (ℕ × Signal) → List (List ℕ)
groups_of signals = map (places_with signals) (distinct same_item signals)

-- the places of the signals of each item of a list
abbrev pub places_by_item : List Signal → List (List ℕ)
places_by_item signals = groups_of (placed signals)

-- the lists after a place is put last in the list of a number, or alone in a new last list
abbrev pub put_at : ℕ → ℕ → List (List ℕ) → List (List ℕ)
put_at number place [] = (place ∷ []) ∷ []
put_at zero place (xs ∷ xss) = (xs ++ place ∷ []) ∷ xss
put_at (suc number) place (xs ∷ xss) = xs ∷ put_at number place xss

-- the item of the signals at some places, of which the first gives the sender and the I-PDU
abbrev pub item_at : List Signal → List (List ℕ) → List ℕ → Item
item_at signals senders places = record {
  sender =
      position_or_len (bytes_eq
      (slice_index_or (map (λ s. s.sender) signals) (slice_index places 0) [])) senders;
  pdu = slice_index_or (map (λ s. s.pdu) signals) (slice_index places 0) None;
  members = places;
  bits = sum_by (slice_index (map (λ s. s.bits) signals)) places;
}

-- the places are some, at most 2048, and in the list
pub record IsPlaces (signals : List Signal) (places : List ℕ) : Type 0 where
  pub some : 0 < length places
  pub short : length places ≤ MAX_SIGNALS
  pub inside : All (λ place. place < length signals) places
