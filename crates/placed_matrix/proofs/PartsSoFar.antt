-- The bytes of the parts that begin before a byte, as items come one by one.
use Rattle.std.proofs.Common.{◌≡◌, ℕ, ◌+◌, ◌<◌, ◌≤◌, ◌==◌, Bool, cond, List, [], ◌∷◌, ◌++◌, length, get_or, take, filter, nat_lt, sym, ap, ◌∙◌, arith, eq-eqb, append-nil}
use Rattle.std.specs.Int.{div_ceil}
use Rattle.std.proofs.lemmas.Bool.{ne_eqb, lt-ltb, le-ltb}
use Rattle.std.proofs.lemmas.Grind.{div_ceil_times}
use Rattle.std.proofs.lemmas.List.Elements.{filter-append}
use Rattle.std.proofs.lemmas.List.Sums.{sum_by-append}
use Rattle.pack_model.specs.declared.item.Item.{Item}
use Rattle.pack_model.specs.Problem.{Parts}
use Rattle.container_pdu.specs.declared.header.Header.{Header}
use Rattle.container_pdu.specs.declared.header.Header.TheVariants.{NoHeader, Short, Long}
use Rattle.container_pdu.specs.Bytes.{header_bytes}
use Rattle.class_frame.specs.Frame.{bytes_of_item}
use Rattle.matrix_rows.specs.declared.matrix.MatrixRow.{MatrixRow}
use Rattle.placed_matrix.specs.Items.{frame_of_item, at_of_item}
use Rattle.placed_matrix.specs.Tables.{parts_before, bytes_under}
use Rattle.placed_matrix.proofs.ItemsSoFar.{kept, passed}

pub header_low : (header : Header) → header_bytes header ≤ 8
header_low NoHeader = omega arith
header_low Short = omega arith
header_low Long = omega arith

pub item_low : (item : Item) → item.bits ≤ 512 → div_ceil item.bits 8 ≤ 64
item_low item small = omega (arith, small, div_ceil_times item.bits 8 (omega arith))

module _ (problem : Parts) (rows : List MatrixRow) (header : Header) (id at : ℕ) (items : List Item) (i : ℕ)
    (item : Item) (lt : i < length items) (is : item ≡ get_or items i item) where
  abbrev pub in_frame : Item → Bool
  in_frame x = frame_of_item problem rows x == id

  abbrev pub begins : Item → Bool
  begins x = nat_lt (at_of_item problem rows x) at

  abbrev pub so_far : List Item
  so_far = parts_before problem rows id at (take i items)

  -- an item of another frame
  pub part_elsewhere : (frame_of_item problem rows item ≡ id → ⊥)
      → bytes_under header so_far ≡ bytes_under header (parts_before problem rows id at (take (i + 1) items))
  part_elsewhere differ =
      ap (λ l. bytes_under header (filter begins l))
      (sym (passed in_frame items i item lt is (ne_eqb _ _ differ)))

  with_item : frame_of_item problem rows item ≡ id
      → parts_before problem rows id at (take (i + 1) items) ≡ so_far ++ cond (begins item) (item ∷ []) []
  with_item same = ap (filter begins) (kept in_frame items i item lt is (eq-eqb _ _ same))
      ∙ filter-append begins (filter in_frame (take i items)) (item ∷ [])

  -- one whose part begins later
  pub part_passed : frame_of_item problem rows item ≡ id → at ≤ at_of_item problem rows item
      → bytes_under header so_far ≡ bytes_under header (parts_before problem rows id at (take (i + 1) items))
  part_passed same later =
      ap (bytes_under header) (sym
      (with_item same ∙ ap (λ b. so_far ++ cond b (item ∷ []) []) (le-ltb _ _ later) ∙ append-nil so_far))

  -- one whose part begins before
  pub part_kept : (bytes head alone : ℕ) → bytes ≡ bytes_under header so_far → head ≡ header_bytes header
      → alone ≡ bytes_of_item item → frame_of_item problem rows item ≡ id → at_of_item problem rows item < at
      → bytes + (head + alone) ≡ bytes_under header (parts_before problem rows id at (take (i + 1) items))
  part_kept bytes head alone sum first rest same before =
      let more : parts_before problem rows id at (take (i + 1) items) ≡ so_far ++ item ∷ [] = with_item same
      ∙ ap (λ b. so_far ++ cond b (item ∷ []) []) (lt-ltb _ _ before) in
      omega (
        arith,
        sum,
        first,
        rest,
        ap (bytes_under header) more,
        sum_by-append (λ (x : Item). header_bytes header + bytes_of_item x) so_far (item ∷ []),
      )
