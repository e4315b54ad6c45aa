use Rattle.std.proofs.Common.{◌≡◌, ◌<◌, ◌+◌, ◌++◌, ℕ, All, length, sum, sym, ap, ◌∙◌, arith, subst, append_assoc, drop, get_or}
use Rattle.std.specs.List.{flat_map}
use Rattle.std.proofs.lemmas.List.Sums.{sum_by-cons}
use Rattle.pack_model.specs.declared.item.Item.{Item}
use Rattle.container_pdu.specs.Bytes.{header_bytes}
use Rattle.class_frame.specs.Frame.{bytes_of_item}
use Rattle.matrix_layout.specs.ClassItems.{bytes_with, figures, items_at}
use Rattle.matrix_layout.specs.LaidOut.{parts_from, rows_of_part, signals_at, widths_of}
use Rattle.matrix_layout.proofs.PartsFit.{ItemFits, items_fit, part_room}
use Rattle.matrix_layout.proofs.Picked.{pick-left}
use Rattle.matrix_layout.proofs.frame_rows.add_parts.Goals as goal

pub add_part-requires-clause-inside : goal.add_part-requires-clause-inside
add_part-requires-clause-inside c =
    let within = c.requires.inside c.loop-number.number-index 0 (omega arith) in
    let here : c.index-items-number.result
    ≡ get_or c.args.problem.now.items
    (get_or c.args.numbers.now c.loop-number.number-index 0) c.index-items-number.result =
    c.index-items-number.is ∙ ap (λ items. get_or items
    (get_or c.args.numbers.now c.loop-number.number-index 0) c.index-items-number.result)
    c.items-items.ensures.items in
    let fits =
    subst (ItemFits c.args.problem.now.signals) (sym here)
    (items_fit c.args.problem.now c.items-items.ensures.problem c.items-items.ensures.sorted
    (get_or c.args.numbers.now c.loop-number.number-index 0) c.index-items-number.result within) in
    subst (λ signals. All (λ place. place < length signals) c.as_slice-places.result.now)
    (sym c.signals.ensures.signals)
    (subst (All (λ place. place < length c.args.problem.now.signals))
    (sym c.as_slice-places.ensures) fits.inside)

pub add_part-requires-clause-room : goal.add_part-requires-clause-room
add_part-requires-clause-room c =
    let within = c.requires.inside c.loop-number.number-index 0 (omega arith) in
    let here : c.index-items-number.result
    ≡ get_or c.args.problem.now.items
    (get_or c.args.numbers.now c.loop-number.number-index 0) c.index-items-number.result =
    c.index-items-number.is ∙ ap (λ items. get_or items
    (get_or c.args.numbers.now c.loop-number.number-index 0) c.index-items-number.result)
    c.items-items.ensures.items in
    let fits =
    subst (ItemFits c.args.problem.now.signals) (sym here)
    (items_fit c.args.problem.now c.items-items.ensures.problem c.items-items.ensures.sorted
    (get_or c.args.numbers.now c.loop-number.number-index 0) c.index-items-number.result within) in
    let left =
    pick-left c.args.problem.now.items c.args.numbers.now c.loop-number.number-index
    c.index-items-number.result (omega arith) within here in
    let bytes = ap (bytes_with c.args.frame.now.header) left
    ∙ sum_by-cons (λ (item : Item). header_bytes c.args.frame.now.header + bytes_of_item item)
    c.index-items-number.result
    (items_at c.args.problem.now.items (drop (c.loop-number.number-index + 1) c.args.numbers.now)) in
    let room =
    part_room c.args.problem.now.signals c.index-items-number.result
    (c.loop-number.next + c.bytes.result) fits
    (omega (arith, c.bytes.ensures, bytes, c.loop-number.invariant.1)) in
    let signals =
    ap (λ signals. sum (widths_of (signals_at signals c.as_slice-places.result.now)))
    c.signals.ensures.signals in
    let places =
    ap (λ places. sum (widths_of (signals_at c.args.problem.now.signals places)))
    c.as_slice-places.ensures in
    omega (arith, room, signals, places)

pub loop-number-preserved : goal.loop-number-preserved
loop-number-preserved c =
    let within = c.requires.inside c.loop-number.number-index 0 (omega arith) in
    let here : c.index-items-number.result
    ≡ get_or c.args.problem.now.items
    (get_or c.args.numbers.now c.loop-number.number-index 0) c.index-items-number.result =
    c.index-items-number.is ∙ ap (λ items. get_or items
    (get_or c.args.numbers.now c.loop-number.number-index 0) c.index-items-number.result)
    c.items-items.ensures.items in
    let left =
    pick-left c.args.problem.now.items c.args.numbers.now c.loop-number.number-index
    c.index-items-number.result (omega arith) within here in
    let bytes = ap (bytes_with c.args.frame.now.header) left
    ∙ sum_by-cons (λ (item : Item). header_bytes c.args.frame.now.header + bytes_of_item item)
    c.index-items-number.result
    (items_at c.args.problem.now.items (drop (c.loop-number.number-index + 1) c.args.numbers.now)) in
    let later =
    λ (next : ℕ). flat_map (rows_of_part (figures c.args.frame.now) c.args.problem.now.signals)
    (parts_from c.args.frame.now.header next
    (items_at c.args.problem.now.items (drop (c.loop-number.number-index + 1) c.args.numbers.now))) in (
      ap (λ rows. rows ++ later (c.loop-number.next + c.bytes.result + c.div_ceil.result))
          c.in_ok-add_part.ensures
          ∙ append_assoc c.loop-number.rows.items
          (rows_of_part (figures c.args.frame.now) c.signals.result.now
          (record { at = c.loop-number.next + c.bytes.result; places = c.as_slice-places.result.now }))
          (later (c.loop-number.next + c.bytes.result + c.div_ceil.result))
          ∙ ap (λ rows. c.loop-number.rows.items ++ rows)
          (ap (λ signals. rows_of_part (figures c.args.frame.now) signals
          (record { at = c.loop-number.next + c.bytes.result; places = c.as_slice-places.result.now })
          ++ later (c.loop-number.next + c.bytes.result + c.div_ceil.result)) c.signals.ensures.signals
          ∙ ap (λ places. rows_of_part (figures c.args.frame.now) c.args.problem.now.signals
          (record { at = c.loop-number.next + c.bytes.result; places = places })
          ++ later (c.loop-number.next + c.bytes.result + c.div_ceil.result)) c.as_slice-places.ensures
          ∙ ap (λ n. rows_of_part (figures c.args.frame.now) c.args.problem.now.signals
          (record {
            at = c.loop-number.next + c.bytes.result;
            places = c.index-items-number.result.members;
          })
          ++ later (c.loop-number.next + c.bytes.result + n)) c.div_ceil.ensures
          ∙ ap (λ n. rows_of_part (figures c.args.frame.now) c.args.problem.now.signals
          (record { at = c.loop-number.next + n; places = c.index-items-number.result.members })
          ++ later (c.loop-number.next + n + bytes_of_item c.index-items-number.result)) c.bytes.ensures
          ∙ ap (λ items. flat_map (rows_of_part (figures c.args.frame.now) c.args.problem.now.signals)
          (parts_from c.args.frame.now.header c.loop-number.next items)) (sym left))
          ∙ c.loop-number.invariant.0,
      omega (arith, c.div_ceil.ensures, c.bytes.ensures, bytes, c.loop-number.invariant.1),
    )
