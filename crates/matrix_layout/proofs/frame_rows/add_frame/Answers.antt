use Rattle.std.proofs.Common.{◌≡◌, ◌<◌, ◌++◌, All, OnOk, length, sum, sym, ap, ◌∙◌, arith, subst, append-nil}
use Rattle.std.specs.List.{flat_map}
use Rattle.container_pdu.specs.declared.header.Header.TheVariants.{NoHeader}
use Rattle.class_frame.specs.Frame.{header_of_items}
use Rattle.matrix_layout.specs.ClassItems.{bytes_with, figures, items_at, places_of_items}
use Rattle.matrix_layout.specs.LaidOut.{FrameFigures, figures_of, parts_with, parts_from, rows_of_part, signals_at, widths_of}
use Rattle.matrix_layout.proofs.ClassLaws.{few_under_headers}
use Rattle.matrix_layout.proofs.PartsFit.{ItemFits, items_fit, one_part_fits, parts_with-headers}
use Rattle.matrix_layout.proofs.Picked.{All-pick}
use Rattle.matrix_layout.proofs.frame_rows.add_frame.Goals as goal

pub add_part-requires-clause-inside : goal.add_part-requires-clause-inside
add_part-requires-clause-inside c =
    let header : header_of_items (items_at c.args.problem.now.items c.args.numbers.now) ≡ NoHeader =
    sym (ap (λ (f : FrameFigures). f.header) c.requires.frame) ∙ c.in-NoHeader.is in
    let all =
    All-pick (ItemFits c.args.problem.now.signals) c.args.problem.now.items c.args.numbers.now
    (items_fit c.args.problem.now c.items.ensures.problem c.items.ensures.sorted) c.requires.inside in
    let fits =
    one_part_fits c.args.problem.now.signals
    (items_at c.args.problem.now.items c.args.numbers.now) all c.requires.class header in
    let places : c.as_slice.result.now
    ≡ places_of_items (items_at c.args.problem.now.items c.args.numbers.now) = c.as_slice.ensures.value
    ∙ c.in_ok-places-in-NoHeader.ensures
    ∙ ap (λ items. places_of_items (items_at items c.args.numbers.now)) c.items.ensures.items in
    subst (λ signals. All (λ place. place < length signals) c.as_slice.result.now)
    (sym c.signals.ensures.signals)
    (subst (All (λ place. place < length c.args.problem.now.signals)) (sym places) fits.inside)

pub add_part-requires-clause-room : goal.add_part-requires-clause-room
add_part-requires-clause-room c =
    let header : header_of_items (items_at c.args.problem.now.items c.args.numbers.now) ≡ NoHeader =
    sym (ap (λ (f : FrameFigures). f.header) c.requires.frame) ∙ c.in-NoHeader.is in
    let all =
    All-pick (ItemFits c.args.problem.now.signals) c.args.problem.now.items c.args.numbers.now
    (items_fit c.args.problem.now c.items.ensures.problem c.items.ensures.sorted) c.requires.inside in
    let fits =
    one_part_fits c.args.problem.now.signals
    (items_at c.args.problem.now.items c.args.numbers.now) all c.requires.class header in
    let places : c.as_slice.result.now
    ≡ places_of_items (items_at c.args.problem.now.items c.args.numbers.now) = c.as_slice.ensures.value
    ∙ c.in_ok-places-in-NoHeader.ensures
    ∙ ap (λ items. places_of_items (items_at items c.args.numbers.now)) c.items.ensures.items in
    omega (
      arith,
      fits.room,
      ap (λ signals. sum (widths_of (signals_at signals c.as_slice.result.now))) c.signals.ensures.signals,
      ap (λ ps. sum (widths_of (signals_at c.args.problem.now.signals ps))) places,
    )

pub add_parts-requires-clause-room : goal.add_parts-requires-clause-room
add_parts-requires-clause-room c =
    let same : c.args.frame.now.header
    ≡ header_of_items (items_at c.args.problem.now.items c.args.numbers.now) =
    ap (λ (f : FrameFigures). f.header) c.requires.frame in
    let few =
    few_under_headers (items_at c.args.problem.now.items c.args.numbers.now) c.requires.class
    (λ none. c.in_default.not-NoHeader (same ∙ none)) in
    omega (
      arith,
      few,
      ap (λ kind. bytes_with kind (items_at c.args.problem.now.items c.args.numbers.now)) same,
    )

pub returns-in_ok-places-in-NoHeader : goal.returns-in_ok-places-in-NoHeader
returns-in_ok-places-in-NoHeader c =
    let header : header_of_items (items_at c.args.problem.now.items c.args.numbers.now) ≡ NoHeader =
    sym (ap (λ (f : FrameFigures). f.header) c.requires.frame) ∙ c.in-NoHeader.is in
    let places : c.as_slice.result.now
    ≡ places_of_items (items_at c.args.problem.now.items c.args.numbers.now) = c.as_slice.ensures.value
    ∙ c.in_ok-places-in-NoHeader.ensures
    ∙ ap (λ items. places_of_items (items_at items c.args.numbers.now)) c.items.ensures.items in
    let rows =
    ap (λ signals. rows_of_part (figures c.args.frame.now) signals
    (record { at = 0; places = c.as_slice.result.now })) c.signals.ensures.signals
    ∙ ap (λ ps. rows_of_part (figures c.args.frame.now) c.args.problem.now.signals
    (record { at = 0; places = ps })) places
    ∙ ap (λ f. rows_of_part f c.args.problem.now.signals
    (record { at = 0; places = places_of_items (items_at c.args.problem.now.items c.args.numbers.now) }))
    c.requires.frame
    ∙ sym (append-nil (rows_of_part
    (figures_of c.args.problem.now.network c.args.frame.now.id
    (items_at c.args.problem.now.items c.args.numbers.now)) c.args.problem.now.signals
    (record { at = 0; places = places_of_items (items_at c.args.problem.now.items c.args.numbers.now) })))
    ∙ ap (λ kind. flat_map (rows_of_part
    (figures_of c.args.problem.now.network c.args.frame.now.id
    (items_at c.args.problem.now.items c.args.numbers.now)) c.args.problem.now.signals)
    (parts_with kind (items_at c.args.problem.now.items c.args.numbers.now))) (sym header) in
    subst (λ more. OnOk c.add_part.result (c.add_part.new.rows.items ≡ c.args.rows.now.items ++ more)) rows
    c.add_part.ensures

pub returns-in_default : goal.returns-in_default
returns-in_default c =
    let same : c.args.frame.now.header
    ≡ header_of_items (items_at c.args.problem.now.items c.args.numbers.now) =
    ap (λ (f : FrameFigures). f.header) c.requires.frame in
    let rows =
    ap (λ f. flat_map (rows_of_part f c.args.problem.now.signals)
    (parts_from c.args.frame.now.header 0 (items_at c.args.problem.now.items c.args.numbers.now)))
    c.requires.frame
    ∙ ap (λ parts. flat_map (rows_of_part
    (figures_of c.args.problem.now.network c.args.frame.now.id
    (items_at c.args.problem.now.items c.args.numbers.now)) c.args.problem.now.signals) parts)
    (sym (parts_with-headers c.args.frame.now.header
    (items_at c.args.problem.now.items c.args.numbers.now) c.in_default.not-NoHeader)
    ∙ ap (λ kind. parts_with kind (items_at c.args.problem.now.items c.args.numbers.now)) same) in
    subst (λ more. OnOk c.add_parts.result (c.add_parts.new.rows.items ≡ c.args.rows.now.items ++ more)) rows
    c.add_parts.ensures
