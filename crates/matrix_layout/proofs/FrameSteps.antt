-- The steps of the loop that writes the rows of a part.
use Rattle.std.proofs.Common.{◌≡◌, ℕ, ◌+◌, ◌*◌, ◌<◌, ◌≤◌, List, [], ◌∷◌, ◌++◌, length, take, get_or, sum, All, sym, ap, ◌∙◌, arith, zero-add}
use Rattle.std.specs.List.{enumerate_from}
use Rattle.std.proofs.lemmas.List.FromFn.{length-enumerate_from, get_or-enumerate_from}
use Rattle.std.proofs.lemmas.List.Elements.{All-head, All-tail, All-map}
use Rattle.std.proofs.lemmas.List.Sums.{sum_by-cons}
use Rattle.ipdu_layout.specs.Layout.{start_of}
use Rattle.pack_model.specs.declared.signal.Signal.{Signal}
use Rattle.pack_model.specs.Signal.{SignalStands}
use Rattle.matrix_layout.specs.LaidOut.{FrameFigures, signals_at, widths_of, row_with, row_in_part, rows_of_part}
use Rattle.pack_model.proofs.ListLaws.{take-map_more}
use Rattle.matrix_layout.proofs.Picked.{length-pick, get_or-pick}

-- each signal has a bit at least
pub length-le-widths : (signals : List Signal) → All SignalStands signals
    → length signals ≤ sum (widths_of signals)
length-le-widths [] all = omega arith
length-le-widths (s ∷ signals) all =
    let one = (All-head SignalStands s signals all).bits_low in
    let rest = length-le-widths signals (All-tail SignalStands s signals all) in
    omega (arith, one, rest, sum_by-cons (λ x. x) s.bits (widths_of signals))

-- and at most 512
pub widths_in_range : (signals : List Signal) → All SignalStands signals
    → All (λ width. (1 ≤ width) × (width ≤ 512)) (widths_of signals)
widths_in_range signals all =
    All-map (λ width. (1 ≤ width) × (width ≤ 512)) (λ (s : Signal). s.bits) signals
    (λ k d lt. ((all k d lt).bits_low, (all k d lt).bits_high))

-- the row that comes next
pub part_more : (frame : FrameFigures) (at : ℕ) (signals : List Signal) (places : List ℕ)
    → All (λ p. p < length signals) places → (number : ℕ) (s : Signal) (start : ℕ) → number < length places
    → s ≡ get_or signals (get_or places number 0) s
    → start ≡ 8 * at + start_of (widths_of (signals_at signals places)) number
    → take (number + 1) (rows_of_part frame signals (record { at = at; places = places }))
    ≡ take number (rows_of_part frame signals (record { at = at; places = places }))
    ++ row_with frame at start s ∷ []
part_more frame at signals places inside number s start lt is is_start =
    let within : number < length (signals_at signals places) =
    omega (arith, length-pick signals places inside) in
    let in_pairs : number < length (enumerate_from 0 (signals_at signals places)) =
    simp length-enumerate_from within in
    let here : s ≡ get_or (signals_at signals places) number s = is
    ∙ sym (get_or-pick signals places inside number s lt) in
    let pair : (let e : ℕ × Signal = (number, s) in
    e ≡ get_or (enumerate_from 0 (signals_at signals places)) number (number, s)) =
    sym (get_or-enumerate_from 0 (signals_at signals places) number (number, s) within
    ∙ (λ k. (zero-add number k, sym here k))) in
    take-map_more (row_in_part frame at (signals_at signals places))
    (enumerate_from 0 (signals_at signals places)) number (number, s) in_pairs pair
    ∙ ap (λ n. take number (rows_of_part frame signals (record { at = at; places = places }))
    ++ row_with frame at n s ∷ []) (sym is_start)
