-- What is accepted holds: the matrix part of the rule alone gives each signal one place, and a legal grouping.
use Rattle.std.proofs.Common.{◌≡◌, ◌<◌, ◌≤◌, ◌∙◌, ℕ, Bool, true, false, cond, List, [], ◌∷◌, ◌||◌, length, get_or, map, count_by, ap, sym, refl, arith, Ok, true≢false}
use Rattle.std.specs.List.{list_any, position_or_len}
use Rattle.std.proofs.lemmas.List.{get_or-map, length-map}
use Rattle.pack_model.specs.declared.signal.Signal.{Signal}
use Rattle.pack_model.specs.Problem.{Parts, IsProblem, IsSorted, names_of}
use Rattle.pack_model.proofs.Laws.{element}
use Rattle.pack_model.proofs.ListLaws.{first_place}
use Rattle.class_frame.specs.Legal.{IsLegal}
use Rattle.matrix_rows.specs.declared.matrix.MatrixRow.{MatrixRow}
use Rattle.matrix_text.specs.Frames.{grouping_of}
use Rattle.matrix_text.specs.Items.{is_named}
use Rattle.matrix_text.specs.OnePlace.{OnePlace}
use Rattle.matrix_text.specs.Placed.{OneRow, Placed}
use Rattle.placed_matrix.specs.Tables.{HasRows}
use Rattle.placed_matrix.proofs.Counts.{counted}
use Rattle.placed_matrix.proofs.FoundLegal.{is_legal}
use Rattle.placed_matrix.proofs.FrameLabels.{is_order}
use Rattle.placed_matrix.proofs.OnePlaceLaws.{OnePlace-from_Placed, rows_fit}
use Rattle.placed_matrix.proofs.RowsFound.{name_at, name_is}
use Rattle.cert_text.specs.declared.parts.Kind.{Kind}
use Rattle.cert_text.specs.declared.parts.Kind.TheVariants.{KindPlaced, KindTimed, KindBetween, KindBest, KindNoSolution}
use Rattle.bandwidth_bound.specs.Follows.{Holds}
use Rattle.bandwidth_bound.specs.Rule.{MatrixOfKind}
use Rattle.cert_check.specs.Kinds.{is_to_be_placed}
use Rattle.cert_check.specs.Laws.{AcceptedHolds}
use Rattle.cert_check.proofs.Found.{holds_placed, holds_without}

-- what is counted is there
found_counted : {X : Type 0} (p : X → Bool) (xs : List X) → 1 ≤ count_by p xs → list_any p xs ≡ true
found_counted p [] some = absurd (omega arith)
found_counted p (x ∷ xs) some = by (p x) refl (found_counted p xs)
  where
    by : (b : Bool) → p x ≡ b → (1 ≤ count_by p xs → list_any p xs ≡ true) → (p x || list_any p xs) ≡ true
    by true is rest = ap (λ b. b || list_any p xs) is
    by false is rest =
        ap (λ b. b || list_any p xs) is
        ∙ rest (omega (arith, some, counted p x xs, ap {B = ℕ} (λ b. cond b 1 0) is))

-- the number of each signal's row
abbrev row_numbers : List Signal → List MatrixRow → List ℕ
row_numbers signals rows = map (λ name. position_or_len (is_named name) rows) (names_of signals)

-- where each signal has one row, it is found
rows_found : (signals : List Signal) (rows : List MatrixRow) → OneRow signals rows
    → HasRows signals rows (row_numbers signals rows)
rows_found signals rows one place lt =
    let signal : (s : Signal) × (s ≡ get_or signals place s) = element signals place lt in
    let named : place < length (names_of signals) = simp length-map lt in
    let number : get_or (row_numbers signals rows) place 0
    ≡ position_or_len (is_named (name_at signals place)) rows =
    get_or-map (λ name. position_or_len (is_named name) rows) (names_of signals) place [] 0 named in
    let once : count_by (is_named (name_at signals place)) rows ≡ 1 =
    ap (λ name. count_by (is_named name) rows) (name_is signals place signal.0 lt)
    ∙ one.each place signal.0 lt in
    let there : position_or_len (is_named (name_at signals place)) rows < length rows =
    first_place (is_named (name_at signals place)) rows
    (found_counted (is_named (name_at signals place)) rows (omega (arith, once))) in
    (omega (arith, number, there), sym number)

module _ (problem : Parts) (rows : List MatrixRow) (stands : IsProblem problem)
    (sorted : IsSorted problem.signals problem.items) (placed : Placed problem rows) where
  one_place : OnePlace problem rows
  one_place =
      OnePlace-from_Placed problem stands sorted rows placed.one_row (row_numbers problem.signals rows)
      (rows_found problem.signals rows placed.one_row)
      (λ i j d before within. (placed.one_kind i j d before within).kind)
      (λ i j d before within. (placed.one_kind i j d before within).part)
      (rows_fit problem rows placed) placed

  legal : IsLegal problem.items (grouping_of problem rows)
  legal =
      is_legal problem stands sorted rows placed (row_numbers problem.signals rows)
      (rows_found problem.signals rows placed.one_row)

-- a matrix that is to be placed is
placed_by : (kind : Kind) (problem : Parts) (rows : List MatrixRow) → is_to_be_placed kind rows ≡ true
    → MatrixOfKind kind problem rows → Placed problem rows
placed_by KindPlaced problem rows is holds = holds
placed_by KindTimed problem rows is holds = holds
placed_by KindBetween problem [] is holds = absurd (true≢false (sym is))
placed_by KindBetween problem (row ∷ rows) is holds = holds
placed_by KindBest problem rows is holds = holds
placed_by KindNoSolution problem rows is holds = absurd (true≢false (sym is))

pub accepted_holds : AcceptedHolds
accepted_holds judged shown stands sorted in_range accepts =
    by (is_to_be_placed judged.cert.kind judged.matrix) refl
  where
    by : (b : Bool) → is_to_be_placed judged.cert.kind judged.matrix ≡ b → Holds judged
    by false is =
        holds_without judged.problem judged.matrix judged.cert stands is (Ok shown) accepts
    by true is =
        let placed : Placed judged.problem judged.matrix =
        placed_by judged.cert.kind judged.problem judged.matrix is accepts.rule.matrix in
        holds_placed judged.problem judged.matrix judged.cert stands sorted
        (one_place judged.problem judged.matrix stands sorted placed)
        (legal judged.problem judged.matrix stands sorted placed)
        (is_order judged.problem judged.matrix in_range) (Ok shown) accepts
