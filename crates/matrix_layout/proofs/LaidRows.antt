-- What each row of a matrix that was laid out is.
use Rattle.std.proofs.Common.{◌≡◌, ℕ, ◌+◌, ◌<◌, ◌≤◌, ◌⊎◌, true, false, cond, List, length, get_or, count_by, find, All, Some, inl, inr, refl, sym, ap, subst, ◌∙◌, arith}
use Rattle.std.specs.List.{enumerate_from, position_or_len}
use Rattle.std.specs.Str.{bytes_eq}
use Rattle.std.specs.Cmp.Lexicographic.{nat_list_eq_equiv}
use Rattle.std.proofs.lemmas.Bool.{cases_lt, cases_eq}
use Rattle.std.proofs.lemmas.List.{get_or_default}
use Rattle.std.proofs.lemmas.List.Elements.{All-map}
use Rattle.std.proofs.lemmas.List.Folds.{find_at}
use Rattle.std.proofs.lemmas.List.Sums.{fails_before_first, passes_at_first}
use Rattle.std.proofs.lemmas.Option.{slice_get-get_or}
use Rattle.pack_model.specs.declared.signal.Signal.{Signal}
use Rattle.pack_model.specs.declared.item.Item.{Item}
use Rattle.pack_model.specs.Problem.{Parts, IsProblem, IsSorted}
use Rattle.class_frame.specs.Grouping.{IsOrder, class_of}
use Rattle.pack_model.proofs.Laws.{element}
use Rattle.pack_model.proofs.ItemFacts.{members_within}
use Rattle.class_frame.specs.Legal.{IsLegal}
use Rattle.class_frame.specs.Frame.{header_of_items}
use Rattle.matrix_rows.specs.declared.matrix.MatrixRow.{MatrixRow}
use Rattle.placed_matrix.specs.Items.{is_named}
use Rattle.matrix_layout.specs.LaidOut.{FramePart, figures_of, parts_of_items, signals_at, row_in_part, rows_of_part, rows_of_class, rows_of}
use Rattle.placed_matrix.proofs.Counts.{count_none, count_only}
use Rattle.matrix_layout.proofs.SumLaws.{All-flat_map, All-enumerate}
use Rattle.placed_matrix.proofs.RowsFound.{name_at, name_is, elsewhere}
use Rattle.matrix_layout.proofs.ClassItems.{from_list}
use Rattle.matrix_layout.proofs.PartItems.{none_item, IsPlaced, parts_placed}
use Rattle.matrix_layout.proofs.LaidSums.{sum_rows}
use Rattle.matrix_layout.proofs.Picked.{length-pick, get_or-pick}

-- the items of the class that the order names at a place
abbrev pub class_at : Parts → List ℕ → List ℕ → ℕ → List Item
class_at problem labels order place = class_of (get_or order place 0) labels problem.items

-- the row is that of the signal of a number in a part of the frame of the class that the order names at a
-- place
pub record IsLaid (problem : Parts) (labels order : List ℕ) (row : MatrixRow) : Type 0 where
  pub place : ℕ
  pub part : FramePart
  pub number : ℕ
  pub signal : Signal
  pub in_order : place < length order
  pub in_part : number < length part.places
  pub all_in : All (λ m. m < length problem.signals) part.places
  pub placed : IsPlaced (header_of_items (class_at problem labels order place))
      (class_at problem labels order place) part number
  pub at : signal ≡ get_or problem.signals (get_or part.places number 0) signal
  pub is : row ≡ row_in_part
      (figures_of problem.network (problem.network.first_id + place) (class_at problem labels order place))
      part.at (signals_at problem.signals part.places) (number, signal)

module _ (problem : Parts) (labels order : List ℕ) (sorted : IsSorted problem.signals problem.items) where
  -- the members of a class are places of the list
  class_within : (label : ℕ) (k : ℕ) → k < length (class_of label labels problem.items)
      → All (λ m. m < length problem.signals)
      (get_or (class_of label labels problem.items) k none_item).members
  class_within label k lt =
      let from = from_list label labels problem.items k lt in
      subst (λ (y : Item). All (λ m. m < length problem.signals) y.members) (sym (from.same none_item))
      (members_within problem.signals problem.items sorted from.number none_item from.within)

  -- so are the places of a part
  part_within : (label : ℕ) (part : FramePart)
      → ((number : ℕ) → number < length part.places
      → IsPlaced (header_of_items (class_of label labels problem.items))
      (class_of label labels problem.items) part number) → All (λ m. m < length problem.signals) part.places
  part_within label part placed k d lt =
      let here = placed k lt in
      let (j, within, is) = here.member in
      let below = class_within label here.item here.within j (get_or part.places k 0) within in
      omega (arith, below, is, get_or_default part.places k d 0 lt)

  -- each row is one
  pub all_laid : All (IsLaid problem labels order) (rows_of problem labels order)
  all_laid =
      All-flat_map (IsLaid problem labels order) (rows_of_class problem labels) (enumerate_from 0 order)
      (All-enumerate (λ e. All (IsLaid problem labels order) (rows_of_class problem labels e)) order
      (λ place label in_order here.
      subst (λ l. All (IsLaid problem labels order) (rows_of_class problem labels (place, l)))
      (sym (here ∙ get_or_default order place label 0 in_order)) (class_laid place in_order)))
    where
      part_laid : (place : ℕ) → place < length order → (part : FramePart)
          → ((number : ℕ) → number < length part.places
          → IsPlaced (header_of_items (class_at problem labels order place))
          (class_at problem labels order place) part number)
          → All (IsLaid problem labels order)
          (rows_of_part (figures_of problem.network (problem.network.first_id + place)
          (class_at problem labels order place)) problem.signals part)
      part_laid place in_order part placed =
          let inside = part_within (get_or order place 0) part placed in
          All-map (IsLaid problem labels order)
          (row_in_part (figures_of problem.network (problem.network.first_id + place)
          (class_at problem labels order place)) part.at (signals_at problem.signals part.places))
          (enumerate_from 0 (signals_at problem.signals part.places))
          (All-enumerate (λ e. IsLaid problem labels order
          (row_in_part (figures_of problem.network (problem.network.first_id + place)
          (class_at problem labels order place)) part.at (signals_at problem.signals part.places) e))
          (signals_at problem.signals part.places) (λ number signal lt at.
          let in_part : number < length part.places =
          omega (arith, lt, length-pick problem.signals part.places inside) in
          record {
            place = place;
            part = part;
            number = number;
            signal = signal;
            in_order = in_order;
            in_part = in_part;
            all_in = inside;
            placed = placed number in_part;
            at = at ∙ get_or-pick problem.signals part.places inside number signal in_part;
            is = refl;
          }))

      class_laid : (place : ℕ) → place < length order
          → All (IsLaid problem labels order) (rows_of_class problem labels (place, get_or order place 0))
      class_laid place in_order =
          All-flat_map (IsLaid problem labels order)
          (rows_of_part (figures_of problem.network (problem.network.first_id + place)
          (class_at problem labels order place)) problem.signals)
          (parts_of_items (class_at problem labels order place))
          (λ k d lt. part_laid place in_order
          (get_or (parts_of_items (class_at problem labels order place)) k d)
          (parts_placed (header_of_items (class_at problem labels order place))
          (class_at problem labels order place) k d lt))

module _ (problem : Parts) (labels order : List ℕ) (stands : IsProblem problem)
    (sorted : IsSorted problem.signals problem.items) (legal : IsLegal problem.items labels)
    (named : IsOrder labels order) where
  -- each signal has one row
  pub one_each : (m : ℕ) → m < length problem.signals
      → count_by (is_named (name_at problem.signals m)) (rows_of problem labels order) ≡ 1
  one_each m lt =
      sum_rows problem labels order sorted legal named
      (λ (s : Signal). cond (bytes_eq (name_at problem.signals m) s.name) 1 0)
      (λ (r : MatrixRow). cond (is_named (name_at problem.signals m) r) 1 0) (λ frame at start s. refl)
      ∙ count_only (λ (s : Signal). bytes_eq (name_at problem.signals m) s.name) problem.signals m lt
      (λ e. ap (bytes_eq (name_at problem.signals m)) (sym (name_is problem.signals m e lt))
      ∙ nat_list_eq_equiv.refl (name_at problem.signals m))
      (λ j e below differ. ap (bytes_eq (name_at problem.signals m)) (sym (name_is problem.signals j e below))
      ∙ elsewhere problem stands (name_at problem.signals j) j m below lt (λ same. differ (sym same))
      (nat_list_eq_equiv.refl (name_at problem.signals j)))

  -- the place of a row's signal in the list
  abbrev pub place_in_list : (row : MatrixRow) → IsLaid problem labels order row → ℕ
  place_in_list row laid = get_or laid.part.places laid.number 0

  pub in_list : (row : MatrixRow) (laid : IsLaid problem labels order row)
      → place_in_list row laid < length problem.signals
  in_list row laid = laid.all_in laid.number 0 laid.in_part

  -- a row has the name of its signal
  pub row_name : (row : MatrixRow) (laid : IsLaid problem labels order row)
      → row.signal ≡ name_at problem.signals (place_in_list row laid)
  row_name row laid = ap (λ (r : MatrixRow). r.signal) laid.is ∙ ap (λ (s : Signal). s.name) laid.at
      ∙ sym (name_is problem.signals (place_in_list row laid) laid.signal (in_list row laid))

  -- a row that is named as the signal at a place is of that signal
  same_place : (row : MatrixRow) (laid : IsLaid problem labels order row) (m : ℕ) → m < length problem.signals
      → is_named (name_at problem.signals m) row ≡ true → place_in_list row laid ≡ m
  same_place row laid m lt is = by (cases_eq (place_in_list row laid) m)
    where
      by : (place_in_list row laid ≡ m) ⊎ (place_in_list row laid ≡ m → ⊥) → place_in_list row laid ≡ m
      by (inl same) = same
      by (inr differ) =
          let wrong : is_named (name_at problem.signals m) row ≡ false =
          ap (bytes_eq (name_at problem.signals m)) (row_name row laid)
          ∙ elsewhere problem stands (name_at problem.signals (place_in_list row laid))
          (place_in_list row laid) m (in_list row laid) lt (λ same. differ (sym same))
          (nat_list_eq_equiv.refl (name_at problem.signals (place_in_list row laid))) in
          absurd (let no : true ≡ false = sym is ∙ wrong in cc)

  -- the row that is found by a name
  pub record IsFound (m : ℕ) : Type 0 where
    pub row : MatrixRow
    pub found : find (is_named (name_at problem.signals m)) (rows_of problem labels order) ≡ Some row
    pub laid : IsLaid problem labels order row
    pub of : place_in_list row laid ≡ m

  pub found_row : (m : ℕ) → m < length problem.signals → IsFound m
  found_row m lt =
      by (cases_lt (position_or_len (is_named (name_at problem.signals m)) (rows_of problem labels order))
      (length (rows_of problem labels order)))
    where
      by : (position_or_len (is_named (name_at problem.signals m)) (rows_of problem labels order)
          < length (rows_of problem labels order))
          ⊎ (length (rows_of problem labels order)
          ≤ position_or_len (is_named (name_at problem.signals m)) (rows_of problem labels order)) → IsFound m
      by (inr none) =
          absurd (omega (
            arith,
            one_each m lt,
            count_none (is_named (name_at problem.signals m)) (rows_of problem labels order)
                (λ k d below. fails_before_first (is_named (name_at problem.signals m))
                (rows_of problem labels order) k d (omega arith)),
          ))
      by (inl some) =
          let j = position_or_len (is_named (name_at problem.signals m)) (rows_of problem labels order) in
          let (row, at) =
          element (rows_of problem labels order)
          (position_or_len (is_named (name_at problem.signals m)) (rows_of problem labels order)) some in
          let laid : IsLaid problem labels order row =
          subst (IsLaid problem labels order) (sym at)
          (all_laid problem labels order sorted
          (position_or_len (is_named (name_at problem.signals m)) (rows_of problem labels order)) row
          some) in
          let is : is_named (name_at problem.signals m) row ≡ true =
          ap (is_named (name_at problem.signals m)) at
          ∙ passes_at_first (is_named (name_at problem.signals m))
          (rows_of problem labels order) row some in
          record {
            row = row;
            found = find_at (is_named (name_at problem.signals m)) (rows_of problem labels order)
                ∙ slice_get-get_or (rows_of problem labels order)
                (position_or_len (is_named (name_at problem.signals m)) (rows_of problem labels order)) row
                some ∙ ap (λ r. Some r) (sym at);
            laid = laid;
            of = same_place row laid m lt is;
          }
