-- The row of each signal, as rows come one by one.
use Rattle.std.proofs.Common.{◌≡◌, ◌≢◌, ℕ, ◌+◌, ◌<◌, ◌≤◌, ◌⊎◌, Bool, true, false, cond, List, [], length, get_or, set, count_by, inl, inr, sym, ap, subst, refl, ◌∙◌, arith, true≢false, Any, None, Some, position}
use Rattle.std.specs.List.{list_any, position_or_len}
use Rattle.std.specs.Str.{bytes_eq}
use Rattle.std.specs.Cmp.Lexicographic.{nat_list_eq_equiv}
use Rattle.std.proofs.lemmas.Bool.{cases_lt, cases_eq}
use Rattle.std.proofs.lemmas.Slice.Eq.{bytes_eq-Decides}
use Rattle.std.proofs.lemmas.List.{get_or_default, get_or-map, length-map, get_or-set_same, get_or-set_other}
use Rattle.std.proofs.lemmas.List.Quantifiers.{position-Some}
use Rattle.std.proofs.lemmas.List.Sums.{position_or_len_is}
use Rattle.pack_model.specs.declared.signal.Signal.{Signal}
use Rattle.pack_model.specs.Problem.{Parts, IsProblem, names_of}
use Rattle.std.proofs.lemmas.Bool.{lt-ltb}
use Rattle.std.proofs.lemmas.List.Folds.{list_any_at}
use Rattle.pack_model.proofs.ListLaws.{first_place}
use Rattle.pack_model.proofs.Laws.{names_differ, tests, element}
use Rattle.matrix_rows.specs.declared.matrix.MatrixRow.{MatrixRow}
use Rattle.placed_matrix.specs.Items.{is_named}
use Rattle.placed_matrix.specs.Placed.{OneRow, RowOf}
use Rattle.placed_matrix.specs.Tables.{no_row, HasRows}
use Rattle.placed_matrix.proofs.FirstRows.{at_number, below_row}
use Rattle.placed_matrix.proofs.Counts.{count_two, count_none, count_only}

-- the name of the signal at a place
abbrev pub name_at : List Signal → ℕ → List ℕ
name_at signals place = get_or (names_of signals) place []

-- one row alone below a number is of the name
pub record OnlyRow (rows : List MatrixRow) (number : ℕ) (name : List ℕ) (row : ℕ) : Type 0 where
  pub below : row < number
  pub named : (d : MatrixRow) → is_named name (get_or rows row d) ≡ true
  pub only : (k : ℕ) (d : MatrixRow) → k < number → (k ≡ row → ⊥) → is_named name (get_or rows k d) ≡ false

-- what the table says of a place
abbrev pub HasRow : List MatrixRow → ℕ → List ℕ → ℕ → Type 0
HasRow rows number name row =
    ((row ≡ no_row) × ((k : ℕ) (d : MatrixRow) → k < number → is_named name (get_or rows k d) ≡ false))
    ⊎ OnlyRow rows number name row

not_true : (b : Bool) → (b ≡ true → ⊥) → b ≡ false
not_true true h = absurd (h refl)
not_true false h = refl

-- a name that is at one place is at no other
pub elsewhere : (problem : Parts) → IsProblem problem → (name : List ℕ) (place other : ℕ)
    → place < length problem.signals → other < length problem.signals → (other ≡ place → ⊥)
    → bytes_eq name (name_at problem.signals place) ≡ true
    → bytes_eq (name_at problem.signals other) name ≡ false
elsewhere problem stands name place other lt lt2 differ is =
    let same : name ≡ name_at problem.signals place =
    (bytes_eq-Decides name (name_at problem.signals place)).0 is in
    subst (λ n. bytes_eq (name_at problem.signals other) n ≡ false) (sym same) (by (cases_lt other place))
  where
    by : (other < place) ⊎ (place ≤ other)
        → bytes_eq (name_at problem.signals other) (name_at problem.signals place) ≡ false
    by (inl before) =
        let in_names : place < length (names_of problem.signals) = simp length-map lt in
        nat_list_eq_equiv.symm (name_at problem.signals other) (name_at problem.signals place)
        ∙ names_differ (names_of problem.signals)
        (tests problem stands).different other place [] before in_names
    by (inr after) =
        let in_names : other < length (names_of problem.signals) = simp length-map lt2 in
        names_differ (names_of problem.signals) (tests problem stands).different place other []
        (omega (arith, differ)) in_names

-- the name at a place is that of its signal
pub name_is : (signals : List Signal) (place : ℕ) (d : Signal) → place < length signals
    → name_at signals place ≡ (get_or signals place d).name
name_is signals place d lt = get_or-map (λ (s : Signal). s.name) signals place d [] lt

-- a row of a signal has the name at the signal's place
pub row_named : (signals : List Signal) (k : ℕ) (s : Signal) (row : MatrixRow) → k < length signals
    → get_or signals k s ≡ s → RowOf s row → is_named (name_at signals k) row ≡ true
row_named signals k s row lt is of =
    let same : name_at signals k ≡ row.signal = name_is signals k s lt ∙ ap (λ (t : Signal). t.name) is
    ∙ sym of.name in
    subst (λ n. bytes_eq n row.signal ≡ true) (sym same) (nat_list_eq_equiv.refl row.signal)

-- a row whose name is at no place is of no signal
pub no_place : (signals : List Signal) (rows : List MatrixRow) (number : ℕ) (row : MatrixRow)
    → number < length rows → row ≡ get_or rows number row
    → position (bytes_eq row.signal) (names_of signals) ≡ None → OneRow signals rows → ⊥
no_place signals rows number row lt at none one =
    let (k, s, below, is, of) = one.no_other number row lt in
    let of_row : RowOf s row = subst (RowOf s) (sym at) of in
    let in_names : k < length (names_of signals) = simp length-map below in
    let found : list_any (bytes_eq row.signal) (names_of signals) ≡ true =
    list_any_at (bytes_eq row.signal) (names_of signals) k [] in_names
    (nat_list_eq_equiv.symm row.signal (name_at signals k) ∙ row_named signals k s row below is of_row) in
    let first : position (bytes_eq row.signal) (names_of signals)
    ≡ Some (position_or_len (bytes_eq row.signal) (names_of signals)) =
    ap (λ b. cond b (Some (position_or_len (bytes_eq row.signal) (names_of signals))) None)
    (lt-ltb _ _ (first_place (bytes_eq row.signal) (names_of signals) found)) in
    let wrong : Some (position_or_len (bytes_eq row.signal) (names_of signals)) ≡ None = sym first ∙ none in
    cc

module _ (problem : Parts) (stands : IsProblem problem) (rows : List MatrixRow) (number : ℕ) (row : MatrixRow)
    (lt : number < length rows) (at : row ≡ get_or rows number row)
    (place : ℕ) (found : position (bytes_eq row.signal) (names_of problem.signals) ≡ Some place) where
  pub place_in : place < length problem.signals
  place_in =
      simp length-map at (position-Some (bytes_eq row.signal) (names_of problem.signals) place [] found).0

  name_here : bytes_eq row.signal (name_at problem.signals place) ≡ true
  name_here = (position-Some (bytes_eq row.signal) (names_of problem.signals) place [] found).1

  named_here : is_named (name_at problem.signals place) row ≡ true
  named_here = nat_list_eq_equiv.symm (name_at problem.signals place) row.signal ∙ name_here

  not_named : (other : ℕ) → other < length problem.signals → (other ≡ place → ⊥)
      → is_named (name_at problem.signals other) row ≡ false
  not_named other lt2 differ = elsewhere problem stands row.signal place other place_in lt2 differ name_here

  -- one more row of another name
  grown : (name : List ℕ) (r : ℕ) → is_named name row ≡ false → HasRow rows number name r
      → HasRow rows (number + 1) name r
  grown name r not (inl none) =
      inl (none.0, below_row rows number row (λ q. is_named name q ≡ false) lt at none.1 not)
  grown name r not (inr one) = inr (record {
    below = omega (arith, one.below);
    named = one.named;
    only = λ k d before differ. by k d (cases_lt k number) before differ;
  })
    where
      by : (k : ℕ) (d : MatrixRow) → (k < number) ⊎ (number ≤ k) → k < number + 1 → (k ≡ r → ⊥)
          → is_named name (get_or rows k d) ≡ false
      by k d (inl h) before differ = one.only k d h differ
      by k d (inr h) before differ =
          let last : number ≡ k = omega arith in
          subst (λ n. is_named name (get_or rows n d) ≡ false) last
          (subst (λ q. is_named name q ≡ false) (sym (at_number rows number row d lt at)) not)

  -- the first row of its name
  first_row : (name : List ℕ) → is_named name row ≡ true
      → ((k : ℕ) (d : MatrixRow) → k < number → is_named name (get_or rows k d) ≡ false)
      → OnlyRow rows (number + 1) name number
  first_row name is none = record {
    below = omega arith;
    named = λ d. subst (λ q. is_named name q ≡ true) (sym (at_number rows number row d lt at)) is;
    only =
        λ k d before differ. none k d (let before_last : k < number = omega (arith, differ) in before_last);
  }

  -- the table with the row
  pub with_row : (table : List ℕ) → length table ≡ 2048 → number < no_row → get_or table place 0 ≡ no_row
      → ((p : ℕ) → p < length problem.signals
      → HasRow rows number (name_at problem.signals p) (get_or table p 0))
      → (p : ℕ) → p < length problem.signals
      → HasRow rows (number + 1) (name_at problem.signals p) (get_or (set table place number) p 0)
  with_row table long small free seen p below = by (cases_eq p place) (seen place place_in)
    where
      by : (p ≡ place) ⊎ (p ≡ place → ⊥)
          → HasRow rows number (name_at problem.signals place) (get_or table place 0)
          → HasRow rows (number + 1) (name_at problem.signals p) (get_or (set table place number) p 0)
      by (inl same) (inl none) =
          let inside : place < length table = omega (arith, place_in, (tests problem stands).few) in
          subst (λ q. HasRow rows (number + 1) (name_at problem.signals q)
          (get_or (set table place number) q 0)) (sym same)
          (subst (λ r. HasRow rows (number + 1) (name_at problem.signals place) r)
          (sym (get_or-set_same table place number 0 inside))
          (inr (first_row (name_at problem.signals place) named_here none.1)))
      by (inl same) (inr one) = absurd (omega (arith, one.below, free))
      by (inr differ) _ =
          subst (λ r. HasRow rows (number + 1) (name_at problem.signals p) r)
          (sym (get_or-set_other table place p number 0 differ))
          (grown (name_at problem.signals p) (get_or table p 0) (not_named p below differ) (seen p below))

  -- a second row of a signal
  pub repeated : (table : List ℕ) → (get_or table place 0 ≡ no_row → ⊥)
      → ((p : ℕ) → p < length problem.signals
      → HasRow rows number (name_at problem.signals p) (get_or table p 0)) → OneRow problem.signals rows → ⊥
  repeated table taken seen one = by (seen place place_in)
    where
      signal : (s : Signal) × (s ≡ get_or problem.signals place s)
      signal = element problem.signals place place_in

      by : HasRow rows number (name_at problem.signals place) (get_or table place 0) → ⊥
      by (inl none) = taken none.0
      by (inr first) =
          let two : 2 ≤ count_by (is_named (name_at problem.signals place)) rows =
          count_two (is_named (name_at problem.signals place)) rows
          (get_or table place 0) number row first.below lt (first.named row)
          (subst (λ q. is_named (name_at problem.signals place) q ≡ true) at named_here) in
          let once : count_by (is_named (name_at problem.signals place)) rows ≡ 1 =
          ap (λ n. count_by (is_named n) rows) (name_is problem.signals place signal.0 place_in)
          ∙ one.each place signal.0 place_in in
          omega (arith, two, once)

  -- a row that doesn't say what the list says of its signal
  pub wrong_row : (signal : Signal) → signal ≡ get_or problem.signals place signal → (RowOf signal row → ⊥)
      → OneRow problem.signals rows → ⊥
  wrong_row signal is differs one =
      let (k, s, below, same, of) = one.no_other number row lt in
      by k s below same (subst (RowOf s) (sym at) of) (cases_eq k place)
    where
      by : (k : ℕ) (s : Signal) → k < length problem.signals → get_or problem.signals k s ≡ s → RowOf s row
          → (k ≡ place) ⊎ (k ≡ place → ⊥) → ⊥
      by k s below same of (inl here) =
          differs (subst (λ t. RowOf t row)
          (sym same ∙ ap (λ n. get_or problem.signals n s) here
          ∙ get_or_default problem.signals place s signal place_in ∙ sym is) of)
      by k s below same of (inr other) =
          true≢false (sym (row_named problem.signals k s row below same of) ∙ not_named k below other)

  -- the row is of a signal
  pub row_of_signal : (signal : Signal) → signal ≡ get_or problem.signals place signal → RowOf signal row
      → Any (λ s. RowOf s row) problem.signals
  row_of_signal signal is of = (place, signal, place_in, sym is, of)

-- where each signal has a row
pub all_found : (signals : List Signal) (rows : List MatrixRow) (number : ℕ) (table : List ℕ)
    → length rows ≤ number → number ≤ length rows
    → ((p : ℕ) → p < length signals → HasRow rows number (name_at signals p) (get_or table p 0))
    → ((k : ℕ) (d : MatrixRow) → k < number → Any (λ s. RowOf s (get_or rows k d)) signals)
    → ((p : ℕ) → p < length signals → get_or table p 0 ≢ no_row)
    → OneRow signals rows × HasRows signals rows table
all_found signals rows number table all most seen others found =
    (record { each = each; no_other = λ k d lt. others k d (omega arith) }, placed)
  where
    one : (p : ℕ) → p < length signals → OnlyRow rows number (name_at signals p) (get_or table p 0)
    one p below = by (seen p below)
      where
        by : HasRow rows number (name_at signals p) (get_or table p 0)
            → OnlyRow rows number (name_at signals p) (get_or table p 0)
        by (inl none) = absurd (found p below none.0)
        by (inr only) = only

    each : (p : ℕ) (d : Signal) → p < length signals → count_by (is_named (get_or signals p d).name) rows ≡ 1
    each p d below =
        let only = one p below in
        ap (λ n. count_by (is_named n) rows) (sym (name_is signals p d below))
        ∙ count_only (is_named (name_at signals p)) rows (get_or table p 0)
        (omega (arith, only.below)) only.named (λ k e lt differ. only.only k e (omega arith) differ)

    placed : HasRows signals rows table
    placed p below =
        let only = one p below in
        let inside : get_or table p 0 < length rows = omega (arith, only.below) in
        let row = element rows (get_or table p 0) inside in (
          inside,
          position_or_len_is (is_named (name_at signals p)) rows (get_or table p 0) row.0 (omega arith)
              (λ k before. only.only k row.0 (omega (arith, only.below)) (λ same. omega arith))
              (λ _. only.named row.0),
        )

-- where a signal has none, they don't
pub not_all_found : (signals : List Signal) (rows : List MatrixRow) (number : ℕ) (table : List ℕ)
    → length rows ≤ number → number < no_row
    → ((p : ℕ) → p < length signals → HasRow rows number (name_at signals p) (get_or table p 0))
    → OneRow signals rows → (p : ℕ) → p < length signals → get_or table p 0 ≢ no_row
not_all_found signals rows number table all small seen one p below free = by (seen p below)
  where
    signal : (s : Signal) × (s ≡ get_or signals p s)
    signal = element signals p below

    by : HasRow rows number (name_at signals p) (get_or table p 0) → ⊥
    by (inl none) =
        let zero_rows : count_by (is_named (name_at signals p)) rows ≡ 0 =
        count_none (is_named (name_at signals p)) rows (λ k d lt. none.1 k d (omega arith)) in
        let once : count_by (is_named (name_at signals p)) rows ≡ 1 =
        ap (λ n. count_by (is_named n) rows) (name_is signals p signal.0 below)
        ∙ one.each p signal.0 below in
        omega (arith, zero_rows, once)
    by (inr only) = omega (arith, only.below, free)
