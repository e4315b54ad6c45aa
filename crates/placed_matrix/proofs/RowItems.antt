-- The item of each row, and the row of each item's first signal.
use Rattle.std.proofs.Common.{◌≡◌, ℕ, ◌<◌, ◌≤◌, ◌⊎◌, true, List, [], ◌∷◌, length, get_or, inl, inr, sym, ap, subst, refl, ◌∙◌, arith, All, AllPairs, Contains, Option, None, Some, is_some, true≢false, suc, zero, slice_index, count_by}
use Rattle.std.specs.List.{position_or_len}
use Rattle.std.specs.Cmp.Lexicographic.{nat_list_eq_equiv}
use Rattle.std.proofs.lemmas.Bool.{cases_eq, cases_lt, cases_order}
use Rattle.std.proofs.lemmas.List.{get_or_default}
use Rattle.pack_model.specs.declared.signal.Signal.{Signal}
use Rattle.pack_model.specs.declared.item.Item.{Item}
use Rattle.std.specs.Str.{bytes_eq}
use Rattle.pack_model.specs.Problem.{Parts, IsProblem, IsSorted, senders_of}
use Rattle.pack_model.proofs.ItemFacts.{IsItemOf, items_of_signals, members_pdu, alone}
use Rattle.pack_model.proofs.Laws.{element}
use Rattle.matrix_rows.specs.declared.matrix.MatrixRow.{MatrixRow}
use Rattle.placed_matrix.specs.Items.{is_named, frame_of_item, at_of_item}
use Rattle.placed_matrix.specs.Placed.{OneRow, RowOf}
use Rattle.placed_matrix.specs.Tables.{HasRows, SamePart, SameKind}
use Rattle.placed_matrix.proofs.Counts.{count_two}
use Rattle.placed_matrix.proofs.FramesFound.{item_row}
use Rattle.placed_matrix.proofs.ItemRows.{item_at}
use Rattle.placed_matrix.proofs.RowsFound.{name_at, name_is, row_named, elsewhere}
use Rattle.std.proofs.lemmas.List.Sums.{passes_at_first}

-- of two rows, which are one or other than that related one way or the other
pub either : (rows : List MatrixRow) (R : MatrixRow → MatrixRow → Type 0) → AllPairs R rows
    → (i j : ℕ) (row other : MatrixRow) → i < length rows → j < length rows → row ≡ get_or rows i row
    → other ≡ get_or rows j other
    → (row ≡ other) ⊎ (R row other ⊎ R other row)
either rows R all i j row other lt lt2 at at2 = by (cases_order i j)
  where
    by : (i ≡ j) ⊎ ((i < j) ⊎ (j < i)) → (row ≡ other) ⊎ (R row other ⊎ R other row)
    by (inl same) =
        inl (at ∙ ap (λ n. get_or rows n row) same ∙ get_or_default rows j row other lt2 ∙ sym at2)
    by (inr (inl before)) =
        inr (inl (subst (λ r. R r other) (sym at)
        (subst (R (get_or rows i row)) (get_or_default rows j row other lt2 ∙ sym at2)
        (all i j row before lt2))))
    by (inr (inr after)) =
        inr (inr (subst (λ r. R r row) (sym at2)
        (subst (R (get_or rows j other)) (get_or_default rows i other row lt ∙ sym at)
        (all j i other after lt))))

-- rows of one frame are of one kind
pub one_kind : (rows : List MatrixRow) → AllPairs SameKind rows → (i j : ℕ) (row other : MatrixRow)
    → i < length rows → j < length rows → row ≡ get_or rows i row → other ≡ get_or rows j other
    → row.id ≡ other.id → is_some row.pdu ≡ is_some other.pdu
one_kind rows all i j row other lt lt2 at at2 same = by (either rows SameKind all i j row other lt lt2 at at2)
  where
    by : (row ≡ other) ⊎ (SameKind row other ⊎ SameKind other row) → is_some row.pdu ≡ is_some other.pdu
    by (inl one) = ap (λ (r : MatrixRow). is_some r.pdu) one
    by (inr (inl kind)) = kind same
    by (inr (inr kind)) = sym (kind (sym same))

-- rows of one I-PDU are in one part
pub one_part : (rows : List MatrixRow) → AllPairs SamePart rows → (i j id : ℕ) (row other : MatrixRow)
    → i < length rows → j < length rows → row ≡ get_or rows i row → other ≡ get_or rows j other
    → row.pdu ≡ Some id → other.pdu ≡ Some id
    → (row.id ≡ other.id) × (row.at ≡ other.at)
one_part rows all i j id row other lt lt2 at at2 is is2 =
    by (either rows SamePart all i j row other lt lt2 at at2)
  where
    by : (row ≡ other) ⊎ (SamePart row other ⊎ SamePart other row) → (row.id ≡ other.id) × (row.at ≡ other.at)
    by (inl one) = (ap (λ (r : MatrixRow). r.id) one, ap (λ (r : MatrixRow). r.at) one)
    by (inr (inl part)) = part (ap is_some is) (is ∙ sym is2)
    by (inr (inr part)) = let both = part (ap is_some is2) (is2 ∙ sym is) in (sym both.0, sym both.1)

only_one : (m p : ℕ) → Contains (m ∷ []) p → p ≡ m
only_one m p (zero, lt, is) = sym is
only_one m p (suc j, lt, is) = absurd (omega arith)

-- the row of an item's first signal
pub record RowOfItem (problem : Parts) (rows : List MatrixRow) (item : Item) (row : MatrixRow) : Type 0 where
  pub number : ℕ
  pub within : number < length rows
  pub at : row ≡ get_or rows number row
  pub id : frame_of_item problem rows item ≡ row.id
  pub begins : at_of_item problem rows item ≡ row.at
  pub pdu : item.pdu ≡ row.pdu
  pub sender : item.sender ≡ position_or_len (bytes_eq row.sender) (senders_of problem.signals)

-- the item of a row's signal, which is in the row's frame and part
pub record ItemOfRow (problem : Parts) (rows : List MatrixRow) (row : MatrixRow) (item : Item) : Type 0 where
  pub number : ℕ
  pub within : number < length problem.items
  pub at : item ≡ get_or problem.items number item
  pub id : frame_of_item problem rows item ≡ row.id
  pub begins : at_of_item problem rows item ≡ row.at
  pub pdu : item.pdu ≡ row.pdu

module _ (problem : Parts) (stands : IsProblem problem) (sorted : IsSorted problem.signals problem.items)
    (rows : List MatrixRow) (one : OneRow problem.signals rows) (row_of : List ℕ)
    (has : HasRows problem.signals rows row_of) where
  -- the row in the table has the signal's name
  named : (p : ℕ) (d : MatrixRow) → p < length problem.signals
      → is_named (name_at problem.signals p) (get_or rows (slice_index row_of p) d) ≡ true
  named p d within =
      subst (λ i. is_named (name_at problem.signals p) (get_or rows i d) ≡ true) (has p within).1
      (passes_at_first (is_named (name_at problem.signals p)) rows d
      (let low : position_or_len (is_named (name_at problem.signals p)) rows < length rows =
      omega (arith, (has p within).0, (has p within).1) in low))

  -- the row of a signal is the one in the table
  pub row_is : (k p : ℕ) (s : Signal) (d : MatrixRow) → k < length rows → p < length problem.signals
      → get_or problem.signals p s ≡ s → RowOf s (get_or rows k d) → slice_index row_of p ≡ k
  row_is k p s d lt within is of = by (cases_lt (slice_index row_of p) k) (cases_lt k (slice_index row_of p))
    where
      once : count_by (is_named (name_at problem.signals p)) rows ≡ 1
      once = ap (λ n. count_by (is_named n) rows) (name_is problem.signals p s within) ∙ one.each p s within

      here : is_named (name_at problem.signals p) (get_or rows k d) ≡ true
      here = row_named problem.signals p s (get_or rows k d) within is of

      by : (slice_index row_of p < k) ⊎ (k ≤ slice_index row_of p)
          → (k < slice_index row_of p) ⊎ (slice_index row_of p ≤ k) → slice_index row_of p ≡ k
      by (inl before) _ =
          absurd (omega (
            arith,
            once,
            count_two (is_named (name_at problem.signals p)) rows (slice_index row_of p) k d before lt
                (named p d within) here,
          ))
      by (inr _) (inl after) =
          absurd (omega (
            arith,
            once,
            count_two (is_named (name_at problem.signals p)) rows k (slice_index row_of p) d after
                (has p within).0 here (named p d within),
          ))
      by (inr le) (inr ge) = omega arith

  -- which says what the list says of it
  pub row_says : (p : ℕ) (s : Signal) (d : MatrixRow) → p < length problem.signals
      → RowOf (get_or problem.signals p s) (get_or rows (slice_index row_of p) d)
  row_says p s d lt = let (q, t, within, is, of) = one.no_other (slice_index row_of p) d (has p lt).0 in
      by q t within is of (cases_eq q p)
    where
      row : MatrixRow
      row = get_or rows (slice_index row_of p) d

      by : (q : ℕ) (t : Signal) → q < length problem.signals → get_or problem.signals q t ≡ t
          → RowOf t (get_or rows (slice_index row_of p) d) → (q ≡ p) ⊎ (q ≡ p → ⊥)
          → RowOf (get_or problem.signals p s) (get_or rows (slice_index row_of p) d)
      by q t within is of (inl same) =
          subst (λ u. RowOf u (get_or rows (slice_index row_of p) d))
          (sym is ∙ get_or_default problem.signals q t s within ∙ ap (λ n. get_or problem.signals n s) same)
          of
      by q t within is of (inr differ) =
          let name : List ℕ = (get_or rows (slice_index row_of p) d).signal in
          absurd (true≢false (sym (row_named problem.signals q t
          (get_or rows (slice_index row_of p) d) within is of)
          ∙ elsewhere problem stands name p q lt within differ
          (nat_list_eq_equiv.symm name (name_at problem.signals p) ∙ named p d lt)))

  pub row_of_item : (n : ℕ) (item : Item) → n < length problem.items → item ≡ get_or problem.items n item
      → (row : MatrixRow) × (is : RowOfItem problem rows item row)
      × (is.number ≡ slice_index row_of (slice_index item.members 0))
  row_of_item n item lt at =
      let of : IsItemOf problem.signals item =
      subst (IsItemOf problem.signals) (sym at)
      (items_of_signals problem.signals problem.items sorted n item lt) in
      let first : slice_index item.members 0 ≡ of.place = ap (λ ms. slice_index ms 0) of.members in
      let (row, is) = element rows (slice_index row_of of.place) (has of.place of.within).0 in
      let placed =
      item_row problem sorted rows row_of has problem.items refl n item lt at row
      (is ∙ ap (λ m. get_or rows (slice_index row_of m) row) (sym first)) in
      let pdus =
      subst (λ (i : Item). All (λ m. (d : Signal) → (get_or problem.signals m d).pdu ≡ i.pdu) i.members)
      (sym at) (members_pdu problem.signals problem.items sorted n item lt) in
      let some : 0 < length item.members = omega (arith, ap length of.members) in
      let pdu : (get_or problem.signals of.place of.signal).pdu ≡ item.pdu =
      ap (λ m. (get_or problem.signals m of.signal).pdu) (sym first) ∙ pdus 0 0 some of.signal in
      let says = row_says of.place of.signal row of.within in (
        row,
        record {
          number = slice_index row_of of.place;
          within = (has of.place of.within).0;
          at = is;
          id = placed.id;
          begins = placed.at;
          pdu = sym pdu ∙ sym (ap (λ (r : MatrixRow). r.pdu) is ∙ says.pdu);
          sender = ap (λ (i : Item). i.sender) of.is
              ∙ ap (λ name. position_or_len (bytes_eq name) (senders_of problem.signals))
              (ap (λ (s : Signal). s.sender) of.at
              ∙ sym (ap (λ (r : MatrixRow). r.sender) is ∙ says.sender));
        },
        ap (slice_index row_of) (sym first),
      )

  pub item_of_row : AllPairs SamePart rows → (k : ℕ) (row : MatrixRow) → k < length rows
      → row ≡ get_or rows k row → (item : Item) × ItemOfRow problem rows row item
  item_of_row parts k row lt at =
      let (p, s, within, is, of) = one.no_other k row lt in
      let (item, inside) = item_at problem.signals problem.items sorted p within in
      let (first, found, number) = row_of_item inside.number item inside.within inside.at in
      let pdu : item.pdu ≡ row.pdu = sym (inside.pdu s) ∙ ap (λ (t : Signal). t.pdu) is ∙ sym of.pdu
      ∙ ap (λ (r : MatrixRow). r.pdu) (sym at) in
      let same : (first.id ≡ row.id) × (first.at ≡ row.at) =
      by p s within is of item inside.number inside.within inside.at inside.member first found number pdu
      item.pdu refl in (
        item,
        record {
          number = inside.number;
          within = inside.within;
          at = inside.at;
          id = found.id
              ∙ same.0;
          begins = found.begins ∙ same.1;
          pdu = pdu;
        },
      )
    where
      by : (p : ℕ) (s : Signal) → p < length problem.signals → get_or problem.signals p s ≡ s
          → RowOf s (get_or rows k row) → (item : Item) (n : ℕ) → n < length problem.items
          → item ≡ get_or problem.items n item → Contains item.members p
          → (first : MatrixRow) (found : RowOfItem problem rows item first)
          → found.number ≡ slice_index row_of (slice_index item.members 0) → item.pdu ≡ row.pdu
          → (o : Option ℕ) → item.pdu ≡ o → (first.id ≡ row.id) × (first.at ≡ row.at)
      by p s within is of item n n_in n_at member first found number pdu None e =
          let (m, only) =
          alone problem.signals problem.items sorted n item
          n_in (ap (λ (i : Item). i.pdu) (sym n_at) ∙ e) in
          let members : item.members ≡ m ∷ [] = ap (λ (i : Item). i.members) n_at ∙ only in
          let self : p ≡ m = only_one m p (subst (λ ms. Contains ms p) members member) in
          let here : found.number ≡ k = number ∙ ap (λ ms. slice_index row_of (slice_index ms 0)) members
          ∙ ap (slice_index row_of) (sym self) ∙ row_is k p s row lt within is of in
          let same : first ≡ row = found.at ∙ ap (λ i. get_or rows i first) here
          ∙ get_or_default rows k first row lt ∙ sym at in
          (ap (λ (r : MatrixRow). r.id) same, ap (λ (r : MatrixRow). r.at) same)
      by p s within is of item n n_in n_at member first found number pdu (Some id) e =
          one_part rows parts found.number k id first row found.within lt found.at at (sym found.pdu ∙ e)
          (sym pdu ∙ e)
