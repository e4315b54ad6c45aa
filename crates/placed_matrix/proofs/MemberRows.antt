-- The rows of the members of items are all rows.
use Rattle.std.proofs.Common.{◌≡◌, ℕ, ◌<◌, ◌≤◌, ◌⊎◌, List, [], ◌∷◌, length, get_or, inl, inr, sym, ap, subst, refl, ◌∙◌, arith, All, AllPairs, Option, None, Some, is_some, slice_index}
use Rattle.std.proofs.lemmas.Bool.{cases_order, false≢true}
use Rattle.std.proofs.lemmas.List.{get_or_default}
use Rattle.pack_model.specs.declared.item.Item.{Item}
use Rattle.pack_model.specs.Problem.{Parts, IsProblem, IsSorted}
use Rattle.pack_model.proofs.ItemFacts.{IsItemOf, items_of_signals, alone, members_within, members_pdu, pdus_differ}
use Rattle.matrix_rows.specs.declared.matrix.MatrixRow.{MatrixRow}
use Rattle.placed_matrix.specs.Placed.{OneRow, BeginApart}
use Rattle.placed_matrix.specs.Tables.{HasRows, AllFound, RowsOf, AtOnePlace, SamePart, SameFrameAndKind}
use Rattle.placed_matrix.proofs.ItemRows.{item_at}
use Rattle.placed_matrix.proofs.RowItems.{either, one_part, row_is, row_says}

-- the row of an item's first signal
abbrev pub first_of : List MatrixRow → List ℕ → Item → MatrixRow → MatrixRow
first_of rows row_of item d = get_or rows (slice_index row_of (slice_index item.members 0)) d

-- the rows of an item's members stand with the first of them
abbrev pub ItemTogether : List MatrixRow → List ℕ → Item → Type 0
ItemTogether rows row_of item = (e : MatrixRow)
    → RowsOf (λ row. AtOnePlace row (first_of rows row_of item e)) rows row_of item.members

-- the parts of two items begin apart
abbrev pub ItemsApart : List MatrixRow → List ℕ → Item → Item → Type 0
ItemsApart rows row_of item other = (d e : MatrixRow)
    → BeginApart (first_of rows row_of item d) (first_of rows row_of other e)

-- the member of an item of which a row is
pub record MemberOf (items : List Item) (rows : List MatrixRow) (row_of : List ℕ) (k : ℕ)
    (d : MatrixRow) : Type 0 where
  pub item : Item
  pub number : ℕ
  pub within : number < length items
  pub at : item ≡ get_or items number item
  pub index : ℕ
  pub inside : index < length item.members
  pub here : slice_index row_of (slice_index item.members index) ≡ k
  pub pdu : (get_or rows k d).pdu ≡ item.pdu

module _ (problem : Parts) (stands : IsProblem problem) (sorted : IsSorted problem.signals problem.items)
    (rows : List MatrixRow) (one : OneRow problem.signals rows) (row_of : List ℕ)
    (has : HasRows problem.signals rows row_of) where
  pub member_of : (k : ℕ) (d : MatrixRow) → k < length rows → MemberOf problem.items rows row_of k d
  member_of k d lt =
      let (p, s, within, is, of) = one.no_other k d lt in
      let (item, inside) = item_at problem.signals problem.items sorted p within in
      let (j, j_in, j_at) = inside.member in
      let place : slice_index item.members j ≡ p = get_or_default item.members j 0 p j_in ∙ j_at in
      record {
        item = item;
        number = inside.number;
        within = inside.within;
        at = inside.at;
        index = j;
        inside = j_in;
        here = ap (slice_index row_of) place
            ∙ row_is problem stands sorted rows one row_of has k p s d lt within is of;
        pdu = of.pdu ∙ ap (λ s. s.pdu) (sym is) ∙ inside.pdu s;
      }

  -- what holds of the rows of all items' members holds of all rows
  pub all_rows : (P : MatrixRow → Type 0) → All (λ item. RowsOf P rows row_of item.members) problem.items
      → All P rows
  all_rows P each k d lt =
      let of = member_of k d lt in
      let there : RowsOf P rows row_of of.item.members =
      subst (λ (i : Item). RowsOf P rows row_of i.members) (sym of.at)
      (each of.number of.item of.within) in
      subst (λ i. P (get_or rows i d)) of.here (there of.index 0 of.inside d)

  module _ (n : ℕ) (item : Item) (lt : n < length problem.items)
      (at : item ≡ get_or problem.items n item) where
    -- the members are places of the list
    member_within : All (λ m. m < length problem.signals) item.members
    member_within =
        subst (λ (i : Item). All (λ m. m < length problem.signals) i.members) (sym at)
        (members_within problem.signals problem.items sorted n item lt)

    pub members_found : length problem.signals ≤ 2048 → AllFound rows row_of item.members
    members_found few k d inside = let low = member_within k d inside in
        (omega (arith, low, few), (has (get_or item.members k d) low).0)

    -- a member's row is of the item's I-PDU
    pub member_pdu : (j k : ℕ) (d : MatrixRow) → j < length item.members
        → (get_or rows (slice_index row_of (get_or item.members j k)) d).pdu ≡ item.pdu
    member_pdu j k d inside =
        let of =
        one.no_other (slice_index row_of (get_or item.members j k)) d
        (has (get_or item.members j k) (member_within j k inside)).0 in
        let pdus =
        subst (λ (i : Item). All (λ m. (d : _) → (get_or problem.signals m d).pdu ≡ i.pdu) i.members)
        (sym at) (members_pdu problem.signals problem.items sorted n item lt) in
        (row_says problem stands sorted rows one row_of has (get_or item.members j k) of.1 d
        (member_within j k inside)).pdu ∙ pdus j k inside of.1

    pub some_member : 0 < length item.members
    some_member =
        let of : IsItemOf problem.signals item =
        subst (IsItemOf problem.signals) (sym at)
        (items_of_signals problem.signals problem.items sorted n item lt) in
        omega (arith, ap length of.members)

    -- what holds of all rows holds of those of its members
    pub of_members : (P : MatrixRow → Type 0) → All P rows → RowsOf P rows row_of item.members
    of_members P all k d inside e =
        all (slice_index row_of (get_or item.members k d)) e
        (has (get_or item.members k d) (member_within k d inside)).0

    -- where the rows of each I-PDU stand in one part, the members stand with the first
    pub together_to : AllPairs SamePart rows → ItemTogether rows row_of item
    together_to parts e j k inside d = by item.pdu refl
      where
        by : (o : Option ℕ) → item.pdu ≡ o
            → AtOnePlace (get_or rows (slice_index row_of (get_or item.members j k)) d)
            (first_of rows row_of item e)
        by None is =
            let (m, only) =
            alone problem.signals problem.items sorted n item lt
            (ap (λ (i : Item). i.pdu) (sym at) ∙ is) in
            let members : item.members ≡ m ∷ [] = ap (λ (i : Item). i.members) at ∙ only in
            let zeroth : j ≡ 0 = omega (arith, inside, ap length members) in
            let place : get_or item.members j k ≡ get_or item.members 0 0 =
            ap (λ i. get_or item.members i k) zeroth ∙ get_or_default item.members 0 k 0 some_member in
            let row : get_or rows (slice_index row_of (get_or item.members j k)) d
            ≡ first_of rows row_of item e =
            ap (λ p. get_or rows (slice_index row_of p) d) place
            ∙ get_or_default rows (slice_index row_of (get_or item.members 0 0)) d e
            (has (get_or item.members 0 0) (member_within 0 0 some_member)).0 in
            record { id = ap (λ (r : MatrixRow). r.id) row; at = ap (λ (r : MatrixRow). r.at) row }
        by (Some id) is =
            let here = (has (get_or item.members j k) (member_within j k inside)).0 in
            let first = (has (get_or item.members 0 0) (member_within 0 0 some_member)).0 in
            let both =
            one_part rows parts (slice_index row_of (get_or item.members j k))
            (slice_index row_of (get_or item.members 0 0)) id
            (get_or rows (slice_index row_of (get_or item.members j k)) d)
            (first_of rows row_of item e) here first
            (get_or_default rows (slice_index row_of (get_or item.members j k)) d
            (get_or rows (slice_index row_of (get_or item.members j k)) d) here)
            (get_or_default rows (slice_index row_of (get_or item.members 0 0)) e
            (first_of rows row_of item e) first)
            (member_pdu j k d inside ∙ is) (member_pdu 0 0 e some_member ∙ is) in
            record { id = both.0; at = both.1 }

    -- the members' rows are of the I-PDU of the first
    pub pdu_of_members : (first : MatrixRow) → first ≡ first_of rows row_of item first
        → RowsOf (λ row. row.pdu ≡ first.pdu) rows row_of item.members
    pdu_of_members first is j k inside d = member_pdu j k d inside
        ∙ sym (ap (λ (r : MatrixRow). r.pdu) is ∙ member_pdu 0 0 first some_member)

  -- two members of one item by its number
  same_item : (k l : ℕ) (d : MatrixRow) (a : MemberOf problem.items rows row_of k d)
      (b : MemberOf problem.items rows row_of l d) → a.number ≡ b.number → a.item ≡ b.item
  same_item k l d a b same = a.at ∙ ap (λ n. get_or problem.items n a.item) same
      ∙ get_or_default problem.items b.number a.item b.item b.within ∙ sym b.at

  -- a row stands with its item's first
  stands_with : (k : ℕ) (d e : MatrixRow) (a : MemberOf problem.items rows row_of k d)
      → All (ItemTogether rows row_of) problem.items
      → AtOnePlace (get_or rows k d) (first_of rows row_of a.item e)
  stands_with k d e a each =
      let there : ItemTogether rows row_of a.item =
      subst (ItemTogether rows row_of) (sym a.at) (each a.number a.item a.within) in
      subst (λ i. AtOnePlace (get_or rows i d) (first_of rows row_of a.item e)) a.here
      (there e a.index 0 a.inside d)

  -- rows of one I-PDU stand in one part where the members of each item do
  pub parts_from : All (ItemTogether rows row_of) problem.items → AllPairs SamePart rows
  parts_from each i j d before within some same = by (get_or rows i d).pdu refl
    where
      a : MemberOf problem.items rows row_of i d
      a = member_of i d (omega (arith, before, within))

      b : MemberOf problem.items rows row_of j d
      b = member_of j d within

      by : (o : Option ℕ) → (get_or rows i d).pdu ≡ o
          → ((get_or rows i d).id ≡ (get_or rows j d).id) × ((get_or rows i d).at ≡ (get_or rows j d).at)
      by None is = absurd (false≢true (sym (ap is_some is) ∙ some))
      by (Some id) is =
          let first : (get_or problem.items a.number a.item).pdu ≡ Some id =
          ap (λ (x : Item). x.pdu) (sym a.at) ∙ sym a.pdu ∙ is in
          let second : (get_or problem.items b.number a.item).pdu ≡ Some id =
          ap (λ (x : Item). x.pdu) (get_or_default problem.items b.number a.item b.item b.within
          ∙ sym b.at) ∙ sym b.pdu ∙ sym same ∙ is in
          let one_number : a.number ≡ b.number =
          pdus_differ problem.signals problem.items sorted a.number b.number id a.item a.within b.within
          first second in
          let mine = stands_with i d d a each in
          let its =
          subst (λ (x : Item). AtOnePlace (get_or rows j d) (first_of rows row_of x d))
          (sym (same_item i j d a b one_number)) (stands_with j d d b each) in
          (mine.id ∙ sym its.id, mine.at ∙ sym its.at)

  module _ (frames : AllPairs (λ row other. row.id ≡ other.id → SameFrameAndKind row other) rows) where
    -- rows of one frame have one header
    one_header : (i j : ℕ) (row other : MatrixRow) → i < length rows → j < length rows
        → row ≡ get_or rows i row → other ≡ get_or rows j other → row.id ≡ other.id
        → row.header ≡ other.header
    one_header i j row other lt lt2 at at2 same =
        by (either rows (λ r o. r.id ≡ o.id → SameFrameAndKind r o) frames i j row other lt lt2 at at2)
      where
        by : (row ≡ other) ⊎ ((row.id ≡ other.id → SameFrameAndKind row other)
            ⊎ (other.id ≡ row.id → SameFrameAndKind other row)) → row.header ≡ other.header
        by (inl is) = ap (λ (r : MatrixRow). r.header) is
        by (inr (inl agree)) = (agree same).frame.header
        by (inr (inr agree)) = sym (agree (sym same)).frame.header

    begin_apart_either : AllPairs BeginApart rows → (i j : ℕ) (row other : MatrixRow) → i < length rows
        → j < length rows → row ≡ get_or rows i row → other ≡ get_or rows j other → BeginApart row other
    begin_apart_either all i j row other lt lt2 at at2 same some begin =
        by (either rows BeginApart all i j row other lt lt2 at at2)
      where
        by : (row ≡ other) ⊎ (BeginApart row other ⊎ BeginApart other row) → row.pdu ≡ other.pdu
        by (inl is) = ap (λ (r : MatrixRow). r.pdu) is
        by (inr (inl apart)) = apart same some begin
        by (inr (inr apart)) =
            sym (apart (sym same) (λ none. some (one_header i j row other lt lt2 at at2 same ∙ none))
            (sym begin))

    -- the items' parts begin apart where the rows' do
    pub apart_to : AllPairs BeginApart rows → AllPairs (ItemsApart rows row_of) problem.items
    apart_to all i j x before within d e =
        let a = row_here i (omega (arith, before, within)) x in
        let b = row_here j within x in
        begin_apart_either all _ _ (first_of rows row_of (get_or problem.items i x) d)
        (first_of rows row_of (get_or problem.items j x) e) a b (get_or_default rows _ d _ a)
        (get_or_default rows _ e _ b)
      where
        row_here : (n : ℕ) → n < length problem.items → (x : Item)
            → slice_index row_of (slice_index (get_or problem.items n x).members 0) < length rows
        row_here n lt x =
            let item : Item = get_or problem.items n x in
            let is : get_or problem.items n x ≡ get_or problem.items n (get_or problem.items n x) =
            get_or_default problem.items n x (get_or problem.items n x) lt in
            (has _ (member_within n (get_or problem.items n x) lt is 0 0
            (some_member n (get_or problem.items n x) lt is))).0

    -- and the rows' where the items' do
    pub apart_from : AllPairs SamePart rows → AllPairs (ItemsApart rows row_of) problem.items
        → AllPairs BeginApart rows
    apart_from parts each i j d before within same some begin = by (cases_order a.number b.number)
      where
        a : MemberOf problem.items rows row_of i d
        a = member_of i d (omega (arith, before, within))

        b : MemberOf problem.items rows row_of j d
        b = member_of j d within

        each_together : All (ItemTogether rows row_of) problem.items
        each_together n x lt =
            together_to n (get_or problem.items n x) lt
            (get_or_default problem.items n x (get_or problem.items n x) lt) parts

        mine : AtOnePlace (get_or rows i d) (first_of rows row_of a.item d)
        mine = stands_with i d d a each_together

        its : AtOnePlace (get_or rows j d) (first_of rows row_of b.item d)
        its = stands_with j d d b each_together

        first_in : (k : ℕ) (m : MemberOf problem.items rows row_of k d)
            → slice_index row_of (slice_index m.item.members 0) < length rows
        first_in k m =
            (has _ (member_within m.number m.item m.within m.at 0 0
            (some_member m.number m.item m.within m.at))).0

        header_of : (k : ℕ) → k < length rows → (m : MemberOf problem.items rows row_of k d)
            → AtOnePlace (get_or rows k d) (first_of rows row_of m.item d)
            → (get_or rows k d).header ≡ (first_of rows row_of m.item d).header
        header_of k lt m at_one =
            one_header k (slice_index row_of (slice_index m.item.members 0)) (get_or rows k d)
            (first_of rows row_of m.item d) lt (first_in k m)
            (get_or_default rows k d (get_or rows k d) lt)
            (get_or_default rows (slice_index row_of (slice_index m.item.members 0)) d
            (first_of rows row_of m.item d) (first_in k m)) at_one.id

        pdu_of_first : (k : ℕ) (m : MemberOf problem.items rows row_of k d)
            → (first_of rows row_of m.item d).pdu ≡ (get_or rows k d).pdu
        pdu_of_first k m =
            member_pdu m.number m.item m.within m.at 0 0 d (some_member m.number m.item m.within m.at)
            ∙ sym m.pdu

        one_header_here : (get_or rows i d).header ≡ (get_or rows j d).header
        one_header_here = (frames i j d before within same).frame.header

        by : (a.number ≡ b.number) ⊎ ((a.number < b.number) ⊎ (b.number < a.number))
            → (get_or rows i d).pdu ≡ (get_or rows j d).pdu
        by (inl one_number) = a.pdu ∙ ap (λ (x : Item). x.pdu) (same_item i j d a b one_number) ∙ sym b.pdu
        by (inr (inl first)) =
            let apart = each a.number b.number a.item first b.within in
            let here : ItemsApart rows row_of a.item b.item =
            subst (λ x. ItemsApart rows row_of x b.item) (sym a.at)
            (subst (ItemsApart rows row_of (get_or problem.items a.number a.item))
            (get_or_default problem.items b.number a.item b.item b.within ∙ sym b.at) apart) in
            sym (pdu_of_first i a)
            ∙ here d d (sym mine.id ∙ same ∙ its.id)
            (λ none. some (header_of i (omega (arith, before, within)) a mine ∙ none))
            (sym mine.at ∙ begin ∙ its.at)
            ∙ pdu_of_first j b
        by (inr (inr first)) =
            let apart = each b.number a.number b.item first a.within in
            let here : ItemsApart rows row_of b.item a.item =
            subst (λ x. ItemsApart rows row_of x a.item) (sym b.at)
            (subst (ItemsApart rows row_of (get_or problem.items b.number b.item))
            (get_or_default problem.items a.number b.item a.item a.within ∙ sym a.at) apart) in
            sym (pdu_of_first i a)
            ∙ sym (here d d (sym its.id ∙ sym same ∙ mine.id)
            (λ none. some (one_header_here ∙ header_of j within b its ∙ none))
            (sym its.at ∙ sym begin ∙ mine.at))
            ∙ pdu_of_first j b
