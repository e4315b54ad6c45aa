-- The first row of each identifier, with which its other rows agree.
use Rattle.std.proofs.Common.{◌≡◌, ℕ, ◌+◌, ◌<◌, ◌≤◌, ◌⊎◌, List, length, get_or, inl, inr, sym, ap, subst, ◌∙◌, arith, All, AllPairs, refl, set, get_or-set_same, get_or-set_other}
use Rattle.std.proofs.lemmas.Bool.{cases_lt, cases_eq}
use Rattle.std.proofs.lemmas.List.{get_or_default}
use Rattle.matrix_rows.specs.declared.matrix.MatrixRow.{MatrixRow}
use Rattle.matrix_rows.specs.Row.{RowInRange}
use Rattle.placed_matrix.specs.Tables.{no_row, SameFrameAndKind}

-- none of the rows below a number has the identifier
abbrev pub NoneBelow : List MatrixRow → ℕ → ℕ → Type 0
NoneBelow rows number id = (k : ℕ) (d : MatrixRow) → k < number → (get_or rows k d).id ≡ id → ⊥

-- a row below the number has the identifier, and each other that has it agrees
pub record FirstBelow (rows : List MatrixRow) (number id first : ℕ) : Type 0 where
  pub below : first < number
  pub has : (d : MatrixRow) → (get_or rows first d).id ≡ id
  pub agree : (d : MatrixRow) (k : ℕ) (e : MatrixRow) → k < number → (get_or rows k e).id ≡ id
      → SameFrameAndKind (get_or rows first d) (get_or rows k e)

-- what the table says of an identifier
abbrev pub HasFirst : List MatrixRow → ℕ → ℕ → ℕ → Type 0
HasFirst rows number id first =
    ((first ≡ no_row) × NoneBelow rows number id) ⊎ FirstBelow rows number id first

-- the element of a number, whatever the default
pub at_number : {X : Type 0} (rows : List X) (number : ℕ) (row d : X) → number < length rows
    → row ≡ get_or rows number row → get_or rows number d ≡ row
at_number rows number row d lt at = get_or_default rows number d row lt ∙ sym at

agrees : (row : MatrixRow) → SameFrameAndKind row row
agrees row =
    record { frame = record { sender = refl; size = refl; ticks = refl; header = refl }; kind = refl }

pub agrees_by : (a b c : MatrixRow) → SameFrameAndKind a b → SameFrameAndKind a c → SameFrameAndKind b c
agrees_by a b c e f = record {
  frame = record {
    sender = sym e.frame.sender ∙ f.frame.sender;
    size = sym e.frame.size ∙ f.frame.size;
    ticks = sym e.frame.ticks ∙ f.frame.ticks;
    header = sym e.frame.header ∙ f.frame.header;
  };
  kind = sym e.kind ∙ f.kind;
}

-- what holds of the elements below a number and of its element holds below the next
pub below_row : {X : Type 0} (rows : List X) (number : ℕ) (row : X) (P : X → Type 0) → number < length rows
    → row ≡ get_or rows number row
    → ((k : ℕ) (d : X) → k < number → P (get_or rows k d)) → P row → (k : ℕ) (d : X) → k < number + 1
    → P (get_or rows k d)
below_row rows number row P lt at below here k d before = by (cases_lt k number)
  where
    by : (k < number) ⊎ (number ≤ k) → P (get_or rows k d)
    by (inl h) = below k d h
    by (inr h) =
        let last : number ≡ k = omega arith in
        subst (λ n. P (get_or rows n d)) last (subst P (sym (at_number rows number row d lt at)) here)

module _ (rows : List MatrixRow) (number : ℕ) (row : MatrixRow) (lt : number < length rows)
    (at : row ≡ get_or rows number row) where
  -- a row of another identifier changes nothing
  other_id : (id first : ℕ) → (row.id ≡ id → ⊥) → HasFirst rows number id first
      → HasFirst rows (number + 1) id first
  other_id id first differ (inl none) =
      inl (none.0, below_row rows number row (λ r. r.id ≡ id → ⊥) lt at none.1 differ)
  other_id id first differ (inr found) = inr (record {
    below = omega (arith, found.below);
    has = found.has;
    agree =
        λ d. below_row rows number row (λ r. r.id ≡ id → SameFrameAndKind (get_or rows first d) r) lt at
        (found.agree d) (λ same. absurd (differ same));
  })

  -- a first row
  new_first : NoneBelow rows number row.id → HasFirst rows (number + 1) row.id number
  new_first none = inr (record {
    below = omega arith;
    has = λ d. ap (λ (r : MatrixRow). r.id) (at_number rows number row d lt at);
    agree =
        λ d. below_row rows number row (λ r. r.id ≡ row.id → SameFrameAndKind (get_or rows number d) r) lt at
        (λ k e before same. absurd (none k e before same))
        (λ _. subst (λ r. SameFrameAndKind r row) (sym (at_number rows number row d lt at)) (agrees row));
  })

  -- the table with a first row
  pub with_first : (table : List ℕ) → length table ≡ 2048 → number < no_row → row.id ≤ 2047
      → get_or table row.id 0 ≡ no_row
      → ((id : ℕ) → id < 2048 → HasFirst rows number id (get_or table id 0)) → (id : ℕ) → id < 2048
      → HasFirst rows (number + 1) id (get_or (set table row.id number) id 0)
  with_first table long small in_range free so_far id below =
      by (cases_eq id row.id) (so_far row.id (omega arith))
    where
      by : (id ≡ row.id) ⊎ (id ≡ row.id → ⊥) → HasFirst rows number row.id (get_or table row.id 0)
          → HasFirst rows (number + 1) id (get_or (set table row.id number) id 0)
      by (inl same) (inl none) =
          let inside : row.id < length table = omega arith in
          subst (λ i. HasFirst rows (number + 1) i (get_or (set table row.id number) i 0)) (sym same)
          (subst (λ f. HasFirst rows (number + 1) row.id f)
          (sym (get_or-set_same table row.id number 0 inside)) (new_first none.1))
      by (inl same) (inr found) = absurd (omega (arith, found.below, free))
      by (inr differ) _ =
          subst (λ f. HasFirst rows (number + 1) id f)
          (sym (get_or-set_other table row.id id number 0 differ))
          (other_id id (get_or table id 0) (λ e. differ (sym e)) (so_far id below))

  -- the table stays where the row agrees with its first row
  pub with_agreeing : (table : List ℕ) (first : MatrixRow) → row.id ≤ 2047
      → (get_or table row.id 0 ≡ no_row → ⊥) → first ≡ get_or rows (get_or table row.id 0) first
      → SameFrameAndKind first row
      → ((id : ℕ) → id < 2048 → HasFirst rows number id (get_or table id 0)) → (id : ℕ) → id < 2048
      → HasFirst rows (number + 1) id (get_or table id 0)
  with_agreeing table first in_range there is agree so_far id below =
      by (cases_eq id row.id) (so_far id below)
    where
      by : (id ≡ row.id) ⊎ (id ≡ row.id → ⊥) → HasFirst rows number id (get_or table id 0)
          → HasFirst rows (number + 1) id (get_or table id 0)
      by (inl same) (inl none) = absurd (there (ap (λ i. get_or table i 0) (sym same) ∙ none.0))
      by (inl same) (inr found) = inr (record {
        below = omega (arith, found.below);
        has = found.has;
        agree =
            λ d. below_row rows number row
            (λ r. r.id ≡ id → SameFrameAndKind (get_or rows (get_or table id 0) d) r) lt at (found.agree d)
            (λ _. subst (λ r. SameFrameAndKind r row)
            (is ∙ get_or_default rows (get_or table row.id 0) first d
            (omega (arith, found.below, ap (λ i. get_or table i 0) same))
            ∙ ap (λ i. get_or rows (get_or table i 0) d) (sym same)) agree);
      })
      by (inr differ) found = other_id id (get_or table id 0) (λ e. differ (sym e)) found

  -- a row that disagrees with the first row of its frame
  pub disagrees : (table : List ℕ) (first : MatrixRow) → row.id ≤ 2047 → (get_or table row.id 0 ≡ no_row → ⊥)
      → first ≡ get_or rows (get_or table row.id 0) first → (SameFrameAndKind first row → ⊥)
      → ((id : ℕ) → id < 2048 → HasFirst rows number id (get_or table id 0))
      → AllPairs (λ r other. r.id ≡ other.id → SameFrameAndKind r other) rows → ⊥
  disagrees table first in_range there is differ so_far agree = by (so_far row.id (omega arith))
    where
      by : HasFirst rows number row.id (get_or table row.id 0) → ⊥
      by (inl none) = there none.0
      by (inr found) =
          differ (subst (λ r. SameFrameAndKind r row) (sym is)
          (subst (λ r. SameFrameAndKind (get_or rows (get_or table row.id 0) first) r)
          (at_number rows number row first lt at)
          (agree (get_or table row.id 0) number first found.below lt
          (found.has first ∙ sym (ap (λ (r : MatrixRow). r.id)
          (at_number rows number row first lt at))))))

-- at the end all rows of a frame agree
pub all_agree : (rows : List MatrixRow) (number : ℕ) (table : List ℕ) → length rows ≤ number
    → ((k : ℕ) (d : MatrixRow) → k < length rows → (get_or rows k d).id ≤ 2047)
    → ((id : ℕ) → id < 2048 → HasFirst rows number id (get_or table id 0))
    → AllPairs (λ r other. r.id ≡ other.id → SameFrameAndKind r other) rows
all_agree rows number table all in_range found i j d before within same =
    by (found (get_or rows i d).id
    (let low : (get_or rows i d).id ≤ 2047 = in_range i d (omega arith) in omega (arith, low)))
  where
    by : HasFirst rows number (get_or rows i d).id (get_or table (get_or rows i d).id 0)
        → SameFrameAndKind (get_or rows i d) (get_or rows j d)
    by (inl none) = absurd (none.1 i d (omega arith) refl)
    by (inr first) =
        agrees_by _ _ _ (first.agree d i d (omega arith) refl) (first.agree d j d (omega arith) (sym same))

-- a row of a list whose rows are in range is in range
pub in_range_at : (rows : List MatrixRow) (number : ℕ) (row : MatrixRow) → number < length rows
    → row ≡ get_or rows number row → All RowInRange rows → RowInRange row
in_range_at rows number row lt at all = subst RowInRange (sym at) (all number row lt)
