-- A problem has one plan within so many branches.
use Rattle.std.proofs.Common.{◌≡◌, ℕ, zero, suc, ◌-◌, List, [], length, Bool, true, false, Option, None, Some, refl, sym, ap, ◌∙◌, subst}
use Rattle.pack_model.specs.Problem.{Parts, IsProblem, IsSorted}
use Rattle.priority_assign.specs.Lowest.{IsLowestFirst}
use Rattle.priority_assign.proofs.OneOrder.{one_order}
use Rattle.class_frame.specs.Legal.{IsLegal}
use Rattle.grouping_tree.proofs.Fronts.{legal-partial}
use Rattle.matrix_rows.specs.declared.matrix.MatrixRow.{MatrixRow}
use Rattle.cert_text.specs.declared.parts.FrameLine.{FrameLine}
use Rattle.cert_text.specs.Parts.{LemmaOf}
use Rattle.cert_text.specs.Trees.{Plain}
use Rattle.bandwidth_bound.specs.Lemmas.{values_of}
use Rattle.bandwidth_bound.proofs.Final.{all_items, frames_in_range}
use Rattle.search_judge.specs.Findings.{frames_at}
use Rattle.search_judge.specs.Laws.{OneIsFound}
use Rattle.tree_search.specs.declared.finding.Found.{Found}
use Rattle.tree_search.specs.Open.{has_open}
use Rattle.tree_search.specs.Step.{Searched}
use Rattle.plan_search.specs.declared.planned.Planned.{Planned}
use Rattle.plan_search.specs.declared.planned.Planned.TheVariants as planned
use Rattle.plan_search.specs.Alone.{labels_alone}
use Rattle.plan_search.specs.Begin.{AreTurns, IsFirst, IsTimed, IsTimedIf, IsTurn, Turns, after_turn, better_of, grouping_by_sender, lemma_of, share_of, turn_count}
use Rattle.plan_search.specs.Searches.{IsSearch}
use Rattle.plan_search.specs.Plan.{Ends, IsPlanOf, IsShownBy, best_cert, last_found, load_found, open_cert}
use Rattle.plan_search.proofs.OnePlan.{one_list}
use Rattle.plan_search.proofs.OneSearch.{search_one}

module _ (problem : Parts) (stands : IsProblem problem)
    (sorted : IsSorted problem.signals problem.items) where
  -- a legal grouping has one order of lowest-priority-first assignment
  order_one : (labels order other : List ℕ) → IsLegal problem.items labels
      → IsLowestFirst (frames_at problem labels) problem.network.nominal_ticks 0 order
      → IsLowestFirst (frames_at problem labels) problem.network.nominal_ticks 0 other → order ≡ other
  order_one labels order other legal it that =
      one_order (frames_at problem labels) problem.network.nominal_ticks
      (record {
        in_range = frames_in_range problem stands problem.items (all_items problem) labels
            (legal-partial problem.items labels legal);
        some_bit = stands.network.nominal_low;
      })
      order other it.fills that.fills

  -- a grouping in time is one
  timed_one : (labels : List ℕ) (found other : Option Found) → IsTimed problem labels found
      → IsTimed problem labels other → found ≡ other
  timed_one labels None None it that = refl
  timed_one labels None (Some other) it that = absurd (it that.0)
  timed_one labels (Some found) None it that = absurd (that it.0)
  timed_one labels (Some found) (Some other) it that =
      let same : found.labels ≡ other.labels = it.1.labels_are ∙ sym that.1.labels_are in
      let order : found.order ≡ other.order =
      order_one labels found.order other.order it.0.legal it.1.lowest_first that.1.lowest_first in
      let load : found.load ≡ other.load = it.1.load_is ∙ sym that.1.load_is in
      λ i. Some (record { labels = same i; order = order i; load = load i })

  timed_if_one : (labels : Option (List ℕ)) (found other : Option Found) → IsTimedIf problem labels found
      → IsTimedIf problem labels other → found ≡ other
  timed_if_one None found other it that = it ∙ sym that
  timed_if_one (Some labels) found other it that = timed_one labels found other it that

  -- the first best is one
  first_one : (turns : Turns) (first other : Option Found) → IsFirst problem turns first
      → IsFirst problem turns other → first ≡ other
  first_one turns first other it that =
      let together : it.together ≡ that.together =
      timed_if_one (grouping_by_sender problem turns) it.together that.together it.together_is
      that.together_is in
      let alone : it.alone ≡ that.alone =
      timed_one (labels_alone problem) it.alone that.alone it.alone_is that.alone_is in
      it.first_is ∙ (λ i. better_of (together i) (alone i)) ∙ sym that.first_is

  module _ (one : OneIsFound) where
    -- a sender's turn goes in one way
    turn_one : (sender : ℕ) (before after other : Turns) → IsTurn problem sender before after
        → IsTurn problem sender before other → after ≡ other
    turn_one sender before after other it that = by (has_open that.end.tree) refl
      where
        same : it.end ≡ that.end
        same = search_one problem stands one (Some sender) [] None
            (share_of before.left (length problem.senders - sender)) it.end that.end it.search that.search

        by : (b : Bool) → has_open that.end.tree ≡ b → after ≡ other
        by true e = it.spent (ap (λ (x : Searched). has_open x.tree) same ∙ e) ∙ sym (that.spent e)
        by false e =
            let (found, is, gives) = it.ended (ap (λ (x : Searched). has_open x.tree) same ∙ e) in
            let (found', is', gives') = that.ended e in
            let some : Some found ≡ Some found' = sym is ∙ ap (λ (x : Searched). x.found) same ∙ is' in
            let equal : found ≡ found' = cc in
            gives
            ∙ (λ i. after_turn before (lemma_of problem sender (equal i).load (same i).tree) (equal i).labels)
            ∙ sym gives'

    -- and so do the turns of the first senders
    turns_one : (branches n : ℕ) (turns other : Turns) → AreTurns problem branches n turns
        → AreTurns problem branches n other → turns ≡ other
    turns_one branches zero turns other it that = it ∙ sym that
    turns_one branches (suc n) turns other it that =
        let before : it.0 ≡ that.0 = turns_one branches n it.0 that.0 it.1 that.1 in
        turn_one n that.0 turns other (subst (λ b. IsTurn problem n b turns) before it.2) that.2

-- what shows a grouping is one
shown_one : (problem : Parts) (found found' : Found) → found ≡ found' → (rows others : List MatrixRow)
    (lines lines' : List FrameLine) → IsShownBy problem found rows lines
    → IsShownBy problem found' others lines'
    → (rows ≡ others) × (lines ≡ lines')
shown_one problem found found' same rows others lines lines' it that =
    let here : IsShownBy problem found' rows lines = subst (λ f. IsShownBy problem f rows lines) same it in (
      here.matrix ∙ sym that.matrix,
      one_list (frames_at problem found'.labels) found'.order problem.network.nominal_ticks lines lines'
          here.lines_are that.lines_are,
    )

-- a leaf is not both open and not, and a grouping is not both there and not
not_both : (b : Bool) → b ≡ false → b ≡ true → ⊥
not_both b e f = let both : false ≡ true = sym e ∙ f in cc

not_none : (best : Option Found) (found : Found) → best ≡ Some found → best ≡ None → ⊥
not_none best found e f = let both : Some found ≡ None = sym e ∙ f in cc

one_found : (best : Option Found) (found other : Found) → best ≡ Some found → best ≡ Some other → found
    ≡ other
one_found best found other e f = let both : Some found ≡ Some other = sym e ∙ f in cc

module _ (problem : Parts) (lemmas : List (LemmaOf Plain)) (best : Option Found) (tree : Plain) where
  -- a plan ends in one way
  ends_one : (plan other : Planned) → Ends problem lemmas best tree plan → Ends problem lemmas best tree other
      → plan ≡ other
  ends_one (planned.Best rows cert) (planned.Best others cert') it that =
      let same : it.1.0 ≡ that.1.0 = one_found best it.1.0 that.1.0 it.1.1 that.1.1 in
      let shown = shown_one problem it.1.0 that.1.0 same rows others cert.frames cert'.frames it.1.2 that.1.2
      in
      let equal : cert ≡ cert' = it.1.3 ∙ (λ i. best_cert problem (shown.1 i) lemmas (same i).load tree)
      ∙ sym that.1.3 in
      λ i. planned.Best (shown.0 i) (equal i)
  ends_one (planned.Best rows cert) (planned.NoSolution cert') it that =
      absurd (not_none best it.1.0 it.1.1 that.1)
  ends_one (planned.Best rows cert) (planned.Spent None cert') it that =
      absurd (not_both (has_open tree) it.0 that.0)
  ends_one (planned.Best rows cert) (planned.Spent (Some others) cert') it that =
      absurd (not_both (has_open tree) it.0 that.0)
  ends_one (planned.NoSolution cert) (planned.Best others cert') it that =
      absurd (not_none best that.1.0 that.1.1 it.1)
  ends_one (planned.NoSolution cert) (planned.NoSolution cert') it that =
      ap planned.NoSolution (it.2 ∙ sym that.2)
  ends_one (planned.NoSolution cert) (planned.Spent None cert') it that =
      absurd (not_both (has_open tree) it.0 that.0)
  ends_one (planned.NoSolution cert) (planned.Spent (Some others) cert') it that =
      absurd (not_both (has_open tree) it.0 that.0)
  ends_one (planned.Spent None cert) (planned.Best others cert') it that =
      absurd (not_both (has_open tree) that.0 it.0)
  ends_one (planned.Spent None cert) (planned.NoSolution cert') it that =
      absurd (not_both (has_open tree) that.0 it.0)
  ends_one (planned.Spent None cert) (planned.Spent None cert') it that =
      ap (λ c. planned.Spent None c) (it.2 ∙ sym that.2)
  ends_one (planned.Spent None cert) (planned.Spent (Some others) cert') it that =
      absurd (not_none best that.1.0 that.1.1 it.1)
  ends_one (planned.Spent (Some rows) cert) (planned.Best others cert') it that =
      absurd (not_both (has_open tree) that.0 it.0)
  ends_one (planned.Spent (Some rows) cert) (planned.NoSolution cert') it that =
      absurd (not_both (has_open tree) that.0 it.0)
  ends_one (planned.Spent (Some rows) cert) (planned.Spent None cert') it that =
      absurd (not_none best it.1.0 it.1.1 that.1)
  ends_one (planned.Spent (Some rows) cert) (planned.Spent (Some others) cert') it that =
      let same : it.1.0 ≡ that.1.0 = one_found best it.1.0 that.1.0 it.1.1 that.1.1 in
      let shown = shown_one problem it.1.0 that.1.0 same rows others cert.frames cert'.frames it.1.2 that.1.2
      in
      let equal : cert ≡ cert' = it.1.3 ∙ (λ i. open_cert (shown.1 i) lemmas tree) ∙ sym that.1.3 in
      λ i. planned.Spent (Some (shown.0 i)) (equal i)

-- there is one plan
pub plan_one : (problem : Parts) (one : OneIsFound) (branches : ℕ) (plan other : Planned)
    → IsProblem problem → IsSorted problem.signals problem.items → IsPlanOf problem branches plan
    → IsPlanOf problem branches other → plan ≡ other
plan_one problem one branches plan other stands sorted it that =
    let turns : it.begins.turns ≡ that.begins.turns =
    turns_one problem stands sorted one branches (turn_count problem) it.begins.turns that.begins.turns
    it.begins.are that.begins.are in
    let lemmas : it.lemmas ≡ that.lemmas =
    it.begins.lemmas_are ∙ ap (λ (t : Turns). t.lemmas) turns ∙ sym that.begins.lemmas_are in
    let left : it.left ≡ that.left =
    it.begins.left_is ∙ ap (λ (t : Turns). t.left) turns ∙ sym that.begins.left_is in
    let first : it.first ≡ that.first =
    first_one problem stands sorted that.begins.turns it.first that.first
    (subst (λ t. IsFirst problem t it.first) turns it.begins.first_is) that.begins.first_is in
    let search : IsSearch problem None (values_of problem that.lemmas)
    (load_found that.first) that.left it.end =
    subst (λ ls. IsSearch problem None (values_of problem ls) (load_found that.first) that.left it.end) lemmas
    (subst (λ f. IsSearch problem None (values_of problem it.lemmas) (load_found f) that.left it.end) first
    (subst (λ n. IsSearch problem None (values_of problem it.lemmas) (load_found it.first) n it.end) left
    it.search)) in
    let end : it.end ≡ that.end =
    search_one problem stands one None (values_of problem that.lemmas) (load_found that.first) that.left
    it.end that.end search that.search in
    let ends : Ends problem that.lemmas (last_found that.end.found that.first) that.end.tree plan =
    subst (λ ls. Ends problem ls (last_found that.end.found that.first) that.end.tree plan) lemmas
    (subst (λ (x : Searched). Ends problem it.lemmas (last_found x.found that.first) x.tree plan) end
    (subst (λ f. Ends problem it.lemmas (last_found it.end.found f) it.end.tree plan) first it.ends)) in
    ends_one problem that.lemmas (last_found that.end.found that.first) that.end.tree plan other ends
    that.ends
