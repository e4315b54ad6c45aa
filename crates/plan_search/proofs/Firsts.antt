-- The first best grouping.
use Rattle.std.proofs.Common.{◌≡◌, ℕ, ◌+◌, ◌*◌, ◌/◌, List, [], ◌∷◌, map, sum_by, Option, Some, None, IfSome, Bool, true, false, cond, nat_lt, refl, sym, ap, subst, ◌∙◌}
use Rattle.std.proofs.lemmas.List.Sums.{sum_by-cons}
use Rattle.pack_model.specs.Problem.{Parts}
use Rattle.busy_period.specs.declared.timed.Timed.{Timed}
use Rattle.response_test.specs.Order.{OrderPasses}
use Rattle.priority_assign.specs.Lowest.{IsLowestFirst}
use Rattle.class_frame.specs.Classes.{frames_of_classes, load_of}
use Rattle.class_frame.specs.Frame.{load_of_items, timed_of_items}
use Rattle.class_frame.specs.Grouping.{class_of}
use Rattle.class_frame.specs.Legal.{IsLegal}
use Rattle.search_judge.specs.Findings.{FoundStands}
use Rattle.tree_search.specs.declared.finding.Found.{Found}
use Rattle.plan_search.specs.Alone.{labels_alone}
use Rattle.plan_search.specs.Begin.{IsFirst, IsTimed, IsTimedIf, Turns, better_of, grouping_by_sender}

-- the load of a grouping is that of its classes as frames
pub loads-sum : (problem : Parts) (labels ls : List ℕ)
    → sum_by (λ (frame : Timed). frame.ticks * (problem.hyper / frame.period))
    (map (λ label. timed_of_items problem (class_of label labels problem.items)) ls)
    ≡ sum_by (λ label. load_of_items problem (class_of label labels problem.items)) ls
loads-sum problem labels [] = refl
loads-sum problem labels (l ∷ ls) =
    let frame : ℕ → Timed = λ label. timed_of_items problem (class_of label labels problem.items) in
    let ticks : Timed → ℕ = λ one. one.ticks * (problem.hyper / one.period) in
    let load : ℕ → ℕ = λ label. load_of_items problem (class_of label labels problem.items) in
    sum_by-cons ticks (frame l) (map frame ls) ∙ ap (λ n. load l + n) (loads-sum problem labels ls)
    ∙ sym (sum_by-cons load l ls)

-- a legal grouping in an order in which each of its frames passes
pub found-timed : (problem : Parts) (labels order : List ℕ) (frames : List Timed) (bit load : ℕ)
    → IsLegal problem.items labels → frames ≡ frames_of_classes problem problem.items labels
    → bit ≡ problem.network.nominal_ticks → IsLowestFirst frames bit 0 order → OrderPasses frames bit order
    → load ≡ load_of problem problem.items labels
    → IsTimed problem labels (Some (record { labels = labels; order = order; load = load }))
found-timed problem labels order frames bit load legal are time lowest passes load_is =
    let passing : OrderPasses (frames_of_classes problem problem.items labels) problem.network.nominal_ticks
    order =
    subst (λ b. OrderPasses (frames_of_classes problem problem.items labels) b order) time
    (subst (λ fs. OrderPasses fs bit order) are passes) in
    let first : IsLowestFirst (frames_of_classes problem problem.items labels) problem.network.nominal_ticks 0
    order = subst (λ b. IsLowestFirst (frames_of_classes problem problem.items labels) b 0 order) time
    (subst (λ fs. IsLowestFirst fs bit 0 order) are lowest) in (
      record { legal = legal; order = order; passes = passing },
      record { labels_are = refl; lowest_first = first; passes = passing; load_is = load_is },
    )

-- what is found stands
timed-stands : (problem : Parts) (labels : List ℕ) (found : Found) → IsTimed problem labels (Some found)
    → FoundStands problem found
timed-stands problem labels found it =
    let same = sym it.1.labels_are in
    record {
      legal = subst (IsLegal problem.items) same it.0.legal;
      lowest_first =
          subst (λ l. IsLowestFirst (frames_of_classes problem problem.items l) problem.network.nominal_ticks
          0
          found.order) same it.1.lowest_first;
      passes = subst (λ l. OrderPasses (frames_of_classes problem problem.items l)
          problem.network.nominal_ticks
          found.order) same it.1.passes;
      load_is = it.1.load_is ∙ ap (load_of problem problem.items) same;
    }

-- what stands, if it is there
abbrev StandsIf : Parts → Option Found → Type 0
StandsIf problem None = Unit {0}
StandsIf problem (Some found) = FoundStands problem found

timed-if : (problem : Parts) (labels : List ℕ) (found : Option Found) → IsTimed problem labels found
    → StandsIf problem found
timed-if problem labels None it = tt
timed-if problem labels (Some found) it = timed-stands problem labels found it

together-if : (problem : Parts) (labels : Option (List ℕ)) (found : Option Found)
    → IsTimedIf problem labels found
    → StandsIf problem found
together-if problem None found it = subst (StandsIf problem) (sym it) tt
together-if problem (Some labels) found it = timed-if problem labels found it

better-if : (problem : Parts) (one other : Option Found) → StandsIf problem one → StandsIf problem other
    → StandsIf problem (better_of one other)
better-if problem None other a b = b
better-if problem (Some one) None a b = a
better-if problem (Some one) (Some other) a b = by (nat_lt other.load one.load)
  where
    by : (c : Bool) → StandsIf problem (cond c (Some other) (Some one))
    by true = b
    by false = a

to-if : (problem : Parts) (first : Option Found) → StandsIf problem first → IfSome first (FoundStands problem)
to-if problem None h = tt
to-if problem (Some found) h = h

-- the first best stands
pub first-stands : (problem : Parts) (turns : Turns) (first : Option Found) → IsFirst problem turns first
    → IfSome first (FoundStands problem)
first-stands problem turns first it =
    to-if problem first
    (subst (StandsIf problem) (sym it.first_is)
    (better-if problem it.together it.alone
    (together-if problem (grouping_by_sender problem turns) it.together it.together_is)
    (timed-if problem (labels_alone problem) it.alone it.alone_is)))
