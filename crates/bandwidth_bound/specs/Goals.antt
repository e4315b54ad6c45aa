-- What trees are to show of the groupings of a problem's items, all of them or one sender's: the project's
-- own.
use Rattle.std.specs.Prelude.{ℕ, ◌*◌, Bool, false, List, [], Option, None, Some}
use Rattle.std.specs.Option.{option_map}
use Rattle.pack_model.specs.Problem.{Parts}
use Rattle.class_frame.specs.Classes.{frames_of_classes}
use Rattle.grouping_tree.specs.Grouped.{items_in}
use Rattle.response_test.specs.declared.evidence.Evidence.{Evidence}
use Rattle.bandwidth_bound.specs.Failing.{AreRefuted}
use Rattle.bandwidth_bound.specs.Prices.{lower8_of}
use Rattle.bandwidth_bound.specs.Trees.{Goal}

-- the classes that a fail leaf names are refuted at a partial grouping of all items
abbrev pub ClassesFail : Parts → List ℕ → List (ℕ × Evidence) → Type 0
ClassesFail problem p named =
    AreRefuted (frames_of_classes problem problem.items p) problem.network.nominal_ticks problem.hyper named

-- what a fail leaf is to show: of one sender's items alone none may stand
abbrev pub FailsIn : Parts → Option ℕ → List ℕ → List (ℕ × Evidence) → Type 0
FailsIn problem None p named = ClassesFail problem p named
FailsIn problem (Some sender) p named = ⊥

-- what a tree over all items, or over one sender's, is to show by bounds with the values of lemmas: that each
-- grouping reaches the value, or can't meet all deadlines
abbrev pub range_goal : Parts → Option ℕ → List ℕ → Option ℕ → Bool → Goal
range_goal problem range values value may_leave = record {
  items = items_in problem.items range;
  lower8 = lower8_of problem values (items_in problem.items range);
  value = value;
  may_leave = may_leave;
  AreFailing = FailsIn problem range;
}

-- a load in eighths, if there is one
abbrev pub eighths : Option ℕ → Option ℕ
eighths best = option_map (λ load. 8 * load) best

-- what the main tree is to show: that each grouping reaches the best, or can't meet all deadlines
abbrev pub main_goal : Parts → List ℕ → Option ℕ → Bool → Goal
main_goal problem values best may_leave = range_goal problem None values (eighths best) may_leave

-- what the tree of a lemma is to show: that each grouping of the sender's items reaches the value, by bounds
-- without lemmas
abbrev pub lemma_goal : Parts → ℕ → ℕ → Goal
lemma_goal problem sender value = range_goal problem (Some sender) [] (Some value) false
