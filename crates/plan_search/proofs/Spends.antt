-- What a sender's search within its share came to, from what the search holds.
use Rattle.std.proofs.Common.{◌≡◌, ℕ, ◌<◌, ◌≤◌, false, List, [], Some, None, ap, ◌∙◌}
use Rattle.pack_model.specs.declared.item.Item.{Item}
use Rattle.pack_model.specs.Problem.{Parts, sent_by}
use Rattle.cert_text.specs.Trees.{Plain}
use Rattle.bandwidth_bound.specs.Prices.{lower8_of}
use Rattle.tree_search.specs.declared.search.Search.{Search}
use Rattle.tree_search.specs.Shown.{IsAt, items_of, start_of}
use Rattle.tree_search.specs.Step.{Searched, Steps}
use Rattle.tree_search.specs.Trim.{reaches, trim}
use Rattle.search_judge.specs.declared.judge.SearchJudge.{SearchJudge}
use Rattle.search_judge.specs.Findings.{Finds}
use Rattle.search_judge.specs.Judges.{IsJudge}
use Rattle.search_judge.proofs.Places.{open_at, steps_over}
use Rattle.plan_search.specs.Searches.{IsSearch, begun_with, trimmed}

-- a search that came to this
pub record Reached (problem : Parts) (sender share : ℕ) (last : Search) : Type 0 where
  pub end : Searched
  pub search : IsSearch problem (Some sender) [] None share end
  pub at : IsAt problem last end

-- some steps of a search over a sender's items from the start
pub reached : (problem : Parts) (sender share made : ℕ) (judge : SearchJudge) (first last : Search)
    → IsJudge problem (Some sender) [] judge
    → items_of problem first ≡ sent_by problem.items sender → start_of first ≡ []
    → IsAt problem first (begun_with None)
    → made ≤ share → (made < share → last.open ≡ false)
    → ((x : Searched) → IsAt problem first x → (y : Searched)
    × Steps (Finds problem judge.range judge.values.items) (items_of problem first) (start_of first) made x y
    × IsAt problem last y)
    → Reached problem sender share last
reached problem sender share made judge first last is items start at within fewer gives =
    let told = gives (begun_with None) at in
    record {
      end = told.0;
      search = record {
        made = made;
        steps = steps_over problem (Some sender) [] (items_of problem first) (start_of first) [] judge made
            (begun_with None) told.0 is items start told.1;
        within = within;
        fewer = λ lt. open_at problem last told.0 told.2 ∙ fewer lt;
      };
      at = told.2;
    }

-- the tree that is trimmed by the judge's bound is the trimmed one
pub trimmed-is : (problem : Parts) (sender value : ℕ) (taken : Search)
    (bound8 other8 : Parts → List Item → List ℕ → ℕ) (tree : Plain)
    → items_of problem taken ≡ sent_by problem.items sender → start_of taken ≡ [] → bound8 ≡ other8
    → other8 problem (sent_by problem.items sender) ≡ lower8_of problem [] (sent_by problem.items sender)
    → trim (items_of problem taken) (reaches (bound8 problem (items_of problem taken)) value)
    (start_of taken) tree
    ≡ trimmed problem (Some sender) [] value tree
trimmed-is problem sender value taken bound8 other8 tree items start bounds is =
    let own = sent_by problem.items sender in
    ap (λ from. trim (items_of problem taken) (reaches (bound8 problem (items_of problem taken)) value) from
    tree)
    start
    ∙ ap (λ (all : List Item). trim all (reaches (bound8 problem all) value) [] tree) items
    ∙ ap (λ (lower8 : List ℕ → ℕ). trim own (reaches lower8 value) [] tree)
    (ap (λ (b : Parts → List Item → List ℕ → ℕ). b problem own) bounds ∙ is)
