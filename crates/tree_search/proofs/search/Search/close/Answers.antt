use Rattle.std.proofs.Common.{◌≡◌, true, false, refl, sym, ◌∙◌}
use Rattle.tree_search.proofs.search.Search.close.Goals as goal

pub returns-clause-goes_on : goal.returns-clause-goes_on
returns-clause-goes_on c =
    let told = c.back-from.ensures in
    record {
      is_of = record {
        belongs = told.belongs;
        below = told.below;
        done = λ e. absurd (let both : true ≡ false = sym c.requires.open ∙ e in cc);
      };
      items = told.range;
      start = told.front;
      base = refl;
      room = told.room;
    }

pub returns-clause-done : goal.returns-clause-done
returns-clause-done c = λ e. (rw e at c.back-from.ensures.less) ∙ sym c.back-from.ensures.front
