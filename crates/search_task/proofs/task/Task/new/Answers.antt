use Rattle.std.proofs.Common.{[], length, refl, ap, ◌∙◌}
use Rattle.cert_text.proofs.Trees.{plain-Left}
use Rattle.search_task.proofs.task.Task.new.Goals as goal

pub returns-clause-task : goal.returns-clause-task
returns-clause-task c = record {
  path_stands = rw c.in_ok-from_slice.ensures.items c.requires.path;
  one_each = ap length c.in_ok-from_slice-2.ensures.items ∙ c.requires.lemmas;
  stands = rw plain-Left refl;
  nodes = rw plain-Left (record { closed = []; count = 1; parts = refl; are_closed = tt });
  is_open = rw plain-Left refl;
  found_stands = tt;
}

pub returns-clause-search : goal.returns-clause-search
returns-clause-search c = rw plain-Left refl
