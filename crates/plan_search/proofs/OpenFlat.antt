-- Whether a leaf is open, from the nodes of a tree.
use Rattle.std.proofs.Common.{◌≡◌, refl, sym, ap, ◌∙◌}
use Rattle.std.specs.Prelude.{◌||◌}
use Rattle.std.specs.List.{list_any}
use Rattle.std.proofs.lemmas.List.Folds.{list_any-append}
use Rattle.cert_text.specs.Trees.{Plain, Plains, bound, fail, inner, left, more, none}
use Rattle.tree_search.specs.Flat.{flat, flat_each}
use Rattle.tree_search.specs.Open.{any_open, has_open}
use Rattle.plan_search.specs.Ending.{is_left}

mutual
  pub open-flat : (t : Plain) → has_open t ≡ list_any is_left (flat t)
  open-flat (inner ts) = open-flat_each ts
  open-flat bound = refl
  open-flat left = refl
  open-flat (fail named) = refl

  open-flat_each : (ts : Plains) → any_open ts ≡ list_any is_left (flat_each ts)
  open-flat_each none = refl
  open-flat_each (more t ts) =
      ap (λ b. b || any_open ts) (open-flat t) ∙ ap (λ b. list_any is_left (flat t) || b) (open-flat_each ts)
      ∙ sym (list_any-append is_left (flat t) (flat_each ts))
