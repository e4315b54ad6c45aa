-- Open leaves of trees, and trees that have a subtree for each option.
use Rattle.std.specs.Prelude.{ℕ, zero, suc, ◌+◌, Bool, true, false, ◌||◌, ⊤, List, [], ◌∷◌, Option, None, Some, cond}
use Rattle.pack_model.specs.declared.item.Item.{Item}
use Rattle.class_frame.specs.Frame.{least}
use Rattle.cert_text.specs.Trees.{Plain, Plains, bound, fail, inner, left, more, none}
use Rattle.bandwidth_bound.specs.Trees.{Goal, TreeStands}

-- some leaf is open
abbrev mutual
  pub has_open : Plain → Bool
  has_open (inner trees) = any_open trees
  has_open bound = false
  has_open left = true
  has_open (fail named) = false

  pub any_open : Plains → Bool
  any_open none = false
  any_open (more tree trees) = has_open tree || any_open trees

-- a tree with another one in the place of its first open leaf
abbrev mutual
  pub put_first : Plain → Plain → Plain
  put_first new (inner trees) = inner (put_first_in new trees)
  put_first new bound = bound
  put_first new left = new
  put_first new (fail named) = fail named

  pub put_first_in : Plain → Plains → Plains
  put_first_in new none = none
  put_first_in new (more tree trees) =
      cond (has_open tree) (more (put_first new tree) trees) (more tree (put_first_in new trees))

-- so many open leaves
abbrev pub lefts : ℕ → Plains
lefts zero = none
lefts (suc n) = more left (lefts n)

-- the nodes of a tree besides open leaves
abbrev mutual
  pub nodes_of : Plain → ℕ
  nodes_of (inner trees) = nodes_in trees + 1
  nodes_of bound = 1
  nodes_of left = 0
  nodes_of (fail named) = 1

  pub nodes_in : Plains → ℕ
  nodes_in none = 0
  nodes_in (more tree trees) = nodes_of tree + nodes_in trees

-- What any leaf shows.
abbrev pub any_goal : List Item → Goal
any_goal items = record {
  items = items;
  lower8 = λ p. 0;
  value = Some 0;
  may_leave = true;
  AreFailing = λ p named. ⊤;
}

-- at each inner node of a tree at a partial grouping an item is left, and there is one subtree for each
-- option
abbrev pub HasOptions : List Item → List ℕ → Plain → Type 0
HasOptions items p tree = TreeStands (any_goal items) p tree

-- the least of some numbers, if there are any
abbrev pub least_of : List ℕ → Option ℕ
least_of [] = None
least_of (n ∷ ns) = Some (least (n ∷ ns))

-- the least of some numbers and of one before them, where there is one
abbrev pub least_with : Option ℕ → List ℕ → Option ℕ
least_with None ns = least_of ns
least_with (Some n) ns = Some (least (n ∷ ns))
