-- What is asked of the classes of a partial grouping of a range, where the range has all items.
use Rattle.std.proofs.Common.{◌≡◌, ℕ, false, List, Option, Some, None, IfNone, refl, sym, ap, subst, ◌∙◌}
use Rattle.std.proofs.lemmas.Bool.{false≢true}
use Rattle.std.specs.Option.{is_some}
use Rattle.busy_period.specs.declared.timed.Timed.{Timed}
use Rattle.pack_model.specs.declared.item.Item.{Item}
use Rattle.pack_model.specs.Problem.{Parts}
use Rattle.response_test.specs.Order.{OrderPasses}
use Rattle.class_frame.specs.Classes.{frames_of_classes}
use Rattle.grouping_tree.specs.Grouped.{items_in}
use Rattle.search_judge.specs.Findings.{CanPass, frames_at}

-- no sender
pub no_sender : (range : Option ℕ) → is_some range ≡ false → range ≡ None
no_sender None is = refl
no_sender (Some sender) is = absurd (false≢true (sym is))

-- what follows where nothing was found
none_weaker : {X : Type 0} (found : Option X) (A B : Type 0) → (A → B) → IfNone found A → IfNone found B
none_weaker None A B f a = f a
none_weaker (Some x) A B f a = a

module _ (problem : Parts) (range : Option ℕ) (items : List Item) (p : List ℕ) (frames : List Timed)
    (bit : ℕ) (all : range ≡ None) (items_are : items ≡ items_in problem.items range)
    (frames_are : frames ≡ frames_of_classes problem items p) (bit_is : bit ≡ problem.network.nominal_ticks) where
  -- the frames are those of all items
  these : frames ≡ frames_at problem p
  these =
      frames_are
      ∙ ap (λ xs. frames_of_classes problem xs p) (items_are ∙ ap (items_in problem.items) all)

  -- an order lets each class so far pass
  passes_at : (order : List ℕ) → OrderPasses frames bit order → CanPass problem range p
  passes_at order passes =
      subst (λ r. CanPass problem r p) (sym all) (
        order,
        subst (λ b. OrderPasses (frames_at problem p) b order) bit_is
            (subst (λ fs. OrderPasses fs bit order) these passes),
      )

  pub can_pass : {X : Type 0} (found : Option X) (order : List ℕ) → IfNone found (OrderPasses frames bit order)
      → IfNone found (CanPass problem range p)
  can_pass found order =
      none_weaker found (OrderPasses frames bit order) (CanPass problem range p) (passes_at order)
