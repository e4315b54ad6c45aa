use Rattle.std.proofs.Common.{◌≡◌, Bool, true, false, IsTrue, ◌++◌, ◌∷◌, [], refl, ◌∙◌, inl, inr}
use Rattle.class_frame.specs.Frame.{bytes_of_items}
use Rattle.class_frame.specs.Grouping.{class_of}
use Rattle.grouping_tree.specs.Grouped.{labels_of, range_of}
use Rattle.grouping_tree.proofs.Joins.{alike_or_not}
use Rattle.grouping_tree.proofs.Used.{may_not_put, may_put_is, next_fill, next_small, put_kind, used_room}
use Rattle.grouping_tree.proofs.partial.Partial.may_put.Goals as goal

pub kept_of-requires : goal.kept_of-requires
kept_of-requires c =
    let (problem, b, is) = c.requires.next in
    record { belongs = (problem, b); low = used_room problem c.args.self.now c.args.label b c.requires.used }

pub may_join-requires : goal.may_join-requires
may_join-requires c =
    let (problem, b, is) = c.requires.next in
    let small =
    next_small problem c.args.self.now c.args.label c.args.next.now c.kept_of.result.now.fill b is
    (c.kept_of.ensures problem b).fill in
    record { pdus = small.0; weight = small.1 }

not_true : (b : Bool) → (IsTrue b → ⊥) → b ≡ false
not_true true wrong = absurd (wrong refl)
not_true false wrong = refl

pub returns : goal.returns
returns c = λ problem b is.
    let p = c.args.self.now in
    let label = c.args.label in
    let next = c.args.next.now in
    let before = c.kept_of.result.now.fill in
    let are = (c.kept_of.ensures problem b).fill in
    let items = class_of label (labels_of p ++ label ∷ []) (range_of problem p) in
    elim (alike_or_not before next.fill) [
      | inl alike ↦
          c.may_join.ensures.fits problem items alike (next_fill problem p label next before b is are)
          (put_kind problem p label next before b is c.requires.used are alike)
          ∙ may_put_is problem p label next before b is c.requires.used are (bytes_of_items items) alike refl
      | inr apart ↦
          not_true c.may_join.result (λ yes. apart (c.may_join.ensures.alike yes))
          ∙ may_not_put problem p label next before b is c.requires.used are apart
    ]
