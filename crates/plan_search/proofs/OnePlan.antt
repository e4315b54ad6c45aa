-- A problem has one plan in which each item has a frame of its own.
use Rattle.std.proofs.Common.{◌≡◌, ℕ, List, length, get_or, ap, sym, ◌∙◌, subst, arith}
use Rattle.std.proofs.lemmas.List.{get_or_default, same_lists}
use Rattle.pack_model.specs.Problem.{Parts, IsProblem, IsSorted}
use Rattle.busy_period.specs.declared.timed.Timed.{Timed}
use Rattle.busy_period.specs.Busy.{IsBusy}
use Rattle.busy_period.specs.Demand.{demand_of, instances_of}
use Rattle.busy_period.specs.Stage.{own_of}
use Rattle.busy_period.proofs.Least.{least_unique}
use Rattle.response_test.specs.Frame.{FrameCanStart}
use Rattle.priority_assign.proofs.OneOrder.{one_order}
use Rattle.matrix_rows.specs.declared.matrix.MatrixRow.{MatrixRow}
use Rattle.matrix_text.specs.LaidOut.{rows_of}
use Rattle.matrix_layout.proofs.OneEach.{one_each_legal}
use Rattle.grouping_tree.proofs.Fronts.{legal-partial}
use Rattle.cert_text.specs.Parts.{CertParts}
use Rattle.cert_text.specs.declared.parts.FrameLine.{FrameLine}
use Rattle.bandwidth_bound.proofs.Final.{all_items, frames_in_range}
use Rattle.plan_search.specs.declared.alone.Alone.{Alone}
use Rattle.plan_search.specs.declared.alone.Alone.TheVariants as alone
use Rattle.plan_search.specs.Alone.{IsInTime, IsPlanAlone, frames_alone, labels_alone, timed_parts}
use Rattle.plan_search.specs.Lines.{AreLeastLines, IsLeastLine}

module _ (frames : List Timed) (order : List ℕ) (bit : ℕ) where
  -- the frame at a place has one line with the least numbers
  one_line : (place : ℕ) (line other : FrameLine) → IsLeastLine frames order bit place line
      → IsLeastLine frames order bit place other → line ≡ other
  one_line place line other least least' =
      let busy : line.busy ≡ other.busy = least_unique (IsBusy
      (demand_of frames order place)) line.busy other.busy least.busy.busy least'.busy.busy in
      let long : length line.queue ≡ length other.queue =
      least.count ∙ ap (instances_of (own_of frames order place)) busy ∙ sym least'.count in
      let queue : line.queue ≡ other.queue =
      same_lists line.queue other.queue long (λ i d inside.
      get_or_default line.queue i d 0 inside
      ∙ least_unique (FrameCanStart frames order place bit i) (get_or line.queue i 0)
      (get_or other.queue i 0) (least.starts i inside) (least'.starts i (omega (arith, inside, long)))
      ∙ get_or_default other.queue i 0 d (omega (arith, inside, long))) in
      λ i. record { busy = busy i; queue = queue i }

  -- and an order has one list of them
  pub one_list : (lines others : List FrameLine) → AreLeastLines frames order bit lines
      → AreLeastLines frames order bit others → lines ≡ others
  one_list lines others least least' =
      let long : length lines ≡ length others = least.count ∙ sym least'.count in
      same_lists lines others long (λ i d inside.
      one_line i (get_or lines i d) (get_or others i d) (least.each i d inside)
      (least'.each i d (omega (arith, inside, long))))

module _ (problem : Parts) (stands : IsProblem problem) where
  -- frames in time have one order, one matrix and one certificate
  one_in_time : (rows others : List MatrixRow) (cert other : CertParts) → IsInTime problem rows cert
      → IsInTime problem others other
      → alone.InTime rows cert ≡ alone.InTime others other
  one_in_time rows others cert other it that =
      let order : it.order ≡ that.order =
      one_order (frames_alone problem) problem.network.nominal_ticks
      (record {
        in_range = frames_in_range problem stands problem.items (all_items problem) (labels_alone problem)
            (legal-partial problem.items (labels_alone problem) (one_each_legal problem stands));
        some_bit = stands.network.nominal_low;
      })
      it.order that.order it.lowest_first.fills that.lowest_first.fills in
      let same_rows : rows ≡ others = it.matrix ∙ ap (rows_of problem (labels_alone problem)) order
      ∙ sym that.matrix in
      let lines : cert.frames ≡ other.frames =
      one_list (frames_alone problem) that.order problem.network.nominal_ticks cert.frames other.frames
      (subst (λ o. AreLeastLines (frames_alone problem) o problem.network.nominal_ticks cert.frames) order
      it.lines) that.lines in
      let same_cert : cert ≡ other = it.certificate ∙ ap timed_parts lines ∙ sym that.certificate in
      λ i. alone.InTime (same_rows i) (same_cert i)

pub one_plan : (problem : Parts) (plan other : Alone) → IsProblem problem
    → IsSorted problem.signals problem.items
    → IsPlanAlone problem plan → IsPlanAlone problem other → plan ≡ other
one_plan problem (alone.InTime rows cert) (alone.InTime rows' cert') stands sorted it that =
    one_in_time problem stands rows rows' cert cert' it.1 that.1
one_plan problem (alone.InTime rows cert) (alone.Untimed rows') stands sorted it that = absurd (that.0 it.0)
one_plan problem (alone.Untimed rows) (alone.InTime rows' cert') stands sorted it that = absurd (it.0 that.0)
one_plan problem (alone.Untimed rows) (alone.Untimed rows') stands sorted it that = ap alone.Untimed
    (it.1 ∙ sym that.1)
