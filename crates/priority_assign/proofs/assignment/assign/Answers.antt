use Rattle.std.proofs.Common.{◌≡◌, ℕ, ◌+◌, ◌-◌, ◌<◌, ◌++◌, List, length, take, drop, get_or, not, refl, sym, ◌∙◌, ap, subst, arith, false, is_some, length-take}
use Rattle.std.proofs.lemmas.List.{drop_all, take_all}
use Rattle.std.proofs.lemmas.List.Elements.{All-take}
use Rattle.busy_period.specs.Timed.{IsInRange, none_frame, frame_at}
use Rattle.busy_period.specs.Stage.{AreNamed}
use Rattle.busy_period.specs.Demand.{blocking_of}
use Rattle.response_test.specs.Order.{FailSet, OrderPasses}
use Rattle.response_test.proofs.Order.{no_order_passes}
use Rattle.priority_assign.specs.Level.{PassesAt}
use Rattle.priority_assign.specs.Lowest.{FillsLowestFirst, IsLowestFirst}
use Rattle.priority_assign.specs.declared.once.Once.{Once}
use Rattle.priority_assign.specs.Once.{IsOnce}
use Rattle.priority_assign.proofs.Filling.{Given}
use Rattle.priority_assign.proofs.SentOnce.{once_less}
use Rattle.priority_assign.proofs.Steps.{Chosen, chosen_of, where_none, put_back, numbered, all_filled_passes, stuck_is_lowest_first, stuck_is_failing}
use Rattle.priority_assign.proofs.assignment.assign.Goals as goal

pub loop-placed-init : goal.loop-placed-init
loop-placed-init c =
    let order : List ℕ = c.number_each.new.order in
    let whole : length order ≡ length order - 0 = omega arith in
    let long : length order ≡ length c.args.order.now = c.number_each.auto.order in
    record {
      fills = subst (λ n. FillsLowestFirst c.args.frames.now c.args.bit n order) whole
          (numbered c.args.frames.now c.args.bit order (long ∙ c.requires.length)
          (λ index inside. c.number_each.ensures index (omega (arith, long))));
      blocked = ap (blocking_of c.args.frames.now) (sym (drop_all (length order - 0) order (omega arith)));
      bound = omega arith;
      once = subst (λ numbers. IsOnce c.args.frames.now numbers 0 c.once_of-once.result) (sym (take_all (length order - 0) order (omega arith)))
          c.once_of-once.ensures;
    }

-- where nothing is chosen the order is as before, and is stuck
stuck : (c : goal.Then-is_none) → IsLowestFirst c.args.frames.now c.args.bit (length c.loop-placed.order - c.loop-placed.placed)
    (c.choose_last.new.level ++ drop (length c.loop-placed.order - c.loop-placed.placed) c.loop-placed.order)
stuck c =
    let m : ℕ = length c.loop-placed.order - c.loop-placed.placed in
    let given : Given c.args.frames.now c.args.bit = record { in_range = c.requires.in_range; some_bit = c.requires.bit.some } in
    let none : is_some c.choose_last.result ≡ false = c.if-is_none.ensures {u = tt} in
    let same : c.choose_last.new.level ≡ take m c.loop-placed.order =
    where_none c.choose_last.result (c.choose_last.new.level ≡ take m c.loop-placed.order) none c.choose_last.ensures.same in
    subst (IsLowestFirst c.args.frames.now c.args.bit m) (sym (put_back c.loop-placed.order c.choose_last.new.level m same))
    (stuck_is_lowest_first c.args.frames.now c.args.bit c.loop-placed.blocked m c.loop-placed.order given c.loop-placed.invariant.fills
    c.loop-placed.invariant.blocked
    (where_none c.choose_last.result
    ((index : ℕ) → index < length (take m c.loop-placed.order)
    → ¬ (PassesAt c.args.frames.now (take m c.loop-placed.order) c.loop-placed.blocked c.args.bit index)) none c.choose_last.ensures.none))

failing : (c : goal.Then-is_none) → FailSet c.args.frames.now c.args.bit
    (take (length c.loop-placed.order - c.loop-placed.placed)
    (c.choose_last.new.level ++ drop (length c.loop-placed.order - c.loop-placed.placed) c.loop-placed.order))
failing c =
    let m : ℕ = length c.loop-placed.order - c.loop-placed.placed in
    let none : is_some c.choose_last.result ≡ false = c.if-is_none.ensures {u = tt} in
    let same : c.choose_last.new.level ≡ take m c.loop-placed.order =
    where_none c.choose_last.result (c.choose_last.new.level ≡ take m c.loop-placed.order) none c.choose_last.ensures.same in
    stuck_is_failing c.args.frames.now c.args.bit m _ (record { in_range = c.requires.in_range; some_bit = c.requires.bit.some })
    (omega arith) (omega (arith, ap length (put_back c.loop-placed.order c.choose_last.new.level m same))) (stuck c)

pub returns-then-is_none-clause-lowest_first : goal.returns-then-is_none-clause-lowest_first
returns-then-is_none-clause-lowest_first c = stuck c

pub returns-then-is_none-clause-solvable : goal.returns-then-is_none-clause-solvable
returns-then-is_none-clause-solvable c = (
  λ is. cc,
  λ (some, passes). absurd (no_order_passes c.args.frames.now c.args.bit _ some c.requires.bit.some c.requires.in_range (failing c) passes),
)

pub returns-then-is_none-clause-stuck : goal.returns-then-is_none-clause-stuck
returns-then-is_none-clause-stuck c = λ remaining is.
    let m : ℕ = length c.loop-placed.order - c.loop-placed.placed in
    let same : m ≡ remaining = cc in
    let P : ℕ → Type 0 = λ n. FailSet c.args.frames.now c.args.bit (take n (c.choose_last.new.level ++ drop m c.loop-placed.order)) in
    subst P same (failing c)

-- where one is chosen, one more place is filled
chosen : (c : goal.After-slice_known-in-loop-placed-2-1-unread-2) → Chosen c.args.frames.now c.args.bit
    (length c.loop-placed.order - c.loop-placed.placed) c.loop-placed.order
    (c.choose_last.new.level ++ drop (length c.loop-placed.order - c.loop-placed.placed) c.loop-placed.order)
chosen c =
    chosen_of c.args.frames.now c.args.bit c.loop-placed.blocked (length c.loop-placed.order - c.loop-placed.placed) c.loop-placed.order
    c.choose_last.new.level c.choose_last.result (record { in_range = c.requires.in_range; some_bit = c.requires.bit.some })
    (omega arith) (omega arith) c.loop-placed.invariant.fills c.loop-placed.invariant.blocked
    (c.is_none.ensures ∙ ap not c.if-is_none.false) c.choose_last.ensures.chosen c.choose_last.ensures.moved

pub bounds-frames-order : goal.bounds-frames-order
bounds-frames-order c = (chosen c).inside

pub loop-placed-preserved : goal.loop-placed-preserved
loop-placed-preserved c =
    let order : List ℕ = c.loop-placed.order in
    let m : ℕ = length order - c.loop-placed.placed in
    let now : List ℕ = c.choose_last.new.level ++ drop m order in
    let it : Chosen c.args.frames.now c.args.bit m order now =
    chosen_of c.args.frames.now c.args.bit c.loop-placed.blocked m order
    c.choose_last.new.level c.choose_last.result (record { in_range = c.requires.in_range; some_bit = c.requires.bit.some })
    (omega arith) (omega arith) c.loop-placed.invariant.fills c.loop-placed.invariant.blocked
    (c.is_none.ensures ∙ ap not c.if-is_none.false) c.choose_last.ensures.chosen c.choose_last.ensures.moved in
    let less : m - 1 ≡ length now - (c.loop-placed.placed + 1) = omega (arith, it.long) in
    let range : IsInRange (frame_at c.args.frames.now (get_or now (m - 1) 0)) = c.requires.in_range (get_or now (m - 1) 0) none_frame it.inside in
    let fewer : Once = record {
      ticks = c.choose_last.new.once.ticks - (frame_at c.args.frames.now (get_or now (m - 1) 0)).ticks;
      window = c.choose_last.new.once.window;
      busy = c.choose_last.new.once.busy;
    } in
    let named : AreNamed c.args.frames.now (take m order) = record {
      in_range = c.requires.in_range;
      named = All-take (λ number. number < length c.args.frames.now) m order c.loop-placed.invariant.fills.names_each_once.named;
      few = omega (arith, length-take m order, c.requires.few, c.requires.length);
    } in
    let blocks : c.max-blocked.result ≡ blocking_of c.args.frames.now (drop (m - 1) now) =
    omega (arith, it.blocks, c.loop-placed.invariant.blocked, c.max-blocked.ensures) in
    record {
      fills = subst (λ n. FillsLowestFirst c.args.frames.now c.args.bit n now) less it.fills;
      blocked = blocks ∙ ap (λ n. blocking_of c.args.frames.now (drop n now)) less;
      bound = omega (arith, range.ticks, c.max-blocked.ensures, c.loop-placed.invariant.bound);
      once = subst (λ n. IsOnce c.args.frames.now (take n now) c.max-blocked.result fewer) less
          (once_less c.args.frames.now order now m c.loop-placed.blocked c.max-blocked.result c.choose_last.new.once fewer (omega arith)
          (omega (arith, it.long)) it.same named c.max-blocked.ensures refl refl refl c.choose_last.ensures.once);
    }

-- all places are filled at the end
all_pass : (c : goal.After-loop-placed) → OrderPasses c.args.frames.now c.args.bit c.loop-placed.order
all_pass c =
    let none : length c.loop-placed.order - c.loop-placed.placed ≡ 0 = omega arith in
    all_filled_passes c.args.frames.now c.args.bit c.loop-placed.order
    (record { in_range = c.requires.in_range; some_bit = c.requires.bit.some })
    (subst (λ n. FillsLowestFirst c.args.frames.now c.args.bit n c.loop-placed.order) none c.loop-placed.invariant.fills)

pub returns-clause-solvable : goal.returns-clause-solvable
returns-clause-solvable c = (λ _. (c.loop-placed.order, all_pass c), λ _. refl)

pub returns-clause-passes : goal.returns-clause-passes
returns-clause-passes c = λ _. all_pass c
