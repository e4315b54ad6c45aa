use Rattle.std.proofs.Common.{ℕ, ◌-◌, ◌<◌, ◌≤◌, length, refl, arith, length-take}
use Rattle.std.proofs.lemmas.List.Elements.{All-get_or, All-take}
use Rattle.busy_period.specs.Timed.{none_frame}
use Rattle.busy_period.specs.Stage.{own_number, higher_of}
use Rattle.response_test.proofs.Level.{busy_of_last, short_if_passes, each_if_passes, passes_by_busy}
use Rattle.response_test.proofs.written.last_passes.Goals as goal

pub returns-then-busy-own : goal.returns-then-busy-own
returns-then-busy-own c = (
  λ no. cc,
  λ passes. absurd (omega (
    arith,
    short_if_passes _ _ _ c.args.busy (busy_of_last c.args.frames.now c.args.level.now c.args.blocked c.args.busy c.requires.some c.requires.busy)
        passes,
  )),
)

pub returns-then-busy-own-2 : goal.returns-then-busy-own-2
returns-then-busy-own-2 c =
    let last : ℕ = length c.args.level.now - 1 in
    let named : own_number c.args.level.now last < length c.args.frames.now =
    All-get_or (λ i. i < length c.args.frames.now) c.args.level.now last 0 (omega (arith, c.requires.some)) c.requires.named.named in (
      λ _. passes_by_busy c.args.frames.now (own_number c.args.level.now last) (higher_of c.args.level.now last) c.args.blocked c.args.bit c.args.busy
          (All-get_or (λ frame. c.args.bit ≤ frame.ticks) c.args.frames.now (own_number c.args.level.now last) none_frame named c.requires.bit.within)
          (busy_of_last c.args.frames.now c.args.level.now c.args.blocked c.args.busy c.requires.some c.requires.busy)
          (omega arith) (omega arith),
      λ _. refl,
    )

pub instance_passes-requires-clause-named : goal.instance_passes-requires-clause-named
instance_passes-requires-clause-named c = record {
  in_range = c.requires.named.in_range;
  named = All-take (λ i. i < length c.args.frames.now) (length c.args.level.now - 1) c.args.level.now c.requires.named.named;
  few = omega (arith, c.requires.named.few, length-take (length c.args.level.now - 1) c.args.level.now);
}

pub returns-then-not-instance_passes : goal.returns-then-not-instance_passes
returns-then-not-instance_passes c = (
  λ no. cc,
  λ passes. let it = c.instance_passes.ensures.1 (each_if_passes _ _ _ c.args.busy c.loop-instance.instance
      (busy_of_last c.args.frames.now c.args.level.now c.args.blocked c.args.busy c.requires.some c.requires.busy) passes
      (omega arith)) in cc,
)

pub returns : goal.returns
returns c = (
  λ _. record {
    busy = c.args.busy;
    least = record {
      busy = busy_of_last c.args.frames.now c.args.level.now c.args.blocked c.args.busy c.requires.some c.requires.busy;
      short = omega arith;
    };
    each = λ instance inside. c.loop-instance.invariant instance (omega arith);
  },
  λ _. refl,
)
