use Rattle.std.proofs.Common.{◌≡◌, ℕ, ◌<◌, List, false, true, length, nat_eq, ap, ◌∙◌, arith}
use Rattle.std.specs.List.{list_any}
use Rattle.bandwidth_bound.proofs.FinalNamed.{remaining-push, remaining-room, remaining-skip}
use Rattle.bandwidth_bound.proofs.failing.remaining.Goals as goal
use Rattle.bandwidth_bound.proofs.failing.remaining.Goals.{then-not-is_member, else-not-is_member}

pub push-requires : goal.push-requires
push-requires c =
    let number : ℕ = c.loop-number.number in
    let members : List ℕ = c.args.members.now in
    let so_far : List ℕ = c.loop-number.remaining.items in
    let below : number < length c.args.frames.now = omega arith in
    let absent : list_any (nat_eq number) members ≡ false = cc in
    let some : length so_far < 128 =
    remaining-room c.args.frames.now members so_far number c.requires below absent c.loop-number.invariant in
    (omega arith, some)

pub loop-number-preserved : goal.loop-number-preserved
loop-number-preserved c =
    let number : ℕ = c.loop-number.number in
    let members : List ℕ = c.args.members.now in
    let so_far : List ℕ = c.loop-number.remaining.items in
    elim c.if-not-is_member.branch [
      | then-not-is_member w ↦
          let absent : list_any (nat_eq number) members ≡ false = cc in
          ap (λ o. o.items) w.remaining-is ∙ w.push.ensures.items
          ∙ remaining-push members so_far number absent c.loop-number.invariant
      | else-not-is_member w ↦
          let found : list_any (nat_eq number) members ≡ true = cc in
          ap (λ o. o.items) w.remaining-is
          ∙ remaining-skip members so_far number found c.loop-number.invariant
    ]
