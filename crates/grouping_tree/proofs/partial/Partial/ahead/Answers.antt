use Rattle.std.proofs.Common.{arith}
use Rattle.grouping_tree.proofs.Used.{counted, long, put_room}
use Rattle.grouping_tree.proofs.partial.Partial.ahead.Goals as goal

pub next_alone-next-requires : goal.next_alone-next-requires
next_alone-next-requires c =
    let (problem, b, legal) = c.requires in
    let p = c.args.self.now in (
      problem,
      b,
      omega (arith, (put_room problem p c.args.label b legal).0, counted problem p b, long problem p b),
    )

pub own_with-own-requires : goal.own_with-own-requires
own_with-own-requires c =
    let (problem, b, legal) = c.requires in
    (problem, b, c.next_alone-next.ensures problem b, legal)

pub all_with-requires : goal.all_with-requires
all_with-requires c =
    let (problem, b, legal) = c.requires in
    let next = c.next_alone-next.ensures problem b in
    (problem, b, next, legal, c.own_with-own.ensures problem b next legal)

pub returns-clause-load : goal.returns-clause-load
returns-clause-load c = λ problem b legal.
    let next = c.next_alone-next.ensures problem b in
    c.all_with.ensures.load problem b next legal (c.own_with-own.ensures problem b next legal)

pub returns-clause-slack : goal.returns-clause-slack
returns-clause-slack c = λ problem b legal.
    let next = c.next_alone-next.ensures problem b in
    c.all_with.ensures.slack problem b next legal (c.own_with-own.ensures problem b next legal)
