use Rattle.canpack_top.proofs.CommandLaws.{
  Called,
  check_accepted,
  check_accepts,
  check_headline,
  check_idle,
  check_never_late,
  check_one_place,
  check_passes,
  check_rejected,
  check_rejects,
  plan_accepted,
  plan_best,
  plan_done,
  plan_headline,
  plan_none,
  plan_plans,
  plan_solves,
  refused_text,
  text_refused,
}
use Rattle.canpack_top.proofs.CaseLaws.{case_ended, case_plans}
use Rattle.canpack_top.proofs.MakeLaws.{make_done, make_reads, make_said, make_written}
use Rattle.canpack_top.proofs.top.canpack.Goals as goal

pub returns-clause-refused : goal.returns-clause-refused
returns-clause-refused g c =
    let called : Called c.args.words.now (g.F.Folder.files c.args.folder.now) (g.F.Folder.files c.status_of.new.folder)
    (g.O.Sink.said c.args.out.now) (g.O.Sink.said c.status_of.new.out) c.status_of.result =
    record { statuses = c.status_of.ensures.statuses; usage = λ one. (c.status_of.ensures.usage one).0; answered = c.status_of.ensures.answered } in
    refused_text called

pub returns-clause-refuses : goal.returns-clause-refuses
returns-clause-refuses g c =
    let called : Called c.args.words.now (g.F.Folder.files c.args.folder.now) (g.F.Folder.files c.status_of.new.folder)
    (g.O.Sink.said c.args.out.now) (g.O.Sink.said c.status_of.new.out) c.status_of.result =
    record { statuses = c.status_of.ensures.statuses; usage = λ one. (c.status_of.ensures.usage one).0; answered = c.status_of.ensures.answered } in
    text_refused called

pub returns-clause-accepted : goal.returns-clause-accepted
returns-clause-accepted g c =
    let called : Called c.args.words.now (g.F.Folder.files c.args.folder.now) (g.F.Folder.files c.status_of.new.folder)
    (g.O.Sink.said c.args.out.now) (g.O.Sink.said c.status_of.new.out) c.status_of.result =
    record { statuses = c.status_of.ensures.statuses; usage = λ one. (c.status_of.ensures.usage one).0; answered = c.status_of.ensures.answered } in
    check_accepted called

pub returns-clause-headline : goal.returns-clause-headline
returns-clause-headline g c =
    let called : Called c.args.words.now (g.F.Folder.files c.args.folder.now) (g.F.Folder.files c.status_of.new.folder)
    (g.O.Sink.said c.args.out.now) (g.O.Sink.said c.status_of.new.out) c.status_of.result =
    record { statuses = c.status_of.ensures.statuses; usage = λ one. (c.status_of.ensures.usage one).0; answered = c.status_of.ensures.answered } in
    check_headline called

pub returns-clause-one_place : goal.returns-clause-one_place
returns-clause-one_place g c =
    let called : Called c.args.words.now (g.F.Folder.files c.args.folder.now) (g.F.Folder.files c.status_of.new.folder)
    (g.O.Sink.said c.args.out.now) (g.O.Sink.said c.status_of.new.out) c.status_of.result =
    record { statuses = c.status_of.ensures.statuses; usage = λ one. (c.status_of.ensures.usage one).0; answered = c.status_of.ensures.answered } in
    check_one_place called

pub returns-clause-passes : goal.returns-clause-passes
returns-clause-passes g c =
    let called : Called c.args.words.now (g.F.Folder.files c.args.folder.now) (g.F.Folder.files c.status_of.new.folder)
    (g.O.Sink.said c.args.out.now) (g.O.Sink.said c.status_of.new.out) c.status_of.result =
    record { statuses = c.status_of.ensures.statuses; usage = λ one. (c.status_of.ensures.usage one).0; answered = c.status_of.ensures.answered } in
    check_passes called

pub returns-clause-never_late : goal.returns-clause-never_late
returns-clause-never_late g c =
    let called : Called c.args.words.now (g.F.Folder.files c.args.folder.now) (g.F.Folder.files c.status_of.new.folder)
    (g.O.Sink.said c.args.out.now) (g.O.Sink.said c.status_of.new.out) c.status_of.result =
    record { statuses = c.status_of.ensures.statuses; usage = λ one. (c.status_of.ensures.usage one).0; answered = c.status_of.ensures.answered } in
    check_never_late called

pub returns-clause-rejected : goal.returns-clause-rejected
returns-clause-rejected g c =
    let called : Called c.args.words.now (g.F.Folder.files c.args.folder.now) (g.F.Folder.files c.status_of.new.folder)
    (g.O.Sink.said c.args.out.now) (g.O.Sink.said c.status_of.new.out) c.status_of.result =
    record { statuses = c.status_of.ensures.statuses; usage = λ one. (c.status_of.ensures.usage one).0; answered = c.status_of.ensures.answered } in
    check_rejected called

pub returns-clause-accepts : goal.returns-clause-accepts
returns-clause-accepts g c =
    let called : Called c.args.words.now (g.F.Folder.files c.args.folder.now) (g.F.Folder.files c.status_of.new.folder)
    (g.O.Sink.said c.args.out.now) (g.O.Sink.said c.status_of.new.out) c.status_of.result =
    record { statuses = c.status_of.ensures.statuses; usage = λ one. (c.status_of.ensures.usage one).0; answered = c.status_of.ensures.answered } in
    check_accepts called

pub returns-clause-rejects : goal.returns-clause-rejects
returns-clause-rejects g c =
    let called : Called c.args.words.now (g.F.Folder.files c.args.folder.now) (g.F.Folder.files c.status_of.new.folder)
    (g.O.Sink.said c.args.out.now) (g.O.Sink.said c.status_of.new.out) c.status_of.result =
    record { statuses = c.status_of.ensures.statuses; usage = λ one. (c.status_of.ensures.usage one).0; answered = c.status_of.ensures.answered } in
    check_rejects called

pub returns-clause-planned : goal.returns-clause-planned
returns-clause-planned g c =
    let called : Called c.args.words.now (g.F.Folder.files c.args.folder.now) (g.F.Folder.files c.status_of.new.folder)
    (g.O.Sink.said c.args.out.now) (g.O.Sink.said c.status_of.new.out) c.status_of.result =
    record { statuses = c.status_of.ensures.statuses; usage = λ one. (c.status_of.ensures.usage one).0; answered = c.status_of.ensures.answered } in
    plan_done called

pub returns-clause-accepted_after : goal.returns-clause-accepted_after
returns-clause-accepted_after g c =
    let called : Called c.args.words.now (g.F.Folder.files c.args.folder.now) (g.F.Folder.files c.status_of.new.folder)
    (g.O.Sink.said c.args.out.now) (g.O.Sink.said c.status_of.new.out) c.status_of.result =
    record { statuses = c.status_of.ensures.statuses; usage = λ one. (c.status_of.ensures.usage one).0; answered = c.status_of.ensures.answered } in
    plan_accepted called

pub returns-clause-plan_headline : goal.returns-clause-plan_headline
returns-clause-plan_headline g c =
    let called : Called c.args.words.now (g.F.Folder.files c.args.folder.now) (g.F.Folder.files c.status_of.new.folder)
    (g.O.Sink.said c.args.out.now) (g.O.Sink.said c.status_of.new.out) c.status_of.result =
    record { statuses = c.status_of.ensures.statuses; usage = λ one. (c.status_of.ensures.usage one).0; answered = c.status_of.ensures.answered } in
    plan_headline called

pub returns-clause-best : goal.returns-clause-best
returns-clause-best g c =
    let called : Called c.args.words.now (g.F.Folder.files c.args.folder.now) (g.F.Folder.files c.status_of.new.folder)
    (g.O.Sink.said c.args.out.now) (g.O.Sink.said c.status_of.new.out) c.status_of.result =
    record { statuses = c.status_of.ensures.statuses; usage = λ one. (c.status_of.ensures.usage one).0; answered = c.status_of.ensures.answered } in
    plan_best called

pub returns-clause-no_solution : goal.returns-clause-no_solution
returns-clause-no_solution g c =
    let called : Called c.args.words.now (g.F.Folder.files c.args.folder.now) (g.F.Folder.files c.status_of.new.folder)
    (g.O.Sink.said c.args.out.now) (g.O.Sink.said c.status_of.new.out) c.status_of.result =
    record { statuses = c.status_of.ensures.statuses; usage = λ one. (c.status_of.ensures.usage one).0; answered = c.status_of.ensures.answered } in
    plan_none called

pub returns-clause-plans : goal.returns-clause-plans
returns-clause-plans g c =
    let called : Called c.args.words.now (g.F.Folder.files c.args.folder.now) (g.F.Folder.files c.status_of.new.folder)
    (g.O.Sink.said c.args.out.now) (g.O.Sink.said c.status_of.new.out) c.status_of.result =
    record { statuses = c.status_of.ensures.statuses; usage = λ one. (c.status_of.ensures.usage one).0; answered = c.status_of.ensures.answered } in
    plan_plans called

pub returns-clause-solves : goal.returns-clause-solves
returns-clause-solves g c =
    let called : Called c.args.words.now (g.F.Folder.files c.args.folder.now) (g.F.Folder.files c.status_of.new.folder)
    (g.O.Sink.said c.args.out.now) (g.O.Sink.said c.status_of.new.out) c.status_of.result =
    record { statuses = c.status_of.ensures.statuses; usage = λ one. (c.status_of.ensures.usage one).0; answered = c.status_of.ensures.answered } in
    plan_solves called

pub returns-clause-check : goal.returns-clause-check
returns-clause-check g c = λ check. c.status_of.ensures.idle (check_idle c.args.words.now check)

pub returns-clause-case_written : goal.returns-clause-case_written
returns-clause-case_written g c = λ zero told number make.
    let called : Called c.args.words.now (g.F.Folder.files c.args.folder.now) (g.F.Folder.files c.status_of.new.folder)
    (g.O.Sink.said c.args.out.now) (g.O.Sink.said c.status_of.new.out) c.status_of.result =
    record { statuses = c.status_of.ensures.statuses; usage = λ one. (c.status_of.ensures.usage one).0; answered = c.status_of.ensures.answered } in
    make_written called number make zero told

pub returns-clause-case_reads : goal.returns-clause-case_reads
returns-clause-case_reads g c = λ zero told number make.
    let called : Called c.args.words.now (g.F.Folder.files c.args.folder.now) (g.F.Folder.files c.status_of.new.folder)
    (g.O.Sink.said c.args.out.now) (g.O.Sink.said c.status_of.new.out) c.status_of.result =
    record { statuses = c.status_of.ensures.statuses; usage = λ one. (c.status_of.ensures.usage one).0; answered = c.status_of.ensures.answered } in
    make_reads called number make zero told

pub returns-clause-case_said : goal.returns-clause-case_said
returns-clause-case_said g c = λ zero number make.
    let called : Called c.args.words.now (g.F.Folder.files c.args.folder.now) (g.F.Folder.files c.status_of.new.folder)
    (g.O.Sink.said c.args.out.now) (g.O.Sink.said c.status_of.new.out) c.status_of.result =
    record { statuses = c.status_of.ensures.statuses; usage = λ one. (c.status_of.ensures.usage one).0; answered = c.status_of.ensures.answered } in
    make_said called number make zero

pub returns-clause-makes : goal.returns-clause-makes
returns-clause-makes g c = λ told number make.
    let called : Called c.args.words.now (g.F.Folder.files c.args.folder.now) (g.F.Folder.files c.status_of.new.folder)
    (g.O.Sink.said c.args.out.now) (g.O.Sink.said c.status_of.new.out) c.status_of.result =
    record { statuses = c.status_of.ensures.statuses; usage = λ one. (c.status_of.ensures.usage one).0; answered = c.status_of.ensures.answered } in
    make_done called number make (g.F.Folder.read_faults c.args.folder.now) (g.F.Folder.read_faults c.status_of.new.folder)
    c.status_of.ensures.read_fault told

pub returns-clause-case_planned : goal.returns-clause-case_planned
returns-clause-case_planned g c = λ ends number plan.
    let called : Called c.args.words.now (g.F.Folder.files c.args.folder.now) (g.F.Folder.files c.status_of.new.folder)
    (g.O.Sink.said c.args.out.now) (g.O.Sink.said c.status_of.new.out) c.status_of.result =
    record { statuses = c.status_of.ensures.statuses; usage = λ one. (c.status_of.ensures.usage one).0; answered = c.status_of.ensures.answered } in
    case_ended called number plan ends

pub returns-clause-case_plans : goal.returns-clause-case_plans
returns-clause-case_plans g c = λ told number plan.
    let called : Called c.args.words.now (g.F.Folder.files c.args.folder.now) (g.F.Folder.files c.status_of.new.folder)
    (g.O.Sink.said c.args.out.now) (g.O.Sink.said c.status_of.new.out) c.status_of.result =
    record { statuses = c.status_of.ensures.statuses; usage = λ one. (c.status_of.ensures.usage one).0; answered = c.status_of.ensures.answered } in
    case_plans called number plan (g.F.Folder.read_faults c.args.folder.now)
    (g.F.Folder.read_faults c.status_of.new.folder)
    (g.F.Folder.write_faults c.args.folder.now) (g.F.Folder.write_faults c.status_of.new.folder)
    c.status_of.ensures.read_fault c.status_of.ensures.write_fault told
