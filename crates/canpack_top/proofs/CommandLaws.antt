-- What the answer of a command says where the command is known.
use Rattle.std.proofs.Common.{◌≡◌, ◌≢◌, ◌≤◌, ◌∙◌, ◌⊎◌, ℕ, List, Option, None, Some, Result, Ok, Err, IsNone, IsOk, IsOkAnd, IsSome, IsSomeAnd, String, ap, arith, inl, inr, option_map, refl, subst, sym, is_some, true≢false, []}
use Rattle.std.specs.Result.{result_err}
use Rattle.std.specs.declared.alloc.Global.{Global}
use Rattle.pack_base.specs.Outside.{Files, and_said}
use Rattle.bandwidth_bound.specs.declared.verdict.Verdict.{Verdict}
use Rattle.canpack_top.specs.declared.command.Command.{Command}
use Rattle.canpack_top.specs.declared.command.Command.TheVariants as command
use Rattle.canpack_top.specs.declared.ending.Status.{Status}
use Rattle.canpack_top.specs.declared.ending.Status.TheVariants as status
use Rattle.canpack_top.specs.declared.refusal.Refusal.{Refusal}
use Rattle.bandwidth_bound.specs.declared.verdict.Part.{Part}
use Rattle.bandwidth_bound.specs.declared.verdict.Part.TheVariants as part
use Rattle.canpack_top.specs.declared.verdict.Found.{Found}
use Rattle.canpack_top.specs.declared.verdict.Found.TheVariants as found
use Rattle.canpack_top.specs.Answer.{Answered, IsAnswer, IsAnswered, IsEnded, IsExcused, IsRefused, SaysAnswer}
use Rattle.canpack_top.specs.Check.{Accepts, HasAll, HasNoneLate, HasOnePlace, HasPassing, IsAnswerOf, Rejects, check_answer, check_meaning, texts_at}
use Rattle.canpack_top.specs.Command.{command_of, names_in}
use Rattle.canpack_top.specs.Commands.{IsCheck, IsPlan, OfCommand, meaning_of}
use Rattle.canpack_top.specs.Ending.{number_of}
use Rattle.canpack_top.specs.Files.{problem_at}
use Rattle.canpack_top.specs.Line.{refused_line}
use Rattle.canpack_top.specs.Meaning.{Answer, Ends, Finishes, Meaning}
use Rattle.canpack_top.specs.Plan.{IsPlanned, plan_meaning, plan_status}
use Rattle.canpack_top.specs.Headline.{HasBest, HasNone, Headline, IsEnough, IsInTime, Promises}
use Rattle.canpack_top.specs.Verdict.{Finds, IsAccepted, IsRejected, verdict_line}
use Rattle.bandwidth_bound.specs.Rule.{Judged}
use Rattle.bandwidth_bound.specs.Follows.{Holds, NoneIsBetter, NoneIsSolvable}
use Rattle.bandwidth_bound.specs.Rule as rule
use Rattle.pack_model.specs.Problem.{Parts}
use Rattle.plan_search.specs.declared.planned.Planned.{Planned}
use Rattle.plan_search.specs.declared.planned.Planned.TheVariants as planned
use Rattle.plan_search.specs.Plan.{IsWithin, verdict_of_plan}
use Rattle.plan_search.specs.Searches.{branches_of}
use Rattle.canpack_top.proofs.Planned.{not_rejected}
use Rattle.canpack_top.proofs.Promised.{promised}
use Rattle.canpack_top.proofs.Runs.{ok_and}

-- a fact of the command that the words are
pub of_words : (words : List (String Global)) (given : Command) (P : Meaning → Type 0) → command_of words ≡ Some given
    → OfCommand words P → P (meaning_of given words)
of_words words given P is holds = subst (λ o. IsSomeAnd o (λ c. P (meaning_of c words))) is holds

-- status 0 is that of a command that is done
done_number : (given : Status) → 0 ≡ number_of given → given ≡ status.Done
done_number status.Done is = refl
done_number status.Refused is = absurd (omega arith)
done_number status.Rejected is = absurd (omega arith)
done_number status.NoSolution is = absurd (omega arith)
done_number status.Spent is = absurd (omega arith)

-- status 5 is that of a rejection
rejected_number : (given : Status) → 5 ≡ number_of given → given ≡ status.Rejected
rejected_number status.Done is = absurd (omega arith)
rejected_number status.Refused is = absurd (omega arith)
rejected_number status.Rejected is = refl
rejected_number status.NoSolution is = absurd (omega arith)
rejected_number status.Spent is = absurd (omega arith)

-- status 4 is that of a refusal
refused_number : (given : Status) → 4 ≡ number_of given → given ≡ status.Refused
refused_number status.Done is = absurd (omega arith)
refused_number status.Refused is = refl
refused_number status.Rejected is = absurd (omega arith)
refused_number status.NoSolution is = absurd (omega arith)
refused_number status.Spent is = absurd (omega arith)

-- status 10 is that of a plan without a solution
none_number : (given : Status) → 10 ≡ number_of given → given ≡ status.NoSolution
none_number status.Done is = absurd (omega arith)
none_number status.Refused is = absurd (omega arith)
none_number status.Rejected is = absurd (omega arith)
none_number status.NoSolution is = refl
none_number status.Spent is = absurd (omega arith)

-- status 11 is that of spent branches
spent_number : (given : Status) → 11 ≡ number_of given → given ≡ status.Spent
spent_number status.Done is = absurd (omega arith)
spent_number status.Refused is = absurd (omega arith)
spent_number status.Rejected is = absurd (omega arith)
spent_number status.NoSolution is = absurd (omega arith)
spent_number status.Spent is = refl

-- a status with which a plan ends is not that of a refusal
not_refusal : (given : Status) (number : ℕ) → IsEnded number → number ≡ number_of given → given ≢ status.Refused
not_refusal status.Done number ended is = λ h. cc
not_refusal status.Refused number (inl zero) is = λ h. omega (arith, zero, is)
not_refusal status.Refused number (inr (inl ten)) is = λ h. omega (arith, ten, is)
not_refusal status.Refused number (inr (inr eleven)) is = λ h. omega (arith, eleven, is)
not_refusal status.Rejected number ended is = λ h. cc
not_refusal status.NoSolution number ended is = λ h. cc
not_refusal status.Spent number ended is = λ h. cc

-- an answer that refuses no text is the command's own
own : (meaning : Meaning) (before now : Files) (answer : Answer) → answer.status ≢ status.Refused
    → Ends meaning before now answer → Finishes meaning before now answer
own meaning before now answer other (inl finishes) = finishes
own meaning before now answer other (inr refuses) = absurd (other (ap (λ a. a.status) refuses.is))

-- a refusal says that a text is refused
refusing : (meaning : Meaning) (before now : Files) (answer : Answer) → answer.status ≡ status.Refused → IsSome before
    → Ends meaning before now answer → IsRefused before meaning
refusing meaning before now answer is told (inl finishes) = absurd (finishes.not_refused is)
refusing meaning before now answer is told (inr refuses) = ap is_some (refuses.first told)

-- where the answer says that `check` is done, the acceptance rule holds
accepted_of : (answer : Answer) (judged : Judged) (what : Found) → answer.status ≡ status.Done → Finds what judged
    → answer ≡ check_answer judged.problem.hyper what → IsAccepted judged
accepted_of answer judged (found.Shown shown) done finds is = (shown, finds)
accepted_of answer judged (found.Rejected failed) done finds is = let h : status.Rejected ≡ status.Done = sym (ap (λ a. a.status) is) ∙ done in cc

-- where the answer says that `check` rejects, a part of the acceptance rule fails first
rejected_of : (answer : Answer) (judged : Judged) (what : Found) → answer.status ≡ status.Rejected → Finds what judged
    → answer ≡ check_answer judged.problem.hyper what → IsRejected judged
rejected_of answer judged (found.Shown shown) done finds is = let h : status.Done ≡ status.Rejected = sym (ap (λ a. a.status) is) ∙ done in cc
rejected_of answer judged (found.Rejected failed) done finds is = (failed, finds)

-- the line of a verdict that was said, with what the verdict promises
promised_line : (answer : Answer) (judged : Judged) (said_before said_now : Option (List ℕ)) (what : Found) → answer.status ≡ status.Done
    → Finds what judged → answer ≡ check_answer judged.problem.hyper what → said_now ≡ and_said said_before answer.line → Holds judged
    → (shown : Verdict) × (said_now ≡ and_said said_before (verdict_line judged.problem.hyper shown)) × Promises shown judged
promised_line answer judged said_before said_now (found.Shown shown) done finds is said holds =
    (shown, said ∙ ap (λ a. and_said said_before a.line) is, promised judged shown finds holds)
promised_line answer judged said_before said_now (found.Rejected failed) done finds is said holds =
    let h : status.Rejected ≡ status.Done = sym (ap (λ a. a.status) is) ∙ done in cc

-- two facts of what there is give a third
ok_and_both : {X E : Type 0} (r : Result X E) (P Q R : X → Type 0) → ((x : X) → P x → Q x → R x) → IsOkAnd r P → IsOkAnd r Q → IsOkAnd r R
ok_and_both (Ok x) P Q R both p q = both x p q
ok_and_both (Err e) P Q R both p q = p

-- two facts of what there is that don't go together
ok_not_both : {X E : Type 0} (r : Result X E) (P Q : X → Type 0) → ((x : X) → P x → Q x → ⊥) → IsOkAnd r P → IsOkAnd r Q → ⊥
ok_not_both (Ok x) P Q clash p q = clash x p q
ok_not_both (Err e) P Q clash p q = p

-- the acceptance rule doesn't both hold and fail
exclusive : (judged : Judged) (shown : Verdict) (failed : Part) → Finds (found.Shown shown) judged
    → Finds (found.Rejected failed) judged → ⊥
exclusive judged shown part.Matrix holds fails = fails holds.rule.matrix
exclusive judged shown part.Timing holds fails = fails.1 holds.rule.timing
exclusive judged shown part.Tree holds fails = fails.2 holds.rule.tree

-- texts that stand are not refused
ok_not_refused : {X : Type 0} (r : Result X Refusal) → IsOk r → IsSome (option_map refused_line (result_err r)) → ⊥
ok_not_refused (Ok x) ok refused = true≢false (sym refused)
ok_not_refused (Err why) ok refused = true≢false (sym ok)

-- texts of which a fact holds stand
ok_of : {X E : Type 0} (r : Result X E) (P : X → Type 0) → IsOkAnd r P → IsOk r
ok_of (Ok x) P is = refl
ok_of (Err e) P is = absurd is

-- a fact of what is there gives another
some_and : {X : Type 0} (o : Option X) (P Q : X → Type 0) → ((x : X) → P x → Q x) → IsSomeAnd o P → IsSomeAnd o Q
some_and None P Q more is = is
some_and (Some x) P Q more is = more x is

-- a fact that never holds holds of nothing that is there
pub some_never : {X : Type 0} (o : Option X) (P : X → Type 0) → ((x : X) → P x → ⊥) → IsSomeAnd o P → ⊥
some_never None P never p = p
some_never (Some x) P never p = never x p

-- two facts that don't go together
pub some_not_both : {X : Type 0} (o : Option X) (P Q : X → Type 0) → ((x : X) → P x → Q x → ⊥) → IsSomeAnd o P → IsSomeAnd o Q → ⊥
some_not_both None P Q clash p q = p
some_not_both (Some x) P Q clash p q = clash x p q

-- what is there isn't none
some_not_none : {X : Type 0} (o : Option X) (P : X → Type 0) → IsSomeAnd o P → IsNone o → ⊥
some_not_none None P is none = is
some_not_none (Some x) P is none = true≢false none

-- what is some isn't none
is_there : {X : Type 0} (o : Option X) (x : X) → o ≡ Some x → IsNone o → ⊥
is_there o x is none = true≢false (sym (ap is_some is) ∙ none)

-- the status of `check` is 0 or 5, where it is its own
check_number : (hyper : ℕ) (what : Found) {number : ℕ} → number ≡ number_of (check_answer hyper what).status
    → (number ≡ 0 → ⊥) → (number ≡ 5 → ⊥) → ⊥
check_number hyper (found.Shown shown) is zero five = zero is
check_number hyper (found.Rejected failed) is zero five = five is

-- a plan that is done shows the best
best_of_plan : (judged : Judged) (plan : Planned) → plan_status plan ≡ status.Done
    → rule.Accepts judged (verdict_of_plan judged.problem plan) → Holds judged
    → (load : ℕ) × IsInTime judged load × NoneIsBetter judged.problem load
best_of_plan judged (planned.Best rows cert) is accepts holds =
    let shown = promised judged (verdict_of_plan judged.problem (planned.Best rows cert)) accepts holds in
    (_, shown.0, shown.1)
best_of_plan judged (planned.NoSolution cert) is accepts holds = cc
best_of_plan judged (planned.Spent rows cert) is accepts holds = cc

-- a plan that ends without a solution shows that there is none
none_of_plan : (judged : Judged) (plan : Planned) → plan_status plan ≡ status.NoSolution
    → rule.Accepts judged (verdict_of_plan judged.problem plan) → Holds judged → NoneIsSolvable judged.problem
none_of_plan judged (planned.Best rows cert) is accepts holds = cc
none_of_plan judged (planned.NoSolution cert) is accepts holds =
    promised judged (verdict_of_plan judged.problem (planned.NoSolution cert)) accepts holds
none_of_plan judged (planned.Spent rows cert) is accepts holds = cc

-- with enough branches none is spent
not_spent : (problem : Parts) (branches : ℕ) (plan : Planned) → plan_status plan ≡ status.Spent
    → branches_of problem ≤ branches → IsWithin problem branches plan → ⊥
not_spent problem branches (planned.Best rows cert) is enough within = cc
not_spent problem branches (planned.NoSolution cert) is enough within = cc
not_spent problem branches (planned.Spent rows cert) is enough within = omega (arith, enough, within.1)

-- What the status of a call says of the words and of its answer.
pub record Called (words : List (String Global)) (before now : Files) (said_before said_now : Option (List ℕ)) (number : ℕ) : Type 0 where
  pub statuses : (number ≡ 1) ⊎ IsAnswered number ⊎ IsExcused number
  pub usage : number ≡ 1 → IsNone (command_of words)
  pub answered : IsAnswered number → Answered number words before now said_before said_now

-- A command that has an answer of its own, of this status.
record Own (meaning : Meaning) (before now : Files) (due : Status) : Type 0 where
  pub answer : Answer
  pub has_status : answer.status ≡ due
  pub finishes : Finishes meaning before now answer

-- an answer of the words' command that is no refusal is its own
own_of : (words : List (String Global)) (before now : Files) (given : Command) (due : Status) (answer : Answer) → command_of words ≡ Some given
    → answer.status ≡ due → (due ≡ status.Refused → ⊥) → IsAnswer words before now answer → Own (meaning_of given words) before now due
own_of words before now given due answer is has_status other ends = record {
  answer = answer;
  has_status = has_status;
  finishes = own _ before now answer (λ h. other (sym has_status ∙ h)) (of_words words given (λ m. Ends m before now answer) is ends);
}

module _ {words : List (String Global)} {before now : Files} {said_before said_now : Option (List ℕ)} {number : ℕ}
    (called : Called words before now said_before said_now number) where
  -- at status 0 a command is done
  done : (given : Command) → command_of words ≡ Some given → number ≡ 0 → Own (meaning_of given words) before now status.Done
  done given is zero =
      let all : Answered number words before now said_before said_now = called.answered (inl (inl zero)) in
      own_of words before now given status.Done all.0 is (done_number all.0.status (sym zero ∙ all.1)) (λ h. cc) all.2

  -- at status 5 a command rejects
  rejects : (given : Command) → command_of words ≡ Some given → number ≡ 5 → Own (meaning_of given words) before now status.Rejected
  rejects given is five =
      let all : Answered number words before now said_before said_now = called.answered (inr (inr five)) in
      own_of words before now given status.Rejected all.0 is (rejected_number all.0.status (sym five ∙ all.1)) (λ h. cc) all.2

  -- the answer of a command that rejects
  pub rejected_status : (given : Command) → command_of words ≡ Some given → number ≡ 5
      → (answer : Answer) × (meaning_of given words).Has answer × (answer.status ≡ status.Rejected)
  rejected_status given is five =
      let all = rejects given is five in (all.answer, all.finishes.has, all.has_status)

  -- at status 4 a text is refused
  pub refused_text : number ≡ 4 → IsSome before → OfCommand words (IsRefused before)
  refused_text four told =
      let all : Answered number words before now said_before said_now = called.answered (inr (inl four)) in
      some_and (command_of words) _ _
      (λ c ends. refusing (meaning_of c words) before now all.0 (refused_number all.0.status (sym four ∙ all.1)) told ends) all.2

  -- `check` accepts at status 0
  pub check_accepted : number ≡ 0 → IsSome before → IsCheck words → Accepts (names_in words) before
  check_accepted zero told check =
      let all : Own (check_meaning (names_in words)) before now status.Done = done _ check.1 zero in
      ok_and (texts_at (names_in words) before) _ _ (λ judged h. accepted_of all.answer judged h.0 all.has_status h.1 h.2) (all.finishes.answers told)

  -- all that follows from the acceptance rule holds at status 0 of `check`
  check_all : number ≡ 0 → IsSome before → IsCheck words → HasAll (names_in words) before
  check_all zero told check =
      let all : Own (check_meaning (names_in words)) before now status.Done = done _ check.1 zero in all.finishes.shows told all.has_status

  -- each signal has one place of its own then
  pub check_one_place : number ≡ 0 → IsSome before → IsCheck words → HasOnePlace (names_in words) before
  check_one_place zero told check = ok_and (texts_at (names_in words) before) Holds _ (λ judged all. all.one_place) (check_all zero told check)

  -- the frames pass then, where the certificate is of kind `timed`
  pub check_passes : number ≡ 0 → IsSome before → IsCheck words → HasPassing (names_in words) before
  check_passes zero told check = ok_and (texts_at (names_in words) before) Holds _ (λ judged all. all.passes) (check_all zero told check)

  pub check_never_late : number ≡ 0 → IsSome before → IsCheck words → HasNoneLate (names_in words) before
  check_never_late zero told check = ok_and (texts_at (names_in words) before) Holds _ (λ judged all. all.never_late) (check_all zero told check)

  -- the line of the verdict was said then, and what it promises holds
  pub check_headline : number ≡ 0 → IsSome before → IsCheck words → Headline (names_in words) before said_before said_now
  unfolding own_of
  check_headline zero told check =
      let all : Answered number words before now said_before said_now = called.answered (inl (inl zero)) in
      let has_status : all.0.status ≡ status.Done = done_number all.0.status (sym zero ∙ all.1) in
      let own : Finishes (check_meaning (names_in words)) before now all.0 =
      (own_of words before now (command.CheckFiles check.0) status.Done all.0 check.1 has_status (λ h. cc) all.2).finishes in
      ok_and_both (texts_at (names_in words) before) (λ judged. IsAnswerOf all.0 judged) Holds _
      (λ judged answers holds. promised_line all.0 judged said_before said_now answers.0 has_status answers.1 answers.2 all.3 holds)
      (own.answers told) (own.shows told has_status)

  -- `check` rejects at status 5
  pub check_rejected : number ≡ 5 → IsSome before → IsCheck words → Rejects (names_in words) before
  check_rejected five told check =
      let all : Own (check_meaning (names_in words)) before now status.Rejected = rejects _ check.1 five in
      ok_and (texts_at (names_in words) before) _ _ (λ judged h. rejected_of all.answer judged h.0 all.has_status h.1 h.2) (all.finishes.answers told)

  -- a command that ended as a plan does has an answer of its own
  pub ended : (given : Command) → command_of words ≡ Some given → (ends : IsEnded number)
      → Finishes (meaning_of given words) before now (called.answered (inl ends)).0
  ended given is ends =
      let all : Answered number words before now said_before said_now = called.answered (inl ends) in
      own (meaning_of given words) before now all.0 (not_refusal all.0.status number ends all.1)
      (of_words words given (λ m. Ends m before now all.0) is all.2)

  -- and its line was said
  pub said_answer : (given : Command) → command_of words ≡ Some given → (ends : IsEnded number) → (P : Answer → Type 0)
      → ((answer : Answer) → Finishes (meaning_of given words) before now answer → P answer)
      → SaysAnswer number said_before said_now P
  said_answer given is ends P each =
      let all : Answered number words before now said_before said_now = called.answered (inl ends) in
      (all.0, all.1, all.3, each all.0 (ended given is ends))

  -- `plan` has written where it ended
  pub plan_done : IsEnded number → IsSome before → (branches : ℕ) → IsPlan branches words
      → SaysAnswer number said_before said_now (IsPlanned (names_in words) branches before now)
  plan_done ends told branches plan = said_answer _ plan.1 ends _ (λ answer finishes. finishes.leaves told)

  -- `check` accepts what it wrote
  pub plan_accepted : IsEnded number → IsSome before → (branches : ℕ) → IsPlan branches words
      → Accepts (names_in words) now
  plan_accepted ends told branches plan =
      ok_and (texts_at (names_in words) now) _ IsAccepted
      (λ judged shows. (verdict_of_plan judged.problem shows.plan, shows.accepted))
      ((ended _ plan.1 ends).shows told)

  -- the line of the verdict was said, and what it promises holds
  pub plan_headline : IsEnded number → IsSome before → (branches : ℕ) → IsPlan branches words
      → Headline (names_in words) now said_before said_now
  plan_headline ends told branches plan =
      let all : Answered number words before now said_before said_now = called.answered (inl ends) in
      ok_and (texts_at (names_in words) now) _ _
      (λ judged shows. (
        verdict_of_plan judged.problem shows.plan,
        all.3 ∙ ap (λ (a : Answer). and_said said_before a.line) shows.answers,
        promised judged (verdict_of_plan judged.problem shows.plan) shows.accepted shows.holds,
      ))
      ((ended _ plan.1 ends).shows told)

  -- at status 0 no grouping that can meet all deadlines has a smaller load
  pub plan_best : number ≡ 0 → IsSome before → (branches : ℕ) → IsPlan branches words
      → HasBest (names_in words) now
  plan_best zero told branches plan =
      let all : Answered number words before now said_before said_now = called.answered (inl (inl zero)) in
      let is_done : all.0.status ≡ status.Done = done_number all.0.status (sym zero ∙ all.1) in
      ok_and (texts_at (names_in words) now) _ _
      (λ judged shows. best_of_plan judged shows.plan (sym (ap (λ (a : Answer). a.status) shows.answers) ∙ is_done)
      shows.accepted shows.holds)
      ((ended _ plan.1 (inl zero)).shows told)

  -- at status 10 none can meet all deadlines
  pub plan_none : number ≡ 10 → IsSome before → (branches : ℕ) → IsPlan branches words
      → HasNone (names_in words) now
  plan_none ten told branches plan =
      let all : Answered number words before now said_before said_now = called.answered (inl (inr (inl ten))) in
      let is_none : all.0.status ≡ status.NoSolution = none_number all.0.status (sym ten ∙ all.1) in
      ok_and (texts_at (names_in words) now) _ _
      (λ judged shows. none_of_plan judged shows.plan (sym (ap (λ (a : Answer). a.status) shows.answers) ∙ is_none)
      shows.accepted shows.holds)
      ((ended _ plan.1 (inr (inl ten))).shows told)

  -- `plan` never rejects
  plan_rejects : number ≡ 5 → (branches : ℕ) → IsPlan branches words → ⊥
  plan_rejects five branches plan =
      let all : Own (plan_meaning branches (names_in words)) before now status.Rejected = rejects _ plan.1 five in
      let has = all.finishes.has in
      not_rejected has.1.0 (sym (ap (λ a. a.status) has.1.2) ∙ all.has_status)

  -- where the words are the line of a command, its status is that of an answer, or excused
  pub by_status : {G : Type 0} → (IsNone (command_of words) → ⊥) → (IsEnded number → G) → (number ≡ 4 → G) → (number ≡ 5 → G)
      → (IsExcused number → G) → G
  by_status {G = G} some at_ended at_refused at_rejected excused = elim called.statuses [
    | inl one ↦ absurd (some (called.usage one))
    | inr rest ↦ elim rest [
      | inl answered ↦ elim answered [
        | inl ends ↦ at_ended ends
        | inr more ↦ elim more [ inl four ↦ at_refused four | inr five ↦ at_rejected five ]
      ]
      | inr is ↦ excused is
    ]
  ]

  -- a text that the command refuses doesn't stand
  refused_at : (given : Command) → command_of words ≡ Some given → IsSome before → number ≡ 4 → IsRefused before (meaning_of given words)
  refused_at given is told four = of_words words given (IsRefused before) is (refused_text four told)

  -- where a text is refused the command has no answer of its own
  not_own : (answered : IsAnswered number) (due : Status) → (called.answered answered).0.status ≡ due → (due ≡ status.Refused → ⊥)
      → IsSome before → OfCommand words (IsRefused before) → ⊥
  not_own answered due has_status other told refused = some_not_both (command_of words) _ _
      (λ c ends is. true≢false (sym is ∙ ap is_some
      ((own (meaning_of c words) before now (called.answered answered).0 (λ h. other (sym has_status ∙ h)) ends).stand told))) (called.answered answered).2 refused

  -- a refused text has status 4, or is excused
  pub text_refused : IsSome before → OfCommand words (IsRefused before) → (number ≡ 4) ⊎ IsExcused number
  text_refused told refused = by_status (some_not_none (command_of words) _ refused)
      (λ ends. absurd (not_own (inl ends) _ refl
      (not_refusal (called.answered (inl ends)).0.status number ends (called.answered (inl ends)).1) told refused))
      inl
      (λ five. absurd (not_own (inr (inr five)) status.Rejected (rejected_number _ (sym five ∙ (called.answered (inr (inr five))).1)) (λ h. cc) told refused))
      inr

  -- `check` ends with 0 alone
  check_zero : IsCheck words → IsEnded number → number ≡ 0
  check_zero check (inl zero) = zero
  check_zero check (inr (inl ten)) =
      let answered = called.answered (inl (inr (inl ten))) in
      let has = (ended _ check.1 (inr (inl ten))).has in
      absurd (check_number has.0 has.1 (answered.1 ∙ ap (λ a. number_of a.status) has.2) (λ zero. omega (arith, ten, zero))
      (λ five. omega (arith, ten, five)))
  check_zero check (inr (inr eleven)) =
      let answered = called.answered (inl (inr (inr eleven))) in
      let has = (ended _ check.1 (inr (inr eleven))).has in
      absurd (check_number has.0 has.1 (answered.1 ∙ ap (λ a. number_of a.status) has.2) (λ zero. omega (arith, eleven, zero))
      (λ five. omega (arith, eleven, five)))

  -- where the acceptance rule holds `check` has status 0, or is excused
  pub check_accepts : IsSome before → IsCheck words → Accepts (names_in words) before → (number ≡ 0) ⊎ IsExcused number
  check_accepts told check accepts = by_status (is_there (command_of words) _ check.1)
      (λ ends. inl (check_zero check ends))
      (λ four. absurd (ok_not_refused (texts_at (names_in words) before) (ok_of _ IsAccepted accepts) (refused_at _ check.1 told four)))
      (λ five. absurd (ok_not_both (texts_at (names_in words) before) IsAccepted IsRejected
      (λ judged holds fails. exclusive judged holds.0 fails.0 holds.1 fails.1) accepts (check_rejected five told check)))
      inr

  -- texts that stand and aren't accepted have status 5, or are excused
  pub check_rejects : IsSome before → IsCheck words → IsOk (texts_at (names_in words) before) → (Accepts (names_in words) before → ⊥)
      → (number ≡ 5) ⊎ IsExcused number
  check_rejects told check stand refused = by_status (is_there (command_of words) _ check.1)
      (λ ends. absurd (refused (check_accepted (check_zero check ends) told check)))
      (λ four. absurd (ok_not_refused (texts_at (names_in words) before) stand (refused_at _ check.1 told four)))
      inl
      inr

  -- where there is a problem `plan` ends, or is excused
  pub plan_plans : IsSome before → (branches : ℕ) → IsPlan branches words → IsOk (problem_at (names_in words) before)
      → IsEnded number ⊎ IsExcused number
  plan_plans told branches plan stands = by_status (is_there (command_of words) _ plan.1)
      inl
      (λ four. absurd (ok_not_refused (problem_at (names_in words) before) stands (refused_at _ plan.1 told four)))
      (λ five. absurd (plan_rejects five branches plan))
      inr

  -- with enough branches it doesn't end with branches spent
  pub plan_solves : IsSome before → (branches : ℕ) → IsPlan branches words
      → IsEnough branches (names_in words) before → (number ≡ 0) ⊎ (number ≡ 10) ⊎ IsExcused number
  plan_solves told branches plan enough =
      elim (plan_plans told branches plan (ok_of (problem_at (names_in words) before) _ enough)) [
        | inl ends ↦ solved ends
        | inr excused ↦ inr (inr excused)
      ]
    where
      solved : IsEnded number → (number ≡ 0) ⊎ (number ≡ 10) ⊎ IsExcused number
      solved (inl zero) = inl zero
      solved (inr (inl ten)) = inr (inl ten)
      solved (inr (inr eleven)) =
          let all : Answered number words before now said_before said_now =
          called.answered (inl (inr (inr eleven))) in
          let is_spent : all.0.status ≡ status.Spent = spent_number all.0.status (sym eleven ∙ all.1) in
          absurd (ok_not_both (problem_at (names_in words) before) _ _
          (λ problem given few. not_spent problem branches given.0
          (sym (ap (λ (a : Answer). a.status) given.2) ∙ is_spent) few given.1.within)
          ((ended _ plan.1 (inr (inr eleven))).answers told) enough)

-- `check` writes nothing
pub check_idle : (words : List (String Global)) → IsCheck words → OfCommand words (λ meaning. meaning.writes ≡ [])
check_idle words check = subst (λ o. IsSomeAnd o (λ c. (meaning_of c words).writes ≡ [])) (sym check.1) refl
