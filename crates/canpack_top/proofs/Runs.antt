-- How commands run.
use Rattle.std.proofs.Common.{◌≡◌, ◌≢◌, ◌≤◌, ◌∙◌, ◌⊎◌, ℕ, List, [], ◌∷◌, arith, None, Some, Result, Ok, Err, IfOk, IsOkAnd, IsErr, IsErrOf, IsSome, OnErr, option_map, ap, sym, inl, inr, subst, refl}
use Rattle.std.specs.Prelude.{String}
use Rattle.std.specs.Result.{result_err}
use Rattle.std.specs.declared.alloc.Global.{Global}
use Rattle.pack_base.specs.Counts.{Rose}
use Rattle.pack_base.specs.Outside.{Files, Later}
use Rattle.pack_base.proofs.WholeFile.{later_trans}
use Rattle.pack_model.specs.Problem.{Parts}
use Rattle.canpack_top.specs.declared.check.Judgement.{Judgement}
use Rattle.canpack_top.specs.declared.ending.Answer.{Answer as GivenAnswer}
use Rattle.canpack_top.specs.declared.ending.Halt.{Halt}
use Rattle.canpack_top.specs.declared.ending.Halt.TheVariants as halt
use Rattle.canpack_top.specs.declared.ending.Status.TheVariants as status
use Rattle.canpack_top.specs.declared.ending.Stop.{Stop}
use Rattle.canpack_top.specs.declared.ending.Stop.TheVariants as stop
use Rattle.canpack_top.specs.declared.refusal.Refusal.{Refusal}
use Rattle.canpack_top.specs.declared.verdict.Found.{Found}
use Rattle.canpack_top.specs.declared.verdict.Found.TheVariants as found
use Rattle.canpack_top.specs.Check.{HasAll, IsAnswerOf, check_answer, check_meaning, texts_at}
use Rattle.canpack_top.specs.declared.command.Command.{Command}
use Rattle.canpack_top.specs.Command.{Names}
use Rattle.canpack_top.specs.Commands.{meaning_of}
use Rattle.canpack_top.specs.Files.{problem_at}
use Rattle.canpack_top.specs.Line.{refused_line}
use Rattle.canpack_top.specs.Meaning.{Answer, Ends, Meaning, Runs, Stops, seen}
use Rattle.canpack_top.specs.CasePlan.{IsCasePlan, case_plan_answer, case_plan_meaning}
use Rattle.canpack_top.specs.Plan.{PlanPartWritten, PlanWritten, ShowsPlan, plan_meaning}
use Rattle.canpack_top.specs.Reads.{ReadsOnly, SomeRose, written_names}
use Rattle.canpack_top.specs.Verdict.{Finds, IsShown}
use Rattle.canpack_top.proofs.Planned.{is_part_planned, is_plan_answer, is_planned, not_refused as not_refused_plan, not_rejected}

-- a fact of what there is gives another
pub ok_and : {X E : Type 0} (r : Result X E) (P Q : X → Type 0) → ((x : X) → P x → Q x) → IsOkAnd r P
    → IsOkAnd r Q
ok_and (Ok x) P Q more is = more x is
ok_and (Err e) P Q more is = absurd is

-- where texts stand there is no line of a refusal
no_refusal : {X : Type 0} (r : Result X Refusal) (P : X → Type 0) → IsOkAnd r P → option_map refused_line
    (result_err r) ≡ None
no_refusal (Ok x) P is = refl
no_refusal (Err why) P is = absurd is

-- the line of the first refusal
pub refusal : {X : Type 0} (r : Result X Refusal) (why : Refusal) → r ≡ Err why → option_map refused_line
    (result_err r) ≡ Some (refused_line why)
refusal {X = X} r why is = ap (λ (t : Result X Refusal). option_map refused_line (result_err t)) is

-- what was found isn't a refusal
not_refused : (hyper : ℕ) (what : Found) → (check_answer hyper what).status ≢ status.Refused
not_refused hyper (found.Shown shown) = λ h. cc
not_refused hyper (found.Rejected failed) = λ h. cc

-- where `check` is done, a verdict was found
is_shown : (hyper : ℕ) (what : Found) → (check_answer hyper what).status ≡ status.Done → IsShown what
is_shown hyper (found.Shown shown) is = tt
is_shown hyper (found.Rejected failed) is = cc

-- where nothing was done no count fell
later_refl : {F : Type 0} {read_faults write_faults given_bytes : F → List ℕ → ℕ} {a : F}
    → Later read_faults write_faults given_bytes a a
later_refl =
    record { read = λ name. omega arith; write = λ name. omega arith; gave = λ name. omega arith }

-- the answer of a generated case that is planned is no refusal
not_refused_case : (number : ℕ) (answer : Answer) → IsCasePlan number answer → answer.status ≢ status.Refused
unfolding case_plan_answer
not_refused_case number answer is h =
    not_refused_plan is.plan (sym (ap (λ (a : Answer). a.status) is.answers) ∙ h)

-- a count that rose since a later moment, by one count
at_least_since : (before mid now : ℕ) → before ≤ mid → Rose mid now → Rose before now
at_least_since before mid now later rose = omega arith

-- the same of the counts of names
rose_since : (names : List (List ℕ)) (before mid now : List ℕ → ℕ)
    → ((name : List ℕ) → before name ≤ mid name)
    → SomeRose names mid now → SomeRose names before now
rose_since [] before mid now later rose = absurd rose
rose_since (name ∷ names) before mid now later (inl rose) = inl (at_least_since _ _ _ (later name) rose)
rose_since (name ∷ names) before mid now later (inr rose) = inr (rose_since names before mid now later rose)

module _ {F : Type 0} {files : F → Files} {read_faults write_faults given_bytes : F → List ℕ
    → ℕ} {old new : F} where
  -- a command that only read runs
  unwritten : (meaning : Meaning) (result : Result GivenAnswer Halt)
      → IfOk result (λ answer. Ends meaning (files old) (files new) (seen answer))
      → (IsErrOf result halt.ReadFault → SomeRose meaning.reads (read_faults old) (read_faults new))
      → (IsErrOf result halt.WriteFault → ⊥)
      → ReadsOnly files read_faults write_faults given_bytes old new
      → Runs meaning files read_faults write_faults given_bytes old new result
  unwritten meaning result ends rose none only = record {
    ends = ends;
    read_fault = rose;
    write_fault = λ h. absurd (none h);
    part = λ h told. absurd (none h);
    same = λ h. inr only.same;
    idle = λ h. only.same;
    later = only.later;
  }

  -- a command whose reading stopped runs
  pub stopped : (meaning : Meaning) (why : Stop) (result : Result GivenAnswer Halt) → Stops why result
      → ((what : Refusal) → why ≡ stop.Refused what → IsSome (files old) → meaning.first_refusal
      (files old) ≡ Some (refused_line what))
      → (why ≡ stop.ReadFault → SomeRose meaning.reads (read_faults old) (read_faults new))
      → ReadsOnly files read_faults write_faults given_bytes old new
      → Runs meaning files read_faults write_faults given_bytes old new result
  stopped meaning (stop.Refused what) (Ok answer) is first rose only =
      unwritten meaning (Ok answer) (inr (record {
        why = what;
        is = is;
        first = first what refl;
        same =
            only.same;
      })) (λ h. cc) (λ h. cc) only
  stopped meaning (stop.Refused what) (Err halt.Memory) is first rose only = unwritten meaning
      (Err halt.Memory) tt (λ h. cc) (λ h. cc) only
  stopped meaning (stop.Refused what) (Err halt.ReadFault) is first rose only = absurd is
  stopped meaning (stop.Refused what) (Err halt.WriteFault) is first rose only = absurd is
  stopped meaning stop.ReadFault result is first rose only =
      subst (λ r. Runs meaning files read_faults write_faults given_bytes old new r) (sym is)
      (unwritten meaning (Err halt.ReadFault) tt (λ h. rose refl) (λ h. cc) only)
  stopped meaning stop.Memory result is first rose only =
      subst (λ r. Runs meaning files read_faults write_faults given_bytes old new r) (sym is)
      (unwritten meaning (Err halt.Memory) tt (λ h. cc) (λ h. cc) only)

  -- `check` ran where something was found
  pub judged : (names : Names) (judgement : Judgement) (result : Result GivenAnswer Halt)
      → IfOk result (λ answer. seen answer ≡ check_answer judgement.hyper judgement.found) → OnErr result
      (result ≡ Err halt.Memory)
      → (IsSome (files old) → IsOkAnd (texts_at names (files old))
      (λ judged. Finds judgement.found judged × (judgement.hyper ≡ judged.problem.hyper)))
      → (IsSome (files old) → IsShown judgement.found → HasAll names (files old))
      → ReadsOnly files read_faults write_faults given_bytes old new
      → Runs (check_meaning names) files read_faults write_faults given_bytes old new result
  judged names judgement (Ok answer) is no_err finds holds only = unwritten (check_meaning names)
      (Ok answer) (inl (record {
        has = (judgement.hyper, judgement.found, is);
        not_refused = λ h. not_refused judgement.hyper judgement.found (sym (ap (λ a. a.status) is) ∙ h);
        stand = λ told. no_refusal (texts_at names (files old)) _ (finds told);
        answers = λ told. ok_and (texts_at names (files old)) _ (IsAnswerOf (seen answer))
            (λ judged both. (judgement.found, both.0, is ∙ ap (λ h. check_answer h judgement.found) both.1))
            (finds told);
        leaves = λ told. only.same;
        shows = λ told done. holds told (is_shown judgement.hyper judgement.found
            (sym (ap (λ a. a.status) is) ∙ done));
        kept = λ h. only.same;
      })) (λ h. cc) (λ h. cc) only
  judged names judgement (Err why) is no_err finds holds only = unwritten (check_meaning names) (Err why) tt
      (λ h. cc) (λ h. cc) only

  -- `plan` ran where there is a problem, of which it only reads up to `mid`
  pub planned : {mid : F} (names : Names) (branches : ℕ) (problem : Parts) (result : Result GivenAnswer Halt)
      → (IsSome (files old) → problem_at names (files old) ≡ Ok problem)
      → ReadsOnly files read_faults write_faults given_bytes old mid
      → IfOk result (λ answer. PlanWritten names branches problem (seen answer) (files mid) (files new))
      → IfOk result (λ answer. IsSome (files mid) → problem_at names (files mid) ≡ Ok problem
      → ShowsPlan names branches (files new) (seen answer))
      → (IsErrOf result halt.WriteFault → PlanPartWritten names branches problem (files mid) (files new))
      → (IsErrOf result halt.WriteFault → SomeRose (written_names names) (write_faults mid)
      (write_faults new))
      → (IsErrOf result halt.ReadFault → ⊥)
      → (IsErr result → IsErrOf result halt.WriteFault ⊎ (files new ≡ files mid))
      → Later read_faults write_faults given_bytes mid new
      → Runs (plan_meaning branches names) files read_faults write_faults given_bytes old new result
  planned {mid} names branches problem (Ok answer) stands only written accepted part rose none same later =
      record {
        ends = inl (record {
          has = (problem, (written.plan, written.is_for, written.answers));
          not_refused = λ h.
              not_refused_plan written.plan (sym (ap (λ a. a.status) written.answers) ∙ h);
          stand = λ told. ap (λ (r : Result Parts Refusal). option_map refused_line (result_err r)) (stands told);
          answers = λ told. is_plan_answer names branches (files old) (files mid) (files new) problem
              (seen answer) (stands told) written;
          leaves = λ told. is_planned names branches (files old) (files mid) (files new) problem (seen answer)
              (stands told) only.same written;
          shows = λ told. accepted (subst IsSome (sym only.same) told)
              (ap (problem_at names) only.same ∙ stands told);
          kept = λ h. absurd (not_rejected written.plan (sym (ap (λ a. a.status) written.answers) ∙ h));
        });
        read_fault = λ h. cc;
        write_fault = λ h. cc;
        part = λ h. cc;
        same = λ h. cc;
        idle = λ h. cc;
        later = later_trans only.later later;
      }
  planned {mid} names branches problem (Err why) stands only written accepted part rose none same later = record {
    ends = tt;
    read_fault = λ h. absurd (none h);
    write_fault = λ h. rose_since (written_names names) (write_faults old) (write_faults mid)
        (write_faults new) only.later.write (rose h);
    part = λ h told. (
      ap (λ (r : Result Parts Refusal). option_map refused_line (result_err r)) (stands told),
      is_part_planned names branches (files old) (files mid) (files new) problem (stands told) only.same (part h),
    );
    same = λ h. elim (same h) [ inl fault ↦ inl fault | inr is ↦ inr (is ∙ only.same) ];
    idle = λ h. cc;
    later = later_trans only.later later;
  }

  -- `make` without files ran: it touches no file
  pub case_planned : (number : ℕ) (result : Result GivenAnswer Halt)
      → IfOk result (λ answer. IsCasePlan number (seen answer))
      → OnErr result (result ≡ Err halt.Memory)
      → new ≡ old
      → Runs (case_plan_meaning number) files read_faults write_faults given_bytes old new result
  case_planned number result is no_err same = subst
      (λ n. Runs (case_plan_meaning number) files read_faults write_faults given_bytes old n result)
      (sym same) (kept number result is no_err)
    where
      kept : (number : ℕ) (result : Result GivenAnswer Halt)
          → IfOk result (λ answer. IsCasePlan number (seen answer))
          → OnErr result (result ≡ Err halt.Memory)
          → Runs (case_plan_meaning number) files read_faults write_faults given_bytes old old result
      kept number (Ok answer) is no_err = record {
        ends = inl (record {
          has = is;
          not_refused = λ h. not_refused_case number (seen answer) is h;
          stand = λ told. refl;
          answers = λ told. is;
          leaves = λ told. refl;
          shows = λ told. is;
          kept = λ h. refl;
        });
        read_fault = λ h. cc;
        write_fault = λ h. cc;
        part = λ h. cc;
        same = λ h. cc;
        idle = λ h. refl;
        later = later_refl;
      }
      kept number (Err why) is no_err = record {
        ends = tt;
        read_fault = λ h. cc;
        write_fault = λ h. cc;
        part = λ h. cc;
        same = λ h. inr refl;
        idle = λ h. refl;
        later = later_refl;
      }

  -- a command that ran with equal names
  pub renamed : {N : Type 0} (meaning : N → Meaning) (names same : N) (result : Result GivenAnswer Halt)
      → names ≡ same
      → Runs (meaning names) files read_faults write_faults given_bytes old new result → Runs
      (meaning same) files read_faults write_faults given_bytes old new result
  renamed meaning names same result is runs = subst (λ n. Runs
      (meaning n) files read_faults write_faults given_bytes old new result) is runs

  -- the command that ran
  pub ran : (words : List (String Global)) (command given : Command) (result : Result GivenAnswer Halt)
      → command ≡ given
      → Runs (meaning_of given words) files read_faults write_faults given_bytes old new result
      → Runs (meaning_of command words) files read_faults write_faults given_bytes old new result
  ran words command given result is runs = subst (λ c. Runs
      (meaning_of c words) files read_faults write_faults given_bytes old new result) (sym is) runs
