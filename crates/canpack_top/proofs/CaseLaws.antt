-- What the answer of `make` without files says.
use Rattle.std.proofs.Common.{◌≡◌, ◌∙◌, ◌⊎◌, ℕ, List, Option, IsSome, String, ap, inl, inr, is_some, sym, true≢false}
use Rattle.std.specs.declared.alloc.Global.{Global}
use Rattle.pack_base.specs.Outside.{Files}
use Rattle.canpack_top.specs.declared.command.Command.TheVariants as command
use Rattle.canpack_top.specs.declared.ending.Status.TheVariants as status
use Rattle.canpack_top.specs.Answer.{IsEnded, IsRefused, SaysAnswer, WritesPart}
use Rattle.canpack_top.specs.CasePlan.{IsCasePlan, case_plan_answer, case_plan_meaning}
use Rattle.canpack_top.specs.Commands.{IsPlanCase, OfCommand}
use Rattle.canpack_top.specs.Meaning.{Answer}
use Rattle.canpack_top.specs.Reads.{SomeRose}
use Rattle.canpack_top.proofs.CommandLaws.{Called, by_status, of_words, refused_text, rejected_status, said_answer}
use Rattle.canpack_top.proofs.Planned.{not_rejected}

-- its answer rejects nothing
not_rejected_case : (number : ℕ) (answer : Answer) → IsCasePlan number answer → answer.status ≡ status.Rejected → ⊥
unfolding case_plan_answer
not_rejected_case number answer is h =
    not_rejected is.plan (sym (ap (λ (a : Answer). a.status) is.answers) ∙ h)

module _ {words : List (String Global)} {before now : Files} {said_before said_now : Option
    (List ℕ)} {number : ℕ}
    (called : Called words before now said_before said_now number) (case : ℕ) (plan : IsPlanCase case words) where
  -- the line of the plan was said where it ended
  pub case_ended : IsEnded number → SaysAnswer number said_before said_now (IsCasePlan case)
  case_ended ends = said_answer called (command.PlanCase case) plan ends _ (λ answer finishes. finishes.has)

  -- it ends, or saying failed, or memory ran out
  pub case_plans : (faults_before faults_now writes_before writes_now : List ℕ → ℕ)
      → (number ≡ 2 → OfCommand words (λ meaning. SomeRose meaning.reads faults_before faults_now))
      → (number ≡ 3 → OfCommand words (WritesPart before now writes_before writes_now))
      → IsSome before → IsEnded number ⊎ (number ≡ 6) ⊎ (number ≡ 7)
  case_plans faults_before faults_now writes_before writes_now read write told =
      by_status called (λ none. true≢false (sym (ap is_some plan) ∙ none))
      inl
      (λ four. absurd (true≢false (sym (of_words words (command.PlanCase case) (IsRefused before) plan
      (refused_text called four told)))))
      (λ five. absurd (let all = rejected_status called (command.PlanCase case) plan five in
      not_rejected_case case all.0 all.1 all.2))
      (λ excused. elim excused [
        | inl two ↦ absurd (of_words words (command.PlanCase case)
            (λ m. SomeRose m.reads faults_before faults_now) plan (read two))
        | inr others ↦ elim others [
          | inl three ↦ absurd (of_words words (command.PlanCase case)
              (WritesPart before now writes_before writes_now) plan (write three)).0
          | inr rest ↦ inr rest
        ]
      ])
