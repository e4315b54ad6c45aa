-- What the answer of `make` says.
use Rattle.std.proofs.Common.{◌≡◌, ◌∙◌, ◌⊎◌, ℕ, List, Option, IsSome, String, ap, arith, inl, inr, is_some, sym, true≢false}
use Rattle.std.specs.declared.alloc.Global.{Global}
use Rattle.pack_base.specs.Outside.{Files, and_said}
use Rattle.canpack_top.specs.declared.command.Command.TheVariants as command
use Rattle.canpack_top.specs.Answer.{IsAnswered, IsEnded, IsRefused}
use Rattle.canpack_top.specs.Command.{case_names_in}
use Rattle.canpack_top.specs.Commands.{IsMake, OfCommand}
use Rattle.canpack_top.specs.Ending.{number_of}
use Rattle.canpack_top.specs.Make.{CaseWritten, HasCase, case_line, make_meaning}
use Rattle.canpack_top.specs.Meaning.{Ends, Finishes}
use Rattle.canpack_top.specs.Reads.{SomeRose}
use Rattle.canpack_top.proofs.CommandLaws.{Called, of_words, refused_text}

module _ {words : List (String Global)} {before now : Files} {said_before said_now : Option
    (List ℕ)} {number : ℕ}
    (called : Called words before now said_before said_now number) (case : ℕ) (make : IsMake case words) where
  -- its answer is its own, where it isn't a refusal
  own_answer : (answered : IsAnswered number) → (number ≡ 4 → ⊥)
      → Finishes (make_meaning case (case_names_in words)) before now (called.answered answered).0
  own_answer answered other =
      let answer = (called.answered answered).0 in
      elim (of_words words (command.MakeFiles case) (λ m. Ends m before now answer) make
      (called.answered answered).2) [
        | inl finishes ↦ finishes
        | inr refuses ↦ absurd (other
            ((called.answered answered).1 ∙ ap (λ a. number_of a.status) refuses.is))
      ]

  -- it has written the case at status 0
  pub make_written : number ≡ 0 → IsSome before → CaseWritten case (case_names_in words) before now
  make_written zero told = (own_answer (inl (inl zero)) (λ four. omega (arith, zero, four))).leaves told

  -- its files are read as the case then
  pub make_reads : number ≡ 0 → IsSome before → HasCase case (case_names_in words) now
  make_reads zero told = (own_answer (inl (inl zero)) (λ four. omega (arith, zero, four))).shows told

  -- and its line was said
  pub make_said : number ≡ 0 → said_now ≡ and_said said_before (case_line case)
  make_said zero =
      (called.answered (inl (inl zero))).3
      ∙ ap (λ a. and_said said_before a.line) (own_answer (inl (inl zero)) (λ four. omega (arith, zero, four))).has

  -- it never rejects
  not_rejected : number ≡ 5 → ⊥
  not_rejected five =
      let other : number ≡ 4 → ⊥ = λ four. omega (arith, five, four) in
      let done : number_of (called.answered (inr (inr five))).0.status ≡ 0 =
      ap (λ a. number_of a.status) (own_answer (inr (inr five)) other).has in
      omega (arith, done, five, (called.answered (inr (inr five))).1)

  -- it ends with 0 alone
  zero_of : IsEnded number → number ≡ 0
  zero_of ends =
      let answer = called.answered (inl ends) in
      answer.1 ∙ ap (λ a. number_of a.status) (own_answer (inl ends) (λ four. not_four ends four)).has
    where
      not_four : IsEnded number → number ≡ 4 → ⊥
      not_four (inl zero) four = omega (arith, zero, four)
      not_four (inr (inl ten)) four = omega (arith, ten, four)
      not_four (inr (inr eleven)) four = omega (arith, eleven, four)

  -- it never refuses
  not_refused : IsSome before → number ≡ 4 → ⊥
  not_refused told four =
      let refused : IsRefused before (make_meaning case (case_names_in words)) =
      of_words words (command.MakeFiles case) (IsRefused before) make (refused_text called four told) in
      true≢false (sym refused)

  -- it is done, or a write or saying failed, or memory ran out
  pub make_done : (faults_before faults_now : List ℕ → ℕ)
      → (number ≡ 2 → OfCommand words (λ meaning. SomeRose meaning.reads faults_before faults_now))
      → IsSome before
      → (number ≡ 0) ⊎ (number ≡ 3) ⊎ (number ≡ 6) ⊎ (number ≡ 7)
  make_done faults_before faults_now read told = elim called.statuses [
    | inl one ↦ absurd (true≢false (sym (ap is_some make) ∙ called.usage one))
    | inr rest ↦ elim rest [
      | inl answered ↦ elim answered [
        | inl ends ↦ inl (zero_of ends)
        | inr more ↦ elim more [
          | inl four ↦ absurd (not_refused told four)
          | inr five ↦ absurd
              (not_rejected five)
        ]
      ]
      | inr excused ↦ elim excused [
        | inl two ↦ absurd (of_words words (command.MakeFiles case)
            (λ m. SomeRose m.reads faults_before faults_now) make (read two))
        | inr others ↦ inr others
      ]
    ]
  ]
