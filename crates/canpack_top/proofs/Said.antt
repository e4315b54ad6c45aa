-- The line of an answer that was said, whole or in part.
use Rattle.std.proofs.Common.{◌≡◌, ◌∙◌, ◌⊎◌, ℕ, List, Option, Some, IsSomeAnd, String, ap, arith, inl, inr, subst, sym}
use Rattle.std.specs.declared.alloc.Global.{Global}
use Rattle.pack_base.specs.Outside.{Files, SaidPart, and_said}
use Rattle.canpack_top.specs.declared.command.Command.{Command}
use Rattle.canpack_top.specs.Answer.{Answered, IsAnswer, IsAnswered, SaysPart}
use Rattle.canpack_top.specs.Command.{command_of}
use Rattle.canpack_top.specs.Commands.{meaning_of}
use Rattle.canpack_top.specs.Ending.{number_of}
use Rattle.canpack_top.specs.Meaning.{Answer, Ends}

-- 7 is the status of no answer
seven : (number : ℕ) → number ≡ 7 → IsAnswered number → ⊥
seven number is (inl done) = omega arith
seven number is (inr (inl refused)) = omega arith
seven number is (inr (inr rejected)) = omega arith

module _ (words : List (String Global)) (before now : Files) (said_before said_now : Option (List ℕ)) (answer : Answer) (command : Command)
    (is : command_of words ≡ Some command) (ends : Ends (meaning_of command words) before now answer) where
  -- the command of the words ends with the answer
  is_answer : IsAnswer words before now answer
  is_answer = subst (λ o. IsSomeAnd o (λ c. Ends (meaning_of c words) before now answer)) (sym is) ends

  -- the line was said whole, or the status is 7
  pub said_whole : (number result : ℕ) (line : List ℕ) → number ≡ number_of answer.status → line ≡ answer.line
      → (result ≡ number) ⊎ (result ≡ 7) → (result ≡ number → said_now ≡ and_said said_before line) → IsAnswered result
      → Answered result words before now said_before said_now
  said_whole number result line number_is line_is (inl same) said answered =
      (answer, same ∙ number_is, is_answer, said same ∙ ap (and_said said_before) line_is)
  said_whole number result line number_is line_is (inr failed) said answered = absurd (seven result failed answered)

  -- a front of the line was said
  pub said_part : (line : List ℕ) → line ≡ answer.line → SaidPart line said_before said_now → SaysPart words before now said_before said_now
  said_part line line_is part = (line, inr (answer, line_is, is_answer), part)
