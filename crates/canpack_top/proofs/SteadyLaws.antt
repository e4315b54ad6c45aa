-- What a folder whose reads never fail leaves of the statuses.
use Rattle.std.proofs.Common.{◌≡◌, ◌⊎◌, ℕ, List, [], ◌∷◌, IsSome, String, ap, arith, inl, inr, is_some, sym, true≢false, ◌∙◌}
use Rattle.std.specs.declared.alloc.Global.{Global}
use Rattle.pack_base.specs.Outside.{Files}
use Rattle.canpack_top.specs.Answer.{IsExcused, IsRefused, WritesPart}
use Rattle.canpack_top.specs.Command.{command_of}
use Rattle.canpack_top.specs.Commands.{OfCommand, meaning_of}
use Rattle.canpack_top.specs.Reads.{SomeRose}
use Rattle.canpack_top.proofs.CommandLaws.{some_never, some_not_both}

-- a count that is always 0 never rose
never_rose : (names : List (List ℕ)) → SomeRose names (λ name. 0) (λ name. 0) → ⊥
never_rose [] rose = rose
never_rose (name ∷ names) (inl rose) = omega arith
never_rose (name ∷ names) (inr rose) = never_rose names rose

-- no read fault of a command rose
pub no_read_fault : (words : List (String Global)) → OfCommand words (λ meaning. SomeRose meaning.reads (λ name. 0) (λ name. 0)) → ⊥
no_read_fault words rose = some_never (command_of words) _ (λ c h. never_rose (meaning_of c words).reads h) rose

-- where a text is refused nothing is written, so a write fault doesn't come
pub refused_steady : (words : List (String Global)) (before now : Files) (faults_before faults_now : List ℕ → ℕ) (number : ℕ)
    → IsSome before → OfCommand words (IsRefused before) → (number ≡ 4) ⊎ IsExcused number → (number ≡ 2 → ⊥) → (number ≡ 7 → ⊥)
    → (number ≡ 3 → OfCommand words (WritesPart before now faults_before faults_now)) → (number ≡ 4) ⊎ (number ≡ 6)
refused_steady words before now faults_before faults_now number told refused (inl four) no_read no_say part = inl four
refused_steady words before now faults_before faults_now number told refused (inr (inl two)) no_read no_say part = absurd (no_read two)
refused_steady words before now faults_before faults_now number told refused (inr (inr (inl three))) no_read no_say part =
    absurd (some_not_both (command_of words) _ _ (λ c is left. true≢false (sym is ∙ ap is_some (left.1 told).0)) refused (part three))
refused_steady words before now faults_before faults_now number told refused (inr (inr (inr (inl six)))) no_read no_say part = inr six
refused_steady words before now faults_before faults_now number told refused (inr (inr (inr (inr seven)))) no_read no_say part = absurd (no_say seven)
