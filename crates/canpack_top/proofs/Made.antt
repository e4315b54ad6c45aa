-- How `make` runs.
use Rattle.std.proofs.Common.{◌≡◌, ◌⊎◌, ℕ, List, Result, Ok, Err, IfOk, IsErr, IsErrOf, IsSome, OnOk, inl, refl}
use Rattle.pack_base.specs.Outside.{Files, Later}
use Rattle.canpack_top.specs.declared.ending.Answer.{Answer as GivenAnswer}
use Rattle.canpack_top.specs.declared.ending.Halt.{Halt}
use Rattle.canpack_top.specs.declared.ending.Halt.TheVariants as halt
use Rattle.canpack_top.specs.Command.{CaseNames}
use Rattle.canpack_top.specs.Make.{CasePartWritten, CaseWritten, HasCase, case_names, make_answer, make_meaning}
use Rattle.canpack_top.specs.Meaning.{Runs, seen}
use Rattle.canpack_top.specs.Reads.{SomeRose}

module _ {F : Type 0} {files : F → Files} {read_faults write_faults given_bytes : F → List ℕ
    → ℕ} {old new : F} where
  -- what is written of a case is what `make` means
  pub made : (number : ℕ) (names : CaseNames) (result : Result GivenAnswer Halt)
      → IfOk result (λ answer. seen answer ≡ make_answer number)
      → OnOk result (CaseWritten number names (files old) (files new))
      → OnOk result (IsSome (files old) → HasCase number names (files new))
      → (IsErrOf result halt.WriteFault → CasePartWritten number names (files old) (files new))
      → (IsErrOf result halt.WriteFault → SomeRose (case_names names) (write_faults old) (write_faults new))
      → (IsErrOf result halt.ReadFault → ⊥)
      → (IsErr result → IsErrOf result halt.WriteFault ⊎ (files new ≡ files old))
      → Later read_faults write_faults given_bytes old new
      → Runs (make_meaning number names) files read_faults write_faults given_bytes old new result
  made number names (Ok answer) is written reads part rose none same later = record {
    ends = inl (record {
      has = is;
      not_refused = λ h. cc;
      stand = λ told. refl;
      answers = λ told. is;
      leaves = λ told. written;
      shows = λ told. reads told;
      kept = λ h. cc;
    });
    read_fault = λ h. cc;
    write_fault = λ h. cc;
    part = λ h. cc;
    same = λ h. cc;
    idle = λ h. cc;
    later = later;
  }
  made number names (Err why) is written reads part rose none same later = record {
    ends = tt;
    read_fault = λ h. absurd (none h);
    write_fault = rose;
    part = λ h told. (refl, part h);
    same = same;
    idle = λ h. cc;
    later = later;
  }
