-- A folder that is read twice.
use Rattle.std.proofs.Common.{ℕ, List, ◌∙◌}
use Rattle.pack_base.specs.Outside.{Files}
use Rattle.canpack_top.specs.Reads.{ReadsOnly}
use Rattle.pack_base.proofs.WholeFile.{later_trans}

-- two calls that only read are one that only reads
pub reads_trans : {F : Type 0} {files : F → Files} {read_faults write_faults given : F → List ℕ → ℕ} {a b c : F}
    → ReadsOnly files read_faults write_faults given a b → ReadsOnly files read_faults write_faults given b c
    → ReadsOnly files read_faults write_faults given a c
reads_trans ab bc = record { same = bc.same ∙ ab.same; later = later_trans ab.later bc.later }
