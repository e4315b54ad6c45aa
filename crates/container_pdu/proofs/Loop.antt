-- Reading parts one after the other, as a loop does.
use Rattle.std.proofs.Common.{◌≡◌, ℕ, suc, ◌-◌, ◌+◌, ◌≤◌, ◌<◌, true, false, List, [], ◌∷◌, ◌++◌, length, Result, Ok, refl, sym, ◌∙◌, arith}
use Rattle.container_pdu.specs.declared.header.Header.{Header}
use Rattle.container_pdu.specs.declared.part.Part.{Part}
use Rattle.container_pdu.specs.declared.fault.ContainerFault.{ContainerFault}
use Rattle.container_pdu.specs.declared.fault.ContainerFault.TheVariants as fault
use Rattle.pack_model.specs.Gives.{Explains}
use Rattle.container_pdu.specs.Reading.{◌>>=◌, told, is_zeros, part_at, parts_after}

-- so many bytes in all, parts so far, bytes that are left, and what all gives
pub goes_on : (kind : Header) (total i : ℕ) (parts : List Part) (rest : List ℕ) (part : Part) (after : List ℕ)
    (all : Result (List Part) ContainerFault) → i < total → is_zeros rest ≡ false
    → part_at kind (total - length rest) parts rest ≡ Ok (part, after)
    → parts_after kind total (total - i) parts rest ≡ all
    → parts_after kind total (total - (i + 1)) (parts ++ part ∷ []) after ≡ all
goes_on kind total i parts rest part after all lt left h so_far =
    let k : total - i ≡ suc (total - (i + 1)) = omega arith in
    let one : parts_after kind total (total - i) parts rest
    ≡ parts_after kind total (total - (i + 1)) (parts ++ part ∷ []) after = rw (k, left, h) refl in
    sym one ∙ so_far

explained : (e : ContainerFault) (first : Result (Part × List ℕ) ContainerFault)
    (next : Part × List ℕ → Result (List Part) ContainerFault) (all : Result (List Part) ContainerFault)
    → Explains (told e) first → (first >>= next) ≡ all → Explains (told e) all
explained (fault.CutHeader at) first next all h so_far = sym so_far ∙ rw h refl
explained (fault.ZeroId at) first next all h so_far = sym so_far ∙ rw h refl
explained (fault.CutBody at) first next all h so_far = sym so_far ∙ rw h refl
explained (fault.TwiceId id) first next all h so_far = sym so_far ∙ rw h refl
explained fault.Memory first next all h so_far = tt

pub ends : (e : ContainerFault) (kind : Header) (total i : ℕ) (parts : List Part) (rest : List ℕ)
    (all : Result (List Part) ContainerFault) → i < total → is_zeros rest ≡ false
    → Explains (told e) (part_at kind (total - length rest) parts rest)
    → parts_after kind total (total - i) parts rest ≡ all → Explains (told e) all
ends e kind total i parts rest all lt left h so_far =
    let k : total - i ≡ suc (total - (i + 1)) = omega arith in
    let one : parts_after kind total (total - i) parts rest
    ≡ (part_at kind (total - length rest) parts rest >>= λ x. parts_after kind total (total - (i + 1))
    (parts ++ x.0 ∷ []) x.1) = rw (k, left) refl in
    explained e _ _ all h (sym one ∙ so_far)

pub are_zeros : (kind : Header) (total i : ℕ) (parts : List Part) (rest : List ℕ)
    (all : Result (List Part) ContainerFault) → i < total → is_zeros rest ≡ true
    → parts_after kind total (total - i) parts rest ≡ all → all ≡ Ok parts
are_zeros kind total i parts rest all lt zeros so_far =
    let k : total - i ≡ suc (total - (i + 1)) = omega arith in
    let one : parts_after kind total (total - i) parts rest ≡ Ok parts = rw (k, zeros) refl in
    sym so_far ∙ one

pub is_done : (kind : Header) (total i : ℕ) (parts : List Part) (rest : List ℕ)
    (all : Result (List Part) ContainerFault) → total ≤ i
    → parts_after kind total (total - i) parts rest ≡ all → all ≡ Ok parts
is_done kind total i parts rest all le so_far =
    let k : total - i ≡ 0 = omega arith in
    let one : parts_after kind total (total - i) parts rest ≡ Ok parts = rw k refl in
    sym so_far ∙ one
