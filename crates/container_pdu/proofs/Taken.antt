-- What is read is the parts' headers and bytes, and zeros.
use Rattle.std.proofs.Common.{◌≡◌, ℕ, zero, suc, ◌-◌, ◌<◌, ◌≤◌, inl, inr, Bool, true, false, cond, nat_eq, nat_lt, List, [], ◌∷◌, ◌++◌, length, take, drop, replicate, Result, Ok, Err, refl, sym, ap, subst, ◌∙◌, append_assoc, arith}
use Rattle.std.proofs.lemmas.Bool.{ltb-false}
use Rattle.std.proofs.lemmas.List.{append-nil, nil_from_length, take-append-drop, length-take-le, length-drop, length-append, length-replicate}
use Rattle.container_pdu.specs.declared.header.Header.{Header}
use Rattle.container_pdu.specs.declared.header.Header.TheVariants.{NoHeader, Short, Long}
use Rattle.container_pdu.specs.declared.part.Part.{Part}
use Rattle.container_pdu.specs.declared.fault.ContainerFault.{ContainerFault}
use Rattle.container_pdu.specs.declared.fault.ContainerFault.TheVariants as fault
use Rattle.container_pdu.specs.Bytes.{container_text, header_bytes, header_text, part_text, parts_text}
use Rattle.container_pdu.specs.Reading.{◌>>=◌, after_header, has_id, id_in, is_zeros, length_in, part_at, parts_after, parts_of}
use Rattle.container_pdu.proofs.Headers.{IsBytes, IsBytes-drop, two, zeros_are, header_taken}

pub bind_ok : {A B : Type 0} (r : Result A ContainerFault) (f : A → Result B ContainerFault) (y : B)
    → (r >>= f) ≡ Ok y → (x : A) × (r ≡ Ok x) × (f x ≡ Ok y)
bind_ok (Ok x) f y e = (x, refl, e)
bind_ok (Err d) f y e = absurd cc

pub guard_ok : {A : Type 0} (b : Bool) (d : ContainerFault) (r : Result A ContainerFault) (y : A)
    → cond b (Err d) r ≡ Ok y → (b ≡ false) × (r ≡ Ok y)
guard_ok true d r y e = absurd cc
guard_ok false d r y e = (refl, e)

abbrev pub done : {A : Type 0} → A → Result A ContainerFault
done x = Ok x

pub ok_is : {A : Type 0} (x y : A) → done x ≡ done y → x ≡ y
ok_is x y e = cc

-- a header whose id isn't 0 has bytes
pub has_bytes : (kind : Header) (bytes : List ℕ) → nat_eq (id_in kind bytes) 0 ≡ false → 4 ≤ header_bytes kind
has_bytes NoHeader bytes e = absurd cc
has_bytes Short bytes e = omega arith
has_bytes Long bytes e = omega arith

-- what a part took from the front
pub record Takes (kind : Header) (bytes : List ℕ) (x : Part × List ℕ) : Type 0 where
  pub parts : bytes ≡ part_text kind x.0 ++ x.1
  pub fits : IsBytes x.1
  pub shorter : length x.1 < length bytes

pub part_taken : (kind : Header) (at : ℕ) (earlier : List Part) (bytes : List ℕ) (x : Part × List ℕ)
    → IsBytes bytes → part_at kind at earlier bytes ≡ Ok x → Takes kind bytes x
part_taken kind at earlier bytes x fits e =
    let id = id_in kind bytes in
    let n = length_in kind bytes in
    let tail = drop (header_bytes kind) bytes in
    let made : Part × List ℕ = (
      record {
        id = id_in kind bytes;
        bytes = take (length_in kind bytes) (drop (header_bytes kind) bytes);
      },
      drop (length_in kind bytes) (drop (header_bytes kind) bytes),
    ) in
    let g0 = guard_ok (nat_lt (length bytes) (header_bytes kind)) (fault.CutHeader at) _ x e in
    let g1 = guard_ok (nat_eq (id_in kind bytes) 0) (fault.ZeroId at) _ x g0.1 in
    let g2 =
    guard_ok (nat_lt (length (after_header kind bytes)) (length_in kind bytes))
    (fault.CutBody at) _ x g1.1 in
    let g3 =
    guard_ok (has_id (id_in kind bytes) earlier) (fault.TwiceId (id_in kind bytes)) (Ok made) x g2.1 in
    let long : header_bytes kind ≤ length bytes = ltb-false _ _ g0.0 in
    let body : length_in kind bytes ≤ length (drop (header_bytes kind) bytes) = ltb-false _ _ g2.0 in
    let some = has_bytes kind bytes g1.0 in
    let len : length (take (length_in kind bytes) (drop (header_bytes kind) bytes)) ≡ length_in kind bytes =
    length-take-le _ _ body in
    let head = header_taken kind bytes fits long in
    let joined : bytes ≡ (header_text kind (id_in kind bytes) (length_in kind bytes)
    ++ take (length_in kind bytes) (drop (header_bytes kind) bytes))
    ++ drop (length_in kind bytes) (drop (header_bytes kind) bytes) =
    sym (append_assoc (header_text kind (id_in kind bytes) (length_in kind bytes))
    (take (length_in kind bytes) (drop (header_bytes kind) bytes))
    (drop (length_in kind bytes) (drop (header_bytes kind) bytes))
    ∙ ap (λ (t : List ℕ). header_text kind (id_in kind bytes) (length_in kind bytes) ++ t)
    (take-append-drop (length_in kind bytes) (drop (header_bytes kind) bytes))
    ∙ ap (λ (t : List ℕ). t ++ drop (header_bytes kind) bytes) head
    ∙ take-append-drop (header_bytes kind) bytes) in
    let whole : bytes ≡ part_text kind made.0 ++ made.1 =
    subst (λ (k : ℕ). bytes ≡ (header_text kind (id_in kind bytes) k
    ++ take (length_in kind bytes) (drop (header_bytes kind) bytes))
    ++ drop (length_in kind bytes) (drop (header_bytes kind) bytes)) (sym len) joined in
    subst (Takes kind bytes) (ok_is made x g3.1) (record {
      parts = whole;
      fits =
          IsBytes-drop (length_in kind bytes) (drop (header_bytes kind) bytes)
          (IsBytes-drop (header_bytes kind) bytes fits);
      shorter =
          omega (
            arith,
            length-drop (length_in kind bytes) (drop (header_bytes kind) bytes),
            length-drop (header_bytes kind) bytes,
          );
    })

-- the bytes are those of further parts, and zeros
record Spells (kind : Header) (earlier : List Part) (bytes : List ℕ) (all : List Part) : Type 0 where
  pub more : List Part
  pub zeros : ℕ
  pub all_is : all ≡ earlier ++ more
  pub bytes_is : bytes ≡ parts_text kind more ++ replicate zeros 0

-- one part more
spells_more : (kind : Header) (earlier : List Part) (bytes : List ℕ) (all : List Part) (x : Part × List ℕ)
    → Takes kind bytes x → Spells kind (earlier ++ x.0 ∷ []) x.1 all → Spells kind earlier bytes all
spells_more kind earlier bytes all x t r = record {
  more = x.0 ∷ r.more;
  zeros = r.zeros;
  all_is = r.all_is ∙ append_assoc earlier (x.0 ∷ []) r.more;
  bytes_is = t.parts ∙ ap (λ (t : List ℕ). part_text kind x.0 ++ t) r.bytes_is
      ∙ sym (append_assoc (part_text kind x.0) (parts_text kind r.more) (replicate r.zeros 0));
}

parts_taken : (kind : Header) (total steps : ℕ) (earlier : List Part) (bytes : List ℕ) (all : List Part)
    → length bytes ≤ steps → IsBytes bytes → parts_after kind total steps earlier bytes ≡ Ok all
    → Spells kind earlier bytes all
parts_taken kind total zero earlier bytes all few fits e = record {
  more = [];
  zeros = 0;
  all_is = sym (ok_is earlier all e) ∙ sym (append-nil earlier);
  bytes_is = nil_from_length bytes (omega arith);
}
parts_taken kind total (suc steps) earlier bytes all few fits e =
    elim (two (is_zeros bytes)) [
      | inl ended ↦ record {
        more = [];
        zeros = length bytes;
        all_is = sym (ok_is earlier all (rw ended at e)) ∙ sym (append-nil earlier);
        bytes_is = zeros_are bytes ended;
      }
      | inr left ↦
          let b =
          bind_ok (part_at kind (total - length bytes) earlier bytes)
          (λ x. parts_after kind total steps (earlier ++ x.0 ∷ []) x.1) all (rw left at e) in
          let t = part_taken kind (total - length bytes) earlier bytes b.0 fits b.1 in
          let r =
          parts_taken kind total steps (earlier ++ b.0.0 ∷ []) b.0.1 all
          (omega (arith, t.shorter)) t.fits b.2 in
          spells_more kind earlier bytes all b.0 t r
    ]

pub all_taken : (kind : Header) (bytes : List ℕ) (all : List Part) → IsBytes bytes
    → parts_of kind bytes ≡ Ok all → bytes ≡ container_text kind all (length bytes)
all_taken kind bytes all fits e =
    let r = parts_taken kind (length bytes) (length bytes) [] bytes all (omega arith) fits e in
    let z : r.zeros ≡ length bytes - length (parts_text kind r.more) =
    omega (
      arith,
      ap length r.bytes_is,
      length-append (parts_text kind r.more) (replicate r.zeros 0),
      length-replicate {A = ℕ} r.zeros 0,
    ) in
    r.bytes_is
    ∙ ap (λ (k : ℕ). parts_text kind r.more ++ replicate k 0) z
    ∙ ap (λ (ps : List Part). parts_text kind ps ++ replicate (length bytes - length (parts_text kind ps)) 0)
    (sym r.all_is)
