-- The parts that are read have ids and lengths of their headers, and no id twice.
use Rattle.std.proofs.Common.{◌≡◌, ◌≢◌, ℕ, zero, suc, ◌-◌, ◌<◌, ◌≤◌, inl, inr, true, false, nat_eq, nat_lt, List, [], ◌∷◌, ◌++◌, length, get_or, take, drop, replicate, Result, Ok, Err, refl, sym, ap, subst, ◌∙◌, arith}
use Rattle.std.specs.Prelude.{All, AllPairs, IfOk}
use Rattle.std.specs.Global.{Vec}
use Rattle.std.proofs.lemmas.Bool.{ltb-false, eq-eqb}
use Rattle.std.proofs.lemmas.List.{length-take-le, length-append}
use Rattle.std.proofs.lemmas.List.Folds.{list_any_at}
use Rattle.std.proofs.lemmas.List.Elements.{All-push}
use Rattle.std.proofs.lemmas.List.Quantifiers.{all_pairs_push}
use Rattle.container_pdu.specs.declared.header.Header.{Header}
use Rattle.container_pdu.specs.declared.header.Header.TheVariants.{NoHeader, Short, Long}
use Rattle.container_pdu.specs.declared.part.Part.{Part}
use Rattle.container_pdu.specs.declared.fault.ContainerFault.{ContainerFault}
use Rattle.container_pdu.specs.declared.fault.ContainerFault.TheVariants as fault
use Rattle.pack_model.specs.Gives.{Gives}
use Rattle.container_pdu.specs.Bytes.{IsContainer, header_bytes, id_limit, length_limit, parts_text}
use Rattle.container_pdu.specs.Reading.{told, after_header, has_id, id_in, is_zeros, length_in, part_at, parts_after, parts_of}
use Rattle.container_pdu.proofs.Headers.{IsBytes, IsBytes-drop, IsBytes-take, two}
use Rattle.container_pdu.proofs.Taken.{bind_ok, guard_ok, ok_is, part_taken, all_taken}
use Rattle.container_pdu.proofs.Again.{IsPart}

-- an id in a header is below its limit
pub id_below : (kind : Header) (bytes : List ℕ) → IsBytes bytes → kind ≢ NoHeader
    → id_in kind bytes < id_limit kind
id_below NoHeader bytes fits e = absurd (e refl)
id_below Short bytes fits e =
    let f = IsBytes-take 3 bytes fits in
    omega (arith, f 0, f 1, f 2)
id_below Long bytes fits e =
    let f = IsBytes-take 4 bytes fits in
    omega (arith, f 0, f 1, f 2, f 3)

-- a length in a header is below its limit
pub length_below : (kind : Header) (bytes : List ℕ) → IsBytes bytes → kind ≢ NoHeader
    → length_in kind bytes < length_limit kind
length_below NoHeader bytes fits e = absurd (e refl)
length_below Short bytes fits e = fits 3
length_below Long bytes fits e =
    let f = IsBytes-take 4 (drop 4 bytes) (IsBytes-drop 4 bytes fits) in
    omega (arith, f 0, f 1, f 2, f 3)

-- an id that isn't 0 stands in a header
some_header : (kind : Header) (bytes : List ℕ) → nat_eq (id_in kind bytes) 0 ≡ false → kind ≢ NoHeader
some_header kind bytes e is = let none : nat_eq (id_in kind bytes) 0 ≡ true = rw is refl in
    let wrong : true ≡ false = sym none ∙ e in absurd cc

-- a number that isn't 0 is at least 1
pub some_number : (n : ℕ) → nat_eq n 0 ≡ false → 1 ≤ n
some_number zero e = absurd cc
some_number (suc n) e = omega arith

-- a part that is read, beside the earlier ones
pub record IsNext (kind : Header) (earlier : List Part) (part : Part) : Type 0 where
  pub is : IsPart kind part
  pub fresh : has_id part.id earlier ≡ false

-- a part that is read stands beside the earlier ones
pub part_stands : (kind : Header) (at : ℕ) (earlier : List Part) (bytes : List ℕ) (x : Part × List ℕ)
    → IsBytes bytes → part_at kind at earlier bytes ≡ Ok x → IsNext kind earlier x.0
part_stands kind at earlier bytes x fits e =
    let made : Part × List ℕ = (
      record {
        id = id_in kind bytes;
        bytes = take (length_in kind bytes) (drop (header_bytes kind) bytes);
      },
      drop (length_in kind bytes) (drop (header_bytes kind) bytes),
    ) in
    let g0 = guard_ok (nat_lt (length bytes) (header_bytes kind)) (fault.CutHeader at) _ x e in
    let g1 = guard_ok (nat_eq (id_in kind bytes) 0) (fault.ZeroId at) _ x g0.1 in
    let g2 =
    guard_ok (nat_lt (length (after_header kind bytes)) (length_in kind bytes))
    (fault.CutBody at) _ x g1.1 in
    let g3 =
    guard_ok (has_id (id_in kind bytes) earlier) (fault.TwiceId (id_in kind bytes)) (Ok made) x g2.1 in
    let body : length_in kind bytes ≤ length (drop (header_bytes kind) bytes) = ltb-false _ _ g2.0 in
    let len : length (take (length_in kind bytes) (drop (header_bytes kind) bytes)) ≡ length_in kind bytes =
    length-take-le _ _ body in
    subst (λ (y : Part × List ℕ). IsNext kind earlier y.0) (ok_is made x g3.1) (record {
      is = record {
        some_id = some_number (id_in kind bytes) g1.0;
        id = id_below kind bytes fits (some_header kind bytes g1.0);
        count =
            subst (λ (k : ℕ). k < length_limit kind) (sym len)
            (length_below kind bytes fits (some_header kind bytes g1.0));
      };
      fresh = g3.0;
    })

-- parts with ids and lengths of their headers, and no id twice
pub record Stand (kind : Header) (parts : List Part) : Type 0 where
  pub each : All (IsPart kind) parts
  pub distinct : AllPairs (λ p q. p.id ≢ q.id) parts

-- one part more
pub stand_more : (kind : Header) (earlier : List Part) (part : Part) → Stand kind earlier
    → IsNext kind earlier part → Stand kind (earlier ++ part ∷ [])
stand_more kind earlier part stand next = record {
  each = All-push (IsPart kind) earlier part stand.each next.is;
  distinct = all_pairs_push (λ (p : Part) (q : Part). p.id ≢ q.id) earlier part stand.distinct (λ k d lt e.
      let found : has_id part.id earlier ≡ true =
      list_any_at (λ (p : Part). nat_eq p.id part.id) earlier k d lt
      (eq-eqb (get_or earlier k d).id part.id e) in
      let wrong : true ≡ false = sym found ∙ next.fresh in
      absurd cc);
}

-- all parts that are read stand
parts_stand : (kind : Header) (total steps : ℕ) (earlier : List Part) (bytes : List ℕ) (all : List Part)
    → Stand kind earlier → IsBytes bytes → parts_after kind total steps earlier bytes ≡ Ok all
    → Stand kind all
parts_stand kind total zero earlier bytes all stand fits e = subst (Stand kind) (ok_is earlier all e) stand
parts_stand kind total (suc steps) earlier bytes all stand fits e =
    elim (two (is_zeros bytes)) [
      | inl ended ↦ subst (Stand kind) (ok_is earlier all (rw ended at e)) stand
      | inr left ↦
          let b =
          bind_ok (part_at kind (total - length bytes) earlier bytes)
          (λ x. parts_after kind total steps (earlier ++ x.0 ∷ []) x.1) all (rw left at e) in
          let t = part_taken kind (total - length bytes) earlier bytes b.0 fits b.1 in
          parts_stand kind total steps (earlier ++ b.0.0 ∷ []) b.0.1 all
          (stand_more kind earlier b.0.0 stand
          (part_stands kind (total - length bytes) earlier bytes b.0 fits b.1)) t.fits b.2
    ]

-- no parts
pub nothing_stands : (kind : Header) → Stand kind []
nothing_stands kind =
    record { each = λ k d lt. absurd (omega arith); distinct = λ i j d lt below. absurd (omega arith) }

-- parts that are read are those of a container
container_found : (kind : Header) (bytes : List ℕ) (all : List Part) → kind ≢ NoHeader → IsBytes bytes
    → parts_of kind bytes ≡ Ok all → IsContainer kind all bytes
container_found kind bytes all under fits e =
    let stand = parts_stand kind (length bytes) (length bytes) [] bytes all (nothing_stands kind) fits e in
    let spelled = all_taken kind bytes all fits e in record {
      fits = record {
        under_headers = under;
        some_id = λ k d lt. (stand.each k d lt).some_id;
        ids = λ k d lt. (stand.each k d lt).id;
        lengths = λ k d lt. (stand.each k d lt).count;
        distinct = stand.distinct;
        room =
            omega (
              arith,
              ap length spelled,
              length-append (parts_text kind all) (replicate (length bytes - length (parts_text kind all)) 0),
            );
      };
      spelled = spelled;
    }

-- what is answered is a container's parts
pub is_found : (kind : Header) (bytes : List ℕ) (r : Result (Vec Part) ContainerFault) → kind ≢ NoHeader
    → IsBytes bytes → Gives (λ v. v.items) told r (parts_of kind bytes)
    → IfOk r (λ v. IsContainer kind v.items bytes)
is_found kind bytes (Ok v) under fits given = container_found kind bytes v.items under fits given
is_found kind bytes (Err e) under fits given = tt
