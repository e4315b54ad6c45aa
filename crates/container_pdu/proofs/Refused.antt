-- Bytes are refused exactly where they are no container, and so.
use Rattle.std.proofs.Common.{◌≡◌, ◌≢◌, ℕ, zero, suc, ◌+◌, ◌-◌, ◌≤◌, ◌⊎◌, inl, inr, Bool, true, false, cond, nat_eq, nat_lt, List, [], ◌∷◌, ◌++◌, length, take, drop, Result, Ok, Err, refl, sym, ap, subst, ◌∙◌, append_assoc, arith}
use Rattle.std.specs.Prelude.{IfErr}
use Rattle.std.specs.Global.{Vec}
use Rattle.std.proofs.lemmas.Bool.{ltb-true, ltb-false, lt-ltb, le-ltb, eqb-true, eq-eqb}
use Rattle.std.proofs.lemmas.List.{append-nil, drop_at, take-append-drop, length-append}
use Rattle.std.proofs.lemmas.List.Folds.{Any-from_list_any, list_any-from_Any}
use Rattle.container_pdu.specs.declared.header.Header.{Header}
use Rattle.container_pdu.specs.declared.header.Header.TheVariants.{NoHeader}
use Rattle.container_pdu.specs.declared.part.Part.{Part}
use Rattle.container_pdu.specs.declared.fault.ContainerFault.{ContainerFault}
use Rattle.container_pdu.specs.declared.fault.ContainerFault.TheVariants as fault
use Rattle.pack_model.specs.Gives.{Gives}
use Rattle.container_pdu.specs.Bytes.{header_bytes, header_text, part_text, parts_text}
use Rattle.container_pdu.specs.Reading.{◌>>=◌, after_header, has_id, id_in, is_zeros, length_in, part_at, parts_after, parts_of, told}
use Rattle.container_pdu.specs.Refusals.{IsUnder, IsWrong, Refuses, cut_header, zero_id, cut_body, twice_id}
use Rattle.container_pdu.proofs.Headers.{IsBytes, header_len, header_taken, id_again, length_again, two}
use Rattle.container_pdu.proofs.Taken.{part_taken}
use Rattle.container_pdu.proofs.Again.{count_le, no_zero, parts_passed}
use Rattle.container_pdu.proofs.Standing.{Stand, id_below, length_below, nothing_stands, part_stands, some_number, stand_more}

-- ---- what is wrong is refused

-- bytes under a header have its id and its length, and are as long
record Reads (kind : Header) (id count : ℕ) (body bytes : List ℕ) : Type 0 where
  pub long : nat_lt (length bytes) (header_bytes kind) ≡ false
  pub says_id : id_in kind bytes ≡ id
  pub says_count : length_in kind bytes ≡ count
  pub after : after_header kind bytes ≡ body

reads : (kind : Header) (id count : ℕ) (body bytes : List ℕ) → IsUnder kind id count body bytes
    → Reads kind id count body bytes
reads kind id count body bytes under =
    let len = header_len kind id count in
    rw under.spelled (record {
      long = le-ltb _ _ (omega (arith, length-append (header_text kind id count) body));
      says_id = id_again kind id count body under.id_fits;
      says_count = length_again kind id count body under.count_fits;
      after = drop_at (header_text kind id count) body (header_bytes kind) len;
    })

-- the part at the front of wrong bytes is refused so
part_wrong : (kind : Header) (at : ℕ) (parts : List Part) (bytes : List ℕ) (why : ContainerFault)
    → at ≡ length (parts_text kind parts) → IsWrong kind parts bytes why
    → part_at kind at parts bytes ≡ Err why
part_wrong kind at parts bytes why place (cut_header here short) =
    rw (lt-ltb _ _ short) (ap (λ (n : ℕ). Err (fault.CutHeader n)) (place ∙ sym here))
part_wrong kind at parts bytes why place (zero_id {body = body} {count = count} here under) =
    let r = reads kind 0 count body bytes under in
    rw (r.long, r.says_id) (ap (λ (n : ℕ). Err (fault.ZeroId n)) (place ∙ sym here))
part_wrong kind at parts bytes why place
    (cut_body {body = body} {id = id} {count = count} here under some short) =
    let r = reads kind id count body bytes under in
    rw (r.long, r.says_id, no_zero id some, r.says_count, r.after, lt-ltb _ _ short)
    (ap (λ (n : ℕ). Err (fault.CutBody n)) (place ∙ sym here))
part_wrong kind at parts bytes why place
    (twice_id {body = body} {id = id} {count = count} under some long twice) =
    let r = reads kind id count body bytes under in
    let has : has_id id parts ≡ true =
    list_any-from_Any (λ (part : Part). nat_eq part.id id) parts
    (twice.0, twice.1, twice.2, twice.3, eq-eqb _ _ twice.4) in
    rw (r.long, r.says_id, no_zero id some, r.says_count, r.after, le-ltb _ _ long, has) refl

-- bytes that are not all zero are some
some_left : (bytes : List ℕ) → is_zeros bytes ≡ false → 1 ≤ length bytes
some_left [] e = absurd cc
some_left (byte ∷ bytes) e = omega arith

-- bytes that are wrong so are refused so
pub refused_again : (kind : Header) (bytes : List ℕ) (why : ContainerFault) → Refuses kind bytes why
    → parts_of kind bytes ≡ Err why
refused_again kind bytes why is =
    let size = length-append (parts_text kind is.parts) is.rest in
    let all = ap length is.spelled in
    let some = some_left is.rest is.left in
    let few = count_le kind is.parts is.fits.under_headers in
    let k : length bytes - length is.parts ≡ suc (length bytes - length is.parts - 1) =
    omega (arith, size, all, some, few) in
    let place : length bytes - length is.rest ≡ length (parts_text kind is.parts) =
    omega (arith, size, all) in
    let last : parts_after kind (length bytes) (length bytes - length is.parts) is.parts is.rest ≡ Err why =
    rw (k, is.left, part_wrong kind (length bytes - length is.rest) is.parts is.rest why place is.wrong)
    refl in
    ap (parts_after kind (length bytes) (length bytes) []) is.spelled
    ∙ parts_passed kind (length bytes) (length bytes) [] is.parts is.rest
    (λ k d lt. record {
      some_id = is.fits.some_id k d lt;
      id = is.fits.ids k d lt;
      count = is.fits.lengths k d lt;
    })
    is.fits.distinct (omega (arith, size, all, few))
    ∙ last

-- ---- what is refused is wrong

abbrev failed : {A : Type 0} → ContainerFault → Result A ContainerFault
failed why = Err why

-- one fault is one
err_is : {A : Type 0} (x y : ContainerFault) → failed {A = A} x ≡ failed y → x ≡ y
err_is x y e = cc

-- a guard refuses by its fault, or passes
guard_err : {A : Type 0} (b : Bool) (d : ContainerFault) (r : Result A ContainerFault) (why : ContainerFault)
    → cond b (Err d) r ≡ Err why → ((b ≡ true) × (d ≡ why)) ⊎ ((b ≡ false) × (r ≡ Err why))
guard_err {A = A} true d r why e = inl (refl, err_is {A = A} d why e)
guard_err false d r why e = inr (refl, e)

-- a step fails at once, or the next one does
bind_err : {A B : Type 0} (r : Result A ContainerFault) (f : A → Result B ContainerFault)
    (why : ContainerFault) → (r >>= f) ≡ Err why → (r ≡ Err why) ⊎ ((x : A) × (r ≡ Ok x) × (f x ≡ Err why))
bind_err (Ok x) f why e = inr (x, refl, e)
bind_err {A = A} {B = B} (Err d) f why e =
    inl (ap (λ (x : ContainerFault). failed {A = A} x) (err_is {A = B} d why e))

-- bytes as long as a header are its id, its length and others
under : (kind : Header) (bytes : List ℕ) → kind ≢ NoHeader → IsBytes bytes → header_bytes kind ≤ length bytes
    → IsUnder kind (id_in kind bytes) (length_in kind bytes) (after_header kind bytes) bytes
under kind bytes some fits long = record {
  id_fits = id_below kind bytes fits some;
  count_fits = length_below kind bytes fits some;
  spelled = sym (take-append-drop (header_bytes kind) bytes)
      ∙ ap (λ (t : List ℕ). t ++ drop (header_bytes kind) bytes) (sym (header_taken kind bytes fits long));
}

-- a part that is refused is wrong so
part_refused : (kind : Header) (at : ℕ) (parts : List Part) (bytes : List ℕ) (why : ContainerFault)
    → kind ≢ NoHeader → IsBytes bytes → at ≡ length (parts_text kind parts)
    → part_at kind at parts bytes ≡ Err why → IsWrong kind parts bytes why
part_refused kind at parts bytes why some fits place e =
    let made : Part × List ℕ = (
      record {
        id = id_in kind bytes;
        bytes = take (length_in kind bytes) (drop (header_bytes kind) bytes);
      },
      drop (length_in kind bytes) (drop (header_bytes kind) bytes),
    ) in
    elim (guard_err (nat_lt (length bytes) (header_bytes kind)) (fault.CutHeader at) _ why e) [
      | inl g ↦ subst (IsWrong kind parts bytes) g.1 (cut_header place (ltb-true _ _ g.0))
      | inr g ↦
          let head = under kind bytes some fits (ltb-false _ _ g.0) in
          elim (guard_err (nat_eq (id_in kind bytes) 0) (fault.ZeroId at) _ why g.1) [
            | inl h ↦ subst (IsWrong kind parts bytes) h.1
                (zero_id place (subst (λ (n : ℕ). IsUnder kind n (length_in kind bytes)
                (after_header kind bytes) bytes) (eqb-true _ 0 h.0) head))
            | inr h ↦ elim (guard_err (nat_lt (length (after_header kind bytes)) (length_in kind bytes))
                (fault.CutBody at) _ why h.1) [
                  | inl k ↦ subst (IsWrong kind parts bytes) k.1
                      (cut_body place head (some_number _ h.0) (ltb-true _ _ k.0))
                  | inr k ↦ elim (guard_err (has_id (id_in kind bytes) parts) (fault.TwiceId (id_in kind bytes))
                      (Ok made) why k.1) [
                        | inl m ↦
                            let twice =
                            Any-from_list_any (λ (part : Part). nat_eq part.id (id_in kind bytes)) parts m.0 in
                            subst (IsWrong kind parts bytes) m.1
                            (twice_id head (some_number _ h.0) (ltb-false _ _ k.0)
                            (twice.0, twice.1, twice.2, twice.3, eqb-true _ _ twice.4))
                        | inr m ↦ let wrong : Ok made ≡ failed why = m.1 in absurd cc
                      ]
                ]
          ]
    ]

-- further parts that stand, behind which the bytes are wrong so
record IsWrongAfter (kind : Header) (earlier : List Part) (bytes : List ℕ)
    (why : ContainerFault) : Type 0 where
  pub more : List Part
  pub rest : List ℕ
  pub stand : Stand kind (earlier ++ more)
  pub spelled : bytes ≡ parts_text kind more ++ rest
  pub left : is_zeros rest ≡ false
  pub wrong : IsWrong kind (earlier ++ more) rest why

-- the bytes of one part more
length-parts_text_more : (kind : Header) (parts : List Part) (part : Part)
    → length (parts_text kind (parts ++ part ∷ []))
    ≡ length (parts_text kind parts) + length (part_text kind part)
length-parts_text_more kind [] part = omega (arith, length-append (part_text kind part) [])
length-parts_text_more kind (first ∷ parts) part =
    omega (
      arith,
      length-parts_text_more kind parts part,
      length-append (part_text kind first) (parts_text kind (parts ++ part ∷ [])),
      length-append (part_text kind first) (parts_text kind parts),
    )

-- what is refused from some bytes on is wrong there or further on
wrong_after : (kind : Header) (total steps : ℕ) (earlier : List Part) (bytes : List ℕ) (why : ContainerFault)
    → kind ≢ NoHeader → Stand kind earlier → total ≡ length (parts_text kind earlier) + length bytes
    → IsBytes bytes → parts_after kind total steps earlier bytes ≡ Err why
    → IsWrongAfter kind earlier bytes why
wrong_after kind total zero earlier bytes why some stand sum fits e = absurd cc
wrong_after kind total (suc steps) earlier bytes why some stand sum fits e =
    elim (two (is_zeros bytes)) [
      | inl ended ↦ let wrong : Ok earlier ≡ failed why = rw ended at e in absurd cc
      | inr left ↦ elim (bind_err (part_at kind (total - length bytes) earlier bytes)
          (λ x. parts_after kind total steps (earlier ++ x.0 ∷ []) x.1) why (rw left at e)) [
            | inl here ↦ record {
              more = [];
              rest = bytes;
              stand = rw (append-nil earlier) stand;
              spelled = refl;
              left = left;
              wrong =
                  rw (append-nil earlier) (part_refused kind (total - length bytes) earlier bytes why some fits
                  (omega (arith, sum)) here);
            }
            | inr b ↦
                let t = part_taken kind (total - length bytes) earlier bytes b.0 fits b.1 in
                let next = part_stands kind (total - length bytes) earlier bytes b.0 fits b.1 in
                let place : total ≡ length (parts_text kind (earlier ++ b.0.0 ∷ [])) + length b.0.1 =
                omega (
                  arith,
                  sum,
                  length-parts_text_more kind earlier b.0.0,
                  ap length t.parts,
                  length-append (part_text kind b.0.0) b.0.1,
                ) in
                let r =
                wrong_after kind total steps (earlier ++ b.0.0 ∷ []) b.0.1 why some
                (stand_more kind earlier b.0.0 stand next) place t.fits b.2 in
                let grouped : (earlier ++ b.0.0 ∷ []) ++ r.more ≡ earlier ++ b.0.0 ∷ r.more =
                append_assoc earlier (b.0.0 ∷ []) r.more in record {
                  more = b.0.0 ∷ r.more;
                  rest = r.rest;
                  stand = subst (Stand kind) grouped r.stand;
                  spelled = t.parts ∙ ap (λ (t : List ℕ). part_text kind b.0.0 ++ t) r.spelled
                      ∙ sym (append_assoc (part_text kind b.0.0) (parts_text kind r.more) r.rest);
                  left = r.left;
                  wrong = subst (λ ps. IsWrong kind ps r.rest why) grouped r.wrong;
                }
          ]
    ]

-- bytes that are refused so are wrong so
refused_found : (kind : Header) (bytes : List ℕ) (why : ContainerFault) → kind ≢ NoHeader → IsBytes bytes
    → parts_of kind bytes ≡ Err why → Refuses kind bytes why
refused_found kind bytes why some fits e =
    let r =
    wrong_after kind (length bytes) (length bytes) [] bytes why some (nothing_stands kind)
    (omega arith) fits e in record {
      parts = r.more;
      rest = r.rest;
      fits = record {
        under_headers = some;
        some_id = λ k d lt. (r.stand.each k d lt).some_id;
        ids = λ k d lt. (r.stand.each k d lt).id;
        lengths = λ k d lt. (r.stand.each k d lt).count;
        distinct = r.stand.distinct;
        room = omega (arith, ap length r.spelled, length-append (parts_text kind r.more) r.rest);
      };
      spelled = r.spelled;
      left = r.left;
      wrong = r.wrong;
    }

-- a fault that is answered is want of memory, or how the bytes are wrong
pub is_refused : (kind : Header) (bytes : List ℕ) (r : Result (Vec Part) ContainerFault) → kind ≢ NoHeader
    → IsBytes bytes → Gives (λ v. v.items) told r (parts_of kind bytes)
    → IfErr r (λ e. (e ≡ fault.Memory) ⊎ Refuses kind bytes e)
is_refused kind bytes (Ok v) some fits given = tt
is_refused kind bytes (Err fault.Memory) some fits given = inl refl
is_refused kind bytes (Err (fault.CutHeader at)) some fits given =
    inr (refused_found kind bytes (fault.CutHeader at) some fits given)
is_refused kind bytes (Err (fault.ZeroId at)) some fits given =
    inr (refused_found kind bytes (fault.ZeroId at) some fits given)
is_refused kind bytes (Err (fault.CutBody at)) some fits given =
    inr (refused_found kind bytes (fault.CutBody at) some fits given)
is_refused kind bytes (Err (fault.TwiceId id)) some fits given =
    inr (refused_found kind bytes (fault.TwiceId id) some fits given)
