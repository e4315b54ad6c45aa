-- The laws of the text of a network: what is read stands.
use Rattle.std.proofs.Common.{◌≡◌, ◌==◌, ◌&&◌, ◌∷◌, ℕ, Bool, true, false, cond, List, [], take, drop, inl, inr, Option, Some, None, Result, Ok, Err, refl, sym, subst, codes, nat_le, option_and_then}
use Rattle.std.specs.Prelude.{IfOk, IfSome}
use Rattle.std.proofs.lemmas.Bool.{and_parts, cases_Bool, eqb-true, leb-true}
use Rattle.std.specs.Prelude.{IsUtf8}
use Rattle.std.specs.Str.{is_utf8}
use Rattle.std.proofs.lemmas.Str.{IsUtf8-from_is_utf8, is_utf8-from_IsUtf8}
use Rattle.csv.specs.Reading.{strip_bom}
use Rattle.serde_json.specs.Read.{read}
use Rattle.serde_json.specs.Data.{Data}
use Rattle.serde_json.specs.Find.{as_number, as_object, as_u64, get}
use Rattle.pack_model.specs.Network.{NetworkStands}
use Rattle.pack_model.specs.declared.network.Network.{Network}
use Rattle.csv_table.specs.Columns.{◌>>=◌, or_error}
use Rattle.pack_model.specs.Gives.{Gives}
use Rattle.csv_table.proofs.Ranges.{Within}
use Rattle.input_text.specs.declared.network.NetworkFault.{NetworkFault}
use Rattle.input_text.specs.NetworkText.{NetworkRefusal, not_json, bad_member, in_range, member_in, network_in, network_of, network_refusal, none_further, value_in}

abbrev mark : List ℕ
mark = 239 ∷ 187 ∷ 191 ∷ []

-- a text that begins with the mark
pub strip_bom-marked : (xs : List ℕ) → mark ≡ take 3 xs → strip_bom xs ≡ drop 3 xs
unfolding strip_bom
strip_bom-marked [] e = absurd cc
strip_bom-marked (a ∷ []) e = absurd cc
strip_bom-marked (a ∷ b ∷ []) e = absurd cc
strip_bom-marked (a ∷ b ∷ c ∷ rest) e =
    let first : a ≡ 239 = cc in
    let second : b ≡ 187 = cc in
    let third : c ≡ 191 = cc in
    rw (first, second, third) refl

-- and one that doesn't
pub strip_bom-unmarked : (xs : List ℕ) → (mark ≡ take 3 xs → ⊥) → strip_bom xs ≡ xs
unfolding strip_bom
strip_bom-unmarked [] others = refl
strip_bom-unmarked (a ∷ []) others = refl
strip_bom-unmarked (a ∷ b ∷ []) others = refl
strip_bom-unmarked (a ∷ b ∷ c ∷ rest) others =
    elim (cases_Bool ((a == 239) && (b == 187) && (c == 191))) [
      | inl is_mark ↦
          let outer = and_parts _ _ is_mark in
          let inner = and_parts _ _ outer.0 in
          absurd (others (rw (eqb-true a 239 inner.0, eqb-true b 187 inner.1, eqb-true c 191 outer.1) refl))
      | inr other ↦ rw other refl
    ]

ranged : (low high : ℕ) (o : Option ℕ) → IfSome (in_range low high o) (Within low high)
ranged low high None = tt
ranged low high (Some n) = by (nat_le low n && nat_le n high) refl
  where
    by : (b : Bool) → (nat_le low n && nat_le n high) ≡ b → IfSome (cond b (Some n) None) (Within low high)
    by true e =
        let p = and_parts _ _ e in
        record { above = leb-true _ _ p.0; below = leb-true _ _ p.1 }
    by false e = tt

found : (low high k : ℕ) (o : Option ℕ) → IfSome o (Within low high)
    → IfOk (or_error (bad_member k) o) (Within low high)
found low high k None h = tt
found low high k (Some n) h = h

member_within : (low high k : ℕ) (name : List ℕ) (value : Data)
    → IfOk (member_in low high k name value) (Within low high)
member_within low high k name value =
    found low high k _ (ranged low high (option_and_then as_u64 (option_and_then as_number (get name value))))

-- the members together
members_stand : {A : Type 0} (object : Result A NetworkRefusal)
    (version ticks nominal : Result ℕ NetworkRefusal) (bit : ℕ → Result ℕ NetworkRefusal)
    (first : Result ℕ NetworkRefusal) (count : A → Result ℕ NetworkRefusal)
    → IfOk ticks (Within 1 1000) → IfOk nominal (Within 1 10000) → ((n : ℕ) → IfOk (bit n) (Within 1 n))
    → IfOk first (Within 0 1920)
    → IfOk (object >>= λ o. version >>= λ v. ticks >>= λ t. nominal >>= λ n. bit
    n >>= λ d. first >>= λ f. count o >>= λ c.
    Ok (record { ticks_per_us = t; nominal_ticks = n; data_ticks = d; first_id = f })) NetworkStands
members_stand (Err e) version ticks nominal bit first count ht hn hd hf = tt
members_stand (Ok o) (Err e) ticks nominal bit first count ht hn hd hf = tt
members_stand (Ok o) (Ok v) (Err e) nominal bit first count ht hn hd hf = tt
members_stand (Ok o) (Ok v) (Ok t) (Err e) bit first count ht hn hd hf = tt
members_stand (Ok o) (Ok v) (Ok t) (Ok n) bit first count ht hn hd hf = by (bit n) first (count o) (hd n) hf
  where
    by : (d f c : Result ℕ NetworkRefusal) → IfOk d (Within 1 n) → IfOk f (Within 0 1920)
        → IfOk (d >>= λ d. f >>= λ f. c >>= λ c. Ok
        (record { ticks_per_us = t; nominal_ticks = n; data_ticks = d; first_id = f })) NetworkStands
    by (Err e) f c hd hf = tt
    by (Ok d) (Err e) c hd hf = tt
    by (Ok d) (Ok f) (Err e) hd hf = tt
    by (Ok d) (Ok f) (Ok c) hd hf = record {
      ticks_low = ht.above;
      ticks_high = ht.below;
      nominal_low = hn.above;
      nominal_high = hn.below;
      data_low = hd.above;
      data_high = hd.below;
      first_id_high = hf.below;
    }

network_stands : (value : Data) → IfOk (network_in value) NetworkStands
network_stands value =
    members_stand (or_error (bad_member 0) (as_object value)) (member_in 1 1 1 (codes "version") value)
    (member_in 1 1000 2 (codes "ticks_per_us") value) (member_in 1 10000 3 (codes "nominal_ticks") value)
    (λ nominal. member_in 1 nominal 4 (codes "data_ticks") value)
    (member_in 0 1920 5 (codes "first_id") value) (none_further 5)
    (member_within 1 1000 2 (codes "ticks_per_us") value)
    (member_within 1 10000 3 (codes "nominal_ticks") value)
    (λ nominal. member_within 1 nominal 4 (codes "data_ticks") value)
    (member_within 0 1920 5 (codes "first_id") value)

text_stands : (o : Option Data) → IfOk (or_error not_json o >>= network_in) NetworkStands
text_stands None = tt
text_stands (Some value) = network_stands value

-- what a reader that is exact returned stands
pub read_stands : (text : List ℕ) (r : Result Network NetworkFault)
    → Gives (λ x. x) network_refusal r (network_of text) → IfOk r NetworkStands
read_stands text (Err e) h = tt
read_stands text (Ok n) h = by (network_of text) h (text_stands (value_in text))
  where
    by : (r : Result Network NetworkRefusal) → r ≡ Ok n → IfOk r NetworkStands → NetworkStands n
    by (Ok m) e s =
        let same : m ≡ n = cc in
        rw (← same) s
    by (Err f) e s = absurd cc

-- ---- what `serde_json` reads

-- a value that was read
pub value_read : (text stripped : List ℕ) (value : Data) → stripped ≡ strip_bom text → IsUtf8 stripped
    → read stripped ≡ Some value → or_error not_json (value_in text) ≡ Ok value
value_read text stripped value e utf8 found =
    let is : is_utf8 (strip_bom text) ≡ true = is_utf8-from_IsUtf8 (strip_bom text) (subst IsUtf8 e utf8) in
    let value-is : read (strip_bom text) ≡ Some value = rw e at found in
    rw (is, value-is) refl

-- a text that has none
pub value_refused : (text stripped : List ℕ) → stripped ≡ strip_bom text
    → (IsUtf8 stripped → read stripped ≡ None) → or_error not_json (value_in text) ≡ Err not_json
value_refused text stripped e none =
    elim (cases_Bool (is_utf8 (strip_bom text))) [
      | inl is ↦
          let utf8 : IsUtf8 stripped = subst IsUtf8 (sym e) (IsUtf8-from_is_utf8 (strip_bom text) is) in
          let value-is : read (strip_bom text) ≡ None = rw e at (none utf8) in
          rw (is, value-is) refl
      | inr other ↦ rw other refl
    ]
