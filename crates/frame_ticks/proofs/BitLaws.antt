-- Laws of the bits of numbers and frames.
use Rattle.std.proofs.Common.{◌≡◌, ℕ, zero, suc, ◌+◌, ◌-◌, ◌*◌, ◌<◌, ◌==◌, Bool, true, false, List, [], ◌∷◌, ◌++◌, length, take, get_or, refl, sym, ap, ◌∙◌, arith, append_assoc, length-append}
use Rattle.std.specs.Int.{bit_at}
use Rattle.std.proofs.lemmas.List.{take_at, drop_at, take_more, flat_map_more}
use Rattle.frame_ticks.specs.Bits.{number_bits, arbitration_bits, format_bits, length_bits, payload_bits, nominal_bits_of, data_bits_of, bits_of}
use Rattle.frame_ticks.specs.Ticks.{to_brs, after_brs, size_of_bits}
use Rattle.fd_length.specs.Size.{code_of_size}

-- no bits of a number
pub number_bits-zero : (value : ℕ) → number_bits 0 value ≡ []
unfolding number_bits
number_bits-zero value = refl

-- the most significant of some bits, and those below it
pub number_bits-suc : (count value : ℕ)
    → number_bits (suc count) value ≡ (bit_at value count == 1) ∷ number_bits count value
unfolding number_bits
number_bits-suc count value = refl

-- the same, counted down
pub number_bits-down : (count value : ℕ) → 0 < count
    → number_bits count value ≡ (bit_at value (count - 1) == 1) ∷ number_bits (count - 1) value
number_bits-down zero value some = absurd (omega arith)
number_bits-down (suc count) value some =
    let below : suc count - 1 ≡ count = omega arith in
    rw below (number_bits-suc count value)

-- there are as many bits as were asked for
pub length-number_bits : (count value : ℕ) → length (number_bits count value) ≡ count
length-number_bits zero value = ap length (number_bits-zero value)
length-number_bits (suc count) value = ap length (number_bits-suc count value)
    ∙ ap suc (length-number_bits count value)

-- the bits of one more byte
pub payload_bits-more : (payload : List ℕ) (index : ℕ) → index < length payload
    → payload_bits (take (index + 1) payload) ≡ payload_bits (take index payload)
    ++ number_bits 8 (get_or payload index 0)
payload_bits-more payload index within =
    ap payload_bits (take_more payload index 0 within)
    ∙ sym (flat_map_more (λ byte. number_bits 8 byte) [] (take index payload) (get_or payload index 0))

-- eight bits for each byte
pub length-payload_bits : (payload : List ℕ) → length (payload_bits payload) ≡ 8 * length payload
length-payload_bits [] = refl
length-payload_bits (byte ∷ payload) =
    length-append (number_bits 8 byte) (payload_bits payload)
    ∙ (let first = length-number_bits 8 byte in let rest = length-payload_bits payload in omega arith)

-- 14 bits up to IDE
pub length-arbitration_bits : (id : ℕ) → length (arbitration_bits id) ≡ 14
length-arbitration_bits id =
    let all = length-append (number_bits 11 id) (false ∷ false ∷ []) in
    let eleven = length-number_bits 11 id in
    omega arith

-- 17 up to BRS
pub length-nominal_bits_of : (id : ℕ) → length (nominal_bits_of id) ≡ 17
length-nominal_bits_of id =
    let all = length-append (arbitration_bits id) format_bits in
    let first = length-arbitration_bits id in
    omega arith

-- five more bits, and eight for each byte
pub length-data_bits_of : (esi : Bool) (payload : List ℕ)
    → length (data_bits_of esi payload) ≡ 5 + 8 * length payload
length-data_bits_of esi payload =
    let all = length-append (length_bits (length payload)) (payload_bits payload) in
    let four = length-number_bits 4 (code_of_size (length payload)) in
    let bytes = length-payload_bits payload in
    omega arith

-- 22 bits and eight for each byte
pub length-bits_of : (id : ℕ) (esi : Bool) (payload : List ℕ)
    → length (bits_of id esi payload) ≡ 22 + 8 * length payload
length-bits_of id esi payload =
    let all = length-append (nominal_bits_of id) (data_bits_of esi payload) in
    let first = length-nominal_bits_of id in
    let second = length-data_bits_of esi payload in
    omega arith

-- the number of bits tells the number of bytes
pub size_of_bits-bits_of : (id : ℕ) (esi : Bool) (payload : List ℕ)
    → size_of_bits (bits_of id esi payload) ≡ length payload
size_of_bits-bits_of id esi payload =
    let all = length-bits_of id esi payload in omega arith

-- the bits up to BRS are the first ones
pub to_brs-bits_of : (id : ℕ) (esi : Bool) (payload : List ℕ)
    → to_brs (bits_of id esi payload) ≡ nominal_bits_of id
to_brs-bits_of id esi payload =
    take_at (nominal_bits_of id) (data_bits_of esi payload) 17 (length-nominal_bits_of id)

-- and the others are those after it
pub after_brs-bits_of : (id : ℕ) (esi : Bool) (payload : List ℕ)
    → after_brs (bits_of id esi payload) ≡ data_bits_of esi payload
after_brs-bits_of id esi payload =
    drop_at (nominal_bits_of id) (data_bits_of esi payload) 17 (length-nominal_bits_of id)

-- the bits up to BRS as they are written: SOF, the identifier, and five fixed ones
pub nominal_bits_of-written : (id : ℕ)
    → (false ∷ []) ++ number_bits 11 id ++ (false ∷ false ∷ true ∷ false ∷ true ∷ []) ≡ nominal_bits_of id
nominal_bits_of-written id =
    ap (λ bits. false ∷ bits) (sym (append_assoc (number_bits 11 id) (false ∷ false ∷ []) format_bits))
