-- A case grows signal by signal and sender by sender, and it stands.
use Rattle.std.proofs.Common.{◌≡◌, ℕ, ◌+◌, ◌*◌, ◌/◌, ◌<◌, ◌≤◌, zero, suc, List, [], ◌∷◌, ◌++◌, length, slice_index, map, All, refl, sym, ◌∙◌, ap, subst, arith, append_assoc, length-append}
use Rattle.std.specs.List.{range_with_len}
use Rattle.std.proofs.lemmas.List.Elements.{All-append}
use Rattle.std.proofs.lemmas.List.FromFn.{get_or-map-range_with_len, length-map-range_with_len, map-range_with_len_more}
use Rattle.std.proofs.Math.Nat.{mod-lt}
use Rattle.pack_model.specs.declared.signal.Signal.{Signal}
use Rattle.pack_model.specs.Network.{NetworkStands}
use Rattle.pack_model.specs.Signal.{SignalStands}
use Rattle.case_gen.specs.Draws.{next_state, state_after, drawn}
use Rattle.case_gen.specs.Generated.{Start, case_network, period_of, signal_of, count_of, signals_of, start_of, signals_of_senders}

-- two draws more
pub state_after_more : (state draws : ℕ) → state_after (state_after state (2 * draws)) 2 ≡ state_after state (2 * (draws + 1))
state_after_more state draws =
    let two : suc (suc (2 * draws)) ≡ 2 * (draws + 1) = omega arith in
    ap (state_after state) two

-- one signal more is one more step
pub signals_more : (f : ℕ → Signal) (old items items' : List Signal) (signal : Signal) (k : ℕ)
    → items ≡ old ++ map f (range_with_len 0 k) → signal ≡ f k → items' ≡ items ++ signal ∷ []
    → items' ≡ old ++ map f (range_with_len 0 (k + 1))
signals_more f old items items' signal k before is pushed =
    pushed
    ∙ ap (λ l. l ++ signal ∷ []) before
    ∙ append_assoc old (map f (range_with_len 0 k)) (signal ∷ [])
    ∙ ap (λ s. old ++ (map f (range_with_len 0 k) ++ s ∷ [])) is
    ∙ ap (λ l. old ++ l) (sym (map-range_with_len_more f 0 k k (omega arith)))

-- the case so far: the signals of the first senders, and where the next one begins
pub record IsMade (number place : ℕ) (items : List Signal) (state : ℕ) : Type 0 where
  pub signals : items ≡ signals_of_senders number place
  pub first : length items + 1 ≡ (start_of number place).first
  pub state_is : state ≡ (start_of number place).state
  pub few : length items ≤ 8 * place

-- a sender has at most 8 signals
count-le : (state : ℕ) → count_of state ≤ 8
count-le state = omega (arith, mod-lt (next_state state / 65536) {m = 5} (omega arith))

-- before the first sender there is none
pub none_made : (number : ℕ) → IsMade number 0 [] (next_state number)
none_made number = record { signals = refl; first = omega arith; state_is = refl; few = omega arith }

-- one sender more is one more step
pub made_more : (number place : ℕ) (items items' : List Signal) (state state' : ℕ) → IsMade number place items state
    → items' ≡ items ++ signals_of (place + 1) (length items + 1) state
    → state' ≡ state_after (next_state state) (2 * count_of state) → IsMade number (place + 1) items' state'
made_more number place items items' state state' it more after =
    let start : Start = start_of number place in
    let next : suc place ≡ place + 1 = omega arith in
    let Made : ℕ → Type 0 = λ n. IsMade number n items' state' in
    let added : length (signals_of (place + 1) (length items + 1) state) ≡ count_of state =
    length-map-range_with_len (λ k. signal_of (place + 1) (length items + 1 + k) (state_after (next_state state) (2 * k))) 0 (count_of state) in
    let longer : length items' ≡ length items + count_of state =
    ap length more ∙ length-append items (signals_of (place + 1) (length items + 1) state) ∙ ap (λ n. length items + n) added in
    subst Made next (record {
      signals =
          more
          ∙ ap (λ n. items ++ signals_of (place + 1) n state) it.first
          ∙ ap (λ s. items ++ signals_of (place + 1) start.first s) it.state_is
          ∙ ap (λ l. l ++ signals_of (place + 1) start.first start.state) it.signals;
      first = omega (arith, longer, it.first, ap count_of it.state_is);
      state_is = after ∙ ap (λ s. state_after (next_state s) (2 * count_of s)) it.state_is;
      few = omega (arith, longer, it.few, count-le state);
    })

-- the signals of the first senders are made
pub made : (number place : ℕ) → IsMade number place (signals_of_senders number place) (start_of number place).state
made number zero = none_made number
made number (suc place) =
    let start : Start = start_of number place in
    let before : IsMade number place (signals_of_senders number place) start.state = made number place in
    let next : place + 1 ≡ suc place = omega arith in
    let Made : ℕ → Type 0 = λ n. IsMade number n (signals_of_senders number (suc place)) (start_of number (suc place)).state in
    subst Made next (made_more number place (signals_of_senders number place) (signals_of_senders number (suc place)) start.state (start_of number (suc place)).state
    before (ap (λ n. signals_of_senders number place ++ signals_of (place + 1) n start.state) (sym before.first)) refl)

-- the network of each case stands
pub case_network_stands : NetworkStands case_network
case_network_stands = record {
  ticks_low = omega arith;
  ticks_high = omega arith;
  nominal_low = omega arith;
  nominal_high = omega arith;
  data_low = omega arith;
  data_high = omega arith;
  first_id_high = omega arith;
}

-- a period of the list is within the limits of a signal
period_within : (place : ℕ) → place < 4
    → (1 ≤ slice_index (10000 ∷ 20000 ∷ 50000 ∷ 100000 ∷ []) place)
    × (slice_index (10000 ∷ 20000 ∷ 50000 ∷ 100000 ∷ []) place ≤ 100000000)
period_within zero below = (omega arith, omega arith)
period_within (suc zero) below = (omega arith, omega arith)
period_within (suc (suc zero)) below = (omega arith, omega arith)
period_within (suc (suc (suc zero))) below = (omega arith, omega arith)
period_within (suc (suc (suc (suc place)))) below = absurd (omega (arith, below))

-- a drawn signal stands
signal_stands : (sender number state : ℕ) → SignalStands (signal_of sender number state)
signal_stands sender number state =
    let period : (1 ≤ period_of state) × (period_of state ≤ 100000000) =
    period_within (drawn 4 (next_state state)) (mod-lt (next_state (next_state state) / 65536) {m = 4} (omega arith)) in
    let bits : drawn 16 state < 16 = mod-lt (next_state state / 65536) {m = 16} (omega arith) in
    record {
      pdu_low = tt;
      bits_low = omega arith;
      bits_high = omega arith;
      period_low = period.0;
      period_high = period.1;
      deadline_low = period.0;
      deadline_high = period.1;
      jitter_high = omega arith;
    }

-- what holds of each drawn signal holds of each of a case
pub each_drawn : (P : Signal → Type 0) → ((sender number state : ℕ) → P (signal_of sender number state)) → (number senders : ℕ) → All P (signals_of_senders number senders)
each_drawn P each number zero = λ k d inside. absurd (omega (arith, inside))
each_drawn P each number (suc place) =
    let start : Start = start_of number place in
    let f : ℕ → Signal = λ k. signal_of (place + 1) (start.first + k) (state_after (next_state start.state) (2 * k)) in
    All-append P (signals_of_senders number place) (signals_of (place + 1) start.first start.state) (each_drawn P each number place)
    (λ k d inside.
    let within : k < count_of start.state = omega (arith, inside, length-map-range_with_len f 0 (count_of start.state)) in
    subst P (sym (get_or-map-range_with_len f 0 (count_of start.state) k k d within (omega arith)))
    (each (place + 1) (start.first + k) (state_after (next_state start.state) (2 * k))))

-- and so does each of a case
pub signals_stand : (number senders : ℕ) → All SignalStands (signals_of_senders number senders)
signals_stand number senders = each_drawn SignalStands signal_stands number senders
