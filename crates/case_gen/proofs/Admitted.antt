-- The signals of a case are a problem: no test refuses them.
use Rattle.std.proofs.Common.{◌≡◌, ℕ, ◌+◌, ◌*◌, ◌/◌, ◌%◌, ◌<◌, ◌≤◌, ◌^◌, ◌&&◌, zero, suc, Bool, false, cond, not, List, [], ◌∷◌, ◌++◌, length, get_or, map, find, codes, decimal, All, None, Some, Ok, Err, refl, sym, ◌∙◌, ap, subst, arith, slice_index, is_some, nat_lt, if◌then◌else◌}
use Rattle.std.specs.Prelude.{⊤}
use Rattle.std.specs.List.{range_with_len, list_any}
use Rattle.std.specs.Str.{bytes_eq}
use Rattle.std.proofs.Math.Nat.{mod-lt}
use Rattle.std.proofs.lemmas.Bool.{false_from_ne_true}
use Rattle.std.proofs.lemmas.Fmt.{decimal_injective}
use Rattle.std.proofs.lemmas.List.{append_cancel_left, length-map}
use Rattle.std.proofs.lemmas.List.Elements.{All-append, All-cons, All-head, All-map, All-nil, All-tail}
use Rattle.std.proofs.lemmas.List.Folds.{list_any_none}
use Rattle.std.proofs.lemmas.List.FromFn.{length-enumerate_from}
use Rattle.std.proofs.lemmas.Slice.Eq.{bytes_eq-Decides}
use Rattle.pack_model.specs.declared.signal.Signal.{Signal}
use Rattle.pack_model.specs.Problem.{first_clash, first_repeat, firsts_of, hyper_of, is_clash, is_too_large, item_of, items_in_order, names_of, Parts, Answers, periods_of, placed, problem_of, same_item, IsCommonPeriod}
use Rattle.pack_model.specs.declared.problem.ProblemFault.{ProblemFault}
use Rattle.pack_model.specs.declared.problem.ProblemFault.TheVariants.{NoSignals, TooManySignals, TwiceNamed, PduSenders, PduTooLarge, TooManyItems, PeriodsMixed, Memory}
use Rattle.pack_model.specs.Signal.{same_pdu}
use Rattle.case_gen.specs.declared.generate.Case.{Case}
use Rattle.pack_model.proofs.Classes.{All-distinct}
use Rattle.pack_model.proofs.Distinct.{length-distinct}
use Rattle.pack_model.proofs.Periods.{common_period_of}
use Rattle.pack_model.proofs.PlacedLaws.{IsPlaced, all_placed}
use Rattle.pack_model.proofs.ProblemSteps.{IsAdmitted, problem_stands}
use Rattle.pack_model.proofs.SameItem.{same_item_equivalence}
use Rattle.case_gen.specs.Draws.{drawn, next_state, state_after}
use Rattle.case_gen.specs.Generated.{Start, CaseStands, parts_of_case, case_network, case_of, count_of, senders_of, signal_of, signals_of, signals_of_senders, start_of}
use Rattle.case_gen.proofs.Cases.{IsMade, case_network_stands, each_drawn, made, signals_stand}

-- the name of the signal of a number
abbrev signal_name : ℕ → List ℕ
signal_name number = codes "S" ++ decimal number

-- the signals have the names of the numbers from this one on
abbrev Numbered : ℕ → List Signal → Type 0
Numbered first [] = ⊤
Numbered first (s ∷ ss) = (s.name ≡ signal_name first) × Numbered (first + 1) ss

-- and so do those that follow them
numbered-append : (first : ℕ) (xs ys : List Signal) → Numbered first xs → Numbered (first + length xs) ys
    → Numbered first (xs ++ ys)
numbered-append first [] ys before more =
    let same : first + 0 ≡ first = omega arith in subst (λ n. Numbered n ys) same more
numbered-append first (x ∷ xs) ys before more =
    let next : first + suc (length xs) ≡ first + 1 + length xs = omega arith in
    (before.0, numbered-append (first + 1) xs ys before.1 (subst (λ n. Numbered n ys) next more))

-- drawn signals in a row are numbered
numbered-map : (f : ℕ → Signal) (first j n : ℕ) → ((k : ℕ) → (f k).name ≡ signal_name (first + k))
    → Numbered (first + j) (map f (range_with_len j n))
numbered-map f first j zero each = tt
numbered-map f first j (suc n) each =
    let next : first + (j + 1) ≡ first + j + 1 = omega arith in (
      each j,
      subst (λ m. Numbered m (map f (range_with_len (j + 1) n))) next
          (numbered-map f first (j + 1) n each),
    )

-- the signals of a case are numbered from 1 on
numbered : (number senders : ℕ) → Numbered 1 (signals_of_senders number senders)
numbered number zero = tt
numbered number (suc place) =
    let start : Start = start_of number place in
    let before : IsMade number place (signals_of_senders number place) start.state = made number place in
    let f : ℕ → Signal =
    λ k. signal_of (place + 1) (start.first + k) (state_after (next_state start.state) (2 * k)) in
    let at : start.first + 0 ≡ 1 + length (signals_of_senders number place) = omega (arith, before.first) in
    numbered-append 1 (signals_of_senders number place) (signals_of (place + 1) start.first start.state)
    (numbered number place)
    (subst (λ n. Numbered n (signals_of (place + 1) start.first start.state)) at
    (numbered-map f start.first 0 (count_of start.state) (λ k. refl)))

-- the name is that of a number below this one
abbrev IsEarlier : ℕ → List ℕ → Type 0
IsEarlier first name = (k : ℕ) × (k < first) × (name ≡ signal_name k)

-- the names of two numbers differ
names_apart : (m n : ℕ) → m < n → n < 2 ^ 64 → bytes_eq (signal_name n) (signal_name m) ≡ false
names_apart m n below small = false_from_ne_true (bytes_eq (signal_name n) (signal_name m)) (λ same.
    let one : signal_name n ≡ signal_name m = (bytes_eq-Decides (signal_name n) (signal_name m)).0 same in
    let number : n ≡ m =
    decimal_injective n m small (omega arith)
    (append_cancel_left (codes "S") (decimal n) (decimal m) one) in
    omega arith)

-- numbered names have no repeat
no_repeat : (earlier : List (List ℕ)) (first : ℕ) (signals : List Signal) → first + length signals < 2 ^ 64
    → All (IsEarlier first) earlier → Numbered first signals → first_repeat earlier (names_of signals) ≡ None
no_repeat earlier first [] small all named = refl
no_repeat earlier first (s ∷ ss) small all named =
    let absent : list_any (bytes_eq s.name) earlier ≡ false =
    list_any_none (bytes_eq s.name) earlier (λ k d inside.
    let one : IsEarlier first (get_or earlier k d) = all k d inside in
    ap (λ n. bytes_eq n (get_or earlier k d)) named.0 ∙ ap (bytes_eq (signal_name first)) one.2
    ∙ names_apart one.0 first one.1 (omega arith)) in
    let before : All (IsEarlier (first + 1)) earlier = λ k d inside.
    let one : IsEarlier first (get_or earlier k d) = all k d inside in (one.0, omega (arith, one.1), one.2) in
    let here : IsEarlier (first + 1) s.name = (first, omega arith, named.0) in
    ap (λ b. if b then Some (length earlier) else first_repeat (earlier ++ s.name ∷ []) (names_of ss)) absent
    ∙ no_repeat (earlier ++ s.name ∷ []) (first + 1) ss (omega arith)
    (All-append (IsEarlier (first + 1)) earlier (s.name ∷ []) before
    (All-cons (IsEarlier (first + 1)) s.name [] here (All-nil (IsEarlier (first + 1))))) named.1

-- the signal is free
abbrev IsFree : Signal → Type 0
IsFree s = s.pdu ≡ None

-- free signals don't clash
no_clash : (earlier signals : List Signal) → All IsFree signals → first_clash earlier signals ≡ None
no_clash earlier [] free = refl
no_clash earlier (s ∷ ss) free =
    let absent : list_any (is_clash s) earlier ≡ false =
    list_any_none (is_clash s) earlier (λ k d inside.
    ap (λ o. same_pdu o (get_or earlier k d).pdu && not (bytes_eq s.sender (get_or earlier k d).sender))
    (All-head IsFree s ss free)) in
    ap (λ b. if b then Some (length earlier) else first_clash (earlier ++ s ∷ []) ss) absent
    ∙ no_clash (earlier ++ s ∷ []) ss (All-tail IsFree s ss free)

-- where each fails the test none is found
find_none : {X : Type 0} (p : X → Bool) (xs : List X) → All (λ x. p x ≡ false) xs → find p xs ≡ None
find_none p [] none = refl
find_none p (x ∷ xs) none =
    ap (λ b. cond b (Some x) (find p xs)) (All-head (λ x. p x ≡ false) x xs none)
    ∙ find_none p xs (All-tail (λ x. p x ≡ false) x xs none)

-- no item of free signals is an I-PDU that is too large
no_large : (signals : List Signal) → All IsFree signals → find is_too_large (items_in_order signals) ≡ None
no_large signals free =
    let each : All (λ (e : ℕ × Signal). e.1.pdu ≡ None) (placed signals) = λ k d inside.
    let one : IsPlaced signals (get_or (placed signals) k d) = all_placed signals k d inside in
    subst IsFree (sym one.at)
    (free (get_or (placed signals) k d).0 (get_or (placed signals) k d).1 one.within) in
    find_none is_too_large (items_in_order signals)
    (All-map (λ item. is_too_large item ≡ false) (item_of signals) (firsts_of signals)
    (λ k d inside.
    ap (λ o. is_some o && nat_lt 512 (item_of signals (get_or (firsts_of signals) k d)).bits)
    (All-distinct same_item (λ (e : ℕ × Signal). e.1.pdu ≡ None) (placed signals) each k d inside)))

-- there are no more items than signals
few_items : (signals : List Signal) → length (items_in_order signals) ≤ length signals
few_items signals =
    let items : length (items_in_order signals) ≡ length (firsts_of signals) =
    length-map (firsts_of signals) (item_of signals) in
    let firsts : length (firsts_of signals) ≤ length (placed signals) =
    length-distinct same_item same_item_equivalence (placed signals) in
    let all : length (placed signals) ≡ length signals = length-enumerate_from 0 signals in
    omega arith

-- each period of the list divides 8000000 ticks
period_divides : (place : ℕ) → place < 4
    → 8000000 % (80 * slice_index (10000 ∷ 20000 ∷ 50000 ∷ 100000 ∷ []) place) ≡ 0
period_divides zero below = refl
period_divides (suc zero) below = refl
period_divides (suc (suc zero)) below = refl
period_divides (suc (suc (suc zero))) below = refl
period_divides (suc (suc (suc (suc place)))) below = absurd (omega (arith, below))

-- a case has 1 to 32 signals
pub some_signals : (number senders : ℕ) → 0 < senders → 0 < length (signals_of_senders number senders)
some_signals number zero some = absurd (omega arith)
some_signals number (suc place) some =
    let start : Start = start_of number place in
    let before : IsMade number place (signals_of_senders number place) start.state = made number place in
    let after : IsMade number (suc place) (signals_of_senders number (suc place))
    (start_of number (suc place)).state = made number (suc place) in
    omega (arith, before.first, after.first)

-- the senders are at most 4
few_senders : (number : ℕ) → senders_of number ≤ 4
few_senders number =
    let drawn_below : drawn 3 number < 3 = mod-lt (next_state number / 65536) {m = 3} (omega arith) in
    omega arith

-- the signals of a case are at most 32
pub few_signals : (number : ℕ) → length (signals_of_senders number (senders_of number)) ≤ 32
few_signals number =
    let it : IsMade number (senders_of number) (signals_of_senders number (senders_of number))
    (start_of number (senders_of number)).state = made number (senders_of number) in
    omega (arith, it.few, few_senders number)

-- the common period of a case is at most 8000000 ticks
pub short_period : (number : ℕ)
    → hyper_of case_network (signals_of_senders number (senders_of number)) ≤ 8000000
short_period number =
    let signals : List Signal = signals_of_senders number (senders_of number) in
    let common : IsCommonPeriod (periods_of case_network signals) (hyper_of case_network signals) =
    common_period_of case_network signals case_network_stands (signals_stand number (senders_of number)) in
    common.least 8000000 (omega arith)
    (All-map (λ period. 8000000 % period ≡ 0)
    (λ (signal : Signal). case_network.ticks_per_us * signal.period_us) signals
    (each_drawn (λ signal. 8000000 % (80 * signal.period_us) ≡ 0)
    (λ sender place state. period_divides (drawn 4 (next_state state))
    (mod-lt (next_state (next_state state) / 65536) {m = 4} (omega arith)))
    number (senders_of number)))

-- no case is refused
pub case_stands : (number : ℕ) → CaseStands number
case_stands number =
    let signals : List Signal = (case_of number).signals in
    let few : length signals ≤ 32 = few_signals number in
    let free : All IsFree signals =
    each_drawn IsFree (λ sender place state. refl) number (senders_of number) in
    let admitted : IsAdmitted signals = record {
      some = some_signals number (senders_of number) (omega arith);
      few = omega arith;
      different =
          no_repeat [] 1 signals (omega arith) (All-nil (IsEarlier 1)) (numbered number (senders_of number));
      one_sender = no_clash [] signals free;
      no_large = no_large signals free;
    } in
    record {
      problem =
          problem_stands case_network signals admitted (omega (arith, few_items signals))
          (omega (arith, short_period number));
      few = few;
      short = short_period number;
    }

-- an answer other than want of memory isn't a refusal
only : (why : ProblemFault) (parts : Parts) → Answers (Err why) (Ok parts) → why ≡ Memory
only NoSignals parts is = cc
only TooManySignals parts is = cc
only (TwiceNamed row) parts is = cc
only (PduSenders row) parts is = cc
only (PduTooLarge id) parts is = cc
only TooManyItems parts is = cc
only PeriodsMixed parts is = cc
only Memory parts is = refl

-- the answer of a case, as a definition
meant : (number : ℕ) (case : Case) (signals : List Signal) → case ≡ case_of number → signals ≡ case.signals
    → problem_of case.network signals ≡ Ok (parts_of_case number)
meant number case signals is same =
    ap (problem_of case.network) same ∙ ap (λ (c : Case). problem_of c.network c.signals) is
    ∙ (case_stands number).problem

-- of a case only want of memory comes
pub only_memory : (number : ℕ) (why : ProblemFault) (case : Case) (signals : List Signal)
    → case ≡ case_of number → signals ≡ case.signals
    → Answers (Err why) (problem_of case.network signals) → why ≡ Memory
only_memory number why case signals is same answers =
    only why (parts_of_case number) (subst (Answers (Err why)) (meant number case signals is same) answers)

-- and else its problem
pub answered : (number : ℕ) (problem : Parts) (case : Case) (signals : List Signal) → case ≡ case_of number
    → signals ≡ case.signals
    → Answers (Ok problem) (problem_of case.network signals) → problem ≡ parts_of_case number
answered number problem case signals is same answers =
    let is_it : problem_of case.network signals ≡ Ok (parts_of_case number) =
    meant number case signals is same in cc
