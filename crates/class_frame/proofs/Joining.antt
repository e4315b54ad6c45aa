-- The sums of two lists of items, one after the other, and of one item.
use Rattle.std.proofs.Common.{◌≡◌, ℕ, ◌+◌, ◌<◌, ◌≤◌, List, [], ◌∷◌, ◌++◌, length, map, fold, min, max, get_or, take, slice_get, Option, Some, None, Bool, true, false, ◌&&◌, cond, is_some, sum_by, append-nil, refl, sym, ap, ◌∙◌, arith, length-append}
use Rattle.std.specs.List.{filter_map, cons_option}
use Rattle.std.proofs.lemmas.Grind.{flat_map-append}
use Rattle.std.proofs.lemmas.List.{map-append, take_more}
use Rattle.std.proofs.lemmas.List.Elements.{filter_map-append}
use Rattle.std.proofs.lemmas.List.Folds.{list_all-append}
use Rattle.std.proofs.lemmas.List.Sums.{sum_by-append, sum_by-cons, fold-append}
use Rattle.std.proofs.lemmas.Option.{slice_get-get_or}
use Rattle.pack_model.specs.declared.item.Item.{Item}
use Rattle.pack_model.specs.declared.signal.Signal.{Signal}
use Rattle.pack_model.specs.Problem.{Parts}
use Rattle.class_frame.specs.Frame.{ids_of, bytes_of_item, signals_of_items, weight_of_item}
use Rattle.class_frame.specs.Sums.{sums_of, joined, is_short, times_of, with_signal, top}
use Rattle.class_frame.proofs.Folds.{least-append, greatest-append}

-- the signals of two lists of items
pub signals-append : (problem : Parts) (xs ys : List Item) → signals_of_items problem (xs ++ ys) ≡ signals_of_items problem xs ++ signals_of_items problem ys
signals-append problem xs ys = flat_map-append (λ (item : Item). filter_map (slice_get problem.signals) item.members) xs ys

-- sums of two lists are the join of the sums of each
pub sums_of-append : (problem : Parts) (xs ys : List Item) → sums_of problem (xs ++ ys) ≡ joined (sums_of problem xs) (sums_of problem ys)
sums_of-append problem xs ys = λ i. record {
  items = length-append xs ys i;
  pdus = (ap length (filter_map-append (λ (item : Item). item.pdu) xs ys) ∙ length-append (ids_of xs) (ids_of ys)) i;
  short_ids = list_all-append (λ (item : Item). is_short item.pdu) xs ys i;
  bits = sum_by-append (λ (item : Item). item.bits) xs ys i;
  bytes = sum_by-append bytes_of_item xs ys i;
  weight = sum_by-append weight_of_item xs ys i;
  first_sender = least-append (λ (item : Item). item.sender) top xs ys i;
  last_sender = greatest-append (λ (item : Item). item.sender) xs ys i;
  period_us = (ap (λ l. fold min top (map (λ (signal : Signal). signal.period_us) l)) (signals-append problem xs ys) ∙ least-append (λ (signal : Signal). signal.period_us) top (signals_of_items problem xs) (signals_of_items problem ys)) i;
  deadline_us = (ap (λ l. fold min top (map (λ (signal : Signal). signal.deadline_us) l)) (signals-append problem xs ys) ∙ least-append (λ (signal : Signal). signal.deadline_us) top (signals_of_items problem xs) (signals_of_items problem ys)) i;
  jitter_us = (ap (λ l. fold max 0 (map (λ (signal : Signal). signal.jitter_us) l)) (signals-append problem xs ys) ∙ greatest-append (λ (signal : Signal). signal.jitter_us) (signals_of_items problem xs) (signals_of_items problem ys)) i;
}

-- a figure of the signals at places, and of one more
folded_more : (op : ℕ → ℕ → ℕ) (z : ℕ) (f : Signal → ℕ) (signals : List Signal) (places : List ℕ) (i : ℕ) (signal : Signal) → i < length places → get_or places i 0 < length signals → signal ≡ get_or signals (get_or places i 0) signal
    → fold op z (map f (filter_map (slice_get signals) (take (i + 1) places))) ≡ op (fold op z (map f (filter_map (slice_get signals) (take i places)))) (f signal)
folded_more op z f signals places i signal lt low at =
    ap (λ l. fold op z (map f (filter_map (slice_get signals) l))) (take_more places i 0 lt)
    ∙ ap (λ l. fold op z (map f l)) (filter_map-append (slice_get signals) (take i places) (get_or places i 0 ∷ [])
    ∙ ap (λ o. filter_map (slice_get signals) (take i places) ++ cons_option o []) (slice_get-get_or signals (get_or places i 0) signal low ∙ ap Some (sym at)))
    ∙ ap (fold op z) (map-append f (filter_map (slice_get signals) (take i places)) (signal ∷ []))
    ∙ fold-append op z (map f (filter_map (slice_get signals) (take i places))) (f signal ∷ [])

-- the times of the signals at places, and of one more
pub times_of-more : (signals : List Signal) (places : List ℕ) (i : ℕ) (signal : Signal) → i < length places → get_or places i 0 < length signals → signal ≡ get_or signals (get_or places i 0) signal
    → times_of (filter_map (slice_get signals) (take (i + 1) places)) ≡ with_signal (times_of (filter_map (slice_get signals) (take i places))) signal
times_of-more signals places i signal lt low at = λ j. record {
  period_us = folded_more min top (λ (signal : Signal). signal.period_us) signals places i signal lt low at j;
  deadline_us = folded_more min top (λ (signal : Signal). signal.deadline_us) signals places i signal lt low at j;
  jitter_us = folded_more max 0 (λ (signal : Signal). signal.jitter_us) signals places i signal lt low at j;
}

and_true : (b : Bool) → (b && true) ≡ b
and_true true = refl
and_true false = refl

-- the sums of one item
pub sums_of-one : (problem : Parts) (item : Item) → item.sender ≤ top → sums_of problem (item ∷ []) ≡ record {
  items = 1;
  pdus = cond (is_some item.pdu) 1 0;
  short_ids = is_short item.pdu;
  bits = item.bits;
  bytes = bytes_of_item item;
  weight = weight_of_item item;
  first_sender = item.sender;
  last_sender = item.sender;
  period_us = (times_of (filter_map (slice_get problem.signals) item.members)).period_us;
  deadline_us = (times_of (filter_map (slice_get problem.signals) item.members)).deadline_us;
  jitter_us = (times_of (filter_map (slice_get problem.signals) item.members)).jitter_us;
}
sums_of-one problem item low =
    let first : min top item.sender ≡ item.sender = omega arith in
    let last : max 0 item.sender ≡ item.sender = omega arith in
    let signals = append-nil (filter_map (slice_get problem.signals) item.members) in
    λ i. record {
      items = 1;
      pdus = one item.pdu refl i;
      short_ids = and_true (is_short item.pdu) i;
      bits = alone (λ (x : Item). x.bits) i;
      bytes = alone bytes_of_item i;
      weight = alone weight_of_item i;
      first_sender = first i;
      last_sender = last i;
      period_us = fold min top (map (λ (signal : Signal). signal.period_us) (signals i));
      deadline_us = fold min top (map (λ (signal : Signal). signal.deadline_us) (signals i));
      jitter_us = fold max 0 (map (λ (signal : Signal). signal.jitter_us) (signals i));
    }
  where
    one : (o : Option ℕ) → item.pdu ≡ o → length (ids_of (item ∷ [])) ≡ cond (is_some item.pdu) 1 0
    one None e = rw e refl
    one (Some id) e = rw e refl

    alone : (f : Item → ℕ) → sum_by f (item ∷ []) ≡ f item
    alone f = omega (arith, sum_by-cons f item [])
