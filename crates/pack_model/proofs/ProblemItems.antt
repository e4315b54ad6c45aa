-- What the tests of a problem say of its items and of its signals' senders.
use Rattle.std.proofs.Common.{◌≡◌, ◌≤◌, ◌<◌, ℕ, Bool, true, false, cond, find, ◌⊎◌, inl, inr, List, [], ◌∷◌, ◌++◌, length, take, get_or, zero, suc, None, Some, All, refl, sym, ap, ◌∙◌, arith, append-nil, append_assoc, get_or-take, length-take, eq-eqb, true≢false, ◌&&◌, not, map, nat_lt, nat_eq, is_some}
use Rattle.std.specs.List.{list_any, flat_map, range_with_len, position_or_len}
use Rattle.std.specs.Str.{bytes_eq}
use Rattle.std.specs.Cmp.Lexicographic.{nat_list_eq_equiv}
use Rattle.std.proofs.lemmas.Bool.{cases_order, ltb-false, false_from_ne_true, not-false}
use Rattle.std.proofs.lemmas.List.{get_or-map, length-map}
use Rattle.std.proofs.lemmas.List.Elements.{All-nil, All-cons, All-append, All-filter, All-same}
use Rattle.std.proofs.lemmas.List.Folds.{list_any_at}
use Rattle.std.proofs.lemmas.List.Sums.{passes_at_first}
use Rattle.std.proofs.lemmas.Slice.Eq.{bytes_eq-Decides}
use Rattle.pack_model.specs.declared.signal.Signal.{Signal}
use Rattle.pack_model.specs.declared.item.Item.{Item}
use Rattle.pack_model.specs.Signal.{same_pdu}
use Rattle.pack_model.specs.Problem.{Parts, IsProblem, items_in_order, sent_by, senders_of, is_too_large, is_clash, first_clash}
use Rattle.pack_model.proofs.Distinct.{list_any-distinct}
use Rattle.pack_model.proofs.ListLaws.{first_place, none_from}
use Rattle.pack_model.proofs.Laws.{tests}

-- what holds of each part holds of the parts joined
All-flat_map : {X Y : Type 0} (P : Y → Type 0) (f : X → List Y) → ((x : X) → All P (f x)) → (xs : List X)
    → All P (flat_map f xs)
All-flat_map P f each [] = All-nil P
All-flat_map P f each (x ∷ xs) = All-append P (f x) (flat_map f xs) (each x) (All-flat_map P f each xs)

-- what holds of the items in order holds of a problem's items
pub of_problem : (p : Parts) → IsProblem p → (P : Item → Type 0) → All P (items_in_order p.signals)
    → All P p.items
of_problem p stands P all =
    All-same P p.items (flat_map (sent_by (items_in_order p.signals))
    (range_with_len 0 (length (senders_of p.signals)))) (tests p stands).items
    (All-flat_map P (sent_by (items_in_order p.signals))
    (λ sender. All-filter (λ item. nat_eq item.sender sender) P (items_in_order p.signals) all)
    (range_with_len 0 (length (senders_of p.signals))))

-- where none is found, each fails the test
none_found : {X : Type 0} (p : X → Bool) (xs : List X) → find p xs ≡ None → All (λ x. p x ≡ false) xs
none_found p [] none = All-nil (λ x. p x ≡ false)
none_found {X} p (x ∷ xs) none = by (p x) refl none (none_found p xs)
  where
    by : (b : Bool) → p x ≡ b → cond b (Some x) (find p xs) ≡ None
        → (find p xs ≡ None → All (λ y. p y ≡ false) xs) → All (λ y. p y ≡ false) (x ∷ xs)
    by true e h rest = absurd (let wrong : Some x ≡ None = h in cc)
    by false e h rest = All-cons (λ y. p y ≡ false) x xs e (rest h)

-- an I-PDU of a problem has no more bits than a frame
pub small_pdus : (p : Parts) → IsProblem p
    → All (λ item. (id : ℕ) → item.pdu ≡ Some id → item.bits ≤ 512) (items_in_order p.signals)
small_pdus p stands k d lt id of_id =
    ltb-false 512 (get_or (items_in_order p.signals) k d).bits
    (sym (ap (λ o. is_some o && nat_lt 512 (get_or (items_in_order p.signals) k d).bits) of_id)
    ∙ none_found is_too_large (items_in_order p.signals) (tests p stands).no_large k d lt)

-- signals in which no clash is found do not clash with those before them
clear : (earlier signals : List Signal) (i : ℕ) (d : Signal) → first_clash earlier signals ≡ None
    → i < length signals → list_any (is_clash (get_or signals i d)) (earlier ++ take i signals) ≡ false
clear earlier [] i d h lt = absurd (omega arith)
clear earlier (x ∷ xs) zero d h lt = ap (list_any (is_clash x)) (append-nil earlier)
    ∙ (none_from (list_any (is_clash x) earlier) _ _ h).0
clear earlier (x ∷ xs) (suc k) d h lt =
    ap (list_any (is_clash (get_or xs k d))) (sym (append_assoc earlier (x ∷ []) (take k xs)))
    ∙ clear (earlier ++ x ∷ []) xs k d (none_from (list_any (is_clash x) earlier) _ _ h).1 (omega arith)

-- of one I-PDU with no clash, of one sender
one_of : (s t : Signal) (id : ℕ) → s.pdu ≡ Some id → t.pdu ≡ Some id → is_clash s t ≡ false
    → s.sender ≡ t.sender
one_of s t id of_s of_t free =
    let both : same_pdu s.pdu t.pdu ≡ true = ap (λ o. same_pdu o t.pdu) of_s ∙ ap (same_pdu (Some id)) of_t
    ∙ eq-eqb id id refl in
    let same : not (bytes_eq s.sender t.sender) ≡ false =
    sym (ap (λ b. b && not (bytes_eq s.sender t.sender)) both) ∙ free in
    (bytes_eq-Decides s.sender t.sender).0 (not-false _ same)

-- an earlier and a later signal of one I-PDU have one sender
earlier_sender : (signals : List Signal) → first_clash [] signals ≡ None → (i j id : ℕ) (d : Signal) → i < j
    → j < length signals → (get_or signals i d).pdu ≡ Some id → (get_or signals j d).pdu ≡ Some id
    → (get_or signals j d).sender ≡ (get_or signals i d).sender
earlier_sender signals none i j id d before within of_i of_j =
    let s : Signal = get_or signals j d in
    let short : i < length (take j signals) = simp length-take (omega arith) in
    let at : get_or (take j signals) i d ≡ get_or signals i d = get_or-take j signals i d before in
    let free : is_clash s (get_or signals i d) ≡ false =
    false_from_ne_true (is_clash s (get_or signals i d))
    (λ e. true≢false (sym (list_any_at (is_clash s) (take j signals) i d short (ap (is_clash s) at ∙ e))
    ∙ clear [] signals j d none within)) in
    one_of s (get_or signals i d) id of_j of_i free

-- all signals of an I-PDU have one sender
pub pdu_sender : (signals : List Signal) → first_clash [] signals ≡ None → (i j id : ℕ) (d : Signal)
    → i < length signals → j < length signals → (get_or signals i d).pdu ≡ Some id
    → (get_or signals j d).pdu ≡ Some id → (get_or signals i d).sender ≡ (get_or signals j d).sender
pdu_sender signals none i j id d lt_i lt_j of_i of_j = by (cases_order i j)
  where
    by : (i ≡ j) ⊎ ((i < j) ⊎ (j < i)) → (get_or signals i d).sender ≡ (get_or signals j d).sender
    by (inl e) = ap (λ n. (get_or signals n d).sender) e
    by (inr (inl before)) = sym (earlier_sender signals none i j id d before lt_j of_i of_j)
    by (inr (inr after)) = earlier_sender signals none j i id d after lt_i of_j of_i

-- a signal's sender stands at its number
pub sender_at : (signals : List Signal) (place : ℕ) (signal : Signal) → place < length signals
    → signal ≡ get_or signals place signal
    → get_or (senders_of signals) (position_or_len (bytes_eq signal.sender) (senders_of signals)) []
    ≡ signal.sender
sender_at signals place signal lt at =
    let in_map : place < length (map (λ (t : Signal). t.sender) signals) = simp length-map lt in
    let there : list_any (bytes_eq signal.sender) (senders_of signals) ≡ true =
    list_any-distinct bytes_eq nat_list_eq_equiv signal.sender (map (λ t. t.sender) signals)
    ∙ list_any_at (bytes_eq signal.sender) (map (λ t. t.sender) signals) place signal.sender in_map
    (ap (bytes_eq signal.sender)
    (get_or-map (λ (t : Signal). t.sender) signals place signal signal.sender lt
    ∙ ap (λ (t : Signal). t.sender) (sym at)) ∙ nat_list_eq_equiv.refl signal.sender) in
    sym ((bytes_eq-Decides signal.sender
    (get_or (senders_of signals) (position_or_len (bytes_eq signal.sender) (senders_of signals)) [])).0
    (passes_at_first (bytes_eq signal.sender) (senders_of signals) []
    (first_place (bytes_eq signal.sender) (senders_of signals) there)))
