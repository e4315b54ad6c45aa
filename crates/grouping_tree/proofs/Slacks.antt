-- The slack of a class and of the classes of a sender: how large, where there are none, and after one more label.
use Rattle.std.proofs.Common.{◌≡◌, ℕ, zero, suc, ◌+◌, ◌*◌, ◌/◌, ◌<◌, ◌≤◌, Bool, true, false, cond, nat_eq, List, [], ◌∷◌, ◌++◌, length, take, get_or, unwrap_or, Option, Some, None, All, refl, sym, ap, subst, ◌∙◌, arith, length-append}
use Rattle.std.proofs.Math.Nat.{div-le_self, mul-le-mul}
use Rattle.std.proofs.lemmas.Bool.{eq-eqb}
use Rattle.std.proofs.lemmas.List.{take_more}
use Rattle.std.proofs.lemmas.List.Elements.{All-head}
use Rattle.fd_length.specs.Size.{fd_size_of}
use Rattle.fd_length.proofs.Sizes.{IsSize-at_most, IsFdSize-from_value}
use Rattle.pack_model.specs.declared.item.Item.{Item}
use Rattle.pack_model.specs.Problem.{Parts, IsProblem}
use Rattle.pack_model.proofs.Laws.{tests}
use Rattle.class_frame.specs.Frame.{bytes_of_items, period_of_items}
use Rattle.class_frame.specs.Grouping.{class_of, classes_of}
use Rattle.class_frame.specs.Legal.{ClassStands}
use Rattle.class_frame.proofs.GroupingLaws.{All-class_of, class_of-take}
use Rattle.grouping_tree.specs.Slack.{at_sender, free_bits_of, last_sender, slack_of, slacks_of}
use Rattle.grouping_tree.proofs.Loads.{over_put, sum_most}
use Rattle.grouping_tree.proofs.Senders.{Rises}

-- no items have no slack
pub no_slack : (problem : Parts) → slack_of problem [] ≡ 0
no_slack problem = omega arith

-- a frame has at most 64 bytes
pub size_low : (bytes : ℕ) → unwrap_or (fd_size_of bytes) 0 ≤ 64
size_low bytes = by (fd_size_of bytes) refl
  where
    by : (size : Option ℕ) → fd_size_of bytes ≡ size → unwrap_or size 0 ≤ 64
    by None e = omega arith
    by (Some size) e = IsSize-at_most size (IsFdSize-from_value bytes size e).listed

-- the slack of a class is at most 10^23
pub slack_low : (problem : Parts) (items : List Item) → IsProblem problem → slack_of problem items ≤ 100000000000000000000000
slack_low problem items stands =
    let free : free_bits_of items ≤ 512 = omega (arith, size_low (bytes_of_items items)) in
    let bit : 10 * problem.network.data_ticks ≤ 100000 = omega (arith, stands.network.data_high, stands.network.nominal_high) in
    let share : problem.hyper / period_of_items problem items ≤ 1000000000000000 = omega (arith, div-le_self problem.hyper (period_of_items problem items), (tests problem stands).hyper_high) in
    let bits : 10 * problem.network.data_ticks * free_bits_of items ≤ 100000 * 512 = mul-le-mul bit free in
    let all : slack_of problem items ≤ 100000 * 512 * 1000000000000000 = mul-le-mul bits share in
    omega (arith, all)

-- a figure of a class of one sender is at most the figure
at_sender_low : (s : ℕ) (figure : List Item → ℕ) (most : ℕ) (xs : List Item) → figure xs ≤ most → at_sender s figure xs ≤ most
at_sender_low s figure most [] le = omega arith
at_sender_low s figure most (x ∷ xs) le = by (nat_eq x.sender s)
  where
    by : (b : Bool) → cond {A = ℕ} b (figure (x ∷ xs)) 0 ≤ most
    by true = le
    by false = omega arith

-- those of the classes of a sender are at most as often so much
pub slacks_low : (problem : Parts) (s : ℕ) (range : List Item) (labels : List ℕ) → IsProblem problem → slacks_of problem s range labels ≤ 100000000000000000000000 * classes_of labels
slacks_low problem s range labels stands =
    sum_most (λ k. at_sender s (slack_of problem) (class_of k labels range)) 100000000000000000000000 0 (classes_of labels)
    (λ k le lt. at_sender_low s (slack_of problem) 100000000000000000000000 (class_of k labels range) (slack_low problem (class_of k labels range) stands))

-- a class that has no item of a sender counts as nothing
at_none : (s : ℕ) (figure : List Item → ℕ) (xs : List Item) → All (λ x. nat_eq x.sender s ≡ false) xs → at_sender s figure xs ≤ 0
at_none s figure [] all = omega arith
at_none s figure (x ∷ xs) all =
    let none : cond {A = ℕ} (nat_eq x.sender s) (figure (x ∷ xs)) 0 ≡ 0 = ap (λ b. cond b (figure (x ∷ xs)) 0) (All-head (λ (x : Item). nat_eq x.sender s ≡ false) x xs all) in
    omega (arith, none)

-- where no item that is placed is of a sender, its classes have no slack
pub slacks_none : (problem : Parts) (s : ℕ) (range : List Item) (labels : List ℕ) → All (λ x. nat_eq x.sender s ≡ false) (take (length labels) range) → slacks_of problem s range labels ≡ 0
slacks_none problem s range labels all =
    let none = sum_most (λ k. at_sender s (slack_of problem) (class_of k labels range)) 0 0 (classes_of labels)
    (λ k le lt. at_none s (slack_of problem) (class_of k labels range)
    (subst (All (λ (x : Item). nat_eq x.sender s ≡ false)) (class_of-take k labels range) (All-class_of (λ (x : Item). nat_eq x.sender s ≡ false) k labels (take (length labels) range) all))) in
    let none_is : slacks_of problem s range labels ≤ 0 * classes_of labels = none in
    omega (arith, none_is)

-- the figure of a class of one sender counts whole
at_head : (s : ℕ) (figure : List Item → ℕ) (x : Item) (xs : List Item) → x.sender ≡ s → at_sender s figure (x ∷ xs) ≡ figure (x ∷ xs)
at_head s figure x xs is = ap (λ b. cond b (figure (x ∷ xs)) 0) (eq-eqb x.sender s is)

pub at_own : (figure : List Item → ℕ) (xs : List Item) (item : Item) → figure [] ≡ 0 → ClassStands (xs ++ item ∷ [])
    → (at_sender item.sender figure xs ≡ figure xs) × (at_sender item.sender figure (xs ++ item ∷ []) ≡ figure (xs ++ item ∷ []))
at_own figure [] item none class = (sym none, at_head item.sender figure item [] refl)
at_own figure (x ∷ xs) item none class =
    let last : length ((x ∷ xs) ++ item ∷ []) ≡ suc (suc (length xs)) = omega (arith, length-append xs (item ∷ [])) in
    let same : x.sender ≡ (get_or ((x ∷ xs) ++ item ∷ []) (suc (length xs)) item).sender = class.one_sender 0 (suc (length xs)) item (omega arith) (omega (arith, last)) in
    let is : x.sender ≡ item.sender = same ∙ ap (λ (y : Item). y.sender) (last_is xs) in
    (at_head item.sender figure x xs is, at_head item.sender figure x (xs ++ item ∷ []) is)
  where
    last_is : (xs : List Item) → get_or (xs ++ item ∷ []) (length xs) item ≡ item
    last_is [] = refl
    last_is (y ∷ ys) = last_is ys

-- the slacks of the classes of an item's sender after it is placed
pub slacks_put : (problem : Parts) (range : List Item) (p : List ℕ) (l : ℕ) (item : Item) → l ≤ classes_of p → class_of l (p ++ l ∷ []) range ≡ class_of l p range ++ item ∷ []
    → ClassStands (class_of l (p ++ l ∷ []) range)
    → (slacks_of problem item.sender range (p ++ l ∷ []) + slack_of problem (class_of l p range) ≡ slacks_of problem item.sender range p + slack_of problem (class_of l (p ++ l ∷ []) range))
    × (slack_of problem (class_of l p range) ≤ slacks_of problem item.sender range p)
slacks_put problem range p l item low more class =
    let put = over_put (at_sender item.sender (slack_of problem)) refl range p l low in
    let own = at_own (slack_of problem) (class_of l p range) item (no_slack problem) (subst ClassStands more class) in
    let new : at_sender item.sender (slack_of problem) (class_of l (p ++ l ∷ []) range) ≡ slack_of problem (class_of l (p ++ l ∷ []) range) =
    ap (at_sender item.sender (slack_of problem)) more ∙ own.1 ∙ ap (slack_of problem) (sym more) in
    (omega (arith, put.0, own.0, new), omega (arith, put.1, own.0))

-- the sender of the last item
pub last-push : (xs : List Item) (x : Item) → last_sender (xs ++ x ∷ []) ≡ Some x.sender
last-push [] x = refl
last-push (y ∷ []) x = refl
last-push (y ∷ z ∷ ys) x = last-push (z ∷ ys) x

pub last-take : (range : List Item) (n : ℕ) (d : Item) → n < length range → last_sender (take (n + 1) range) ≡ Some (get_or range n d).sender
last-take range n d lt = ap last_sender (take_more range n d lt) ∙ last-push (take n range) (get_or range n d)

-- of items that rise by sender a later one is of no lower one
first_low : (low : ℕ) (xs : List Item) → Rises low xs → (j : ℕ) (e : Item) → j < length xs → low ≤ (get_or xs j e).sender
first_low low [] up j e lt = absurd (omega arith)
first_low low (y ∷ ys) up zero e lt = up.0
first_low low (y ∷ ys) up (suc j) e lt = let here : low ≤ y.sender = up.0 in omega (arith, here, first_low y.sender ys up.1 j e (omega arith))

pub rises_at : (low : ℕ) (xs : List Item) → Rises low xs → (i j : ℕ) (d e : Item) → i ≤ j → j < length xs → (get_or xs i d).sender ≤ (get_or xs j e).sender
rises_at low [] up i j d e le lt = absurd (omega arith)
rises_at low (y ∷ ys) up zero zero d e le lt = omega arith
rises_at low (y ∷ ys) up zero (suc j) d e le lt = first_low y.sender ys up.1 j e (omega arith)
rises_at low (y ∷ ys) up (suc i) zero d e le lt = absurd (omega arith)
rises_at low (y ∷ ys) up (suc i) (suc j) d e le lt = rises_at y.sender ys up.1 i j d e (omega arith) (omega arith)
