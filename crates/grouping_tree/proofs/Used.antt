-- What belonging gives: room for the next label, small sums, and a signal for each used label.
use Rattle.std.proofs.Common.{◌≡◌, ◌<◌, ◌≤◌, ◌+◌, ℕ, true, false, [], ◌∷◌, ◌++◌, List, length, take, drop, fold, get_or, min, nat_eq, nat_le, Some, All, sym, ap, subst, ◌∙◌, arith, length-append, length-take-le, refl}
use Rattle.std.proofs.lemmas.Bool.{ne_eqb}
use Rattle.std.proofs.lemmas.List.{get_or-take}
use Rattle.std.proofs.lemmas.List.Elements.{All-cons, All-nil, All-weaker}
use Rattle.std.proofs.lemmas.List.Sorted.{IsPermutation-refl}
use Rattle.pack_model.specs.declared.item.Item.{Item}
use Rattle.pack_model.specs.declared.network.Network.{Network}
use Rattle.pack_model.specs.Problem.{Parts, IsProblem, items_in_order, senders_of}
use Rattle.pack_model.proofs.ItemFacts.{IsItemOf, items_of_signals, small_items}
use Rattle.pack_model.proofs.Laws.{tests}
use Rattle.pack_model.proofs.Numbering.{few_senders}
use Rattle.pack_model.proofs.OrderSteps.{all_numbered}
use Rattle.pack_model.proofs.ProblemItems.{of_problem}
use Rattle.class_frame.specs.Classes.{load_of}
use Rattle.class_frame.specs.Frame.{bytes_of_items, load_of_items}
use Rattle.class_frame.specs.Grouping.{class_of, classes_of}
use Rattle.class_frame.specs.Laws.{HasSignal}
use Rattle.class_frame.specs.Legal.{ClassStands}
use Rattle.class_frame.specs.Sums.{sums_of, top, IsSmall}
use Rattle.class_frame.proofs.GroupingLaws.{All-class_of, class_of-some, classes_of-le-length, used}
use Rattle.class_frame.proofs.Tables.{joined_small}
use Rattle.class_frame.proofs.Used.{items_have_signal, class_is_small}
use Rattle.grouping_tree.specs.Class.{AreAlike, AreOneKind, IsFill, fill_of, together}
use Rattle.grouping_tree.specs.declared.class.Class.{Class}
use Rattle.grouping_tree.specs.declared.class.Fill.{Fill}
use Rattle.grouping_tree.specs.Partial.{IsPartial, is_class, keeps_legal}
use Rattle.grouping_tree.specs.Grouped.{Belongs, IsFrameLength, IsNext, IsUsed, items_with, labels_of, range_of, room_of, slack_at}
use Rattle.grouping_tree.specs.Slack.{last_sender, sender_in_work, slack_in_work, slack_of, slacks_of}
use Rattle.grouping_tree.specs.declared.frame_length.FrameLength.{FrameLength}
use Rattle.grouping_tree.specs.declared.partial.Partial.{Partial}
use Rattle.grouping_tree.proofs.Fills.{fill_put}
use Rattle.grouping_tree.proofs.Fronts.{partial-append}
use Rattle.grouping_tree.proofs.Joins.{Joins, joins_alike, joins_apart}
use Rattle.grouping_tree.proofs.Loads.{over_put, no_load, load_low, loads_low}
use Rattle.grouping_tree.proofs.Puts.{new-legal, one_stands}
use Rattle.grouping_tree.proofs.Senders.{problem_rises}
use Rattle.grouping_tree.proofs.Slacks.{last-take, rises_at, slack_low, slacks_low, slacks_none, slacks_put}
use Rattle.grouping_tree.proofs.Options.{next-low, is_class-to}
use Rattle.grouping_tree.proofs.Steps.{class_next, element, range_at, length-class_labels, length-range}

-- what holds of all items of the problem holds of those of a range
pub in_range : {X : Type 0} (P : X → Type 0) (first room : ℕ) (xs : List X) → first + room ≤ length xs → All P xs → All P (take room (drop first xs))
in_range P first room xs inside all i d lt =
    let here : i < room = omega (arith, lt, length-range first room xs inside) in
    subst P (sym (range_at first room xs i d here)) (all (first + i) d (omega arith))

-- there are no more classes than labels
pub classes_low : (items : List Item) (labels : List ℕ) → IsPartial items labels → classes_of labels ≤ length labels
classes_low items labels h =
    let long = length-take-le (length labels) items h.within in
    omega (arith, long, classes_of-le-length (take (length labels) items) labels (record { each = sym long; by_first_use = h.by_first_use }))

-- no labels are a partial grouping
pub partial-none : (items : List Item) → IsPartial items []
partial-none items =
    record {
      within = omega arith;
      by_first_use = λ k lt. absurd (omega arith);
      classes = λ label. is_class-to [] refl;
    }

-- the labels are as many as are counted
pub counted : (problem : Parts) (p : Partial) → Belongs problem p → length (labels_of p) ≡ p.count
counted problem p b = length-take-le p.count p.labels.items (omega (arith, b.within, b.enough))

-- and the items as many as there are said to be
pub long : (problem : Parts) (p : Partial) → Belongs problem p → length (range_of problem p) ≡ p.many
long problem p b = length-range p.first p.many problem.items b.inside

-- there are at most 128
pub few : (problem : Parts) (p : Partial) → Belongs problem p → p.many ≤ 128
few problem p b = omega (arith, (tests problem b.stands).few_items, b.inside)

-- each is small
pub small_range : (problem : Parts) (p : Partial) → Belongs problem p → All (λ item. item.bits ≤ 512) (range_of problem p)
small_range problem p b = in_range (λ (item : Item). item.bits ≤ 512) p.first p.many problem.items b.inside (small_items problem b.stands)

-- where an item is left a new label may be put
pub new_legal : (problem : Parts) (p : Partial) → Belongs problem p → length (labels_of p) < length (range_of problem p) → keeps_legal (range_of problem p) (labels_of p) p.classes ≡ true
new_legal problem p b room =
    let (item, at) = element (range_of problem p) (length (labels_of p)) room in
    subst (λ c. keeps_legal (range_of problem p) (labels_of p) c ≡ true) (sym b.classes)
    (new-legal (range_of problem p) (labels_of p) item room (one_stands (get_or (range_of problem p) (length (labels_of p)) item) (small_range problem p b (length (labels_of p)) item room)))

-- there are no more classes than labels
pub classes_few : (problem : Parts) (p : Partial) → Belongs problem p → classes_of (labels_of p) ≤ p.count
classes_few problem p b = omega (arith, classes_low (range_of problem p) (labels_of p) b.legal, counted problem p b)

-- where an item is left, a label up to the first unused one has room
pub low_room : (problem : Parts) (p : Partial) (label : ℕ) → Belongs problem p → p.count < p.many → label ≤ classes_of (labels_of p) → label < room_of p
low_room problem p label b some low = omega (arith, low, some, classes_few problem p b, b.enough)

-- a label that may be put is one of an item that is left
pub put_room : (problem : Parts) (p : Partial) (label : ℕ) → Belongs problem p → IsPartial (range_of problem p) (labels_of p ++ label ∷ []) → (p.count < p.many) × (label ≤ classes_of (labels_of p))
put_room problem p label b legal =
    (omega (arith, counted problem p b, long problem p b, legal.within, length-append (labels_of p) (label ∷ [])), next-low (range_of problem p) (labels_of p) label legal)

-- the lengths of frames on a network are those on the same one
pub same_lengths : (a b : Network) (lengths : List FrameLength) → a ≡ b
    → ((k : ℕ) (d : FrameLength) → k < 65 → IsFrameLength a k (get_or lengths k d))
    → (k : ℕ) (d : FrameLength) → k < 65 → IsFrameLength b k (get_or lengths k d)
same_lengths a b lengths same each k d lt = subst (λ n. IsFrameLength n k (get_or lengths k d)) same (each k d lt)

-- a used label has room
pub used_room : (problem : Parts) (p : Partial) (label : ℕ) → Belongs problem p → IsUsed p label → label < room_of p
used_room problem p label b low = omega (arith, low, classes_few problem p b, b.within, b.enough)

-- the items of a problem are of its signals
all_items : (problem : Parts) → IsProblem problem → All (IsItemOf problem.signals) problem.items
all_items problem stands =
    of_problem problem stands (IsItemOf problem.signals) (items_of_signals problem.signals (items_in_order problem.signals) (IsPermutation-refl (items_in_order problem.signals)))

-- so each has a signal
pub item_signal : (problem : Parts) → IsProblem problem → (i : ℕ) (item : Item) → i < length problem.items → item ≡ get_or problem.items i item → HasSignal problem (item ∷ [])
item_signal problem stands i item lt at =
    items_have_signal problem (item ∷ []) (omega arith)
    (All-cons (IsItemOf problem.signals) item [] (subst (IsItemOf problem.signals) (sym at) (all_items problem stands i item lt)) (All-nil (IsItemOf problem.signals)))

-- some items of a label have a signal
pub class_signal : (problem : Parts) (p : Partial) (labels : List ℕ) (label : ℕ) → Belongs problem p → 1 ≤ length (class_of label labels (range_of problem p)) → HasSignal problem (class_of label labels (range_of problem p))
class_signal problem p labels label b some =
    items_have_signal problem (class_of label labels (range_of problem p)) some
    (All-class_of (IsItemOf problem.signals) label labels (range_of problem p) (in_range (IsItemOf problem.signals) p.first p.many problem.items b.inside (all_items problem b.stands)))

-- a used label has items
pub used_some : (problem : Parts) (p : Partial) (label : ℕ) → Belongs problem p → IsUsed p label → 1 ≤ length (items_with problem p label)
used_some problem p label b low =
    let (k, lt, at) = used (labels_of p) b.legal.by_first_use label low in
    class_of-some label (labels_of p) (range_of problem p) k lt (omega (arith, lt, b.legal.within)) at

-- so have those of a used label
pub used_signal : (problem : Parts) (p : Partial) (label : ℕ) → Belongs problem p → IsUsed p label → HasSignal problem (items_with problem p label)
used_signal problem p label b low =
    class_signal problem p (labels_of p) label b (used_some problem p label b low)

-- and those of a label that is put
pub next_signal : (problem : Parts) (p : Partial) (label : ℕ) (next : Class) → Belongs problem p → IsNext problem p next → HasSignal problem (class_of label (labels_of p ++ label ∷ []) (range_of problem p))
next_signal problem p label next b is =
    let (item, at) = element (range_of problem p) (length (labels_of p)) is.some in
    class_signal problem p (labels_of p ++ label ∷ []) label b
    (omega (arith, ap length (class_next label (labels_of p) (range_of problem p) item is.some at), length-append (items_with problem p label) (item ∷ [])))

-- and their sums are small
pub used_small : (problem : Parts) (p : Partial) (label : ℕ) → Belongs problem p → IsSmall (sums_of problem (items_with problem p label))
used_small problem p label b =
    class_is_small problem (range_of problem p) (labels_of p) label (omega (arith, few problem p b, long problem p b)) (small_range problem p b)

-- what the items of a label and the next item take is small, and that of its items once it is put
pub next_small : (problem : Parts) (p : Partial) (label : ℕ) (next : Class) (fill : Fill) → Belongs problem p → IsNext problem p next → IsFill problem (items_with problem p label) fill
    → (fill.pdus + next.fill.pdus ≤ 128) × (fill.weight + next.fill.weight ≤ 65536)
next_small problem p label next fill b is are =
    let n = length (labels_of p) in
    let (item, at) = element (range_of problem p) n is.some in
    let own : IsFill problem (item ∷ []) next.fill = (is.alone item).fill ∙ ap (λ x. fill_of (sums_of problem (x ∷ []))) (sym at) in
    let small = joined_small problem (items_with problem p label) item (sums_of problem (items_with problem p label)) (sums_of problem (item ∷ []))
    (omega (arith, length-class_labels label (labels_of p) (range_of problem p), is.some, few problem p b, long problem p b))
    (All-class_of (λ (item : Item). item.bits ≤ 512) label (labels_of p) (range_of problem p) (small_range problem p b))
    (subst (λ (x : Item). x.bits ≤ 512) (sym at) (small_range problem p b n item is.some)) refl refl in (
      omega (arith, small.pdus, ap (λ (f : Fill). f.pdus) are, ap (λ (f : Fill). f.pdus) own),
      omega (arith, small.weight, ap (λ (f : Fill). f.weight) are, ap (λ (f : Fill). f.weight) own),
    )

pub next_fill : (problem : Parts) (p : Partial) (label : ℕ) (next : Class) (fill : Fill) → Belongs problem p → IsNext problem p next → IsFill problem (items_with problem p label) fill
    → IsFill problem (class_of label (labels_of p ++ label ∷ []) (range_of problem p)) (together fill next.fill)
next_fill problem p label next fill b is are =
    let n = length (labels_of p) in
    let (item, at) = element (range_of problem p) n is.some in
    let own : IsFill problem (item ∷ []) next.fill = (is.alone item).fill ∙ ap (λ x. fill_of (sums_of problem (x ∷ []))) (sym at) in
    fill_put problem (items_with problem p label) (item ∷ []) fill next.fill are own
    ∙ ap (λ xs. fill_of (sums_of problem xs)) (sym (class_next label (labels_of p) (range_of problem p) item is.some at))

-- the senders' numbers are low
pub senders_low : (problem : Parts) → IsProblem problem → All (λ item. item.sender ≤ top) problem.items
senders_low problem stands =
    let t = tests problem stands in
    let many : length (senders_of problem.signals) ≤ 2048 = omega (arith, t.few, few_senders problem.signals) in
    of_problem problem stands (λ item. item.sender ≤ top)
    (All-weaker (λ (item : Item). item.sender < length (senders_of problem.signals)) (λ item. item.sender ≤ top) (λ item low. omega (arith, low, many)) (items_in_order problem.signals) (all_numbered problem.signals))

-- the senders' numbers of a class are low
pub class_low : (problem : Parts) (p : Partial) (labels : List ℕ) (label : ℕ) → Belongs problem p → All (λ item. item.sender ≤ top) (class_of label labels (range_of problem p))
class_low problem p labels label b =
    All-class_of (λ (item : Item). item.sender ≤ top) label labels (range_of problem p)
    (in_range (λ (item : Item). item.sender ≤ top) p.first p.many problem.items b.inside (senders_low problem b.stands))

-- whether a used label may be put, by what is kept of its class and of the next item
module _ (problem : Parts) (p : Partial) (label : ℕ) (next : Class) (fill : Fill) (b : Belongs problem p) (is : IsNext problem p next)
    (low : IsUsed p label) (are : IsFill problem (items_with problem p label) fill) where
  abbrev n : ℕ
  n = length (labels_of p)

  abbrev ys : List Item
  ys = items_with problem p label

  abbrev item : Item
  item = (element (range_of problem p) n is.some).0

  at : item ≡ get_or (range_of problem p) n item
  at = (element (range_of problem p) n is.some).1

  next_is : class_of label (labels_of p ++ label ∷ []) (range_of problem p) ≡ ys ++ item ∷ []
  next_is = class_next label (labels_of p) (range_of problem p) item is.some at

  joins : Joins problem ys item fill next.fill
  joins = record {
    some = used_some problem p label b low;
    class = b.legal.classes label;
    first = are;
    second = (is.alone item).fill ∙ ap (λ x. fill_of (sums_of problem (x ∷ []))) (sym at);
    low = class_low problem p (labels_of p) label b;
    own_low = subst (λ (x : Item). x.sender ≤ top) (sym at) (in_range (λ (item : Item). item.sender ≤ top) p.first p.many problem.items b.inside (senders_low problem b.stands) n item is.some);
  }

  pub put_kind : AreAlike fill next.fill → AreOneKind (class_of label (labels_of p ++ label ∷ []) (range_of problem p))
  put_kind alike = subst AreOneKind (sym next_is) (joins_alike problem ys item fill next.fill joins alike).0

  pub may_put_is : (bytes : ℕ) → AreAlike fill next.fill → bytes ≡ bytes_of_items (class_of label (labels_of p ++ label ∷ []) (range_of problem p))
      → nat_le bytes 64 ≡ keeps_legal (range_of problem p) (labels_of p) label
  may_put_is bytes alike same =
      ap (λ m. nat_le m 64) same ∙ ap (λ zs. nat_le (bytes_of_items zs) 64) next_is
      ∙ sym (joins_alike problem ys item fill next.fill joins alike).1 ∙ ap is_class (sym next_is)

  pub may_not_put : (AreAlike fill next.fill → ⊥) → false ≡ keeps_legal (range_of problem p) (labels_of p) label
  may_not_put apart = sym (joins_apart problem ys item fill next.fill joins apart) ∙ ap is_class (sym next_is)

-- the last label is low
pub last_low : (problem : Parts) (p : Partial) (q : List ℕ) (l : ℕ) → Belongs problem p → labels_of p ≡ q ++ l ∷ [] → l + 1 ≤ 128
last_low problem p q l b e =
    let legal : IsPartial (range_of problem p) (q ++ l ∷ []) = subst (IsPartial (range_of problem p)) e b.legal in
    omega (
      arith,
      next-low (range_of problem p) q l legal,
      classes_low (range_of problem p) q (partial-append (range_of problem p) q (l ∷ []) legal),
      ap length e,
      length-append q (l ∷ []),
      counted problem p b,
      b.within,
      few problem p b,
    )

-- the load with one more label
pub load_put : (problem : Parts) (p : Partial) (label : ℕ) (next : Class) → Belongs problem p → IsNext problem p next → label ≤ classes_of (labels_of p)
    → (load_of_items problem (items_with problem p label) ≤ load_of problem (range_of problem p) (labels_of p))
    × (load_of problem (range_of problem p) (labels_of p) ≤ 12800000000000000000000000)
    × (load_of_items problem (class_of label (labels_of p ++ label ∷ []) (range_of problem p)) ≤ 100000000000000000000000)
    × (load_of problem (range_of problem p) (labels_of p ++ label ∷ []) + load_of_items problem (items_with problem p label)
    ≡ load_of problem (range_of problem p) (labels_of p) + load_of_items problem (class_of label (labels_of p ++ label ∷ []) (range_of problem p)))
load_put problem p label next b is low =
    let range = range_of problem p in
    let put = over_put (load_of_items problem) (no_load problem) range (labels_of p) label low in
    let all = loads_low problem range (labels_of p) b.stands (λ k lt. used_signal problem p k b lt) in (
      put.1,
      omega (arith, all, classes_few problem p b, b.within, few problem p b),
      load_low problem (class_of label (labels_of p ++ label ∷ []) range) b.stands (next_signal problem p label next b is),
      put.0,
    )

-- the sender of an item is kept of it
sender_is : (problem : Parts) (item : Item) (fill : Fill) → item.sender ≤ top → IsFill problem (item ∷ []) fill → fill.sender ≡ item.sender
sender_is problem item fill low are =
    let first : fill.sender ≡ fold min top (item.sender ∷ []) = ap (λ (f : Fill). f.sender) are in
    let least : fold min top (item.sender ∷ []) ≡ item.sender = omega arith in
    first ∙ least

-- so is that of each item of a range
pub item_sender : (problem : Parts) (p : Partial) (i : ℕ) (d : Class) (item : Item) → Belongs problem p → i < p.many → (get_or p.items.items i d).fill.sender ≡ (get_or (range_of problem p) i item).sender
item_sender problem p i d item b lt =
    let here : i < length (range_of problem p) = omega (arith, lt, long problem p b) in
    sender_is problem (get_or (range_of problem p) i item) (get_or p.items.items i d).fill
    (in_range (λ (item : Item). item.sender ≤ top) p.first p.many problem.items b.inside (senders_low problem b.stands) i item here) (b.items i d item here).fill

-- and that of the next item
pub next_sender : (problem : Parts) (p : Partial) (next : Class) (d : Item) → Belongs problem p → IsNext problem p next → next.fill.sender ≡ (get_or (range_of problem p) (length (labels_of p)) d).sender
next_sender problem p next d b is =
    sender_is problem (get_or (range_of problem p) (length (labels_of p)) d) next.fill
    (in_range (λ (item : Item). item.sender ≤ top) p.first p.many problem.items b.inside (senders_low problem b.stands) (length (labels_of p)) d is.some) (is.alone d).fill

-- a later item of a range is of no lower sender
pub range_rises : (problem : Parts) (p : Partial) (i j : ℕ) (d e : Item) → Belongs problem p → i ≤ j → j < p.many → (get_or (range_of problem p) i d).sender ≤ (get_or (range_of problem p) j e).sender
range_rises problem p i j d e b le lt =
    let all = rises_at 0 problem.items (problem_rises problem b.stands) (p.first + i) (p.first + j) d e (omega (arith, le)) (omega (arith, lt, b.inside)) in
    let one = ap (λ (x : Item). x.sender) (range_at p.first p.many problem.items i d (omega (arith, le, lt))) in
    let other = ap (λ (x : Item). x.sender) (range_at p.first p.many problem.items j e lt) in
    omega (arith, all, one, other)

-- the sender in work is that of the last item with a label
pub work_is : (problem : Parts) (p : Partial) (n : ℕ) (d : Item) → Belongs problem p → n + 1 ≡ p.count → sender_in_work (range_of problem p) (labels_of p) ≡ Some (get_or (range_of problem p) n d).sender
work_is problem p n d b last =
    ap (λ m. last_sender (take m (range_of problem p))) (counted problem p b ∙ sym last)
    ∙ last-take (range_of problem p) n d (omega (arith, last, b.within, long problem p b))

-- where the next item is of another sender, its sender has no classes yet
pub other_sender : (problem : Parts) (p : Partial) (n s : ℕ) (d e : Item) → Belongs problem p → n + 1 ≡ p.count → p.count < p.many → (get_or (range_of problem p) p.count e).sender ≡ s
    → ((get_or (range_of problem p) n d).sender ≡ s → ⊥) → slacks_of problem s (range_of problem p) (labels_of p) ≡ 0
other_sender problem p n s d e b last some here other =
    slacks_none problem s (range_of problem p) (labels_of p) (subst (λ m. All (λ (x : Item). nat_eq x.sender s ≡ false) (take m (range_of problem p))) (sym (counted problem p b)) earlier)
  where
    earlier : All (λ (x : Item). nat_eq x.sender s ≡ false) (take p.count (range_of problem p))
    earlier i f lt =
        let within : i < p.count = omega (arith, lt, length-take-le p.count (range_of problem p) (omega (arith, long problem p b, b.within))) in
        let first = range_rises problem p i n f d b (omega (arith, within, last)) (omega (arith, last, some)) in
        let second = range_rises problem p n p.count d e b (omega (arith, last)) some in
        let at : get_or (take p.count (range_of problem p)) i f ≡ get_or (range_of problem p) i f = get_or-take p.count (range_of problem p) i f within in
        ap (λ (x : Item). nat_eq x.sender s) at ∙ ne_eqb (get_or (range_of problem p) i f).sender s (λ same. other (let between : (get_or (range_of problem p) n d).sender ≡ s = omega (arith, first, second, here, same) in between))

-- the slack with one more label
pub slack_put : (problem : Parts) (p : Partial) (label : ℕ) (next : Class) → Belongs problem p → IsNext problem p next → label ≤ classes_of (labels_of p)
    → ClassStands (class_of label (labels_of p ++ label ∷ []) (range_of problem p))
    → (slack_of problem (items_with problem p label) ≤ slacks_of problem next.fill.sender (range_of problem p) (labels_of p))
    × (slacks_of problem next.fill.sender (range_of problem p) (labels_of p) ≤ 12800000000000000000000000)
    × (slack_of problem (class_of label (labels_of p ++ label ∷ []) (range_of problem p)) ≤ 100000000000000000000000)
    × (slack_at problem (range_of problem p) (labels_of p ++ label ∷ []) + slack_of problem (items_with problem p label)
    ≡ slacks_of problem next.fill.sender (range_of problem p) (labels_of p) + slack_of problem (class_of label (labels_of p ++ label ∷ []) (range_of problem p)))
slack_put problem p label next b is low class =
    let range = range_of problem p in
    let n = length (labels_of p) in
    let (item, at) = element range n is.some in
    let put = slacks_put problem range (labels_of p) label item low (class_next label (labels_of p) range item is.some at) class in
    let own : next.fill.sender ≡ item.sender = next_sender problem p next item b is ∙ ap (λ (x : Item). x.sender) (sym at) in
    let work : sender_in_work range (labels_of p ++ label ∷ []) ≡ Some item.sender =
    ap (λ m. last_sender (take m range)) (length-append (labels_of p) (label ∷ [])) ∙ last-take range n item is.some ∙ ap (λ (x : Item). Some x.sender) (sym at) in
    let after : slack_at problem range (labels_of p ++ label ∷ []) ≡ slacks_of problem item.sender range (labels_of p ++ label ∷ []) = ap (slack_in_work problem range (labels_of p ++ label ∷ [])) work in
    let before : slacks_of problem next.fill.sender range (labels_of p) ≡ slacks_of problem item.sender range (labels_of p) = ap (λ s. slacks_of problem s range (labels_of p)) own in (
      omega (arith, put.1, before),
      omega (arith, slacks_low problem next.fill.sender range (labels_of p) b.stands, classes_few problem p b, b.within, few problem p b),
      slack_low problem (class_of label (labels_of p ++ label ∷ []) range) b.stands,
      omega (arith, put.0, after, before),
    )
