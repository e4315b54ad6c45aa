-- Whether the next item is of the sender in work, and the labels that it can't get.
use Rattle.std.proofs.Common.{◌≡◌, ◌↔◌, ℕ, ◌+◌, ◌-◌, ◌<◌, ◌≤◌, ◌⊎◌, inl, inr, IsTrue, nat_eq, nat_lt, Some, None, [], ◌∷◌, ◌++◌, length, take, get_or, sym, ap, ◌∙◌, arith, length-append}
use Rattle.std.proofs.lemmas.Bool.{cases_eq, eq-eqb, eqb-true, false≢true, le-ltb}
use Rattle.std.proofs.lemmas.Option.{same_Some}
use Rattle.pack_model.specs.declared.item.Item.{Item}
use Rattle.pack_model.specs.Problem.{Parts}
use Rattle.grouping_tree.specs.declared.class.Class.{Class}
use Rattle.class_frame.proofs.GroupingLaws.{used}
use Rattle.grouping_tree.specs.Grouped.{AreEarlier, Belongs, IsNext, labels_of, range_of}
use Rattle.grouping_tree.specs.Slack.{last_sender, sender_in_work, slacks_of}
use Rattle.grouping_tree.specs.declared.partial.Partial.{Partial}
use Rattle.grouping_tree.proofs.Classes.{get_or-front}
use Rattle.grouping_tree.proofs.Steps.{element}
use Rattle.grouping_tree.proofs.Used.{counted, item_sender, long, next_sender, other_sender, range_rises, work_is}

-- where no item has a label no sender is in work
pub no_work : (problem : Parts) (p : Partial) (s : ℕ) → p.count ≤ 0
    → IsTrue (nat_lt 0 p.count) ↔ (sender_in_work (range_of problem p) (labels_of p) ≡ Some s)
no_work problem p s none =
    (λ some. absurd (false≢true (sym (le-ltb 0 p.count none) ∙ some)), λ e. apart (sym idle ∙ e))
  where
    idle : sender_in_work (range_of problem p) (labels_of p) ≡ None
    idle =
        ap (λ n. last_sender (take (length (take n p.labels.items)) (range_of problem p)))
        (let e : p.count ≡ 0 = omega arith in e)

    apart : None ≡ Some s → IsTrue (nat_lt 0 p.count)
    apart e = absurd cc

-- else it is that of the last item with a label
pub in_work_is : (problem : Parts) (p : Partial) (n s : ℕ) (last : Class) → Belongs problem p
    → n + 1 ≡ p.count → last ≡ get_or p.items.items n last
    → IsTrue (nat_eq last.fill.sender s) ↔ (sender_in_work (range_of problem p) (labels_of p) ≡ Some s)
in_work_is problem p n s last b next at =
    let range = range_of problem p in
    let (item, is) = element range n (omega (arith, next, b.within, long problem p b)) in
    let own : last.fill.sender ≡ (get_or range n item).sender =
    ap (λ (x : Class). x.fill.sender) at
    ∙ item_sender problem p n last item b (omega (arith, next, b.within)) in
    let work = work_is problem p n item b next in (
      λ e. work ∙ ap Some (sym own ∙ eqb-true last.fill.sender s e),
      λ e. eq-eqb last.fill.sender s (own ∙ same_Some (get_or range n item).sender s (sym work ∙ e)),
    )

-- the next item's sender is kept of it
next_is : (problem : Parts) (p : Partial) (next : Class) (d : Item) → Belongs problem p → IsNext problem p next
    → next.fill.sender ≡ (get_or (range_of problem p) p.count d).sender
next_is problem p next d b is =
    next_sender problem p next d b is
    ∙ ap (λ m. (get_or (range_of problem p) m d).sender) (counted problem p b)

-- where it is of another sender, its sender has no slacks yet
pub no_slacks : (problem : Parts) (p : Partial) (next : Class) → Belongs problem p → IsNext problem p next
    → (sender_in_work (range_of problem p) (labels_of p) ≡ Some next.fill.sender → ⊥)
    → slacks_of problem next.fill.sender (range_of problem p) (labels_of p) ≡ 0
no_slacks problem p next b is other = by (cases_eq p.count 0)
  where
    by : (p.count ≡ 0) ⊎ (p.count ≡ 0 → ⊥)
        → slacks_of problem next.fill.sender (range_of problem p) (labels_of p) ≡ 0
    by (inl none) =
        ap (λ n. slacks_of problem next.fill.sender (range_of problem p) (take n p.labels.items)) none
    by (inr some) =
        let n : ℕ = p.count - 1 in
        let last : n + 1 ≡ p.count = omega (arith, some) in
        let (item, at) = element (range_of problem p) n (omega (arith, last, b.within, long problem p b)) in
        other_sender problem p n next.fill.sender item item b last
        (omega (arith, is.some, counted problem p b, long problem p b))
        (sym (next_is problem p next item b is))
        (λ same. other (work_is problem p n item b last ∙ ap Some same))

-- the labels of earlier senders stay those where the next item is of the sender in work
pub earlier_stays : (problem : Parts) (p : Partial) (next : Class) (label : ℕ) → Belongs problem p
    → IsNext problem p next → sender_in_work (range_of problem p) (labels_of p) ≡ Some next.fill.sender
    → AreEarlier (range_of problem p) (labels_of p ++ label ∷ []) p.first_label
earlier_stays problem p next label b is same k lt =
    let labels = labels_of p in
    let range = range_of problem p in
    let old = b.first k lt in
    let more : length (labels ++ label ∷ []) ≡ length labels + 1 = length-append labels (label ∷ []) in
    record {
      place = old.place;
      low = omega (arith, old.low, more);
      has = get_or-front labels (label ∷ []) old.place 0 (omega (arith, old.low)) ∙ old.has;
      before = λ d e.
          let n : ℕ = length labels - 1 in
          let work = work_is problem p n e b (omega (arith, old.low, counted problem p b)) in
          let last : (get_or range n e).sender ≡ next.fill.sender =
          same_Some (get_or range n e).sender next.fill.sender (sym work ∙ same) in
          let here : length (labels ++ label ∷ []) - 1 ≡ p.count = omega (arith, more, counted problem p b) in
          let at : (get_or range (length (labels ++ label ∷ []) - 1) e).sender ≡ next.fill.sender =
          ap (λ m. (get_or range m e).sender) here ∙ sym (next_is problem p next e b is) in
          omega (arith, old.before d e, last, at);
    }

-- and are all used ones where it is of another
pub earlier_all : (problem : Parts) (p : Partial) (next : Class) (label : ℕ) → Belongs problem p
    → IsNext problem p next
    → (sender_in_work (range_of problem p) (labels_of p) ≡ Some next.fill.sender → ⊥)
    → AreEarlier (range_of problem p) (labels_of p ++ label ∷ []) p.classes
earlier_all problem p next label b is other k lt =
    let labels = labels_of p in
    let range = range_of problem p in
    let (i, low, has) = used labels b.legal.by_first_use k (omega (arith, lt, b.classes)) in
    let more : length (labels ++ label ∷ []) ≡ length labels + 1 = length-append labels (label ∷ []) in
    record {
      place = i;
      low = omega (arith, low, more);
      has = get_or-front labels (label ∷ []) i 0 low ∙ has;
      before = λ d e.
          let n : ℕ = p.count - 1 in
          let last : n + 1 ≡ p.count = omega (arith, low, counted problem p b) in
          let some : p.count < p.many = omega (arith, is.some, counted problem p b, long problem p b) in
          let first =
          range_rises problem p i n d e b (omega (arith, low, last, counted problem p b))
          (omega (arith, last, some)) in
          let second = range_rises problem p n p.count e e b (omega (arith, last)) some in
          let apart : (get_or range n e).sender ≡ (get_or range p.count e).sender → ⊥ =
          λ same. other (work_is problem p n e b last
          ∙ ap Some (same ∙ sym (next_is problem p next e b is))) in
          let here : length (labels ++ label ∷ []) - 1 ≡ p.count = omega (arith, more, counted problem p b) in
          let at : (get_or range (length (labels ++ label ∷ []) - 1) e).sender
          ≡ (get_or range p.count e).sender =
          ap (λ m. (get_or range m e).sender) here in
          omega (arith, first, second, apart, at);
    }
