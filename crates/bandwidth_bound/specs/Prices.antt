-- The lower bound: what the items that are not placed cost at least, in eighths of ticks a common period. The
-- project's own.
use Rattle.std.specs.Prelude.{ℕ, ◌+◌, ◌-◌, ◌*◌, ◌/◌, ◌^◌, min, max, List, [], ◌∷◌, length, drop, sum_by, slice_index_or, Option, None, Some}
use Rattle.std.specs.List.{range_with_len}
use Rattle.pack_model.specs.declared.item.Item.{Item}
use Rattle.pack_model.specs.Problem.{Parts, sent_by}
use Rattle.class_frame.specs.Frame.{period_of_items, weight_of_item}
use Rattle.grouping_tree.specs.Slack.{sender_in_work, slacks_of}
use Rattle.bandwidth_bound.specs.Bounds.{load8_of}

-- the price of an item: ten data bits for each byte of its weight, at the item's own period
abbrev pub price_of : Parts → Item → ℕ
price_of problem item =
    10 * problem.network.data_ticks * weight_of_item item
    * (problem.hyper / period_of_items problem (item ∷ []))

-- the prices of items together
abbrev pub prices_of : Parts → List Item → ℕ
prices_of problem items = sum_by (price_of problem) items

-- the second term: the prices of the items that the sender in work has left, less the slacks of its classes,
-- or 0 where that is negative
abbrev pub left8_of : Parts → List Item → List ℕ → Option ℕ → ℕ
left8_of problem items labels None = 0
left8_of problem items labels (Some sender) =
    prices_of problem (sent_by (drop (length labels) items) sender) - slacks_of problem sender items labels

-- the first sender without an item placed: items are by sender
abbrev pub next_sender : Option ℕ → ℕ
next_sender None = 0
next_sender (Some sender) = sender + 1

-- what the items of one sender cost at least: nothing where there are none, else the greater of their prices
-- and the sender's lemma
abbrev pub floor8_of : Parts → List ℕ → List Item → ℕ
floor8_of problem lemmas [] = 0
floor8_of problem lemmas (item ∷ items) =
    max (prices_of problem (item ∷ items)) (slice_index_or lemmas item.sender 0)

-- the third term: what the items of each sender without an item placed cost at least
abbrev pub later8_of : Parts → List ℕ → List Item → ℕ → ℕ
later8_of problem lemmas items first =
    sum_by (λ sender. floor8_of problem lemmas (sent_by items sender))
    (range_with_len first (length problem.senders - first))

-- the three terms of the bound together; lemmas are by sender, 0 where there is none
abbrev pub terms8_of : Parts → List ℕ → List Item → List ℕ → ℕ
terms8_of problem lemmas items labels =
    load8_of problem items labels + left8_of problem items labels (sender_in_work items labels)
    + later8_of problem lemmas items (next_sender (sender_in_work items labels))

-- the lower bound at a partial grouping of items, at most 2 to the power of 128 less 1
abbrev pub lower8_of : Parts → List ℕ → List Item → List ℕ → ℕ
lower8_of problem lemmas items labels = min (terms8_of problem lemmas items labels) (2 ^ 128 - 1)
