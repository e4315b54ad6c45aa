-- The sums of each class, as one more item joins its class.
use Rattle.std.proofs.Common.{◌≡◌, ℕ, ◌+◌, ◌<◌, ◌≤◌, ◌⊎◌, inl, inr, cond, nat_eq, List, [], ◌∷◌, ◌++◌, length, get_or, take, set, All, sym, ap, subst, ◌∙◌, arith, append-nil, length-append}
use Rattle.std.proofs.lemmas.Bool.{cases_eq, eq-eqb, ne_eqb}
use Rattle.std.proofs.lemmas.Grind.{get_or-set_at}
use Rattle.std.proofs.lemmas.List.{get_or-set_other}
use Rattle.std.proofs.lemmas.List.Elements.{All-append, All-cons, All-nil}
use Rattle.pack_model.specs.declared.item.Item.{Item}
use Rattle.pack_model.specs.Problem.{Parts}
use Rattle.class_frame.specs.Grouping.{class_of}
use Rattle.class_frame.specs.declared.sums.Sums.{Sums}
use Rattle.class_frame.specs.Sums.{sums_of, joined, IsSmall}
use Rattle.class_frame.proofs.GroupingLaws.{class_of-more}
use Rattle.class_frame.proofs.Joining.{sums_of-append}
use Rattle.class_frame.proofs.Small.{sums_of-small}

-- one more item joins the sums of its label alone
pub joins_its_class : (problem : Parts) (labels : List ℕ) (items : List Item) (sums : List Sums) (n i label : ℕ) (item : Item) (next : Sums)
    → length labels ≡ length items → i < length items → item ≡ get_or items i item → get_or labels i 0 ≡ label → label < length sums
    → ((k : ℕ) (d : Sums) → k < n → get_or sums k d ≡ sums_of problem (class_of k (take i labels) (take i items)))
    → next ≡ sums_of problem (class_of label (take i labels) (take i items) ++ item ∷ [])
    → (k : ℕ) (d : Sums) → k < n → get_or (set sums label next) k d ≡ sums_of problem (class_of k (take (i + 1) labels) (take (i + 1) items))
joins_its_class problem labels items sums n i label item next same lt at here low before is k d within = by (cases_eq k label)
  where
    more : class_of k (take (i + 1) labels) (take (i + 1) items) ≡ class_of k (take i labels) (take i items) ++ cond (nat_eq label k) (item ∷ []) []
    more = class_of-more k labels items i item same lt at ∙ ap (λ l. class_of k (take i labels) (take i items) ++ cond (nat_eq l k) (item ∷ []) []) here

    by : (k ≡ label) ⊎ (k ≡ label → ⊥) → get_or (set sums label next) k d ≡ sums_of problem (class_of k (take (i + 1) labels) (take (i + 1) items))
    by (inl e) =
        get_or-set_at sums label k next d e low ∙ is
        ∙ ap (λ l. sums_of problem (class_of l (take i labels) (take i items) ++ item ∷ [])) (sym e)
        ∙ sym (ap (sums_of problem) (more ∙ ap (λ b. class_of k (take i labels) (take i items) ++ cond b (item ∷ []) []) (eq-eqb label k (sym e))))
    by (inr ne) =
        get_or-set_other sums label k next d ne ∙ before k d within
        ∙ sym (ap (sums_of problem) (more ∙ ap (λ b. class_of k (take i labels) (take i items) ++ cond b (item ∷ []) []) (ne_eqb label k (λ e. ne (sym e))) ∙ append-nil (class_of k (take i labels) (take i items))))

-- and these stay small
pub joined_small : (problem : Parts) (items : List Item) (item : Item) (a b : Sums) → length items ≤ 127 → All (λ item. item.bits ≤ 512) items → item.bits ≤ 512 → a ≡ sums_of problem items → b ≡ sums_of problem (item ∷ []) → IsSmall (joined a b)
joined_small problem items item a b few small one first second =
    subst IsSmall (sums_of-append problem items (item ∷ []) ∙ sym (λ i. joined (first i) (second i)))
    (sums_of-small problem (items ++ item ∷ []) (omega (arith, few, length-append items (item ∷ [])))
    (All-append (λ (x : Item). x.bits ≤ 512) items (item ∷ []) small (All-cons (λ (x : Item). x.bits ≤ 512) item [] one (All-nil (λ (x : Item). x.bits ≤ 512)))))
