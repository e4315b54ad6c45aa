-- What the tests of a problem come to.
use Rattle.std.proofs.Common.{◌≡◌, ◌≤◌, ◌<◌, ℕ, Bool, false, List, [], length, Option, None, Some, Ok, Err, find, option_map, unwrap_or, if◌then◌else◌, refl, sym, ap, subst, ◌∙◌, arith, nat_eq, nat_lt, All}
use Rattle.std.proofs.lemmas.Bool.{ne_eqb, le-ltb, lt-ltb, eqb-false}
use Rattle.pack_model.specs.declared.network.Network.{Network}
use Rattle.pack_model.specs.declared.signal.Signal.{Signal}
use Rattle.pack_model.specs.declared.item.Item.{Item}
use Rattle.pack_model.specs.declared.problem.ProblemFault.TheVariants.{TooManyItems, PeriodsMixed}
use Rattle.pack_model.specs.Problem.{problem_of, parts_of, names_of, first_repeat, first_clash, items_in_order, items_of, senders_of, hyper_of, is_too_large, by_sender}
use Rattle.pack_model.proofs.OrderSteps.{all_numbered}

-- nothing that comes before the count of items refuses the signals
pub record IsAdmitted (signals : List Signal) : Type 0 where
  pub some : 0 < length signals
  pub few : length signals ≤ 2048
  pub different : first_repeat [] (names_of signals) ≡ None
  pub one_sender : first_clash [] signals ≡ None
  pub no_large : find is_too_large (items_in_order signals) ≡ None

none_mapped : (o : Option Item) → option_map (λ (item : Item). unwrap_or item.pdu 0) o ≡ None → o ≡ None
none_mapped None h = refl
none_mapped (Some item) h = absurd (let wrong : Some (unwrap_or item.pdu 0) ≡ None = h in cc)

-- what the steps of the call say together
pub admitted : (signals named checked ordered : List Signal) (items listed : List Item) (n : ℕ) (empty : Bool)
    (large : Option ℕ) → n ≡ length signals → empty ≡ nat_eq n 0 → empty ≡ false → n ≤ 2048 → named ≡ signals
    → first_repeat [] (names_of named) ≡ None → checked ≡ signals → first_clash [] checked ≡ None
    → items ≡ items_in_order ordered → ordered ≡ signals → listed ≡ items
    → large ≡ option_map (λ item. unwrap_or item.pdu 0) (find is_too_large listed) → large ≡ None
    → IsAdmitted signals
admitted signals named checked ordered items listed n empty large size tests not_empty few same_named
    different same_checked one made same_ordered same_listed searched none =
    let ne : n ≡ 0 → ⊥ = eqb-false n 0 (sym tests ∙ not_empty) in
    record {
      some = omega (arith, ne);
      few = omega arith;
      different = subst (λ s. first_repeat [] (names_of s) ≡ None) same_named different;
      one_sender = subst (λ s. first_clash [] s ≡ None) same_checked one;
      no_large = ap (find is_too_large) (sym (same_listed ∙ made ∙ ap items_in_order same_ordered))
          ∙ none_mapped (find is_too_large listed) (sym searched ∙ none);
    }

-- what is left to test
left : (network : Network) (signals : List Signal) → IsAdmitted signals
    → problem_of network signals
    ≡ (if nat_lt 128 (length (items_in_order signals)) then Err TooManyItems
    else if nat_lt 1000000000000000 (hyper_of network signals) then Err PeriodsMixed
    else Ok (parts_of network signals))
left network signals is =
    let some = is.some in
    let few = is.few in
    rw (
      ne_eqb (length signals) 0 (λ e. omega arith),
      le-ltb 2048 (length signals) few,
      is.different,
      is.one_sender,
      is.no_large,
    ) refl

-- the problem where no refusal applies
pub problem_stands : (network : Network) (signals : List Signal) → IsAdmitted signals
    → length (items_in_order signals) ≤ 128 → hyper_of network signals ≤ 1000000000000000
    → problem_of network signals ≡ Ok (parts_of network signals)
problem_stands network signals is small short =
    left network signals is
    ∙ ap (λ b. if b then Err TooManyItems else if nat_lt 1000000000000000 (hyper_of network signals)
    then Err PeriodsMixed else Ok (parts_of network signals))
    (le-ltb 128 (length (items_in_order signals)) small)
    ∙ ap (λ b. if b then Err PeriodsMixed else Ok (parts_of network signals))
    (le-ltb 1000000000000000 (hyper_of network signals) short)

-- and where there are too many items
pub items_too_many : (network : Network) (signals : List Signal) → IsAdmitted signals
    → 128 < length (items_in_order signals) → problem_of network signals ≡ Err TooManyItems
items_too_many network signals is many =
    left network signals is
    ∙ ap (λ b. if b then Err TooManyItems else if nat_lt 1000000000000000 (hyper_of network signals)
    then Err PeriodsMixed else Ok (parts_of network signals))
    (lt-ltb 128 (length (items_in_order signals)) many)

-- and where the common period is too long
pub periods_mixed : (network : Network) (signals : List Signal) → IsAdmitted signals
    → length (items_in_order signals) ≤ 128 → 1000000000000000 < hyper_of network signals
    → problem_of network signals ≡ Err PeriodsMixed
periods_mixed network signals is small long =
    left network signals is
    ∙ ap (λ b. if b then Err TooManyItems else if nat_lt 1000000000000000 (hyper_of network signals)
    then Err PeriodsMixed else Ok (parts_of network signals))
    (le-ltb 128 (length (items_in_order signals)) small)
    ∙ ap (λ b. if b then Err PeriodsMixed else Ok (parts_of network signals))
    (lt-ltb 1000000000000000 (hyper_of network signals) long)

-- the sorted items are the items of the signals
pub sorted_items : (signals ordered : List Signal) (items sorted : List Item) → items ≡ items_in_order ordered
    → ordered ≡ signals → ((senders : ℕ) → All (λ item. item.sender < senders) items
    → sorted ≡ by_sender senders items) → sorted ≡ items_of signals
sorted_items signals ordered items sorted made same sort =
    let is : items ≡ items_in_order signals = made ∙ ap items_in_order same in
    sort (length (senders_of signals))
    (subst (λ ys. All (λ item. item.sender < length (senders_of signals)) ys) (sym is)
    (all_numbered signals))
    ∙ ap (by_sender (length (senders_of signals))) is

-- parts with these items, senders and common period are those of the signals
pub same_parts : (network : Network) (signals : List Signal) (items : List Item) (senders : List (List ℕ))
    (hyper : ℕ) → items ≡ items_of signals → senders ≡ senders_of signals → hyper ≡ hyper_of network signals
    → parts_of network signals
    ≡ record { network = network; signals = signals; items = items; senders = senders; hyper = hyper }
same_parts network signals items senders hyper e f g =
    λ i. record { network = network; signals = signals; items = sym e i; senders = sym f i; hyper = sym g i }
