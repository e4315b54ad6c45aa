-- There are at most as many senders as items.
use Rattle.std.proofs.Common.{◌≡◌, ℕ, ◌<◌, ◌≤◌, List, [], length, get_or, map, All, Bool, true, false, refl, sym, ap, ◌∙◌, subst, arith}
use Rattle.std.specs.Cmp.Lexicographic.{nat_list_eq_equiv}
use Rattle.std.specs.List.{list_any}
use Rattle.std.specs.Str.{bytes_eq}
use Rattle.std.proofs.lemmas.List.{get_or-map, length-map}
use Rattle.std.proofs.lemmas.List.Folds.{Any-from_list_any, list_any_at}
use Rattle.std.proofs.lemmas.Map.Made.{distinct_count-le, length-from_keys}
use Rattle.pack_model.specs.declared.item.Item.{Item}
use Rattle.pack_model.specs.declared.signal.Signal.{Signal}
use Rattle.pack_model.specs.Problem.{Parts, IsProblem, IsSorted, senders_of}
use Rattle.pack_model.proofs.Classes.{IsDistinct-distinct}
use Rattle.pack_model.proofs.Distinct.{list_any-distinct}
use Rattle.pack_model.proofs.ItemFacts.{IsItemOf, in_an_item, items_of_signals, members_sender}
use Rattle.pack_model.proofs.Laws.{tests}
use Rattle.grouping_tree.proofs.Steps.{element}

-- two tests that are true of the same are one
one_test : (a b : Bool) → (a ≡ true → b ≡ true) → (b ≡ true → a ≡ true) → a ≡ b
one_test true b f g = sym (f refl)
one_test false true f g = g refl
one_test false false f g = refl

module _ (problem : Parts) (stands : IsProblem problem)
    (sorted : IsSorted problem.signals problem.items) where
  -- the names of the items' senders, and of the signals'
  abbrev names : List (List ℕ)
  names = map (λ item. get_or problem.senders item.sender []) problem.items

  abbrev from_signals : List (List ℕ)
  from_signals = map (λ (signal : Signal). signal.sender) problem.signals

  -- a member of an item has its sender's name
  member_name : (item : Item) (i k j : ℕ) (d : Signal) → i < length problem.items
      → get_or problem.items i item ≡ item → j < length item.members → get_or item.members j k ≡ k
      → (get_or problem.signals k d).sender ≡ get_or problem.senders item.sender []
  member_name item i k j d inside at among is =
      let all = subst (λ (x : Item). All (λ m. (e : Signal) → (get_or problem.signals m e).sender
      ≡ get_or problem.senders x.sender []) x.members) at (members_sender problem stands i item inside) in
      subst (λ m. (get_or problem.signals m d).sender ≡ get_or problem.senders item.sender []) is
      (all j k among d)

  -- the name of each signal's sender is that of an item
  named : (q : List ℕ) → list_any (bytes_eq q) from_signals ≡ true → list_any (bytes_eq q) names ≡ true
  named q e =
      let (k, x, inside, at, same) = Any-from_list_any (bytes_eq q) from_signals e in
      let low : k < length problem.signals =
      omega (arith, inside, length-map problem.signals (λ (signal : Signal). signal.sender)) in
      let (s, here) = element problem.signals k low in
      let (item, (i, within, is), (j, among, member)) =
      in_an_item problem.signals problem.items sorted k low in
      let name : get_or names i [] ≡ x =
      get_or-map (λ (y : Item). get_or problem.senders y.sender []) problem.items i item [] within
      ∙ ap (λ (y : Item). get_or problem.senders y.sender []) is
      ∙ sym (member_name item i k j s within is among member)
      ∙ sym (get_or-map (λ (signal : Signal). signal.sender) problem.signals k s x low) ∙ at in
      list_any_at (bytes_eq q) names i []
      (omega (arith, within, length-map problem.items (λ (y : Item). get_or problem.senders y.sender [])))
      (ap (bytes_eq q) name ∙ same)

  -- and the other way round
  signed : (q : List ℕ) → list_any (bytes_eq q) names ≡ true → list_any (bytes_eq q) from_signals ≡ true
  signed q e =
      let (i, x, inside, at, same) = Any-from_list_any (bytes_eq q) names e in
      let low : i < length problem.items =
      omega (arith, inside, length-map problem.items (λ (y : Item). get_or problem.senders y.sender [])) in
      let (item, here) = element problem.items i low in
      let of : IsItemOf problem.signals item =
      subst (IsItemOf problem.signals) (sym here) (items_of_signals problem.signals problem.items sorted i
      item low) in
      let name : get_or from_signals of.place [] ≡ x =
      get_or-map (λ (signal : Signal). signal.sender) problem.signals of.place of.signal [] of.within
      ∙ member_name item i of.place 0 of.signal low (sym here) (omega (arith, ap length of.members))
      (ap (λ ms. get_or ms 0 of.place) of.members)
      ∙ ap (λ (y : Item). get_or problem.senders y.sender []) here
      ∙ sym (get_or-map (λ (y : Item). get_or problem.senders y.sender []) problem.items i item x low) ∙ at in
      list_any_at (bytes_eq q) from_signals of.place []
      (omega (arith, of.within, length-map problem.signals (λ (signal : Signal). signal.sender)))
      (ap (bytes_eq q) name ∙ same)

  -- there are at most as many senders as items
  pub senders_few : length problem.senders ≤ length problem.items
  senders_few =
      let same : (q : List ℕ) → list_any (bytes_eq q) (senders_of problem.signals)
      ≡ list_any (bytes_eq q) names =
      λ q. list_any-distinct bytes_eq nat_list_eq_equiv q from_signals
      ∙ one_test (list_any (bytes_eq q) from_signals) (list_any (bytes_eq q) names) (named q) (signed q) in
      omega (
        arith,
        ap length (tests problem stands).senders,
        length-from_keys nat_list_eq_equiv (senders_of problem.signals) names
            (IsDistinct-distinct bytes_eq nat_list_eq_equiv from_signals) same,
        distinct_count-le bytes_eq names,
        length-map problem.items (λ (y : Item). get_or problem.senders y.sender []),
      )
