-- The test whether two signals are of one item.
use Rattle.std.proofs.Common.{◌≡◌, ℕ, true, Option, None, Some, refl, sym, true≢false}
use Rattle.std.specs.Cmp.{IsEquivalence, nat_eq_equiv}
use Rattle.pack_model.specs.Problem.{is_one_item, same_item}

same_item-refl : (o : Option ℕ) (n : ℕ) → is_one_item o n o n ≡ true
same_item-refl None n = nat_eq_equiv.refl n
same_item-refl (Some id) n = nat_eq_equiv.refl id

same_item-symm : (o p : Option ℕ) (n m : ℕ) → is_one_item o n p m ≡ is_one_item p m o n
same_item-symm None None n m = nat_eq_equiv.symm n m
same_item-symm None (Some id) n m = refl
same_item-symm (Some id) None n m = refl
same_item-symm (Some id) (Some other) n m = nat_eq_equiv.symm id other

same_item-congr : (o p q : Option ℕ) (k m n : ℕ) → is_one_item o k p m ≡ true
    → is_one_item o k q n ≡ is_one_item p m q n
same_item-congr None None None k m n same = nat_eq_equiv.congr k m n same
same_item-congr None None (Some id) k m n same = refl
same_item-congr None (Some id) q k m n same = absurd (true≢false (sym same))
same_item-congr (Some id) None q k m n same = absurd (true≢false (sym same))
same_item-congr (Some id) (Some other) None k m n same = refl
same_item-congr (Some id) (Some other) (Some third) k m n same = nat_eq_equiv.congr id other third same

-- being of one item is an equivalence
pub same_item_equivalence : IsEquivalence same_item
same_item_equivalence = record {
  refl = λ e. same_item-refl e.1.pdu e.0;
  symm = λ e f. same_item-symm e.1.pdu f.1.pdu e.0 f.0;
  congr = λ e f g same. same_item-congr e.1.pdu f.1.pdu g.1.pdu e.0 f.0 g.0 same;
}
