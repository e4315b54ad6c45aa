-- Keys are equal where signals are of one item.
use Rattle.std.proofs.Common.{◌≡◌, ℕ, Bool, Option, None, Some, refl}
use Rattle.pack_model.specs.declared.signal.Signal.{Signal}
use Rattle.pack_model.specs.declared.items.Key.{Key}
use Rattle.pack_model.specs.contracts.items.KeyPartialEq.TheImpl.{eq-value}
use Rattle.pack_model.specs.Items.{key_at}
use Rattle.pack_model.specs.Problem.{is_one_item, same_item}

abbrev pub key_eq : Key → Key → Bool
key_eq = eq-value.it

at_places : (o p : Option ℕ) (k m : ℕ) → key_eq (key_at o k) (key_at p m) ≡ is_one_item o k p m
at_places None None k m = refl
at_places None (Some id) k m = refl
at_places (Some id) None k m = refl
at_places (Some id) (Some other) k m = refl

pub same_key : (e f : ℕ × Signal) → key_eq (key_at e.1.pdu e.0) (key_at f.1.pdu f.0) ≡ same_item e f
same_key e f = at_places e.1.pdu f.1.pdu e.0 f.0
