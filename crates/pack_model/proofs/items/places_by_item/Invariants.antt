use Rattle.std.proofs.Common.{◌≡◌, [], map, take, drop, All, false}
use Rattle.pack_model.specs.Items.{key_at, groups_of}
use Rattle.pack_model.specs.Problem.{placed, same_item, distinct, first_clash, is_clash}
use Rattle.pack_model.proofs.items.places_by_item.Given as goal

-- the items so far by key and by places; no clash so far, and where they end the search for one goes on
abbrev pub invariant-loop-place : goal.invariant-loop-place
invariant-loop-place l = record {
  keys : l.keys.keys ≡ map (λ e. key_at e.1.pdu e.0) (distinct same_item (take l.place (placed l.signals)));
  places : map (λ list. list.items) l.places.items ≡ groups_of (take l.place (placed l.signals));
  agree : All (λ s. All (λ t. is_clash s t ≡ false) (take l.place l.signals)) (take l.place l.signals);
  rest : first_clash (take l.place l.signals) (drop l.place l.signals) ≡ first_clash [] l.signals;
}
