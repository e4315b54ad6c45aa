use Rattle.std.proofs.Common.{◌∷◌, List, ℕ, ap, sym, ◌∙◌, refl}
use Rattle.pack_model.specs.declared.item.Item.{Item}
use Rattle.grouping_tree.specs.Walk.{places_left}
use Rattle.cert_check.specs.Places.{labels_at}
use Rattle.cert_check.specs.Walk.{items_of}
use Rattle.cert_check.proofs.Nexts.{passed, range_is}
use Rattle.cert_check.proofs.walk.Walk.pass.Goals as goal

pub returns-clause-passes : goal.returns-clause-passes
returns-clause-passes c =
    let items : List Item = items_of c.args.problem.now c.args.self.now in
    let range = range_is c.args.problem.now c.args.self.now c.requires.walks in
    let old : List ℕ = labels_at c.args.self.now.place in
    let new : List ℕ = labels_at c.leave.new.self in record {
      failed = refl;
      least = refl;
      places = passed c.leave.result (places_left items 0 old) (new ∷ places_left items 0 new)
          (λ went. ap (λ xs. places_left xs 0 old) (sym range) ∙ c.leave.ensures.next went
          ∙ ap (λ xs. new ∷ places_left xs 0 new) (c.leave.ensures.over.range ∙ range))
          (λ went. ap (λ xs. places_left xs 0 old) (sym range) ∙ c.leave.ensures.none went);
    }
