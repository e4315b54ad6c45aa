use Rattle.std.proofs.Common.{[], ◌∷◌, get_or, sym, subst, arith}
use Rattle.grouping_tree.specs.Class.{IsClass}
use Rattle.grouping_tree.specs.Grouped.{range_of}
use Rattle.grouping_tree.proofs.Used.{counted, long}
use Rattle.grouping_tree.proofs.partial.Partial.next_alone.Goals as goal

pub index-requires : goal.index-requires
index-requires c =
    let (problem, b, some) = c.requires in
    omega (arith, some, counted problem c.args.self.now b, long problem c.args.self.now b, b.enough, b.items_room)

pub returns : goal.returns
returns c = λ problem b.
    let (other, belongs, left) = c.requires in
    let p = c.args.self.now in
    let many = counted problem p b in
    record {
      some = omega (arith, left, counted other p belongs, long other p belongs, many, long problem p b);
      alone = λ d.
          subst (λ n. IsClass problem (get_or (range_of problem p) n d ∷ []) c.index.result.now) (sym many)
          (subst (IsClass problem (get_or (range_of problem p) p.count d ∷ [])) (sym c.index.ensures)
          (b.items p.count c.index.result.now d
          (omega (arith, left, counted other p belongs, long other p belongs, long problem p b))));
    }
