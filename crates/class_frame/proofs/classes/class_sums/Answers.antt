use Rattle.std.proofs.Common.{◌≤◌, ◌∷◌, [], get_or, take, ap, ◌∙◌, refl, arith, length-take-le}
use Rattle.std.proofs.Math.ListN.{length-set}
use Rattle.std.proofs.lemmas.List.{take_all, get_or-replicate}
use Rattle.std.proofs.lemmas.List.Elements.{All-take}
use Rattle.pack_model.specs.declared.item.Item.{Item}
use Rattle.class_frame.specs.Grouping.{class_of}
use Rattle.class_frame.specs.Sums.{sums_of}
use Rattle.class_frame.proofs.GroupingLaws.{All-class_of, length-class_of}
use Rattle.class_frame.proofs.Tables.{joins_its_class, joined_small}
use Rattle.class_frame.proofs.classes.class_sums.Goals as goal

pub loop-number-init : goal.loop-number-init
loop-number-init c = record { sized = refl; each = λ k d low. get_or-replicate 128 k c.none-sums.result d low ∙ c.none-sums.ensures c.args.problem.now }

pub join-requires : goal.join-requires
join-requires c =
    let n = c.loop-number.number in
    let label = get_or c.args.labels.now c.loop-number.number 0 in
    record {
      small = joined_small c.args.problem.now (class_of label (take n c.args.labels.now) (take n c.args.items.now)) c.index-items-number.result _ c.of.result
          (omega (arith, length-class_of label (take n c.args.labels.now) (take n c.args.items.now), length-take-le n c.args.items.now, c.requires.few))
          (All-class_of (λ (item : Item). item.bits ≤ 512) label (take n c.args.labels.now) (take n c.args.items.now) (All-take (λ (item : Item). item.bits ≤ 512) n c.args.items.now c.requires.small))
          (omega (arith, c.requires.small n c.index-items-number.result (omega arith), ap (λ (x : Item). x.bits) c.index-items-number.is))
          (c.loop-number.invariant.each label _ (c.requires.low c.loop-number.number 0 (omega (arith, c.requires.each))))
          c.of.ensures;
    }

pub loop-number-preserved : goal.loop-number-preserved
loop-number-preserved c =
    let label = get_or c.args.labels.now c.loop-number.number 0 in
    record {
      sized = simp length-set c.loop-number.invariant.sized;
      each = joins_its_class c.args.problem.now c.args.labels.now c.args.items.now c.loop-number.sums 128 c.loop-number.number label c.index-items-number.result c.join.result
          c.requires.each (omega arith) c.index-items-number.is (λ i. label) (omega (arith, c.requires.low c.loop-number.number 0 (omega (arith, c.requires.each)), c.loop-number.invariant.sized))
          c.loop-number.invariant.each
          (c.join.ensures.sums c.args.problem.now (class_of label (take c.loop-number.number c.args.labels.now) (take c.loop-number.number c.args.items.now)) (c.index-items-number.result ∷ []) (c.loop-number.invariant.each label _ (c.requires.low c.loop-number.number 0 (omega (arith, c.requires.each)))) c.of.ensures);
    }

pub returns : goal.returns
returns c = λ label d low.
    c.loop-number.invariant.each label d low
    ∙ ap (λ ls. sums_of c.args.problem.now (class_of label ls (take c.loop-number.number c.args.items.now))) (take_all c.loop-number.number c.args.labels.now (omega (arith, c.requires.each)))
    ∙ ap (λ xs. sums_of c.args.problem.now (class_of label c.args.labels.now xs)) (take_all c.loop-number.number c.args.items.now (omega arith))
