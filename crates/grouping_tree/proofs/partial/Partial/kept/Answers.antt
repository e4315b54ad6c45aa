use Rattle.std.proofs.Common.{Some, unwrap_or, sym, subst, ap, ◌∙◌, arith}
use Rattle.fd_length.proofs.Sizes.{fd_size_of-some}
use Rattle.class_frame.specs.Frame.{bytes_of_items}
use Rattle.fd_length.specs.Size.{fd_size_of}
use Rattle.grouping_tree.specs.Grouped.{IsFrameLength, items_with}
use Rattle.grouping_tree.specs.declared.class.Fill.{Fill}
use Rattle.grouping_tree.proofs.Used.{used_room, used_small}
use Rattle.grouping_tree.proofs.partial.Partial.kept.Goals as goal

pub kept_of-kept-requires : goal.kept_of-kept-requires
kept_of-kept-requires c =
    let (problem, b) = c.requires.belongs in
    record { belongs = (problem, b); low = used_room problem c.args.self.now c.args.label b c.requires.used }

pub frame_bytes-requires : goal.frame_bytes-requires
frame_bytes-requires c =
    let (problem, b) = c.requires.belongs in
    omega (
      arith,
      (used_small problem c.args.self.now c.args.label b).pdus,
      ap (λ (f : Fill). f.pdus) (c.kept_of-kept.ensures problem b).fill,
    )

pub index-requires : goal.index-requires
index-requires c =
    let (problem, b) = c.requires.belongs in
    let items = items_with problem c.args.self.now c.args.label in
    let class = b.legal.classes c.args.label in
    omega (
      arith,
      b.sizes_room,
      class.small,
      c.frame_bytes.ensures problem items (c.kept_of-kept.ensures problem b).fill class.one_kind,
    )

pub returns-clause-timed : goal.returns-clause-timed
returns-clause-timed c = λ problem b. (c.kept_of-kept.ensures problem b).frame

pub returns-clause-weight : goal.returns-clause-weight
returns-clause-weight c = λ problem b. ap (λ (f : Fill). f.weight) (c.kept_of-kept.ensures problem b).fill

pub returns-clause-size : goal.returns-clause-size
returns-clause-size c = λ problem b.
    let p = c.args.self.now in
    let items = items_with problem p c.args.label in
    let class = b.legal.classes c.args.label in
    let bytes = c.frame_bytes.ensures problem items (c.kept_of-kept.ensures problem b).fill class.one_kind in
    let (size, at) = fd_size_of-some (bytes_of_items items) class.small in
    let long =
    subst (IsFrameLength problem.network c.frame_bytes.result) (sym c.index.ensures)
    (b.lengths c.frame_bytes.result c.index.result.now (omega (arith, bytes, class.small))) in
    ap Some (long.size ∙ ap (λ n. unwrap_or (fd_size_of n) 0) bytes ∙ ap (λ o. unwrap_or o 0) at) ∙ sym at
