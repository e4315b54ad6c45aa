use Rattle.std.proofs.Common.{length, length-take-le, arith, ap, sym}
use Rattle.grouping_tree.proofs.After.{frames_are, frames_bit, frames_common, frames_count, frames_few, frames_in_range, frames_within}
use Rattle.grouping_tree.proofs.partial.Partial.frames.Goals as goal

pub slice_bounds-result-end : goal.slice_bounds-result-end
slice_bounds-result-end c =
    let (problem, b) = c.requires in
    sym (length-take-le c.args.self.now.classes c.deref.result.now (omega (arith, frames_within problem c.args.self.now b, ap length c.deref.ensures.value)))

pub returns-clause-value : goal.returns-clause-value
returns-clause-value c = λ problem b. frames_are problem c.args.self.now b c.deref.result.now c.deref.ensures.value

pub returns-clause-in_range : goal.returns-clause-in_range
returns-clause-in_range c =
    let (problem, b) = c.requires in
    frames_in_range problem c.args.self.now b _ (frames_are problem c.args.self.now b c.deref.result.now c.deref.ensures.value)

pub returns-clause-count : goal.returns-clause-count
returns-clause-count c =
    let (problem, b) = c.requires in
    frames_count problem c.args.self.now b _ (frames_are problem c.args.self.now b c.deref.result.now c.deref.ensures.value)

pub returns-clause-few : goal.returns-clause-few
returns-clause-few c =
    let (problem, b) = c.requires in
    frames_few problem c.args.self.now b _ (frames_are problem c.args.self.now b c.deref.result.now c.deref.ensures.value)

pub returns-clause-bit : goal.returns-clause-bit
returns-clause-bit c = λ problem b. frames_bit problem c.args.self.now b _ (frames_are problem c.args.self.now b c.deref.result.now c.deref.ensures.value)

pub returns-clause-common : goal.returns-clause-common
returns-clause-common c = λ problem b. frames_common problem c.args.self.now b _ (frames_are problem c.args.self.now b c.deref.result.now c.deref.ensures.value)
