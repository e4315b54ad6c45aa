use Rattle.std.proofs.Common.{◌≡◌, ℕ, ◌++◌, List, length, take, drop, ap, sym, ◌∙◌}
use Rattle.std.specs.List.{refill}
use Rattle.std.proofs.Math.Seq.{take-append_seam}
use Rattle.bandwidth_bound.proofs.Orders.{order-before}
use Rattle.bandwidth_bound.proofs.failing.go_back.Goals as goal

-- a list that is filled up with one as long is that one
whole : (xs ws : List ℕ) → length ws ≡ length xs → refill (length xs) xs ws ≡ ws
whole xs ws long =
    ap (λ n. take n (ws ++ drop (length ws) xs)) (sym long) ∙ take-append_seam ws (drop (length ws) xs)

pub returns : goal.returns
returns c =
    let now : List ℕ = c.as_mut_slice.result.now in
    let next : List ℕ = c.swap.new.self in
    let same = c.as_mut_slice.ensures.value in
    record {
      below = λ rest was.
          whole c.args.order.now.items next (c.swap.ensures.len ∙ ap length same)
          ∙ order-before c.args.members.now now next rest c.args.k c.requires.ascending c.requires.inside
          (same ∙ was) c.swap.ensures.len c.swap.ensures.by_index;
    }
