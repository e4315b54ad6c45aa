use Rattle.std.proofs.Common.{◌≡◌, ◌<◌, ◌++◌, ◌∷◌, [], length, get_or, map, ap, ◌∙◌, arith, set, Vec, ℕ, Global}
use Rattle.pack_model.proofs.ItemSteps.{put_in, put_last}
use Rattle.pack_model.proofs.items.put_at.Goals as goal
use Rattle.pack_model.proofs.items.put_at.Goals.{then-number-len+in_ok-push, else-number-len}

pub returns-clause-lists : goal.returns-clause-lists
returns-clause-lists c =
    elim c.if-number-len.branch [
      | then-number-len+in_ok-push w ↦
          let last : c.args.number ≡ length c.args.lists.now.items = omega arith in
          let lists : c.if-number-len.lists.items ≡ c.args.lists.now.items ++ w.new.result ∷ [] =
          ap (λ (v : Vec (Vec ℕ Global) Global). v.items) w.lists-is ∙ w.in_ok-push.ensures.items in
          ap (λ ls. map (λ (v : Vec ℕ Global). v.items) (set ls c.args.number c.push-2.new.self)) lists
          ∙ put_last
          (λ v. v.items) c.args.lists.now.items c.args.number c.args.place w.new.result
          c.index_mut-list.result.now
          c.push-2.new.self last w.new.ensures.items
          (c.index_mut-list.ensures.value
          ∙ ap (λ ls. get_or ls c.args.number c.index_mut-list.result.now) lists)
          c.in_ok-push-2.ensures.items
      | else-number-len w ↦
          let inside : c.args.number < length c.args.lists.now.items = omega arith in
          let lists : c.if-number-len.lists.items ≡ c.args.lists.now.items =
          ap (λ (v : Vec (Vec ℕ Global) Global). v.items) w.lists-is in
          ap (λ ls. map (λ (v : Vec ℕ Global). v.items) (set ls c.args.number c.push-2.new.self)) lists
          ∙ put_in (λ v. v.items) c.args.lists.now.items c.args.number c.args.place
          c.index_mut-list.result.now
          c.push-2.new.self inside (c.index_mut-list.ensures.value
          ∙ ap (λ ls. get_or ls c.args.number c.index_mut-list.result.now) lists)
          c.in_ok-push-2.ensures.items
    ]
