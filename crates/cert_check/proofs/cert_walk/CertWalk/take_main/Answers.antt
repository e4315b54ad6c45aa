use Rattle.std.proofs.Common.{None, ap, refl, sym, ◌∙◌}
use Rattle.bandwidth_bound.specs.Goals.{eighths}
use Rattle.cert_check.specs.Said.{main_aim, may_leave_of}
use Rattle.cert_check.specs.Taken.{load_in}
use Rattle.cert_check.proofs.StoreLaws.{begun_stored, none_falls}
use Rattle.cert_check.proofs.cert_walk.CertWalk.take_main.Goals as goal

pub in_eighths-requires : goal.in_eighths-requires
in_eighths-requires c = c.best.ensures.room c.args.problem.now c.requires

pub returns : goal.returns
returns c = record {
  stores = λ rows s stores.
      let stays = sym c.failed.ensures ∙ c.if-failed.false in
      let stay = none_falls c.args.self.now stays in
      begun_stored c.args.problem.now rows c.args.self.now s stores
      (main_aim s.kind (load_in c.args.self.now.placing)) s.last s.values stays tt c.begin.new.self
      c.args.self.now.last c.begin.ensures.walks c.begin.ensures.begins
      (c.begin.ensures.aim ∙ (λ i. record {
        range = None;
        value = (c.in_eighths.ensures ∙ ap eighths c.best.ensures.value) i;
        may_leave = (c.may_leave.ensures ∙ ap may_leave_of stores.kind) i;
      }))
      (c.begin.ensures.values ∙ (stores.in_tree stay.0).kept) (stores.last stay.0) (λ i. s.values);
  placing = refl;
}
