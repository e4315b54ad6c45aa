use Rattle.std.proofs.Common.{Some, ap, refl, set, subst, sym, ◌∙◌}
use Rattle.cert_check.specs.Said.{lemma_aim}
use Rattle.cert_check.specs.Taken.{ComesNext}
use Rattle.cert_check.proofs.Nexts.{said}
use Rattle.cert_check.proofs.StoreLaws.{begun_stored, none_falls}
use Rattle.cert_check.proofs.cert_walk.CertWalk.take_lemma.Goals as goal

pub returns : goal.returns
returns c = record {
  stores = λ rows s stores.
      let stays = sym c.failed.ensures ∙ c.if-failed.false in
      let stay = none_falls c.args.self.now stays in
      begun_stored c.args.problem.now rows c.args.self.now s stores (lemma_aim c.args.sender c.args.value)
      (Some c.args.sender) (set s.values c.args.sender c.args.value) stays
      (subst (λ last. ComesNext c.args.problem.now last (Some c.args.sender)) (stores.last stay.0)
      (said c.comes_next.result (ComesNext c.args.problem.now c.args.self.now.last (Some c.args.sender))
      c.if-not-comes_next.false c.comes_next.ensures))
      c.begin.new.self (Some c.args.sender) c.begin.ensures.walks c.begin.ensures.begins c.begin.ensures.aim
      (c.begin.ensures.values ∙ c.keep_value.ensures.values
      ∙ ap (λ vs. set vs c.args.sender c.args.value) (stores.in_tree stay.0).kept)
      refl refl;
  placing = refl;
}
