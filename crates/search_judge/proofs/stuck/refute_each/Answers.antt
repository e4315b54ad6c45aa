use Rattle.std.proofs.Common.{◌≡◌, ℕ, ◌<◌, ◌++◌, ◌∷◌, [], List, length, get_or, All, sym, ap, subst, ◌∙◌, arith}
use Rattle.std.proofs.lemmas.List.{map_push, take_more}
use Rattle.std.proofs.lemmas.List.Elements.{All-push}
use Rattle.response_test.specs.declared.evidence.Evidence.{Evidence}
use Rattle.bandwidth_bound.specs.Failing.{numbers_of}
use Rattle.search_judge.specs.Stuck.{HasEvidence}
use Rattle.search_judge.proofs.stuck.refute_each.Goals as goal

pub loop-own-preserved : goal.loop-own-preserved
loop-own-preserved c =
    let inv = c.loop-own.invariant in
    let members : List ℕ = c.args.members.now in
    let i : ℕ = c.loop-own.own-index in
    let own : ℕ = get_or members i 0 in
    let inside : i < length members = omega arith in
    let named : List (ℕ × Evidence) = c.loop-own.named.items in
    let entry : ℕ × Evidence = (own, c.in_ok-evidence.evidence) in
    let pushed : c.push.new.self.items ≡ named ++ entry ∷ [] = c.in_ok-push.ensures.items in
    let Has : ℕ × Evidence → Type 0 = HasEvidence c.args.frames.now c.args.bit c.args.hyper members in
    record {
      members = ap numbers_of pushed ∙ map_push (λ (e : ℕ × Evidence). e.0) named entry
          ∙ ap (λ l. l ++ own ∷ []) inv.members ∙ sym (take_more members i 0 inside);
      evidence = subst (All Has) (sym pushed) (All-push Has named entry inv.evidence c.in_ok-evidence.ensures);
    }
