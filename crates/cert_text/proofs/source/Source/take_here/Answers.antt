use Rattle.std.proofs.Common.{◌-◌, ℕ, List, take, drop, refl, sym, ap, ◌∙◌}
use Rattle.cert_text.specs.CertText.{parts}
use Rattle.cert_text.proofs.SourceLaws.{here_found, here_none}
use Rattle.cert_text.proofs.source.Source.take_here.Goals as goal

pub returns-in_ok-extend_from_slice-in-None : goal.returns-in_ok-extend_from_slice-in-None
returns-in_ok-extend_from_slice-in-None c =
    here_none c.args.self.now _ (take (c.self.inside.upto - c.self.inside.from) (drop c.self.inside.from c.deref.result.now)) c.args.line.now.items c.extend_from_slice.new.self.items
    (sym (ap (λ v. v.left) c.self.view_is) ∙ ap (λ (x : List ℕ). take (c.self.inside.upto - c.self.inside.from) (drop c.self.inside.from x)) (sym c.deref.ensures.value)) (ap (λ v. v.count) c.self.view_is)
    c.in-None.ensures.parts c.in_ok-extend_from_slice-in-None.ensures.items

pub returns-in_ok-extend_from_slice-in-Some : goal.returns-in_ok-extend_from_slice-in-Some
returns-in_ok-extend_from_slice-in-Some c =
    here_found c.args.self.now _ c.self.inside.piece.items c.in-Some.front.now c.in-Some.after.now c.args.line.now.items c.extend_from_slice-in-Some.new.self.items c.self.inside.from c.self.inside.upto
    (sym (ap (λ v. v.left) c.self.view_is)) refl (ap (λ v. v.count) c.self.view_is) c.self.invariant.0 c.self.invariant.1 c.self.invariant.2
    (ap (λ (x : List ℕ). parts 10 (take (c.self.inside.upto - c.self.inside.from) (drop c.self.inside.from x))) (sym c.deref.ensures.value) ∙ c.in-Some.ensures.parts) c.in_ok-extend_from_slice-in-Some.ensures.items
