use Rattle.std.proofs.Common.{List, [], ◌∷◌, Option, map, subst}
use Rattle.std.specs.List.{flat_map}
use Rattle.std.specs.Option.{option_map}
use Rattle.cert_text.specs.declared.event.Event.{Event}
use Rattle.cert_text.specs.declared.event.Event.TheVariants as event
use Rattle.cert_text.specs.declared.line.Line.TheVariants as line
use Rattle.cert_text.specs.Adding.{Adds}
use Rattle.cert_text.specs.CertEvents.{lemma_events, main_events}
use Rattle.cert_text.specs.Lines.{lines_of}
use Rattle.cert_text.specs.Parts.{LemmaOf}
use Rattle.cert_text.specs.Trees.{Plain}
use Rattle.cert_text.specs.Written.{main_marks, with_marks, written_lemma}
use Rattle.cert_text.proofs.TreeLines.{adds-cert}
use Rattle.cert_text.proofs.writing.put_cert.Goals as goal

pub returns-clause-lines : goal.returns-clause-lines
returns-clause-lines c =
    let cert = c.args.cert.now in
    let lemmas : List (LemmaOf Plain) → List Event = λ ls. flat_map lemma_events (map (written_lemma c.args.marks) ls) in
    let main : Option Plain → List Event = λ t. main_events (option_map (with_marks (main_marks c.args.marks)) t) in
    adds-cert cert.kind (map event.FrameOf cert.frames) (lemmas cert.lemmas) (main cert.main_tree)
    c.args.out.now.items c.put_line.new.out.items c.put_line-2.new.out.items c.put_frames.new.out.items c.put_lemmas.new.out.items c.put_main.new.out.items c.put_line-3.new.out.items
    c.in_ok-put_line.ensures
    (subst (λ k. Adds c.put_line.new.out.items c.put_line-2.new.out.items (line.KindLine k ∷ [])) c.kind-kind.ensures.value c.in_ok-put_line-2.ensures)
    (subst (λ fs. Adds c.put_line-2.new.out.items c.put_frames.new.out.items (lines_of (map event.FrameOf fs))) c.frames.ensures c.in_ok-put_frames.ensures)
    (subst (λ ls. Adds c.put_frames.new.out.items c.put_lemmas.new.out.items (lines_of (lemmas ls))) c.lemmas.ensures c.in_ok-put_lemmas.ensures)
    (subst (λ t. Adds c.put_lemmas.new.out.items c.put_main.new.out.items (lines_of (main t))) c.main_tree.ensures c.in_ok-put_main.ensures)
    c.in_ok-put_line-3.ensures
