-- The events of lines.
use Rattle.std.proofs.Common.{◌≡◌, ℕ, List, [], ◌∷◌, ◌++◌, length, map, refl, ap, ◌∙◌, append_assoc}
use Rattle.response_test.specs.declared.evidence.Evidence.{Evidence}
use Rattle.cert_text.specs.declared.event.Event.{Event}
use Rattle.cert_text.specs.declared.event.Event.TheVariants as event
use Rattle.cert_text.specs.declared.line.Line.{Line}
use Rattle.cert_text.specs.declared.line.Line.TheVariants as line
use Rattle.cert_text.specs.Lines.{against, lines_of}
use Rattle.cert_text.specs.Heard.{collect, silent}

-- further lines of evidence are heard as one fail leaf
collect_seen : (x : ℕ × Evidence) (es seen : List (ℕ × Evidence)) (ls : List Line) → collect (length es, seen) (map against (x ∷ es) ++ ls) ≡ event.FailLeaf (seen ++ x ∷ es) ∷ collect silent ls
unfolding collect
collect_seen x [] seen ls = refl
collect_seen x (y ∷ es) seen ls = collect_seen y es (seen ++ x ∷ []) ls ∙ ap (λ zs. event.FailLeaf zs ∷ collect silent ls) (append_assoc seen (x ∷ []) (y ∷ es))

-- the lines of a fail leaf are heard as it
collect_fail : (es : List (ℕ × Evidence)) (ls : List Line) → collect silent (line.FailLine (length es) ∷ (map against es ++ ls)) ≡ event.FailLeaf es ∷ collect silent ls
unfolding collect
collect_fail [] ls = refl
collect_fail (x ∷ es) ls = collect_seen x es [] ls

-- the events of events' lines are those events
pub collect_back : (es : List Event) (ls : List Line) → collect silent (lines_of es ++ ls) ≡ es ++ collect silent ls
unfolding collect
collect_back [] ls = refl
collect_back (event.Head k ∷ es) ls = ap (λ x. event.Head k ∷ x) (collect_back es ls)
collect_back (event.FrameOf f ∷ es) ls = ap (λ x. event.FrameOf f ∷ x) (collect_back es ls)
collect_back (event.LemmaOf sender value ∷ es) ls = ap (λ x. event.LemmaOf sender value ∷ x) (collect_back es ls)
collect_back (event.Main ∷ es) ls = ap (λ x. event.Main ∷ x) (collect_back es ls)
collect_back (event.Node n ∷ es) ls = ap (λ x. event.Node n ∷ x) (collect_back es ls)
collect_back (event.BoundLeaf ∷ es) ls = ap (λ x. event.BoundLeaf ∷ x) (collect_back es ls)
collect_back (event.OpenLeaf ∷ es) ls = ap (λ x. event.OpenLeaf ∷ x) (collect_back es ls)
collect_back (event.FailLeaf items ∷ es) ls =
    ap (λ x. collect silent (line.FailLine (length items) ∷ x)) (append_assoc (map against items) (lines_of es) ls) ∙ collect_fail items (lines_of es ++ ls)
    ∙ ap (λ x. event.FailLeaf items ∷ x) (collect_back es ls)
collect_back (event.ShardMark ∷ es) ls = ap (λ x. event.ShardMark ∷ x) (collect_back es ls)
collect_back (event.JoinMark ∷ es) ls = ap (λ x. event.JoinMark ∷ x) (collect_back es ls)
collect_back (event.Finish ∷ es) ls = ap (λ x. event.Finish ∷ x) (collect_back es ls)
