-- The shape of what is to come: trees lie at most so deep, and only the last piece can take the last line.
use Rattle.std.proofs.Common.{◌≡◌, ◌≤◌, ℕ, zero, suc, List, [], ◌∷◌, ◌++◌, Bool, true, false, Option, Some, None, refl, sym, ap, subst, ◌∙◌, replicate, nat_lt, if◌then◌else◌, arith}
use Rattle.std.specs.Option.{option_and_then, option_map}
use Rattle.std.proofs.lemmas.Bool.{ltb-true}
use Rattle.cert_text.specs.declared.parts.Kind.{Kind}
use Rattle.cert_text.specs.declared.parts.Kind.TheVariants.{KindPlaced, KindTimed, KindBetween, KindBest, KindNoSolution}
use Rattle.cert_text.specs.declared.line.Line.{Line}
use Rattle.cert_text.specs.declared.line.Line.TheVariants as line
use Rattle.cert_text.specs.declared.symbol.Symbol.{Symbol}
use Rattle.cert_text.specs.declared.symbol.Symbol.TheVariants as symbol
use Rattle.cert_text.specs.Depths.{depth_of}
use Rattle.cert_text.specs.Grammar.{after, body, run, start}

-- trees lie at most 128 deep, and the pieces that can take the last line are the last ones
abbrev pub Shaped : List Symbol → Type 0
Shaped [] = Unit {0}
Shaped (symbol.First ∷ ss) = Shaped ss
Shaped (symbol.FromKind ∷ ss) = ss ≡ []
Shaped (symbol.Frames ∷ ss) = ss ≡ []
Shaped (symbol.Parts ∷ ss) = ss ≡ []
Shaped (symbol.Lemmas ∷ ss) = ss ≡ []
Shaped (symbol.TreeAt marks depth ∷ ss) = (depth ≤ 128) × Shaped ss
Shaped (symbol.Against ∷ ss) = Shaped ss
Shaped (symbol.Join depth ∷ ss) = (depth ≤ 128) × Shaped ss
Shaped (symbol.End ∷ ss) = ss ≡ []

-- what an Option holds is shaped
abbrev pub ShapedSome : Option (List Symbol) → Type 0
ShapedSome None = Unit {0}
ShapedSome (Some ss) = Shaped ss

-- trees before what is shaped
trees_shaped : (marks : Bool) (depth n : ℕ) (ss : List Symbol) → depth ≤ 128 → Shaped ss → Shaped (replicate n (symbol.TreeAt marks depth) ++ ss)
trees_shaped marks depth zero ss low s = s
trees_shaped marks depth (suc n) ss low s = (low, trees_shaped marks depth n ss low s)

-- evidence before what is shaped
against_shaped : (n : ℕ) (ss : List Symbol) → Shaped ss → Shaped (replicate n symbol.Against ++ ss)
against_shaped zero ss s = s
against_shaped (suc n) ss s = against_shaped n ss s

-- subtrees before what is shaped
subtrees_shaped : (marks : Bool) (depth n : ℕ) (ss : List Symbol) (b : Bool) → nat_lt depth 128 ≡ b → Shaped ss → ShapedSome (option_map (λ more. more ++ ss) (if b then Some (replicate n (symbol.TreeAt marks (suc depth))) else None))
subtrees_shaped marks depth n ss true e s = trees_shaped marks (suc depth) n ss (let low = ltb-true depth 128 e in omega arith) s
subtrees_shaped marks depth n ss false e s = tt

-- the body of a kind
body_shaped : (k : Kind) (ss : List Symbol) → ss ≡ [] → Shaped (body k ∷ ss)
body_shaped KindPlaced ss e = e
body_shaped KindTimed ss e = e
body_shaped KindBetween ss e = e
body_shaped KindBest ss e = e
body_shaped KindNoSolution ss e = e

-- nothing is shaped
none_shaped : (ss : List Symbol) → ss ≡ [] → Shaped ss
none_shaped ss e = subst Shaped (sym e) tt

-- a line leaves what is shaped
after_shaped : (s : Symbol) (l : Line) (ss : List Symbol) → Shaped (s ∷ ss) → ShapedSome (after (s ∷ ss) l)
after_shaped symbol.First line.FirstLine ss s = s
after_shaped symbol.FromKind (line.KindLine k) ss s = body_shaped k ss s
after_shaped symbol.Frames (line.FrameWords f) ss s = s
after_shaped symbol.Frames line.EndLine ss s = none_shaped ss s
after_shaped symbol.Parts (line.FrameWords f) ss s = s
after_shaped symbol.Parts (line.LemmaWords sender value) ss s = (omega arith, s)
after_shaped symbol.Parts line.MainLine ss s = (omega arith, s)
after_shaped symbol.Lemmas (line.LemmaWords sender value) ss s = (omega arith, s)
after_shaped symbol.Lemmas line.MainLine ss s = (omega arith, s)
after_shaped (symbol.TreeAt marks depth) (line.InnerLine n) ss s = subtrees_shaped marks depth n ss (nat_lt depth 128) refl s.1
after_shaped (symbol.TreeAt marks depth) line.BoundLine ss s = s.1
after_shaped (symbol.TreeAt marks depth) line.OpenLine ss s = s.1
after_shaped (symbol.TreeAt marks depth) (line.FailLine n) ss s = against_shaped n ss s.1
after_shaped (symbol.TreeAt true depth) line.ShardLine ss s = (s.0, (s.0, s.1))
after_shaped symbol.Against (line.AgainstLine label e) ss s = s
after_shaped (symbol.Join depth) line.JoinLine ss s = s.1
after_shaped symbol.End line.EndLine ss s = none_shaped ss s
after_shaped s l ss h = tt

-- so do lines
pub run_shaped : (ls : List Line) (ss next : List Symbol) → run ss ls ≡ Some next → Shaped ss → Shaped next
unfolding run
run_shaped [] ss next e s = let same : ss ≡ next = cc in subst Shaped same s
run_shaped (l ∷ ls) [] next e s = absurd (let none : None ≡ Some next = e in cc)
run_shaped (l ∷ ls) (t ∷ ss) next e s = by (after (t ∷ ss) l) (after_shaped t l ss s) (λ z f. run_shaped ls z next f) e
  where
    by : (o : Option (List Symbol)) → ShapedSome o → ((z : List Symbol) → run z ls ≡ Some next → Shaped z → Shaped next) → option_and_then (λ z. run z ls) o ≡ Some next → Shaped next
    by None h further f = absurd (let none : None ≡ Some next = f in cc)
    by (Some z) h further f = further z f h

-- the start is shaped
pub start_shaped : Shaped start
start_shaped = refl

-- a tree's depth is at most 128
pub shaped_depth : (ss : List Symbol) → Shaped ss → depth_of ss ≤ 128
shaped_depth [] s = omega arith
shaped_depth (symbol.TreeAt marks depth ∷ ss) s = s.0
shaped_depth (symbol.Join depth ∷ ss) s = s.0
shaped_depth (t ∷ ss) s = omega arith

-- after the last line nothing is to come
end_after : (s : Symbol) (ss next : List Symbol) → Shaped (s ∷ ss) → after (s ∷ ss) line.EndLine ≡ Some next → next ≡ []
end_after symbol.Frames ss next s e = let same : ss ≡ next = cc in sym same ∙ s
end_after symbol.End ss next s e = let same : ss ≡ next = cc in sym same ∙ s
end_after t ss next s e = absurd (let none : None ≡ Some next = e in cc)

-- lines that end with the last line lead to nothing
pub end_last : (ss next : List Symbol) → Shaped ss → run ss (line.EndLine ∷ []) ≡ Some next → next ≡ []
unfolding run
end_last [] next s e = absurd (let none : None ≡ Some next = e in cc)
end_last (t ∷ ss) next s e = by (after (t ∷ ss) line.EndLine) (λ z f. end_after t ss z s f) e
  where
    by : (o : Option (List Symbol)) → ((z : List Symbol) → o ≡ Some z → z ≡ []) → option_and_then (λ z. run z []) o ≡ Some next → next ≡ []
    by None f e = absurd (let none : None ≡ Some next = e in cc)
    by (Some z) f e = let same : z ≡ next = cc in f next (ap (λ x. Some x) same)
