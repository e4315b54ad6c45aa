-- Lines that fill the pieces to come, and one line more or less.
use Rattle.std.proofs.Common.{◌≡◌, ◌<◌, ℕ, zero, suc, List, [], ◌∷◌, ◌++◌, length, map, Bool, true, false, cond, Option, Some, None, refl, sym, ap, ◌∙◌, append_assoc, replicate, nat_lt}
use Rattle.std.specs.Prelude.{⊤}
use Rattle.std.specs.List.{AllByRecursion, flat_map}
use Rattle.std.specs.Option.{option_map}
use Rattle.std.proofs.lemmas.Bool.{ltb-true}
use Rattle.response_test.specs.declared.evidence.Evidence.{Evidence}
use Rattle.cert_text.specs.declared.parts.Kind.{Kind}
use Rattle.cert_text.specs.declared.parts.Kind.TheVariants.{KindPlaced, KindTimed, KindBetween, KindBest, KindNoSolution}
use Rattle.cert_text.specs.declared.parts.FrameLine.{FrameLine}
use Rattle.cert_text.specs.declared.event.Event.{Event}
use Rattle.cert_text.specs.declared.event.Event.TheVariants as event
use Rattle.cert_text.specs.declared.line.Line.{Line}
use Rattle.cert_text.specs.declared.line.Line.TheVariants as line
use Rattle.cert_text.specs.declared.symbol.Symbol.{Symbol}
use Rattle.cert_text.specs.declared.symbol.Symbol.TheVariants as symbol
use Rattle.cert_text.specs.Trees.{AllStand, Marked, Markeds, Stands, count, m_bound, m_fail, m_inner, m_left, m_more, m_none, shard}
use Rattle.cert_text.specs.Parts.{LemmaOf}
use Rattle.cert_text.specs.CertEvents.{lemma_events, tree_events, trees_events}
use Rattle.cert_text.specs.Lines.{against, event_lines, lines_of}
use Rattle.cert_text.specs.Grammar.{after, body}

-- ---- what each piece can be, and its lines

-- lemmas and a main tree that stand
pub record Trees : Type 0 where
  pub lemmas : List (LemmaOf Marked)
  pub main : Marked
  pub lemmas_stand : AllByRecursion (λ (l : LemmaOf Marked). Stands true zero l.tree) lemmas
  pub main_stands : Stands true zero main

-- what follows the line of a kind
abbrev pub Body : Kind → Type 0
Body KindPlaced = ⊤
Body KindTimed = List FrameLine
Body KindBetween = List FrameLine × Trees
Body KindBest = List FrameLine × Trees
Body KindNoSolution = List FrameLine × Trees

-- what a piece can be
abbrev pub Value : Symbol → Type 0
Value symbol.First = ⊤
Value symbol.FromKind = (k : Kind) × Body k
Value symbol.Frames = List FrameLine
Value symbol.Parts = List FrameLine × Trees
Value symbol.Lemmas = Trees
Value (symbol.TreeAt marks depth) = (t : Marked) × Stands marks depth t
Value symbol.Against = ℕ × Evidence
Value (symbol.Join depth) = ⊤
Value symbol.End = ⊤

-- what lemmas and a main tree say
abbrev pub trees_said : Trees → List Event
trees_said x = flat_map lemma_events x.lemmas ++ (event.Main ∷ (tree_events x.main ++ event.Finish ∷ []))

-- what frames' lines and more say
abbrev pub frames_said : List FrameLine → List Event → List Event
frames_said fs es = map event.FrameOf fs ++ es

-- what follows the line of a kind says
abbrev pub body_said : (k : Kind) → Body k → List Event
body_said KindPlaced x = event.Finish ∷ []
body_said KindTimed fs = frames_said fs (event.Finish ∷ [])
body_said KindBetween x = frames_said x.0 (trees_said x.1)
body_said KindBest x = frames_said x.0 (trees_said x.1)
body_said KindNoSolution x = frames_said x.0 (trees_said x.1)

-- the lines of a piece
abbrev pub spell : (s : Symbol) → Value s → List Line
spell symbol.First x = line.FirstLine ∷ []
spell symbol.FromKind x = line.KindLine x.0 ∷ lines_of (body_said x.0 x.1)
spell symbol.Frames fs = lines_of (frames_said fs (event.Finish ∷ []))
spell symbol.Parts x = lines_of (frames_said x.0 (trees_said x.1))
spell symbol.Lemmas x = lines_of (trees_said x)
spell (symbol.TreeAt marks depth) x = lines_of (tree_events x.0)
spell symbol.Against x = against x ∷ []
spell (symbol.Join depth) x = line.JoinLine ∷ []
spell symbol.End x = line.EndLine ∷ []

-- what pieces can be
abbrev pub Values : List Symbol → Type 0
Values [] = ⊤
Values (s ∷ ss) = Value s × Values ss

-- the lines of pieces
abbrev pub spell_all : (ss : List Symbol) → Values ss → List Line
spell_all [] x = []
spell_all (s ∷ ss) x = spell s x.0 ++ spell_all ss x.1

-- the lines are those of the pieces, one after the other
pub record Fills (ss : List Symbol) (ls : List Line) : Type 0 where
  pub values : Values ss
  pub lines : spell_all ss values ≡ ls

-- the lines fill the pieces, and there are such
abbrev pub FillsSome : Option (List Symbol) → List Line → Type 0
FillsSome None ls = ⊥
FillsSome (Some ss) ls = Fills ss ls

-- ---- joined lines

-- the lines of joined events
pub lines_append : (a b : List Event) → lines_of (a ++ b) ≡ lines_of a ++ lines_of b
lines_append [] b = refl
lines_append (e ∷ a) b = ap (λ ls. event_lines e ++ ls) (lines_append a b) ∙ sym (append_assoc (event_lines e) (lines_of a) (lines_of b))

-- the lines of two lists of events and more
pub two : (a b : List Event) (ls : List Line) → lines_of a ++ (lines_of b ++ ls) ≡ lines_of (a ++ b) ++ ls
two a b ls = sym (append_assoc (lines_of a) (lines_of b) ls) ∙ ap (λ x. x ++ ls) (sym (lines_append a b))

-- the lines of three lists of events and more
pub three : (a b c : List Event) (ls : List Line) → lines_of a ++ (lines_of (b ++ c) ++ ls) ≡ lines_of ((a ++ b) ++ c) ++ ls
three a b c ls = two a (b ++ c) ls ∙ ap (λ es. lines_of es ++ ls) (sym (append_assoc a b c))

-- ---- subtrees and lines of evidence

-- trees that stand fill as many pieces
pub children : (marks : Bool) (depth : ℕ) (ts : Markeds) → AllStand marks depth ts → (ss : List Symbol) (vs : Values ss)
    → Fills (replicate (count ts) (symbol.TreeAt marks depth) ++ ss) (lines_of (trees_events ts) ++ spell_all ss vs)
unfolding AllStand trees_events
children marks depth m_none stand ss vs = record { values = vs; lines = refl }
children marks depth (m_more t ts) stand ss vs =
    let others = children marks depth ts stand.1 ss vs in
    record {
      values = ((t, stand.0), others.values);
      lines = ap (λ ls. lines_of (tree_events t) ++ ls) others.lines ∙ two (tree_events t) (trees_events ts) (spell_all ss vs);
    }

-- pieces of evidence fill as many
pub pieces : (es : List (ℕ × Evidence)) (ss : List Symbol) (vs : Values ss) → Fills (replicate (length es) symbol.Against ++ ss) (map against es ++ spell_all ss vs)
pieces [] ss vs = record { values = vs; lines = refl }
pieces (e ∷ es) ss vs =
    let others = pieces es ss vs in
    record { values = (e, others.values); lines = ap (λ ls. against e ∷ ls) others.lines }

-- trees, and lines after them
record Gathered (marks : Bool) (depth n : ℕ) (ss : List Symbol) (ls : List Line) : Type 0 where
  trees : Markeds
  counted : count trees ≡ n
  stand : AllStand marks depth trees
  rest : Values ss
  lines : lines_of (trees_events trees) ++ spell_all ss rest ≡ ls

-- what fills trees to come is trees that stand
gathered : (marks : Bool) (depth n : ℕ) (ss : List Symbol) (vs : Values (replicate n (symbol.TreeAt marks depth) ++ ss))
    → Gathered marks depth n ss (spell_all (replicate n (symbol.TreeAt marks depth) ++ ss) vs)
unfolding AllStand trees_events
gathered marks depth zero ss vs = record { trees = m_none; counted = refl; stand = tt; rest = vs; lines = refl }
gathered marks depth (suc n) ss vs =
    let others = gathered marks depth n ss vs.1 in
    record {
      trees = m_more vs.0.0 others.trees;
      counted = ap suc others.counted;
      stand = (vs.0.1, others.stand);
      rest = others.rest;
      lines = sym (two (tree_events vs.0.0) (trees_events others.trees) (spell_all ss others.rest)) ∙ ap (λ ls. lines_of (tree_events vs.0.0) ++ ls) others.lines;
    }

-- pieces of evidence, and lines after them
record Heard (n : ℕ) (ss : List Symbol) (ls : List Line) : Type 0 where
  items : List (ℕ × Evidence)
  counted : length items ≡ n
  rest : Values ss
  lines : map against items ++ spell_all ss rest ≡ ls

-- what fills evidence to come is pieces of evidence
heard : (n : ℕ) (ss : List Symbol) (vs : Values (replicate n symbol.Against ++ ss)) → Heard n ss (spell_all (replicate n symbol.Against ++ ss) vs)
heard zero ss vs = record { items = []; counted = refl; rest = vs; lines = refl }
heard (suc n) ss vs =
    let others = heard n ss vs.1 in
    record { items = vs.0 ∷ others.items; counted = ap suc others.counted; rest = others.rest; lines = ap (λ ls. against vs.0 ∷ ls) others.lines }

-- ---- one line more: what fills the pieces after a line fills, with the line before it, those before

-- an inner node before its subtrees
inner_back : (marks : Bool) (depth n : ℕ) (ss : List Symbol) (ls : List Line) → depth < 128 → Fills (replicate n (symbol.TreeAt marks (suc depth)) ++ ss) ls
    → Fills (symbol.TreeAt marks depth ∷ ss) (line.InnerLine n ∷ ls)
unfolding Stands tree_events
inner_back marks depth n ss ls small f =
    let g = gathered marks (suc depth) n ss f.values in
    record {
      values = ((m_inner g.trees, (small, g.stand)), g.rest);
      lines = ap (λ k. line.InnerLine k ∷ (lines_of (trees_events g.trees) ++ spell_all ss g.rest)) g.counted ∙ ap (λ x. line.InnerLine n ∷ x) (g.lines ∙ f.lines);
    }

-- an inner node, where it may stand
inner_back_if : (marks : Bool) (depth n : ℕ) (ss : List Symbol) (ls : List Line) (b : Bool) → nat_lt depth 128 ≡ b
    → FillsSome (option_map (λ more. more ++ ss) (cond b (Some (replicate n (symbol.TreeAt marks (suc depth)))) None)) ls
    → Fills (symbol.TreeAt marks depth ∷ ss) (line.InnerLine n ∷ ls)
inner_back_if marks depth n ss ls true e f = inner_back marks depth n ss ls (ltb-true depth 128 e) f
inner_back_if marks depth n ss ls false e f = absurd f

-- a fail leaf before its evidence
fail_back : (marks : Bool) (depth n : ℕ) (ss : List Symbol) (ls : List Line) → Fills (replicate n symbol.Against ++ ss) ls → Fills (symbol.TreeAt marks depth ∷ ss) (line.FailLine n ∷ ls)
unfolding Stands tree_events
fail_back marks depth n ss ls f =
    let h = heard n ss f.values in
    let flat : (map against h.items ++ []) ++ spell_all ss h.rest ≡ map against h.items ++ spell_all ss h.rest = append_assoc (map against h.items) [] (spell_all ss h.rest) in
    record {
      values = ((m_fail h.items, tt), h.rest);
      lines = ap (λ k. line.FailLine k ∷ ((map against h.items ++ []) ++ spell_all ss h.rest)) h.counted ∙ ap (λ x. line.FailLine n ∷ x) (flat ∙ h.lines ∙ f.lines);
    }

-- a lemma before further ones
lemma_back : (sender value : ℕ) (ss : List Symbol) (ls : List Line) → Fills (symbol.TreeAt true zero ∷ symbol.Lemmas ∷ ss) ls → Fills (symbol.Lemmas ∷ ss) (line.LemmaWords sender value ∷ ls)
lemma_back sender value ss ls f =
    let t = f.values.0.0 in
    let x = f.values.1.0 in
    record {
      values = (record { lemmas = record { sender = sender; value = value; tree = t } ∷ x.lemmas; main = x.main; lemmas_stand = (f.values.0.1, x.lemmas_stand); main_stands = x.main_stands }, f.values.1.1);
      lines = ap (λ x. line.LemmaWords sender value ∷ x)
          (sym (three (tree_events t) (flat_map lemma_events x.lemmas) (event.Main ∷ (tree_events x.main ++ event.Finish ∷ [])) (spell_all ss f.values.1.1)) ∙ f.lines);
    }

-- the main tree before the end
main_back : (ss : List Symbol) (ls : List Line) → Fills (symbol.TreeAt true zero ∷ symbol.End ∷ ss) ls → Fills (symbol.Lemmas ∷ ss) (line.MainLine ∷ ls)
main_back ss ls f =
    let t = f.values.0.0 in
    record {
      values = (record { lemmas = []; main = t; lemmas_stand = tt; main_stands = f.values.0.1 }, f.values.1.1);
      lines = ap (λ x. line.MainLine ∷ x) (sym (two (tree_events t) (event.Finish ∷ []) (spell_all ss f.values.1.1)) ∙ f.lines);
    }

-- what fills the pieces after a line fills, with the line before it, those before
pub backward : (s : Symbol) (l : Line) (ss : List Symbol) (ls : List Line) → FillsSome (after (s ∷ ss) l) ls → Fills (s ∷ ss) (l ∷ ls)
unfolding Stands tree_events
backward symbol.First line.FirstLine ss ls f = record { values = (tt, f.values); lines = ap (λ x. line.FirstLine ∷ x) f.lines }
backward symbol.FromKind (line.KindLine k) ss ls f = of_kind k f
  where
    of_kind : (k : Kind) → Fills (body k ∷ ss) ls → Fills (symbol.FromKind ∷ ss) (line.KindLine k ∷ ls)
    of_kind KindPlaced f = record { values = ((KindPlaced, tt), f.values.1); lines = ap (λ x. line.KindLine KindPlaced ∷ x) f.lines }
    of_kind KindTimed f = record { values = ((KindTimed, f.values.0), f.values.1); lines = ap (λ x. line.KindLine KindTimed ∷ x) f.lines }
    of_kind KindBetween f = record { values = ((KindBetween, f.values.0), f.values.1); lines = ap (λ x. line.KindLine KindBetween ∷ x) f.lines }
    of_kind KindBest f = record { values = ((KindBest, f.values.0), f.values.1); lines = ap (λ x. line.KindLine KindBest ∷ x) f.lines }
    of_kind KindNoSolution f = record { values = ((KindNoSolution, f.values.0), f.values.1); lines = ap (λ x. line.KindLine KindNoSolution ∷ x) f.lines }
backward symbol.Frames (line.FrameWords w) ss ls f = record { values = (w ∷ f.values.0, f.values.1); lines = ap (λ x. line.FrameWords w ∷ x) f.lines }
backward symbol.Frames line.EndLine ss ls f = record { values = ([], f.values); lines = ap (λ x. line.EndLine ∷ x) f.lines }
backward symbol.Parts (line.FrameWords w) ss ls f =
    record { values = ((w ∷ f.values.0.0, f.values.0.1), f.values.1); lines = ap (λ x. line.FrameWords w ∷ x) f.lines }
backward symbol.Parts (line.LemmaWords sender value) ss ls f =
    let g = lemma_back sender value ss ls f in
    record { values = (([], g.values.0), g.values.1); lines = g.lines }
backward symbol.Parts line.MainLine ss ls f =
    let g = main_back ss ls f in
    record { values = (([], g.values.0), g.values.1); lines = g.lines }
backward symbol.Lemmas (line.LemmaWords sender value) ss ls f = lemma_back sender value ss ls f
backward symbol.Lemmas line.MainLine ss ls f = main_back ss ls f
backward (symbol.TreeAt marks depth) (line.InnerLine n) ss ls f = inner_back_if marks depth n ss ls (nat_lt depth 128) refl f
backward (symbol.TreeAt marks depth) line.BoundLine ss ls f = record { values = ((m_bound, tt), f.values); lines = ap (λ x. line.BoundLine ∷ x) f.lines }
backward (symbol.TreeAt marks depth) line.OpenLine ss ls f = record { values = ((m_left, tt), f.values); lines = ap (λ x. line.OpenLine ∷ x) f.lines }
backward (symbol.TreeAt marks depth) (line.FailLine n) ss ls f = fail_back marks depth n ss ls f
backward (symbol.TreeAt true depth) line.ShardLine ss ls f =
    record {
      values = ((shard f.values.0.0, f.values.0.1), f.values.1.1);
      lines = ap (λ x. line.ShardLine ∷ x) (sym (two (tree_events f.values.0.0) (event.JoinMark ∷ []) (spell_all ss f.values.1.1)) ∙ f.lines);
    }
backward symbol.Against (line.AgainstLine label e) ss ls f = record { values = ((label, e), f.values); lines = ap (λ x. line.AgainstLine label e ∷ x) f.lines }
backward (symbol.Join depth) line.JoinLine ss ls f = record { values = (tt, f.values); lines = ap (λ x. line.JoinLine ∷ x) f.lines }
backward symbol.End line.EndLine ss ls f = record { values = (tt, f.values); lines = ap (λ x. line.EndLine ∷ x) f.lines }
backward s l ss ls f = absurd f
