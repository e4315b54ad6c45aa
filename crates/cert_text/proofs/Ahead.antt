-- Lines that fill pieces begin with one that can stand, and what follows it fills what is then to come.
use Rattle.std.proofs.Common.{◌≡◌, ℕ, zero, suc, List, [], ◌∷◌, ◌++◌, length, map, Bool, true, false, cond, Some, None, refl, sym, ap, append_assoc, replicate}
use Rattle.std.specs.List.{AllByRecursion, flat_map}
use Rattle.std.proofs.lemmas.Bool.{lt-ltb}
use Rattle.cert_text.specs.declared.parts.Kind.{Kind}
use Rattle.cert_text.specs.declared.parts.Kind.TheVariants.{KindPlaced, KindTimed, KindBetween, KindBest, KindNoSolution}
use Rattle.cert_text.specs.declared.parts.FrameLine.{FrameLine}
use Rattle.cert_text.specs.declared.event.Event.TheVariants as event
use Rattle.cert_text.specs.declared.line.Line.{Line}
use Rattle.cert_text.specs.declared.line.Line.TheVariants as line
use Rattle.cert_text.specs.declared.symbol.Symbol.{Symbol}
use Rattle.cert_text.specs.declared.symbol.Symbol.TheVariants as symbol
use Rattle.cert_text.specs.Trees.{Marked, Stands, count, m_bound, m_fail, m_inner, m_left, shard}
use Rattle.cert_text.specs.Parts.{LemmaOf}
use Rattle.cert_text.specs.CertEvents.{lemma_events, tree_events, trees_events}
use Rattle.cert_text.specs.Lines.{against, lines_of}
use Rattle.cert_text.specs.Grammar.{expand}
use Rattle.cert_text.proofs.Fills.{Body, Fills, Trees, Value, Values, body_said, children, frames_said, pieces, spell, spell_all, three, trees_said, two}

-- a first line that a piece can begin with, and what fills the pieces that are then to come
pub record Ahead (s : Symbol) (ss : List Symbol) (ls : List Line) : Type 0 where
  pub line : Line
  pub rest : List Line
  pub next : List Symbol
  pub is : ls ≡ line ∷ rest
  pub expands : expand s line ≡ Some next
  pub fills : Fills (next ++ ss) rest

-- a tree
tree_ahead : (marks : Bool) (depth : ℕ) (t : Marked) → Stands marks depth t → (ss : List Symbol) (vs : Values ss)
    → Ahead (symbol.TreeAt marks depth) ss (lines_of (tree_events t) ++ spell_all ss vs)
unfolding Stands tree_events
tree_ahead marks depth (m_inner ts) stand ss vs = record {
  line = line.InnerLine (count ts);
  rest = lines_of (trees_events ts) ++ spell_all ss vs;
  next = replicate (count ts) (symbol.TreeAt marks (suc depth));
  is = refl;
  expands = ap (λ b. cond b (Some (replicate (count ts) (symbol.TreeAt marks (suc depth)))) None) (lt-ltb depth 128 stand.0);
  fills = children marks (suc depth) ts stand.1 ss vs;
}
tree_ahead marks depth m_bound stand ss vs = record { line = line.BoundLine; rest = spell_all ss vs; next = []; is = refl; expands = refl; fills = record { values = vs; lines = refl } }
tree_ahead marks depth m_left stand ss vs = record { line = line.OpenLine; rest = spell_all ss vs; next = []; is = refl; expands = refl; fills = record { values = vs; lines = refl } }
tree_ahead marks depth (m_fail es) stand ss vs = record {
  line = line.FailLine (length es);
  rest = map against es ++ spell_all ss vs;
  next = replicate (length es) symbol.Against;
  is = ap (λ x. line.FailLine (length es) ∷ x) (append_assoc (map against es) [] (spell_all ss vs));
  expands = refl;
  fills = pieces es ss vs;
}
tree_ahead true depth (shard t) stand ss vs = record {
  line = line.ShardLine;
  rest = lines_of (tree_events t) ++ (line.JoinLine ∷ spell_all ss vs);
  next = symbol.TreeAt false depth ∷ symbol.Join depth ∷ [];
  is = ap (λ x. line.ShardLine ∷ x) (sym (two (tree_events t) (event.JoinMark ∷ []) (spell_all ss vs)));
  expands = refl;
  fills = record { values = ((t, stand), (tt, vs)); lines = refl };
}
tree_ahead false depth (shard t) stand ss vs = absurd stand

-- lemmas and a main tree
trees_ahead : (lemmas : List (LemmaOf Marked)) (main : Marked) → AllByRecursion (λ (l : LemmaOf Marked). Stands true zero l.tree) lemmas → Stands true zero main → (ss : List Symbol) (vs : Values ss)
    → Ahead symbol.Lemmas ss (lines_of (flat_map lemma_events lemmas ++ (event.Main ∷ (tree_events main ++ event.Finish ∷ []))) ++ spell_all ss vs)
trees_ahead [] main stand main_stands ss vs = record {
  line = line.MainLine;
  rest = lines_of (tree_events main) ++ (line.EndLine ∷ spell_all ss vs);
  next = symbol.TreeAt true zero ∷ symbol.End ∷ [];
  is = ap (λ x. line.MainLine ∷ x) (sym (two (tree_events main) (event.Finish ∷ []) (spell_all ss vs)));
  expands = refl;
  fills = record { values = ((main, main_stands), (tt, vs)); lines = refl };
}
trees_ahead (l ∷ lemmas) main stand main_stands ss vs =
    let end = event.Main ∷ (tree_events main ++ event.Finish ∷ []) in
    record {
      line = line.LemmaWords l.sender l.value;
      rest = lines_of (tree_events l.tree) ++ (lines_of (flat_map lemma_events lemmas ++ end) ++ spell_all ss vs);
      next = symbol.TreeAt true zero ∷ symbol.Lemmas ∷ [];
      is = ap (λ x. line.LemmaWords l.sender l.value ∷ x) (sym (three (tree_events l.tree) (flat_map lemma_events lemmas) end (spell_all ss vs)));
      expands = refl;
      fills = record { values = ((l.tree, stand.0), (record { lemmas = lemmas; main = main; lemmas_stand = stand.1; main_stands = main_stands }, vs)); lines = refl };
    }

-- as the rest of a certificate without frames so far
parts_ahead : (lemmas : List (LemmaOf Marked)) (main : Marked) → AllByRecursion (λ (l : LemmaOf Marked). Stands true zero l.tree) lemmas → Stands true zero main → (ss : List Symbol) (vs : Values ss)
    → Ahead symbol.Parts ss (lines_of (flat_map lemma_events lemmas ++ (event.Main ∷ (tree_events main ++ event.Finish ∷ []))) ++ spell_all ss vs)
unfolding trees_ahead
parts_ahead [] main stand main_stands ss vs =
    let a = trees_ahead [] main stand main_stands ss vs in
    record { line = a.line; rest = a.rest; next = a.next; is = a.is; expands = a.expands; fills = a.fills }
parts_ahead (l ∷ lemmas) main stand main_stands ss vs =
    let a = trees_ahead (l ∷ lemmas) main stand main_stands ss vs in
    record { line = a.line; rest = a.rest; next = a.next; is = a.is; expands = a.expands; fills = a.fills }

-- what fills pieces begins with such a line
pub forward : (s : Symbol) (x : Value s) (ss : List Symbol) (vs : Values ss) → Ahead s ss (spell s x ++ spell_all ss vs)
forward symbol.First x ss vs = record { line = line.FirstLine; rest = spell_all ss vs; next = []; is = refl; expands = refl; fills = record { values = vs; lines = refl } }
forward symbol.FromKind x ss vs = of_kind x.0 x.1
  where
    of_kind : (k : Kind) (b : Body k) → Ahead symbol.FromKind ss (line.KindLine k ∷ (lines_of (body_said k b) ++ spell_all ss vs))
    of_kind KindPlaced b =
        record { line = line.KindLine KindPlaced; rest = line.EndLine ∷ spell_all ss vs; next = symbol.End ∷ []; is = refl; expands = refl; fills = record { values = (tt, vs); lines = refl } }
    of_kind KindTimed b = record {
      line = line.KindLine KindTimed;
      rest = lines_of (body_said KindTimed b) ++ spell_all ss vs;
      next = symbol.Frames ∷ [];
      is = refl;
      expands = refl;
      fills = record { values = (b, vs); lines = refl };
    }
    of_kind KindBetween b = record {
      line = line.KindLine KindBetween;
      rest = lines_of (body_said KindBetween b) ++ spell_all ss vs;
      next = symbol.Parts ∷ [];
      is = refl;
      expands = refl;
      fills = record { values = (b, vs); lines = refl };
    }
    of_kind KindBest b =
        record { line = line.KindLine KindBest; rest = lines_of (body_said KindBest b) ++ spell_all ss vs; next = symbol.Parts ∷ []; is = refl; expands = refl; fills = record { values = (b, vs); lines = refl } }
    of_kind KindNoSolution b = record {
      line = line.KindLine KindNoSolution;
      rest = lines_of (body_said KindNoSolution b) ++ spell_all ss vs;
      next = symbol.Parts ∷ [];
      is = refl;
      expands = refl;
      fills = record { values = (b, vs); lines = refl };
    }
forward symbol.Frames [] ss vs = record { line = line.EndLine; rest = spell_all ss vs; next = []; is = refl; expands = refl; fills = record { values = vs; lines = refl } }
forward symbol.Frames (f ∷ fs) ss vs = record {
  line = line.FrameWords f;
  rest = lines_of (frames_said fs (event.Finish ∷ [])) ++ spell_all ss vs;
  next = symbol.Frames ∷ [];
  is = refl;
  expands = refl;
  fills = record { values = (fs, vs); lines = refl };
}
forward symbol.Parts x ss vs = from_frames x.0 x.1
  where
    from_frames : (fs : List FrameLine) (t : Trees) → Ahead symbol.Parts ss (lines_of (frames_said fs (trees_said t)) ++ spell_all ss vs)
    from_frames [] t = parts_ahead t.lemmas t.main t.lemmas_stand t.main_stands ss vs
    from_frames (f ∷ fs) t = record {
      line = line.FrameWords f;
      rest = lines_of (frames_said fs (trees_said t)) ++ spell_all ss vs;
      next = symbol.Parts ∷ [];
      is = refl;
      expands = refl;
      fills = record { values = ((fs, t), vs); lines = refl };
    }
forward symbol.Lemmas x ss vs = trees_ahead x.lemmas x.main x.lemmas_stand x.main_stands ss vs
forward (symbol.TreeAt marks depth) x ss vs = tree_ahead marks depth x.0 x.1 ss vs
forward symbol.Against x ss vs = record { line = line.AgainstLine x.0 x.1; rest = spell_all ss vs; next = []; is = refl; expands = refl; fills = record { values = vs; lines = refl } }
forward (symbol.Join depth) x ss vs = record { line = line.JoinLine; rest = spell_all ss vs; next = []; is = refl; expands = refl; fills = record { values = vs; lines = refl } }
forward symbol.End x ss vs = record { line = line.EndLine; rest = spell_all ss vs; next = []; is = refl; expands = refl; fills = record { values = vs; lines = refl } }
