-- The certificate that events make.
use Rattle.std.specs.Prelude.{ℕ, zero, suc, List, [], ◌∷◌, ◌++◌, Option, Some, None}
use Rattle.cert_text.specs.declared.parts.Kind.{Kind}
use Rattle.cert_text.specs.declared.parts.Kind.TheVariants.{KindPlaced}
use Rattle.cert_text.specs.declared.parts.FrameLine.{FrameLine}
use Rattle.cert_text.specs.declared.event.Event.{Event}
use Rattle.cert_text.specs.declared.event.Event.TheVariants as event
use Rattle.cert_text.specs.Trees.{Plain, bound, fail, inner, left, more, none}
use Rattle.cert_text.specs.Parts.{CertParts, LemmaOf}
use Rattle.cert_text.specs.PlainTree.{onto}

-- a node that lacks so many subtrees after the next, and those that it has
abbrev pub OpenNode : Type 0
OpenNode = ℕ × List Plain

-- what a certificate's events have made so far; the innermost open node first
pub record Made : Type 0 where
  pub kind : Kind
  pub frames : List FrameLine
  pub lemmas : List (LemmaOf Plain)
  pub goal : Option (ℕ × ℕ)
  pub nodes : List OpenNode
  pub main : Option Plain

-- no event made anything
abbrev pub nothing_made : Made
nothing_made = record { kind = KindPlaced; frames = []; lemmas = []; goal = None; nodes = []; main = None }

-- a whole tree: a lemma's, or the main tree
abbrev pub with_tree : Option (ℕ × ℕ) → Plain → Made → Made
with_tree (Some g) t m = record {
  kind = m.kind;
  frames = m.frames;
  lemmas = m.lemmas ++ record { sender = g.0; value = g.1; tree = t } ∷ [];
  goal = m.goal;
  nodes = [];
  main = m.main;
}
with_tree None t m = record {
  kind = m.kind;
  frames = m.frames;
  lemmas = m.lemmas;
  goal = m.goal;
  nodes = [];
  main = Some t;
}

-- a tree is put into the innermost open node, which may end with it
abbrev pub put_tree : Plain → List OpenNode → Made → Made
put_tree t [] m = with_tree m.goal t m
put_tree t ((zero, ts) ∷ nodes) m = put_tree (inner (onto ts (more t none))) nodes m
put_tree t ((suc n, ts) ∷ nodes) m = record {
  kind = m.kind;
  frames = m.frames;
  lemmas = m.lemmas;
  goal = m.goal;
  nodes = (n, ts ++ t ∷ []) ∷ nodes;
  main = m.main;
}

-- one event more
abbrev pub make : Made → Event → Made
make m (event.Head k) = record {
  kind = k;
  frames = m.frames;
  lemmas = m.lemmas;
  goal = m.goal;
  nodes = m.nodes;
  main = m.main;
}
make m (event.FrameOf f) = record {
  kind = m.kind;
  frames = m.frames ++ f ∷ [];
  lemmas = m.lemmas;
  goal = m.goal;
  nodes = m.nodes;
  main = m.main;
}
make m (event.LemmaOf sender value) = record {
  kind = m.kind;
  frames = m.frames;
  lemmas = m.lemmas;
  goal = Some (sender, value);
  nodes = m.nodes;
  main = m.main;
}
make m event.Main = record {
  kind = m.kind;
  frames = m.frames;
  lemmas = m.lemmas;
  goal = None;
  nodes = m.nodes;
  main = m.main;
}
make m (event.Node zero) = put_tree (inner none) m.nodes m
make m (event.Node (suc n)) = record {
  kind = m.kind;
  frames = m.frames;
  lemmas = m.lemmas;
  goal = m.goal;
  nodes = (n, []) ∷ m.nodes;
  main = m.main;
}
make m event.BoundLeaf = put_tree bound m.nodes m
make m event.OpenLeaf = put_tree left m.nodes m
make m (event.FailLeaf es) = put_tree (fail es) m.nodes m
make m event.ShardMark = m
make m event.JoinMark = m
make m event.Finish = m

-- further events
unfoldable pub made : Made → List Event → Made
made m [] = m
made m (e ∷ es) = made (make m e) es

-- the certificate that was made
abbrev pub cert_made : Made → CertParts
cert_made m = record { kind = m.kind; frames = m.frames; lemmas = m.lemmas; main_tree = m.main }
