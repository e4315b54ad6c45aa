-- What a certificate says, piece by piece.
use Rattle.std.specs.Prelude.{List, [], ◌∷◌, ◌++◌, Option, None, Some, map}
use Rattle.std.specs.List.{flat_map}
use Rattle.cert_text.specs.declared.event.Event.{Event}
use Rattle.cert_text.specs.declared.event.Event.TheVariants as event
use Rattle.cert_text.specs.Trees.{Marked, Markeds, count, m_bound, m_fail, m_inner, m_left, m_more, m_none, shard}
use Rattle.cert_text.specs.Parts.{CertOf, LemmaOf}

-- what a tree says, in preorder; a marked tree stands between two marks
unfoldable mutual
  pub tree_events : Marked → List Event
  tree_events (m_inner ts) = event.Node (count ts) ∷ trees_events ts
  tree_events m_bound = event.BoundLeaf ∷ []
  tree_events m_left = event.OpenLeaf ∷ []
  tree_events (m_fail es) = event.FailLeaf es ∷ []
  tree_events (shard t) = event.ShardMark ∷ (tree_events t ++ event.JoinMark ∷ [])

  pub trees_events : Markeds → List Event
  trees_events m_none = []
  trees_events (m_more t ts) = tree_events t ++ trees_events ts

-- what a lemma says
abbrev pub lemma_events : LemmaOf Marked → List Event
lemma_events l = event.LemmaOf l.sender l.value ∷ tree_events l.tree

-- what the main tree says
abbrev pub main_events : Option Marked → List Event
main_events None = []
main_events (Some t) = event.Main ∷ tree_events t

-- what a certificate says
abbrev pub cert_events : CertOf Marked → List Event
cert_events c =
    event.Head c.kind
    ∷ (map event.FrameOf c.frames
    ++ (flat_map lemma_events c.lemmas ++ (main_events c.main_tree ++ event.Finish ∷ [])))
