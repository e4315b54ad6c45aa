-- The marks with which a certificate is written, and which certificates have a text.
use Rattle.std.specs.Prelude.{⊤, ◌<◌, ◌≤◌, ℕ, zero, suc, Bool, true, false, Option, None, Some, All, length, map}
use Rattle.std.specs.Option.{option_map}
use Rattle.response_test.specs.declared.evidence.Evidence.{Evidence}
use Rattle.response_test.specs.declared.evidence.Evidence.TheVariants as evidence
use Rattle.cert_text.specs.declared.parts.FrameLine.{FrameLine}
use Rattle.cert_text.specs.Trees.{Marked, Markeds, Plain, Plains, bound, fail, inner, left, m_bound, m_fail, m_inner, m_left, m_more, m_none, more, none, shard}
use Rattle.cert_text.specs.Parts.{CertOf, CertParts, LemmaOf}

-- marks so many inner nodes further down, seen from a subtree
abbrev pub below : Option ℕ → Option ℕ
below None = None
below (Some zero) = None
below (Some (suc n)) = Some n

-- a tree, marked where the marks stand here
abbrev pub marked_here : Option ℕ → Marked → Marked
marked_here None t = t
marked_here (Some zero) t = shard t
marked_here (Some (suc n)) t = t

-- the tree with a mark at each inner node that has exactly so many inner nodes above it, or without a mark
abbrev mutual
  pub with_marks : Option ℕ → Plain → Marked
  with_marks marks (inner ts) = marked_here marks (m_inner (with_marks_all (below marks) ts))
  with_marks marks bound = m_bound
  with_marks marks left = m_left
  with_marks marks (fail es) = m_fail es

  pub with_marks_all : Option ℕ → Plains → Markeds
  with_marks_all marks none = m_none
  with_marks_all marks (more t ts) = m_more (with_marks marks t) (with_marks_all marks ts)

-- where a lemma's tree is marked: with marks, whole
abbrev pub lemma_marks : Bool → Option ℕ
lemma_marks true = Some 0
lemma_marks false = None

-- a lemma's tree as it is written: marked whole where it is marked
abbrev pub lemma_tree : Bool → Plain → Marked
lemma_tree true t = shard (with_marks None t)
lemma_tree false t = with_marks None t

-- where the main tree is marked: with marks, at each inner node whose grouping has exactly 3 items
abbrev pub main_marks : Bool → Option ℕ
main_marks true = Some 3
main_marks false = None

-- a lemma as it is written
abbrev pub written_lemma : Bool → LemmaOf Plain → LemmaOf Marked
written_lemma marks l = record { sender = l.sender; value = l.value; tree = lemma_tree marks l.tree }

-- a certificate as it is written
abbrev pub written_cert : Bool → CertParts → CertOf Marked
written_cert marks c = record {
  kind = c.kind;
  frames = c.frames;
  lemmas = map (written_lemma marks) c.lemmas;
  main_tree = option_map (with_marks (main_marks marks)) c.main_tree;
}

-- how many trees
abbrev pub number_of_trees : Plains → ℕ
number_of_trees none = zero
number_of_trees (more t ts) = suc (number_of_trees ts)

-- the line of a frame has room for its queue
abbrev pub HasRoom : FrameLine → Type 0
HasRoom frame = (1 ≤ length frame.queue) × (length frame.queue ≤ 256)

-- the lists of evidence have a number at least
abbrev pub HasNumbers : Evidence → Type 0
HasNumbers evidence.Over = ⊤
HasNumbers (evidence.Long b) = 1 ≤ length b
HasNumbers (evidence.Late q b w) = (1 ≤ length b) × (1 ≤ length w)

-- the evidence against a class has a line: the class has a label up to 127
abbrev pub PieceFits : ℕ × Evidence → Type 0
PieceFits x = (x.0 ≤ 127) × HasNumbers x.1

-- a tree below so many inner nodes has a text: there are 128 on a path at most, each with 1 to 128 subtrees, and a
-- fail leaf has up to 128 pieces of evidence
abbrev mutual
  pub TreeFits : ℕ → Plain → Type 0
  TreeFits depth (inner ts) =
      (depth < 128) × (1 ≤ number_of_trees ts) × (number_of_trees ts ≤ 128) × TreesFit (suc depth) ts
  TreeFits depth bound = ⊤
  TreeFits depth left = ⊤
  TreeFits depth (fail es) = (length es ≤ 128) × All PieceFits es

  pub TreesFit : ℕ → Plains → Type 0
  TreesFit depth none = ⊤
  TreesFit depth (more t ts) = TreeFits depth t × TreesFit depth ts

-- a lemma has a text: its sender's number is at most 255
abbrev pub LemmaFits : LemmaOf Plain → Type 0
LemmaFits l = (l.sender ≤ 255) × TreeFits zero l.tree

-- a main tree has a text, if there is one
abbrev pub MainFits : Option Plain → Type 0
MainFits None = ⊤
MainFits (Some t) = TreeFits zero t

-- the counts, labels, senders and depths of a certificate are those that a text has room for
pub record CertFits (c : CertParts) : Type 0 where
  pub frames : All HasRoom c.frames
  pub lemmas : All LemmaFits c.lemmas
  pub main : MainFits c.main_tree
