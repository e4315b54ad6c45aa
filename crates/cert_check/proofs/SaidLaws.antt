-- The events of a certificate say it: its trees without marks, node by node.
use Rattle.std.proofs.Common.{◌≡◌, ℕ, suc, List, [], ◌∷◌, ◌++◌, map, fold, Option, Some, None, refl, sym, ap, ◌∙◌, append_assoc, append-nil}
use Rattle.std.specs.List.{flat_map}
use Rattle.std.specs.Option.{option_map}
use Rattle.std.proofs.lemmas.List.Sums.{fold-append}
use Rattle.pack_model.specs.Problem.{Parts}
use Rattle.cert_text.specs.declared.event.Event.{Event}
use Rattle.cert_text.specs.declared.event.Event.TheVariants as event
use Rattle.cert_text.specs.declared.parts.FrameLine.{FrameLine}
use Rattle.cert_text.specs.CertEvents.{cert_events, lemma_events, main_events, tree_events, trees_events}
use Rattle.cert_text.specs.Parts.{CertOf, LemmaOf, unmark_cert, unmark_lemma}
use Rattle.cert_text.specs.Trees.{Marked, Markeds, count, m_bound, m_fail, m_inner, m_left, m_more, m_none, shard, unmark, unmark_all}
use Rattle.cert_check.specs.Entries.{Entry, as_event}
use Rattle.cert_check.specs.Nodes.{Node, count_trees, inner_node, nodes_of, nodes_of_each}
use Rattle.cert_check.specs.Said.{Said, and_entry, and_said, cert_said, lemma_begun, lemma_said, lemmas_said, lines_said, main_said, main_begun, nothing_said, said_by, with_end, with_kind, with_line, with_lines, with_node, with_nodes}

-- with these nodes of the tree
abbrev to_nodes : Said → List Node → Said
to_nodes s nodes = record s { tree = record s.tree { nodes = nodes } }

-- marks change no number of trees
count_same : (ts : Markeds) → count ts ≡ count_trees (unmark_all ts)
count_same m_none = refl
count_same (m_more t ts) = ap suc (count_same ts)

module _ (best : Option ℕ) where
  -- what further events say
  abbrev all : Said → List Event → Said
  all s es = fold (and_said best) s es

  mutual
    unfolding tree_events trees_events nodes_of nodes_of_each

    -- the events of a tree say its nodes
    pub said_tree : (t : Marked) (s : Said) (es : List Event)
        → all s (tree_events t ++ es) ≡ all (with_nodes (nodes_of (unmark t)) s) es
    said_tree (m_inner ts) s es =
        said_trees ts (with_node (inner_node (count ts)) s) es
        ∙ ap (λ ns. all (to_nodes s ns) es)
        (append_assoc s.tree.nodes (inner_node (count ts) ∷ []) (nodes_of_each (unmark_all ts))
        ∙ ap (λ n. s.tree.nodes ++ inner_node n ∷ nodes_of_each (unmark_all ts)) (count_same ts))
    said_tree m_bound s es = refl
    said_tree m_left s es = refl
    said_tree (m_fail named) s es = refl
    said_tree (shard t) s es =
        ap (all s) (append_assoc (tree_events t) (event.JoinMark ∷ []) es) ∙ said_tree t s (event.JoinMark ∷ es)

    said_trees : (ts : Markeds) (s : Said) (es : List Event)
        → all s (trees_events ts ++ es) ≡ all (with_nodes (nodes_of_each (unmark_all ts)) s) es
    said_trees m_none s es = ap (λ ns. all (to_nodes s ns) es) (sym (append-nil s.tree.nodes))
    said_trees (m_more t ts) s es =
        ap (all s) (append_assoc (tree_events t) (trees_events ts) es)
        ∙ said_tree t s (trees_events ts ++ es)
        ∙ said_trees ts (with_nodes (nodes_of (unmark t)) s) es
        ∙ ap (λ ns. all (to_nodes s ns) es)
        (append_assoc s.tree.nodes (nodes_of (unmark t)) (nodes_of_each (unmark_all ts)))

  -- those of frame lines say them
  said_lines : (lines : List FrameLine) (s : Said) (es : List Event)
      → all s (map event.FrameOf lines ++ es) ≡ all (with_lines lines s) es
  said_lines [] s es = ap (λ ls. all (record s { lines = ls }) es) (sym (append-nil s.lines))
  said_lines (line ∷ lines) s es =
      said_lines lines (with_line line s) es
      ∙ ap (λ ls. all (record s { lines = ls }) es) (append_assoc s.lines (line ∷ []) lines)

  -- those of lemmas say these
  said_lemmas : (lemmas : List (LemmaOf Marked)) (s : Said) (es : List Event)
      → all s (flat_map lemma_events lemmas ++ es) ≡ all (lemmas_said (map unmark_lemma lemmas) s) es
  said_lemmas [] s es = refl
  said_lemmas (lemma ∷ lemmas) s es =
      ap (all (lemma_begun lemma.sender lemma.value s))
      (append_assoc (tree_events lemma.tree) (flat_map lemma_events lemmas) es)
      ∙ said_tree lemma.tree (lemma_begun lemma.sender lemma.value s) (flat_map lemma_events lemmas ++ es)
      ∙ said_lemmas lemmas (lemma_said s (unmark_lemma lemma)) es

  -- those of the main tree and the end
  said_main : (tree : Option Marked) (s : Said)
      → all s (main_events tree ++ event.Finish ∷ [])
      ≡ with_end (main_said best (option_map unmark tree) s)
  said_main None s = refl
  said_main (Some tree) s = said_tree tree (main_begun best s) (event.Finish ∷ [])

-- events are entries
pub all_events : (best : Option ℕ) (s : Said) (es : List Event)
    → fold (and_entry best) s (map as_event es) ≡ fold (and_said best) s es
all_events best s [] = refl
all_events best s (e ∷ es) = all_events best (and_said best s e) es

-- those of a tree say its nodes
pub tree_said : (best : Option ℕ) (t : Marked) (s : Said)
    → fold (and_entry best) s (map as_event (tree_events t)) ≡ with_nodes (nodes_of (unmark t)) s
tree_said best t s =
    all_events best s (tree_events t) ∙ ap (fold (and_said best) s) (sym (append-nil (tree_events t)))
    ∙ said_tree best t s []

-- the events of a certificate say it
pub said_cert : (problem : Parts) (best : Option ℕ) (c : CertOf Marked)
    → said_by problem best (map as_event (cert_events c)) ≡ cert_said problem best (unmark_cert c)
said_cert problem best c =
    let end = main_events c.main_tree ++ event.Finish ∷ [] in
    let s : Said = lines_said problem (unmark_cert c) in
    all_events best (nothing_said problem) (cert_events c)
    ∙ said_lines best c.frames (with_kind c.kind (nothing_said problem))
    (flat_map lemma_events c.lemmas ++ end)
    ∙ said_lemmas best c.lemmas s end
    ∙ said_main best c.main_tree (lemmas_said (map unmark_lemma c.lemmas) s)

-- one entry more says what it does
pub said_more : (problem : Parts) (best : Option ℕ) (es : List Entry) (e : Entry)
    → and_entry best (said_by problem best es) e ≡ said_by problem best (es ++ e ∷ [])
said_more problem best es e = sym (fold-append (and_entry best) (nothing_said problem) es (e ∷ []))
