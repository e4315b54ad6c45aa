-- The events of a certificate make it.
use Rattle.std.proofs.Common.{◌≡◌, ℕ, zero, suc, List, [], ◌∷◌, ◌++◌, map, Option, Some, None, refl, sym, ap, ◌∙◌, append_assoc, append-nil}
use Rattle.std.specs.List.{flat_map}
use Rattle.std.specs.Option.{option_map}
use Rattle.cert_text.specs.declared.parts.Kind.{Kind}
use Rattle.cert_text.specs.declared.parts.FrameLine.{FrameLine}
use Rattle.cert_text.specs.declared.event.Event.{Event}
use Rattle.cert_text.specs.declared.event.Event.TheVariants as event
use Rattle.cert_text.specs.Trees.{Marked, Markeds, Plain, Plains, count, inner, m_bound, m_fail, m_inner, m_left, m_more, m_none, more, none, shard, unmark, unmark_all}
use Rattle.cert_text.specs.Parts.{CertOf, LemmaOf, unmark_cert, unmark_lemma}
use Rattle.cert_text.specs.PlainTree.{onto}
use Rattle.cert_text.specs.CertEvents.{cert_events, lemma_events, main_events, tree_events, trees_events}
use Rattle.cert_text.specs.Making.{Made, OpenNode, cert_made, made, make, nothing_made, put_tree, with_tree}

-- a tree more at the end
pub onto_push : (ts : List Plain) (t : Plain) (ps : Plains) → onto (ts ++ t ∷ []) ps ≡ onto ts (more t ps)
onto_push [] t ps = refl
onto_push (x ∷ ts) t ps = ap (more x) (onto_push ts t ps)

-- with these open nodes
abbrev pub with_nodes : List OpenNode → Made → Made
with_nodes nodes m = record { kind = m.kind; frames = m.frames; lemmas = m.lemmas; goal = m.goal; nodes = nodes; main = m.main }

-- the open nodes that are put into are those that are given
pub put_tree-nodes : (nodes other : List OpenNode) (t : Plain) (m : Made) → put_tree t nodes (with_nodes other m) ≡ put_tree t nodes m
put_tree-nodes [] other t m = by m.goal
  where
    by : (g : Option (ℕ × ℕ)) → with_tree g t (with_nodes other m) ≡ with_tree g t m
    by None = refl
    by (Some g) = refl
put_tree-nodes ((zero, ts) ∷ nodes) other t m = put_tree-nodes nodes other (inner (onto ts (more t none))) m
put_tree-nodes ((suc n, ts) ∷ nodes) other t m = refl

-- no trees
none_of : (ts : Markeds) → count ts ≡ zero → ts ≡ m_none
none_of m_none e = refl
none_of (m_more t ts) e = cc

mutual
  unfolding tree_events made

  -- a tree's events put it where a tree is lacking
  made-tree : (t : Marked) (m : Made) (es : List Event) → made m (tree_events t ++ es) ≡ made (put_tree (unmark t) m.nodes m) es
  made-tree (m_inner ts) m es = by (count ts) refl (λ n e. made-trees ts n [] m.nodes m es e)
    where
      by : (n : ℕ) → count ts ≡ n
          → ((k : ℕ) → count ts ≡ suc k → made (with_nodes ((k, []) ∷ m.nodes) m) (trees_events ts ++ es) ≡ made (put_tree (inner (unmark_all ts)) m.nodes m) es)
          → made (make m (event.Node (count ts))) (trees_events ts ++ es) ≡ made (put_tree (inner (unmark_all ts)) m.nodes m) es
      by zero e further = rw (none_of ts e) refl
      by (suc n) e further = ap (λ k. made (make m (event.Node k)) (trees_events ts ++ es)) e ∙ further n e
  made-tree m_bound m es = refl
  made-tree m_left m es = refl
  made-tree (m_fail items) m es = refl
  made-tree (shard t) m es = ap (made m) (append_assoc (tree_events t) (event.JoinMark ∷ []) es) ∙ made-tree t m (event.JoinMark ∷ es)

  -- a node's last trees, of which there is one at least
  made-trees : (ts : Markeds) (n : ℕ) (before : List Plain) (nodes : List OpenNode) (m : Made) (es : List Event) → count ts ≡ suc n
      → made (with_nodes ((n, before) ∷ nodes) m) (trees_events ts ++ es) ≡ made (put_tree (inner (onto before (unmark_all ts))) nodes m) es
  made-trees m_none n before nodes m es e = absurd (let h : zero ≡ suc n = e in cc)
  made-trees (m_more t ts) zero before nodes m es e =
      let last : ts ≡ m_none = none_of ts (cc (e)) in
      ap (made (with_nodes ((zero, before) ∷ nodes) m)) (append_assoc (tree_events t) (trees_events ts) es)
      ∙ made-tree t (with_nodes ((zero, before) ∷ nodes) m) (trees_events ts ++ es)
      ∙ ap (λ x. made x (trees_events ts ++ es)) (put_tree-nodes nodes ((zero, before) ∷ nodes) (inner (onto before (more (unmark t) none))) m)
      ∙ ap (λ us. made (put_tree (inner (onto before (more (unmark t) none))) nodes m) (trees_events us ++ es)) last
      ∙ ap (λ us. made (put_tree (inner (onto before (more (unmark t) (unmark_all us)))) nodes m) es) (sym last)
  made-trees (m_more t ts) (suc n) before nodes m es e =
      ap (made (with_nodes ((suc n, before) ∷ nodes) m)) (append_assoc (tree_events t) (trees_events ts) es)
      ∙ made-tree t (with_nodes ((suc n, before) ∷ nodes) m) (trees_events ts ++ es)
      ∙ made-trees ts n (before ++ unmark t ∷ []) nodes m es (cc (e))
      ∙ ap (λ x. made (put_tree (inner x) nodes m) es) (onto_push before (unmark t) (unmark_all ts))

-- ---- the parts of a certificate

-- the events of frames' lines add them
made_frames : (fs : List FrameLine) (m : Made) (es : List Event)
    → made m (map event.FrameOf fs ++ es) ≡ made (record { kind = m.kind; frames = m.frames ++ fs; lemmas = m.lemmas; goal = m.goal; nodes = m.nodes; main = m.main }) es
unfolding made
made_frames [] m es = ap (λ fs. made (record { kind = m.kind; frames = fs; lemmas = m.lemmas; goal = m.goal; nodes = m.nodes; main = m.main }) es) (sym (append-nil m.frames))
made_frames (f ∷ fs) m es =
    made_frames fs (make m (event.FrameOf f)) es
    ∙ ap (λ x. made (record { kind = m.kind; frames = x; lemmas = m.lemmas; goal = m.goal; nodes = m.nodes; main = m.main }) es) (append_assoc m.frames (f ∷ []) fs)

-- between trees
abbrev between : Kind → List FrameLine → List (LemmaOf Plain) → Option (ℕ × ℕ) → Made
between k fs ls g = record { kind = k; frames = fs; lemmas = ls; goal = g; nodes = []; main = None }

record After (k : Kind) (fs : List FrameLine) (ls : List (LemmaOf Plain)) (g : Option (ℕ × ℕ)) (all es : List Event) : Type 0 where
  last : Option (ℕ × ℕ)
  is : made (between k fs ls g) all ≡ made (between k fs ls last) es

-- the events of lemmas add them
made_lemmas : (lemmas : List (LemmaOf Marked)) (k : Kind) (fs : List FrameLine) (before : List (LemmaOf Plain)) (g : Option (ℕ × ℕ)) (es : List Event)
    → (last : Option (ℕ × ℕ)) × (made (between k fs before g) (flat_map lemma_events lemmas ++ es) ≡ made (between k fs (before ++ map unmark_lemma lemmas) last) es)
unfolding made
made_lemmas [] k fs before g es = (g, ap (λ ls. made (between k fs ls g) es) (sym (append-nil before)))
made_lemmas (l ∷ lemmas) k fs before g es =
    let others = flat_map lemma_events lemmas in
    let rest = made_lemmas lemmas k fs (before ++ unmark_lemma l ∷ []) (Some (l.sender, l.value)) es in (
      rest.0,
      ap (made (between k fs before (Some (l.sender, l.value)))) (append_assoc (tree_events l.tree) others es)
          ∙ made-tree l.tree (between k fs before (Some (l.sender, l.value))) (others ++ es)
          ∙ rest.1
          ∙ ap (λ ls. made (between k fs ls rest.0) es) (append_assoc before (unmark_lemma l ∷ []) (map unmark_lemma lemmas)),
    )

-- the events of a main tree and the end make it the main tree
made_main : (main : Option Marked) (k : Kind) (fs : List FrameLine) (ls : List (LemmaOf Plain)) (g : Option (ℕ × ℕ))
    → cert_made (made (between k fs ls g) (main_events main ++ event.Finish ∷ [])) ≡ record { kind = k; frames = fs; lemmas = ls; main_tree = option_map unmark main }
unfolding made
made_main None k fs ls g = refl
made_main (Some t) k fs ls g = ap cert_made (made-tree t (between k fs ls None) (event.Finish ∷ []))

-- the events of a certificate make it
pub made-cert : (c : CertOf Marked) → cert_made (made nothing_made (cert_events c)) ≡ unmark_cert c
unfolding made
made-cert c =
    let end = main_events c.main_tree ++ event.Finish ∷ [] in
    let ls = made_lemmas c.lemmas c.kind c.frames [] None end in
    ap cert_made (made_frames c.frames (make nothing_made (event.Head c.kind)) (flat_map lemma_events c.lemmas ++ end) ∙ ls.1) ∙ made_main c.main_tree c.kind c.frames (map unmark_lemma c.lemmas) ls.0
