-- The lines of trees and of certificates, piece by piece.
use Rattle.std.proofs.Common.{◌≡◌, ℕ, zero, suc, ◌≤◌, List, [], ◌∷◌, ◌++◌, length, map, take, Bool, true, false, Option, Some, None, refl, sym, ap, subst, ◌∙◌, append-nil}
use Rattle.std.specs.List.{flat_map}
use Rattle.std.proofs.lemmas.List.{length-map}
use Rattle.std.proofs.lemmas.List.Concat.{flat_map_single}
use Rattle.std.proofs.lemmas.List.Folds.{flat_map-map}
use Rattle.response_test.specs.declared.evidence.Evidence.{Evidence}
use Rattle.cert_text.specs.declared.parts.Kind.{Kind}
use Rattle.cert_text.specs.declared.parts.Lemma.{Lemma}
use Rattle.cert_text.specs.declared.parts.Tree.{Tree}
use Rattle.cert_text.specs.declared.event.Event.{Event}
use Rattle.cert_text.specs.declared.event.Event.TheVariants as event
use Rattle.cert_text.specs.declared.line.Line.TheVariants as line
use Rattle.cert_text.specs.Trees.{Plain, count, inner, none}
use Rattle.cert_text.specs.PlainTree.{onto, plain_lemma, plain_of}
use Rattle.cert_text.specs.CertEvents.{lemma_events, tree_events, trees_events}
use Rattle.cert_text.specs.Lines.{against, lines_of}
use Rattle.cert_text.specs.Written.{below, lemma_marks, lemma_tree, with_marks, with_marks_all, written_lemma}
use Rattle.cert_text.specs.Adding.{Adds, closing, opening, tree_lines}
use Rattle.cert_text.proofs.Adds.{adds-all, adds-append}
use Rattle.cert_text.proofs.Fills.{lines_append}

-- as many marked trees as trees
onto_count : (m : Option ℕ) (ts : List Plain) → count (with_marks_all m (onto ts none)) ≡ length ts
onto_count m [] = refl
onto_count m (t ∷ ts) = ap suc (onto_count m ts)

-- the lines of trees are those of each
onto_lines : (m : Option ℕ) (ts : List Plain) → lines_of (trees_events (with_marks_all m (onto ts none))) ≡ flat_map (tree_lines m) ts
unfolding trees_events
onto_lines m [] = refl
onto_lines m (t ∷ ts) =
    lines_append (tree_events (with_marks m t)) (trees_events (with_marks_all m (onto ts none))) ∙ ap (λ ls. tree_lines m t ++ ls) (onto_lines m ts)

-- the line of an inner node, and the lines of its subtrees
node_lines : (m : Option ℕ) (ts : List Plain)
    → line.InnerLine (count (with_marks_all m (onto ts none))) ∷ lines_of (trees_events (with_marks_all m (onto ts none))) ≡ line.InnerLine (length ts) ∷ flat_map (tree_lines m) ts
node_lines m ts =
    ap (λ n. line.InnerLine n ∷ lines_of (trees_events (with_marks_all m (onto ts none)))) (onto_count m ts) ∙ ap (λ ls. line.InnerLine (length ts) ∷ ls) (onto_lines m ts)

-- the lines of an inner node with its marks
inner_lines : (m : Option ℕ) (ts : List Plain)
    → tree_lines m (inner (onto ts none)) ≡ opening m ++ (line.InnerLine (length ts) ∷ (flat_map (tree_lines (below m)) ts ++ closing m))
unfolding tree_events
inner_lines None ts = node_lines None ts ∙ ap (λ ls. line.InnerLine (length ts) ∷ ls) (sym (append-nil (flat_map (tree_lines None) ts)))
inner_lines (Some zero) ts =
    let us = with_marks_all None (onto ts none) in
    ap (λ ls. line.ShardLine ∷ ls)
    (lines_append (event.Node (count us) ∷ trees_events us) (event.JoinMark ∷ []) ∙ ap (λ ls. ls ++ line.JoinLine ∷ []) (node_lines None ts))
inner_lines (Some (suc n)) ts = node_lines (Some n) ts ∙ ap (λ ls. line.InnerLine (length ts) ∷ ls) (sym (append-nil (flat_map (tree_lines (Some n)) ts)))

-- an inner node was added
pub adds-inner : (m b : Option ℕ) (items : List Tree) (n : ℕ) (first second third fourth last : List ℕ) → n ≡ length items → b ≡ below m
    → Adds first second (opening m) → Adds second third (line.InnerLine n ∷ []) → Adds third fourth (flat_map (λ t. tree_lines b (plain_of t)) items) → Adds fourth last (closing m)
    → Adds first last (tree_lines m (inner (onto (map plain_of items) none)))
adds-inner m b items n first second third fourth last counted is a node trees z =
    let rest = adds-append third fourth last (flat_map (λ t. tree_lines b (plain_of t)) items) (closing m) trees z in
    let all = adds-append first second last (opening m) _ a (adds-append second third last (line.InnerLine n ∷ []) _ node rest) in
    let mapped : length (map plain_of items) ≡ length items = rw length-map refl in
    let number : n ≡ length (map plain_of items) = counted ∙ sym mapped in
    let subtrees : flat_map (λ t. tree_lines b (plain_of t)) items ≡ flat_map (tree_lines (below m)) (map plain_of items) =
    ap (λ x. flat_map (λ t. tree_lines x (plain_of t)) items) is ∙ sym (flat_map-map (tree_lines (below m)) plain_of items) in
    subst (Adds first last)
    (ap (λ k. opening m ++ (line.InnerLine k ∷ (flat_map (λ t. tree_lines b (plain_of t)) items ++ closing m))) number
    ∙ ap (λ ls. opening m ++ (line.InnerLine (length (map plain_of items)) ∷ (ls ++ closing m))) subtrees
    ∙ sym (inner_lines m (map plain_of items)))
    all

-- the lines of a lemma's tree with its marks
lemma_tree_lines : (marks : Bool) (t : Plain) → lines_of (tree_events (lemma_tree marks t)) ≡ opening (lemma_marks marks) ++ (tree_lines None t ++ closing (lemma_marks marks))
unfolding tree_events
lemma_tree_lines true t = ap (λ ls. line.ShardLine ∷ ls) (lines_append (tree_events (with_marks None t)) (event.JoinMark ∷ []))
lemma_tree_lines false t = sym (append-nil (tree_lines None t))

-- a lemma was added
pub adds-lemma : (marks : Bool) (shard : Option ℕ) (l : Lemma) (first second third fourth last : List ℕ) → shard ≡ lemma_marks marks
    → Adds first second (line.LemmaWords l.sender l.value ∷ []) → Adds second third (opening shard) → Adds third fourth (tree_lines None (plain_of l.tree)) → Adds fourth last (closing shard)
    → Adds first last (lines_of (lemma_events (written_lemma marks (plain_lemma l))))
adds-lemma marks shard l first second third fourth last is words a tree z =
    let lines = tree_lines None (plain_of l.tree) in
    let all = adds-append first second last (line.LemmaWords l.sender l.value ∷ []) _ words
    (adds-append second third last (opening shard) _ a (adds-append third fourth last lines (closing shard) tree z)) in
    subst (Adds first last)
    (ap (λ x. line.LemmaWords l.sender l.value ∷ (opening x ++ (lines ++ closing x))) is ∙ ap (λ ls. line.LemmaWords l.sender l.value ∷ ls) (sym (lemma_tree_lines marks (plain_of l.tree))))
    all

-- the lines of lemmas are those of each
pub lemmas_lines : (marks : Bool) (ls : List Lemma)
    → flat_map (λ l. lines_of (lemma_events (written_lemma marks (plain_lemma l)))) ls ≡ lines_of (flat_map lemma_events (map (written_lemma marks) (map plain_lemma ls)))
lemmas_lines marks [] = refl
lemmas_lines marks (l ∷ ls) =
    let own = lemma_events (written_lemma marks (plain_lemma l)) in
    ap (λ x. lines_of own ++ x) (lemmas_lines marks ls) ∙ sym (lines_append own (flat_map lemma_events (map (written_lemma marks) (map plain_lemma ls))))

-- the parts of a certificate were added
pub adds-cert : (k : Kind) (fs ls ms : List Event) (o a b c d e z : List ℕ)
    → Adds o a (line.FirstLine ∷ []) → Adds a b (line.KindLine k ∷ []) → Adds b c (lines_of fs) → Adds c d (lines_of ls) → Adds d e (lines_of ms) → Adds e z (line.EndLine ∷ [])
    → Adds o z (lines_of (event.Head k ∷ (fs ++ (ls ++ (ms ++ event.Finish ∷ [])))))
adds-cert k fs ls ms o a b c d e z first kind frames lemmas main end =
    let after_main = adds-append d e z (lines_of ms) _ main end in
    let after_lemmas = adds-append c d z (lines_of ls) _ lemmas (subst (Adds d z) (sym (lines_append ms (event.Finish ∷ []))) after_main) in
    let after_frames = adds-append b c z (lines_of fs) _ frames (subst (Adds c z) (sym (lines_append ls (ms ++ event.Finish ∷ []))) after_lemmas) in
    adds-append o a z (line.FirstLine ∷ []) _ first
    (adds-append a b z (line.KindLine k ∷ []) _ kind (subst (Adds b z) (sym (lines_append fs (ls ++ (ms ++ event.Finish ∷ [])))) after_frames))

-- a fail leaf was added
pub adds-fail : (items pieces : List (ℕ × Evidence)) (i : ℕ) (first second last : List ℕ) → pieces ≡ items → length pieces ≤ i → Adds first second (line.FailLine (length pieces) ∷ [])
    → Adds second last (flat_map (λ x. against x ∷ []) (take i pieces)) → Adds first last (lines_of (event.FailLeaf items ∷ []))
adds-fail items pieces i first second last is past leaf added =
    let all = adds-append first second last (line.FailLine (length pieces) ∷ []) _ leaf (adds-all (λ x. against x ∷ []) pieces i second last past added) in
    subst (Adds first last)
    (ap (λ ls. line.FailLine (length pieces) ∷ ls) (flat_map_single against pieces) ∙ ap (λ (xs : List (ℕ × Evidence)). line.FailLine (length xs) ∷ map against xs) is
    ∙ ap (λ ls. line.FailLine (length items) ∷ ls) (sym (append-nil (map against items))))
    all
