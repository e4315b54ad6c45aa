-- A certificate that fits has a text, with its marks and without them.
use Rattle.std.proofs.Common.{◌≡◌, ◌≤◌, ℕ, zero, suc, List, [], ◌∷◌, ◌++◌, map, Bool, true, false, Option, Some, None, refl, sym, ap, subst, ◌∙◌}
use Rattle.std.specs.Prelude.{⊤}
use Rattle.std.specs.List.{AllByRecursion, flat_map}
use Rattle.std.specs.Option.{option_map}
use Rattle.std.proofs.lemmas.List.Elements.{recursion_from_All}
use Rattle.response_test.specs.declared.evidence.Evidence.{Evidence}
use Rattle.response_test.specs.declared.evidence.Evidence.TheVariants as evidence
use Rattle.cert_text.specs.declared.parts.FrameLine.{FrameLine}
use Rattle.cert_text.specs.declared.event.Event.{Event}
use Rattle.cert_text.specs.declared.event.Event.TheVariants as event
use Rattle.cert_text.specs.declared.line.Line.{Line}
use Rattle.cert_text.specs.declared.line.Line.TheVariants as line
use Rattle.cert_text.specs.Trees.{AllStand, Plain, Plains, Stands, bound, count, fail, inner, left, more, none, unmark, unmark_all}
use Rattle.cert_text.specs.Parts.{CertParts, HasParts, LemmaOf, MainStands, unmark_cert, unmark_lemma}
use Rattle.cert_text.specs.CertEvents.{lemma_events, main_events, tree_events, trees_events}
use Rattle.cert_text.specs.Lines.{LineInRange, against, cert_lines, lines_of, text_of}
use Rattle.cert_text.specs.CertText.{CertText}
use Rattle.cert_text.specs.Written.{CertFits, HasNumbers, HasRoom, LemmaFits, MainFits, PieceFits, TreeFits, TreesFit, lemma_tree, main_marks, number_of_trees, with_marks, with_marks_all, written_cert, written_lemma}
use Rattle.cert_text.specs.Adding.{Adds, EvidenceNumbers, HasNumbersOfTypes}
use Rattle.cert_text.proofs.Fills.{lines_append}
use Rattle.cert_text.proofs.OfText.{mapped_parts}
use Rattle.cert_text.proofs.Cuts.{all_append}

-- ---- marks change nothing of what a certificate says

mutual
  -- a tree with marks is that tree without them
  unmark-marked : (m : Option ℕ) (t : Plain) → unmark (with_marks m t) ≡ t
  unmark-marked None (inner ts) = ap inner (unmark-marked_all None ts)
  unmark-marked (Some zero) (inner ts) = ap inner (unmark-marked_all None ts)
  unmark-marked (Some (suc n)) (inner ts) = ap inner (unmark-marked_all (Some n) ts)
  unmark-marked m bound = refl
  unmark-marked m left = refl
  unmark-marked m (fail es) = refl

  -- so are trees
  unmark-marked_all : (m : Option ℕ) (ts : Plains) → unmark_all (with_marks_all m ts) ≡ ts
  unmark-marked_all m none = refl
  unmark-marked_all m (more t ts) =
      ap (λ x. more x (unmark_all (with_marks_all m ts))) (unmark-marked m t) ∙ ap (more t) (unmark-marked_all m ts)

-- so is a lemma's tree
unmark-lemma_tree : (marks : Bool) (t : Plain) → unmark (lemma_tree marks t) ≡ t
unmark-lemma_tree true t = unmark-marked None t
unmark-lemma_tree false t = unmark-marked None t

-- so are lemmas
unmark-lemmas : (marks : Bool) (ls : List (LemmaOf Plain)) → map unmark_lemma (map (written_lemma marks) ls) ≡ ls
unmark-lemmas marks [] = refl
unmark-lemmas marks (l ∷ ls) =
    ap (λ t. record { sender = l.sender; value = l.value; tree = t } ∷ map unmark_lemma (map (written_lemma marks) ls)) (unmark-lemma_tree marks l.tree)
    ∙ ap (λ xs. l ∷ xs) (unmark-lemmas marks ls)

-- so is a main tree
unmark-main : (m : Option ℕ) (t : Option Plain) → option_map unmark (option_map (with_marks m) t) ≡ t
unmark-main m None = refl
unmark-main m (Some t) = ap (λ x. Some x) (unmark-marked m t)

-- a certificate as it is written is that certificate without its marks
unmark-written : (marks : Bool) (c : CertParts) → unmark_cert (written_cert marks c) ≡ c
unmark-written marks c =
    ap (λ ls. record { kind = c.kind; frames = c.frames; lemmas = ls; main_tree = option_map unmark (option_map (with_marks (main_marks marks)) c.main_tree) }) (unmark-lemmas marks c.lemmas)
    ∙ ap (λ t. record { kind = c.kind; frames = c.frames; lemmas = c.lemmas; main_tree = t }) (unmark-main (main_marks marks) c.main_tree)

-- ---- trees that fit stand with these marks

mutual
  unfolding Stands AllStand

  -- without a mark, also where none may stand
  bare_stands : (may : Bool) (depth : ℕ) (t : Plain) → TreeFits depth t → Stands may depth (with_marks None t)
  bare_stands may depth (inner ts) fits = (fits.0, bares_stand may (suc depth) ts fits.3)
  bare_stands may depth bound fits = tt
  bare_stands may depth left fits = tt
  bare_stands may depth (fail es) fits = tt

  -- so do trees
  bares_stand : (may : Bool) (depth : ℕ) (ts : Plains) → TreesFit depth ts → AllStand may depth (with_marks_all None ts)
  bares_stand may depth none fits = tt
  bares_stand may depth (more t ts) fits = (bare_stands may depth t fits.0, bares_stand may depth ts fits.1)

mutual
  unfolding Stands AllStand

  -- a tree that fits stands with its marks
  marked_stands : (m : Option ℕ) (depth : ℕ) (t : Plain) → TreeFits depth t → Stands true depth (with_marks m t)
  marked_stands None depth t fits = bare_stands true depth t fits
  marked_stands (Some zero) depth (inner ts) fits = (fits.0, bares_stand false (suc depth) ts fits.3)
  marked_stands (Some (suc n)) depth (inner ts) fits = (fits.0, alls_stand (Some n) (suc depth) ts fits.3)
  marked_stands (Some n) depth bound fits = tt
  marked_stands (Some n) depth left fits = tt
  marked_stands (Some n) depth (fail es) fits = tt

  -- so do trees
  alls_stand : (m : Option ℕ) (depth : ℕ) (ts : Plains) → TreesFit depth ts → AllStand true depth (with_marks_all m ts)
  alls_stand m depth none fits = tt
  alls_stand m depth (more t ts) fits = (marked_stands m depth t fits.0, alls_stand m depth ts fits.1)

-- a lemma's tree stands
lemma_stands : (marks : Bool) (t : Plain) → TreeFits zero t → Stands true zero (lemma_tree marks t)
unfolding Stands
lemma_stands true t fits = bare_stands false zero t fits
lemma_stands false t fits = bare_stands true zero t fits

-- lemmas' trees stand
lemmas_stand : (marks : Bool) (ls : List (LemmaOf Plain)) → AllByRecursion LemmaFits ls → AllByRecursion (λ l. Stands true zero l.tree) (map (written_lemma marks) ls)
lemmas_stand marks [] fits = tt
lemmas_stand marks (l ∷ ls) fits = (lemma_stands marks l.tree fits.0.1, lemmas_stand marks ls fits.1)

-- a main tree stands
main_stands : (m : Option ℕ) (t : Option Plain) → MainFits t → MainStands (option_map (with_marks m) t)
main_stands m None fits = tt
main_stands m (Some t) fits = marked_stands m zero t fits

-- ---- the counts of its lines are in range

-- the counts of a line are in range
abbrev HasCounts : Line → Type 0
HasCounts line.FirstLine = ⊤
HasCounts (line.KindLine k) = ⊤
HasCounts (line.FrameWords f) = HasRoom f
HasCounts (line.LemmaWords sender value) = sender ≤ 255
HasCounts line.MainLine = ⊤
HasCounts (line.InnerLine n) = (1 ≤ n) × (n ≤ 128)
HasCounts line.BoundLine = ⊤
HasCounts line.OpenLine = ⊤
HasCounts (line.FailLine n) = n ≤ 128
HasCounts (line.AgainstLine label e) = (label ≤ 127) × HasNumbers e
HasCounts line.ShardLine = ⊤
HasCounts line.JoinLine = ⊤
HasCounts line.EndLine = ⊤

-- the counts of the lines of events are in range
abbrev AllCount : List Event → Type 0
AllCount es = AllByRecursion HasCounts (lines_of es)

-- as many marked trees as trees
count-marked : (m : Option ℕ) (ts : Plains) → count (with_marks_all m ts) ≡ number_of_trees ts
count-marked m none = refl
count-marked m (more t ts) = ap suc (count-marked m ts)

-- the lines of evidence that fits
pieces_count : (es : List (ℕ × Evidence)) → AllByRecursion PieceFits es → AllByRecursion HasCounts (map against es ++ [])
pieces_count [] fits = tt
pieces_count (e ∷ es) fits = (fits.0, pieces_count es fits.1)

-- the lines of joined events
counts_append : (a b : List Event) → AllCount a → AllCount b → AllCount (a ++ b)
counts_append a b x y = subst (AllByRecursion HasCounts) (sym (lines_append a b)) (all_append HasCounts (lines_of a) (lines_of b) x y)

-- the lines of an inner node
node_count : (m : Option ℕ) (ts : Plains) → 1 ≤ number_of_trees ts → number_of_trees ts ≤ 128 → AllCount (trees_events (with_marks_all m ts))
    → AllCount (event.Node (count (with_marks_all m ts)) ∷ trees_events (with_marks_all m ts))
node_count m ts some few all =
    let n = count-marked m ts in
    (subst (λ k. (1 ≤ k) × (k ≤ 128)) (sym n) (some, few), all)

mutual
  unfolding tree_events trees_events

  -- the lines of a tree that fits
  tree_counts : (m : Option ℕ) (depth : ℕ) (t : Plain) → TreeFits depth t → AllCount (tree_events (with_marks m t))
  tree_counts None depth (inner ts) fits = node_count None ts fits.1 fits.2 (trees_count None (suc depth) ts fits.3)
  tree_counts (Some zero) depth (inner ts) fits = (
    tt,
    counts_append (event.Node (count (with_marks_all None ts)) ∷ trees_events (with_marks_all None ts)) (event.JoinMark ∷ [])
        (node_count None ts fits.1 fits.2 (trees_count None (suc depth) ts fits.3)) (tt, tt),
  )
  tree_counts (Some (suc n)) depth (inner ts) fits = node_count (Some n) ts fits.1 fits.2 (trees_count (Some n) (suc depth) ts fits.3)
  tree_counts m depth bound fits = (tt, tt)
  tree_counts m depth left fits = (tt, tt)
  tree_counts m depth (fail es) fits = (fits.0, pieces_count es (recursion_from_All PieceFits es fits.1))

  -- the lines of trees that fit
  trees_count : (m : Option ℕ) (depth : ℕ) (ts : Plains) → TreesFit depth ts → AllCount (trees_events (with_marks_all m ts))
  trees_count m depth none fits = tt
  trees_count m depth (more t ts) fits =
      counts_append (tree_events (with_marks m t)) (trees_events (with_marks_all m ts)) (tree_counts m depth t fits.0) (trees_count m depth ts fits.1)

-- the lines of a lemma's tree
lemma_count : (marks : Bool) (t : Plain) → TreeFits zero t → AllCount (tree_events (lemma_tree marks t))
unfolding tree_events
lemma_count true t fits = (tt, counts_append (tree_events (with_marks None t)) (event.JoinMark ∷ []) (tree_counts None zero t fits) (tt, tt))
lemma_count false t fits = tree_counts None zero t fits

-- the lines of lemmas
lemmas_count : (marks : Bool) (ls : List (LemmaOf Plain)) → AllByRecursion LemmaFits ls → AllCount (flat_map lemma_events (map (written_lemma marks) ls))
lemmas_count marks [] fits = tt
lemmas_count marks (l ∷ ls) fits =
    counts_append (lemma_events (written_lemma marks l)) (flat_map lemma_events (map (written_lemma marks) ls)) (fits.0.0, lemma_count marks l.tree fits.0.1) (lemmas_count marks ls fits.1)

-- the lines of frames
frames_count : (fs : List FrameLine) → AllByRecursion HasRoom fs → AllCount (map event.FrameOf fs)
frames_count [] fits = tt
frames_count (f ∷ fs) fits = (fits.0, frames_count fs fits.1)

-- the lines of a main tree
main_count : (m : Option ℕ) (t : Option Plain) → MainFits t → AllCount (main_events (option_map (with_marks m) t))
main_count m None fits = tt
main_count m (Some t) fits = (tt, tree_counts m zero t fits)

-- the lines of a certificate that fits
cert_count : (marks : Bool) (c : CertParts) → CertFits c → AllByRecursion HasCounts (cert_lines (written_cert marks c))
cert_count marks c fits =
    let frames = map event.FrameOf c.frames in
    let lemmas = flat_map lemma_events (map (written_lemma marks) c.lemmas) in
    let main = main_events (option_map (with_marks (main_marks marks)) c.main_tree) in (
      tt,
      (
        tt,
        counts_append frames (lemmas ++ (main ++ event.Finish ∷ [])) (frames_count c.frames (recursion_from_All HasRoom c.frames fits.frames))
            (counts_append lemmas (main ++ event.Finish ∷ []) (lemmas_count marks c.lemmas (recursion_from_All LemmaFits c.lemmas fits.lemmas))
            (counts_append main (event.Finish ∷ []) (main_count (main_marks marks) c.main_tree fits.main) (tt, tt))),
      ),
    )

-- ---- so it has a text

-- a line of evidence is in range
evidence_in_range : (label : ℕ) (e : Evidence) → (label ≤ 127) × HasNumbers e → EvidenceNumbers e → LineInRange (line.AgainstLine label e)
evidence_in_range label evidence.Over counts numbers = (counts.0, tt)
evidence_in_range label (evidence.Long b) counts numbers = (counts.0, (counts.1, numbers))
evidence_in_range label (evidence.Late q b w) counts numbers = (counts.0, (numbers.0, counts.1.0, numbers.1, counts.1.1, numbers.2))

-- a line is in range by its counts and its numbers
line_in_range : (l : Line) → HasCounts l → HasNumbersOfTypes l → LineInRange l
line_in_range line.FirstLine counts numbers = tt
line_in_range (line.KindLine k) counts numbers = tt
line_in_range (line.FrameWords f) counts numbers = (numbers.0, counts.0, counts.1, numbers.1)
line_in_range (line.LemmaWords sender value) counts numbers = (counts, numbers)
line_in_range line.MainLine counts numbers = tt
line_in_range (line.InnerLine n) counts numbers = counts
line_in_range line.BoundLine counts numbers = tt
line_in_range line.OpenLine counts numbers = tt
line_in_range (line.FailLine n) counts numbers = counts
line_in_range (line.AgainstLine label e) counts numbers = evidence_in_range label e counts numbers
line_in_range line.ShardLine counts numbers = tt
line_in_range line.JoinLine counts numbers = tt
line_in_range line.EndLine counts numbers = tt

-- so are lines
lines_in_range : (ls : List Line) → AllByRecursion HasCounts ls → AllByRecursion HasNumbersOfTypes ls → AllByRecursion LineInRange ls
lines_in_range [] counts numbers = tt
lines_in_range (l ∷ ls) counts numbers = (line_in_range l counts.0 numbers.0, lines_in_range ls counts.1 numbers.1)

-- what was added for a certificate that fits is a text of it
pub written-text : (marks : Bool) (c : CertParts) (before now : List ℕ) → CertFits c → HasParts c.kind c.frames c.lemmas c.main_tree → before ≡ [] → Adds before now (cert_lines (written_cert marks c)) → CertText now c
written-text marks c before now fits has empty added = record {
  marked = written_cert marks c;
  in_range = record {
    stands = record {
      parts = mapped_parts (written_lemma marks) (with_marks (main_marks marks)) c.kind c.frames c.lemmas c.main_tree has;
      lemmas_stand = lemmas_stand marks c.lemmas (recursion_from_All LemmaFits c.lemmas fits.lemmas);
      main_stands = main_stands (main_marks marks) c.main_tree fits.main;
    };
    numbers = lines_in_range (cert_lines (written_cert marks c)) (cert_count marks c fits) added.numbers;
  };
  unmarked = unmark-written marks c;
  text = sym (added.text ∙ ap (λ x. x ++ text_of (cert_lines (written_cert marks c))) empty);
}

-- and its bytes are those of the lines
pub written-bytes : (marks : Bool) (c : CertParts) (before now : List ℕ) → before ≡ [] → Adds before now (cert_lines (written_cert marks c)) → now ≡ text_of (cert_lines (written_cert marks c))
written-bytes marks c before now empty added = added.text ∙ ap (λ x. x ++ text_of (cert_lines (written_cert marks c))) empty
