-- What a text says fits into a text again.
use Rattle.std.proofs.Common.{◌≡◌, ◌≤◌, ℕ, zero, suc, List, [], ◌∷◌, ◌++◌, map, Bool, true, false, Option, Some, None, refl, sym, ap, subst}
use Rattle.std.specs.List.{AllByRecursion, flat_map}
use Rattle.std.specs.Option.{option_map}
use Rattle.std.proofs.lemmas.List.Elements.{All-from_recursion}
use Rattle.response_test.specs.declared.evidence.Evidence.{Evidence}
use Rattle.response_test.specs.declared.evidence.Evidence.TheVariants as evidence
use Rattle.cert_text.specs.declared.parts.FrameLine.{FrameLine}
use Rattle.cert_text.specs.declared.event.Event.{Event}
use Rattle.cert_text.specs.declared.event.Event.TheVariants as event
use Rattle.cert_text.specs.declared.line.Line.{Line}
use Rattle.cert_text.specs.Trees.{AllStand, Marked, Markeds, Stands, count, m_bound, m_fail, m_inner, m_left, m_more, m_none, shard, unmark, unmark_all}
use Rattle.cert_text.specs.Parts.{CertOf, CertParts, LemmaOf, MainStands, unmark_cert, unmark_lemma}
use Rattle.cert_text.specs.CertEvents.{lemma_events, main_events, tree_events, trees_events}
use Rattle.cert_text.specs.Lines.{EvidenceInRange, LineInRange, against, lines_of}
use Rattle.cert_text.specs.CertText.{CertText, InRange}
use Rattle.cert_text.specs.Written.{CertFits, HasNumbers, HasRoom, LemmaFits, MainFits, PieceFits, TreeFits, TreesFit, number_of_trees}
use Rattle.cert_text.proofs.Fills.{lines_append}

-- the lines of these events are in range
abbrev InLines : List Event → Type 0
InLines es = AllByRecursion LineInRange (lines_of es)

-- a front and the rest of what is in range
front_and_rest : (xs ys : List Line) → AllByRecursion LineInRange (xs ++ ys) → AllByRecursion LineInRange xs × AllByRecursion LineInRange ys
front_and_rest [] ys all = (tt, all)
front_and_rest (x ∷ xs) ys all = let both = front_and_rest xs ys all.1 in ((all.0, both.0), both.1)

-- the lines of joined events
both_parts : (a b : List Event) → InLines (a ++ b) → InLines a × InLines b
both_parts a b all = front_and_rest (lines_of a) (lines_of b) (subst (AllByRecursion LineInRange) (lines_append a b) all)

-- as many trees without marks
count-unmark : (ts : Markeds) → number_of_trees (unmark_all ts) ≡ count ts
count-unmark m_none = refl
count-unmark (m_more t ts) = ap suc (count-unmark ts)

-- evidence in range has numbers
has_numbers : (e : Evidence) → EvidenceInRange e → HasNumbers e
has_numbers evidence.Over range = tt
has_numbers (evidence.Long b) range = range.0
has_numbers (evidence.Late q b w) range = (range.1, range.3)

-- evidence in range fits
pieces_fit : (es : List (ℕ × Evidence)) → AllByRecursion LineInRange (map against es ++ []) → AllByRecursion PieceFits es
pieces_fit [] all = tt
pieces_fit (e ∷ es) all = ((all.0.0, has_numbers e.1 all.0.1), pieces_fit es all.1)

mutual
  unfolding Stands AllStand tree_events trees_events

  -- a tree that stands and is in range fits
  tree_fits : (may : Bool) (depth : ℕ) (t : Marked) → Stands may depth t → InLines (tree_events t) → TreeFits depth (unmark t)
  tree_fits may depth (m_inner ts) stands all =
      let n = count-unmark ts in
      let few = subst (λ k. (1 ≤ k) × (k ≤ 128)) (sym n) all.0 in
      (stands.0, few.0, few.1, trees_fit may (suc depth) ts stands.1 all.1)
  tree_fits may depth m_bound stands all = tt
  tree_fits may depth m_left stands all = tt
  tree_fits may depth (m_fail es) stands all = (all.0, All-from_recursion PieceFits es (pieces_fit es all.1))
  tree_fits true depth (shard t) stands all = tree_fits false depth t stands (both_parts (tree_events t) (event.JoinMark ∷ []) all.1).0
  tree_fits false depth (shard t) stands all = absurd stands

  -- so do trees
  trees_fit : (may : Bool) (depth : ℕ) (ts : Markeds) → AllStand may depth ts → InLines (trees_events ts) → TreesFit depth (unmark_all ts)
  trees_fit may depth m_none stand all = tt
  trees_fit may depth (m_more t ts) stand all =
      let both = both_parts (tree_events t) (trees_events ts) all in
      (tree_fits may depth t stand.0 both.0, trees_fit may depth ts stand.1 both.1)

-- frames in range fit
frames_fit : (fs : List FrameLine) → InLines (map event.FrameOf fs) → AllByRecursion HasRoom fs
frames_fit [] all = tt
frames_fit (f ∷ fs) all = ((all.0.1, all.0.2), frames_fit fs all.1)

-- so do lemmas
lemmas_fit : (ls : List (LemmaOf Marked)) → AllByRecursion (λ (l : LemmaOf Marked). Stands true zero l.tree) ls → InLines (flat_map lemma_events ls) → AllByRecursion LemmaFits (map unmark_lemma ls)
lemmas_fit [] stand all = tt
lemmas_fit (l ∷ ls) stand all =
    let both = both_parts (lemma_events l) (flat_map lemma_events ls) all in
    ((both.0.0.0, tree_fits true zero l.tree stand.0 both.0.1), lemmas_fit ls stand.1 both.1)

-- so does a main tree
main_fits : (t : Option Marked) → MainStands t → InLines (main_events t) → MainFits (option_map unmark t)
main_fits None stands all = tt
main_fits (Some t) stands all = tree_fits true zero t stands all.1

-- a certificate in range fits without its marks
in_range-fits : (c : CertOf Marked) → InRange c → CertFits (unmark_cert c)
in_range-fits c range =
    let lemmas = flat_map lemma_events c.lemmas in
    let main = main_events c.main_tree in
    let first = both_parts (map event.FrameOf c.frames) (lemmas ++ (main ++ event.Finish ∷ [])) range.numbers.1.1 in
    let second = both_parts lemmas (main ++ event.Finish ∷ []) first.1 in
    let third = both_parts main (event.Finish ∷ []) second.1 in
    record {
      frames = All-from_recursion HasRoom c.frames (frames_fit c.frames first.0);
      lemmas = All-from_recursion LemmaFits (map unmark_lemma c.lemmas) (lemmas_fit c.lemmas range.stands.lemmas_stand second.0);
      main = main_fits c.main_tree range.stands.main_stands third.0;
    }

-- the certificate of a text fits
pub text-fits : (bytes : List ℕ) (cert : CertParts) → CertText bytes cert → CertFits cert
text-fits bytes cert c = subst CertFits c.unmarked (in_range-fits c.marked c.in_range)
