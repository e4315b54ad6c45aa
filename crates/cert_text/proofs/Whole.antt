-- Which lines begin, and which are, those of a certificate.
use Rattle.std.proofs.Common.{◌≡◌, ℕ, zero, List, [], ◌∷◌, ◌++◌, map, Bool, true, false, Option, Some, None, refl, sym, ap, subst, ◌∙◌, append-nil, arith}
use Rattle.std.specs.List.{AllByRecursion, flat_map}
use Rattle.response_test.specs.declared.evidence.Evidence.TheVariants as evidence
use Rattle.cert_text.specs.declared.parts.Kind.{Kind}
use Rattle.cert_text.specs.declared.parts.Kind.TheVariants.{KindPlaced, KindTimed, KindBetween, KindBest, KindNoSolution}
use Rattle.cert_text.specs.declared.parts.FrameLine.{FrameLine}
use Rattle.cert_text.specs.declared.event.Event.TheVariants as event
use Rattle.cert_text.specs.declared.line.Line.{Line}
use Rattle.cert_text.specs.declared.line.Line.TheVariants as line
use Rattle.cert_text.specs.declared.symbol.Symbol.{Symbol}
use Rattle.cert_text.specs.declared.symbol.Symbol.TheVariants as symbol
use Rattle.cert_text.specs.Trees.{Marked, Stands, m_bound}
use Rattle.cert_text.specs.Parts.{CertOf, CertStands, HasParts, LemmaOf, MainStands}
use Rattle.cert_text.specs.CertEvents.{lemma_events, main_events, tree_events}
use Rattle.cert_text.specs.Lines.{LineInRange, cert_lines, lines_of}
use Rattle.cert_text.specs.CertText.{InRange}
use Rattle.cert_text.specs.Grammar.{run, start}
use Rattle.cert_text.proofs.Cuts.{all_append}
use Rattle.cert_text.proofs.Fills.{Body, Fills, Trees, Value, body_said, spell}
use Rattle.cert_text.proofs.Law.{fills-run, leads_back, leads_on, run-fills, run_more}

-- ---- pieces can be completed

-- the shortest lemmas and main tree
least_trees : Trees
unfolding Stands
least_trees = record { lemmas = []; main = m_bound; lemmas_stand = tt; main_stands = tt }

-- the shortest filling of a piece
least : (s : Symbol) → Value s
unfolding Stands
least symbol.First = tt
least symbol.FromKind = (KindPlaced, tt)
least symbol.Frames = []
least symbol.Parts = ([], least_trees)
least symbol.Lemmas = least_trees
least (symbol.TreeAt marks depth) = (m_bound, tt)
least symbol.Against = (0, evidence.Over)
least (symbol.Join depth) = tt
least symbol.End = tt

-- it is in range
least_in_range : (s : Symbol) → AllByRecursion LineInRange (spell s (least s))
unfolding least least_trees tree_events
least_in_range symbol.First = (tt, tt)
least_in_range symbol.FromKind = (tt, (tt, tt))
least_in_range symbol.Frames = (tt, tt)
least_in_range symbol.Parts = (tt, (tt, (tt, tt)))
least_in_range symbol.Lemmas = (tt, (tt, (tt, tt)))
least_in_range (symbol.TreeAt marks depth) = (tt, tt)
least_in_range symbol.Against = ((omega arith, tt), tt)
least_in_range (symbol.Join depth) = (tt, tt)
least_in_range symbol.End = (tt, tt)

-- lines in range that fill the pieces
pub record Completed (ss : List Symbol) : Type 0 where
  pub rest : List Line
  pub fills : Fills ss rest
  pub in_range : AllByRecursion LineInRange rest

-- each pieces can be filled
pub completed : (ss : List Symbol) → Completed ss
completed [] = record { rest = []; fills = record { values = tt; lines = refl }; in_range = tt }
completed (s ∷ ss) =
    let c = completed ss in
    record {
      rest = spell s (least s) ++ c.rest;
      fills = record { values = (least s, c.fills.values); lines = ap (λ ls. spell s (least s) ++ ls) c.fills.lines };
      in_range = all_append LineInRange (spell s (least s)) c.rest (least_in_range s) c.in_range;
    }

-- ---- what fills the start is a certificate

-- the lines are those of a certificate that stands
pub record IsCert (ls : List Line) : Type 0 where
  pub marked : CertOf Marked
  pub stands : CertStands marked
  pub lines : cert_lines marked ≡ ls

-- a first line, a kind and what follows it are a certificate
of_body : (k : Kind) (b : Body k) → IsCert (line.FirstLine ∷ line.KindLine k ∷ lines_of (body_said k b))
of_body KindPlaced b = record {
  marked = record { kind = KindPlaced; frames = []; lemmas = []; main_tree = None };
  stands = record { parts = (refl, refl, refl); lemmas_stand = tt; main_stands = tt };
  lines = refl;
}
of_body KindTimed b = record {
  marked = record { kind = KindTimed; frames = b; lemmas = []; main_tree = None };
  stands = record { parts = (refl, refl); lemmas_stand = tt; main_stands = tt };
  lines = refl;
}
of_body KindBetween b = record {
  marked = record { kind = KindBetween; frames = b.0; lemmas = b.1.lemmas; main_tree = Some b.1.main };
  stands = record { parts = refl; lemmas_stand = b.1.lemmas_stand; main_stands = b.1.main_stands };
  lines = refl;
}
of_body KindBest b = record {
  marked = record { kind = KindBest; frames = b.0; lemmas = b.1.lemmas; main_tree = Some b.1.main };
  stands = record { parts = refl; lemmas_stand = b.1.lemmas_stand; main_stands = b.1.main_stands };
  lines = refl;
}
of_body KindNoSolution b = record {
  marked = record { kind = KindNoSolution; frames = b.0; lemmas = b.1.lemmas; main_tree = Some b.1.main };
  stands = record { parts = refl; lemmas_stand = b.1.lemmas_stand; main_stands = b.1.main_stands };
  lines = refl;
}

-- what fills the start is a certificate
pub fills-cert : (ls : List Line) → Fills start ls → IsCert ls
fills-cert ls f =
    let k = f.values.1.0.0 in
    let b = f.values.1.0.1 in
    subst IsCert (ap (λ x. line.FirstLine ∷ line.KindLine k ∷ x) (sym (append-nil _)) ∙ f.lines) (of_body k b)

-- what follows the line of a certificate's kind
body_of : (k : Kind) (frames : List FrameLine) (lemmas : List (LemmaOf Marked)) (main : Option Marked) → HasParts k frames lemmas main
    → AllByRecursion (λ (l : LemmaOf Marked). Stands true zero l.tree) lemmas → MainStands main
    → (b : Body k) × (body_said k b ≡ map event.FrameOf frames ++ (flat_map lemma_events lemmas ++ (main_events main ++ event.Finish ∷ [])))
body_of KindPlaced frames lemmas main has stand main_stands = (tt, rw (has.0, has.1, has.2) refl)
body_of KindTimed frames lemmas main has stand main_stands = (frames, rw (has.0, has.1) refl)
body_of KindBetween frames lemmas None has stand main_stands = absurd (let h : false ≡ true = has in cc)
body_of KindBetween frames lemmas (Some t) has stand main_stands = ((frames, record { lemmas = lemmas; main = t; lemmas_stand = stand; main_stands = main_stands }), refl)
body_of KindBest frames lemmas None has stand main_stands = absurd (let h : false ≡ true = has in cc)
body_of KindBest frames lemmas (Some t) has stand main_stands = ((frames, record { lemmas = lemmas; main = t; lemmas_stand = stand; main_stands = main_stands }), refl)
body_of KindNoSolution frames lemmas None has stand main_stands = absurd (let h : false ≡ true = has in cc)
body_of KindNoSolution frames lemmas (Some t) has stand main_stands = ((frames, record { lemmas = lemmas; main = t; lemmas_stand = stand; main_stands = main_stands }), refl)

-- a certificate fills the start
pub cert-fills : (c : CertOf Marked) → CertStands c → Fills start (cert_lines c)
cert-fills c stands =
    let b = body_of c.kind c.frames c.lemmas c.main_tree stands.parts stands.lemmas_stand stands.main_stands in
    record {
      values = (tt, ((c.kind, b.0), tt));
      lines = ap (λ x. line.FirstLine ∷ line.KindLine c.kind ∷ x) (append-nil _ ∙ ap lines_of b.1);
    }

-- ---- the law

-- lines that a certificate's lines begin with
pub record Begins (ls : List Line) : Type 0 where
  pub marked : CertOf Marked
  pub rest : List Line
  pub in_range : InRange marked
  pub lines : cert_lines marked ≡ ls ++ rest

-- lines in range that lead somewhere begin a certificate
pub run-begins : (ls : List Line) (next : List Symbol) → AllByRecursion LineInRange ls → run start ls ≡ Some next → Begins ls
run-begins ls next small e =
    let c = completed next in
    let cert = fills-cert (ls ++ c.rest) (leads_back ls start next c.rest e c.fills) in
    record {
      marked = cert.marked;
      rest = c.rest;
      in_range = record { stands = cert.stands; numbers = subst (AllByRecursion LineInRange) (sym cert.lines) (all_append LineInRange ls c.rest small c.in_range) };
      lines = cert.lines;
    }

-- lines that begin a certificate lead somewhere
pub begins-run : (ls : List Line) → Begins ls → (next : List Symbol) × (run start ls ≡ Some next)
begins-run ls b =
    let l = leads_on ls start b.rest (subst (Fills start) b.lines (cert-fills b.marked b.in_range.stands)) in
    (l.next, l.runs)

-- lines lead to the end exactly where they are a certificate's
pub run-cert : (ls : List Line) → run start ls ≡ Some [] → IsCert ls
run-cert ls e = fills-cert ls (run-fills start ls e)

-- a certificate's lines lead to the end
pub cert-run : (c : CertOf Marked) → CertStands c → run start (cert_lines c) ≡ Some []
cert-run c stands = fills-run start (cert_lines c) (cert-fills c stands)

-- the lines of a tree take away one tree
pub tree-run : (marks : Bool) (depth : ℕ) (t : Marked) (ss : List Symbol) → Stands marks depth t → run (symbol.TreeAt marks depth ∷ ss) (lines_of (tree_events t)) ≡ Some ss
tree-run marks depth t ss stands =
    run_more (lines_of (tree_events t)) (symbol.TreeAt marks depth ∷ []) [] ss
    (fills-run (symbol.TreeAt marks depth ∷ []) (lines_of (tree_events t)) (record { values = ((t, stands), tt); lines = append-nil _ }))
