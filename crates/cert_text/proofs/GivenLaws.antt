-- The laws of a feed: lines and the events that they end, and what was given.
use Rattle.std.proofs.Common.{◌≡◌, ◌≢◌, ◌⊎◌, ◌<◌, ◌+◌, ℕ, zero, suc, List, [], ◌∷◌, ◌++◌, length, map, Option, Some, None, Err, true, inl, inr, refl, sym, ap, subst, ◌∙◌, append_assoc, append-nil, arith}
use Rattle.std.specs.List.{AllByRecursion, flat_map}
use Rattle.std.specs.Option.{option_and_then}
use Rattle.std.proofs.lemmas.List.{append_cancel_left, same_from_push}
use Rattle.response_test.specs.declared.evidence.Evidence.{Evidence}
use Rattle.cert_text.specs.declared.event.Event.{Event}
use Rattle.cert_text.specs.declared.event.Event.TheVariants as event
use Rattle.cert_text.specs.declared.parts.Kind.{Kind}
use Rattle.cert_text.specs.declared.line.Line.{Line}
use Rattle.cert_text.specs.declared.line.Line.TheVariants as line
use Rattle.cert_text.specs.declared.symbol.Symbol.{Symbol}
use Rattle.cert_text.specs.Trees.{Marked}
use Rattle.cert_text.specs.Parts.{CertOf, unmark_cert}
use Rattle.cert_text.specs.CertEvents.{cert_events, lemma_events, main_events}
use Rattle.cert_text.specs.Lines.{LineInRange, against, ended, event_lines, line_text, lines_of, text_of}
use Rattle.cert_text.specs.CertText.{CertRefusal, CertText, InRange, bad_line, cut, ended_lines, parts, unfinished, with_ends}
use Rattle.cert_text.specs.Words.{line_of}
use Rattle.cert_text.specs.Grammar.{after, run, start}
use Rattle.cert_text.specs.Reading.{at_end, cert_of_text, or_bad, refusal}
use Rattle.cert_text.specs.Heard.{Heard, collect, hear, onto_event, silent}
use Rattle.cert_text.specs.Sources.{no_end}
use Rattle.cert_text.specs.Given.{BeginsEvents, IsTextOf}
use Rattle.cert_text.proofs.Cuts.{parts_alone, parts_free}
use Rattle.cert_text.proofs.Events.{collect_back}
use Rattle.cert_text.proofs.Fills.{lines_append}
use Rattle.cert_text.proofs.OfText.{of_text-cert, of_text-refused}
use Rattle.cert_text.proofs.Read.{line_free, line_of-text}
use Rattle.cert_text.proofs.Steps.{no_line, no_more, no_step, step}
use Rattle.cert_text.proofs.Texts.{lines_and_rest}
use Rattle.cert_text.proofs.Whole.{cert-run, run-begins, run-cert}

-- ---- lines that lead on

-- further lines lead on
pub run_then : (a b : List Line) (ss x y : List Symbol) → run ss a ≡ Some x → run x b ≡ Some y → run ss (a ++ b) ≡ Some y
unfolding run
run_then [] b ss x y e f = ap (λ (z : List Symbol). run z b) (let same : ss ≡ x = cc in same) ∙ f
run_then (l ∷ a) b ss x y e f = by (after ss l) (λ z h. run_then a b z x y h f) e
  where
    by : (o : Option (List Symbol)) → ((z : List Symbol) → run z a ≡ Some x → run z (a ++ b) ≡ Some y) → option_and_then (λ z. run z a) o ≡ Some x → option_and_then (λ z. run z (a ++ b)) o ≡ Some y
    by None further e = absurd (let none : None ≡ Some x = e in cc)
    by (Some z) further e = further z e

-- no lines lead nowhere else
pub run_nothing : (ss : List Symbol) → run ss [] ≡ Some ss
unfolding run
run_nothing ss = refl

-- one line leads where it does
pub run_one : (ss next : List Symbol) (l : Line) → after ss l ≡ Some next → run ss (l ∷ []) ≡ Some next
unfolding run
run_one ss next l e = ap (option_and_then (λ (z : List Symbol). run z [])) e

-- the lines of one event more
pub lines_push : (es : List Event) (e : Event) → lines_of (es ++ e ∷ []) ≡ lines_of es ++ event_lines e
lines_push es e = lines_append es (e ∷ []) ∙ ap (λ (x : List Line). lines_of es ++ x) (append-nil (event_lines e))

-- ---- events and their lines

-- the lines of events are heard as they
pub collected : (es : List Event) → collect silent (lines_of es) ≡ es
unfolding collect
collected es = ap (collect silent) (sym (append-nil (lines_of es))) ∙ collect_back es [] ∙ append-nil es

-- events whose lines lead somewhere begin those of a certificate
pub events_begin : (es : List Event) (next : List Symbol) → AllByRecursion LineInRange (lines_of es) → run start (lines_of es) ≡ Some next → BeginsEvents es
events_begin es next small e =
    let b = run-begins (lines_of es) next small e in
    record {
      marked = b.marked;
      rest = collect silent b.rest;
      in_range = b.in_range;
      begins = sym (collected (cert_events b.marked)) ∙ ap (collect silent) b.lines ∙ collect_back es b.rest;
    }

-- lines that lead on are, with further ones, those of the events that are heard in them
pub lines_go_on : (es : List Event) (ls : List Line) (next : List Symbol) → AllByRecursion LineInRange (lines_of es ++ ls) → run start (lines_of es ++ ls) ≡ Some next
    → (rest : List Line) × (lines_of (collect silent (ls ++ rest)) ≡ ls ++ rest)
lines_go_on es ls next small e =
    let b = run-begins (lines_of es ++ ls) next small e in
    let text : lines_of (cert_events b.marked) ≡ lines_of es ++ (ls ++ b.rest) = b.lines ∙ append_assoc (lines_of es) ls b.rest in
    let events : cert_events b.marked ≡ es ++ collect silent (ls ++ b.rest) = sym (collected (cert_events b.marked)) ∙ ap (collect silent) text ∙ collect_back es (ls ++ b.rest) in
    let both : lines_of es ++ lines_of (collect silent (ls ++ b.rest)) ≡ lines_of es ++ (ls ++ b.rest) = sym (lines_append es (collect silent (ls ++ b.rest))) ∙ ap lines_of (sym events) ∙ text in
    (b.rest, append_cancel_left (lines_of es) (lines_of (collect silent (ls ++ b.rest))) (ls ++ b.rest) both)

-- a list with an element is not empty
never : (front : List Line) (z : Line) (zs : List Line) → [] ≡ front ++ z ∷ zs → ⊥
never [] z zs e = let h : [] ≡ z ∷ zs = e in cc
never (y ∷ front) z zs e = let h : [] ≡ y ∷ (front ++ z ∷ zs) = e in cc

-- a line alone is no longer than itself
alone_short : (x : Line) (front : List Line) (z : Line) (zs : List Line) → x ∷ [] ≡ front ++ z ∷ zs → front ≡ []
alone_short x [] z zs e = refl
alone_short x (y ∷ front) z zs e = absurd (never front z zs (let t : [] ≡ front ++ z ∷ zs = cc in t))

-- the first line alone ends no event
head_short : (k : Kind) (front : List Line) (z : Line) (zs : List Line) → line.FirstLine ∷ line.KindLine k ∷ [] ≡ front ++ z ∷ zs → collect silent front ≡ []
unfolding collect
head_short k [] z zs e = refl
head_short k (a ∷ []) z zs e = let h : line.FirstLine ≡ a = cc in ap (λ (x : Line). collect silent (x ∷ [])) (sym h)
head_short k (a ∷ b ∷ front) z zs e = absurd (never front z zs (let t : [] ≡ front ++ z ∷ zs = cc in t))

-- fewer lines of evidence end no event
seen_short : (x : ℕ × Evidence) (es seen : List (ℕ × Evidence)) (front : List Line) (z : Line) (zs : List Line) → map against (x ∷ es) ≡ front ++ z ∷ zs → collect (length es, seen) front ≡ []
unfolding collect
seen_short x es seen [] z zs e = refl
seen_short x [] seen (a ∷ front) z zs e = absurd (never front z zs (let t : [] ≡ front ++ z ∷ zs = cc in t))
seen_short x (y ∷ es) seen (a ∷ front) z zs e =
    let h : against x ≡ a = cc in
    let t : map against (y ∷ es) ≡ front ++ z ∷ zs = cc in
    ap (λ (l : Line). collect (suc (length es), seen) (l ∷ front)) (sym h) ∙ seen_short y es (seen ++ x ∷ []) front z zs t

-- fewer lines of a fail leaf end no event
fail_short : (es : List (ℕ × Evidence)) (front : List Line) (z : Line) (zs : List Line) → line.FailLine (length es) ∷ map against es ≡ front ++ z ∷ zs → collect silent front ≡ []
unfolding collect
fail_short es [] z zs e = refl
fail_short [] (a ∷ front) z zs e = absurd (never front z zs (let t : [] ≡ front ++ z ∷ zs = cc in t))
fail_short (x ∷ es) (a ∷ front) z zs e =
    let h : line.FailLine (suc (length es)) ≡ a = cc in
    let t : map against (x ∷ es) ≡ front ++ z ∷ zs = cc in
    ap (λ (l : Line). collect silent (l ∷ front)) (sym h) ∙ seen_short x es [] front z zs t

-- fewer lines than those of an event end none
short : (e : Event) (front : List Line) (z : Line) (zs : List Line) → event_lines e ≡ front ++ z ∷ zs → collect silent front ≡ []
unfolding collect
short (event.Head k) front z zs e = head_short k front z zs e
short (event.FrameOf f) front z zs e = ap (collect silent) (alone_short _ front z zs e)
short (event.LemmaOf sender value) front z zs e = ap (collect silent) (alone_short _ front z zs e)
short event.Main front z zs e = ap (collect silent) (alone_short _ front z zs e)
short (event.Node n) front z zs e = ap (collect silent) (alone_short _ front z zs e)
short event.BoundLeaf front z zs e = ap (collect silent) (alone_short _ front z zs e)
short event.OpenLeaf front z zs e = ap (collect silent) (alone_short _ front z zs e)
short (event.FailLeaf es) front z zs e = fail_short es front z zs e
short event.ShardMark front z zs e = ap (collect silent) (alone_short _ front z zs e)
short event.JoinMark front z zs e = ap (collect silent) (alone_short _ front z zs e)
short event.Finish front z zs e = ap (collect silent) (alone_short _ front z zs e)

-- lines that go on
abbrev Longer : List Line → List Line → Type 0
Longer front all = (z : Line) × (zs : List Line) × (all ≡ front ++ z ∷ zs)

-- of two fronts of one list one goes on, or they are the same
fronts : (us vs xs ys : List Line) → us ++ xs ≡ vs ++ ys → (us ≡ vs) ⊎ (Longer us vs ⊎ Longer vs us)
fronts [] [] xs ys e = inl refl
fronts [] (v ∷ vs) xs ys e = inr (inl (v, vs, refl))
fronts (u ∷ us) [] xs ys e = inr (inr (u, us, refl))
fronts (u ∷ us) (v ∷ vs) xs ys e =
    let h : u ≡ v = cc in
    let t : us ++ xs ≡ vs ++ ys = cc in
    by h (fronts us vs xs ys t)
  where
    by : u ≡ v → (us ≡ vs) ⊎ (Longer us vs ⊎ Longer vs us) → (u ∷ us ≡ v ∷ vs) ⊎ (Longer (u ∷ us) (v ∷ vs) ⊎ Longer (v ∷ vs) (u ∷ us))
    by h (inl s) = inl (cc (h, s))
    by h (inr (inl l)) = inr (inl (l.0, l.1, ap (λ (x : Line). x ∷ vs) (sym h) ∙ ap (λ (x : List Line). u ∷ x) l.2))
    by h (inr (inr l)) = inr (inr (l.0, l.1, ap (λ (x : Line). x ∷ us) h ∙ ap (λ (x : List Line). v ∷ x) l.2))

-- a front of a list with one more is a front of the list
front_of_push : (xs ys : List Line) (l z : Line) (zs : List Line) → xs ++ l ∷ [] ≡ ys ++ z ∷ zs → (w : List Line) × (xs ≡ ys ++ w)
front_of_push xs [] l z zs e = (xs, refl)
front_of_push [] (y ∷ ys) l z zs e = absurd (never ys z zs (let t : [] ≡ ys ++ z ∷ zs = cc in t))
front_of_push (x ∷ xs) (y ∷ ys) l z zs e =
    let h : x ≡ y = cc in
    let t : xs ++ l ∷ [] ≡ ys ++ z ∷ zs = cc in
    let more = front_of_push xs ys l z zs t in
    (more.0, ap (λ (k : Line). k ∷ xs) h ∙ ap (λ (k : List Line). y ∷ k) more.1)

-- one event is not none
one_event : (e : Event) (es : List Event) → [] ≡ e ∷ es → ⊥
one_event e es f = let h : [] ≡ e ∷ es = f in cc

-- lines in which exactly an event is heard are its lines
pub exact_lines : (e : Event) (before rest : List Line) (last : Line) → collect silent before ≡ []
    → ((further : List Line) → collect silent ((before ++ last ∷ []) ++ further) ≡ e ∷ collect silent further)
    → lines_of (collect silent ((before ++ last ∷ []) ++ rest)) ≡ (before ++ last ∷ []) ++ rest
    → before ++ last ∷ [] ≡ event_lines e
unfolding collect
exact_lines e before rest last none hears goes =
    let lines : List Line = before ++ last ∷ [] in
    let both : lines ++ rest ≡ event_lines e ++ lines_of (collect silent rest) = sym goes ∙ ap lines_of (hears rest) in
    by (fronts lines (event_lines e) rest (lines_of (collect silent rest)) both)
  where
    by : (before ++ last ∷ [] ≡ event_lines e) ⊎ (Longer (before ++ last ∷ []) (event_lines e) ⊎ Longer (event_lines e) (before ++ last ∷ [])) → before ++ last ∷ [] ≡ event_lines e
    by (inl same) = same
    by (inr (inl l)) =
        let nothing : collect silent (before ++ last ∷ []) ≡ [] = short e (before ++ last ∷ []) l.0 l.1 l.2 in
        absurd (one_event e [] (sym nothing ∙ ap (collect silent) (sym (append-nil (before ++ last ∷ []))) ∙ hears []))
    by (inr (inr l)) =
        let w = front_of_push before (event_lines e) last l.0 l.1 l.2 in
        let one : collect silent (event_lines e ++ w.0) ≡ e ∷ collect silent w.0 = ap (λ (x : List Line). collect silent (x ++ w.0)) (sym (append-nil (event_lines e))) ∙ collect_back (e ∷ []) w.0 in
        absurd (one_event e (collect silent w.0) (sym none ∙ ap (collect silent) w.1 ∙ one))

-- no event is none
no_event : (e : Event) → Some e ≡ None → ⊥
no_event e f = let h : Some e ≡ None = f in cc

-- an event leaves silence behind it
pub heard_ends : (h : Heard) (l : Line) (next : Heard) (e : Event) → (next, Some e) ≡ hear h l → next ≡ silent
heard_ends h line.FirstLine next e f = ap (λ (r : Heard × Option Event). r.0) f
heard_ends h (line.KindLine k) next e f = ap (λ (r : Heard × Option Event). r.0) f
heard_ends h (line.FrameWords w) next e f = ap (λ (r : Heard × Option Event). r.0) f
heard_ends h (line.LemmaWords sender value) next e f = ap (λ (r : Heard × Option Event). r.0) f
heard_ends h line.MainLine next e f = ap (λ (r : Heard × Option Event). r.0) f
heard_ends h (line.InnerLine n) next e f = ap (λ (r : Heard × Option Event). r.0) f
heard_ends h line.BoundLine next e f = ap (λ (r : Heard × Option Event). r.0) f
heard_ends h line.OpenLine next e f = ap (λ (r : Heard × Option Event). r.0) f
heard_ends h (line.FailLine zero) next e f = ap (λ (r : Heard × Option Event). r.0) f
heard_ends h (line.FailLine (suc n)) next e f = absurd (no_event e (ap (λ (r : Heard × Option Event). r.1) f))
heard_ends (zero, seen) (line.AgainstLine label x) next e f = ap (λ (r : Heard × Option Event). r.0) f
heard_ends (suc n, seen) (line.AgainstLine label x) next e f = absurd (no_event e (ap (λ (r : Heard × Option Event). r.1) f))
heard_ends h line.ShardLine next e f = ap (λ (r : Heard × Option Event). r.0) f
heard_ends h line.JoinLine next e f = ap (λ (r : Heard × Option Event). r.0) f
heard_ends h line.EndLine next e f = ap (λ (r : Heard × Option Event). r.0) f

-- what is heard of one line more
pub heard_more : (ls : List Line) (h : Heard) (l : Line) (rest : List Line) → ((further : List Line) → collect silent (ls ++ further) ≡ collect h further)
    → collect silent ((ls ++ l ∷ []) ++ rest) ≡ onto_event (hear h l).1 (collect (hear h l).0 rest)
unfolding collect
heard_more ls h l rest hears = ap (collect silent) (append_assoc ls (l ∷ []) rest) ∙ hears (l ∷ rest)

-- nothing is heard of no lines
pub heard_nothing : (ls : List Line) (h : Heard) → ((further : List Line) → collect silent (ls ++ further) ≡ collect h further) → collect silent ls ≡ []
unfolding collect
heard_nothing ls h hears = ap (collect silent) (sym (append-nil ls)) ∙ hears []

-- ---- the end

-- what a certificate says ends
cert_ends : (c : CertOf Marked) → (front : List Event) × (cert_events c ≡ front ++ event.Finish ∷ [])
cert_ends c =
    let a : List Event = map event.FrameOf c.frames in
    let b : List Event = flat_map lemma_events c.lemmas in
    let m : List Event = main_events c.main_tree in (
      event.Head c.kind ∷ (a ++ (b ++ m)),
      ap (λ (x : List Event). event.Head c.kind ∷ x)
          (ap (λ (x : List Event). a ++ x) (sym (append_assoc b m (event.Finish ∷ []))) ∙ sym (append_assoc a (b ++ m) (event.Finish ∷ []))),
    )

-- events whose lines lead to the end are those of a certificate
pub record AreEvents (es : List Event) : Type 0 where
  pub marked : CertOf Marked
  pub in_range : InRange marked
  pub events : cert_events marked ≡ es
  pub lines : lines_of (cert_events marked) ≡ lines_of es

-- events whose lines lead to the end
pub all_events : (es : List Event) → AllByRecursion LineInRange (lines_of es) → run start (lines_of es) ≡ Some [] → AreEvents es
all_events es small e =
    let c = run-cert (lines_of es) e in
    record {
      marked = c.marked;
      in_range = record { stands = c.stands; numbers = subst (AllByRecursion LineInRange) (sym c.lines) small };
      events = sym (collected (cert_events c.marked)) ∙ ap (collect silent) c.lines ∙ collected es;
      lines = c.lines;
    }

-- the last of them is the end
pub last_event : (es : List Event) (e : Event) → AllByRecursion LineInRange (lines_of (es ++ e ∷ [])) → run start (lines_of (es ++ e ∷ [])) ≡ Some [] → e ≡ event.Finish
last_event es e small f =
    let a = all_events (es ++ e ∷ []) small f in
    let c = cert_ends a.marked in
    (same_from_push es c.0 e event.Finish (sym a.events ∙ c.1)).1

-- the bytes of lines that lead to the end are a text of the certificate
pub whole_text : (bytes : List ℕ) (es : List Event) → AllByRecursion LineInRange (lines_of es) → run start (lines_of es) ≡ Some [] → bytes ≡ text_of (lines_of es) → IsTextOf bytes es
whole_text bytes es small e is =
    let a = all_events es small e in
    let text : CertText bytes (unmark_cert a.marked) = record { marked = a.marked; in_range = a.in_range; unmarked = refl; text = ap text_of a.lines ∙ sym is } in
    record { marked = a.marked; said = a.events; text = text; found = of_text-cert bytes (unmark_cert a.marked) text }

-- where no event was heard in further lines, something is to come
pub not_ended : (es : List Event) (ls : List Line) (old next : List Symbol) → run start (lines_of es) ≡ Some old → run old ls ≡ Some next → collect silent ls ≡ [] → old ≢ [] → next ≢ []
not_ended es ls old next e f none some ended =
    let c = run-cert (lines_of es ++ ls) (run_then (lines_of es) ls start old next e f ∙ ap (λ (x : List Symbol). Some x) ended) in
    let events : cert_events c.marked ≡ es = sym (collected (cert_events c.marked)) ∙ ap (collect silent) c.lines ∙ collect_back es ls ∙ ap (λ (x : List Event). es ++ x) none ∙ append-nil es in
    let whole : run start (lines_of es) ≡ Some [] = ap (λ (x : List Event). run start (lines_of x)) (sym events) ∙ cert-run c.marked c.stands in
    some (let h : Some old ≡ Some [] = sym e ∙ whole in cc)

-- ---- refusals

-- the first part of a text that begins with a line
parts_line : (l : Line) (ls : List Line) (rest : List ℕ) → LineInRange l → parts 10 (text_of (l ∷ ls) ++ rest) ≡ line_text l ∷ parts 10 (text_of ls ++ rest)
parts_line l ls rest small =
    ap (parts 10) (append_assoc (ended (line_text l)) (text_of ls) rest ∙ append_assoc (line_text l) (10 ∷ []) (text_of ls ++ rest)) ∙ parts_free 10 (line_text l) (text_of ls ++ rest) (line_free l small)

-- lines that lead on are passed over
refusal_after : (ls : List Line) (ss next : List Symbol) (n : ℕ) (rest : List ℕ) → AllByRecursion LineInRange ls → run ss ls ≡ Some next
    → refusal n ss (ended_lines (text_of ls ++ rest)) (unfinished (text_of ls ++ rest)) ≡ refusal (n + length ls) next (ended_lines rest) (unfinished rest)
unfolding run
refusal_after [] ss next n rest small e =
    let same : ss ≡ next = cc in
    let number : n ≡ n + 0 = omega arith in
    ap (λ (z : List Symbol). refusal n z (ended_lines rest) (unfinished rest)) same ∙ ap (λ (k : ℕ). refusal k next (ended_lines rest) (unfinished rest)) number
refusal_after (l ∷ ls) ss next n rest small e = by (after ss l) refl (λ z f. refusal_after ls z next (n + 1) rest small.1 f) e
  where
    by : (o : Option (List Symbol)) → after ss l ≡ o
        → ((z : List Symbol) → run z ls ≡ Some next → refusal (n + 1) z (ended_lines (text_of ls ++ rest)) (unfinished (text_of ls ++ rest)) ≡ refusal (n + 1 + length ls) next (ended_lines rest) (unfinished rest))
        → option_and_then (λ z. run z ls) o ≡ Some next
        → refusal n ss (ended_lines (text_of (l ∷ ls) ++ rest)) (unfinished (text_of (l ∷ ls) ++ rest)) ≡ refusal (n + suc (length ls)) next (ended_lines rest) (unfinished rest)
    by None is further f = absurd (let none : None ≡ Some next = f in cc)
    by (Some z) is further f =
        let number : n + 1 + length ls ≡ n + suc (length ls) = omega arith in
        step n ss z (text_of (l ∷ ls) ++ rest) (line_text l) (text_of ls ++ rest) l (parts_line l ls rest small.0) (sym (line_of-text l small.0)) is ∙ further z f
        ∙ ap (λ (k : ℕ). refusal k next (ended_lines rest) (unfinished rest)) number

-- a text that begins with lines that lead on is refused for what is refused after them
pub refused_after : (ls : List Line) (next : List Symbol) (rest bytes : List ℕ) (n : ℕ) (why : CertRefusal) → AllByRecursion LineInRange ls → run start ls ≡ Some next → bytes ≡ text_of ls ++ rest
    → n ≡ length ls + 1 → refusal n next (ended_lines rest) (unfinished rest) ≡ Some why → cert_of_text bytes ≡ Err why
refused_after ls next rest bytes n why small e is at why_rest =
    let number : 1 + length ls ≡ n = omega arith in
    ap cert_of_text is
    ∙ of_text-refused (text_of ls ++ rest) why (refusal_after ls start next 1 rest small e ∙ ap (λ (k : ℕ). refusal k next (ended_lines rest) (unfinished rest)) number ∙ why_rest)

-- a line that says nothing or leads nowhere
pub bad_next : (n : ℕ) (ss : List Symbol) (text bytes rest : List ℕ) → no_end bytes ≡ true → text ≡ bytes ++ 10 ∷ rest → option_and_then (λ l. after ss l) (line_of bytes) ≡ None
    → refusal n ss (ended_lines text) (unfinished text) ≡ Some (bad_line n)
bad_next n ss text bytes rest free is none = by (line_of bytes) refl none
  where
    cuts : parts 10 text ≡ bytes ∷ parts 10 rest
    cuts = ap (parts 10) is ∙ parts_free 10 bytes rest free

    by : (o : Option Line) → line_of bytes ≡ o → option_and_then (λ l. after ss l) o ≡ None → refusal n ss (ended_lines text) (unfinished text) ≡ Some (bad_line n)
    by None e f = no_line n ss text bytes rest cuts (sym e)
    by (Some l) e f = no_step n ss text bytes rest l cuts (sym e) f

-- an unfinished line, or none, where something is to come
pub cut_next : (n : ℕ) (ss : List Symbol) (text : List ℕ) → no_end text ≡ true → ss ≢ [] → refusal n ss (ended_lines text) (unfinished text) ≡ Some cut
cut_next n ss text free some = no_more n ss text (parts_alone 10 text free) ∙ by ss some
  where
    by : (ss : List Symbol) → ss ≢ [] → at_end n ss text ≡ Some cut
    by [] some = absurd (some refl)
    by (s ∷ ss) some = refl

-- bytes after the end
pub rest_bad : (n : ℕ) (rest : List ℕ) → 0 < length rest → refusal n [] (ended_lines rest) (unfinished rest) ≡ Some (bad_line n)
unfolding refusal
rest_bad n rest long = by (ended_lines rest) (unfinished rest) (lines_and_rest rest)
  where
    nowhere : (o : Option Line) → option_and_then (λ l. after [] l) o ≡ None
    nowhere None = refl
    nowhere (Some l) = refl

    by : (bs : List (List ℕ)) (u : List ℕ) → rest ≡ with_ends bs ++ u → refusal n [] bs u ≡ Some (bad_line n)
    by [] [] e = absurd (let size : length rest ≡ 0 = ap length e in omega arith)
    by [] (b ∷ u) e = refl
    by (b ∷ bs) u e = ap (or_bad n (λ next. refusal (n + 1) next bs u)) (nowhere (line_of b))
