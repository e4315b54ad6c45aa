-- The laws of a feed, line by line and event by event.
use Rattle.std.proofs.Common.{◌≡◌, ◌≢◌, ◌<◌, ◌≤◌, ◌+◌, ◌-◌, ◌^◌, ℕ, List, [], ◌∷◌, ◌++◌, length, Option, Some, None, Ok, Err, true, false, inl, inr, refl, sym, ap, subst, ◌∙◌, append_assoc, append-nil, length-append, arith}
use Rattle.std.specs.Prelude.{Result}
use Rattle.std.specs.List.{AllByRecursion}
use Rattle.std.specs.Option.{option_and_then}
use Rattle.pack_base.specs.Outside.{Files}
use Rattle.cert_text.specs.declared.event.Event.{Event}
use Rattle.cert_text.specs.declared.event.Event.TheVariants as event
use Rattle.cert_text.specs.declared.fault.FeedFault.{FeedFault}
use Rattle.cert_text.specs.declared.fault.FeedFault.TheVariants as fault
use Rattle.cert_text.specs.declared.feed.CertFeed.{CertFeed}
use Rattle.cert_text.specs.declared.line.Line.{Line}
use Rattle.cert_text.specs.declared.line.Line.TheVariants as line
use Rattle.cert_text.specs.declared.node.Node.{Node}
use Rattle.cert_text.specs.declared.node.Node.TheVariants as node
use Rattle.cert_text.specs.declared.symbol.Symbol.{Symbol}
use Rattle.cert_text.specs.Lines.{LineInRange, ended, event_lines, line_text, lines_of, text_of}
use Rattle.cert_text.specs.CertText.{CertRefusal, bad_line, cut, ended_lines, unfinished}
use Rattle.cert_text.specs.Words.{line_of}
use Rattle.cert_text.specs.Grammar.{after, run, start}
use Rattle.cert_text.specs.Reading.{cert_of_text, refusal}
use Rattle.cert_text.specs.Heard.{Heard, collect, hear, onto_event, silent}
use Rattle.cert_text.specs.Nodes.{BeginsNode, node_event, node_line}
use Rattle.cert_text.specs.Depths.{IsWithin, bytes_ahead, depth_of, is_last}
use Rattle.cert_text.specs.Sources.{Ends, Held, Reads, TakesLine, TakesUntil, broke, no_end, text_refusal}
use Rattle.cert_text.specs.Given.{BeginsEvents, Given, IsAnswerOf, IsNext, IsRefused, IsTextOf}
use Rattle.cert_text.specs.Judging.{BeginsHearing, Finishes, HearsEvent, HearsLine, IsWhole, Judges, JudgesHere, RefusesBad, RefusesLine, RefusesLines, RefusesRest}
use Rattle.cert_text.proofs.Cuts.{all_append}
use Rattle.cert_text.proofs.GivenLaws.{bad_next, cut_next, events_begin, exact_lines, heard_ends, heard_more, heard_nothing, last_event, lines_go_on, lines_push, not_ended, refused_after, rest_bad, run_nothing, run_one, run_then, whole_text}
use Rattle.cert_text.proofs.Shapes.{Shaped, end_last, run_shaped, shaped_depth, start_shaped}
use Rattle.cert_text.proofs.SourceLaws.{ends_then, reads_none, reads_then}
use Rattle.cert_text.proofs.Spelled.{line_of-spelled}
use Rattle.cert_text.proofs.Texts.{text_append}

-- ---- one line

-- how many bytes there are after a line
pub line_within : (old now : Held) (lines : ℕ) (more line : List ℕ) → IsWithin old lines → old.left ++ more ≡ line ++ 10 ∷ now.left → now.count ≡ old.count + length more → now.count < 2 ^ 63 → IsWithin now (lines + 1)
line_within old now lines more line w text count small =
    let size : length (old.left ++ more) ≡ length (line ++ 10 ∷ now.left) = ap length text in
    record { count = small; taken = omega (arith, w.taken, count, size, length-append old.left more, length-append line (10 ∷ now.left)) }

-- a line that can stand was judged
pub line_judged : (old now : CertFeed) (more bytes : List ℕ) (l : Line) → IsWithin old.source old.lines → old.source.left ++ more ≡ bytes ++ 10 ∷ now.source.left → now.source.count ≡ old.source.count + length more
    → now.source.count < 2 ^ 63 → now.lines ≡ old.lines + 1 → line_of bytes ≡ Some l → after old.position l ≡ Some now.position → Judges old now more (l ∷ [])
line_judged old now more bytes l w text count small lines said stands =
    let spelled = line_of-spelled bytes l said in
    record {
      text =
          text ∙ sym (append_assoc bytes (10 ∷ []) now.source.left) ∙ ap (λ (x : List ℕ). ended x ++ now.source.left) (sym spelled.0)
          ∙ ap (λ (x : List ℕ). x ++ now.source.left) (sym (append-nil (ended (line_text l))));
      in_range = (spelled.1, tt);
      stands = run_one old.position now.position l stands;
      count = count;
      number = lines;
      within = subst (λ (n : ℕ). IsWithin now.source n) (sym lines) (line_within old.source now.source old.lines more bytes w text count small);
    }

-- an unfinished line is a cut
pub line_cut : (files : Files) (name : List ℕ) (old : CertFeed) (now : Held) (more line : List ℕ) → TakesLine files name old.source now more line false → RefusesLine files name old more (Some cut)
line_cut files name old now more line t =
    let none = t.none refl in
    (λ some. cut_next (old.lines + 1) old.position (old.source.left ++ more) (subst (λ (x : List ℕ). no_end x ≡ true) (sym none.0) t.free) some, none.1)

-- a line that can't stand, and all that follows it
pub line_bad : (files : Files) (name : List ℕ) (old : CertFeed) (left more further line : List ℕ) (why : CertRefusal) → no_end line ≡ true → old.source.left ++ more ≡ line ++ 10 ∷ left
    → option_and_then (λ l. after old.position l) (line_of line) ≡ None → why ≡ bad_line (old.lines + 1) → Ends files name old.source.count (more ++ further) → RefusesLine files name old (more ++ further) (Some why)
line_bad files name old left more further line why free text none is ends =
    let whole : old.source.left ++ (more ++ further) ≡ line ++ 10 ∷ (left ++ further) =
    sym (append_assoc old.source.left more further) ∙ ap (λ (x : List ℕ). x ++ further) text ∙ append_assoc line (10 ∷ left) further in (
      λ some. bad_next (old.lines + 1) old.position (old.source.left ++ (more ++ further)) line (left ++ further) free whole none ∙ ap (λ (w : CertRefusal). Some w) (sym is),
      ends,
    )

-- a line that can't stand, or what went wrong after it
pub line_refused : (files there : Files) (name : List ℕ) (old : CertFeed) (at : ℕ) (left more further line : List ℕ) (why : Option CertRefusal) → no_end line ≡ true → old.source.left ++ more ≡ line ++ 10 ∷ left
    → option_and_then (λ l. after old.position l) (line_of line) ≡ None → (Ends there name at further → Ends files name old.source.count (more ++ further))
    → RefusesBad there name at old.lines further why → RefusesLine files name old (more ++ further) why
line_refused files there name old at left more further line None free text none ends bad = tt
line_refused files there name old at left more further line (Some why) free text none ends bad = line_bad files name old left more further line why free text none bad.0 (ends bad.1)

-- a line takes a byte at least
pub line_smaller : (a b : CertFeed) (n : List ℕ) (l : Line) → Judges a b n (l ∷ []) → 2 ^ 63 + length b.source.left - b.source.count < 2 ^ 63 + length a.source.left - a.source.count
line_smaller a b n l j =
    let size : length a.source.left + length n ≡ length (text_of (l ∷ [])) + length b.source.left = sym (length-append a.source.left n) ∙ ap length j.text ∙ length-append (text_of (l ∷ [])) b.source.left in
    let one : length (text_of (l ∷ [])) ≡ length (line_text l) + 1 = length-append (ended (line_text l)) [] ∙ (let k : length (line_text l ++ 10 ∷ []) ≡ length (line_text l) + 1 = length-append (line_text l) (10 ∷ []) in omega arith) in
    omega (arith, size, one, j.count, j.within.count)

-- lines, of which there is one, take a byte at least
pub lines_smaller : (a b : CertFeed) (n : List ℕ) (before : List Line) (last : Line) → Judges a b n (before ++ last ∷ []) → bytes_ahead b.source < bytes_ahead a.source
lines_smaller a b n before last j =
    let all : length a.source.left + length n ≡ length (text_of (before ++ last ∷ [])) + length b.source.left =
    sym (length-append a.source.left n) ∙ ap length j.text ∙ length-append (text_of (before ++ last ∷ [])) b.source.left in
    let parts : length (text_of (before ++ last ∷ [])) ≡ length (text_of before) + length (text_of (last ∷ [])) = ap length (text_append before (last ∷ [])) ∙ length-append (text_of before) (text_of (last ∷ [])) in
    let one : length (text_of (last ∷ [])) ≡ length (line_text last) + 1 = length-append (ended (line_text last)) [] ∙ (let k : length (line_text last ++ 10 ∷ []) ≡ length (line_text last) + 1 = length-append (line_text last) (10 ∷ []) in omega arith) in
    omega (arith, all, parts, one, j.count, j.within.count)

-- ---- lines

-- before the first line
pub judges_none : (feed : CertFeed) → IsWithin feed.source feed.lines → Judges feed feed [] []
judges_none feed w = record { text = append-nil feed.source.left; in_range = tt; stands = run_nothing feed.position; count = omega arith; number = omega arith; within = w }

-- one line more
pub judges_more : (a b c : CertFeed) (m n : List ℕ) (ls : List Line) (l : Line) → Judges a b m ls → Judges b c n (l ∷ []) → Judges a c (m ++ n) (ls ++ l ∷ [])
judges_more a b c m n ls l x y = record {
  text =
      sym (append_assoc a.source.left m n) ∙ ap (λ (z : List ℕ). z ++ n) x.text ∙ append_assoc (text_of ls) b.source.left n ∙ ap (λ (z : List ℕ). text_of ls ++ z) y.text
      ∙ sym (append_assoc (text_of ls) (text_of (l ∷ [])) c.source.left) ∙ ap (λ (z : List ℕ). z ++ c.source.left) (sym (text_append ls (l ∷ [])));
  in_range = all_append LineInRange ls (l ∷ []) x.in_range y.in_range;
  stands = run_then ls (l ∷ []) a.position b.position c.position x.stands y.stands;
  count = omega (arith, x.count, y.count, length-append m n);
  number = omega (arith, x.number, y.number, length-append ls (l ∷ []));
  within = y.within;
}

-- lines were judged that ended no event
pub record EventSoFar {F : Type 0} (files : F → Files) (r w g : F → List ℕ → ℕ) (name : List ℕ) (old now : CertFeed) (a b : F) (heard : Heard) : Type 0 where
  pub more : List ℕ
  pub lines : List Line
  pub reads : Reads files r w g name old.source.count a b None more
  pub judges : Judges old now more lines
  pub hears : (further : List Line) → collect silent (lines ++ further) ≡ collect heard further

-- before the first line
pub event_none : {F : Type 0} (files : F → Files) (r w g : F → List ℕ → ℕ) (name : List ℕ) (feed : CertFeed) (here : F) (heard : Heard) → IsWithin feed.source feed.lines → heard ≡ silent
    → EventSoFar files r w g name feed feed here here heard
event_none files r w g name feed here heard within is = record {
  more = [];
  lines = [];
  reads = reads_none files r w g name feed.source.count here within.count;
  judges = judges_none feed within;
  hears = λ further. ap (λ (h : Heard). collect h further) (sym is);
}

-- one line more that ends no event
pub event_more : {F : Type 0} {files : F → Files} {r w g : F → List ℕ → ℕ} {name : List ℕ} {old now : CertFeed} {a b : F} {heard : Heard} (c : F) (next : CertFeed) (further : Heard) (n : List ℕ)
    → EventSoFar files r w g name old now a b heard → Reads files r w g name now.source.count b c None n → HearsLine now next n heard further None
    → EventSoFar files r w g name old next a c further
unfolding collect
event_more {old = old} {now = now} {heard = heard} c next further n s x l = record {
  more = s.more ++ n;
  lines = s.lines ++ l.line ∷ [];
  reads = reads_then s.reads x s.judges.count;
  judges = judges_more old now next s.more n s.lines l.line s.judges l.judges;
  hears = λ rest. heard_more s.lines heard l.line rest s.hears ∙ ap (λ (z : Heard × Option Event). onto_event z.1 (collect z.0 rest)) (sym l.hears);
}

-- one line more that ends an event
pub event_heard : {F : Type 0} {files : F → Files} {r w g : F → List ℕ → ℕ} {name : List ℕ} {old now : CertFeed} {a b : F} {heard : Heard} (next : CertFeed) (further : Heard) (n : List ℕ) (e : Event)
    → (s : EventSoFar files r w g name old now a b heard) → HearsLine now next n heard further (Some e) → HearsEvent old next (s.more ++ n) e
unfolding collect
event_heard {old = old} {now = now} {heard = heard} next further n e s l = record {
  before = s.lines;
  last = l.line;
  judges = judges_more old now next s.more n s.lines l.line s.judges l.judges;
  none = heard_nothing s.lines heard s.hears;
  hears = λ rest.
      heard_more s.lines heard l.line rest s.hears ∙ ap (λ (z : Heard × Option Event). onto_event z.1 (collect z.0 rest)) (sym l.hears)
      ∙ ap (λ (h : Heard). e ∷ collect h rest) (heard_ends heard l.line further e l.hears);
  few = l.few;
}

-- the line of a node is its event
node_hears : (n : Node) (rest : List Line) → collect silent (node_line n ∷ rest) ≡ node_event n ∷ collect silent rest
unfolding collect
node_hears (node.Inner n) rest = refl
node_hears node.Bound rest = refl
node_hears node.Open rest = refl
node_hears node.Fail rest = refl

-- a line that can stand was judged, where it stood in what was left
pub here_judged : (old now : CertFeed) (l : Line) (rest : List ℕ) → IsWithin old.source old.lines → old.source.left ≡ line_text l ++ 10 ∷ rest → LineInRange l → TakesUntil old.source now.source rest
    → now.lines ≡ old.lines + 1 → after old.position l ≡ Some now.position → JudgesHere old now l
here_judged old now l rest w is small t lines stands =
    let text : old.source.left ++ [] ≡ line_text l ++ 10 ∷ now.source.left = append-nil old.source.left ∙ is ∙ ap (λ (x : List ℕ). line_text l ++ 10 ∷ x) (sym t.left) in
    let count : now.source.count ≡ old.source.count + length {A = ℕ} [] = omega (arith, t.count) in
    let few_read : now.source.count < 2 ^ 63 = omega (arith, t.count, w.count) in
    record {
      judges = record {
        text =
            text ∙ sym (append_assoc (line_text l) (10 ∷ []) now.source.left) ∙ ap (λ (x : List ℕ). x ++ now.source.left) (sym (append-nil (ended (line_text l))));
        in_range = (small, tt);
        stands = run_one old.position now.position l stands;
        count = count;
        number = lines;
        within = subst (λ (k : ℕ). IsWithin now.source k) (sym lines) (line_within old.source now.source old.lines [] (line_text l) w text count few_read);
      };
      few = let few = t.few in omega (arith, few, ap (length {A = ℕ}) t.left);
    }

-- so was the line of a node, which is heard at once
pub node_heard : (old now : CertFeed) (n : Node) (rest : List ℕ) → IsWithin old.source old.lines → BeginsNode old.source.left n rest → TakesUntil old.source now.source rest
    → now.lines ≡ old.lines + 1 → after old.position (node_line n) ≡ Some now.position → HearsEvent old now [] (node_event n)
unfolding collect
node_heard old now n rest w b t lines stands =
    let l : Line = node_line n in
    let here : JudgesHere old now l = here_judged old now l rest w (b.text ∙ append_assoc (line_text l) (10 ∷ []) rest) b.in_range t lines stands in
    record { before = []; last = l; judges = here.judges; none = refl; hears = node_hears n; few = here.few }

-- nothing was taken
pub event_same : {F : Type 0} {files : F → Files} {r w g : F → List ℕ → ℕ} {name : List ℕ} {old now : CertFeed} {a b : F} {heard : Heard} (next : CertFeed) → next ≡ now
    → EventSoFar files r w g name old now a b heard → EventSoFar files r w g name old next a b heard
event_same {files = files} {r = r} {w = w} {g = g} {name = name} {old = old} {a = a} {b = b} {heard = heard} next is s = subst (λ (f : CertFeed). EventSoFar files r w g name old f a b heard) (sym is) s

-- a line that was judged after nothing was taken takes a byte at least
pub same_smaller : (a mid b : CertFeed) (n : List ℕ) (l : Line) → mid ≡ a → Judges mid b n (l ∷ []) → 2 ^ 63 + length b.source.left - b.source.count < 2 ^ 63 + length a.source.left - a.source.count
same_smaller a mid b n l is j = line_smaller a b n l (subst (λ (f : CertFeed). Judges f b n (l ∷ [])) is j)

-- one line more, where it stood, that ends no event
pub here_more : {F : Type 0} {files : F → Files} {r w g : F → List ℕ → ℕ} {name : List ℕ} {old now : CertFeed} {a b : F} {heard : Heard} (next : CertFeed) (l : Line) (further : Heard)
    → EventSoFar files r w g name old now a b heard → JudgesHere now next l → (further, None) ≡ hear heard l → EventSoFar files r w g name old next a b further
here_more {files = files} {r = r} {w = w} {g = g} {name = name} {now = now} {b = b} next l further s j hears =
    event_more b next further [] s (reads_none files r w g name now.source.count b s.judges.within.count) (record { line = l; judges = j.judges; hears = hears; few = j.few })

-- after the first line, if it was that of a fail leaf
pub event_begun : {F : Type 0} (files : F → Files) (r w g : F → List ℕ → ℕ) (name : List ℕ) (feed now : CertFeed) (here : F) (heard : Heard) → IsWithin feed.source feed.lines → BeginsHearing feed now heard
    → EventSoFar files r w g name feed now here here heard
event_begun files r w g name feed now here heard within (inl b) = event_same now b.0 (event_none files r w g name feed here heard within b.1)
event_begun files r w g name feed now here heard within (inr b) = here_more now (line.FailLine b.0) heard (event_none files r w g name feed here silent within refl) b.1 b.2

-- one line more, where it stood, that ends an event
pub here_heard : {F : Type 0} {files : F → Files} {r w g : F → List ℕ → ℕ} {name : List ℕ} {old now : CertFeed} {a b : F} {heard : Heard} (next : CertFeed) (l : Line) (further : Heard) (e : Event)
    → (s : EventSoFar files r w g name old now a b heard) → JudgesHere now next l → (further, Some e) ≡ hear heard l → HearsEvent old next s.more e
here_heard {old = old} next l further e s j hears =
    subst (λ (z : List ℕ). HearsEvent old next z e) (append-nil s.more) (event_heard next further [] e s (record { line = l; judges = j.judges; hears = hears; few = j.few }))

-- a line that is refused
pub event_refused : {F : Type 0} {files : F → Files} {r w g : F → List ℕ → ℕ} {name : List ℕ} {old now : CertFeed} {a b : F} {heard : Heard} (n : List ℕ) (why : Option CertRefusal)
    → (s : EventSoFar files r w g name old now a b heard) → RefusesLine (files b) name now n why → RefusesLines (files a) name old (s.more ++ n) why
event_refused n None s l = tt
event_refused {name = name} {old = old} {now = now} {heard = heard} n (Some why) s l = (
  record {
    lines = s.lines;
    to_come = now.position;
    rest = now.source.left ++ n;
    is = sym (append_assoc old.source.left s.more n) ∙ ap (λ (z : List ℕ). z ++ n) s.judges.text ∙ append_assoc (text_of s.lines) now.source.left n;
    in_range = s.judges.in_range;
    stands = s.judges.stands;
    none = heard_nothing s.lines heard s.hears;
    refused = λ some. subst (λ (k : ℕ). refusal k now.position (ended_lines (now.source.left ++ n)) (unfinished (now.source.left ++ n)) ≡ Some why) (ap (λ (k : ℕ). k + 1) s.judges.number) (l.0 some);
  },
  ends_then now.source.count n s.reads l.1 s.judges.count,
)

-- ---- what was given

-- a new feed
pub given_none : (feed : CertFeed) → feed.source.left ≡ [] → feed.source.count ≡ 0 → feed.lines ≡ 0 → feed.position ≡ start → Given feed [] []
given_none feed left count lines position = record { judged = sym left; in_range = tt; stands = run_nothing start ∙ ap (λ (x : List Symbol). Some x) (sym position); count = count; lines = lines }

-- the lines that were judged are those of the event
pub event_exact : (old now : CertFeed) (bytes more : List ℕ) (es : List Event) (e : Event) → Given old bytes es → (h : HearsEvent old now more e) → h.before ++ h.last ∷ [] ≡ event_lines e
event_exact old now bytes more es e g h =
    let ls : List Line = h.before ++ h.last ∷ [] in
    let go = lines_go_on es ls now.position (all_append LineInRange (lines_of es) ls g.in_range h.judges.in_range) (run_then (lines_of es) ls start old.position now.position g.stands h.judges.stands) in
    exact_lines e h.before go.0 h.last h.none h.hears go.1

-- one event more was given
pub given_more : (old now : CertFeed) (bytes more : List ℕ) (es : List Event) (e : Event) → Given old bytes es → HearsEvent old now more e → Given now (bytes ++ more) (es ++ e ∷ [])
given_more old now bytes more es e g h =
    let ls : List Line = h.before ++ h.last ∷ [] in
    let lines : lines_of es ++ ls ≡ lines_of (es ++ e ∷ []) = ap (λ (x : List Line). lines_of es ++ x) (event_exact old now bytes more es e g h) ∙ sym (lines_push es e) in
    record {
      judged =
          ap (λ (x : List ℕ). x ++ more) g.judged ∙ append_assoc (text_of (lines_of es)) old.source.left more ∙ ap (λ (x : List ℕ). text_of (lines_of es) ++ x) h.judges.text
          ∙ sym (append_assoc (text_of (lines_of es)) (text_of ls) now.source.left) ∙ ap (λ (x : List ℕ). x ++ now.source.left) (sym (text_append (lines_of es) ls) ∙ ap text_of lines);
      in_range = subst (AllByRecursion LineInRange) lines (all_append LineInRange (lines_of es) ls g.in_range h.judges.in_range);
      stands = ap (run start) (sym lines) ∙ run_then (lines_of es) ls start old.position now.position g.stands h.judges.stands;
      count = omega (arith, g.count, h.judges.count, length-append bytes more);
      lines = omega (arith, g.lines, h.judges.number, length-append (lines_of es) ls, ap length lines);
    }

-- what was given begins a certificate
pub given_begins : (feed : CertFeed) (bytes : List ℕ) (es : List Event) → Given feed bytes es → BeginsEvents es
given_begins feed bytes es g = events_begin es feed.position g.in_range g.stands

-- what is to come is shaped
given_shaped : (feed : CertFeed) (bytes : List ℕ) (es : List Event) → Given feed bytes es → Shaped feed.position
given_shaped feed bytes es g = run_shaped (lines_of es) start feed.position g.stands start_shaped

-- a feed is at most so deep
pub given_depth : (feed : CertFeed) (bytes : List ℕ) (es : List Event) → Given feed bytes es → depth_of feed.position ≤ 128
given_depth feed bytes es g = shaped_depth feed.position (given_shaped feed bytes es g)

-- after the last event nothing is to come
pub given_ended : (old now : CertFeed) (bytes more : List ℕ) (es : List Event) → Given old bytes es → HearsEvent old now more event.Finish → now.position ≡ []
given_ended old now bytes more es g h =
    end_last old.position now.position (given_shaped old bytes es g) (ap (run old.position) (sym (event_exact old now bytes more es event.Finish g h)) ∙ h.judges.stands)

-- after another event something is
pub given_goes_on : (feed : CertFeed) (bytes : List ℕ) (es : List Event) (e : Event) → Given feed bytes (es ++ e ∷ []) → e ≢ event.Finish → feed.position ≢ []
given_goes_on feed bytes es e g other ended = other (last_event es e g.in_range (g.stands ∙ ap (λ (x : List Symbol). Some x) ended))

-- an event that isn't the last one
pub next_event : (files : Files) (name : List ℕ) (old now : CertFeed) (bytes more : List ℕ) (es : List Event) (e : Event) → Given old bytes es → HearsEvent old now more e → e ≢ event.Finish
    → IsNext files name now bytes more es e
next_event files name old now bytes more es e g h other =
    let given : Given now (bytes ++ more) (es ++ e ∷ []) = given_more old now bytes more es e g h in
    record { given = given; begins = given_begins now (bytes ++ more) (es ++ e ∷ []) given; ends = λ is. absurd (other is); text = λ is. absurd (other is) }

-- a refusal of what follows the events is one of the text
pub next_refused : (files : Files) (name : List ℕ) (old : CertFeed) (bytes more : List ℕ) (es : List Event) (why : Option CertRefusal) → Given old bytes es → old.position ≢ [] → RefusesLines files name old more why
    → IsRefused files name (length bytes) more (bytes ++ more) why
next_refused files name old bytes more es None g some r = tt
next_refused files name old bytes more es (Some why) g some r =
    let t = r.0 in
    let ls : List Line = lines_of es ++ t.lines in (
      refused_after ls t.to_come t.rest (bytes ++ more) (old.lines + length t.lines + 1) why (all_append LineInRange (lines_of es) t.lines g.in_range t.in_range)
          (run_then (lines_of es) t.lines start old.position t.to_come g.stands t.stands)
          (ap (λ (x : List ℕ). x ++ more) g.judged ∙ append_assoc (text_of (lines_of es)) old.source.left more ∙ ap (λ (x : List ℕ). text_of (lines_of es) ++ x) t.is
          ∙ sym (append_assoc (text_of (lines_of es)) (text_of t.lines) t.rest) ∙ ap (λ (x : List ℕ). x ++ t.rest) (sym (text_append (lines_of es) t.lines)))
          (omega (arith, g.lines, length-append (lines_of es) t.lines)) (t.refused (not_ended es t.lines old.position t.to_come g.stands t.stands t.none some)),
      subst (λ (k : ℕ). Ends files name k more) g.count r.1,
    )

-- the end, where nothing follows
pub finish_given : (files : Files) (name : List ℕ) (old now : CertFeed) (bytes more : List ℕ) (es : List Event) → Given old bytes es → IsWhole files name old now more → Given now (bytes ++ more) es
finish_given files name old now bytes more es g w = record {
  judged =
      ap (λ (x : List ℕ). x ++ more) g.judged ∙ append_assoc (text_of (lines_of es)) old.source.left more ∙ ap (λ (x : List ℕ). text_of (lines_of es) ++ x) (w.nothing ∙ sym w.left);
  in_range = g.in_range;
  stands = g.stands ∙ ap (λ (x : List Symbol). Some x) (sym w.position);
  count = omega (arith, g.count, w.count, length-append bytes more);
  lines = w.lines ∙ g.lines;
}

-- then the bytes are a text of the certificate
pub finish_text : (feed : CertFeed) (bytes : List ℕ) (es : List Event) → Given feed bytes es → feed.position ≡ [] → feed.source.left ≡ [] → IsTextOf bytes es
finish_text feed bytes es g ended left =
    whole_text bytes es g.in_range (g.stands ∙ ap (λ (x : List Symbol). Some x) ended) (g.judged ∙ ap (λ (x : List ℕ). text_of (lines_of es) ++ x) left ∙ append-nil (text_of (lines_of es)))

-- bytes after the end are refused
pub finish_refused : (files : Files) (name : List ℕ) (old : CertFeed) (bytes more : List ℕ) (es : List Event) (why : Option CertRefusal) → Given old bytes es → old.position ≡ [] → RefusesRest files name old more why
    → IsRefused files name (length bytes) more (bytes ++ more) why
finish_refused files name old bytes more es None g ended r = tt
finish_refused files name old bytes more es (Some why) g ended r = (
  refused_after (lines_of es) [] (old.source.left ++ more) (bytes ++ more) (old.lines + 1) why g.in_range (g.stands ∙ ap (λ (x : List Symbol). Some x) ended)
      (ap (λ (x : List ℕ). x ++ more) g.judged ∙ append_assoc (text_of (lines_of es)) old.source.left more) (ap (λ (k : ℕ). k + 1) g.lines)
      (rest_bad (old.lines + 1) (old.source.left ++ more) r.1 ∙ ap (λ (w : CertRefusal). Some w) (sym r.0)),
  subst (λ (k : ℕ). Ends files name k more) g.count r.2,
)

-- ---- what a feed answers

-- the same place in the text
pub given_moved : (a b : CertFeed) (bytes : List ℕ) (es : List Event) → b.source ≡ a.source → b.position ≡ a.position → b.lines ≡ a.lines → Given a bytes es → Given b bytes es
given_moved a b bytes es source position lines g = record {
  judged = g.judged ∙ ap (λ (h : Held). text_of (lines_of es) ++ h.left) (sym source);
  in_range = g.in_range;
  stands = g.stands ∙ ap (λ (x : List Symbol). Some x) (sym position);
  count = ap (λ (h : Held). h.count) source ∙ g.count;
  lines = lines ∙ g.lines;
}

-- an answer of a feed that ended stands for the feed that goes on from there
pub answer_moved : (files : Files) (name : List ℕ) (a b : CertFeed) (bytes more : List ℕ) (es : List Event) (result : Result Event FeedFault) → b.source ≡ a.source → b.position ≡ a.position → b.lines ≡ a.lines
    → IsAnswerOf files name a bytes more es result → IsAnswerOf files name b bytes more es result
answer_moved files name a b bytes more es (Ok e) source position lines n =
    record { given = given_moved a b (bytes ++ more) (es ++ e ∷ []) source position lines n.given; begins = n.begins; ends = n.ends; text = n.text }
answer_moved files name a b bytes more es (Err f) source position lines n = n

-- the end is found or not
pub finish_answer : {F : Type 0} {files : F → Files} {r w g : F → List ℕ → ℕ} {name : List ℕ} {a b : F} {m : List ℕ} (old mid now : CertFeed) (n bytes : List ℕ) (es : List Event) (result : Result Event FeedFault)
    → Reads files r w g name old.source.count a b None m → HearsEvent old mid m event.Finish → Finishes (files b) name mid now n result → Given old bytes es
    → IsAnswerOf (files a) name now bytes (m ++ n) es result
finish_answer {files = files} {name = name} {a = a} {b = b} {m = m} old mid now n bytes es (Ok e) x h f given =
    let whole = subst (λ (fs : Files). IsWhole fs name mid now n) x.same f.1 in
    let there : Given mid (bytes ++ m) (es ++ event.Finish ∷ []) = given_more old mid bytes m es event.Finish given h in
    let ended : mid.position ≡ [] = given_ended old mid bytes m es given h in
    let here : Given now (bytes ++ (m ++ n)) (es ++ event.Finish ∷ []) =
    subst (λ (z : List ℕ). Given now z (es ++ event.Finish ∷ [])) (append_assoc bytes m n) (finish_given (files a) name mid now (bytes ++ m) n (es ++ event.Finish ∷ []) there whole) in
    subst (λ (z : Event). IsNext (files a) name now bytes (m ++ n) es z) (sym f.0)
    (record {
      given = here;
      begins = given_begins now (bytes ++ (m ++ n)) (es ++ event.Finish ∷ []) here;
      ends = λ is. subst (λ (k : ℕ). Ends (files a) name k (m ++ n)) given.count (ends_then mid.source.count n x f.1.ends h.judges.count);
      text = λ is. finish_text now (bytes ++ (m ++ n)) (es ++ event.Finish ∷ []) here (whole.position ∙ ended) whole.left;
    })
finish_answer {files = files} {name = name} {a = a} {b = b} {m = m} old mid now n bytes es (Err fault) x h f given =
    by (text_refusal fault)
    (finish_refused (files b) name mid (bytes ++ m) n (es ++ event.Finish ∷ []) (text_refusal fault) (given_more old mid bytes m es event.Finish given h) (given_ended old mid bytes m es given h) f)
    (λ (z : List ℕ) (ends : Ends (files b) name (length (bytes ++ m)) z).
    subst (λ (k : ℕ). Ends (files a) name k (m ++ z)) given.count (ends_then (length (bytes ++ m)) z x ends (length-append bytes m ∙ ap (λ (k : ℕ). k + length m) (sym given.count))))
  where
    by : (why : Option CertRefusal) → IsRefused (files b) name (length (bytes ++ m)) n ((bytes ++ m) ++ n) why
        → ((z : List ℕ) → Ends (files b) name (length (bytes ++ m)) z → Ends (files a) name (length bytes) (m ++ z))
        → IsRefused (files a) name (length bytes) (m ++ n) (bytes ++ (m ++ n)) why
    by None refused ends = tt
    by (Some why) refused ends = (ap cert_of_text (sym (append_assoc bytes m n)) ∙ refused.0, ends n refused.1)

-- after looking for the end the feed has ended
pub finish_last : (files : Files) (name : List ℕ) (old now : CertFeed) (more : List ℕ) (result : Result Event FeedFault) → Finishes files name old now more result → is_last result ≡ true
finish_last files name old now more (Ok e) f = ap (λ (x : Event). is_last (Ok x)) f.0
finish_last files name old now more (Err f) g = refl

-- a failed read is told by the answer
pub failed : (result : Result Event FeedFault) → broke result ≡ Some fault.ReadFault → result ≡ Err fault.ReadFault
failed (Ok e) f = absurd (let h : None ≡ Some fault.ReadFault = f in cc)
failed (Err fault.ReadFault) f = refl
failed (Err fault.TooLarge) f = absurd (let h : Some fault.TooLarge ≡ Some fault.ReadFault = f in cc)
failed (Err (fault.BadLine n)) f = absurd (let h : None ≡ Some fault.ReadFault = f in cc)
failed (Err fault.Cut) f = absurd (let h : None ≡ Some fault.ReadFault = f in cc)
failed (Err fault.Memory) f = absurd (let h : None ≡ Some fault.ReadFault = f in cc)
