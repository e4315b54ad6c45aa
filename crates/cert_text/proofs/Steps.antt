-- A text line by line.
use Rattle.std.proofs.Common.{◌≡◌, ◌<◌, ◌+◌, ℕ, List, [], ◌∷◌, length, Option, Some, None, refl, sym, ap, ◌∙◌, arith}
use Rattle.std.specs.Option.{option_and_then}
use Rattle.cert_text.specs.declared.event.Event.{Event}
use Rattle.cert_text.specs.declared.line.Line.{Line}
use Rattle.cert_text.specs.declared.symbol.Symbol.{Symbol}
use Rattle.cert_text.specs.CertText.{parts}
use Rattle.cert_text.specs.CertText.{bad_line, ended_lines, front, last, unfinished}
use Rattle.cert_text.specs.Words.{line_of}
use Rattle.cert_text.specs.Grammar.{after}
use Rattle.cert_text.specs.Making.{Made, made}
use Rattle.cert_text.specs.Heard.{Heard, collect, hear, made_onto, onto_event}
use Rattle.cert_text.specs.Reading.{at_end, lines_said, onto_said, or_bad, refusal}
use Rattle.cert_text.proofs.CutAt.{parts_some}

-- the front of one part more
front_more : (x : List ℕ) (xs : List (List ℕ)) → 0 < length xs → front (x ∷ xs) ≡ x ∷ front xs
front_more x [] some = absurd (omega arith)
front_more x (y ∷ xs) some = refl

-- the last of one part more
last_more : (x : List ℕ) (xs : List (List ℕ)) → 0 < length xs → last (x ∷ xs) ≡ last xs
last_more x [] some = absurd (omega arith)
last_more x (y ∷ xs) some = refl

-- the ended lines of a line and a rest
pub ended_more : (text line rest : List ℕ) → parts 10 text ≡ line ∷ parts 10 rest → ended_lines text ≡ line ∷ ended_lines rest
ended_more text line rest e = ap front e ∙ front_more line (parts 10 rest) (parts_some 10 rest)

-- what is unfinished after a line
pub unfinished_more : (text line rest : List ℕ) → parts 10 text ≡ line ∷ parts 10 rest → unfinished text ≡ unfinished rest
unfinished_more text line rest e = ap last e ∙ last_more line (parts 10 rest) (parts_some 10 rest)

-- the first refusal of a line and a rest
one : (n : ℕ) (ss : List Symbol) (text line rest : List ℕ) → parts 10 text ≡ line ∷ parts 10 rest
    → refusal n ss (ended_lines text) (unfinished text) ≡ or_bad n (λ next. refusal (n + 1) next (ended_lines rest) (unfinished rest)) (option_and_then (λ l. after ss l) (line_of line))
unfolding refusal
one n ss text line rest e = ap (λ bs. refusal n ss bs (unfinished text)) (ended_more text line rest e) ∙ ap (refusal n ss (line ∷ ended_lines rest)) (unfinished_more text line rest e)

-- a line that says nothing is refused
pub no_line : (n : ℕ) (ss : List Symbol) (text line rest : List ℕ) → parts 10 text ≡ line ∷ parts 10 rest → None ≡ line_of line → refusal n ss (ended_lines text) (unfinished text) ≡ Some (bad_line n)
no_line n ss text line rest e none = one n ss text line rest e ∙ ap (λ o. or_bad n (λ next. refusal (n + 1) next (ended_lines rest) (unfinished rest)) (option_and_then (λ l. after ss l) o)) (sym none)

-- a line that leads nowhere is refused
pub no_step : (n : ℕ) (ss : List Symbol) (text line rest : List ℕ) (l : Line) → parts 10 text ≡ line ∷ parts 10 rest → Some l ≡ line_of line → after ss l ≡ None
    → refusal n ss (ended_lines text) (unfinished text) ≡ Some (bad_line n)
no_step n ss text line rest l e said none =
    one n ss text line rest e ∙ ap (λ o. or_bad n (λ next. refusal (n + 1) next (ended_lines rest) (unfinished rest)) (option_and_then (λ l. after ss l) o)) (sym said)
    ∙ ap (or_bad n (λ next. refusal (n + 1) next (ended_lines rest) (unfinished rest))) none

-- a line that leads on
pub step : (n : ℕ) (ss next : List Symbol) (text line rest : List ℕ) (l : Line) → parts 10 text ≡ line ∷ parts 10 rest → Some l ≡ line_of line → after ss l ≡ Some next
    → refusal n ss (ended_lines text) (unfinished text) ≡ refusal (n + 1) next (ended_lines rest) (unfinished rest)
step n ss next text line rest l e said some =
    one n ss text line rest e ∙ ap (λ o. or_bad n (λ next. refusal (n + 1) next (ended_lines rest) (unfinished rest)) (option_and_then (λ l. after ss l) o)) (sym said)
    ∙ ap (or_bad n (λ next. refusal (n + 1) next (ended_lines rest) (unfinished rest))) some

-- what a line and a rest make
pub made_step : (m : Made) (h further : Heard) (event : Option Event) (text line rest : List ℕ) (l : Line) → parts 10 text ≡ line ∷ parts 10 rest → Some l ≡ line_of line → (further, event) ≡ hear h l
    → made m (collect h (lines_said (ended_lines text))) ≡ made (made_onto m event) (collect further (lines_said (ended_lines rest)))
unfolding made collect lines_said
made_step m h further event text line rest l e said heard =
    ap (λ bs. made m (collect h (lines_said bs))) (ended_more text line rest e)
    ∙ ap (λ o. made m (collect h (onto_said o (lines_said (ended_lines rest))))) (sym said)
    ∙ ap (λ (r : Heard × Option Event). made m (onto_event r.1 (collect r.0 (lines_said (ended_lines rest))))) (sym heard)
    ∙ by event
  where
    by : (o : Option Event) → made m (onto_event o (collect further (lines_said (ended_lines rest)))) ≡ made (made_onto m o) (collect further (lines_said (ended_lines rest)))
    by None = refl
    by (Some x) = refl

-- the refusal at the end of the lines
pub no_more : (n : ℕ) (ss : List Symbol) (text : List ℕ) → parts 10 text ≡ text ∷ [] → refusal n ss (ended_lines text) (unfinished text) ≡ at_end n ss text
unfolding refusal
no_more n ss text e = ap (λ ps. refusal n ss (front ps) (last ps)) e

-- no lines make no more
pub made_all : (m : Made) (h : Heard) (text : List ℕ) → parts 10 text ≡ text ∷ [] → made m (collect h (lines_said (ended_lines text))) ≡ m
unfolding made collect lines_said
made_all m h text e = ap (λ ps. made m (collect h (lines_said (front ps)))) e
