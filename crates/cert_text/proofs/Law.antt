-- The law of the grammar: which lines lead where, and what they begin.
use Rattle.std.proofs.Common.{◌≡◌, List, [], ◌∷◌, ◌++◌, Option, Some, None, refl, sym, ap, subst, ◌∙◌, append_assoc, append-nil}
use Rattle.std.specs.Option.{option_and_then, option_map}
use Rattle.cert_text.specs.declared.line.Line.{Line}
use Rattle.cert_text.specs.declared.symbol.Symbol.{Symbol}
use Rattle.cert_text.specs.Grammar.{after, expand, run}
use Rattle.cert_text.proofs.Fills.{Fills, FillsSome, backward}
use Rattle.cert_text.proofs.Ahead.{forward}

-- the lines lead to pieces that these fill
pub record Leads (ss : List Symbol) (ls rest : List Line) : Type 0 where
  pub next : List Symbol
  pub runs : run ss ls ≡ Some next
  pub fills : Fills next rest

-- one line
one : (ss : List Symbol) (l : Line) (ls : List Line) → Fills ss (l ∷ ls) → (next : List Symbol) × (after ss l ≡ Some next) × Fills next ls
one [] l ls f = absurd (let e : [] ≡ l ∷ ls = f.lines in cc)
one (s ∷ ss) l ls f =
    let a = forward s f.values.0 ss f.values.1 in
    let both : l ∷ ls ≡ a.line ∷ a.rest = sym f.lines ∙ a.is in
    let head : a.line ≡ l = cc in
    let tail : a.rest ≡ ls = cc in
    (a.next ++ ss, ap (option_map (λ more. more ++ ss)) (ap (expand s) (sym head) ∙ a.expands), subst (Fills (a.next ++ ss)) tail a.fills)

-- lines at the front of those that fill the pieces lead on
pub leads_on : (ls : List Line) (ss : List Symbol) (rest : List Line) → Fills ss (ls ++ rest) → Leads ss ls rest
unfolding run
leads_on [] ss rest f = record { next = ss; runs = refl; fills = f }
leads_on (l ∷ ls) ss rest f =
    let o = one ss l (ls ++ rest) f in
    let more = leads_on ls o.0 rest o.2 in
    record { next = more.next; runs = ap (option_and_then (λ next. run next ls)) o.1 ∙ more.runs; fills = more.fills }

-- lines that lead to pieces, with lines that fill those, fill the first
pub leads_back : (ls : List Line) (ss next : List Symbol) (rest : List Line) → run ss ls ≡ Some next → Fills next rest → Fills ss (ls ++ rest)
unfolding run
leads_back [] ss next rest e f = let same : next ≡ ss = cc in subst (λ x. Fills x rest) same f
leads_back (l ∷ ls) [] next rest e f = absurd (let none : None ≡ Some next = e in cc)
leads_back (l ∷ ls) (s ∷ ss) next rest e f = backward s l ss (ls ++ rest) (by (after (s ∷ ss) l) (λ x e. leads_back ls x next rest e f) e)
  where
    by : (o : Option (List Symbol)) → ((x : List Symbol) → run x ls ≡ Some next → Fills x (ls ++ rest)) → option_and_then (λ x. run x ls) o ≡ Some next → FillsSome o (ls ++ rest)
    by None further e = absurd (let none : None ≡ Some next = e in cc)
    by (Some x) further e = further x e

-- pieces that no line fills are none
pub filled_none : (ss : List Symbol) → Fills ss [] → ss ≡ []
filled_none [] f = refl
filled_none (s ∷ ss) f =
    let a = forward s f.values.0 ss f.values.1 in
    absurd (let e : [] ≡ a.line ∷ a.rest = sym f.lines ∙ a.is in cc)

-- no lines fill no pieces
pub none_filled : Fills [] []
none_filled = record { values = tt; lines = refl }

-- lines fill the pieces exactly where they lead to the end
pub fills-run : (ss : List Symbol) (ls : List Line) → Fills ss ls → run ss ls ≡ Some []
fills-run ss ls f =
    let l = leads_on ls ss [] (subst (Fills ss) (sym (append-nil _)) f) in
    l.runs ∙ ap (λ x. Some x) (filled_none l.next l.fills)

-- lines that lead to the end fill the pieces
pub run-fills : (ss : List Symbol) (ls : List Line) → run ss ls ≡ Some [] → Fills ss ls
run-fills ss ls e = subst (Fills ss) (append-nil _) (leads_back ls ss [] [] e none_filled)

-- more pieces behind stay
pub run_more : (ls : List Line) (ss next more : List Symbol) → run ss ls ≡ Some next → run (ss ++ more) ls ≡ Some (next ++ more)
unfolding run
run_more [] ss next more e = let same : ss ≡ next = cc in ap (λ x. Some (x ++ more)) same
run_more (l ∷ ls) [] next more e = absurd (let none : None ≡ Some next = e in cc)
run_more (l ∷ ls) (s ∷ ss) next more e = by (expand s l) (λ x e. run_more ls x next more e) e
  where
    by : (o : Option (List Symbol)) → ((x : List Symbol) → run x ls ≡ Some next → run (x ++ more) ls ≡ Some (next ++ more))
        → option_and_then (λ x. run x ls) (option_map (λ x. x ++ ss) o) ≡ Some next
        → option_and_then (λ x. run x ls) (option_map (λ x. x ++ (ss ++ more)) o) ≡ Some (next ++ more)
    by None further e = absurd (let none : None ≡ Some next = e in cc)
    by (Some x) further e = ap (λ y. run y ls) (sym (append_assoc x ss more)) ∙ further (x ++ ss) e
