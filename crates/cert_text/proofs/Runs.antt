-- The pieces of runs.
use Rattle.std.proofs.Common.{◌≡◌, ◌<◌, ◌≤◌, ℕ, zero, suc, ◌+◌, ◌-◌, ◌==◌, get_or, set, take, List, [], ◌∷◌, ◌++◌, length, Bool, true, cond, nat_lt, Some, None, refl, sym, ap, ◌∙◌, append_assoc, append-nil, replicate, arith}
use Rattle.std.specs.List.{list_all}
use Rattle.std.specs.Option.{option_map}
use Rattle.std.proofs.lemmas.Bool.{and_parts, eq-eqb, eqb-true, lt-ltb}
use Rattle.std.proofs.lemmas.List.{length-set, set-append_left, take_all, take_more, take_more_set}
use Rattle.response_test.specs.declared.evidence.Evidence.{Evidence}
use Rattle.cert_text.specs.declared.symbol.Symbol.{Symbol}
use Rattle.cert_text.specs.declared.symbol.Symbol.TheVariants as symbol
use Rattle.cert_text.specs.Depths.{depth_of}
use Rattle.cert_text.specs.declared.position.Run.{Run}
use Rattle.cert_text.specs.declared.position.Next.{Next}
use Rattle.cert_text.specs.declared.line.Line.{Line}
use Rattle.cert_text.specs.declared.line.Line.TheVariants as line
use Rattle.cert_text.specs.Grammar.{after, expand}
use Rattle.cert_text.specs.Pieces.{next_pieces, of_run, pieces}

-- the pieces of one run more, which come first
pub pieces_push : (rs : List Run) (r : Run) → pieces (rs ++ r ∷ []) ≡ of_run r ++ pieces rs
unfolding pieces
pieces_push [] r = sym (append-nil (of_run r))
pieces_push (x ∷ rs) r = ap (λ ps. ps ++ of_run x) (pieces_push rs r) ∙ append_assoc (of_run r) (pieces rs) (of_run x)

-- the pieces of runs, by the last one
pub pieces_last : (rs : List Run) (last : ℕ) (r : Run) → last + 1 ≡ length rs → r ≡ get_or rs last r → pieces rs ≡ of_run r ++ pieces (take last rs)
pieces_last rs last r e is =
    let all : take (last + 1) rs ≡ rs = take_all (last + 1) rs (omega arith) in
    ap pieces (sym all ∙ take_more rs last r (omega arith) ∙ ap (λ (x : Run). take last rs ++ x ∷ []) (sym is)) ∙ pieces_push (take last rs) r

-- with a run in the place of the last one
pub pieces_set : (rs : List Run) (last : ℕ) (r : Run) → last + 1 ≡ length rs → pieces (set rs last r) ≡ of_run r ++ pieces (take last rs)
pieces_set rs last r e =
    let long : length (set rs last r) ≡ length rs = length-set rs last r in
    let all : take (last + 1) (set rs last r) ≡ set rs last r = take_all (last + 1) (set rs last r) (omega arith) in
    ap pieces (sym all ∙ take_more_set rs last r (omega arith)) ∙ pieces_push (take last rs) r

-- with two in its place
pub pieces_two : (rs : List Run) (last : ℕ) (subtrees r : Run) → last + 1 ≡ length rs
    → pieces (set (rs ++ subtrees ∷ []) last r) ≡ of_run subtrees ++ (of_run r ++ pieces (take last rs))
pieces_two rs last subtrees r e =
    ap pieces (set-append_left rs (subtrees ∷ []) last r (omega arith)) ∙ pieces_push (set rs last r) subtrees
    ∙ ap (λ ps. of_run subtrees ++ ps) (pieces_set rs last r e)

-- a run of none in its place
pub pieces_none_last : (rest : List Symbol) (r : Run) → r.count ≡ 0 → rest ≡ of_run r ++ rest
pieces_none_last rest r e = sym (ap (λ (n : ℕ). replicate n r.symbol ++ rest) e)

-- the next piece of runs is that of the last one
pub last_first : (rs : List Run) (last : ℕ) (r rest : Run) (now : List Symbol) → last + 1 ≡ length rs → r ≡ get_or rs last r → of_run r ≡ r.symbol ∷ of_run rest
    → now ≡ of_run rest ++ pieces (take last rs) → pieces rs ≡ r.symbol ∷ now
last_first rs last r rest now e is first now_is =
    pieces_last rs last r e is ∙ ap (λ (ps : List Symbol). ps ++ pieces (take last rs)) first ∙ ap (λ (ps : List Symbol). r.symbol ∷ ps) (sym now_is)

-- a last run of none adds nothing
pub last_nothing : (rs : List Run) (last : ℕ) (r : Run) → last + 1 ≡ length rs → r ≡ get_or rs last r → r.count ≤ 0 → pieces rs ≡ pieces (take last rs)
last_nothing rs last r e is none =
    let empty : r.count ≡ 0 = omega arith in
    pieces_last rs last r e is ∙ sym (pieces_none_last (pieces (take last rs)) r empty)

-- runs of none have no pieces
pub pieces_none : (rs : List Run) → list_all (λ r. r.count == 0) rs ≡ true → pieces rs ≡ []
unfolding pieces
pieces_none [] e = refl
pieces_none (r ∷ rs) e =
    let both = and_parts (r.count == 0) (list_all (λ r. r.count == 0) rs) e in
    let none : r.count ≡ 0 = eqb-true _ _ both.0 in
    rw (pieces_none rs both.1, none) refl

-- two lists that are empty together
append_none : (xs ys : List Symbol) → xs ++ ys ≡ [] → (xs ≡ []) × (ys ≡ [])
append_none [] ys e = (refl, e)
append_none (x ∷ xs) ys e = absurd (let n : x ∷ (xs ++ ys) ≡ [] = e in cc)

-- a run without pieces
run_none : (s : Symbol) (n : ℕ) → replicate n s ≡ [] → n ≡ 0
run_none s zero e = refl
run_none s (suc n) e = absurd (let h : s ∷ replicate n s ≡ [] = e in cc)

-- runs without pieces are runs of none
pub none_pieces : (rs : List Run) → pieces rs ≡ [] → list_all (λ r. r.count == 0) rs ≡ true
unfolding pieces
none_pieces [] e = refl
none_pieces (r ∷ rs) e =
    let both = append_none (pieces rs) (of_run r) e in
    rw (eq-eqb r.count 0 (run_none r.symbol r.count both.1)) (none_pieces rs both.0)

-- a run of none adds nothing
pub run_nothing : (rs : List Run) (r : Run) → r.count ≡ 0 → pieces (rs ++ r ∷ []) ≡ pieces rs
run_nothing rs r e = pieces_push rs r ∙ ap (λ n. replicate n r.symbol ++ pieces rs) e

-- what is to come after a line
pub after_next : (before between second first : List Symbol) (s : Symbol) (l : Line) (n : Next) → before ≡ s ∷ between → option_map next_pieces (Some n) ≡ expand s l
    → second ≡ of_run n.second ++ between → first ≡ of_run n.first ++ second → after before l ≡ Some first
after_next before between second first s l n a b c d =
    ap (λ x. after x l) a ∙ ap (option_map (λ more. more ++ between)) (sym b) ∙ ap (λ x. Some x) (append_assoc (of_run n.first) (of_run n.second) between ∙ ap (λ x. of_run n.first ++ x) (sym c) ∙ sym d)

-- what is to come after the line of an inner node
pub after_inner : (before rest now : List Symbol) (marks : Bool) (depth n : ℕ) → before ≡ symbol.TreeAt marks depth ∷ rest → depth < 128
    → now ≡ of_run (record { symbol = symbol.TreeAt marks (depth + 1); count = n }) ++ rest → after before (line.InnerLine n) ≡ Some now
after_inner before rest now marks depth n was room is =
    let high : nat_lt depth 128 ≡ true = lt-ltb depth 128 room in
    let deeper : depth + 1 ≡ suc depth = omega arith in
    ap (λ (x : List Symbol). after x (line.InnerLine n)) was
    ∙ ap (λ (b : Bool). option_map (λ (more : List Symbol). more ++ rest) (cond b (Some (replicate n (symbol.TreeAt marks (suc depth)))) None)) high
    ∙ ap (λ (k : ℕ). Some (replicate n (symbol.TreeAt marks k) ++ rest)) (sym deeper) ∙ ap (λ (x : List Symbol). Some x) (sym is)

-- what is to come after the line of a leaf
pub after_leaf : (before now : List Symbol) (l : Line) (marks : Bool) (depth : ℕ) → before ≡ symbol.TreeAt marks depth ∷ now → expand (symbol.TreeAt marks depth) l ≡ Some []
    → after before l ≡ Some now
after_leaf before now l marks depth was none = ap (λ (x : List Symbol). after x l) was ∙ ap (option_map (λ (more : List Symbol). more ++ now)) none

-- what is to come after the line of a fail leaf
pub after_fail : (before rest now : List Symbol) (marks : Bool) (depth n : ℕ) → before ≡ symbol.TreeAt marks depth ∷ rest → now ≡ of_run (record { symbol = symbol.Against; count = n }) ++ rest
    → after before (line.FailLine n) ≡ Some now
after_fail before rest now marks depth n was is = ap (λ (x : List Symbol). after x (line.FailLine n)) was ∙ ap (λ (x : List Symbol). Some x) (sym is)

-- what is to come after a line of evidence
pub after_against : (before now : List Symbol) (label : ℕ) (e : Evidence) → before ≡ symbol.Against ∷ now → after before (line.AgainstLine label e) ≡ Some now
after_against before now label e was = ap (λ (x : List Symbol). after x (line.AgainstLine label e)) was

-- no runs have no pieces
pub pieces_empty : (rs : List Run) → length rs ≡ 0 → pieces rs ≡ []
unfolding pieces
pieces_empty [] e = refl
pieces_empty (r ∷ rs) e = absurd (omega arith)

-- the depth is that of the first piece
depth_head : (s : Symbol) (ss : List Symbol) → depth_of (s ∷ ss) ≡ depth_of (s ∷ [])
depth_head (symbol.TreeAt marks depth) ss = refl
depth_head (symbol.Join depth) ss = refl
depth_head s ss = refl

-- the depth is that of the first run with pieces
depth_some : (n : ℕ) (s : Symbol) (ss : List Symbol) → 0 < n → depth_of (replicate n s ++ ss) ≡ depth_of (s ∷ [])
depth_some zero s ss some = absurd (omega arith)
depth_some (suc n) s ss some = depth_head s (replicate n s ++ ss)

-- the runs up to one are those before it, and it
take_run : (rs : List Run) (place : ℕ) (d : Run) → 0 < place → place ≤ length rs → take place rs ≡ take (place - 1) rs ++ get_or rs (place - 1) d ∷ []
take_run rs place d some fits = let same : place ≡ place - 1 + 1 = omega arith in ap (λ (k : ℕ). take k rs) same ∙ take_more rs (place - 1) d (omega arith)

-- the last run with pieces tells the depth
pub depth_found : (rs : List Run) (place : ℕ) (d : Run) (n : ℕ) → 0 < place → place ≤ length rs → pieces (take place rs) ≡ pieces rs → 0 < (get_or rs (place - 1) d).count
    → n ≡ depth_of ((get_or rs (place - 1) d).symbol ∷ []) → n ≡ depth_of (pieces rs)
depth_found rs place d n some fits same long is =
    let r : Run = get_or rs (place - 1) d in
    is ∙ sym (depth_some r.count r.symbol (pieces (take (place - 1) rs)) long) ∙ ap depth_of (sym (pieces_push (take (place - 1) rs) r) ∙ ap pieces (sym (take_run rs place d some fits)) ∙ same)

-- a run without pieces is passed over
pub depth_less : (rs : List Run) (place : ℕ) (d : Run) → 0 < place → place ≤ length rs → pieces (take place rs) ≡ pieces rs → (get_or rs (place - 1) d).count ≤ 0 → pieces (take (place - 1) rs) ≡ pieces rs
depth_less rs place d some fits same none =
    let empty : (get_or rs (place - 1) d).count ≡ 0 = omega arith in
    sym (run_nothing (take (place - 1) rs) (get_or rs (place - 1) d) empty) ∙ ap pieces (sym (take_run rs place d some fits)) ∙ same

-- without runs nothing is to come
pub depth_none : (rs : List Run) (place : ℕ) → pieces (take place rs) ≡ pieces rs → place ≡ 0 → 0 ≡ depth_of (pieces rs)
unfolding pieces
depth_none rs place same none = ap depth_of (ap (λ (k : ℕ). pieces (take k rs)) (sym none) ∙ same)
