-- What may stand after lines: the pieces that are still to come, the next one first.
use Rattle.std.specs.Prelude.{ℕ, zero, suc, List, [], ◌∷◌, ◌++◌, Bool, true, false, Option, Some, None, nat_lt, if◌then◌else◌, replicate}
use Rattle.std.specs.Option.{option_and_then, option_map}
use Rattle.cert_text.specs.declared.parts.Kind.{Kind}
use Rattle.cert_text.specs.declared.parts.Kind.TheVariants.{KindPlaced, KindTimed, KindBetween, KindBest, KindNoSolution}
use Rattle.cert_text.specs.declared.line.Line.{Line}
use Rattle.cert_text.specs.declared.line.Line.TheVariants as line
use Rattle.cert_text.specs.declared.symbol.Symbol.{Symbol}
use Rattle.cert_text.specs.declared.symbol.Symbol.TheVariants as symbol

-- what follows the line of a kind
abbrev pub body : Kind → Symbol
body KindPlaced = symbol.End
body KindTimed = symbol.Frames
body KindBetween = symbol.Parts
body KindBest = symbol.Parts
body KindNoSolution = symbol.Parts

-- subtrees, where so many inner nodes stand above
abbrev pub subtrees : Bool → ℕ → ℕ → Option (List Symbol)
subtrees marks depth n =
    if nat_lt depth 128 then Some (replicate n (symbol.TreeAt marks (suc depth))) else None

-- the rest of a marked tree, where marks may stand
abbrev pub marked_tree : Bool → ℕ → Option (List Symbol)
marked_tree true depth = Some (symbol.TreeAt false depth ∷ symbol.Join depth ∷ [])
marked_tree false depth = None

-- what is to come of a piece after its first line, if this line can be its first
abbrev pub expand : Symbol → Line → Option (List Symbol)
expand symbol.First line.FirstLine = Some []
expand symbol.FromKind (line.KindLine k) = Some (body k ∷ [])
expand symbol.Frames (line.FrameWords f) = Some (symbol.Frames ∷ [])
expand symbol.Frames line.EndLine = Some []
expand symbol.Parts (line.FrameWords f) = Some (symbol.Parts ∷ [])
expand symbol.Parts (line.LemmaWords sender value) = Some (symbol.TreeAt true zero ∷ symbol.Lemmas ∷ [])
expand symbol.Parts line.MainLine = Some (symbol.TreeAt true zero ∷ symbol.End ∷ [])
expand symbol.Lemmas (line.LemmaWords sender value) = Some (symbol.TreeAt true zero ∷ symbol.Lemmas ∷ [])
expand symbol.Lemmas line.MainLine = Some (symbol.TreeAt true zero ∷ symbol.End ∷ [])
expand (symbol.TreeAt marks depth) (line.InnerLine n) = subtrees marks depth n
expand (symbol.TreeAt marks depth) line.BoundLine = Some []
expand (symbol.TreeAt marks depth) line.OpenLine = Some []
expand (symbol.TreeAt marks depth) (line.FailLine n) = Some (replicate n symbol.Against)
expand (symbol.TreeAt marks depth) line.ShardLine = marked_tree marks depth
expand symbol.Against (line.AgainstLine label e) = Some []
expand (symbol.Join depth) line.JoinLine = Some []
expand symbol.End line.EndLine = Some []
expand s l = None

-- what is to come after one more line, if it can stand
abbrev pub after : List Symbol → Line → Option (List Symbol)
after [] l = None
after (s ∷ ss) l = option_map (λ more. more ++ ss) (expand s l)

-- what is to come after lines
unfoldable pub run : List Symbol → List Line → Option (List Symbol)
run ss [] = Some ss
run ss (l ∷ ls) = option_and_then (λ next. run next ls) (after ss l)

-- a whole certificate is to come
abbrev pub start : List Symbol
start = symbol.First ∷ symbol.FromKind ∷ []
