-- The pieces to come, as the reader holds them: runs of equal pieces, the next one last.
use Rattle.std.specs.Prelude.{List, [], ◌∷◌, ◌++◌, replicate}
use Rattle.cert_text.specs.declared.symbol.Symbol.{Symbol}
use Rattle.cert_text.specs.declared.position.Run.{Run}
use Rattle.cert_text.specs.declared.position.Next.{Next}

-- the pieces of a run
abbrev pub of_run : Run → List Symbol
of_run r = replicate r.count r.symbol

-- the pieces of runs
unfoldable pub pieces : List Run → List Symbol
pieces [] = []
pieces (r ∷ rs) = pieces rs ++ of_run r

-- the pieces that follow a line
abbrev pub next_pieces : Next → List Symbol
next_pieces n = of_run n.first ++ of_run n.second
