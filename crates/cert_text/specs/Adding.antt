-- What the writer adds.
use Rattle.std.specs.Prelude.{◌≡◌, ⊤, ◌<◌, ◌^◌, ℕ, zero, suc, List, [], ◌∷◌, ◌++◌, Option, None, Some, decimal}
use Rattle.std.specs.List.{AllByRecursion, flat_map}
use Rattle.response_test.specs.declared.evidence.Evidence.{Evidence}
use Rattle.response_test.specs.declared.evidence.Evidence.TheVariants as evidence
use Rattle.cert_text.specs.declared.line.Line.{Line}
use Rattle.cert_text.specs.declared.line.Line.TheVariants as line
use Rattle.cert_text.specs.Trees.{Plain}
use Rattle.cert_text.specs.CertEvents.{tree_events}
use Rattle.cert_text.specs.Lines.{AreNumbers, lines_of, text_of}
use Rattle.cert_text.specs.Written.{with_marks}

-- numbers, each after a space
abbrev pub numbers_text : List ℕ → List ℕ
numbers_text ns = flat_map (λ n. 32 ∷ decimal n) ns

-- the numbers of evidence are below 2 ^ 64
abbrev pub EvidenceNumbers : Evidence → Type 0
EvidenceNumbers evidence.Over = ⊤
EvidenceNumbers (evidence.Long b) = AreNumbers b
EvidenceNumbers (evidence.Late q b w) = (q < 2 ^ 64) × AreNumbers b × AreNumbers w

-- the numbers of a line are those of its types
abbrev pub HasNumbersOfTypes : Line → Type 0
HasNumbersOfTypes line.FirstLine = ⊤
HasNumbersOfTypes (line.KindLine k) = ⊤
HasNumbersOfTypes (line.FrameWords f) = (f.busy < 2 ^ 64) × AreNumbers f.queue
HasNumbersOfTypes (line.LemmaWords sender value) = value < 2 ^ 128
HasNumbersOfTypes line.MainLine = ⊤
HasNumbersOfTypes (line.InnerLine n) = ⊤
HasNumbersOfTypes line.BoundLine = ⊤
HasNumbersOfTypes line.OpenLine = ⊤
HasNumbersOfTypes (line.FailLine n) = ⊤
HasNumbersOfTypes (line.AgainstLine label e) = EvidenceNumbers e
HasNumbersOfTypes line.ShardLine = ⊤
HasNumbersOfTypes line.JoinLine = ⊤
HasNumbersOfTypes line.EndLine = ⊤

-- these lines were added to the bytes
pub record Adds (before now : List ℕ) (lines : List Line) : Type 0 where
  pub text : now ≡ before ++ text_of lines
  pub numbers : AllByRecursion HasNumbersOfTypes lines

-- the lines of a tree, with these marks
abbrev pub tree_lines : Option ℕ → Plain → List Line
tree_lines marks t = lines_of (tree_events (with_marks marks t))

-- the line before an inner node that is marked here
abbrev pub opening : Option ℕ → List Line
opening None = []
opening (Some zero) = line.ShardLine ∷ []
opening (Some (suc n)) = []

-- the line after it
abbrev pub closing : Option ℕ → List Line
closing None = []
closing (Some zero) = line.JoinLine ∷ []
closing (Some (suc n)) = []
