-- The words of a line in range say that line, and hold neither a space nor a line's end.
use Rattle.std.proofs.Common.{◌≡◌, ◌<◌, ◌≤◌, ◌^◌, ℕ, List, [], ◌∷◌, ◌++◌, length, map, codes, decimal, Bool, true, false, Some, None, refl, sym, ap, ◌∙◌, arith}
use Rattle.std.specs.List.{AllByRecursion, join_with_byte}
use Rattle.std.specs.Str.{bytes_eq}
use Rattle.std.proofs.lemmas.Bool.{le-leb}
use Rattle.std.proofs.lemmas.List.{length-map}
use Rattle.std.proofs.lemmas.Slice.Eq.{bytes_eq-Decides}
use Rattle.csv_table.proofs.Decimals.{decimal_of-decimal}
use Rattle.response_test.specs.declared.evidence.Evidence.{Evidence}
use Rattle.response_test.specs.declared.evidence.Evidence.TheVariants as evidence
use Rattle.cert_text.specs.declared.parts.Kind.{Kind}
use Rattle.cert_text.specs.declared.parts.Kind.TheVariants.{KindPlaced, KindTimed, KindBetween, KindBest, KindNoSolution}
use Rattle.cert_text.specs.declared.line.Line.{Line}
use Rattle.cert_text.specs.declared.line.Line.TheVariants as line
use Rattle.cert_text.specs.CertText.{parts}
use Rattle.cert_text.specs.Lines.{AreNumbers, EvidenceInRange, LineInRange, evidence_words, kind_name, line_text, line_words}
use Rattle.cert_text.specs.Words.{before_slash, line_of, number_of, numbers_of, some_numbers, words_said}
use Rattle.cert_text.proofs.Cuts.{all_append, digits_free, free, joined_free, parts_joined}
use Rattle.cert_text.proofs.Wide.{digits_of_decimal, wide_back}

-- ---- numbers

-- a number is said by its decimal
pub number_back : (n : ℕ) → n < 2 ^ 64 → number_of (decimal n) ≡ Some n
number_back n small = decimal_of-decimal 0 18446744073709551615 n (omega arith) (omega arith) (omega arith)

-- so are numbers
numbers_back : (ns : List ℕ) → AreNumbers ns → numbers_of (map decimal ns) ≡ Some ns
numbers_back [] small = refl
numbers_back (n ∷ ns) small = rw (number_back n small.0, numbers_back ns small.1) refl

-- so are numbers of which there is one at least
some_back : (ns : List ℕ) → 1 ≤ length ns → AreNumbers ns → some_numbers (map decimal ns) ≡ Some ns
some_back ns some small = rw (length-map, le-leb _ _ some) (numbers_back ns small)

-- a number is no slash
pub not_slash : (n : ℕ) → n < 2 ^ 64 → bytes_eq (decimal n) (codes "/") ≡ false
not_slash n small = by (bytes_eq (decimal n) (codes "/")) refl
  where
    by : (b : Bool) → bytes_eq (decimal n) (codes "/") ≡ b → b ≡ false
    by false e = refl
    by true e =
        let same : decimal n ≡ codes "/" = (bytes_eq-Decides (decimal n) (codes "/")).0 e in
        let none : None ≡ Some n = ap number_of (sym same) ∙ number_back n small in
        absurd (cc (none))

-- numbers before a slash
slash_back : (b w : List ℕ) → AreNumbers b → before_slash (map decimal b ++ (codes "/" ∷ map decimal w)) ≡ Some (b, map decimal w)
slash_back [] w small = refl
slash_back (n ∷ b) w small = rw (not_slash n small.0, number_back n small.0, slash_back b w small.1) refl

-- ---- each line

-- the words of evidence say it
evidence_back : (label : ℕ) (e : Evidence) → label ≤ 127 → EvidenceInRange e → words_said (evidence_words label e) ≡ Some (line.AgainstLine label e)
evidence_back label evidence.Over small range = rw (decimal_of-decimal 0 127 label (omega arith) (omega arith) small) refl
evidence_back label (evidence.Long b) small range = rw (decimal_of-decimal 0 127 label (omega arith) (omega arith) small, some_back b range.0 range.1) refl
evidence_back label (evidence.Late q b w) small range =
    rw (decimal_of-decimal 0 127 label (omega arith) (omega arith) small, number_back q range.0, slash_back b w range.2, le-leb _ _ range.1, some_back w range.3 range.4) refl

-- there is a number at least
frame_back : (busy : ℕ) (queue : List ℕ) → busy < 2 ^ 64 → 1 ≤ length queue → length queue ≤ 256 → AreNumbers queue
    → words_said (codes "frame" ∷ map decimal (busy ∷ queue)) ≡ Some (line.FrameWords (record { busy = busy; queue = queue }))
frame_back busy queue b some few small = rw (number_back busy b, some_back queue some small, le-leb _ _ few) refl

-- the words of a line in range say it
words_back : (l : Line) → LineInRange l → words_said (line_words l) ≡ Some l
unfolding line_words
words_back line.FirstLine range = refl
words_back (line.KindLine KindPlaced) range = refl
words_back (line.KindLine KindTimed) range = refl
words_back (line.KindLine KindBetween) range = refl
words_back (line.KindLine KindBest) range = refl
words_back (line.KindLine KindNoSolution) range = refl
words_back (line.FrameWords f) range = frame_back f.busy f.queue range.0 range.1 range.2 range.3
words_back (line.LemmaWords sender value) range = rw (decimal_of-decimal 0 255 sender (omega arith) (omega arith) range.0, wide_back value range.1) refl
words_back line.MainLine range = refl
words_back (line.InnerLine n) range = rw (decimal_of-decimal 1 128 n (omega arith) range.0 range.1) refl
words_back line.BoundLine range = refl
words_back line.OpenLine range = refl
words_back (line.FailLine n) range = rw (decimal_of-decimal 0 128 n (omega arith) (omega arith) range) refl
words_back (line.AgainstLine label e) range = evidence_back label e range.0 range.1
words_back line.ShardLine range = refl
words_back line.JoinLine range = refl
words_back line.EndLine range = refl

-- ---- no space and no line's end in a word

-- the word is without the byte
abbrev pub Clean : ℕ → List ℕ → Type 0
Clean byte w = free byte w ≡ true

-- a decimal is without a byte below its digits
pub decimal_clean : (byte n : ℕ) → byte < 47 → n < 2 ^ 128 → Clean byte (decimal n)
decimal_clean byte n low small = digits_free byte (decimal n) (omega arith) (digits_of_decimal n small)

-- so are decimals
numbers_clean : (byte : ℕ) (ns : List ℕ) → byte < 47 → AreNumbers ns → AllByRecursion (Clean byte) (map decimal ns)
numbers_clean byte [] low small = tt
numbers_clean byte (n ∷ ns) low small = (decimal_clean byte n low (omega (arith, small.0)), numbers_clean byte ns low small.1)

-- the words that stand in lines besides numbers are without the byte
record Names (byte : ℕ) : Type 0 where
  canpack : Clean byte (codes "canpack")
  certificate : Clean byte (codes "certificate")
  first : Clean byte (codes "1")
  kind : Clean byte (codes "kind")
  placed : Clean byte (codes "placed")
  timed : Clean byte (codes "timed")
  between : Clean byte (codes "open")
  best : Clean byte (codes "best")
  none : Clean byte (codes "none")
  frame : Clean byte (codes "frame")
  lemmas : Clean byte (codes "lemma")
  main : Clean byte (codes "main")
  i : Clean byte (codes "i")
  b : Clean byte (codes "b")
  o : Clean byte (codes "o")
  f : Clean byte (codes "f")
  over : Clean byte (codes "over")
  long : Clean byte (codes "long")
  late : Clean byte (codes "late")
  slash : Clean byte (codes "/")
  shard : Clean byte (codes "shard")
  join : Clean byte (codes "join")
  end : Clean byte (codes "end")

-- no word has a space
no_space : Names 32
no_space = record {
  canpack = refl;
  certificate = refl;
  first = refl;
  kind = refl;
  placed = refl;
  timed = refl;
  between = refl;
  best = refl;
  none = refl;
  frame = refl;
  lemmas = refl;
  main = refl;
  i = refl;
  b = refl;
  o = refl;
  f = refl;
  over = refl;
  long = refl;
  late = refl;
  slash = refl;
  shard = refl;
  join = refl;
  end = refl;
}

-- no word has a line's end
no_end : Names 10
no_end = record {
  canpack = refl;
  certificate = refl;
  first = refl;
  kind = refl;
  placed = refl;
  timed = refl;
  between = refl;
  best = refl;
  none = refl;
  frame = refl;
  lemmas = refl;
  main = refl;
  i = refl;
  b = refl;
  o = refl;
  f = refl;
  over = refl;
  long = refl;
  late = refl;
  slash = refl;
  shard = refl;
  join = refl;
  end = refl;
}

-- nor has the name of a kind
kind_clean : (byte : ℕ) → Names byte → (k : Kind) → Clean byte (kind_name k)
kind_clean byte names KindPlaced = names.placed
kind_clean byte names KindTimed = names.timed
kind_clean byte names KindBetween = names.between
kind_clean byte names KindBest = names.best
kind_clean byte names KindNoSolution = names.none

-- nor have the words of evidence
evidence_clean : (byte label : ℕ) (e : Evidence) → byte < 47 → Names byte → label ≤ 127 → EvidenceInRange e → AllByRecursion (Clean byte) (evidence_words label e)
evidence_clean byte label evidence.Over low names small range = (names.over, (decimal_clean byte label low (omega arith), tt))
evidence_clean byte label (evidence.Long b) low names small range = (names.long, (decimal_clean byte label low (omega arith), numbers_clean byte b low range.1))
evidence_clean byte label (evidence.Late q b w) low names small range = (
  names.late,
  (
    decimal_clean byte label low (omega arith),
    (
      decimal_clean byte q low (omega (arith, range.0)),
      all_append (Clean byte) (map decimal b) (codes "/" ∷ map decimal w) (numbers_clean byte b low range.2) (names.slash, numbers_clean byte w low range.4),
    ),
  ),
)

-- nor have the words of a line
words_clean : (byte : ℕ) (l : Line) → byte < 47 → Names byte → LineInRange l → AllByRecursion (Clean byte) (line_words l)
unfolding line_words
words_clean byte line.FirstLine low names range = (names.canpack, (names.certificate, (names.first, tt)))
words_clean byte (line.KindLine k) low names range = (names.kind, (kind_clean byte names k, tt))
words_clean byte (line.FrameWords f) low names range = (names.frame, (decimal_clean byte f.busy low (omega (arith, range.0)), numbers_clean byte f.queue low range.3))
words_clean byte (line.LemmaWords sender value) low names range = (names.lemmas, (decimal_clean byte sender low (omega (arith, range.0)), (decimal_clean byte value low range.1, tt)))
words_clean byte line.MainLine low names range = (names.main, tt)
words_clean byte (line.InnerLine n) low names range = (names.i, (decimal_clean byte n low (omega (arith, range.1)), tt))
words_clean byte line.BoundLine low names range = (names.b, tt)
words_clean byte line.OpenLine low names range = (names.o, tt)
words_clean byte (line.FailLine n) low names range = (names.f, (decimal_clean byte n low (omega (arith, range)), tt))
words_clean byte (line.AgainstLine label e) low names range = evidence_clean byte label e low names range.0 range.1
words_clean byte line.ShardLine low names range = (names.shard, tt)
words_clean byte line.JoinLine low names range = (names.join, tt)
words_clean byte line.EndLine low names range = (names.end, tt)

-- words that say a line are cut as they were
cut_back : (ws : List (List ℕ)) (l : Line) → AllByRecursion (Clean 32) ws → words_said ws ≡ Some l → parts 32 (join_with_byte 32 ws) ≡ ws
cut_back [] l clean e = absurd (let none : None ≡ Some l = e in cc)
cut_back (w ∷ ws) l clean e = parts_joined 32 w ws clean

-- a line in range is read back
pub line_of-text : (l : Line) → LineInRange l → line_of (line_text l) ≡ Some l
unfolding line_of
line_of-text l range =
    let back = words_back l range in
    ap words_said (cut_back (line_words l) l (words_clean 32 l (omega arith) no_space range) back) ∙ back

-- words without a line's end, joined by spaces, are without it
free_joined : (ws : List (List ℕ)) → AllByRecursion (Clean 10) ws → free 10 (join_with_byte 32 ws) ≡ true
free_joined [] clean = refl
free_joined (w ∷ ws) clean = joined_free 10 32 w ws refl clean

-- its bytes hold no line's end
pub line_free : (l : Line) → LineInRange l → free 10 (line_text l) ≡ true
line_free l range = free_joined (line_words l) (words_clean 10 l (omega arith) no_end range)
