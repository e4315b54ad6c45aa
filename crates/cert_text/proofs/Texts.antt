-- Texts and lines: which bytes a certificate's text begins with, and the first refusal.
use Rattle.std.proofs.Common.{◌≡◌, ◌==◌, ℕ, List, [], ◌∷◌, ◌++◌, map, Bool, true, false, not, cond, Option, Some, None, refl, sym, ap, subst, ◌∙◌, append_assoc, append-nil}
use Rattle.std.specs.Option.{option_and_then}
use Rattle.std.specs.List.{AllByRecursion, join_with_byte, onto_first}
use Rattle.std.proofs.lemmas.List.Splits.{join_with_byte-slice_split}
use Rattle.cert_text.specs.declared.line.Line.{Line}
use Rattle.cert_text.specs.declared.symbol.Symbol.{Symbol}
use Rattle.cert_text.specs.Trees.{Plain}
use Rattle.cert_text.specs.Parts.{CertOf, unmark_cert}
use Rattle.cert_text.specs.CertText.{parts}
use Rattle.cert_text.specs.Lines.{LineInRange, cert_lines, ended, line_text, text_of}
use Rattle.cert_text.specs.CertText.{BeginsText, CertText, ended_lines, front, last, unfinished, with_ends}
use Rattle.cert_text.specs.Words.{line_of}
use Rattle.cert_text.specs.Grammar.{after, run, start}
use Rattle.cert_text.specs.Reading.{lead}
use Rattle.cert_text.proofs.Cuts.{free, parts_alone, parts_free}
use Rattle.cert_text.proofs.Read.{line_free, line_of-text}
use Rattle.cert_text.proofs.Spelled.{line_of-spelled}
use Rattle.cert_text.proofs.Whole.{begins-run, cert-run, run-begins, run-cert}

-- ---- bytes and their lines

-- these lines are without a line's end
abbrev pub Ends : List (List ℕ) → Type 0
Ends bs = AllByRecursion (λ b. free 10 b ≡ true) bs

-- what is false is not true
no : (b : Bool) → b ≡ false → not b ≡ true
no true e = cc
no false e = refl

-- no part holds the byte
pub parts_without : (byte : ℕ) (bytes : List ℕ) → AllByRecursion (λ p. free byte p ≡ true) (parts byte bytes)
unfolding parts
parts_without byte [] = (refl, tt)
parts_without byte (b ∷ bytes) = by (b == byte) refl (parts byte bytes) (parts_without byte bytes)
  where
    by : (t : Bool) → (b == byte) ≡ t → (ps : List (List ℕ)) → AllByRecursion (λ p. free byte p ≡ true) ps → AllByRecursion (λ p. free byte p ≡ true) (cond t ([] ∷ ps) (onto_first b ps))
    by true e ps h = (refl, h)
    by false e [] h = (rw e refl, tt)
    by false e (p ∷ ps) h = (rw e h.0, h.1)

-- parts joined are ended lines and the rest
joined : (p : List ℕ) (ps : List (List ℕ)) → join_with_byte 10 (p ∷ ps) ≡ with_ends (front (p ∷ ps)) ++ last (p ∷ ps)
joined p [] = refl
joined p (x ∷ ps) =
    ap (λ y. p ++ 10 ∷ y) (joined x ps) ∙ sym (append_assoc p (10 ∷ []) (with_ends (front (x ∷ ps)) ++ last (x ∷ ps))) ∙ sym (append_assoc (ended p) (with_ends (front (x ∷ ps))) (last (x ∷ ps)))

-- a front without a line's end
front_without : (ps : List (List ℕ)) → Ends ps → Ends (front ps)
front_without [] h = tt
front_without (x ∷ []) h = tt
front_without (x ∷ y ∷ ps) h = (h.0, front_without (y ∷ ps) h.1)

-- the last part without a line's end
last_without : (ps : List (List ℕ)) → Ends ps → free 10 (last ps) ≡ true
last_without [] h = refl
last_without (x ∷ []) h = h.0
last_without (x ∷ y ∷ ps) h = last_without (y ∷ ps) h.1

-- bytes are their ended lines and what is unfinished
pub lines_and_rest : (bytes : List ℕ) → bytes ≡ with_ends (ended_lines bytes) ++ unfinished bytes
unfolding parts
lines_and_rest bytes = sym (join_with_byte-slice_split 10 bytes) ∙ by (parts 10 bytes)
  where
    by : (ps : List (List ℕ)) → join_with_byte 10 ps ≡ with_ends (front ps) ++ last ps
    by [] = refl
    by (p ∷ ps) = joined p ps

-- ended lines are without a line's end
pub ended_free : (bytes : List ℕ) → Ends (ended_lines bytes)
ended_free bytes = front_without (parts 10 bytes) (parts_without 10 bytes)

-- ended lines and a rest are cut into them
parts_of_lines : (bs : List (List ℕ)) (rest : List ℕ) → Ends bs → free 10 rest ≡ true → parts 10 (with_ends bs ++ rest) ≡ bs ++ rest ∷ []
parts_of_lines [] rest h e = parts_alone 10 rest e
parts_of_lines (b ∷ bs) rest h e =
    ap (parts 10) (append_assoc (ended b) (with_ends bs) rest ∙ append_assoc b (10 ∷ []) (with_ends bs ++ rest)) ∙ parts_free 10 b (with_ends bs ++ rest) h.0 ∙ ap (λ x. b ∷ x) (parts_of_lines bs rest h.1 e)

-- all parts but one more
front_push : (bs : List (List ℕ)) (x : List ℕ) → front (bs ++ x ∷ []) ≡ bs
front_push [] x = refl
front_push (b ∷ []) x = refl
front_push (b ∷ c ∷ bs) x = ap (λ y. b ∷ y) (front_push (c ∷ bs) x)

-- the part that is one more
last_push : (bs : List (List ℕ)) (x : List ℕ) → last (bs ++ x ∷ []) ≡ x
last_push [] x = refl
last_push (b ∷ []) x = refl
last_push (b ∷ c ∷ bs) x = last_push (c ∷ bs) x

-- lines and what follows them are cut into them
pub ended_lines-of : (bs : List (List ℕ)) (rest : List ℕ) → Ends bs → free 10 rest ≡ true → ended_lines (with_ends bs ++ rest) ≡ bs
ended_lines-of bs rest h e = ap front (parts_of_lines bs rest h e) ∙ front_push bs rest

-- the rest after ended lines
pub unfinished-of : (bs : List (List ℕ)) (rest : List ℕ) → Ends bs → free 10 rest ≡ true → unfinished (with_ends bs ++ rest) ≡ rest
unfinished-of bs rest h e = ap last (parts_of_lines bs rest h e) ∙ last_push bs rest

-- ---- lines of bytes and lines

-- the bytes of joined lines
pub text_append : (a b : List Line) → text_of (a ++ b) ≡ text_of a ++ text_of b
text_append [] b = refl
text_append (l ∷ a) b = ap (λ x. ended (line_text l) ++ x) (text_append a b) ∙ sym (append_assoc (ended (line_text l)) (text_of a) (text_of b))

-- the bytes of lines are ended lines
text_ends : (ls : List Line) → text_of ls ≡ with_ends (map line_text ls)
text_ends [] = refl
text_ends (l ∷ ls) = ap (λ x. ended (line_text l) ++ x) (text_ends ls)

-- the bytes of lines in range are without a line's end
texts_free : (ls : List Line) → AllByRecursion LineInRange ls → Ends (map line_text ls)
texts_free [] h = tt
texts_free (l ∷ ls) h = (line_free l h.0, texts_free ls h.1)

-- a front of lines whose bytes these are
record Fronted (bs : List (List ℕ)) (ls : List Line) (rest : List ℕ) : Type 0 where
  lines : List Line
  others : List Line
  is : ls ≡ lines ++ others
  bytes : map line_text lines ≡ bs
  left : rest ≡ text_of others

-- equal texts have equal first lines and rests
one_less : (b : List ℕ) (x y : List ℕ) (l : List ℕ) → free 10 b ≡ true → free 10 l ≡ true → b ++ 10 ∷ x ≡ l ++ 10 ∷ y → (b ≡ l) × (x ≡ y)
unfolding parts
one_less b x y l e f same =
    let cuts : b ∷ parts 10 x ≡ l ∷ parts 10 y = sym (parts_free 10 b x e) ∙ ap (parts 10) same ∙ parts_free 10 l y f in
    let heads : b ≡ l = cc in
    let tails : parts 10 x ≡ parts 10 y = cc in
    (heads, sym (join_with_byte-slice_split 10 x) ∙ ap (join_with_byte 10) tails ∙ join_with_byte-slice_split 10 y)

-- a text with a line is not empty
never : (b x : List ℕ) → b ++ 10 ∷ x ≡ [] → ⊥
never [] x e = absurd (let h : 10 ∷ x ≡ [] = e in cc)
never (c ∷ b) x e = absurd (let h : c ∷ (b ++ 10 ∷ x) ≡ [] = e in cc)

-- ended lines at the front of the bytes of lines are those of a front of them
fronted : (bs : List (List ℕ)) (ls : List Line) (rest : List ℕ) → Ends bs → AllByRecursion LineInRange ls → with_ends bs ++ rest ≡ text_of ls → Fronted bs ls rest
fronted [] ls rest h small e = record { lines = []; others = ls; is = refl; bytes = refl; left = e }
fronted (b ∷ bs) [] rest h small e =
    absurd (never b (with_ends bs ++ rest) (sym (append_assoc b (10 ∷ []) (with_ends bs ++ rest)) ∙ sym (append_assoc (ended b) (with_ends bs) rest) ∙ e))
fronted (b ∷ bs) (l ∷ ls) rest h small e =
    let both = one_less b (with_ends bs ++ rest) (text_of ls) (line_text l) h.0 (line_free l small.0)
    (sym (append_assoc b (10 ∷ []) (with_ends bs ++ rest)) ∙ sym (append_assoc (ended b) (with_ends bs) rest) ∙ e ∙ append_assoc (line_text l) (10 ∷ []) (text_of ls)) in
    let more = fronted bs ls rest h.1 small.1 both.1 in
    record {
      lines = l ∷ more.lines;
      others = more.others;
      is = ap (λ x. l ∷ x) more.is;
      bytes = let head = sym both.0 in let tail = more.bytes in cc (head, tail);
      left = more.left;
    }

-- lines in range lead where their bytes do
pub lead-run : (ss : List Symbol) (ls : List Line) → AllByRecursion LineInRange ls → lead ss (map line_text ls) ≡ run ss ls
unfolding lead run
lead-run ss [] small = refl
lead-run ss (l ∷ ls) small = ap (λ o. option_and_then (λ next. lead next (map line_text ls)) (option_and_then (λ l. after ss l) o)) (line_of-text l small.0) ∙ by (after ss l) (λ next. lead-run next ls small.1)
  where
    by : (o : Option (List Symbol)) → ((next : List Symbol) → lead next (map line_text ls) ≡ run next ls) → option_and_then (λ next. lead next (map line_text ls)) o ≡ option_and_then (λ next. run next ls) o
    by None same = refl
    by (Some next) same = same next

-- bytes that lead somewhere are those of lines
pub record Said (ss next : List Symbol) (bs : List (List ℕ)) : Type 0 where
  pub lines : List Line
  pub bytes : map line_text lines ≡ bs
  pub small : AllByRecursion LineInRange lines
  pub runs : run ss lines ≡ Some next

-- bytes that lead on say lines that do
pub lead_said : (ss next : List Symbol) (bs : List (List ℕ)) → lead ss bs ≡ Some next → Said ss next bs
unfolding lead run
lead_said ss next [] e = record { lines = []; bytes = refl; small = tt; runs = e }
lead_said ss next (b ∷ bs) e = by (line_of b) refl (λ x. lead_said x next bs) e
  where
    then : (l : Line) → line_of b ≡ Some l → ((x : List Symbol) → lead x bs ≡ Some next → Said x next bs) → (o : Option (List Symbol)) → after ss l ≡ o → option_and_then (λ x. lead x bs) o ≡ Some next → Said ss next (b ∷ bs)
    then l said further None is e = absurd (let none : None ≡ Some next = e in cc)
    then l said further (Some x) is e =
        let spelled = line_of-spelled b l said in
        let more = further x e in
        record {
          lines = l ∷ more.lines;
          bytes = let head = spelled.0 in let tail = more.bytes in cc (head, tail);
          small = (spelled.1, more.small);
          runs = ap (option_and_then (λ y. run y more.lines)) is ∙ more.runs;
        }

    by : (o : Option Line) → line_of b ≡ o → ((x : List Symbol) → lead x bs ≡ Some next → Said x next bs) → option_and_then (λ x. lead x bs) (option_and_then (λ l. after ss l) o) ≡ Some next → Said ss next (b ∷ bs)
    by None said further e = absurd (let none : None ≡ Some next = e in cc)
    by (Some l) said further e = then l said further (after ss l) refl e

-- ---- the law of texts

-- lines that begin a text lead on
pub begins-lead : (bs : List (List ℕ)) → Ends bs → BeginsText (with_ends bs) → (next : List Symbol) × (lead start bs ≡ Some next)
begins-lead bs h b =
    let f = fronted bs (cert_lines b.marked) b.rest h b.in_range.numbers (sym b.text) in
    let r = begins-run f.lines (record { marked = b.marked; rest = f.others; in_range = b.in_range; lines = f.is }) in
    let small = front_small f.lines f.others (subst (AllByRecursion LineInRange) f.is b.in_range.numbers) in
    (r.0, ap (lead start) (sym f.bytes) ∙ lead-run start f.lines small ∙ r.1)
  where
    front_small : (xs ys : List Line) → AllByRecursion LineInRange (xs ++ ys) → AllByRecursion LineInRange xs
    front_small [] ys h = tt
    front_small (x ∷ xs) ys h = (h.0, front_small xs ys h.1)

-- lines that lead on begin a text
pub lead-begins : (bs : List (List ℕ)) (next : List Symbol) → lead start bs ≡ Some next → BeginsText (with_ends bs)
lead-begins bs next e =
    let s = lead_said start next bs e in
    let b = run-begins s.lines next s.small s.runs in
    record { marked = b.marked; rest = text_of b.rest; in_range = b.in_range; text = ap text_of b.lines ∙ text_append s.lines b.rest ∙ ap (λ x. x ++ text_of b.rest) (text_ends s.lines ∙ ap with_ends s.bytes) }

-- lines that lead to the end are a text
pub lead-cert : (bs : List (List ℕ)) → lead start bs ≡ Some [] → (cert : CertOf Plain) × CertText (with_ends bs) cert
lead-cert bs e =
    let s = lead_said start [] bs e in
    let c = run-cert s.lines s.runs in (
      unmark_cert c.marked,
      record {
        marked = c.marked;
        in_range = record { stands = c.stands; numbers = subst (AllByRecursion LineInRange) (sym c.lines) s.small };
        unmarked = refl;
        text = ap text_of c.lines ∙ text_ends s.lines ∙ ap with_ends s.bytes;
      },
    )

-- a certificate's text is lines that lead to the end, and nothing after them
pub cert-lead : (bytes : List ℕ) (cert : CertOf Plain) → CertText bytes cert → (lead start (ended_lines bytes) ≡ Some []) × (unfinished bytes ≡ [])
cert-lead bytes cert c =
    let lines = map line_text (cert_lines c.marked) in
    let is : with_ends lines ++ [] ≡ bytes = append-nil (with_ends lines) ∙ sym (text_ends (cert_lines c.marked)) ∙ c.text in
    let ends = texts_free (cert_lines c.marked) c.in_range.numbers in (
      ap (λ x. lead start (ended_lines x)) (sym is) ∙ ap (lead start) (ended_lines-of lines [] ends refl) ∙ lead-run start (cert_lines c.marked) c.in_range.numbers ∙ cert-run c.marked c.in_range.stands,
      ap unfinished (sym is) ∙ unfinished-of lines [] ends refl,
    )

-- the lines of a certificate's text
pub cert-lines : (bytes : List ℕ) (cert : CertOf Plain) (c : CertText bytes cert) → ended_lines bytes ≡ map line_text (cert_lines c.marked)
cert-lines bytes cert c =
    let lines = map line_text (cert_lines c.marked) in
    let is : with_ends lines ++ [] ≡ bytes = append-nil (with_ends lines) ∙ sym (text_ends (cert_lines c.marked)) ∙ c.text in
    ap ended_lines (sym is) ∙ ended_lines-of lines [] (texts_free (cert_lines c.marked) c.in_range.numbers) refl
