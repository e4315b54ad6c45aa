-- Laws of reading on in a file.
use Rattle.std.proofs.Common.{◌≡◌, ◌==◌, ◌<◌, ◌≤◌, ◌+◌, ◌-◌, ◌^◌, ℕ, suc, Bool, true, false, not, List, [], ◌∷◌, ◌++◌, length, take, drop, Option, None, Some, IsSome, inl, inr, refl, sym, ap, subst, ◌∙◌, append_assoc, append-nil, length-append, length-drop, nat_lt, arith, ◌&&◌}
use Rattle.std.specs.List.{AllByRecursion, join_with_byte}
use Rattle.std.proofs.Math.Seq.{drop-append-add, drop-append_seam, take-append_seam}
use Rattle.std.proofs.lemmas.Bool.{ltb-false, ltb-true}
use Rattle.std.proofs.lemmas.List.{drop-drop, length-take-le, take-append-drop}
use Rattle.std.proofs.lemmas.List.Folds.{list_all-append}
use Rattle.std.proofs.lemmas.List.Splits.{join_with_byte-slice_split}
use Rattle.pack_base.specs.Counts.{Rose, counted}
use Rattle.pack_base.specs.Outside.{Files, Later, ReadsAt, SameFaults, bytes_at}
use Rattle.pack_base.proofs.WholeFile.{later_refl, later_trans, quiet_trans, read_end}
use Rattle.cert_text.specs.declared.fault.FeedFault.{FeedFault}
use Rattle.cert_text.specs.declared.fault.FeedFault.TheVariants as fault
use Rattle.cert_text.specs.CertText.{parts}
use Rattle.cert_text.specs.Sources.{Begins, Drains, Ends, Gave, Held, ReadOn, Reads, TakesHere, TakesLine, no_end}
use Rattle.cert_text.proofs.CutAt.{parts_some}
use Rattle.cert_text.proofs.Texts.{parts_without}

-- ---- one read

-- nothing is no cause
pub no_cause : (x : FeedFault) → None ≡ Some x → ⊥
no_cause x e = let h : None ≡ Some x = e in cc

-- a failed read is no file that is too large
pub not_large : Some fault.ReadFault ≡ Some fault.TooLarge → ⊥
not_large e = let h : Some fault.ReadFault ≡ Some fault.TooLarge = e in cc

-- a file that is too large is no failed read
pub not_failed : Some fault.TooLarge ≡ Some fault.ReadFault → ⊥
not_failed e = let h : Some fault.TooLarge ≡ Some fault.ReadFault = e in cc

-- a front with the next bytes of the file behind it is a front
pub front_more : (bytes buffer file : List ℕ) (n : ℕ) → Begins bytes file → ReadsAt file (length bytes) n buffer → Begins (bytes ++ take n buffer) file
front_more bytes buffer file n front reads =
    let rest : drop (length bytes) file ≡ front.0 = ap (drop (length bytes)) (sym front.1) ∙ drop-append_seam bytes front.0 in
    let read : take n buffer ≡ take n front.0 = reads.bytes ∙ ap (take n) rest in (
      drop n front.0,
      append_assoc bytes (take n buffer) (drop n front.0) ∙ ap (λ (x : List ℕ). bytes ++ (x ++ drop n front.0)) read ∙ ap (λ (x : List ℕ). bytes ++ x) (take-append-drop n front.0) ∙ front.1,
    )

-- a list of length 0
no_bytes : (xs : List ℕ) → length xs ≡ 0 → xs ≡ []
no_bytes [] e = refl
no_bytes (x ∷ xs) e = absurd (omega arith)

-- a front that reaches the end is the file
pub front_ends : (bytes file : List ℕ) → Begins bytes file → length file ≤ length bytes → bytes ++ [] ≡ file
front_ends bytes file front ends =
    let size : length file ≡ length bytes + length front.0 = ap length (sym front.1) ∙ length-append bytes front.0 in
    ap (λ (x : List ℕ). bytes ++ x) (sym (no_bytes front.0 (omega arith))) ∙ front.1

-- a count that was given n more
gave_once : (n before now : ℕ) → now ≡ counted before n → Gave n before now
gave_once n before now e = grind arith

-- a read that failed
pub reads_failed : {F : Type 0} (files : F → Files) (r w g : F → List ℕ → ℕ) (name : List ℕ) (at : ℕ) (old now : F)
    → at < 2 ^ 63 → files now ≡ files old → Later r w g old now → g now name ≡ g old name → Rose (r old name) (r now name)
    → Reads files r w g name at old now (Some fault.ReadFault) []
reads_failed files r w g name at old now small same later none rose = record {
  same = same;
  later = later;
  quiet = λ calm. absurd (calm refl);
  rose = λ e. rose;
  gave = inl (none ∙ omega arith);
  front = λ told bytes size begins. subst (λ (x : List ℕ). Begins x (bytes_at (files old) name)) (sym (append-nil bytes)) begins;
  large = λ e. absurd (not_large e);
  within = λ e. omega arith;
}

-- a read that gave bytes, which are too many or not
pub reads_given : {F : Type 0} (files : F → Files) (r w g : F → List ℕ → ℕ) (name : List ℕ) (at n : ℕ) (buffer : List ℕ) (old now : F) (why : Option FeedFault)
    → (why ≡ Some fault.ReadFault → ⊥) → (why ≡ Some fault.TooLarge → 2 ^ 63 ≤ at + n) → ((why ≡ Some fault.TooLarge → ⊥) → at + n < 2 ^ 63)
    → files now ≡ files old → Later r w g old now → SameFaults r w old now → g now name ≡ counted (g old name) n
    → (IsSome (files old) → ReadsAt (bytes_at (files old) name) at n buffer) → n ≤ length buffer
    → Reads files r w g name at old now why (take n buffer)
reads_given files r w g name at n buffer old now why fine large within same later quiet gave reads fits =
    let size : length (take n buffer) ≡ n = length-take-le n buffer fits in
    record {
      same = same;
      later = later;
      quiet = λ calm. quiet;
      rose = λ e. absurd (fine e);
      gave = subst (λ (k : ℕ). Gave k (g old name) (g now name)) (sym size) (gave_once n (g old name) (g now name) gave);
      front = λ told bytes long begins. front_more bytes buffer (bytes_at (files old) name) n begins (subst (λ (k : ℕ). ReadsAt (bytes_at (files old) name) k n buffer) (sym long) (reads told));
      large = λ e. let l : 2 ^ 63 ≤ at + n = large e in omega arith;
      within = λ e. let l : at + n < 2 ^ 63 = within e in omega arith;
    }

-- a read of nothing came at the end
pub ends_given : (files : Files) (name : List ℕ) (at n : ℕ) (buffer : List ℕ) → (IsSome files → ReadsAt (bytes_at files name) at n buffer) → n ≡ 0 → 0 < length buffer
    → (take n buffer ≡ []) × Ends files name at (take n buffer)
ends_given files name at n buffer reads none room =
    let empty : take n buffer ≡ [] = ap (λ (k : ℕ). take k buffer) none in (
      empty,
      λ told bytes size begins.
          let past : length (bytes_at files name) ≤ at = read_end (bytes_at files name) at n buffer (reads told) none room in
          ap (λ (x : List ℕ). bytes ++ x) empty ∙ front_ends bytes (bytes_at files name) begins (omega arith),
    )

-- what is read on is the next piece
pub read_on : (files : Files) (name : List ℕ) (old now : Held) (n : ℕ) (buffer : List ℕ) → (IsSome files → ReadsAt (bytes_at files name) old.count n buffer) → n ≤ length buffer → 0 < length buffer
    → now.count ≡ old.count + n → now.left ≡ take n buffer → ReadOn files name old now (take n buffer) (nat_lt 0 n)
read_on files name old now n buffer reads fits room count left =
    let size : length (take n buffer) ≡ n = length-take-le n buffer fits in
    record {
      count = count ∙ ap (λ (k : ℕ). old.count + k) (sym size);
      left = left;
      some = λ e. let long : 0 < n = ltb-true 0 n e in omega arith;
      none = λ e. let none : n ≤ 0 = ltb-false 0 n e in ends_given files name old.count n buffer reads (omega arith) room;
    }

-- ---- reads one after the other

-- before the first read
pub reads_none : {F : Type 0} (files : F → Files) (r w g : F → List ℕ → ℕ) (name : List ℕ) (at : ℕ) (here : F) → at < 2 ^ 63 → Reads files r w g name at here here None []
reads_none files r w g name at here small = record {
  same = refl;
  later = later_refl;
  quiet = λ calm. record { read = λ n. refl; write = λ n. refl };
  rose = λ e. absurd (no_cause fault.ReadFault e);
  gave = inl (omega arith);
  front = λ told bytes size begins. subst (λ (x : List ℕ). Begins x (bytes_at (files here) name)) (sym (append-nil bytes)) begins;
  large = λ e. absurd (no_cause fault.TooLarge e);
  within = λ e. omega arith;
}

-- counts that grew twice
gave_then : (m n a b c : ℕ) → Gave m a b → Gave n b c → b ≤ c → Gave (m + n) a c
gave_then m n a b c x y up = by x y
  where
    by : Gave m a b → Gave n b c → Gave (m + n) a c
    by (inl x) (inl y) = inl (omega (arith, x, y))
    by (inl x) (inr y) = inr y
    by (inr x) y = inr (omega (arith, x, up))

-- what reads twice reads both
pub reads_then : {F : Type 0} {files : F → Files} {r w g : F → List ℕ → ℕ} {name : List ℕ} {at there : ℕ} {a b c : F} {why : Option FeedFault} {m n : List ℕ}
    → Reads files r w g name at a b None m → Reads files r w g name there b c why n → there ≡ at + length m → Reads files r w g name at a c why (m ++ n)
reads_then {files = files} {r = r} {w = w} {g = g} {name = name} {at = at} {there = there} {a = a} {b = b} {c = c} {why = why} {m = m} {n = n} x y on = record {
  same = y.same ∙ x.same;
  later = later_trans x.later y.later;
  quiet = λ calm. quiet_trans (x.quiet (no_cause fault.ReadFault)) (y.quiet calm);
  rose = λ e.
      let up : Rose (r b name) (r c name) = y.rose e in
      let low : r a name ≤ r b name = x.later.read name in
      omega arith;
  gave = subst (λ (k : ℕ). Gave k (g a name) (g c name)) (sym (length-append m n)) (gave_then (length m) (length n) (g a name) (g b name) (g c name) x.gave y.gave (y.later.gave name));
  front = λ told bytes size begins.
      let at_b = subst (λ (f : Files). IsSome f → (bytes : List ℕ) → length bytes ≡ there → Begins bytes (bytes_at f name) → Begins (bytes ++ n) (bytes_at f name)) x.same y.front in
      subst (λ (z : List ℕ). Begins z (bytes_at (files a) name)) (append_assoc bytes m n) (at_b told (bytes ++ m) (length-append bytes m ∙ omega arith) (x.front told bytes size begins));
  large = λ e. let l : 2 ^ 63 ≤ there + length n = y.large e in omega (arith, length-append m n);
  within = λ e. let l : there + length n < 2 ^ 63 = y.within e in omega (arith, length-append m n);
}

-- the end after what was read before
pub ends_then : {F : Type 0} {files : F → Files} {r w g : F → List ℕ → ℕ} {name : List ℕ} {at : ℕ} {a b : F} {m : List ℕ} (there : ℕ) (n : List ℕ)
    → Reads files r w g name at a b None m → Ends (files b) name there n → there ≡ at + length m → Ends (files a) name at (m ++ n)
ends_then {files = files} {name = name} {at = at} {a = a} {m = m} there n x ends on = λ told bytes size begins.
    let at_b = subst (λ (f : Files). Ends f name there n) x.same ends in
    sym (append_assoc bytes m n) ∙ at_b told (bytes ++ m) (length-append bytes m ∙ omega arith) (x.front told bytes size begins)

-- ---- lines

-- a part before other parts
join_more : (x : List ℕ) (ps : List (List ℕ)) → 0 < length ps → join_with_byte 10 (x ∷ ps) ≡ x ++ 10 ∷ join_with_byte 10 ps
join_more x [] some = absurd (omega arith)
join_more x (p ∷ ps) some = refl

-- bytes cut at LF
pub cut_bytes : (left front after : List ℕ) → parts 10 left ≡ front ∷ parts 10 after → left ≡ front ++ 10 ∷ after
unfolding parts
cut_bytes left front after e =
    sym (join_with_byte-slice_split 10 left) ∙ ap (join_with_byte 10) e ∙ join_more front (parts 10 after) (parts_some 10 after)
    ∙ ap (λ (x : List ℕ). front ++ 10 ∷ x) (join_with_byte-slice_split 10 after)

-- the first part is without LF
pub cut_free : (left front : List ℕ) (ps : List (List ℕ)) → parts 10 left ≡ front ∷ ps → no_end front ≡ true
cut_free left front ps e = (subst (AllByRecursion (λ (p : List ℕ). no_end p ≡ true)) e (parts_without 10 left)).0

-- what is left of a piece after a line
pub cut_view : (piece front after : List ℕ) (from upto : ℕ) → from ≤ upto → upto ≤ length piece → take (upto - from) (drop from piece) ≡ front ++ 10 ∷ after
    → (take (upto - (upto - length after)) (drop (upto - length after) piece) ≡ after) × (upto ≡ from + (length front + 1) + length after)
cut_view piece front after from upto low high e =
    let rest : List ℕ = drop from piece in
    let tail : List ℕ = drop (upto - from) rest in
    let long : length rest ≡ length piece - from = length-drop from piece in
    let size : length (front ++ 10 ∷ after) ≡ upto - from = ap length (sym e) ∙ length-take-le (upto - from) rest (omega arith) in
    let sizes : length (front ++ 10 ∷ after) ≡ length front + suc (length after) = length-append front (10 ∷ after) in
    let is : rest ≡ front ++ 10 ∷ (after ++ tail) = sym (take-append-drop (upto - from) rest) ∙ ap (λ (x : List ℕ). x ++ tail) e ∙ append_assoc front (10 ∷ after) tail in
    let place : upto - length after ≡ from + (length front + 1) = omega arith in
    let there : drop (upto - length after) piece ≡ after ++ tail =
    ap (λ (k : ℕ). drop k piece) place ∙ sym (drop-drop (length front + 1) from piece) ∙ ap (drop (length front + 1)) is ∙ drop-append-add front (10 ∷ (after ++ tail)) 1 in
    let room : upto - (upto - length after) ≡ length after = omega arith in (
      ap (λ (k : ℕ). take k (drop (upto - length after) piece)) room ∙ ap (take (length after)) there ∙ take-append_seam after tail,
      omega arith,
    )

-- what is left of a piece without LF
pub here_none : (old now : Held) (left before line : List ℕ) → old.left ≡ left → now.count ≡ old.count → parts 10 left ≡ left ∷ [] → line ≡ before ++ left → TakesHere old now before line false
here_none old now left before line is count e text = record {
  front = left;
  text = text;
  free = cut_free left left [] e;
  count = count;
  found = λ f. absurd (let h : false ≡ true = f in cc);
  none = λ f. is;
}

-- what is left of a piece up to LF
pub here_found : (old now : Held) (piece front after before line : List ℕ) (from upto : ℕ) → old.left ≡ take (upto - from) (drop from piece) → now.left ≡ take (upto - (upto - length after)) (drop (upto - length after) piece)
    → now.count ≡ old.count → from ≤ upto → upto ≤ 65536 → length piece ≡ 65536 → parts 10 (take (upto - from) (drop from piece)) ≡ front ∷ parts 10 after → line ≡ before ++ front
    → TakesHere old now before line true
here_found old now piece front after before line from upto was is count low high room e text =
    let cut = cut_bytes (take (upto - from) (drop from piece)) front after e in
    let view = cut_view piece front after from upto low (omega arith) cut in
    let left : now.left ≡ after = is ∙ view.0 in
    record {
      front = front;
      text = text;
      free = cut_free (take (upto - from) (drop from piece)) front (parts 10 after) e;
      count = count;
      found = λ f. (was ∙ cut ∙ ap (λ (x : List ℕ). front ++ 10 ∷ x) (sym left), let size : length now.left ≡ length after = ap length left in omega (arith, view.1));
      none = λ f. absurd (let h : true ≡ false = f in cc);
    }

-- lines are read up to here: what was left and what was read are the line so far and what is left
pub record LineSoFar {F : Type 0} (files : F → Files) (r w g : F → List ℕ → ℕ) (name : List ℕ) (old now : Held) (a b : F) (line : List ℕ) : Type 0 where
  pub more : List ℕ
  pub reads : Reads files r w g name old.count a b None more
  pub count : now.count ≡ old.count + length more
  pub text : old.left ++ more ≡ line ++ now.left
  pub free : no_end line ≡ true

-- before the first byte of a line
pub line_none : {F : Type 0} (files : F → Files) (r w g : F → List ℕ → ℕ) (name : List ℕ) (old : Held) (here : F) (line : List ℕ) → old.count < 2 ^ 63 → line ≡ []
    → LineSoFar files r w g name old old here here line
line_none files r w g name old here line small none = record {
  more = [];
  reads = reads_none files r w g name old.count here small;
  count = omega arith;
  text = append-nil old.left ∙ ap (λ (x : List ℕ). x ++ old.left) (sym none);
  free = ap no_end none;
}

-- the number of bytes after two reads
two_reads : (first mid last : ℕ) (m n : List ℕ) → mid ≡ first + length m → last ≡ mid + length n → last ≡ first + length (m ++ n)
two_reads first mid last m n a b = omega (arith, a, b, length-append m n)

-- two that are true
both_true : (a b : Bool) → a ≡ true → b ≡ true → (a && b) ≡ true
both_true a b x y = rw (x, y) refl

-- a line without LF and more without
longer_free : (line front : List ℕ) → no_end line ≡ true → no_end front ≡ true → no_end (line ++ front) ≡ true
longer_free line front a b = list_all-append (λ (x : ℕ). not (x == 10)) line front ∙ both_true (no_end line) (no_end front) a b

-- a piece without LF was put behind the line, and another piece read
pub line_more : {F : Type 0} {files : F → Files} {r w g : F → List ℕ → ℕ} {name : List ℕ} {old now : Held} {a b : F} {line : List ℕ} (held next : Held) (c : F) (longer n : List ℕ)
    → LineSoFar files r w g name old now a b line → TakesHere now held line longer false → Reads files r w g name held.count b c None n → ReadOn (files b) name held next n true
    → LineSoFar files r w g name old next a c longer
line_more {old = old} {now = now} {line = line} held next c longer n s t x on = record {
  more = s.more ++ n;
  reads = reads_then s.reads x (t.count ∙ s.count);
  count = two_reads _ _ _ s.more n (t.count ∙ s.count) on.count;
  text =
      sym (append_assoc old.left s.more n) ∙ ap (λ (z : List ℕ). z ++ n) (s.text ∙ ap (λ (z : List ℕ). line ++ z) (t.none refl) ∙ sym t.text) ∙ ap (λ (z : List ℕ). longer ++ z) (sym on.left);
  free = ap no_end t.text ∙ longer_free line t.front s.free t.free;
}

-- a piece with LF ends the line
pub line_found : {F : Type 0} {files : F → Files} {r w g : F → List ℕ → ℕ} {name : List ℕ} {old now : Held} {a b : F} {line : List ℕ} (held : Held) (longer : List ℕ)
    → (s : LineSoFar files r w g name old now a b line) → TakesHere now held line longer true → TakesLine (files a) name old held s.more longer true
line_found {old = old} {line = line} held longer s t =
    let found = t.found refl in
    record {
      count = t.count ∙ s.count;
      free = ap no_end t.text ∙ longer_free line t.front s.free t.free;
      found = λ e. (
        s.text ∙ ap (λ (z : List ℕ). line ++ z) found.0 ∙ sym (append_assoc line t.front (10 ∷ held.left)) ∙ ap (λ (z : List ℕ). z ++ 10 ∷ held.left) (sym t.text),
        found.1,
      );
      none = λ e. absurd (let h : true ≡ false = e in cc);
    }

-- no LF up to the end
pub line_cut : {F : Type 0} {files : F → Files} {r w g : F → List ℕ → ℕ} {name : List ℕ} {old now : Held} {a b : F} {line : List ℕ} (held next : Held) (longer n : List ℕ)
    → (s : LineSoFar files r w g name old now a b line) → TakesHere now held line longer false → ReadOn (files b) name held next n false
    → TakesLine (files a) name old next (s.more ++ n) longer false
line_cut {old = old} {line = line} held next longer n s t x =
    let none = x.none refl in
    record {
      count = two_reads _ _ _ s.more n (t.count ∙ s.count) x.count;
      free = ap no_end t.text ∙ longer_free line t.front s.free t.free;
      found = λ e. absurd (let h : false ≡ true = e in cc);
      none = λ e. (
        sym (append_assoc old.left s.more n) ∙ ap (λ (z : List ℕ). (old.left ++ s.more) ++ z) none.0 ∙ append-nil (old.left ++ s.more) ∙ s.text ∙ ap (λ (z : List ℕ). line ++ z) (t.none refl) ∙ sym t.text,
        ends_then held.count n s.reads none.1 (t.count ∙ s.count),
      );
    }

-- ---- up to the end

-- what was read so far, of which nothing is kept
pub record DrainSoFar {F : Type 0} (files : F → Files) (r w g : F → List ℕ → ℕ) (name : List ℕ) (old now : Held) (a b : F) (is_end : Bool) : Type 0 where
  pub more : List ℕ
  pub reads : Reads files r w g name old.count a b None more
  pub count : now.count ≡ old.count + length more
  pub nothing : is_end ≡ true → old.left ++ more ≡ []
  pub some : is_end ≡ false → 0 < length (old.left ++ more)

-- before the first read
pub drain_none : {F : Type 0} (files : F → Files) (r w g : F → List ℕ → ℕ) (name : List ℕ) (old : Held) (here : F) (is_end : Bool) → old.count < 2 ^ 63
    → (is_end ≡ true → length old.left ≡ 0) → (is_end ≡ false → 0 < length old.left) → DrainSoFar files r w g name old old here here is_end
drain_none files r w g name old here is_end small nothing some = record {
  more = [];
  reads = reads_none files r w g name old.count here small;
  count = omega arith;
  nothing = λ e. append-nil old.left ∙ no_bytes old.left (nothing e);
  some = λ e. let long : 0 < length old.left = some e in subst (λ (x : List ℕ). 0 < length x) (sym (append-nil old.left)) long;
}

-- after one more read
pub drain_more : {F : Type 0} {files : F → Files} {r w g : F → List ℕ → ℕ} {name : List ℕ} {old now : Held} {a b : F} {is_end : Bool} (next : Held) (c : F) (n : List ℕ)
    → DrainSoFar files r w g name old now a b is_end → Reads files r w g name now.count b c None n → ReadOn (files b) name now next n true
    → DrainSoFar files r w g name old next a c false
drain_more {old = old} next c n s x on = record {
  more = s.more ++ n;
  reads = reads_then s.reads x s.count;
  count = two_reads _ _ _ s.more n s.count on.count;
  nothing = λ e. absurd (let h : false ≡ true = e in cc);
  some = λ e. let long : 0 < length n = on.some refl in omega (arith, length-append old.left (s.more ++ n), length-append s.more n);
}

-- at the end
pub drain_all : {F : Type 0} {files : F → Files} {r w g : F → List ℕ → ℕ} {name : List ℕ} {old now : Held} {a b : F} {is_end : Bool} (next : Held) (n : List ℕ)
    → (s : DrainSoFar files r w g name old now a b is_end) → ReadOn (files b) name now next n false → Drains (files a) name old next (s.more ++ n) is_end
drain_all {old = old} {now = now} {is_end = is_end} next n s x =
    let none = x.none refl in
    let same : s.more ++ n ≡ s.more = ap (λ (z : List ℕ). s.more ++ z) none.0 ∙ append-nil s.more in
    record {
      count = two_reads _ _ _ s.more n s.count x.count;
      ends = ends_then now.count n s.reads none.1 s.count;
      left = x.left ∙ none.0;
      nothing = λ e. ap (λ (z : List ℕ). old.left ++ z) same ∙ s.nothing e;
      some = λ e. subst (λ (z : List ℕ). 0 < length (old.left ++ z)) (sym same) (s.some e);
    }

-- how many bytes of a piece are left
pub left_size : (piece : List ℕ) (from upto : ℕ) → from ≤ upto → upto ≤ 65536 → length piece ≡ 65536 → length (take (upto - from) (drop from piece)) ≡ upto - from
left_size piece from upto low high room = let long = length-drop from piece in length-take-le (upto - from) (drop from piece) (omega (arith, long))
