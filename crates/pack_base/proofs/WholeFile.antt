-- What reading a whole file keeps, piece by piece.
use Rattle.std.proofs.Common.{◌≡◌, ℕ, ◌+◌, ◌<◌, ◌≤◌, inl, inr, List, [], ◌++◌, length, take, drop, IsSome, refl, sym, ◌∙◌, ap, append_assoc, append-nil, length-append, arith}
use Rattle.std.proofs.lemmas.List.{length-take-le, drop-drop, take-append-drop, drop_all}
use Rattle.std.proofs.Math.Seq.{take-append_seam}
use Rattle.pack_base.specs.Counts.{GrewBy, counted}
use Rattle.pack_base.specs.Outside.{Files, Later, ReadsAt, SameFaults, bytes_at}

-- the text so far is a front of the file
abbrev pub IsFront : List ℕ → List ℕ → Type 0
IsFront text file = text ++ drop (length text) file ≡ file

-- the files are as before, no count fell, no fault was counted, what was given grew by at least the text, and the text is a front of the file
pub record ReadSoFar {F : Type 0} (files : F → Files) (read_faults write_faults given : F → List ℕ → ℕ) (name : List ℕ) (old now : F) (text : List ℕ) : Type 0 where
  pub same : files now ≡ files old
  pub later : Later read_faults write_faults given old now
  pub quiet : SameFaults read_faults write_faults old now
  pub gave : GrewBy (length text) (given old name) (given now name)
  pub front : IsSome (files old) → IsFront text (bytes_at (files old) name)

-- counts that never fell in two steps never fell in both
pub later_trans : {F : Type 0} {read_faults write_faults given : F → List ℕ → ℕ} {a b c : F} → Later read_faults write_faults given a b → Later read_faults write_faults given b c → Later read_faults write_faults given a c
later_trans {read_faults = r} {write_faults = w} {given = g} {a = a} {b = b} {c = c} ab bc = record {
  read = λ name. let x : r a name ≤ r b name = ab.read name in let y : r b name ≤ r c name = bc.read name in omega arith;
  write = λ name. let x : w a name ≤ w b name = ab.write name in let y : w b name ≤ w c name = bc.write name in omega arith;
  gave = λ name. let x : g a name ≤ g b name = ab.gave name in let y : g b name ≤ g c name = bc.gave name in omega arith;
}

-- no fault was counted in two steps where none was in either
pub quiet_trans : {F : Type 0} {read_faults write_faults : F → List ℕ → ℕ} {a b c : F} → SameFaults read_faults write_faults a b → SameFaults read_faults write_faults b c → SameFaults read_faults write_faults a c
quiet_trans ab bc = record { read = λ name. bc.read name ∙ ab.read name; write = λ name. bc.write name ∙ ab.write name }

-- no count fell where nothing happened
pub later_refl : {F : Type 0} {read_faults write_faults given : F → List ℕ → ℕ} {a : F} → Later read_faults write_faults given a a
later_refl = record { read = λ name. omega arith; write = λ name. omega arith; gave = λ name. omega arith }

-- a front with the next bytes of the file behind it is a front
pub front_more : (text buffer file : List ℕ) (n : ℕ) → IsFront text file → n ≤ length buffer → ReadsAt file (length text) n buffer → IsFront (text ++ take n buffer) file
front_more text buffer file n front fits reads =
    let size : length (take n buffer) ≡ n = length-take-le n buffer fits in
    let rest : drop n (drop (length text) file) ≡ drop (length text + n) file = drop-drop n (length text) file in
    let whole : take n (drop (length text) file) ++ drop n (drop (length text) file) ≡ drop (length text) file = take-append-drop n (drop (length text) file) in
    rw (length-append text (take n buffer), size, ← rest, reads.bytes, append_assoc, whole) front

-- a front that reaches the file's end is the file
pub front_whole : (text file : List ℕ) → IsFront text file → length file ≤ length text → text ≡ file
front_whole text file front ends =
    let none : drop (length text) file ≡ [] = drop_all (length text) file ends in
    sym (append-nil text) ∙ sym (ap (λ rest. text ++ rest) none) ∙ front

-- before the first read
pub read_none : {F : Type 0} (files : F → Files) (read_faults write_faults given : F → List ℕ → ℕ) (name : List ℕ) (old : F) → ReadSoFar files read_faults write_faults given name old old []
read_none files r w g name old = record { same = refl; later = later_refl; quiet = record { read = λ n. refl; write = λ n. refl }; gave = omega arith; front = λ told. refl }

-- after one more read
pub read_more : {F : Type 0} {files : F → Files} {read_faults write_faults given : F → List ℕ → ℕ} {name : List ℕ} {old mid : F} {text : List ℕ}
    (now : F) (buffer more : List ℕ) (n : ℕ)
    → ReadSoFar files read_faults write_faults given name old mid text
    → files now ≡ files mid → Later read_faults write_faults given mid now → SameFaults read_faults write_faults mid now → given now name ≡ counted (given mid name) n
    → (IsSome (files mid) → ReadsAt (bytes_at (files mid) name) (length text) n buffer)
    → n ≤ length buffer → more ≡ text ++ take n buffer
    → ReadSoFar files read_faults write_faults given name old now more
read_more {files = files} {given = g} {name = name} {old = old} {mid = mid} {text = text} now buffer more n so_far same later quiet gave reads fits is = record {
  same = same ∙ so_far.same;
  later = later_trans so_far.later later;
  quiet = quiet_trans so_far.quiet quiet;
  gave =
      let size : length more ≡ length text + n = ap length is ∙ length-append text (take n buffer) ∙ ap (λ k. length text + k) (length-take-le n buffer fits) in
      let grew : GrewBy (length text) (g old name) (g mid name) = so_far.gave in
      omega arith;
  front = λ told.
      let told_mid : IsSome (files mid) = rw so_far.same told in
      let reads_here : ReadsAt (bytes_at (files old) name) (length text) n buffer = rw so_far.same at (reads told_mid) in
      rw is (front_more text buffer (bytes_at (files old) name) n (so_far.front told) fits reads_here);
}

-- a read of nothing into a buffer with room came at the file's end
pub read_end : (file : List ℕ) (at n : ℕ) (buffer : List ℕ) → ReadsAt file at n buffer → n ≡ 0 → 0 < length buffer → length file ≤ at
read_end file at n buffer reads none room =
    elim (reads.ends none) [ inl empty ↦ absurd (omega arith) | inr ends ↦ ends ]

-- as many as the first list has, of two lists
pub take-front : (front rest : List ℕ) (k : ℕ) → length front ≡ k → take k (front ++ rest) ≡ front
take-front front rest k size = rw (← size) (take-append_seam front rest)
