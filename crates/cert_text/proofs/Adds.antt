-- Lines that are added one after the other.
use Rattle.std.proofs.Common.{◌≡◌, ◌<◌, ◌≤◌, ℕ, ◌+◌, List, [], ◌∷◌, ◌++◌, length, take, get_or, map, codes, decimal, OnOk, sym, ap, subst, ◌∙◌, append_assoc, append-nil}
use Rattle.std.specs.Prelude.{Result}
use Rattle.std.specs.List.{flat_map, join_with_byte}
use Rattle.std.proofs.lemmas.Grind.{flat_map-append}
use Rattle.std.proofs.lemmas.List.{flat_map_more, take_all, take_more}
use Rattle.std.proofs.lemmas.List.Folds.{flat_map-map}
use Rattle.std.proofs.lemmas.Result.{on_ok_weaker}
use Rattle.cert_text.specs.declared.line.Line.{Line}
use Rattle.cert_text.specs.Lines.{ended, line_text, text_of}
use Rattle.cert_text.specs.Adding.{Adds, HasNumbersOfTypes, numbers_text}
use Rattle.cert_text.proofs.Texts.{text_append}
use Rattle.cert_text.proofs.Cuts.{all_append}

-- nothing was added
pub adds-none : (before now : List ℕ) → now ≡ before → Adds before now []
adds-none before now e = record { text = e ∙ sym (append-nil before); numbers = tt }

-- one line was added
pub adds-one : (before now bytes : List ℕ) (l : Line) → now ≡ before ++ ended bytes → bytes ≡ line_text l → HasNumbersOfTypes l → Adds before now (l ∷ [])
adds-one before now bytes l e is fits = record {
  text = e ∙ ap (λ x. before ++ ended x) is ∙ ap (λ x. before ++ x) (sym (append-nil (ended (line_text l))));
  numbers = (fits, tt);
}

-- further lines were added
pub adds-append : (before between now : List ℕ) (ls ms : List Line) → Adds before between ls → Adds between now ms → Adds before now (ls ++ ms)
adds-append before between now ls ms a b = record {
  text = b.text ∙ ap (λ x. x ++ text_of ms) a.text ∙ append_assoc before (text_of ls) (text_of ms) ∙ ap (λ x. before ++ x) (sym (text_append ls ms));
  numbers = all_append HasNumbersOfTypes ls ms a.numbers b.numbers;
}

-- the lines of one more element of a list were added
pub adds-more : {X : Type 0} (f : X → List Line) (xs : List X) (i : ℕ) (x : X) (before between now : List ℕ) → i < length xs → x ≡ get_or xs i x
    → Adds before between (flat_map f (take i xs)) → Adds between now (f x) → Adds before now (flat_map f (take (i + 1) xs))
adds-more f xs i x before between now lt is so_far step =
    let joined : flat_map f (take i xs) ++ f x ≡ flat_map f (take (i + 1) xs) =
    flat_map_more f [] (take i xs) x ∙ ap (flat_map f) (ap (λ y. take i xs ++ y ∷ []) is ∙ sym (take_more xs i x lt)) in
    subst (Adds before now) joined (adds-append before between now (flat_map f (take i xs)) (f x) so_far step)

-- ---- the bytes of a line

-- words with a space between two are the first, and each other after a space
joined : (w : List ℕ) (ws : List (List ℕ)) → join_with_byte 32 (w ∷ ws) ≡ w ++ flat_map (λ x. 32 ∷ x) ws
joined w [] = sym (append-nil w)
joined w (x ∷ ws) = ap (λ y. w ++ 32 ∷ y) (joined x ws)

-- numbers as words, each after a space
spaced : (ns : List ℕ) → flat_map (λ x. 32 ∷ x) (map decimal ns) ≡ numbers_text ns
spaced ns = flat_map-map (λ x. 32 ∷ x) decimal ns

-- a word and numbers
pub numbered : (w : List ℕ) (ns : List ℕ) → join_with_byte 32 (w ∷ map decimal ns) ≡ w ++ numbers_text ns
numbered w ns = joined w (map decimal ns) ∙ ap (λ x. w ++ x) (spaced ns)

-- a word, numbers, a slash and numbers
pub slashed : (w : List ℕ) (ns ms : List ℕ) → join_with_byte 32 (w ∷ (map decimal ns ++ (codes "/" ∷ map decimal ms))) ≡ w ++ (numbers_text ns ++ (codes " /" ++ numbers_text ms))
slashed w ns ms =
    joined w (map decimal ns ++ (codes "/" ∷ map decimal ms))
    ∙ ap (λ x. w ++ x)
    (flat_map-append (λ x. 32 ∷ x) (map decimal ns) (codes "/" ∷ map decimal ms) ∙ ap (λ x. x ++ flat_map (λ x. 32 ∷ x) (codes "/" ∷ map decimal ms)) (spaced ns)
    ∙ ap (λ x. numbers_text ns ++ (codes " /" ++ x)) (spaced ms))

-- a word, numbers and LF, added one after the other
pub put-numbered : (w ns : List ℕ) (before first second now : List ℕ) → first ≡ before ++ w → second ≡ first ++ numbers_text ns → now ≡ second ++ 10 ∷ [] → now ≡ before ++ ended (w ++ numbers_text ns)
put-numbered w ns before first second now a b c =
    c ∙ ap (λ x. x ++ 10 ∷ []) (b ∙ ap (λ x. x ++ numbers_text ns) a ∙ append_assoc before w (numbers_text ns)) ∙ append_assoc before (w ++ numbers_text ns) (10 ∷ [])

-- one number, and numbers
pub put-first : (n : ℕ) (ns before first now : List ℕ) → first ≡ before ++ 32 ∷ decimal n → now ≡ first ++ numbers_text ns → now ≡ before ++ numbers_text (n ∷ ns)
put-first n ns before first now a b = b ∙ ap (λ x. x ++ numbers_text ns) a ∙ append_assoc before (32 ∷ decimal n) (numbers_text ns)

-- one number
pub put-only : (n : ℕ) (before now : List ℕ) → now ≡ before ++ 32 ∷ decimal n → now ≡ before ++ numbers_text (n ∷ [])
put-only n before now a = a ∙ ap (λ x. before ++ x) (sym (append-nil (32 ∷ decimal n)))

-- a line without numbers that was added, if memory didn't run out
pub adds-fixed : {R : Type 0} {E : Type 0} (r : Result R E) (before now bytes : List ℕ) (l given : Line) → OnOk r (now ≡ before ++ ended bytes) → given ≡ l → bytes ≡ line_text l → HasNumbersOfTypes l
    → OnOk r (Adds before now (given ∷ []))
adds-fixed r before now bytes l given added is text fits = on_ok_weaker r (λ e. subst (λ x. Adds before now (x ∷ [])) (sym is) (adds-one before now bytes l e text fits)) added

-- a word, numbers, a slash, numbers and LF, added one after the other
pub put-slashed : (w ns ms : List ℕ) (before first second third fourth now : List ℕ) → first ≡ before ++ w → second ≡ first ++ numbers_text ns → third ≡ second ++ codes " /" → fourth ≡ third ++ numbers_text ms
    → now ≡ fourth ++ 10 ∷ [] → now ≡ before ++ ended (w ++ (numbers_text ns ++ (codes " /" ++ numbers_text ms)))
put-slashed w ns ms before first second third fourth now a b c d e = rw (e, d, c, b, a) (by before w (numbers_text ns) (codes " /") (numbers_text ms) (10 ∷ []))
  where
    by : (o x y z u v : List ℕ) → ((((o ++ x) ++ y) ++ z) ++ u) ++ v ≡ o ++ ((x ++ (y ++ (z ++ u))) ++ v)
    by o x y z u v = simp append_assoc

-- the lines of a whole list were added
pub adds-all : {X : Type 0} (f : X → List Line) (xs : List X) (i : ℕ) (before now : List ℕ) → length xs ≤ i → Adds before now (flat_map f (take i xs)) → Adds before now (flat_map f xs)
adds-all f xs i before now past a = subst (λ ys. Adds before now (flat_map f ys)) (take_all i xs past) a
