-- The steps of the functions that find the items.
use Rattle.std.proofs.Common.{◌≡◌, ◌<◌, ◌+◌, ℕ, List, [], ◌∷◌, ◌++◌, length, map, take, get_or, sum_by, slice_index, suc, zero, sym, ap, ◌∙◌, arith, set}
use Rattle.std.proofs.lemmas.List.{take_more, get_or-map}
use Rattle.std.proofs.lemmas.List.Sums.{sum_by_push}
use Rattle.pack_model.specs.declared.signal.Signal.{Signal}
use Rattle.pack_model.specs.Items.{put_at}

-- the bits of one more signal
pub bits_more : (signals : List Signal) (places : List ℕ) (i : ℕ) (s : Signal) → i < length places
    → get_or places i 0 < length signals → s ≡ get_or signals (get_or places i 0) s
    → sum_by (slice_index (map (λ s. s.bits) signals)) (take (i + 1) places)
    ≡ sum_by (slice_index (map (λ s. s.bits) signals)) (take i places) + s.bits
bits_more signals places i s lt inside at =
    ap (sum_by (slice_index (map (λ (t : Signal). t.bits) signals))) (take_more places i 0 lt)
    ∙ sum_by_push (slice_index (map (λ (t : Signal). t.bits) signals)) (take i places) (get_or places i 0)
    ∙ ap (λ n. sum_by (slice_index (map (λ (t : Signal). t.bits) signals)) (take i places) + n)
    (get_or-map (λ (t : Signal). t.bits) signals (get_or places i 0) s 0 inside
    ∙ ap (λ (t : Signal). t.bits) (sym at))

-- a place that is put in a list that is there
pub put_in : {X : Type 0} (f : X → List ℕ) (lists : List X) (number place : ℕ) (r w : X)
    → number < length lists → r ≡ get_or lists number r → f w ≡ f r ++ place ∷ []
    → map f (set lists number w) ≡ put_at number place (map f lists)
put_in f [] number place r w lt at pushed = absurd (omega arith)
put_in f (x ∷ xs) zero place r w lt at pushed =
    ap (λ l. l ∷ map f xs) (pushed ∙ ap (λ y. f y ++ place ∷ []) at)
put_in f (x ∷ xs) (suc n) place r w lt at pushed =
    ap (λ ls. f x ∷ ls) (put_in f xs n place r w (omega arith) at pushed)

-- a place that is put in a new last list
pub put_last : {X : Type 0} (f : X → List ℕ) (lists : List X) (number place : ℕ) (v r w : X)
    → number ≡ length lists → f v ≡ [] → r ≡ get_or (lists ++ v ∷ []) number r → f w ≡ f r ++ place ∷ []
    → map f (set (lists ++ v ∷ []) number w) ≡ put_at number place (map f lists)
put_last f [] zero place v r w is none at pushed =
    ap (λ l. l ∷ []) (pushed ∙ ap (λ y. f y ++ place ∷ []) at ∙ ap (λ l. l ++ place ∷ []) none)
put_last f [] (suc n) place v r w is none at pushed = absurd (omega arith)
put_last f (x ∷ xs) zero place v r w is none at pushed = absurd (omega arith)
put_last f (x ∷ xs) (suc n) place v r w is none at pushed =
    ap (λ ls. f x ∷ ls) (put_last f xs n place v r w (omega arith) none at pushed)
