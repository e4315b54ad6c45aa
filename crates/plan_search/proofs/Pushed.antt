-- What holds of each entry by its place, as one more entry comes.
use Rattle.std.proofs.Common.{ℕ, ◌+◌, ◌<◌, ◌≤◌, ◌⊎◌, ◌≡◌, inl, inr, List, [], ◌∷◌, ◌++◌, length, get_or, sym, subst, arith}
use Rattle.std.proofs.Math.ListN.{get_or-append}
use Rattle.std.proofs.Math.Seq.{get_or-append_seam}
use Rattle.std.proofs.lemmas.Bool.{cases_lt}

-- it holds of the entries before, and of the new one at the end
pub each_more : {X : Type 0} (P : ℕ → X → Type 0) (xs : List X) (x : X) (n : ℕ) → length xs ≡ n
    → ((k : ℕ) (d : X) → k < n → P k (get_or xs k d)) → P n x
    → (k : ℕ) (d : X) → k < n + 1 → P k (get_or (xs ++ x ∷ []) k d)
each_more P xs x n long each last k d lt = by (cases_lt k n)
  where
    by : (k < n) ⊎ (n ≤ k) → P k (get_or (xs ++ x ∷ []) k d)
    by (inl before) = subst (P k) (sym (get_or-append xs (x ∷ []) d k (omega arith))) (each k d before)
    by (inr end) =
        let same : n ≡ k = omega arith in
        let here : get_or (xs ++ x ∷ []) n d ≡ x = rw (sym long) (get_or-append_seam xs x [] d) in
        subst (λ m. P m (get_or (xs ++ x ∷ []) m d)) same (subst (P n) (sym here) last)
