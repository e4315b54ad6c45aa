-- The bytes that lines of nodes begin with.
use Rattle.std.proofs.Common.{◌≡◌, ◌≤◌, ℕ, List, [], ◌∷◌, ◌++◌, sym, ap, ◌∙◌, append_assoc, decimal, arith}
use Rattle.cert_text.specs.declared.node.Node.TheVariants as node
use Rattle.cert_text.specs.Lines.{line_words}
use Rattle.cert_text.specs.Nodes.{BeginsNode}

-- an inner node
pub begins_inner : (bytes after : List ℕ) (n : ℕ) → bytes ≡ decimal n ++ 10 ∷ after → 1 ≤ n → n ≤ 128 → BeginsNode (105 ∷ 32 ∷ bytes) (node.Inner n) after
unfolding line_words
begins_inner bytes after n e low high = record {
  text = ap (λ (x : List ℕ). 105 ∷ 32 ∷ x) (e ∙ sym (append_assoc (decimal n) (10 ∷ []) after));
  in_range = (low, high);
}

-- a fail leaf without evidence
pub begins_fail : (bytes after : List ℕ) → bytes ≡ decimal 0 ++ 10 ∷ after → BeginsNode (102 ∷ 32 ∷ bytes) node.Fail after
unfolding line_words
begins_fail bytes after e = record {
  text = ap (λ (x : List ℕ). 102 ∷ 32 ∷ x) (e ∙ sym (append_assoc (decimal 0) (10 ∷ []) after));
  in_range = omega arith;
}

-- a bound leaf
pub begins_bound : (bytes after : List ℕ) → bytes ≡ 98 ∷ 10 ∷ after → BeginsNode bytes node.Bound after
unfolding line_words
begins_bound bytes after e = record { text = e; in_range = tt }

-- an open leaf
pub begins_open : (bytes after : List ℕ) → bytes ≡ 111 ∷ 10 ∷ after → BeginsNode bytes node.Open after
unfolding line_words
begins_open bytes after e = record { text = e; in_range = tt }
