-- Evidence against some frames of a network, that none of them passes below the others: the project's own.
use Rattle.std.specs.Prelude.{ℕ, ◌<◌, ◌≤◌, ◌++◌, List, ◌∷◌, length, map, All}
use Rattle.std.specs.List.Sorted.{IsStrictlyIncreasing}
use Rattle.busy_period.specs.declared.timed.Timed.{Timed}
use Rattle.response_test.specs.declared.evidence.Evidence.{Evidence}
use Rattle.response_test.specs.Order.{others_of, remaining_of}
use Rattle.response_test.specs.Refuted.{Refuted}

-- the order in which a frame is below the other ones of some frames, and above the rest
abbrev pub order_with : ℕ → List ℕ → List ℕ → List ℕ
order_with own members rest = others_of own members ++ own ∷ rest

-- and above all remaining ones
abbrev pub order_below : List Timed → List ℕ → ℕ → List ℕ
order_below frames members own = order_with own members (remaining_of frames members)

-- evidence refutes a frame in that order
abbrev pub RefutedBelow : List Timed → ℕ → ℕ → List ℕ → ℕ → Evidence → Type 0
RefutedBelow frames bit hyper members own evidence =
    Refuted frames (order_below frames members own) (length (others_of own members)) bit hyper evidence

-- the numbers of frames that are named with evidence
abbrev pub numbers_of : List (ℕ × Evidence) → List ℕ
numbers_of named = map (λ entry. entry.0) named

-- frames are named by ascending number, at least one, each with evidence that refutes it below the other ones
pub record AreRefuted (frames : List Timed) (bit hyper : ℕ) (named : List (ℕ × Evidence)) : Type 0 where
  pub some : 1 ≤ length named
  pub there : All (λ number. number < length frames) (numbers_of named)
  pub ascending : IsStrictlyIncreasing (numbers_of named)
  pub refuted : All (λ entry. RefutedBelow frames bit hyper (numbers_of named) entry.0 entry.1) named
