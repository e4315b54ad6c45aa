-- Trees of certificates, and trees in which subtrees are marked.
use Rattle.std.specs.Prelude.{⊤, ◌<◌, ℕ, suc, zero, List, Bool, true, false}
use Rattle.response_test.specs.declared.evidence.Evidence.{Evidence}

-- a tree: an inner node with its subtrees, a bound leaf, an open leaf, or a fail leaf with evidence against
-- classes
mutual
  pub data Plain : Type 0 where
    inner : Plains → Plain
    bound : Plain
    left : Plain
    fail : List (ℕ × Evidence) → Plain

  pub data Plains : Type 0 where
    none : Plains
    more : Plain → Plains → Plains

-- a tree in which subtrees are marked
mutual
  pub data Marked : Type 0 where
    m_inner : Markeds → Marked
    m_bound : Marked
    m_left : Marked
    m_fail : List (ℕ × Evidence) → Marked
    shard : Marked → Marked

  pub data Markeds : Type 0 where
    m_none : Markeds
    m_more : Marked → Markeds → Markeds

-- how many trees
abbrev pub count : Markeds → ℕ
count m_none = zero
count (m_more t ts) = suc (count ts)

-- the tree without its marks
abbrev mutual
  pub unmark : Marked → Plain
  unmark (m_inner ts) = inner (unmark_all ts)
  unmark m_bound = bound
  unmark m_left = left
  unmark (m_fail es) = fail es
  unmark (shard t) = unmark t

  pub unmark_all : Markeds → Plains
  unmark_all m_none = none
  unmark_all (m_more t ts) = more (unmark t) (unmark_all ts)

-- no marked tree stands in a marked one, and below so many inner nodes there are 128 on a path at most;
-- the first says whether marks may stand
unfoldable mutual
  pub Stands : Bool → ℕ → Marked → Type 0
  Stands marks depth (m_inner ts) = (depth < 128) × AllStand marks (suc depth) ts
  Stands marks depth m_bound = ⊤
  Stands marks depth m_left = ⊤
  Stands marks depth (m_fail es) = ⊤
  Stands true depth (shard t) = Stands false depth t
  Stands false depth (shard t) = ⊥

  pub AllStand : Bool → ℕ → Markeds → Type 0
  AllStand marks depth m_none = ⊤
  AllStand marks depth (m_more t ts) = Stands marks depth t × AllStand marks depth ts
