-- What was said of the trees of a certificate stands exactly where they do.
use Rattle.std.specs.Prelude.{⊤}
use Rattle.std.proofs.Common.{◌≡◌, ℕ, zero, suc, ◌<◌, ◌+◌, List, [], ◌∷◌, ◌++◌, length, map, get_or, set, All, Option, Some, None, refl, sym, ap, subst, ◌∙◌, append_assoc, append-nil, arith}
use Rattle.std.specs.List.{AllByRecursion}
use Rattle.std.specs.List.Sorted.{IsStrictlyIncreasing}
use Rattle.std.proofs.lemmas.List.Elements.{All-from_recursion, All-nil, All-push, recursion_from_All}
use Rattle.pack_model.specs.Problem.{Parts}
use Rattle.cert_text.specs.declared.parts.Kind.{Kind}
use Rattle.cert_text.specs.Parts.{CertParts, LemmaOf}
use Rattle.cert_text.specs.Trees.{Plain}
use Rattle.bandwidth_bound.specs.Goals.{lemma_goal, main_goal}
use Rattle.bandwidth_bound.specs.Lemmas.{LemmaStands, LemmasStand, values_of}
use Rattle.bandwidth_bound.specs.Rule.{MainStands, TreesStand}
use Rattle.bandwidth_bound.specs.Trees.{TreeStands}
use Rattle.cert_check.specs.Nodes.{NodesStand, nodes_of}
use Rattle.cert_check.specs.Said.{Said, lemma_said, lemmas_said, lines_said, main_aim, main_said, may_leave_of}
use Rattle.cert_check.specs.Taken.{AllStandSaid, ComesNext}
use Rattle.cert_check.specs.Walk.{goal_of}
use Rattle.cert_check.proofs.LemmaLaws.{values_more, values_none}
use Rattle.cert_check.proofs.Walks.{stood, walked}

-- a sender comes after another one
abbrev After : Option ℕ → ℕ → Type 0
After None sender = ⊤
After (Some last) sender = last < sender

-- the senders of lemmas
abbrev senders : List (LemmaOf Plain) → List ℕ
senders lemmas = map (λ (lemma : LemmaOf Plain). lemma.sender) lemmas

module _ (problem : Parts) where
  next_after : (last : Option ℕ) (sender : ℕ) → ComesNext problem last (Some sender)
      → (sender < length problem.senders) × After last sender
  next_after None sender next = (next, tt)
  next_after (Some last) sender next = next

  after_next : (last : Option ℕ) (sender : ℕ) → sender < length problem.senders → After last sender
      → ComesNext problem last (Some sender)
  after_next None sender there after = there
  after_next (Some last) sender there after = (there, after)

  -- lemmas stand one after the other, each after the one before
  abbrev LemmasFollow : Option ℕ → List (LemmaOf Plain) → Type 0
  LemmasFollow last [] = ⊤
  LemmasFollow last (lemma ∷ lemmas) =
      ComesNext problem last (Some lemma.sender)
      × TreeStands (lemma_goal problem lemma.sender lemma.value) [] lemma.tree
      × LemmasFollow (Some lemma.sender) lemmas

  -- ---- what was said of lemmas

  -- where it stands, the lemmas stand, and what was said before
  lemmas_follow : (lemmas : List (LemmaOf Plain)) (s : Said) → AllStandSaid problem (lemmas_said lemmas s)
      → AllStandSaid problem s × LemmasFollow s.last lemmas
  lemmas_follow [] s all = (all, tt)
  lemmas_follow (lemma ∷ lemmas) s all =
      let rest = lemmas_follow lemmas (lemma_said s lemma) all in (
        rest.0.1,
        (
          rest.0.0.next,
          stood (lemma_goal problem lemma.sender lemma.value) [] [] lemma.tree rest.0.0.nodes,
          rest.1,
        ),
      )

  -- and conversely
  lemmas_stand : (lemmas : List (LemmaOf Plain)) (s : Said) → AllStandSaid problem s
      → LemmasFollow s.last lemmas → AllStandSaid problem (lemmas_said lemmas s)
  lemmas_stand [] s all follow = all
  lemmas_stand (lemma ∷ lemmas) s all follow =
      lemmas_stand lemmas (lemma_said s lemma) (
        record {
          next = follow.0;
          nodes = (walked (lemma_goal problem lemma.sender lemma.value) [] [] lemma.tree follow.1).stand;
        },
        all,
      )
      follow.2

  -- the kind and the frame lines stay
  pub kind_kept : (lemmas : List (LemmaOf Plain)) (s : Said) → (lemmas_said lemmas s).kind ≡ s.kind
  kind_kept [] s = refl
  kind_kept (lemma ∷ lemmas) s = kind_kept lemmas (lemma_said s lemma)

  pub lines_kept : (lemmas : List (LemmaOf Plain)) (s : Said) → (lemmas_said lemmas s).lines ≡ s.lines
  lines_kept [] s = refl
  lines_kept (lemma ∷ lemmas) s = lines_kept lemmas (lemma_said s lemma)

  -- ---- their values

  -- each sender that may come next comes after those of some lemmas
  abbrev Below : Option ℕ → List (LemmaOf Plain) → Type 0
  Below last front = (sender : ℕ) → After last sender → All (λ (l : LemmaOf Plain). l.sender < sender) front

  below_more : (last : Option ℕ) (front : List (LemmaOf Plain)) (lemma : LemmaOf Plain) → Below last front
      → After last lemma.sender → Below (Some lemma.sender) (front ++ lemma ∷ [])
  below_more last front lemma below after sender later =
      All-push (λ (l : LemmaOf Plain). l.sender < sender) front lemma
      (λ k d inside.
      let low : (get_or front k d).sender < lemma.sender = below lemma.sender after k d inside in
      omega (arith, low, later)) later

  values_said : (lemmas front : List (LemmaOf Plain)) (s : Said) → LemmasFollow s.last lemmas
      → Below s.last front → s.values ≡ values_of problem front
      → (lemmas_said lemmas s).values ≡ values_of problem (front ++ lemmas)
  values_said [] front s follow below same = same ∙ ap (values_of problem) (sym (append-nil front))
  values_said (lemma ∷ lemmas) front s follow below same =
      let next = next_after s.last lemma.sender follow.0 in
      values_said lemmas (front ++ lemma ∷ []) (lemma_said s lemma) follow.2
      (below_more s.last front lemma below next.1)
      (ap (λ vs. set vs lemma.sender lemma.value) same
      ∙ sym (values_more problem front lemma (below lemma.sender next.1) next.0))
      ∙ ap (values_of problem) (append_assoc front (lemma ∷ []) lemmas)

  -- ---- lemmas that follow one another are those that stand

  rises : (lemmas : List (LemmaOf Plain)) (last : Option ℕ) → LemmasFollow last lemmas
      → IsStrictlyIncreasing (senders lemmas)
  rises [] last follow k inside = absurd (omega arith)
  rises (lemma ∷ []) last follow k inside = absurd (omega arith)
  rises (lemma ∷ next ∷ lemmas) last follow zero inside = follow.2.0.1
  rises (lemma ∷ next ∷ lemmas) last follow (suc k) inside =
      let here : suc k + 1 ≡ suc (k + 1) = omega arith in
      let low = rises (next ∷ lemmas) (Some lemma.sender) follow.2 k (omega (arith, inside)) in
      subst (λ n. get_or (senders (lemma ∷ next ∷ lemmas)) (suc k) 0
      < get_or (senders (lemma ∷ next ∷ lemmas)) n 0) (sym here) low

  each_stands : (lemmas : List (LemmaOf Plain)) (last : Option ℕ) → LemmasFollow last lemmas
      → AllByRecursion (LemmaStands problem) lemmas
  each_stands [] last follow = tt
  each_stands (lemma ∷ lemmas) last follow = (
    ((next_after last lemma.sender follow.0).0, follow.1),
    each_stands lemmas (Some lemma.sender) follow.2,
  )

  stand_from : (lemmas : List (LemmaOf Plain)) → LemmasFollow None lemmas → LemmasStand problem lemmas
  stand_from lemmas follow = record {
    ascending = rises lemmas None follow;
    each = All-from_recursion (LemmaStands problem) lemmas (each_stands lemmas None follow);
  }

  -- the first of some lemmas comes after a sender
  abbrev StartsAfter : Option ℕ → List (LemmaOf Plain) → Type 0
  StartsAfter last [] = ⊤
  StartsAfter last (lemma ∷ lemmas) = After last lemma.sender

  starts : (lemma : LemmaOf Plain) (lemmas : List (LemmaOf Plain))
      → IsStrictlyIncreasing (senders (lemma ∷ lemmas)) → StartsAfter (Some lemma.sender) lemmas
  starts lemma [] rising = tt
  starts lemma (next ∷ lemmas) rising = rising 0 (omega arith)

  tail_rises : (lemma : LemmaOf Plain) (lemmas : List (LemmaOf Plain))
      → IsStrictlyIncreasing (senders (lemma ∷ lemmas)) → IsStrictlyIncreasing (senders lemmas)
  tail_rises lemma lemmas rising k inside =
      let here : suc k + 1 ≡ suc (k + 1) = omega arith in
      subst (λ n. get_or (senders (lemma ∷ lemmas)) (suc k) 0 < get_or (senders (lemma ∷ lemmas)) n 0) here
      (rising (suc k) (omega (arith, inside)))

  follow_from : (lemmas : List (LemmaOf Plain)) (last : Option ℕ) → IsStrictlyIncreasing (senders lemmas)
      → StartsAfter last lemmas → AllByRecursion (LemmaStands problem) lemmas → LemmasFollow last lemmas
  follow_from [] last rising after each = tt
  follow_from (lemma ∷ lemmas) last rising after each = (
    after_next last lemma.sender each.0.0 after,
    each.0.1,
    follow_from lemmas (Some lemma.sender) (tail_rises lemma lemmas rising) (starts lemma lemmas rising) each.1,
  )

  follow_none : (lemmas : List (LemmaOf Plain)) → LemmasStand problem lemmas → LemmasFollow None lemmas
  follow_none lemmas stand =
      follow_from lemmas None stand.ascending (none lemmas)
      (recursion_from_All (LemmaStands problem) lemmas stand.each)
    where
      none : (ls : List (LemmaOf Plain)) → StartsAfter None ls
      none [] = tt
      none (l ∷ ls) = tt

  -- ---- the trees of a certificate

  module _ (cert : CertParts) (best : Option ℕ) (tree : Plain) where
    -- what was said before the main tree
    abbrev before : Said
    before = lemmas_said cert.lemmas (lines_said problem cert)

    -- nothing was said to stand
    nothing_stands : AllStandSaid problem (lines_said problem cert)
    unfolding NodesStand
    nothing_stands = (record { next = tt; nodes = tt }, tt)

    -- the values that the main tree uses
    pub values_are : LemmasStand problem cert.lemmas → before.values ≡ values_of problem cert.lemmas
    values_are stand =
        values_said cert.lemmas [] (lines_said problem cert) (follow_none cert.lemmas stand)
        (λ sender after. All-nil (λ (l : LemmaOf Plain). l.sender < sender)) (sym (values_none problem))

    -- what the main tree is to show
    abbrev MainNodes : List ℕ → Kind → Type 0
    MainNodes values kind = NodesStand (goal_of problem values (main_aim kind best)) ([] ∷ []) (nodes_of tree)

    pub trees_stand : cert.main_tree ≡ Some tree
        → AllStandSaid problem (main_said best (Some tree) before)
        → TreesStand problem best (may_leave_of cert.kind) cert
    trees_stand is all =
        let r = lemmas_follow cert.lemmas (lines_said problem cert)
        all.1 in
        let stand : LemmasStand problem cert.lemmas = stand_from cert.lemmas r.1 in
        let nodes : MainNodes (values_of problem cert.lemmas) cert.kind =
        subst (MainNodes (values_of problem cert.lemmas)) (kind_kept cert.lemmas (lines_said problem cert))
        (subst (λ vs. MainNodes vs before.kind) (values_are stand) all.0.nodes) in record {
          lemmas = stand;
          main =
              subst (MainStands problem (values_of problem cert.lemmas) best (may_leave_of cert.kind)) (sym is)
              (stood (main_goal problem (values_of problem cert.lemmas) best (may_leave_of cert.kind)) [] []
              tree nodes);
        }

    pub stand_trees : cert.main_tree ≡ Some tree
        → TreesStand problem best (may_leave_of cert.kind) cert
        → AllStandSaid problem (main_said best (Some tree) before)
    stand_trees is stands =
        let all : AllStandSaid problem before =
        lemmas_stand cert.lemmas (lines_said problem cert) nothing_stands (follow_none cert.lemmas stands.lemmas) in
        let main : TreeStands (main_goal problem (values_of problem cert.lemmas) best (may_leave_of cert.kind)) []
        tree =
        subst (MainStands problem (values_of problem cert.lemmas) best (may_leave_of cert.kind)) is stands.main in (
          record {
            next = tt;
            nodes =
                subst (λ vs. MainNodes vs before.kind) (sym (values_are stands.lemmas))
                (subst (MainNodes (values_of problem cert.lemmas))
                (sym (kind_kept cert.lemmas (lines_said problem cert)))
                (walked (main_goal problem (values_of problem cert.lemmas) best (may_leave_of cert.kind)) [] []
                tree main).stand);
          },
          all,
        )
