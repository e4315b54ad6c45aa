-- What is found of a whole certificate by what was found of it with holes.
use Rattle.std.specs.Prelude.{⊤, ◌↔◌}
use Rattle.std.proofs.Common.{◌≡◌, ◌⊎◌, inl, inr, ℕ, All, List, [], ◌∷◌, ◌++◌, map, Option, None, Some, Ok, Err, Result, refl, sym, ap, subst, ◌∙◌, append-nil}
use Rattle.std.proofs.lemmas.Grind.{flat_map-append}
use Rattle.std.specs.List.{flat_map}
use Rattle.pack_model.specs.Problem.{Parts}
use Rattle.grouping_tree.specs.Grouped.{items_in}
use Rattle.matrix_rows.specs.declared.matrix.MatrixRow.{MatrixRow}
use Rattle.cert_text.specs.declared.parts.Kind.{Kind}
use Rattle.cert_text.specs.declared.parts.Kind.TheVariants.{KindPlaced, KindTimed, KindBetween, KindBest, KindNoSolution}
use Rattle.cert_text.specs.CertEvents.{cert_events}
use Rattle.cert_text.specs.Parts.{CertOf, CertParts, HasParts, LemmaOf, unmark_cert}
use Rattle.cert_text.specs.Trees.{Marked, Plain}
use Rattle.bandwidth_bound.specs.Prices.{lower8_of}
use Rattle.bandwidth_bound.specs.Trees.{open_places}
use Rattle.bandwidth_bound.specs.declared.verdict.Verdict.{Verdict}
use Rattle.bandwidth_bound.specs.declared.verdict.Verdict.TheVariants as verdict
use Rattle.cert_check.specs.declared.cert_walk.CertWalk.{CertWalk}
use Rattle.cert_check.specs.declared.fault.CheckFault.{CheckFault}
use Rattle.cert_check.specs.declared.fault.CheckFault.TheVariants as fault
use Rattle.cert_check.specs.Entries.{Entry, as_event, in_full}
use Rattle.cert_check.specs.Holes.{Hole, HoleStands, HolesStand, bounds_in_hole, bounds_over, holes_in, holes_of_tree, holes_of_trees, least_in_holes, told_holes}
use Rattle.cert_check.specs.Joined.{FoundInFull, IsFoundHolding, denied}
use Rattle.cert_check.specs.Nodes.{NodesStand, bounds_of, lowered}
use Rattle.cert_check.specs.Said.{Said, TreeSaid, cert_said, lemma_said, lemmas_said, lines_said, main_said, said_by, with_end}
use Rattle.cert_check.specs.Taken.{AllStandSaid, HasOwnParts, Taken, goal_said, load_in, one_more}
use Rattle.cert_check.specs.Told.{IsFoundOf, IsFoundTold, TreesOfTold, bounds_told, verdict_told}
use Rattle.cert_check.specs.Trees.{lower_with}
use Rattle.cert_check.proofs.FillLaws.{filled, filled_none, fill_least, hole_bounds}
use Rattle.cert_check.proofs.HoleLaws.{full_is, hole_in, none_begun, said_fill, said_filled, said_stood, tree_filled, tree_holes}
use Rattle.cert_check.proofs.Judged.{found_cert, holds_cert, the_tree, verdict_same}
use Rattle.cert_check.proofs.SaidLaws.{said_cert}
use Rattle.cert_check.proofs.SaidTrees.{kind_kept}
use Rattle.cert_check.proofs.StoreLaws.{some_falls}
use Rattle.cert_check.proofs.TreeLaws.{lowered_by, same_least}
use Rattle.cert_check.proofs.Walks.{lowered_append}

-- ---- the trees before the main one

-- a tree is over one sender's items, or has no nodes
abbrev IsRanged : TreeSaid → Type 0
IsRanged tree = (tree.nodes ≡ []) ⊎ ((sender : ℕ) × (tree.aim.range ≡ Some sender))

abbrev AreRanged : List TreeSaid → Type 0
AreRanged [] = ⊤
AreRanged (tree ∷ trees) = IsRanged tree × AreRanged trees

ranged_lemmas : (lemmas : List (LemmaOf Plain)) (s : Said) → AreRanged (s.tree ∷ s.older)
    → AreRanged ((lemmas_said lemmas s).tree ∷ (lemmas_said lemmas s).older)
ranged_lemmas [] s each = each
ranged_lemmas (lemma ∷ lemmas) s each =
    ranged_lemmas lemmas (lemma_said s lemma) (inr (lemma.sender, refl), each)

module _ (problem : Parts) where
  -- holes over one sender's items have no bounds
  none_over : (range : Option ℕ) (sender : ℕ) (h : Hole) → range ≡ Some sender
      → bounds_over problem range h ≡ []
  none_over None sender h is = absurd cc
  none_over (Some other) sender h is = refl

  none_in : (tree : TreeSaid) (sender : ℕ) (hs : List (List ℕ × Plain)) → tree.aim.range ≡ Some sender
      → flat_map (bounds_in_hole problem) (map (hole_in problem tree) hs) ≡ []
  none_in tree sender [] is = refl
  none_in tree sender (h ∷ hs) is =
      ap (λ xs. xs ++ flat_map (bounds_in_hole problem) (map (hole_in problem tree) hs))
      (none_over tree.aim.range sender (hole_in problem tree h) is)
      ∙ none_in tree sender hs is

  none_older : (trees : List TreeSaid) → AreRanged (map tree_filled trees)
      → flat_map (bounds_in_hole problem) (holes_of_trees problem trees) ≡ []
  none_older [] each = refl
  none_older (tree ∷ trees) each = by each.0 (none_older trees each.1)
    where
      by : IsRanged (tree_filled tree) → flat_map (bounds_in_hole problem) (holes_of_trees problem trees) ≡ []
          → flat_map (bounds_in_hole problem) (holes_of_trees problem (tree ∷ trees)) ≡ []
      by (inl none) before =
          ap (flat_map (bounds_in_hole problem)) (none_begun problem tree trees (filled_none tree.nodes none))
          ∙ before
      by (inr ranged) before =
          flat_map-append (bounds_in_hole problem) (holes_of_trees problem trees) (holes_of_tree problem tree)
          ∙ ap (λ xs. xs ++ flat_map (bounds_in_hole problem) (holes_of_tree problem tree)) before
          ∙ none_in tree ranged.0 (holes_in (goal_said problem tree) ([] ∷ []) tree.nodes) ranged.1

  -- those in the main tree have the bounds of its open leaves
  bounds_here : (range : Option ℕ) (h : Hole) → range ≡ None
      → bounds_over problem range h
      ≡ map (lower8_of problem h.values (items_in problem.items range))
      (open_places (items_in problem.items range) h.place h.tree)
  bounds_here None h is = refl
  bounds_here (Some sender) h is = absurd cc

  bounds_main : (tree : TreeSaid) (hs : List (List ℕ × Plain)) → tree.aim.range ≡ None
      → flat_map (bounds_in_hole problem) (map (hole_in problem tree) hs)
      ≡ hole_bounds (goal_said problem tree) hs
  bounds_main tree [] is = refl
  bounds_main tree (h ∷ hs) is =
      ap (λ xs. xs ++ flat_map (bounds_in_hole problem) (map (hole_in problem tree) hs))
      (bounds_here tree.aim.range (hole_in problem tree h) is)
      ∙ ap (λ ys. map (goal_said problem tree).lower8 (open_places (goal_said problem tree).items h.0 h.1) ++ ys)
      (bounds_main tree hs is)

-- ---- with holes and in full

module _ (problem : Parts) (best lower : Option ℕ) (s : Said) where
  -- the same holds, and shows the same verdict
  abbrev IsSame : Kind → Type 0
  IsSame kind =
      (TreesOfTold kind problem s lower ↔ TreesOfTold kind problem (said_filled s) None)
      × (TreesOfTold kind problem s lower
      → verdict_told kind problem best s lower ≡ verdict_told kind problem best (said_filled s) None)

  -- the least bound is the same
  abbrev LeastIsSame : Type 0
  LeastIsSame =
      lowered None (bounds_told problem s lower) ≡ lowered None (bounds_told problem (said_filled s) None)

  same_by_kind : (AllStandSaid problem s ↔ AllStandSaid problem (said_filled s)) → (kind : Kind)
      → (kind ≡ KindBetween → AllStandSaid problem s → LeastIsSame) → IsSame kind
  same_by_kind all KindPlaced bounds = ((λ h. h, λ h. h), λ h. refl)
  same_by_kind all KindTimed bounds = ((λ h. h, λ h. h), λ h. refl)
  same_by_kind all KindBetween bounds =
      let told = bounds_told problem s lower in
      let full = bounds_told problem (said_filled s) None in (
        (
          λ h. (all.0 h.0, (same_least told full (bounds refl h.0) h.1).0),
          λ h. (all.1 h.0, (same_least full told (sym (bounds refl (all.1 h.0))) h.1).0),
        ),
        λ h.
            ap (λ n. verdict.Between best (lower_with best n)) (same_least told full (bounds refl h.0) h.1).1,
      )
  same_by_kind all KindBest bounds = (all, λ h. refl)
  same_by_kind all KindNoSolution bounds = (all, λ h. refl)

  found_same : (rows : List MatrixRow) → IsSame s.kind → (answer : Result Verdict CheckFault)
      → IsFoundTold problem rows best s lower answer → IsFoundTold problem rows best (said_filled s) None answer
  found_same rows same (Ok v) f = (f.0, f.1, verdict_same same.0 same.1 (Ok v) f.2)
  found_same rows same (Err fault.RejectedMatrix) f = f
  found_same rows same (Err fault.RejectedTiming) f = f
  found_same rows same (Err fault.RejectedTree) f =
      (f.0, f.1, verdict_same same.0 same.1 (Err fault.RejectedTree) f.2)
  found_same rows same (Err fault.Memory) f = f

  -- where it doesn't stand in full
  found_denied : (rows : List MatrixRow) → ¬ TreesOfTold s.kind problem (said_filled s) None
      → (answer : Result Verdict CheckFault) → IsFoundTold problem rows best s lower answer
      → IsFoundTold problem rows best (said_filled s) None (denied answer)
  found_denied rows not_so (Ok v) f = (f.0, f.1, not_so)
  found_denied rows not_so (Err fault.RejectedMatrix) f = f
  found_denied rows not_so (Err fault.RejectedTiming) f = f
  found_denied rows not_so (Err fault.RejectedTree) f = (f.0, f.1, not_so)
  found_denied rows not_so (Err fault.Memory) f = f

  -- the least bound of the main tree, where those in holes are given
  least_same : AllStandSaid problem s → All (HoleStands problem) (told_holes problem s)
      → s.tree.aim.range ≡ None → AreRanged (map tree_filled s.older)
      → lower ≡ lowered None (flat_map (bounds_in_hole problem) (told_holes problem s)) → LeastIsSame
  least_same all holes whole ranged is =
      let goal = goal_said problem s.tree in
      let here = bounds_of goal ([] ∷ []) s.tree.nodes in
      let hs = holes_in goal ([] ∷ []) s.tree.nodes in
      let in_holes : flat_map (bounds_in_hole problem) (told_holes problem s) ≡ hole_bounds goal hs =
      flat_map-append (bounds_in_hole problem) (holes_of_trees problem s.older) (holes_of_tree problem s.tree)
      ∙ ap (λ xs. xs ++ flat_map (bounds_in_hole problem) (holes_of_tree problem s.tree))
      (none_older problem s.older ranged)
      ∙ bounds_main problem s.tree hs whole in
      lowered_append None here (one_more lower)
      ∙ ap (λ l. lowered (lowered None here) (one_more l)) (is ∙ ap (lowered None) in_holes)
      ∙ lowered_by (lowered None here) (hole_bounds goal hs)
      ∙ sym (fill_least goal None ([] ∷ []) s.tree.nodes all.0.nodes (tree_holes problem s.tree s.older holes))
      ∙ ap (lowered None) (sym (append-nil (bounds_of goal ([] ∷ []) (filled s.tree.nodes))))

-- ---- the whole certificate

-- a certificate without trees says nothing that doesn't stand
none_said : (problem : Parts) (best : Option ℕ) (cert : CertParts) → cert.lemmas ≡ [] → cert.main_tree ≡ None
    → AllStandSaid problem (cert_said problem best cert)
unfolding NodesStand
none_said problem best cert lemmas main =
    subst (λ ls. AllStandSaid problem (main_said best cert.main_tree (lemmas_said ls (lines_said problem cert))))
    (sym lemmas)
    (subst (λ t. AllStandSaid problem (main_said best t (lines_said problem cert))) (sym main)
    (record { next = tt; nodes = tt }, tt))

-- there is a main tree
abbrev IsTree : Option Plain → Type 0
IsTree None = ⊥
IsTree (Some tree) = ⊤

module _ (problem : Parts) (rows : List MatrixRow) (walk : CertWalk) (entries : List Entry)
    (marked : CertOf Marked) (lower : Option ℕ) (answer : Result Verdict CheckFault)
    (parts : HasOwnParts (unmark_cert marked)) (taken : Taken walk problem rows entries)
    (whole : in_full entries ≡ cert_events marked)
    (found : IsFoundOf problem rows walk entries lower answer) where
  abbrev best : Option ℕ
  best = load_in walk.placing

  abbrev cert : CertParts
  cert = unmark_cert marked

  abbrev s : Said
  s = said_by problem best entries

  full : said_filled s ≡ cert_said problem best cert
  full =
      sym (full_is problem best entries) ∙ ap (λ es. said_by problem best (map as_event es)) whole
      ∙ said_cert problem best marked

  kind_said : (main : Option Plain)
      → (main_said best main (lemmas_said cert.lemmas (lines_said problem cert))).kind ≡ cert.kind
  kind_said None = kind_kept problem cert.lemmas (lines_said problem cert)
  kind_said (Some tree) = kind_kept problem cert.lemmas (lines_said problem cert)

  kind_is : s.kind ≡ cert.kind
  kind_is = ap (λ (x : Said). x.kind) full ∙ kind_said cert.main_tree

  -- what is found of what was told in full
  holding : (a : Result Verdict CheckFault) → IsFoundTold problem rows best (said_filled s) None a
      → IsFoundHolding problem rows cert a
  holding a told =
      let of_cert =
      found_cert problem rows walk.has_rows walk.placing cert taken.knows parts a
      (subst (λ x. IsFoundTold problem rows best x None a) full told) in
      (of_cert, holds_cert problem rows walk.has_rows walk.placing cert taken.knows a of_cert)

  -- something of the trees falls
  falling : ¬ AllStandSaid problem s → IsFoundHolding problem rows cert answer
  falling not_so =
      holding answer (found_same problem best lower s rows
      (same_by_kind problem best lower s
      (λ all. absurd (not_so all), λ all. absurd (not_so (said_stood problem s all).0)) s.kind
      (λ is all. absurd (not_so all))) answer found)

  -- the main tree of the kind `open`, and those before it
  main_is : (main : Option Plain) → cert.main_tree ≡ main → IsTree main
      → (s.tree.aim.range ≡ None) × AreRanged (map tree_filled s.older)
  main_is None is some = absurd some
  main_is (Some tree) is some =
      let same : said_filled s
      ≡ with_end (main_said best (Some tree) (lemmas_said cert.lemmas (lines_said problem cert))) =
      full ∙ ap (λ t. with_end (main_said best t (lemmas_said cert.lemmas (lines_said problem cert)))) is in (
        ap (λ (x : Said). x.tree.aim.range) same,
        subst (λ (x : Said). AreRanged x.older) (sym same)
            (ranged_lemmas cert.lemmas (lines_said problem cert) (inl refl, tt)),
      )

  standing : HolesStand problem walk entries → lower ≡ least_in_holes problem walk entries
      → IsFoundHolding problem rows cert answer
  standing holes least =
      holding answer (found_same problem best lower s rows
      (same_by_kind problem best lower s
      (λ all. said_fill problem s all holes, λ all. (said_stood problem s all).0) s.kind bounds) answer found)
    where
      bounds : s.kind ≡ KindBetween → AllStandSaid problem s → LeastIsSame problem best lower s
      bounds is all =
          let tree =
          the_tree cert.main_tree (subst (λ k. HasParts k cert.frames cert.lemmas cert.main_tree)
          (sym kind_is ∙ is) parts) in
          let here = main_is (Some tree.0) tree.1 tt in
          least_same problem best lower s all holes here.0 here.1 least

  -- some hole's tree falls
  denying : ¬ HolesStand problem walk entries → IsFoundHolding problem rows cert (denied answer)
  denying not_so = holding (denied answer) (found_denied problem best lower s rows (by s.kind refl) answer found)
    where
      not_full : ¬ AllStandSaid problem (said_filled s)
      not_full all = not_so (said_stood problem s all).1

      own : (kind : Kind) → s.kind ≡ kind → HasParts kind cert.frames cert.lemmas cert.main_tree
      own kind is = subst (λ k. HasParts k cert.frames cert.lemmas cert.main_tree) (sym kind_is ∙ is) parts

      none : cert.lemmas ≡ [] → cert.main_tree ≡ None → ⊥
      none lemmas main =
          not_full (subst (AllStandSaid problem) (sym full) (none_said problem best cert lemmas main))

      by : (kind : Kind) → s.kind ≡ kind → ¬ TreesOfTold kind problem (said_filled s) None
      by KindPlaced is holds = none (own KindPlaced is).1 (own KindPlaced is).2
      by KindTimed is holds = none (own KindTimed is).0 (own KindTimed is).1
      by KindBetween is holds = not_full holds.0
      by KindBest is holds = not_full holds
      by KindNoSolution is holds = not_full holds

pub found_in_full : FoundInFull
found_in_full problem rows walk entries marked lower answer parts taken whole found = record {
  failed = λ fell.
      falling problem rows walk entries marked lower answer parts taken whole found
      (some_falls problem rows walk (said_by problem (load_in walk.placing) entries) taken fell);
  all_stand = standing problem rows walk entries marked lower answer parts taken whole found;
  some_falls = denying problem rows walk entries marked lower answer parts taken whole found;
}
