-- After a mark comes a tree without marks.
use Rattle.std.proofs.Common.{◌≡◌, ◌+◌, ◌⊎◌, inl, inr, ℕ, zero, suc, Bool, true, false, List, [], ◌∷◌, ◌++◌, length, map, Option, None, Some, refl, sym, ap, subst, ◌∙◌, append_assoc, arith, zero-add}
use Rattle.std.specs.List.{AllByRecursion, flat_map}
use Rattle.cert_text.specs.declared.event.Event.{Event}
use Rattle.cert_text.specs.declared.event.Event.TheVariants as event
use Rattle.cert_text.specs.declared.parts.FrameLine.{FrameLine}
use Rattle.cert_text.specs.declared.parts.Tree.{Tree}
use Rattle.cert_text.specs.CertEvents.{cert_events, lemma_events, main_events, tree_events, trees_events}
use Rattle.cert_text.specs.Parts.{CertOf, CertStands, LemmaOf, MainStands}
use Rattle.cert_text.specs.PlainTree.{plain_of}
use Rattle.cert_text.specs.Trees.{AllStand, Marked, Markeds, Plain, Plains, Stands, bound, count, fail, inner, left, m_bound, m_fail, m_inner, m_left, m_more, m_none, more, none, shard}
use Rattle.par_check.specs.declared.gathering.OpenNode.{OpenNode}
use Rattle.par_check.specs.Gathered.{IsOfTree, bare, bare_all, bare_of, node_events, open_events}

-- ---- where a mark stands

-- a tree without marks follows
record TreeFollows (rest : List Event) : Type 0 where
  depth : ℕ
  tree : Marked
  stands : Stands false depth tree
  more : List Event
  is : rest ≡ tree_events tree ++ more

-- so it is after each mark among some events
abbrev AfterMarks : List Event → Type 0
AfterMarks es = (front rest : List Event) → es ≡ front ++ event.ShardMark ∷ rest → TreeFollows rest

-- an event among some and further ones is among the one or the other
record IsFirst (xs ys front rest : List Event) (e : Event) : Type 0 where
  here : List Event
  first : xs ≡ front ++ e ∷ here
  rest_is : rest ≡ here ++ ys

record IsLater (ys rest : List Event) (e : Event) : Type 0 where
  front : List Event
  later : ys ≡ front ++ e ∷ rest

either : (e : Event) (xs ys front rest : List Event) → xs ++ ys ≡ front ++ e ∷ rest
    → IsFirst xs ys front rest e ⊎ IsLater ys rest e
either e [] ys front rest is = inr (record { front = front; later = is })
either e (x ∷ xs) ys [] rest is =
    let head : x ≡ e = cc in
    let tail : xs ++ ys ≡ rest = cc in
    inl (record { here = xs; first = ap (λ y. y ∷ xs) head; rest_is = sym tail })
either e (x ∷ xs) ys (y ∷ front) rest is =
    let head : x ≡ y = cc in
    let tail : xs ++ ys ≡ front ++ e ∷ rest = cc in
    by head (either e xs ys front rest tail)
  where
    by : x ≡ y → IsFirst xs ys front rest e ⊎ IsLater ys rest e
        → IsFirst (x ∷ xs) ys (y ∷ front) rest e ⊎ IsLater ys rest e
    by head (inl f) = inl (record { here = f.here; first = ap (λ z. z ∷ xs) head ∙ ap (λ zs. y ∷ zs) f.first; rest_is = f.rest_is })
    by head (inr l) = inr l

longer : (ys rest here : List Event) → rest ≡ here ++ ys → TreeFollows here → TreeFollows rest
longer ys rest here is f = record {
  depth = f.depth;
  tree = f.tree;
  stands = f.stands;
  more = f.more ++ ys;
  is = is ∙ ap (λ es. es ++ ys) f.is ∙ append_assoc (tree_events f.tree) f.more ys;
}

marks_append : (xs ys : List Event) → AfterMarks xs → AfterMarks ys → AfterMarks (xs ++ ys)
marks_append xs ys first later front rest is = by (either event.ShardMark xs ys front rest is)
  where
    by : IsFirst xs ys front rest event.ShardMark ⊎ IsLater ys rest event.ShardMark → TreeFollows rest
    by (inl f) = longer ys rest f.here f.rest_is (first front f.here f.first)
    by (inr l) = later l.front rest l.later

no_marks : AfterMarks []
no_marks [] rest is = absurd cc
no_marks (e ∷ front) rest is = absurd cc

marks_cons : (e : Event) (es : List Event) → ¬ (e ≡ event.ShardMark) → AfterMarks es → AfterMarks (e ∷ es)
marks_cons e es other later [] rest is = absurd (other cc)
marks_cons e es other later (x ∷ front) rest is = later front rest cc

marks_shard : (t : Marked) (depth : ℕ) → Stands false depth t → AfterMarks (tree_events t ++ event.JoinMark ∷ [])
    → AfterMarks (event.ShardMark ∷ (tree_events t ++ event.JoinMark ∷ []))
marks_shard t depth stands later [] rest is =
    let tail : tree_events t ++ event.JoinMark ∷ [] ≡ rest = cc in
    record { depth = depth; tree = t; stands = stands; more = event.JoinMark ∷ []; is = sym tail }
marks_shard t depth stands later (e ∷ front) rest is = later front rest cc

mutual
  unfolding Stands AllStand tree_events trees_events

  marks_tree : (t : Marked) (marks : Bool) (depth : ℕ) → Stands marks depth t → AfterMarks (tree_events t)
  marks_tree (m_inner ts) marks depth stands =
      marks_cons (event.Node (count ts)) (trees_events ts) (λ e. cc) (marks_trees ts marks (suc depth) stands.1)
  marks_tree m_bound marks depth stands = marks_cons event.BoundLeaf [] (λ e. cc) no_marks
  marks_tree m_left marks depth stands = marks_cons event.OpenLeaf [] (λ e. cc) no_marks
  marks_tree (m_fail named) marks depth stands = marks_cons (event.FailLeaf named) [] (λ e. cc) no_marks
  marks_tree (shard t) true depth stands =
      marks_shard t depth stands (marks_append (tree_events t) (event.JoinMark ∷ []) (marks_tree t false depth stands)
      (marks_cons event.JoinMark [] (λ e. cc) no_marks))
  marks_tree (shard t) false depth stands = absurd stands

  marks_trees : (ts : Markeds) (marks : Bool) (depth : ℕ) → AllStand marks depth ts → AfterMarks (trees_events ts)
  marks_trees m_none marks depth stands = no_marks
  marks_trees (m_more t ts) marks depth stands =
      marks_append (tree_events t) (trees_events ts) (marks_tree t marks depth stands.0) (marks_trees ts marks depth stands.1)

marks_frames : (frames : List FrameLine) → AfterMarks (map event.FrameOf frames)
marks_frames [] = no_marks
marks_frames (f ∷ frames) = marks_cons (event.FrameOf f) (map event.FrameOf frames) (λ e. cc) (marks_frames frames)

marks_lemmas : (lemmas : List (LemmaOf Marked))
    → AllByRecursion (λ (l : LemmaOf Marked). Stands true zero l.tree) lemmas
    → AfterMarks (flat_map lemma_events lemmas)
marks_lemmas [] stand = no_marks
marks_lemmas (l ∷ lemmas) stand =
    marks_append (lemma_events l) (flat_map lemma_events lemmas)
    (marks_cons (event.LemmaOf l.sender l.value) (tree_events l.tree) (λ e. cc)
    (marks_tree l.tree true zero stand.0)) (marks_lemmas lemmas stand.1)

marks_main : (main : Option Marked) → MainStands main → AfterMarks (main_events main)
marks_main None stands = no_marks
marks_main (Some t) stands =
    marks_cons event.Main (tree_events t) (λ e. cc) (marks_tree t true zero stands)

marks_cert : (c : CertOf Marked) → CertStands c → AfterMarks (cert_events c)
marks_cert c stands =
    let end = main_events c.main_tree ++ event.Finish ∷ [] in
    let lemmas = flat_map lemma_events c.lemmas ++ end in
    marks_cons (event.Head c.kind) (map event.FrameOf c.frames ++ lemmas) (λ e. cc)
    (marks_append (map event.FrameOf c.frames) lemmas (marks_frames c.frames)
    (marks_append (flat_map lemma_events c.lemmas) end (marks_lemmas c.lemmas stands.lemmas_stand)
    (marks_append (main_events c.main_tree) (event.Finish ∷ []) (marks_main c.main_tree stands.main_stands)
    (marks_cons event.Finish [] (λ e. cc) no_marks))))

-- ---- how many trees are lacking

-- so many after further events, where so many were before
abbrev lacking : ℕ → List Event → Option ℕ
lacking n [] = Some n
lacking zero (e ∷ es) = None
lacking (suc n) (event.Node k ∷ es) = lacking (k + n) es
lacking (suc n) (event.BoundLeaf ∷ es) = lacking n es
lacking (suc n) (event.OpenLeaf ∷ es) = lacking n es
lacking (suc n) (event.FailLeaf named ∷ es) = lacking n es
lacking (suc n) (e ∷ es) = None

mutual
  unfolding Stands AllStand tree_events trees_events

  -- one less after the events of a tree
  one_less : (t : Marked) (depth n : ℕ) (es : List Event) → Stands false depth t
      → lacking (suc n) (tree_events t ++ es) ≡ lacking n es
  one_less (m_inner ts) depth n es stands = all_less ts (suc depth) n es stands.1
  one_less m_bound depth n es stands = refl
  one_less m_left depth n es stands = refl
  one_less (m_fail named) depth n es stands = refl
  one_less (shard t) depth n es stands = absurd stands

  all_less : (ts : Markeds) (depth n : ℕ) (es : List Event) → AllStand false depth ts
      → lacking (count ts + n) (trees_events ts ++ es) ≡ lacking n es
  all_less m_none depth n es stands = ap (λ k. lacking k es) (zero-add n)
  all_less (m_more t ts) depth n es stands =
      let next : suc (count ts) + n ≡ suc (count ts + n) = omega arith in
      ap (λ k. lacking k ((tree_events t ++ trees_events ts) ++ es)) next
      ∙ ap (lacking (suc (count ts + n))) (append_assoc (tree_events t) (trees_events ts) es)
      ∙ one_less t depth (count ts + n) (trees_events ts ++ es) stands.0
      ∙ all_less ts depth n es stands.1

mutual
  unfolding tree_events trees_events

  -- a tree without marks
  bare_less : (t : Plain) (n : ℕ) (es : List Event) → lacking (suc n) (tree_events (bare t) ++ es) ≡ lacking n es
  bare_less (inner ts) n es = bare_all_less ts n es
  bare_less bound n es = refl
  bare_less left n es = refl
  bare_less (fail named) n es = refl

  bare_all_less : (ts : Plains) (n : ℕ) (es : List Event)
      → lacking (count (bare_all ts) + n) (trees_events (bare_all ts) ++ es) ≡ lacking n es
  bare_all_less none n es = ap (λ k. lacking k es) (zero-add n)
  bare_all_less (more t ts) n es =
      let rest : Markeds = bare_all ts in
      let next : suc (count rest) + n ≡ suc (count rest + n) = omega arith in
      ap (λ k. lacking k ((tree_events (bare t) ++ trees_events rest) ++ es)) next
      ∙ ap (lacking (suc (count rest + n))) (append_assoc (tree_events (bare t)) (trees_events rest) es)
      ∙ bare_less t (count rest + n) (trees_events rest ++ es)
      ∙ bare_all_less ts n es

-- those that an inner node has
subtrees_less : (ts : List Tree) (n : ℕ) (es : List Event)
    → lacking (length ts + n) (flat_map (λ t. tree_events (bare_of t)) ts ++ es) ≡ lacking n es
subtrees_less [] n es = ap (λ k. lacking k es) (zero-add n)
subtrees_less (t ∷ ts) n es =
    let later : List Event = flat_map (λ t. tree_events (bare_of t)) ts in
    let next : length (t ∷ ts) + n ≡ suc (length ts + n) = omega arith in
    ap (λ k. lacking k ((tree_events (bare_of t) ++ later) ++ es)) next
    ∙ ap (lacking (suc (length ts + n))) (append_assoc (tree_events (bare_of t)) later es)
    ∙ bare_less (plain_of t) (length ts + n) (later ++ es)
    ∙ subtrees_less ts n es

-- open nodes lack a tree at least
open_lack : (nodes : List OpenNode) (n : ℕ) → (k : ℕ) × (lacking (suc n) (open_events nodes) ≡ Some (suc k))
open_lack [] n = (n, refl)
open_lack (node ∷ nodes) n =
    let here : List Event = flat_map (λ t. tree_events (bare_of t)) node.subtrees.items in
    let rest = open_lack nodes (node.lacking + n) in
    let next : (length node.subtrees.items + (node.lacking + 1)) + n
    ≡ length node.subtrees.items + suc (node.lacking + n) = omega arith in (
      rest.0,
      ap (λ k. lacking k (here ++ open_events nodes)) next
          ∙ subtrees_less node.subtrees.items (suc (node.lacking + n)) (open_events nodes) ∙ rest.1,
    )

-- ---- the next event of a tree

-- some events go on with one of a tree
pub record GoesOn (rest : List Event) : Type 0 where
  pub next : Event
  pub of_tree : IsOfTree next
  pub more : List Event
  pub is : rest ≡ next ∷ more

of_both : (xs ys : List Event) → AllByRecursion IsOfTree xs → AllByRecursion IsOfTree ys
    → AllByRecursion IsOfTree (xs ++ ys)
of_both [] ys all also = also
of_both (x ∷ xs) ys all also = (all.0, of_both xs ys all.1 also)

mutual
  unfolding Stands AllStand tree_events trees_events

  all_of_tree : (t : Marked) (depth : ℕ) → Stands false depth t → AllByRecursion IsOfTree (tree_events t)
  all_of_tree (m_inner ts) depth stands = (tt, all_of_trees ts (suc depth) stands.1)
  all_of_tree m_bound depth stands = (tt, tt)
  all_of_tree m_left depth stands = (tt, tt)
  all_of_tree (m_fail named) depth stands = (tt, tt)
  all_of_tree (shard t) depth stands = absurd stands

  all_of_trees : (ts : Markeds) (depth : ℕ) → AllStand false depth ts → AllByRecursion IsOfTree (trees_events ts)
  all_of_trees m_none depth stands = tt
  all_of_trees (m_more t ts) depth stands =
      of_both (tree_events t) (trees_events ts) (all_of_tree t depth stands.0) (all_of_trees ts depth stands.1)

-- some events go on where those of a tree do, or have all of these
cut : (part rest tree beyond : List Event) → AllByRecursion IsOfTree tree → part ++ rest ≡ tree ++ beyond
    → GoesOn rest ⊎ ((later : List Event) × (part ≡ tree ++ later))
cut part rest [] beyond all is = inr (part, refl)
cut [] rest (e ∷ tree) beyond all is =
    inl (record { next = e; of_tree = all.0; more = tree ++ beyond; is = is })
cut (p ∷ part) rest (e ∷ tree) beyond all is =
    let head : p ≡ e = cc in
    let tail : part ++ rest ≡ tree ++ beyond = cc in
    by head (cut part rest tree beyond all.1 tail)
  where
    by : p ≡ e → GoesOn rest ⊎ ((later : List Event) × (part ≡ tree ++ later))
        → GoesOn rest ⊎ ((later : List Event) × (p ∷ part ≡ (e ∷ tree) ++ later))
    by head (inl on) = inl on
    by head (inr all) = inr (all.0, ap (λ x. x ∷ part) head ∙ ap (λ xs. e ∷ xs) all.1)

none_lacking : (es : List Event) (k : ℕ) → ¬ (lacking zero es ≡ Some (suc k))
none_lacking [] k e = cc
none_lacking (x ∷ es) k e = cc

-- where a mark stands in a certificate and open nodes follow, an event of a tree comes next
pub goes_on : (c : CertOf Marked) (front rest : List Event) (nodes : List OpenNode) → CertStands c
    → cert_events c ≡ front ++ event.ShardMark ∷ (open_events nodes ++ rest) → GoesOn rest
goes_on c front rest nodes stands is =
    let f = marks_cert c stands front (open_events nodes ++ rest) is in
    by f (cut (open_events nodes) rest (tree_events f.tree) f.more (all_of_tree f.tree f.depth f.stands) f.is)
  where
    by : (f : TreeFollows (open_events nodes ++ rest))
        → GoesOn rest ⊎ ((later : List Event) × (open_events nodes ≡ tree_events f.tree ++ later)) → GoesOn rest
    by f (inl on) = on
    by f (inr all) =
        let lack = open_lack nodes zero in
        absurd (none_lacking all.0 lack.0
        (sym (one_less f.tree f.depth zero all.0 f.stands) ∙ ap (lacking (suc zero)) (sym all.1) ∙ lack.1))

-- ---- the end of a certificate

-- the last of some events, and of one before them
abbrev last_of : Event → List Event → Event
last_of e [] = e
last_of e (x ∷ xs) = last_of x xs

last_append : (e : Event) (xs ys : List Event) → last_of e (xs ++ ys) ≡ last_of (last_of e xs) ys
last_append e [] ys = refl
last_append e (x ∷ xs) ys = last_append x xs ys

-- a certificate ends with its last event
finishes : (c : CertOf Marked) (e : Event) → last_of e (cert_events c) ≡ event.Finish
finishes c e =
    let end = main_events c.main_tree ++ event.Finish ∷ [] in
    let head : Event = event.Head c.kind in
    last_append head (map event.FrameOf c.frames) (flat_map lemma_events c.lemmas ++ end)
    ∙ last_append (last_of head (map event.FrameOf c.frames)) (flat_map lemma_events c.lemmas) end
    ∙ last_append (last_of (last_of head (map event.FrameOf c.frames)) (flat_map lemma_events c.lemmas))
    (main_events c.main_tree) (event.Finish ∷ [])

mutual
  unfolding tree_events trees_events

  bare_of_tree : (t : Plain) → AllByRecursion IsOfTree (tree_events (bare t))
  bare_of_tree (inner ts) = (tt, bare_of_trees ts)
  bare_of_tree bound = (tt, tt)
  bare_of_tree left = (tt, tt)
  bare_of_tree (fail named) = (tt, tt)

  bare_of_trees : (ts : Plains) → AllByRecursion IsOfTree (trees_events (bare_all ts))
  bare_of_trees none = tt
  bare_of_trees (more t ts) =
      of_both (tree_events (bare t)) (trees_events (bare_all ts)) (bare_of_tree t) (bare_of_trees ts)

subtrees_of_tree : (ts : List Tree) → AllByRecursion IsOfTree (flat_map (λ t. tree_events (bare_of t)) ts)
subtrees_of_tree [] = tt
subtrees_of_tree (t ∷ ts) =
    of_both (tree_events (bare_of t)) (flat_map (λ t. tree_events (bare_of t)) ts) (bare_of_tree (plain_of t))
    (subtrees_of_tree ts)

open_of_tree : (nodes : List OpenNode) → AllByRecursion IsOfTree (open_events nodes)
open_of_tree [] = tt
open_of_tree (node ∷ nodes) =
    of_both (node_events node) (open_events nodes) (tt, subtrees_of_tree node.subtrees.items) (open_of_tree nodes)

-- events of a tree after one that isn't the end don't end with it
not_the_end : (e : Event) (es : List Event) → ¬ (e ≡ event.Finish) → AllByRecursion IsOfTree es
    → ¬ (last_of e es ≡ event.Finish)
not_the_end e [] other all is = other is
not_the_end e (x ∷ es) other all is = not_the_end x es (λ same. subst IsOfTree same all.0) all.1 is

-- a certificate doesn't end where a marked tree isn't whole
pub open_goes_on : (c : CertOf Marked) (front : List Event) (nodes : List OpenNode)
    → ¬ (cert_events c ≡ front ++ event.ShardMark ∷ open_events nodes)
open_goes_on c front nodes is =
    not_the_end event.ShardMark (open_events nodes) (λ e. cc) (open_of_tree nodes)
    (sym (last_append event.ShardMark front (event.ShardMark ∷ open_events nodes))
    ∙ ap (last_of event.ShardMark) (sym is) ∙ finishes c event.ShardMark)
