-- The first open leaf of a tree, and of its nodes in preorder.
use Rattle.std.proofs.Common.{◌≡◌, ℕ, zero, suc, ◌+◌, List, [], ◌∷◌, ◌++◌, length, replicate, Bool, true, false, cond, ◌||◌, refl, sym, ap, ◌∙◌, append_assoc, append-nil, length-append, add-one}
use Rattle.std.specs.Prelude.{⊤}
use Rattle.std.proofs.lemmas.List.{replicate-append-replicate}
use Rattle.pack_model.specs.declared.item.Item.{Item}
use Rattle.cert_text.specs.Trees.{Plain, Plains, bound, fail, inner, left, more, none}
use Rattle.grouping_tree.specs.Partial.{options_of}
use Rattle.grouping_tree.specs.Walk.{with_each}
use Rattle.bandwidth_bound.specs.Trees.{EachStands, Goal, TreeStands, open_places, open_places_each}
use Rattle.tree_search.specs.declared.node.Node.{Node}
use Rattle.tree_search.specs.declared.node.Node.TheVariants.{Inner, Bound, Left, Fail}
use Rattle.tree_search.specs.Flat.{IsClosed, count_of, flat, flat_each}
use Rattle.tree_search.specs.Open.{HasOptions, any_goal, any_open, has_open, lefts, put_first, put_first_in}
use Rattle.tree_search.specs.Shown.{Shows}

-- nodes in the place of the first open leaf
abbrev pub instead : List Node → List Node → List Node
instead v [] = []
instead v (Inner n ∷ xs) = Inner n ∷ instead v xs
instead v (Bound ∷ xs) = Bound ∷ instead v xs
instead v (Left ∷ xs) = v ++ xs
instead v (Fail named ∷ xs) = Fail named ∷ instead v xs

-- the list has an element
abbrev pub is_more : {A : Type 0} → List A → Bool
is_more [] = false
is_more (x ∷ xs) = true

is_more-append : {A : Type 0} (xs ys : List A) → is_more (xs ++ ys) ≡ (is_more xs || is_more ys)
is_more-append [] ys = refl
is_more-append (x ∷ xs) ys = refl

module _ (goal : Goal) where
  mutual
    -- a tree has an open leaf where the list of their places has an element
    pub has_open-is : (p : List ℕ) (t : Plain) → TreeStands goal p t
        → has_open t ≡ is_more (open_places goal.items p t)
    has_open-is p (inner ts) h = any_open-is p (options_of goal.items p) ts h.1
    has_open-is p bound h = refl
    has_open-is p left h = refl
    has_open-is p (fail named) h = refl

    any_open-is : (p : List ℕ) (ls : List ℕ) (ts : Plains) → EachStands goal p ls ts
        → any_open ts ≡ is_more (open_places_each goal.items p ls ts)
    any_open-is p [] none h = refl
    any_open-is p [] (more t ts) h = absurd h
    any_open-is p (l ∷ ls) none h = absurd h
    any_open-is p (l ∷ ls) (more t ts) h =
        ap (λ b. b || any_open ts) (has_open-is (p ++ l ∷ []) t h.0)
        ∙ ap (λ b. is_more (open_places goal.items (p ++ l ∷ []) t) || b) (any_open-is p ls ts h.1)
        ∙ sym (is_more-append (open_places goal.items (p ++ l ∷ []) t) (open_places_each goal.items p ls ts))

  -- what is open once the first open leaf is another tree
  abbrev pub opened : Plain → List (List ℕ) → List (List ℕ)
  opened u [] = []
  opened u (p ∷ rest) = open_places goal.items p u ++ rest

  opened-append : (u : Plain) (xs ys : List (List ℕ))
      → opened u (xs ++ ys) ≡ cond (is_more xs) (opened u xs ++ ys) (xs ++ opened u ys)
  opened-append u [] ys = refl
  opened-append u (p ∷ xs) ys = sym (append_assoc (open_places goal.items p u) xs ys)

  -- by a test
  by_test : (b : Bool) (p : List ℕ) (l : ℕ) (ls : List ℕ) (t u : Plain) (ts vs : Plains)
      → open_places_each goal.items p (l ∷ ls) (cond b (more t ts) (more u vs))
      ≡ cond b (open_places goal.items (p ++ l ∷ []) t ++ open_places_each goal.items p ls ts)
      (open_places goal.items (p ++ l ∷ []) u ++ open_places_each goal.items p ls vs)
  by_test true p l ls t u ts vs = refl
  by_test false p l ls t u ts vs = refl

  mutual
    -- the open leaves of a tree whose first one is another tree
    pub open-put_first : (p : List ℕ) (t u : Plain) → TreeStands goal p t
        → open_places goal.items p (put_first u t) ≡ opened u (open_places goal.items p t)
    open-put_first p (inner ts) u h = open-put_first_in p (options_of goal.items p) ts u h.1
    open-put_first p bound u h = refl
    open-put_first p left u h = sym (append-nil (open_places goal.items p u))
    open-put_first p (fail named) u h = refl

    open-put_first_in : (p : List ℕ) (ls : List ℕ) (ts : Plains) (u : Plain) → EachStands goal p ls ts
        → open_places_each goal.items p ls (put_first_in u ts)
        ≡ opened u (open_places_each goal.items p ls ts)
    open-put_first_in p [] none u h = refl
    open-put_first_in p [] (more t ts) u h = absurd h
    open-put_first_in p (l ∷ ls) none u h = absurd h
    open-put_first_in p (l ∷ ls) (more t ts) u h =
        let here = open_places goal.items (p ++ l ∷ []) t in
        let rest = open_places_each goal.items p ls ts in
        by_test (has_open t) p l ls (put_first u t) t ts (put_first_in u ts)
        ∙ ap (λ xs. cond (has_open t) (xs ++ rest)
        (here ++ open_places_each goal.items p ls (put_first_in u ts)))
        (open-put_first (p ++ l ∷ []) t u h.0)
        ∙ ap (λ xs. cond (has_open t) (opened u here ++ rest) (here ++ xs)) (open-put_first_in p ls ts u h.1)
        ∙ ap (λ b. cond b (opened u here ++ rest) (here ++ opened u rest)) (has_open-is (p ++ l ∷ []) t h.0)
        ∙ sym (opened-append u here rest)

  -- a tree stands at the first of some places
  abbrev pub AtFirst : Plain → List (List ℕ) → Type 0
  AtFirst u [] = ⊤
  AtFirst u (p ∷ rest) = TreeStands goal p u

  first-left : (u : Plain) (xs ys : List (List ℕ)) → AtFirst u (xs ++ ys) → AtFirst u xs
  first-left u [] ys h = tt
  first-left u (p ∷ xs) ys h = h

  -- in the first tree where that has an open leaf, and else in those after it
  stand-by_test : (b : Bool) (p : List ℕ) (l : ℕ) (ls : List ℕ) (t t' : Plain) (ts ts' : Plains)
      (here rest : List (List ℕ)) (u : Plain)
      → b ≡ is_more here → AtFirst u (here ++ rest)
      → TreeStands goal (p ++ l ∷ []) t → EachStands goal p ls ts
      → (AtFirst u here → TreeStands goal (p ++ l ∷ []) t') → (AtFirst u rest → EachStands goal p ls ts')
      → EachStands goal p (l ∷ ls) (cond b (more t' ts) (more t ts'))
  stand-by_test true p l ls t t' ts ts' here rest u e a h hs f g = (f (first-left u here rest a), hs)
  stand-by_test false p l ls t t' ts ts' [] rest u e a h hs f g = (h, g a)
  stand-by_test false p l ls t t' ts ts' (q ∷ here) rest u e a h hs f g = cc

  mutual
    -- a standing tree still stands where a tree that stands there takes the place of its first open leaf
    pub stands-put_first : (p : List ℕ) (t u : Plain) → TreeStands goal p t
        → AtFirst u (open_places goal.items p t)
        → TreeStands goal p (put_first u t)
    stands-put_first p (inner ts) u h a = (h.0, stand-put_first_in p (options_of goal.items p) ts u h.1 a)
    stands-put_first p bound u h a = h
    stands-put_first p left u h a = a
    stands-put_first p (fail named) u h a = h

    stand-put_first_in : (p : List ℕ) (ls : List ℕ) (ts : Plains) (u : Plain) → EachStands goal p ls ts
        → AtFirst u (open_places_each goal.items p ls ts) → EachStands goal p ls (put_first_in u ts)
    stand-put_first_in p [] none u h a = h
    stand-put_first_in p [] (more t ts) u h a = absurd h
    stand-put_first_in p (l ∷ ls) none u h a = absurd h
    stand-put_first_in p (l ∷ ls) (more t ts) u h a =
        let here = open_places goal.items (p ++ l ∷ []) t in
        let rest = open_places_each goal.items p ls ts in
        stand-by_test (has_open t) p l ls t (put_first u t) ts (put_first_in u ts) here rest u
        (has_open-is (p ++ l ∷ []) t h.0) a h.0 h.1
        (stands-put_first (p ++ l ∷ []) t u h.0) (stand-put_first_in p ls ts u h.1)

  -- open leaves, one for each label, stand where leaves may be open
  pub stand-lefts : (p ls : List ℕ) → goal.may_leave ≡ true → EachStands goal p ls (lefts (length ls))
  stand-lefts p [] may = tt
  stand-lefts p (l ∷ ls) may = (may, stand-lefts p ls may)

-- the number of subtrees stays
count-by_test : (b : Bool) (t u : Plain) (ts vs : Plains) → count_of ts ≡ count_of vs
    → count_of (cond b (more t ts) (more u vs)) ≡ count_of vs + 1
count-by_test true t u ts vs e = ap (λ n. n + 1) e
count-by_test false t u ts vs e = refl

pub count_of-put_first_in : (u : Plain) (ts : Plains) → count_of (put_first_in u ts) ≡ count_of ts
count_of-put_first_in u none = refl
count_of-put_first_in u (more t ts) =
    count-by_test (has_open t) (put_first u t) t ts (put_first_in u ts) (sym (count_of-put_first_in u ts))
    ∙ ap (λ n. n + 1) (count_of-put_first_in u ts)

flat-by_test : (b : Bool) (t u : Plain) (ts vs : Plains) (ys : List Node)
    → flat_each (cond b (more t ts) (more u vs)) ++ ys
    ≡ cond b (flat t ++ (flat_each ts ++ ys)) (flat u ++ (flat_each vs ++ ys))
flat-by_test true t u ts vs ys = append_assoc (flat t) (flat_each ts) ys
flat-by_test false t u ts vs ys = append_assoc (flat u) (flat_each vs) ys

inner_out : (b : Bool) (n : ℕ) (xs ys : List Node)
    → Inner n ∷ cond b xs ys ≡ cond b (Inner n ∷ xs) (Inner n ∷ ys)
inner_out true n xs ys = refl
inner_out false n xs ys = refl

end_of : (b c : Bool) (new old rest other ys zs : List Node)
    → cond b (new ++ (rest ++ ys)) (old ++ cond c (other ++ ys) (rest ++ zs))
    ≡ cond (b || c) (cond b (new ++ (rest ++ ys)) (old ++ (other ++ ys))) ((old ++ rest) ++ zs)
end_of true c new old rest other ys zs = refl
end_of false true new old rest other ys zs = refl
end_of false false new old rest other ys zs = sym (append_assoc old rest zs)

mutual
  -- of the nodes the first open leaf is replaced where there is one in the tree, and else one after it
  pub instead-flat : (u t : Plain) (ys : List Node)
      → instead (flat u) (flat t ++ ys)
      ≡ cond (has_open t) (flat (put_first u t) ++ ys) (flat t ++ instead (flat u) ys)
  instead-flat u (inner ts) ys =
      ap (λ xs. Inner (count_of ts) ∷ xs) (instead-flat_each u ts ys)
      ∙ inner_out (any_open ts) (count_of ts) (flat_each (put_first_in u ts) ++ ys)
      (flat_each ts ++ instead (flat u) ys)
      ∙ ap (λ n. cond (any_open ts) (Inner n ∷ (flat_each (put_first_in u ts) ++ ys))
      (Inner (count_of ts) ∷ (flat_each ts ++ instead (flat u) ys))) (sym (count_of-put_first_in u ts))
  instead-flat u bound ys = refl
  instead-flat u left ys = refl
  instead-flat u (fail named) ys = refl

  instead-flat_each : (u : Plain) (ts : Plains) (ys : List Node)
      → instead (flat u) (flat_each ts ++ ys)
      ≡ cond (any_open ts) (flat_each (put_first_in u ts) ++ ys) (flat_each ts ++ instead (flat u) ys)
  instead-flat_each u none ys = refl
  instead-flat_each u (more t ts) ys =
      ap (instead (flat u)) (append_assoc (flat t) (flat_each ts) ys)
      ∙ instead-flat u t (flat_each ts ++ ys)
      ∙ ap (λ xs. cond (has_open t) (flat (put_first u t) ++ (flat_each ts ++ ys)) (flat t ++ xs))
      (instead-flat_each u ts ys)
      ∙ end_of (has_open t) (any_open ts) (flat (put_first u t)) (flat t) (flat_each ts)
      (flat_each (put_first_in u ts)) ys (instead (flat u) ys)
      ∙ ap (λ xs. cond (has_open t || any_open ts) xs ((flat t ++ flat_each ts) ++ instead (flat u) ys))
      (sym (flat-by_test (has_open t) (put_first u t) t ts (put_first_in u ts) ys))

-- nodes that are no open leaves stay
instead-closed : (v nodes ys : List Node) → IsClosed nodes → instead v (nodes ++ ys) ≡ nodes ++ instead v ys
instead-closed v [] ys h = refl
instead-closed v (Inner n ∷ nodes) ys h = ap (λ xs. Inner n ∷ xs) (instead-closed v nodes ys h)
instead-closed v (Bound ∷ nodes) ys h = ap (λ xs. Bound ∷ xs) (instead-closed v nodes ys h)
instead-closed v (Left ∷ nodes) ys h = absurd h
instead-closed v (Fail named ∷ nodes) ys h = ap (λ xs. Fail named ∷ xs) (instead-closed v nodes ys h)

pub closed-append : (nodes others : List Node) → IsClosed nodes → IsClosed others → IsClosed (nodes ++ others)
closed-append [] others h k = k
closed-append (Inner n ∷ nodes) others h k = closed-append nodes others h k
closed-append (Bound ∷ nodes) others h k = closed-append nodes others h k
closed-append (Left ∷ nodes) others h k = absurd h
closed-append (Fail named ∷ nodes) others h k = closed-append nodes others h k

-- open leaves
pub flat-lefts : (n : ℕ) → flat_each (lefts n) ≡ replicate n Left
flat-lefts zero = refl
flat-lefts (suc n) = ap (λ xs. Left ∷ xs) (flat-lefts n)

pub count-lefts : (n : ℕ) → count_of (lefts n) ≡ n
count-lefts zero = refl
count-lefts (suc n) = ap (λ m. m + 1) (count-lefts n) ∙ add-one n

pub open-lefts : (items : List Item) (p ls : List ℕ)
    → open_places_each items p ls (lefts (length ls)) ≡ with_each p ls
open-lefts items p [] = refl
open-lefts items p (l ∷ ls) = ap (λ xs. (p ++ l ∷ []) ∷ xs) (open-lefts items p ls)

-- one open leaf more is done
pub shows-more : (items : List Item) (from : List ℕ) (nodes : List Node) (p : List ℕ)
    (rest opens : List (List ℕ)) (node : Node) (t u : Plain)
    → Shows items from nodes (p ∷ rest) t
    → IsClosed (node ∷ []) → flat u ≡ node ∷ replicate (length opens) Left → open_places items p u ≡ opens
    → HasOptions items p u
    → Shows items from (nodes ++ node ∷ []) (opens ++ rest) (put_first u t)
shows-more items from nodes p rest opens node t u shows closed flat_u open_u options_u =
    let after = replicate (length rest) Left in
    let is_open : has_open t ≡ true = has_open-is (any_goal items) from t shows.options
    ∙ ap is_more shows.open_are in
    let grown : flat (put_first u t) ++ [] ≡ (nodes ++ node ∷ []) ++ replicate (length (opens ++ rest)) Left =
    sym (instead-flat u t [] ∙ ap (λ b. cond b (flat (put_first u t) ++ []) (flat t ++ [])) is_open)
    ∙ ap (instead (flat u)) (append-nil (flat t) ∙ shows.flat_is)
    ∙ instead-closed (flat u) nodes (Left ∷ after) shows.closed
    ∙ ap (λ xs. nodes ++ (xs ++ after)) flat_u
    ∙ sym (append_assoc nodes (node ∷ []) (replicate (length opens) Left ++ after))
    ∙ ap (λ xs. (nodes ++ node ∷ []) ++ xs)
    (replicate-append-replicate (length opens) (length rest) Left
    ∙ ap (λ n. replicate n Left) (sym (length-append opens rest))) in
    record {
      closed = closed-append nodes (node ∷ []) shows.closed closed;
      flat_is = sym (append-nil (flat (put_first u t))) ∙ grown;
      open_are = open-put_first (any_goal items) from t u shows.options
          ∙ ap (opened (any_goal items) u) shows.open_are ∙ ap (λ xs. xs ++ rest) open_u;
      options = stands-put_first (any_goal items) from t u shows.options (rw shows.open_are options_u);
    }
