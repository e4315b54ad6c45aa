-- Nodes in preorder read back as the trees that they are of.
use Rattle.std.proofs.Common.{◌≡◌, ◌<◌, ◌≤◌, ℕ, suc, ◌+◌, List, [], ◌∷◌, ◌++◌, length, take, drop, map, Vec, refl, sym, ap, ◌∙◌, append_assoc, add-one, arith}
use Rattle.std.proofs.Math.ListN.{get_or}
use Rattle.std.proofs.lemmas.List.{drop_all, drop_more, map-append, take_all, take_more}
use Rattle.response_test.specs.declared.evidence.Evidence.{Evidence}
use Rattle.std.specs.declared.alloc.Global.{Global}
use Rattle.cert_text.specs.declared.parts.Tree.{Tree}
use Rattle.cert_text.specs.declared.parts.Tree.TheVariants.{Inner as Inner_tree}
use Rattle.cert_text.specs.Trees.{Plain, Plains, bound, fail, inner, left, more, none}
use Rattle.cert_text.specs.PlainTree.{onto, plain_of}
use Rattle.cert_text.proofs.Trees.{plain-Inner}
use Rattle.tree_search.specs.declared.node.Node.{Node}
use Rattle.tree_search.specs.declared.node.Node.TheVariants.{Inner, Bound, Left, Fail}
use Rattle.tree_search.specs.Flat.{count_of, flat, flat_each, flats}

abbrev pub list_of : Plains → List Plain
list_of none = []
list_of (more t ts) = t ∷ list_of ts

plains-list : (ts : Plains) → onto (list_of ts) none ≡ ts
plains-list none = refl
plains-list (more t ts) = ap (more t) (plains-list ts)

pub length-list : (ts : Plains) → length (list_of ts) ≡ count_of ts
length-list none = refl
length-list (more t ts) = ap suc (length-list ts) ∙ sym (add-one (count_of ts))

-- the nodes of trees are those of their list
pub flat_each-list : (ts : Plains) → flat_each ts ≡ flats (list_of ts)
flat_each-list none = refl
flat_each-list (more t ts) = ap (λ xs. flat t ++ xs) (flat_each-list ts)

-- one tree more of some trees is taken from the front
pub took-more : (ts done : List Plain) (k : ℕ) (t : Plain) (now new rest : List Node)
    → k < length ts → done ≡ take k ts → now ≡ flats (drop k ts) ++ rest
    → ((u : Plain) (after : List Node) → now ≡ flat u ++ after → (t ≡ u) × (new ≡ after))
    → (done ++ t ∷ [] ≡ take (k + 1) ts) × (new ≡ flats (drop (k + 1) ts) ++ rest)
took-more ts done k t now new rest lt is now_is took =
    let u = get_or ts k bound in
    let after = flats (drop (k + 1) ts) in
    let both : (t ≡ u) × (new ≡ after ++ rest) =
    took u (after ++ rest) (now_is ∙ ap (λ xs. flats xs ++ rest) (drop_more ts k bound lt)
    ∙ append_assoc (flat u) after rest) in
    (ap (λ x. done ++ x ∷ []) both.0 ∙ ap (λ xs. xs ++ u ∷ []) is ∙ sym (take_more ts k bound lt), both.1)

pub took-pushed : (ts : List Plain) (old new : List Tree) (k : ℕ) (tree : Tree)
    → new ≡ old ++ tree ∷ [] → map plain_of old ++ plain_of tree ∷ [] ≡ take (k + 1) ts
    → map plain_of new ≡ take (k + 1) ts
took-pushed ts old new k tree e is = ap (map plain_of) e ∙ map-append plain_of old (tree ∷ []) ∙ is

-- all of them are taken
pub took-all : (ts done : List Plain) (k count : ℕ) (now rest : List Node) → length ts ≡ count → count ≤ k
    → (done ≡ take k ts) × (now ≡ flats (drop k ts) ++ rest) → (done ≡ ts) × (now ≡ rest)
took-all ts done k count now rest many le h =
    let few : length ts ≤ k = omega arith in
    (h.0 ∙ take_all k ts few, h.1 ∙ ap (λ xs. flats xs ++ rest) (drop_all k ts few))

-- the tree that a node begins
pub took-inner : (t : Plain) (all end after rest : List Node) (count : ℕ) (v : Vec Tree Global)
    → all ≡ Inner count ∷ end
    → ((ts : List Plain) (more : List Node) → length ts ≡ count → end ≡ flats ts ++ more
    → (map plain_of v.items ≡ ts) × (after ≡ more))
    → all ≡ flat t ++ rest → (plain_of (Inner_tree v) ≡ t) × (after ≡ rest)
took-inner (inner ts) all end after rest count v e took f =
    let end_is : end ≡ flat_each ts ++ rest = cc in
    let many : count_of ts ≡ count = cc in
    let both : (map plain_of v.items ≡ list_of ts) × (after ≡ rest) =
    took (list_of ts) rest (length-list ts ∙ many) (end_is ∙ ap (λ xs. xs ++ rest) (flat_each-list ts)) in
    (plain-Inner v ∙ ap (λ us. inner (onto us none)) both.0 ∙ ap inner (plains-list ts), both.1)
took-inner bound all end after rest count v e took f = cc
took-inner left all end after rest count v e took f = cc
took-inner (fail named) all end after rest count v e took f = cc

pub took-bound : (t : Plain) (all end rest : List Node) → all ≡ Bound ∷ end → all ≡ flat t ++ rest
    → (bound ≡ t) × (end ≡ rest)
took-bound (inner ts) all end rest e f = cc
took-bound bound all end rest e f = (refl, cc)
took-bound left all end rest e f = cc
took-bound (fail named) all end rest e f = cc

pub took-left : (t : Plain) (all end rest : List Node) → all ≡ Left ∷ end → all ≡ flat t ++ rest
    → (left ≡ t) × (end ≡ rest)
took-left (inner ts) all end rest e f = cc
took-left bound all end rest e f = cc
took-left left all end rest e f = (refl, cc)
took-left (fail named) all end rest e f = cc

pub took-fail : (t : Plain) (all end rest : List Node) (named : List (ℕ × Evidence)) → all ≡ Fail named ∷ end
    → all ≡ flat t ++ rest → (fail named ≡ t) × (end ≡ rest)
took-fail (inner ts) all end rest named e f = cc
took-fail bound all end rest named e f = cc
took-fail left all end rest named e f = cc
took-fail (fail others) all end rest named e f =
    let same : named ≡ others = cc in
    (ap fail same, cc)

-- a tree has nodes
pub took-none : (t : Plain) (all rest : List Node) → all ≡ [] → all ≡ flat t ++ rest → ⊥
took-none (inner ts) all rest e f = cc
took-none bound all rest e f = cc
took-none left all rest e f = cc
took-none (fail named) all rest e f = cc
