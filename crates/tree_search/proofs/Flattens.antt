-- The nodes of a tree that is made of others.
use Rattle.std.proofs.Common.{◌≡◌, ℕ, ◌+◌, List, [], ◌∷◌, ◌++◌, length, map, Vec, refl, sym, ap, ◌∙◌, append_assoc, append-nil, add-one}
use Rattle.std.proofs.lemmas.List.{map-append, length-map}
use Rattle.std.specs.declared.alloc.Global.{Global}
use Rattle.tree_search.specs.declared.node.Node.{Node}
use Rattle.tree_search.specs.declared.node.Node.TheVariants.{Inner}
use Rattle.cert_text.specs.declared.parts.Tree.{Tree}
use Rattle.cert_text.specs.declared.parts.Tree.TheVariants.{Inner as Inner_tree}
use Rattle.cert_text.specs.Trees.{Plain, none}
use Rattle.cert_text.specs.PlainTree.{onto, plain_of}
use Rattle.cert_text.proofs.Trees.{plain-Inner}
use Rattle.tree_search.specs.Flat.{count_of, flat, flat_each, flats}

pub flats-append : (ts us : List Plain) → flats (ts ++ us) ≡ flats ts ++ flats us
flats-append [] us = refl
flats-append (t ∷ ts) us = ap (λ xs. flat t ++ xs) (flats-append ts us)
    ∙ sym (append_assoc (flat t) (flats ts) (flats us))

flat_each-plains : (ts : List Plain) → flat_each (onto ts none) ≡ flats ts
flat_each-plains [] = refl
flat_each-plains (t ∷ ts) = ap (λ xs. flat t ++ xs) (flat_each-plains ts)

count-plains : (ts : List Plain) → count_of (onto ts none) ≡ length ts
count-plains [] = refl
count-plains (t ∷ ts) = ap (λ n. n + 1) (count-plains ts) ∙ add-one (length ts)

pub flat-Inner : (v : Vec Tree Global)
    → flat (plain_of (Inner_tree v)) ≡ Inner (length v.items) ∷ flats (map plain_of v.items)
flat-Inner v =
    ap flat (plain-Inner v)
    ∙ ap (λ n. Inner n ∷ flat_each (onto (map plain_of v.items) none))
    (count-plains (map plain_of v.items) ∙ length-map v.items plain_of)
    ∙ ap (λ xs. Inner (length v.items) ∷ xs) (flat_each-plains (map plain_of v.items))

pub flats-push : (all old new : List Node) (done : List Tree) (tree : Tree)
    → old ≡ all ++ flats (map plain_of done) → new ≡ old ++ flat (plain_of tree)
    → new ≡ all ++ flats (map plain_of (done ++ tree ∷ []))
flats-push all old new done tree e f =
    f ∙ ap (λ xs. xs ++ flat (plain_of tree)) e
    ∙ append_assoc all (flats (map plain_of done)) (flat (plain_of tree))
    ∙ ap (λ xs. all ++ xs) (ap (λ xs. flats (map plain_of done) ++ xs)
    (sym (append-nil (flat (plain_of tree))))
    ∙ sym (flats-append (map plain_of done) (plain_of tree ∷ []))
    ∙ ap flats (sym (map-append plain_of done (tree ∷ []))))

pub flat-whole : (before pushed out : List Node) (done : List Tree) (v : Vec Tree Global) (tree : Tree)
    (count : ℕ)
    → pushed ≡ before ++ Inner count ∷ [] → out ≡ pushed ++ flats (map plain_of done) → done ≡ v.items
    → tree ≡ Inner_tree v → count ≡ length v.items
    → out ≡ before ++ flat (plain_of tree)
flat-whole before pushed out done v tree count e f all is n =
    f ∙ ap (λ xs. xs ++ flats (map plain_of done)) e
    ∙ append_assoc before (Inner count ∷ []) (flats (map plain_of done))
    ∙ ap (λ ts. before ++ (Inner count ∷ flats (map plain_of ts))) all
    ∙ ap (λ m. before ++ (Inner m ∷ flats (map plain_of v.items))) n
    ∙ ap (λ xs. before ++ xs) (sym (flat-Inner v)) ∙ ap (λ r. before ++ flat (plain_of r)) (sym is)
