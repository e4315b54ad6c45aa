-- What is gathered has the events that were taken.
use Rattle.std.proofs.Common.{◌≡◌, ◌<◌, ◌+◌, ◌-◌, ℕ, suc, List, [], ◌∷◌, ◌++◌, length, map, refl, sym, ap, ◌∙◌, append_assoc, arith, Vec, Global}
use Rattle.std.specs.List.{flat_map}
use Rattle.std.proofs.lemmas.List.{flat_map_more, length_push}
use Rattle.cert_text.specs.declared.event.Event.{Event}
use Rattle.cert_text.specs.declared.event.Event.TheVariants as event
use Rattle.cert_text.specs.declared.parts.Tree.{Tree}
use Rattle.cert_text.specs.declared.parts.Tree.TheVariants.{Bound, Fail, Inner, Left}
use Rattle.cert_text.specs.CertEvents.{tree_events, trees_events}
use Rattle.cert_text.specs.PlainTree.{onto, plain_of}
use Rattle.cert_text.specs.Trees.{count, none}
use Rattle.cert_text.proofs.Trees.{plain-Bound, plain-Fail, plain-Inner, plain-Left}
use Rattle.par_check.specs.declared.gathering.OpenNode.{OpenNode}
use Rattle.par_check.specs.Gathered.{bare, bare_all, bare_of, node_events, open_events}

-- the events of a tree
abbrev pub events_of : Tree → List Event
events_of t = tree_events (bare_of t)

-- one node more
pub open_push : (nodes : List OpenNode) (node : OpenNode)
    → open_events (nodes ++ node ∷ []) ≡ open_events nodes ++ node_events node
open_push nodes node = sym (flat_map_more node_events [] nodes node)

count_onto : (ts : List Tree) → count (bare_all (onto (map plain_of ts) none)) ≡ length ts
count_onto [] = refl
count_onto (t ∷ ts) = ap suc (count_onto ts)

events_onto : (ts : List Tree) → trees_events (bare_all (onto (map plain_of ts) none)) ≡ flat_map events_of ts
unfolding trees_events
events_onto [] = refl
events_onto (t ∷ ts) = ap (λ es. events_of t ++ es) (events_onto ts)

-- the events of an inner node
pub inner_events : (ts : Vec Tree Global)
    → tree_events (bare_of (Inner ts)) ≡ event.Node (length ts.items) ∷ flat_map events_of ts.items
unfolding tree_events
inner_events ts =
    ap (λ t. tree_events (bare t)) (plain-Inner ts)
    ∙ ap (λ n. event.Node n ∷ trees_events (bare_all (onto (map plain_of ts.items) none))) (count_onto ts.items)
    ∙ ap (λ es. event.Node (length ts.items) ∷ es) (events_onto ts.items)

-- a tree goes into a node, which is then either whole or lacks one less
pub into_node : (node : OpenNode) (n : ℕ) (ts : List Tree) (t : Tree) → ts ≡ node.subtrees.items ++ t ∷ []
    → length ts + n ≡ length node.subtrees.items + (node.lacking + 1)
    → event.Node (length ts + n) ∷ flat_map events_of ts ≡ node_events node ++ events_of t
into_node node n ts t is same =
    ap (λ k. event.Node k ∷ flat_map events_of ts) same
    ∙ ap (λ es. event.Node (length node.subtrees.items + (node.lacking + 1)) ∷ es)
    (ap (flat_map events_of) is ∙ sym (flat_map_more events_of [] node.subtrees.items t))

-- a tree goes into a node that lacks more
pub part_more : (before rest after : List OpenNode) (node new : OpenNode) (t : Tree) (all : List Event)
    → before ≡ rest ++ node ∷ [] → 0 < node.lacking → new.lacking ≡ node.lacking - 1
    → new.subtrees.items ≡ node.subtrees.items ++ t ∷ [] → after ≡ rest ++ new ∷ []
    → open_events before ++ events_of t ≡ all → open_events after ≡ all
part_more before rest after node new t all was some less more_trees now same =
    let count : length new.subtrees.items + (new.lacking + 1) ≡ length node.subtrees.items + (node.lacking + 1) =
    omega (arith, ap length more_trees, length_push node.subtrees.items t) in
    ap open_events now ∙ open_push rest new
    ∙ ap (λ es. open_events rest ++ es)
    (into_node node (new.lacking + 1) new.subtrees.items t more_trees count)
    ∙ sym (append_assoc (open_events rest) (node_events node) (events_of t))
    ∙ ap (λ es. es ++ events_of t) (sym (open_push rest node) ∙ ap open_events (sym was))
    ∙ same

-- a tree is a node's last
pub part_last : (before rest : List OpenNode) (node : OpenNode) (t : Tree) (ts : Vec Tree Global) (all : List Event)
    → before ≡ rest ++ node ∷ [] → node.lacking ≡ 0 → ts.items ≡ node.subtrees.items ++ t ∷ []
    → open_events before ++ events_of t ≡ all → open_events rest ++ events_of (Inner ts) ≡ all
part_last before rest node t ts all was none_left more_trees same =
    let count : length ts.items + 0 ≡ length node.subtrees.items + (node.lacking + 1) =
    omega (arith, ap length more_trees, length_push node.subtrees.items t) in
    let whole : length ts.items ≡ length ts.items + 0 = omega arith in
    ap (λ es. open_events rest ++ es)
    (inner_events ts ∙ ap (λ n. event.Node n ∷ flat_map events_of ts.items) whole
    ∙ into_node node 0 ts.items t more_trees count)
    ∙ sym (append_assoc (open_events rest) (node_events node) (events_of t))
    ∙ ap (λ es. es ++ events_of t) (sym (open_push rest node) ∙ ap open_events (sym was))
    ∙ same

-- no node is left
pub none_open : (nodes : List OpenNode) (t : Tree) (all : List Event) → length nodes ≡ 0
    → open_events nodes ++ events_of t ≡ all → events_of t ≡ all
none_open [] t all empty same = same
none_open (node ∷ nodes) t all empty same = absurd (omega arith)

-- a node without subtrees
pub begin_none : (n : ℕ) (ts : Vec Tree Global) → n ≡ 0 → ts.items ≡ []
    → events_of (Inner ts) ≡ event.Node n ∷ []
begin_none n ts none_left none_yet =
    inner_events ts ∙ ap (λ (xs : List Tree). event.Node (length xs) ∷ flat_map events_of xs) none_yet
    ∙ ap (λ k. event.Node k ∷ []) (sym none_left)

-- a node that lacks all its subtrees
pub begin_some : (n : ℕ) (before after : List OpenNode) (node : OpenNode) → (n ≡ 0 → ⊥) → node.lacking ≡ n - 1
    → node.subtrees.items ≡ [] → after ≡ before ++ node ∷ []
    → open_events after ≡ open_events before ++ event.Node n ∷ []
begin_some n before after node some less none_yet is =
    let count : 0 + (node.lacking + 1) ≡ n = omega arith in
    ap open_events is ∙ open_push before node
    ∙ ap (λ (xs : List Tree). open_events before
    ++ event.Node (length xs + (node.lacking + 1)) ∷ flat_map events_of xs) none_yet
    ∙ ap (λ k. open_events before ++ event.Node k ∷ []) count

-- leaves
pub events_of_bound : events_of Bound ≡ event.BoundLeaf ∷ []
unfolding tree_events
events_of_bound = ap (λ t. tree_events (bare t)) plain-Bound

pub events_of_left : events_of Left ≡ event.OpenLeaf ∷ []
unfolding tree_events
events_of_left = ap (λ t. tree_events (bare t)) plain-Left

pub events_of_fail : (named : _) → events_of (Fail named) ≡ event.FailLeaf named ∷ []
unfolding tree_events
events_of_fail named = ap (λ t. tree_events (bare t)) (plain-Fail named)
