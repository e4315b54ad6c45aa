-- What a certificate says, and which parts each kind has.
use Rattle.std.specs.Prelude.{◌≡◌, ⊤, ℕ, zero, List, [], true, Option, None, Some, IsSome, map}
use Rattle.std.specs.List.{AllByRecursion}
use Rattle.std.specs.Option.{option_map}
use Rattle.cert_text.specs.declared.parts.Kind.{Kind}
use Rattle.cert_text.specs.declared.parts.Kind.TheVariants.{KindPlaced, KindTimed, KindBetween, KindBest, KindNoSolution}
use Rattle.cert_text.specs.declared.parts.FrameLine.{FrameLine}
use Rattle.cert_text.specs.Trees.{Marked, Plain, Stands, unmark}

-- a lemma, with trees of this type: its sender, its value and its tree
pub record LemmaOf (T : Type 0) : Type 0 where
  pub sender : ℕ
  pub value : ℕ
  pub tree : T

-- a certificate, with trees of this type
pub record CertOf (T : Type 0) : Type 0 where
  pub kind : Kind
  pub frames : List FrameLine
  pub lemmas : List (LemmaOf T)
  pub main_tree : Option T

-- the parts of a certificate, as contracts see them
abbrev pub CertParts : Type 0
CertParts = CertOf Plain

-- the parts are those that the kind has: none, frames, or frames, lemmas and a main tree
abbrev pub HasParts : {T : Type 0} → Kind → List FrameLine → List (LemmaOf T) → Option T → Type 0
HasParts KindPlaced frames lemmas tree = (frames ≡ []) × (lemmas ≡ []) × (tree ≡ None)
HasParts KindTimed frames lemmas tree = (lemmas ≡ []) × (tree ≡ None)
HasParts KindBetween frames lemmas tree = IsSome tree
HasParts KindBest frames lemmas tree = IsSome tree
HasParts KindNoSolution frames lemmas tree = IsSome tree

-- the certificate of a placed matrix, which has no parts
abbrev pub placed_parts : CertParts
placed_parts = record { kind = KindPlaced; frames = []; lemmas = []; main_tree = None }

-- the lemma without marks
abbrev pub unmark_lemma : LemmaOf Marked → LemmaOf Plain
unmark_lemma l = record { sender = l.sender; value = l.value; tree = unmark l.tree }

-- the certificate without marks
abbrev pub unmark_cert : CertOf Marked → CertParts
unmark_cert c = record {
  kind = c.kind;
  frames = c.frames;
  lemmas = map unmark_lemma c.lemmas;
  main_tree = option_map unmark c.main_tree;
}

-- a main tree, if there is one, stands
abbrev pub MainStands : Option Marked → Type 0
MainStands None = ⊤
MainStands (Some t) = Stands true zero t

-- the certificate has the parts of its kind, and its trees stand
pub record CertStands (c : CertOf Marked) : Type 0 where
  pub parts : HasParts c.kind c.frames c.lemmas c.main_tree
  pub lemmas_stand : AllByRecursion (λ (l : LemmaOf Marked). Stands true zero l.tree) c.lemmas
  pub main_stands : MainStands c.main_tree
