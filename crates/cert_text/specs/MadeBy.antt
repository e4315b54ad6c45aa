-- What the builder holds.
use Rattle.std.specs.Prelude.{List, [], ◌∷◌, ◌++◌, map}
use Rattle.std.specs.Option.{option_map}
use Rattle.cert_text.specs.declared.builder.Unfinished.{Unfinished}
use Rattle.cert_text.specs.declared.builder.Builder.{Builder}
use Rattle.cert_text.specs.PlainTree.{plain_lemma, plain_of}
use Rattle.cert_text.specs.Making.{Made, OpenNode}

-- open nodes, of which the code holds the innermost last
unfoldable pub nodes_of : List Unfinished → List OpenNode
nodes_of [] = []
nodes_of (x ∷ xs) = nodes_of xs ++ (x.lacking, map plain_of x.done.items) ∷ []

-- what the events so far made
abbrev pub made_by : Builder → Made
made_by a = record {
  kind = a.kind;
  frames = a.frames.items;
  lemmas = map plain_lemma a.lemmas.items;
  goal = a.goal;
  nodes = nodes_of a.nodes.items;
  main = option_map plain_of a.main;
}
