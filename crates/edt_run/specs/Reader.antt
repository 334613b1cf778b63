-- Where the program stands in a source, as a front of the tree that is read.
use Rattle.std.specs.Prelude.{List, [], ◌∷◌, Option, Some, None, map, reverse}
use Rattle.edt_run.specs.declared.token.Brace.{Brace}
use Rattle.edt_run.specs.declared.token.Brace.TheVariants as brace
use Rattle.edt_run.specs.declared.reader.Open.{Open}
use Rattle.edt_run.specs.declared.reader.Reader.{Reader}
use Rattle.edt_run.specs.declared.reader.Step.{Step}
use Rattle.edt_run.specs.declared.reader.Step.TheVariants as step
use Rattle.edt_run.specs.Forest.{Forest}
use Rattle.edt_run.specs.Nodes.{named}
use Rattle.edt_run.specs.Reading.{Parent, Front, nested, ended}
use Rattle.edt_run.specs.Small as small

-- the two tokens of a brace
abbrev pub brace_tokens : Brace → List (Option small.Token)
brace_tokens (brace.Open name) = Some (small.Name name.now) ∷ Some small.Open ∷ []
brace_tokens brace.Close = Some small.Close ∷ Some small.Semicolon ∷ []

-- an open node, with the siblings before it
abbrev pub parent_of : Open → Parent
parent_of p = record { name = p.name; before = map named p.before.items }

-- open nodes, of which the program holds the innermost last
abbrev pub parents_of : List Open → List Parent
parents_of ps = reverse (map parent_of ps)

abbrev pub front_of : Reader → Front
front_of r = record { outer = parents_of r.outer.items; here = map named r.here.items; count = r.count }

-- the tree after a step, of which these tokens are the rest
abbrev pub after_step : Step → Front → List (Option small.Token) → Option Forest
after_step step.On f ts = nested f ts
after_step (step.Ended nodes) f ts = ended (map named nodes.items) ts
after_step step.Refused f ts = None
