-- What a parser keeps, as the shape that its specification speaks of, and what a call leaves.
use Rattle.std.specs.Prelude.{◌≡◌, Result, Ok, Err, map}
use Rattle.std.specs.Prelude.{reverse}
use Rattle.dts_parse.specs.ActForm.{part_data}
use Rattle.dts_parse.specs.Inner.Machine.{Shape, Step}
use Rattle.dts_parse.specs.declared.parser.Parser.{Parser}
use Rattle.dts_parse.specs.declared.stop.Stop.{Stop}
use Rattle.dts_parse.specs.declared.stop.Stop.TheVariants as stops

abbrev pub shown : Parser → Shape
shown p = record {
  mode = p.mode;
  colon = p.colon;
  stage = p.stage;
  depth = p.depth;
  opened = reverse p.opened.items;
  labels = p.labels.items;
  marks = p.marks.items;
  name = p.name;
  parts = map part_data p.parts.items;
  cells = p.cells.items;
  bytes = p.bytes.items;
  begin = p.begin;
  long = p.long;
  huge = p.huge;
  frames = reverse p.frames.items;
  out = p.out.items;
}

-- a call leaves what is stated, or stops as is stated, or wants memory
abbrev pub Leaves : {T : Type 0} → Shape → Result T Stop → Step → Type 0
Leaves now (Ok x) stated = stated ≡ Ok now
Leaves now (Err (stops.Broken rule at)) stated = stated ≡ Err (record { rule = rule; at = at })
Leaves now (Err (stops.Memory e)) stated = Unit {0}
