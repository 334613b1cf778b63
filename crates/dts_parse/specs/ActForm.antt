-- The data of what a statement does.
use Rattle.std.specs.Prelude.{map}
use Rattle.dts_parse.specs.StmtData.{ActData, PartData, Plain, Cells, Path, Open, Close, Label, Assign, DelProp, DelNode, Omit}
use Rattle.dts_parse.specs.declared.script.Act.{Act}
use Rattle.dts_parse.specs.declared.script.Act.TheVariants as act
use Rattle.dts_parse.specs.declared.script.RawPart.{RawPart}
use Rattle.dts_parse.specs.declared.script.RawPart.TheVariants as part

abbrev pub part_data : RawPart → PartData
part_data (part.Plain p) = Plain p
part_data (part.Cells cells) = Cells cells.items
part_data (part.Path target) = Path target

abbrev pub act_data : Act → ActData
act_data (act.Open t) = Open t
act_data act.Close = Close
act_data (act.Label name) = Label name
act_data (act.Assign name parts) = Assign name (map part_data parts.items)
act_data (act.DelProp name) = DelProp name
act_data (act.DelNode t) = DelNode t
act_data (act.Omit t) = Omit t
