-- The tests of a list's items by their names.
use Rattle.std.specs.Prelude.{Bool}
use Rattle.edt_base.specs.YamlData.{Value}
use Rattle.bind_merge.specs.declared.checks.Item.{Item}
use Rattle.bind_merge.specs.declared.checks.Item.TheVariants as item
use Rattle.bind_merge.specs.Checks.{is_byte, is_cell, is_text}

abbrev pub is_item : Item → Value → Bool
is_item item.Cell v = is_cell v
is_item item.Byte v = is_byte v
is_item item.Text v = is_text v
