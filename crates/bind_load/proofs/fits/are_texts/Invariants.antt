use Rattle.std.proofs.Common.{◌≡◌, drop}
use Rattle.std.specs.List.{list_all}
use Rattle.edt_base.specs.YamlData.{item_list}
use Rattle.bind_load.specs.Inner.Seen.{items_of}
use Rattle.bind_load.specs.Forms.{is_text}
use Rattle.bind_load.proofs.fits.are_texts.Given as goal

abbrev pub invariant-loop-item : goal.invariant-loop-item
invariant-loop-item l = list_all is_text (item_list (items_of (drop l.item-index l.item-items))) ≡ list_all is_text (item_list (items_of l.item-items))
