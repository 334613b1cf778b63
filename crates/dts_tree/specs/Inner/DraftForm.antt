-- The data of a draft's part.
use Rattle.dts_tree.specs.declared.draft.DraftPart.{DraftPart}
use Rattle.dts_tree.specs.declared.draft.DraftPart.TheVariants as part
use Rattle.dts_tree.specs.Drafts.{DraftPartData, Ready, Mixed, PathTo}

abbrev pub draft_part_data : DraftPart → DraftPartData
draft_part_data (part.Ready p) = Ready p
draft_part_data (part.Mixed cells) = Mixed cells.items
draft_part_data (part.PathTo r) = PathTo r
