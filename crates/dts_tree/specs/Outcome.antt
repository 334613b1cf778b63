-- What sources leave: the tree, or the first broken rule with its place.
use Rattle.std.specs.Prelude.{ℕ, Bool, true, false, List, [], Option, Some, None, Result, Ok, Err, codes, find}
use Rattle.edt_base.specs.TreeData.{TreeData}
use Rattle.edt_base.specs.declared.fault.Fault.{Fault}
use Rattle.edt_base.specs.declared.fault.Place.TheVariants as fault
use Rattle.edt_base.specs.declared.fault.Rule.{Rule}
use Rattle.edt_base.specs.declared.fault.Rule.TheVariants as rule
use Rattle.dts_parse.specs.StmtData.{StmtData}
use Rattle.dts_tree.specs.Places.{Place, path_text}
use Rattle.dts_tree.specs.Reading.{Before, Unnamed, read_all, start}
use Rattle.dts_tree.specs.References.{unnamed_fault}
use Rattle.dts_tree.specs.Whole.{whole}
use Rattle.dts_tree.specs.Limits.{are_too_many, first_large, first_label_shared}
use Rattle.dts_tree.specs.Drafts.{DraftData, drafts}
use Rattle.dts_tree.specs.Final.{tree_of, all_props}
use Rattle.dts_tree.specs.Rules.{dangles, first_bad_phandle, has_bad_alias, first_mistyped}

abbrev pub at_path : Rule → List ℕ → Fault
at_path r path = record { rule = r; place = fault.Node path }

-- the tree of drafts, or the first broken rule of those that speak of what is left
abbrev pub mistyped_or : List DraftData → Option DraftData → Result TreeData Fault
mistyped_or ds None = Ok (tree_of ds)
mistyped_or ds (Some d) = Err (at_path rule.V11 d.path)

abbrev pub aliased_or : List DraftData → Bool → Result TreeData Fault
aliased_or ds true = Err (at_path rule.V3 (codes "/aliases"))
aliased_or ds false = mistyped_or ds (first_mistyped ds (all_props ds))

abbrev pub numbered_or : List DraftData → Option DraftData → Result TreeData Fault
numbered_or ds None = aliased_or ds (has_bad_alias ds (all_props ds))
numbered_or ds (Some d) = Err (at_path rule.V2 d.path)

abbrev pub referred_or : List DraftData → Option DraftData → Result TreeData Fault
referred_or ds None = numbered_or ds (first_bad_phandle [] ds)
referred_or ds (Some d) = Err (at_path rule.V1 d.path)

abbrev pub settled : List DraftData → Result TreeData Fault
settled ds = referred_or ds (find dangles ds)

-- the drafts of the nodes that are left, or the first broken rule of those that speak of all nodes
abbrev pub labelled_or : Before → Option Place → Result (List DraftData) Fault
labelled_or b None = Ok (drafts b)
labelled_or b (Some p) = Err (at_path rule.S4 (path_text p))

abbrev pub sized_or : Before → Option Place → Result (List DraftData) Fault
sized_or b None = labelled_or b (first_label_shared b)
sized_or b (Some p) = Err (at_path rule.L8 (path_text p))

abbrev pub counted_or : Before → Bool → Result (List DraftData) Fault
counted_or b true = Err (at_path rule.L7 (codes "/"))
counted_or b false = sized_or b (first_large b)

abbrev pub left_by : List (List ℕ) → Result Before Unnamed → Result (List DraftData) Fault
left_by files (Ok b) = counted_or b (are_too_many (whole b))
left_by files (Err u) = Err (unnamed_fault files u.source u.at)

-- the nodes that the sources of these names and statements leave, as drafts
abbrev pub drafted : List (List ℕ) → List (List StmtData) → Result (List DraftData) Fault
drafted files scripts = left_by files (read_all 0 start scripts)

abbrev pub settled_or : Result (List DraftData) Fault → Result TreeData Fault
settled_or (Ok ds) = settled ds
settled_or (Err f) = Err f

-- what the sources of these names and statements leave
abbrev pub outcome : List (List ℕ) → List (List StmtData) → Result TreeData Fault
outcome files scripts = settled_or (drafted files scripts)
