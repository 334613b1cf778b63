-- What `dts SRC..` answers over the bytes of its sources: the tree that they leave, as a source.
use Rattle.std.specs.Prelude.{◌≡◌, ◌⊎◌, ℕ, Bool, true, false, List, [], ◌∷◌, Result, Ok, Err, codes, length, nat_lt, if◌then◌else◌}
use Rattle.edt_base.specs.TreeData.{TreeData}
use Rattle.edt_base.specs.declared.fault.End.TheVariants as ending
use Rattle.edt_base.specs.declared.fault.Fault.{Fault}
use Rattle.edt_base.specs.declared.fault.Rule.TheVariants as rule
use Rattle.edt_base.specs.declared.fault.Place.TheVariants as place
use Rattle.dts_parse.specs.Source.{BreaksNone, IsFirstFault, IsScript}
use Rattle.dts_parse.specs.StmtData.{StmtData}
use Rattle.dts_tree.specs.Outcome.{outcome}
use Rattle.dts_print.specs.Printed.{printed}
use Rattle.edt_run.specs.Answer.{Answer, done, refused}

-- ---- the statements of sources, of which the first alone is a base

-- each source breaks no rule and has these statements
abbrev pub AreScripts : Bool → List (List ℕ) → List (List StmtData) → Type 0
AreScripts base [] [] = Unit {0}
AreScripts base (source ∷ sources) (script ∷ scripts) =
    IsScript source base script × (BreaksNone source base × AreScripts false sources scripts)
AreScripts base _ _ = ⊥

-- the fault is the first of this source
abbrev pub IsFaultOf : Bool → List ℕ → List ℕ → Fault → Type 0
IsFaultOf base name source fault = IsFirstFault {T = List StmtData} name source base (Err (ending.Fault fault))

-- the fault is the first of the first source that breaks a rule
abbrev pub IsFirstOf : Bool → List (List ℕ) → List (List ℕ) → Fault → Type 0
IsFirstOf base (name ∷ names) (source ∷ sources) fault =
    IsFaultOf base name source fault ⊎ (BreaksNone source base × IsFirstOf false names sources fault)
IsFirstOf base _ _ fault = ⊥

-- ---- the answer

-- how many bytes are printed at most
abbrev pub print_limit : ℕ
print_limit = 16777216

-- a tree is printed, unless that takes too many bytes; a fault is refused
abbrev pub over_tree : Result TreeData Fault → Answer
over_tree (Ok tree) = if nat_lt print_limit (length (printed tree))
    then refused (record { rule = rule.L10; place = place.Node (codes "/") }) else done (printed tree)
over_tree (Err fault) = refused fault

-- the first fault of a source's text, else what the statements leave
abbrev pub IsTreeAnswer : List (List ℕ) → List (List ℕ) → Answer → Type 0
IsTreeAnswer names sources answer =
    ((fault : Fault) × (IsFirstOf true names sources fault) × (answer ≡ refused fault))
    ⊎ ((scripts : List (List StmtData)) × (AreScripts true sources scripts) × (answer ≡ over_tree (outcome names scripts)))
