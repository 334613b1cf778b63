-- How the rules of one phase are tested: each node is asked in preorder, and the first that breaks a rule is told. A
-- phase ends before the next begins.
use Rattle.std.specs.Prelude.{◌≡◌, ◌<◌, ℕ, List, Result, Ok, Err, IsOk, length, map, ⊤}
use Rattle.std.specs.List.{range_with_len}
use Rattle.edt_base.specs.NodeData.{NodeData}
use Rattle.edt_base.specs.Nodes.{path_at}
use Rattle.edt_base.specs.declared.fault.End.{End}
use Rattle.edt_base.specs.declared.fault.End.TheVariants as ending
use Rattle.edt_base.specs.declared.fault.Fault.{Fault}
use Rattle.edt_base.specs.declared.fault.Place.TheVariants as place
use Rattle.edt_base.specs.declared.fault.Rule.{Rule}

-- no node breaks a rule, and these are their answers, in preorder
abbrev pub AreAnswers : {X : Type 0} → (ℕ → Result X Rule) → ℕ → List X → Type 0
AreAnswers {X} ask count xs = map {B = Result X Rule} Ok xs ≡ map ask (range_with_len 0 count)

-- no node breaks a rule
abbrev pub IsAnswered : {X : Type 0} → (ℕ → Result X Rule) → ℕ → Type 0
IsAnswered ask count = (id : ℕ) → id < count → IsOk (ask id)

-- a rule that is broken at a node
pub record IsAt (nodes : List NodeData) (node : ℕ) (r : Rule) (f : Fault) : Type 0 where
  pub there : node < length nodes
  pub is_rule : f.rule ≡ r
  pub is_place : f.place ≡ place.Node (path_at nodes node)

-- a node breaks this rule, and no node before it breaks any
pub record IsFirstBroken {X : Type 0} (nodes : List NodeData) (ask : ℕ → Result X Rule) (f : Fault) : Type 0 where
  pub node : ℕ
  pub is_at : IsAt nodes node f.rule f
  pub broken : ask node ≡ Err f.rule
  pub before : (id : ℕ) → id < node → IsOk (ask id)

-- why a phase has no answers: a rule is broken, or memory was wanted
abbrev pub IsPhaseEnd : {X : Type 0} → List NodeData → (ℕ → Result X Rule) → End → Type 0
IsPhaseEnd nodes ask (ending.Fault f) = IsFirstBroken nodes ask f
IsPhaseEnd nodes ask (ending.Memory e) = ⊤
