-- What reading a source ends with.
use Rattle.std.specs.Prelude.{◌≡◌, ℕ, Bool, List, Ok}
use Rattle.dts_parse.specs.Inner.Machine.{Shape, walk}
use Rattle.dts_parse.specs.Source.{AreTokens, BreaksNone, IsFirst, IsScript}
use Rattle.dts_parse.specs.StmtData.{StmtData}
use Rattle.dts_parse.specs.Token.{Token}
use Rattle.dts_lex.specs.Left.{Left}
use Rattle.dts_parse.specs.declared.stop.Stop.{Stop}
use Rattle.dts_parse.specs.declared.stop.Stop.TheVariants as stops

-- these statements are the source's script, and its only one, and no rule is broken
pub record IsAnswer (src : List ℕ) (base : Bool) (stmts : List StmtData) : Type 0 where
  pub found : IsScript src base stmts
  pub only : (other : List StmtData) → IsScript src base other → stmts ≡ other
  pub none : BreaksNone src base

abbrev pub IsStop : List ℕ → Bool → Stop → Type 0
IsStop src base (stops.Broken rule at) = IsFirst src base rule at
IsStop src base (stops.Memory e) = Unit {0}

-- some first tokens are read, and all went well
pub record IsSoFar (src : List ℕ) (base : Bool) (left : Left) (s : Shape) : Type 0 where
  pub seen : List Token
  pub tokens : AreTokens src seen left
  pub walked : walk base seen ≡ Ok s
