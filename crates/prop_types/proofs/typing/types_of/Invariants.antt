use Rattle.std.proofs.Common.{◌≡◌, ◌||◌, ℕ, List, drop, map}
use Rattle.prop_types.specs.Inner.Places.{has_name}
use Rattle.prop_types.specs.Inner.Seen.{seen}
use Rattle.prop_types.specs.Typing.{is_declared}
use Rattle.prop_types.proofs.typing.types_of.Given as goal

abbrev pub invariant-loop-property : goal.invariant-loop-property
invariant-loop-property l = (t : List ℕ) → (has_name l.types t || is_declared (map seen (drop l.property-index l.declared)) t)
    ≡ is_declared (map seen l.declared) t
