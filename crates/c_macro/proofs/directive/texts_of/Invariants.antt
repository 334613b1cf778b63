use Rattle.std.proofs.Common.{◌≡◌, map, take, List, ℕ, Bor}
use Rattle.c_macro.proofs.directive.texts_of.Given as goal

abbrev pub invariant-loop-name : goal.invariant-loop-name
invariant-loop-name l = map {A = Bor (List ℕ)} {B = List ℕ} (λ b. b.now) l.texts.items ≡ take l.name-index l.names
