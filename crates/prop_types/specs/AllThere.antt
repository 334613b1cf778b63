-- All of some things that may not be there.
use Rattle.std.specs.Prelude.{List, [], ◌∷◌, Option, Some, None}

abbrev pub before : {X : Type 0} → Option X → Option (List X) → Option (List X)
before (Some x) (Some xs) = Some (x ∷ xs)
before _ _ = None

-- the things, in order; None where one isn't there
abbrev pub all_there : {X : Type 0} → List (Option X) → Option (List X)
all_there [] = Some []
all_there (x ∷ xs) = before x (all_there xs)
