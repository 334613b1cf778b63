-- Sets of numbers by their places in a table.
use Rattle.std.specs.Prelude.{◌≡◌, ℕ, ◌+◌, ◌<◌, ◌%◌, ◌/◌, Bool, true, false, ◌&&◌, ◌||◌, List, [], ◌∷◌, ◌++◌, length, nat_eq, slice_index_or, if◌then◌else◌}
use Rattle.c_macro.specs.declared.numbers.Node.{Node}

abbrev pub Numbers : Type 0
Numbers = ℕ → Bool

abbrev pub no_numbers : Numbers
no_numbers = λ n. false

abbrev pub with_number : Numbers → ℕ → Numbers
with_number s k = λ n. nat_eq n k || s n

abbrev pub either_numbers : Numbers → Numbers → Numbers
either_numbers s t = λ n. s n || t n

abbrev pub common_numbers : Numbers → Numbers → Numbers
common_numbers s t = λ n. s n && t n

-- the half of each even number is in one set, and the half of each odd one, rounded down, in the other
abbrev pub halved : Numbers → Numbers → Numbers
halved evens odds = λ n. if nat_eq (n % 2) 0 then evens (n / 2) else odds (n / 2)

abbrev pub set_in : List Numbers → ℕ → Numbers
set_in sets k = slice_index_or sets k no_numbers

-- each node is a set of its own, which has two earlier ones as its halves
abbrev pub sets_from : List Numbers → List Node → List Numbers
sets_from sets [] = sets
sets_from sets (n ∷ ns) = sets_from (sets ++ halved (set_in sets n.evens) (set_in sets n.odds) ∷ []) ns

-- the empty set, and that of the number 0 alone
abbrev pub first_sets : List Numbers
first_sets = no_numbers ∷ (λ n. nat_eq n 0) ∷ []

-- the numbers of the set at a place
abbrev pub numbers_of : List Node → ℕ → Numbers
numbers_of nodes k = set_in (sets_from first_sets nodes) k

abbrev pub sets_count : List Node → ℕ
sets_count nodes = length nodes + 2

-- the halves of each node stand before it; k sets stand before the first node
abbrev pub AreEarlier : ℕ → List Node → Type 0
AreEarlier k [] = Unit {0}
AreEarlier k (n ∷ ns) = (n.evens < k) × (n.odds < k) × AreEarlier (k + 1) ns

-- the table has more sets, and those that it had stand where they stood
abbrev pub Extends : List Node → List Node → Type 0
Extends old new = (more : List Node) × (new ≡ old ++ more)

-- no set has a number that isn't below this one
abbrev pub AllBelow : ℕ → List Node → Type 0
AllBelow most nodes = (k n : ℕ) → numbers_of nodes k n ≡ true → n < most
