-- How the program tells the sides of joins, and where it stands between them.
use Rattle.std.specs.Prelude.{◌≡◌, ℕ, ◌+◌, ◌<◌, ◌≤◌, ◌++◌, Bool, true, false, List, [], ◌∷◌, Option, Some, None, option_map, map, slice_index_or, if◌then◌else◌}
use Rattle.std.specs.List.{flat_map}
use Rattle.c_macro.specs.declared.pend.Pend.{Pend}
use Rattle.c_macro.specs.declared.joiner.Item.{Item}
use Rattle.c_macro.specs.declared.joiner.Item.TheVariants as item
use Rattle.c_macro.specs.declared.joiner.Joiner.{Joiner}
use Rattle.c_macro.specs.Marked.{Marked}
use Rattle.c_macro.specs.Bodies as bodies
use Rattle.c_macro.specs.SetData.{set_count, SetTable, Grown}
use Rattle.c_macro.specs.declared.pend.Given.{Given}
use Rattle.c_macro.specs.declared.part.Part.{Part}
use Rattle.c_macro.specs.Pending.{mark, marks, KnownAll, KnownArgs, args_data, part_data}

abbrev pub item_data : SetTable → Item → bodies.Item
item_data s (item.One p) = bodies.One (mark s p)
item_data s (item.Blank b) = bodies.Blank b
item_data s item.Glue = bodies.Glue

abbrev pub KnownItem : SetTable → Item → Type 0
KnownItem s (item.One p) = p.set < set_count s
KnownItem s (item.Blank b) = Unit {0}
KnownItem s item.Glue = Unit {0}

abbrev pub KnownLeft : SetTable → Option Item → Type 0
KnownLeft s None = Unit {0}
KnownLeft s (Some i) = KnownItem s i

-- what a side, behind which a join may stand, and the sides that follow come to
abbrev pub joining : Option bodies.Item → (glued : Bool) → List bodies.Item → Option (List Marked)
joining None glued is = bodies.joined is
joining (Some l) false is = bodies.joined_from l is
joining (Some l) true is = bodies.joined_from l (bodies.Glue ∷ is)

-- the same behind these tokens
abbrev pub joining_behind : List Marked → Option bodies.Item → Bool → List bodies.Item → Option (List Marked)
joining_behind out left glued is = option_map (λ ts. out ++ ts) (joining left glued is)

-- what the sides that follow come to
abbrev pub comes_to : SetTable → Joiner → List bodies.Item → Option (List Marked)
comes_to s j is = joining_behind (marks s j.out.items) (option_map (λ i. item_data s i) j.left) j.glued is

pub record KnownJoiner (s : SetTable) (j : Joiner) : Type 0 where
  pub out : KnownAll s j.out.items
  pub left : KnownLeft s j.left

-- a join that makes no token ends it
abbrev pub if_fine : Bool → Option (List Marked) → Option (List Marked)
if_fine true o = o
if_fine false o = None

abbrev pub IfTrue : Bool → Type 0 → Type 0
IfTrue true p = p
IfTrue false p = Unit {0}

abbrev pub is_glue : Item → Bool
is_glue item.Glue = true
is_glue _ = false

-- the last of some tokens
abbrev pub last_one : List Marked → List Marked
last_one [] = []
last_one (t ∷ []) = t ∷ []
last_one (t ∷ u ∷ ts) = last_one (u ∷ ts)

-- an argument, or its first and its last token alone
abbrev pub fed_of : (ends_only : Bool) → List Marked → List Marked
fed_of ends_only [] = []
fed_of ends_only (t ∷ ts) = t ∷ (if ends_only then last_one ts else ts)

-- the sides of a part, with all of an argument or its ends alone
abbrev pub fed_items : (ends_only : Bool) → List bodies.Arg → bodies.Part → List bodies.Item
fed_items ends_only args (bodies.Written s i) = bodies.side_items s (fed_of ends_only (slice_index_or args i bodies.no_arg).written)
fed_items ends_only args (bodies.Full s i) = bodies.ones (bodies.spaced_as s (fed_of ends_only (slice_index_or args i bodies.no_arg).full))
fed_items ends_only args p = bodies.part_items args p

abbrev pub all_fed : (ends_only : Bool) → List bodies.Part → List bodies.Arg → List bodies.Item
all_fed ends_only ps args = flat_map (fed_items ends_only args) ps

-- how many tokens there are before joins, and how many joins
abbrev pub ones_in : List bodies.Item → ℕ
ones_in [] = 0
ones_in (bodies.One t ∷ is) = 1 + ones_in is
ones_in (bodies.Blank s ∷ is) = ones_in is
ones_in (bodies.Glue ∷ is) = ones_in is

abbrev pub glues_in : List bodies.Item → ℕ
glues_in [] = 0
glues_in (bodies.One t ∷ is) = glues_in is
glues_in (bodies.Blank s ∷ is) = glues_in is
glues_in (bodies.Glue ∷ is) = 1 + glues_in is

abbrev pub is_join_part : bodies.Part → Bool
is_join_part bodies.Join = true
is_join_part _ = false

-- while the tokens of parts are counted: these parts are left
pub record Counting (whole left : List bodies.Part) (args : List bodies.Arg) (count joins : ℕ) : Type 0 where
  pub ones : count + ones_in (bodies.items left args) ≤ ones_in (bodies.items whole args)
  pub glues : glues_in (bodies.items whole args) ≤ joins + glues_in (bodies.items left args)

-- these sides were fed
pub record Fed (old new : SetTable) (j k : Joiner) (fed : List bodies.Item) (fine : Bool) : Type 0 where
  pub known : IfTrue fine (KnownJoiner new k)
  pub is : (is : List bodies.Item) → comes_to old j (fed ++ is) ≡ if_fine fine (comes_to new k is)

-- a side was fed behind this one
pub record FedFrom (old new : SetTable) (out : List Pend) (left : Item) (glued : Bool) (k : Joiner) (fed : bodies.Item) (fine : Bool) : Type 0 where
  pub known : IfTrue fine (KnownJoiner new k)
  pub is : (is : List bodies.Item) → joining_behind (marks old out) (Some (item_data old left)) glued (fed ∷ is) ≡ if_fine fine (comes_to new k is)

-- while tokens are fed: these are left
pub record Feeding (old now : SetTable) (j k : Joiner) (all : List bodies.Item) (left : List Pend) : Type 0 where
  pub grown : Grown old now
  pub known : KnownJoiner now k
  pub left_known : KnownAll now left
  pub is : (is : List bodies.Item) → comes_to old j (all ++ is) ≡ comes_to now k (bodies.ones (marks now left) ++ is)

-- while the parts of a body are fed: these are left
pub record Building (old now : SetTable) (ends_only : Bool) (args : List Given) (k : Joiner) (whole left : List Part) : Type 0 where
  pub grown : Grown old now
  pub known : KnownJoiner now k
  pub args_known : KnownArgs now args
  pub is : bodies.joined (all_fed ends_only (map part_data whole) (args_data old args)) ≡ comes_to now k (all_fed ends_only (map part_data left) (args_data now args))
