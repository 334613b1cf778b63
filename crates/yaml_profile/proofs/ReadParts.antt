-- What is found of a file's parts where they begin: each with the characters that spell it, and how reading goes on after it.
use Rattle.std.proofs.Common.{◌≡◌, ℕ, ◌+◌, ◌≤◌, Bool, true, false, not, ◌&&◌, ◌==◌, List, [], ◌∷◌, ◌++◌, Option, Some, None, Ok, ◌⊎◌}
use Rattle.std.specs.Char.{len_utf8}
use Rattle.edt_base.specs.YamlData.{Value}
use Rattle.yaml_profile.specs.declared.front.Role.{Role}
use Rattle.yaml_profile.specs.Fronts.{Frame, Waiting, Whole, AtLine, AfterValue, Front, front, is_deeper}
use Rattle.yaml_profile.specs.Pieces.{key_of, is_key_only, after_item}
use Rattle.yaml_profile.specs.Written.{Ending, spell_ending, IsEnding, spell_gaps, AreGaps, word_ends, is_mark, Scalar, spell_scalar, IsScalarText, scalar_value, Pad, spell_pad, IsPad, ends_before, Flow, spell_flow, IsFlow, flow_value, Key, spell_key, key_text, IsKey, Leaf, spell_leaf, IsLeaf, leaf_value}
use Rattle.yaml_profile.proofs.ReadSteps.{past, ReadsOn, all_ended, AtContent, Closed}

-- a character may begin a text at this place: the first on a line is no tab, and at the first column it begins no mark outside flow lists
abbrev pub MayBegin : (place : Option ℕ) → (flow : Bool) → (c : ℕ) → List ℕ → Type 0
MayBegin None flow c cs = Unit {0}
MayBegin (Some column) flow c cs = ((c == 9) ≡ false) × ((not flow && (column == 0) && is_mark true c cs) ≡ false)

-- columns that are deeper than the open blocks are no less than this
abbrev pub IsLeast : ℕ → List Frame → Type 0
IsLeast least fs = (n : ℕ) → is_deeper n fs ≡ true → least ≤ n

-- a line ends, after spaces and maybe a comment
pub record LineEnded (fs : List Frame) (w : Waiting) (at : ℕ) (xs : List ℕ) (v : Value) : Type 0 where
  pub ending : Ending
  pub rest : List ℕ
  pub parts : xs ≡ spell_ending ending ++ rest
  pub is : IsEnding ending
  pub on : ReadsOn (front fs (AtLine (past at (spell_ending ending)) w)) (past at (spell_ending ending)) rest v
  pub ended : all_ended false rest ≡ true

-- lines without content, and the start of the line after them
pub record Gapped (fs : List Frame) (w : Waiting) (s : ℕ) (xs : List ℕ) (v : Value) : Type 0 where
  pub gaps : List Ending
  pub rest : List ℕ
  pub parts : xs ≡ spell_gaps gaps ++ rest
  pub are : AreGaps gaps
  pub next : AtContent fs w (past s (spell_gaps gaps)) rest v
  pub ended : all_ended false rest ≡ true

-- an item of a flow list is whole: what stands after it, and the comma or bracket
pub record ItemEnded (fs : List Frame) (u : Value) (at : ℕ) (xs : List ℕ) (v : Value) : Type 0 where
  pub pad : Pad
  pub sign : ℕ
  pub rest : List ℕ
  pub parts : xs ≡ spell_pad pad ++ sign ∷ rest
  pub is : IsPad pad
  pub front : Front
  pub after : after_item fs u (past at (spell_pad pad)) sign ≡ Ok front
  pub on : ReadsOn front (past at (spell_pad pad) + len_utf8 sign) rest v
  pub ended : all_ended true rest ≡ true

-- a text in a flow list, with what stands after it
pub record FlowText (fs : List Frame) (place : Option ℕ) (least at : ℕ) (xs : List ℕ) (v : Value) : Type 0 where
  pub text : Scalar
  pub rest : List ℕ
  pub parts : xs ≡ spell_scalar text ++ rest
  pub item : ItemEnded fs (scalar_value text) (past at (spell_scalar text)) rest v
  pub is : IsScalarText place true (ends_before item.pad) least text

-- a flow list up to its closing bracket
pub record FlowList (fs : List Frame) (least level at : ℕ) (xs : List ℕ) (v : Value) : Type 0 where
  pub flow : Flow
  pub rest : List ℕ
  pub parts : xs ≡ spell_flow flow ++ rest
  pub is : (place : Option ℕ) (in_flow ended : Bool) → IsFlow place in_flow ended least level flow
  pub on : ReadsOn (front fs (AfterValue (Whole (flow_value flow)) false)) (past at (spell_flow flow)) rest v
  pub ended : all_ended true rest ≡ true

-- a value that is no block, outside flow lists
pub record LeafRead (fs : List Frame) (place : Option ℕ) (least level at : ℕ) (xs : List ℕ) (v : Value) : Type 0 where
  pub leaf : Leaf
  pub rest : List ℕ
  pub parts : xs ≡ spell_leaf leaf ++ rest
  pub is : IsLeaf place least level leaf
  pub closed : Closed fs (leaf_value leaf) (past at (spell_leaf leaf)) rest v
  pub ended : all_ended false rest ≡ true

-- a key with its colon
pub record Keyed (fs : List Frame) (role : Role) (place : Option ℕ) (at : ℕ) (xs : List ℕ) (v : Value) : Type 0 where
  pub key : Key
  pub rest : List ℕ
  pub parts : xs ≡ spell_key key ++ 58 ∷ rest
  pub is : IsKey place key
  pub word : word_ends true rest ≡ true
  pub begun : ℕ
  pub fails : ℕ
  pub front : Front
  pub named : key_of fs role (key_text key) begun fails ≡ Ok front
  pub on : ReadsOn front (past at (spell_key key ++ 58 ∷ [])) rest v
  pub ended : all_ended true rest ≡ true

-- outside flow lists a value begins: a key, or a value that is no block
abbrev pub ValueRead : List Frame → Role → (place : Option ℕ) → (least level at : ℕ) → List ℕ → Value → Type 0
ValueRead fs role place least level at xs v = Keyed fs role place at xs v ⊎ ((is_key_only role ≡ false) × LeafRead fs place least level at xs v)
