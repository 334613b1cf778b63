-- Laws of expansion, for those who reason about definitions.
use Rattle.std.specs.Prelude.{◌≡◌, ℕ, zero, suc, ◌+◌, ◌<◌, ◌≤◌, Bool, true, false, ◌&&◌, List, [], ◌∷◌, ◌++◌, Option, Some, None, is_some, map, codes}
use Rattle.std.specs.List.{list_all}
use Rattle.edt_base.specs.declared.fault.Rule.TheVariants.{C7}
use Rattle.c_tokens.specs.declared.tok.TokKind.TheVariants as kind
use Rattle.c_tokens.specs.Bytes.{is_word_byte}
use Rattle.c_tokens.specs.Laws.{is_identifier}
use Rattle.c_macro.specs.MacroData.{Macro}
use Rattle.c_macro.specs.Directive.{is_punct}
use Rattle.c_macro.specs.Marked.{Bars, Marked}
use Rattle.c_macro.specs.Calls.{Opens, Closes, Parts, Inner, mark_of, commas_of, fitted}
use Rattle.c_macro.specs.Bodies.{Item, One, Glue, joined_tok, joined}
use Rattle.c_macro.specs.Expansion.{Macros, Call, macro_at, look, Outcome, Done, Refused, before, Expands}

-- what an expansion costs is the same from all units and within all limits: it comes to the same tokens, or to the limit
pub record MovedTo (k : ℕ) (d : Macros) (ts : List Marked) (u v : ℕ) (out : List Marked) : Type 0 where
  pub cost : ℕ
  pub up : v ≡ u + cost
  pub here : (w : ℕ) → w + cost ≤ k → Expands k d ts w (Done out (w + cost))
  pub far : (w : ℕ) → w ≤ k → k < w + cost → Expands k d ts w (Refused C7)

abbrev pub ExpandsElsewhere : Type 0
ExpandsElsewhere = (l k : ℕ) (d : Macros) (ts : List Marked) (u : ℕ) (out : List Marked) (v : ℕ) → Expands l d ts u (Done out v) → MovedTo k d ts u v out

-- no token is the name of a macro, or it is barred for each that is
abbrev pub AreIdle : Macros → List Marked → Type 0
AreIdle d [] = Unit {0}
AreIdle d (t ∷ ts) = (macro_at d t ≡ None) × AreIdle d ts

-- such tokens are put out as they are, and so are those before others
abbrev pub IdleTokensStay : Type 0
IdleTokensStay = (limit : ℕ) (d : Macros) (ts rest : List Marked) (u : ℕ) (o : Outcome) → AreIdle d ts → Expands limit d rest u o → Expands limit d (ts ++ rest) u (before ts o)

abbrev pub begins_open : List Marked → Bool
begins_open [] = false
begins_open (t ∷ ts) = is_punct (codes "(") t.tok

-- text that is expanded without a refusal may be followed by other text, unless this begins with a parenthesis that could make a call of the last name
abbrev pub ExpandsBefore : Type 0
ExpandsBefore = (limit : ℕ) (d : Macros) (ts rest : List Marked) (u v : ℕ) (out : List Marked) (o : Outcome) → begins_open rest ≡ false
    → Expands limit d ts u (Done out v) → Expands limit d rest v o → Expands limit d (ts ++ rest) u (before out o)

-- ---- calls over balanced arguments

-- tokens that may stand between the parentheses of a call: all parentheses among them are matched; `commas` says that commas may stand outside of these
pub data IsArgument : (commas : Bool) → List Marked → Type 0 where
  nothing : (commas : Bool) → IsArgument commas []
  inner : (commas : Bool) (t : Marked) (ts : List Marked) → mark_of t.tok ≡ Inner → IsArgument commas ts → IsArgument commas (t ∷ ts)
  comma : (t : Marked) (ts : List Marked) → mark_of t.tok ≡ Parts → IsArgument true ts → IsArgument true (t ∷ ts)
  group : (commas : Bool) (t last : Marked) (xs ts : List Marked) → mark_of t.tok ≡ Opens → mark_of last.tok ≡ Closes → IsArgument true xs → IsArgument commas ts
      → IsArgument commas (t ∷ xs ++ last ∷ ts)

-- an argument behind its comma
pub record Further : Type 0 where
  pub divider : Marked
  pub toks : List Marked

-- a call behind its opening parenthesis
abbrev pub written_call : (first : List Marked) → List Further → (last : Marked) → (rest : List Marked) → List Marked
written_call first [] last rest = first ++ last ∷ rest
written_call first (f ∷ fs) last rest = first ++ f.divider ∷ written_call f.toks fs last rest

-- these may be the arguments where so many commas part them, `None` for all of them: the variable part may hold commas
abbrev pub AreArguments : (commas : Option ℕ) → (first : List Marked) → List Further → Type 0
AreArguments (Some zero) first [] = IsArgument true first
AreArguments (Some zero) first (f ∷ fs) = ⊥
AreArguments None first [] = IsArgument false first
AreArguments None first (f ∷ fs) = IsArgument false first × (mark_of f.divider.tok ≡ Parts) × AreArguments None f.toks fs
AreArguments (Some (suc n)) first [] = IsArgument false first
AreArguments (Some (suc n)) first (f ∷ fs) = IsArgument false first × (mark_of f.divider.tok ≡ Parts) × AreArguments (Some n) f.toks fs

-- a call over such arguments is taken whole
abbrev pub CallsAreTaken : Type 0
CallsAreTaken = (d : Macros) (t o last : Marked) (m : Macro) (names : List (List ℕ)) (first : List Marked) (fs : List Further) (rest : List Marked) (raws : List (List Marked))
    → macro_at d t ≡ Some m → m.params ≡ Some names → is_punct (codes "(") o.tok ≡ true → AreArguments (commas_of names m.variadic) first fs → mark_of last.tok ≡ Closes
    → fitted names m.variadic (first ∷ map (λ f. f.toks) fs) ≡ Some raws
    → look d (t ∷ o ∷ written_call first fs last rest) ≡ Call t m names raws last rest

-- ---- joins of words

-- sides of joins behind a first one
abbrev pub glued : List Marked → List Item
glued [] = []
glued (b ∷ bs) = Glue ∷ One b ∷ glued bs

-- one identifier of all, for which the names are barred that are barred for each
abbrev pub joined_words : Marked → List Marked → Marked
joined_words a [] = a
joined_words a (b ∷ bs) = joined_words (joined_tok a b kind.Ident) bs

abbrev pub AreWords : List Marked → Type 0
AreWords [] = Unit {0}
AreWords (b ∷ bs) = (list_all is_word_byte b.tok.spell ≡ true) × AreWords bs

-- an identifier and words behind it are joined to one identifier
abbrev pub WordsAreJoined : Type 0
WordsAreJoined = (a : Marked) (bs : List Marked) → is_identifier a.tok.spell ≡ true → AreWords bs → joined (One a ∷ glued bs) ≡ Some (joined_words a bs ∷ [])

-- ---- bars of other names

-- the names of a set that have definitions
abbrev pub known_bars : Macros → Bars → Bars
known_bars d b = λ n. is_some (d n) && b n

abbrev pub known_mark : Macros → Marked → Marked
known_mark d t = record { tok = t.tok; bars = known_bars d t.bars }

abbrev pub known_marks : Macros → List Marked → List Marked
known_marks d ts = map (known_mark d) ts

abbrev pub known_outcome : Macros → Outcome → Outcome
known_outcome d (Done out u) = Done (known_marks d out) u
known_outcome d (Refused r) = Refused r

-- what tokens come to depends on no bar of a name without a definition
abbrev pub OtherBarsAreIdle : Type 0
OtherBarsAreIdle = (limit : ℕ) (d : Macros) (ts us : List Marked) (u : ℕ) (o p : Outcome) → known_marks d ts ≡ known_marks d us
    → Expands limit d ts u o → Expands limit d us u p → known_outcome d o ≡ known_outcome d p
