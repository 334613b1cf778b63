-- A block scalar: the text of the lines after `|` or `>`.
use Rattle.std.specs.Prelude.{ℕ, zero, suc, ◌-◌, Bool, true, false, not, ◌&&◌, ◌==◌, List, [], ◌∷◌, ◌++◌, Option, Some, None, if◌then◌else◌}
use Rattle.std.specs.Char.{encode_utf8}
use Rattle.edt_base.specs.Ascii.{newline, space}
use Rattle.yaml_profile.specs.declared.block_text.Chomp.{Chomp}
use Rattle.yaml_profile.specs.declared.block_text.Chomp.TheVariants.{Strip, Clip, Keep}

pub record BlockText : Type 0 where
  -- `>`
  pub folded : Bool
  -- `-`, nothing, `+`
  pub chomp : Chomp
  -- the spaces of each blank line before the first line of text
  pub leading : List ℕ
  -- the indentation, which is that of the first line of text
  pub indent : Option ℕ
  -- the text so far, without the end of its last line
  pub text : List ℕ
  -- whether it has a line, and whether the last one begins with a space
  pub begun : Bool
  pub spaced : Bool
  -- the line feeds of the empty lines after it
  pub feeds : List ℕ

abbrev pub no_lines : Bool → BlockText
no_lines folded = record {
  folded = folded;
  chomp = Clip;
  leading = [];
  indent = None;
  text = [];
  begun = false;
  spaced = false;
  feeds = [];
}

abbrev pub feeds_or_space : List ℕ → List ℕ
feeds_or_space [] = space ∷ []
feeds_or_space (f ∷ fs) = f ∷ fs

-- what stands between the last line and one that begins with a space or doesn't: a line end folds where neither begins
-- with one
abbrev pub line_joint : BlockText → Bool → List ℕ
line_joint b spaced = if not b.begun then b.feeds else if b.folded && not b.spaced && not spaced
    then feeds_or_space b.feeds else newline ∷ b.feeds

-- a line of text begins with this character
abbrev pub begin_line : BlockText → ℕ → BlockText
begin_line b c = record b {
  text = b.text ++ line_joint b (c == space) ++ encode_utf8 c;
  begun = true;
  spaced = c == space;
  feeds = [];
}

-- and goes on with this one
abbrev pub go_on : BlockText → ℕ → BlockText
go_on b c = record b { text = b.text ++ encode_utf8 c }

-- an empty line
abbrev pub empty_line : BlockText → BlockText
empty_line b = record b { feeds = b.feeds ++ newline ∷ [] }

-- so many spaces more on the line
abbrev pub more_spaces : BlockText → ℕ → BlockText
more_spaces b zero = b
more_spaces b (suc n) = more_spaces (go_on b 32) n

-- a line of spaces alone: those beyond the indentation are text
abbrev pub spaces_line : BlockText → ℕ → BlockText
spaces_line b zero = empty_line b
spaces_line b (suc n) = more_spaces (begin_line b 32) n

-- the blank lines before the first line of text, whose indentation is known now
abbrev pub lead_in : BlockText → ℕ → List ℕ → BlockText
lead_in b indent [] = b
lead_in b indent (s ∷ ss) = lead_in (spaces_line b (s - indent)) indent ss

-- the first line of text, at this indentation
unfoldable pub first_line : BlockText → ℕ → ℕ → BlockText
first_line b indent c = begin_line (lead_in (record b { indent = Some indent; leading = [] }) indent b.leading) c

-- a blank line of so many spaces: before the first line of text it waits, and after it is empty
abbrev pub blank_line : BlockText → ℕ → BlockText
blank_line b spaces = elim b.indent [ None ↦ record b { leading = b.leading ++ spaces ∷ [] } | Some i ↦ empty_line b ]

-- a line feed for each of the blank lines
abbrev pub feed_each : List ℕ → List ℕ
feed_each [] = []
feed_each (s ∷ ss) = newline ∷ feed_each ss

-- the value: of the line ends after its text one stays, none or all. Without text it has only blank lines
abbrev pub end_of : Chomp → Bool → List ℕ → List ℕ
end_of Strip begun feeds = []
end_of Clip begun feeds = if begun then newline ∷ [] else []
end_of Keep begun feeds = if begun then newline ∷ feeds else feeds

unfoldable pub block_text : BlockText → List ℕ
block_text b = b.text ++ end_of b.chomp b.begun (feed_each b.leading ++ b.feeds)
