-- What stands between tokens: blanks, comments and skipped lines.
use Rattle.std.specs.Prelude.{ℕ, zero, suc, Bool, true, false, ◌&&◌, ◌||◌, List, [], ◌∷◌, Option, Some, None, nat_eq, codes, if◌then◌else◌}
use Rattle.std.specs.List.{starts_with}
use Rattle.edt_base.specs.Ascii.{hash, newline, space}
use Rattle.edt_base.specs.SourceBytes.{is_blank, is_digit}
use Rattle.dts_lex.specs.declared.between.Between.{Between}
use Rattle.dts_lex.specs.declared.between.Between.TheVariants.{LineStart, Within, Line, Opening, Comment, Closing}

-- a skipped line begins `# ` and a digit, or `#line` and a space or a tab
abbrev pub marks_place : List ℕ → Bool
marks_place (a ∷ b ∷ c ∷ rest) = nat_eq a hash && nat_eq b space && is_digit c
marks_place _ = false

abbrev pub skips : List ℕ → Bool
skips bytes = marks_place bytes || starts_with nat_eq bytes (codes "#line ")
    || starts_with nat_eq bytes (codes "#line\t")

-- a comment is closed: `*/` stands somewhere in what follows its `/*`
abbrev pub closes : List ℕ → Bool
closes [] = false
closes (a ∷ rest) = starts_with nat_eq (a ∷ rest) (codes "*/") || closes rest

-- after the first two bytes
abbrev pub closes_behind : List ℕ → Bool
closes_behind (a ∷ b ∷ rest) = closes rest
closes_behind _ = false

-- where one more byte leads between two tokens, `bytes` beginning with it; none where the gap ends before it
abbrev pub enter_within : ℕ → List ℕ → Option Between
enter_within b bytes =
    if nat_eq b newline then Some LineStart
    else if is_blank b then Some Within
    else if starts_with nat_eq bytes (codes "//") then Some Line
    else if starts_with nat_eq bytes (codes "/*") && closes_behind bytes then Some Opening
    else None

abbrev pub enter : Between → ℕ → List ℕ → Option Between
enter LineStart b bytes = if skips bytes then Some Line else enter_within b bytes
enter Within b bytes = enter_within b bytes
enter Line b bytes = if nat_eq b newline then Some LineStart else Some Line
enter Opening b bytes = Some Comment
enter Comment b bytes = if starts_with nat_eq bytes (codes "*/") then Some Closing else Some Comment
enter Closing b bytes = Some Within

-- how many bytes the gap has that begins with them
abbrev pub gap : Between → List ℕ → ℕ
gap k [] = 0
gap k (b ∷ rest) = elim (enter k b (b ∷ rest)) [ None ↦ 0 | Some next ↦ suc (gap next rest) ]

-- where a gap begins: at the source's first byte a line begins
abbrev pub start : ℕ → Between
start at = if nat_eq at 0 then LineStart else Within
