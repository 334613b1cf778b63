-- What the words of a command line ask for: a job of the table of commands, or none.
use Rattle.std.specs.Prelude.{◌&&◌, ◌||◌, ℕ, Bool, not, List, [], ◌∷◌, Option, Some, None, codes, length, nat_eq, nat_le, option_and_then, if◌then◌else◌}
use Rattle.std.specs.List.{list_all, starts_with, count_by}
use Rattle.std.specs.Str.{bytes_eq}
use Rattle.edt_run.specs.declared.asked.Cmd.{Cmd}
use Rattle.edt_run.specs.declared.asked.Cmd.TheVariants as cmd

-- a job: its command, and the names in their order
pub record JobData : Type 0 where
  pub cmd : Cmd
  pub names : List (List ℕ)

-- ---- the table: the word of each command, and how many names stand after it at least and at most

unfoldable pub cmd_of : List ℕ → Option Cmd
cmd_of word =
    if bytes_eq word (codes "gen") then Some cmd.Gen
    else if bytes_eq word (codes "dts") then Some cmd.Dts
    else if bytes_eq word (codes "expand") then Some cmd.Expand
    else None

pub record RowData : Type 0 where
  pub least : ℕ
  pub most : ℕ

-- (`gen` takes one source of nested nodes until bindings are read)
abbrev pub row_of : Cmd → RowData
row_of cmd.Gen = record { least = 1; most = 1 }
row_of cmd.Dts = record { least = 1; most = 32 }
row_of cmd.Expand = record { least = 1; most = 33 }

-- ---- the names

-- the name of standard input
abbrev pub is_standard_input : List ℕ → Bool
is_standard_input name = bytes_eq name (codes "-")

-- standard input, or a word that begins with no dash
abbrev pub is_name : List ℕ → Bool
is_name word = is_standard_input word || not (starts_with nat_eq word (codes "-"))

-- so many names may stand
abbrev pub takes : RowData → ℕ → Bool
takes row count = nat_le row.least count && nat_le count row.most

-- standard input is named once at most
abbrev pub has_input_once : List (List ℕ) → Bool
has_input_once names = nat_le (count_by is_standard_input names) 1

abbrev pub fits : RowData → List (List ℕ) → Bool
fits row names = takes row (length names) && list_all is_name names && has_input_once names

-- ---- the job

abbrev pub job_for : Cmd → List (List ℕ) → Option JobData
job_for c names = if fits (row_of c) names then Some (record { cmd = c; names = names }) else None

-- every other word list is no job
abbrev pub job_of : List (List ℕ) → Option JobData
job_of [] = None
job_of (command ∷ names) = option_and_then (λ c. job_for c names) (cmd_of command)
