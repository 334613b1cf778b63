-- How the program tells a logical line.
use Rattle.c_tokens.specs.declared.lines.Reach.{Reach}
use Rattle.c_tokens.specs.Lines.{Logical}

abbrev pub logical_of : Reach → Logical
logical_of l = record { toks = l.toks.items; rest = l.rest.now; newlines = l.newlines }
