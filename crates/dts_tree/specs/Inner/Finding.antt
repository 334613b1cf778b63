-- What labels name, once all statements are carried out. No part of what is promised.
use Rattle.std.specs.Prelude.{ℕ, List, Option, None, Some, map, slice_index_or}
use Rattle.dts_tree.specs.Inner.Machine.{ReaderData}
use Rattle.dts_tree.specs.Inner.Grown.{last_alive}

abbrev pub tops_of : ReaderData → List (Option ℕ)
tops_of r = map (last_alive r.arena.gone None) r.labels.stacks

abbrev pub top_at : List (Option ℕ) → Option ℕ → Option ℕ
top_at tops None = None
top_at tops (Some n) = slice_index_or tops n None
