-- What the rows of the walk stand for: the shapes of names and bodies, and the definition that a row is.
use Rattle.std.specs.Prelude.{◌++◌, ℕ, true, false, List, [], ◌∷◌, Option, Some, None, codes, length, map, take, if◌then◌else◌}
use Rattle.std.specs.List.{range_with_len}
use Rattle.edt_base.specs.Nodes.{path_at, okay_of}
use Rattle.edt_base.specs.NodeData.{NodeData}
use Rattle.dt_names.specs.Facts.{FactData, id_at, ords_body, braces, elem_visit, fact, visits, titled}
use Rattle.dt_names.specs.Inner.Lists.{values_of}
use Rattle.dt_names.specs.Pieces.{PieceData, lit, form, num}
use Rattle.dt_names.specs.Inner.Words.{piece_of}
use Rattle.dt_names.specs.declared.piece.Params.{Params}
use Rattle.dt_names.specs.declared.piece.Params.TheVariants as params
use Rattle.dt_names.specs.declared.piece.Piece.TheVariants as piece
use Rattle.dt_names.specs.declared.row.At.{At}
use Rattle.dt_names.specs.declared.row.At.TheVariants as at
use Rattle.dt_names.specs.declared.row.Ending.{Ending}
use Rattle.dt_names.specs.declared.row.Ending.TheVariants as ending
use Rattle.dt_names.specs.declared.row.Body.{Body}
use Rattle.dt_names.specs.declared.row.Body.TheVariants as body
use Rattle.dt_names.specs.declared.row.Row.{Row}
use Rattle.dt_names.specs.declared.row.Things.{Things}
use Rattle.dt_names.specs.declared.row.Things.TheVariants as things
use Rattle.dt_names.specs.declared.tail.Tail.{Tail}

-- what a name says behind the id of what it speaks of
abbrev pub at_pieces : At → List PieceData
at_pieces at.Itself = []
at_pieces (at.Nth mark i) = lit mark.now ∷ num i ∷ []
at_pieces (at.Named mark name) = lit mark.now ∷ form name.text.now ∷ []
at_pieces (at.Prop name) = lit (codes "_P_") ∷ form name.text.now ∷ []
at_pieces (at.Elem name i) = lit (codes "_P_") ∷ form name.text.now ∷ lit (codes "_IDX_") ∷ num i ∷ []
at_pieces (at.Entry name entry) =
    lit (codes "_P_") ∷ form name.text.now ∷ lit (codes "_NAME_") ∷ form entry.text.now ∷ []

-- how a name ends
abbrev pub ending_pieces : Ending → List PieceData
ending_pieces ending.Nothing = []
ending_pieces (ending.Mark mark) = lit mark.now ∷ []
ending_pieces (ending.Marks mark after) = lit mark.now ∷ lit after.now ∷ []
ending_pieces (ending.Word mark word) = lit mark.now ∷ form word.now ∷ []
ending_pieces (ending.Between mark word after) = lit mark.now ∷ form word.now ∷ lit after.now ∷ []

-- what a name has behind its id
abbrev pub tail_pieces : Tail → List PieceData
tail_pieces t = at_pieces t.at ++ ending_pieces t.ending

-- what is visited in a definition of the node n
abbrev pub things_at : List NodeData → ℕ → Things → List (List PieceData)
things_at nodes n (things.Ids ids) = map (id_at nodes) ids.now
things_at nodes n (things.OkayIds ids) = map (id_at nodes) (okay_of nodes ids.now)
things_at nodes n (things.Elems name count) = map (elem_visit (path_at nodes n) name.text.now) (range_with_len 0 count)
things_at nodes n (things.Numbers count) = map (λ k. num k ∷ []) (range_with_len 0 count)
things_at nodes n things.Nodes = map (id_at nodes) (range_with_len 0 (length nodes))
things_at nodes n things.OkayNodes = map (id_at nodes) (okay_of nodes (range_with_len 0 (length nodes)))

-- a body, of a definition of the node n with these parameters
abbrev pub body_pieces : List NodeData → ℕ → Params → Body → List PieceData
body_pieces nodes n ps (body.One p) = piece_of p ∷ []
body_pieces nodes n ps (body.Id id) = id_at nodes id
body_pieces nodes n ps (body.Ords ords) = ords_body ords.now
body_pieces nodes n ps (body.Braces vs) = braces (values_of vs)
body_pieces nodes n ps (body.Visits things) = visits ps (things_at nodes n things)

-- the row of a definition of a node
abbrev pub walk_row : ℕ → At → Ending → Params → Body → Row
walk_row n at ending ps body =
    record { owner = n; of_tree = false; goes_on = false; at = at; ending = ending; params = ps; body = body }

-- that of one without parameters
abbrev pub plain_row : ℕ → At → Ending → Body → Row
plain_row n at ending body = walk_row n at ending params.Plain body

-- that of one whose body is a number
abbrev pub number_row : ℕ → At → Ending → ℕ → Row
number_row n at ending k = plain_row n at ending (body.One (piece.Num k))

-- that of a cell, which goes on about the entry of the one before it
abbrev pub cell_row : ℕ → At → Ending → ℕ → Row
cell_row n at ending k = record (number_row n at ending k) { goes_on = true }

-- the row of a definition of the tree, which belongs to the node n
abbrev pub tree_row : ℕ → At → Ending → Params → Body → Row
tree_row n at ending ps body =
    record { owner = n; of_tree = true; goes_on = false; at = at; ending = ending; params = ps; body = body }

-- the definition that a row is
abbrev pub fact_of : List NodeData → Row → FactData
fact_of nodes r = record {
  owner = r.owner;
  heading = None;
  goes_on = r.goes_on;
  base = if r.of_tree then [] else id_at nodes r.owner;
  rest = at_pieces r.at ++ ending_pieces r.ending;
  params = r.params;
  body = body_pieces nodes r.owner r.params r.body;
}

-- the definitions of the rows that are there
abbrev pub waiting : List NodeData → List (Option Row) → List FactData
waiting nodes [] = []
waiting nodes (None ∷ rs) = waiting nodes rs
waiting nodes (Some r ∷ rs) = fact_of nodes r ∷ waiting nodes rs

-- definitions of which the first has the comment, where there is one
abbrev pub titled_by : Option (List ℕ) → List FactData → List FactData
titled_by None fs = fs
titled_by (Some heading) fs = titled heading fs

-- the definition with a comment before it
abbrev pub with_heading : List ℕ → FactData → FactData
with_heading heading f = record f { heading = Some heading }

-- the walks over the okay instances of a compatible string, the last of a group's definitions
abbrev pub okay_walks : List NodeData → ℕ → List ℕ → List ℕ → ℕ → List FactData
okay_walks nodes first compat ids okay =
    fact first (lit (codes "DT_FOREACH_OKAY_") ∷ form compat ∷ []) params.Fn
    (visits params.Fn (map (id_at nodes) (take okay ids)))
    ∷ fact first (lit (codes "DT_FOREACH_OKAY_VARGS_") ∷ form compat ∷ []) params.FnVargs
    (visits params.FnVargs (map (id_at nodes) (take okay ids)))
    ∷ fact first (lit (codes "DT_FOREACH_OKAY_INST_") ∷ form compat ∷ []) params.Fn (visits params.Fn (map
    (λ k. num k ∷ []) (range_with_len 0 okay)))
    ∷ []
