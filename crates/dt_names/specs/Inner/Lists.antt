-- What is left of a body, in pieces.
use Rattle.std.specs.Prelude.{ℕ, List, [], ◌∷◌, ◌++◌, codes, map}
use Rattle.std.specs.List.{flat_map}
use Rattle.dt_names.specs.Facts.{id_at, id_pieces, elem_visit, visit, visits, visit_end, between, ords_body, braces}
use Rattle.edt_base.specs.Nodes.{okay_of}
use Rattle.dt_names.specs.Pieces.{PieceData, lit, form, str, num}
use Rattle.dt_names.specs.Inner.Places.{places_in}
use Rattle.dt_names.specs.Inner.Words.{piece_of}
use Rattle.dt_names.specs.declared.piece.Params.{Params}
use Rattle.dt_names.specs.declared.list.Listed.{Listed}
use Rattle.dt_names.specs.declared.list.Listed.TheVariants as list
use Rattle.dt_names.specs.declared.list.Thing.{Thing}
use Rattle.dt_names.specs.declared.list.Thing.TheVariants as thing
use Rattle.dt_names.specs.declared.list.Values.{Values}
use Rattle.dt_names.specs.declared.list.Values.TheVariants as values
use Rattle.dt_names.specs.declared.list.Visited.{Visited}
use Rattle.dt_names.specs.declared.list.Visited.TheVariants as visited

-- the values in braces
abbrev pub values_of : Values → List PieceData
values_of (values.Ints ks) = map num ks.now
values_of (values.Bytes bs) = map num bs.now
values_of (values.Texts ss) = map str ss.now

-- a thing that is visited, or what is left of one
abbrev pub thing_pieces : Thing → List PieceData
thing_pieces (thing.Id id) = id_pieces id.path.now
thing_pieces (thing.Elem id name i) = elem_visit id.path.now name.text.now i
thing_pieces (thing.Behind name i) = lit (codes ", ") ∷ form name.text.now ∷ lit (codes ", ") ∷ num i ∷ []
thing_pieces (thing.Named name i) = form name.text.now ∷ lit (codes ", ") ∷ num i ∷ []
thing_pieces (thing.Placed i) = lit (codes ", ") ∷ num i ∷ []
thing_pieces (thing.Number k) = num k ∷ []
thing_pieces thing.Nothing = []

-- the things that are visited
abbrev pub things_of : Visited → List (List PieceData)
things_of (visited.Ids b ids) = map (id_at b.now.tree.nodes) ids.now
things_of (visited.OkayIds b ids) = map (id_at b.now.tree.nodes) (okay_of b.now.tree.nodes ids.now)
things_of (visited.Elems id name places) = map (elem_visit id.path.now name.text.now) (places_in places)
things_of (visited.Numbers places) = map (λ k. num k ∷ []) (places_in places)
things_of (visited.Nodes b places) = map (id_at b.now.tree.nodes) (places_in places)
things_of (visited.OkayNodes b places) = map (id_at b.now.tree.nodes) (okay_of b.now.tree.nodes (places_in places))

-- what is left of lists behind their first
abbrev pub more_visits : Params → List (List PieceData) → List PieceData
more_visits ps things = flat_map (λ t. lit (between ps) ∷ visit ps t) things

abbrev pub more_ords : List ℕ → List PieceData
more_ords os = flat_map (λ o. lit (codes " ") ∷ num o ∷ lit (codes ",") ∷ []) os

abbrev pub more_values : List PieceData → List PieceData
more_values vs = flat_map (λ v. lit (codes ", ") ∷ v ∷ []) vs ++ lit (codes "}") ∷ []

-- a list, and what is left of one
abbrev pub listed : Listed → List PieceData
listed list.Nothing = []
listed (list.One p) = piece_of p ∷ []
listed (list.Visits ps things) = visits ps (things_of things)
listed (list.Open ps t things) = lit (codes "fn(") ∷ ((thing_pieces t ++ lit (visit_end ps) ∷ [])
    ++ more_visits ps (things_of things))
listed (list.Within ps t things) = (thing_pieces t ++ lit (visit_end ps) ∷ []) ++ more_visits ps (things_of things)
listed (list.MoreVisits ps things) = more_visits ps (things_of things)
listed (list.Ords os) = ords_body os.now
listed (list.Ord o os) = num o ∷ lit (codes ",") ∷ more_ords os.now
listed (list.Comma os) = lit (codes ",") ∷ more_ords os.now
listed (list.MoreOrds os) = more_ords os.now
listed (list.Braces vs) = braces (values_of vs)
listed (list.Value p vs) = piece_of p ∷ more_values (values_of vs)
listed (list.MoreBraces vs) = more_values (values_of vs)
