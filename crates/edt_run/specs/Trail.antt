-- The way from the root to a node, as path and as id.
use Rattle.std.specs.Prelude.{ℕ, List, []}
use Rattle.edt_run.specs.declared.trail.Trail.{Trail, Root, Below'}
use Rattle.edt_run.specs.Header.{path_below, id_below, root_id}

-- the path, nothing for the root
abbrev pub path_of : Trail → List ℕ
path_of Root = []
path_of (Below' p up name) = path_below (path_of up) name.now

-- the id
abbrev pub id_of : Trail → List ℕ
id_of Root = root_id
id_of (Below' p up name) = id_below (id_of up) name.now
