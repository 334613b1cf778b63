use Rattle.std.proofs.Common.{drop, true, ◌≡◌, ◌++◌, List, ℕ}
use Rattle.edt_run.specs.Header.{lines_below}
use Rattle.edt_run.specs.Nodes.{forest_of}
use Rattle.edt_run.specs.Trail.{path_of, id_of}
use Rattle.edt_base.specs.Put.{Put}
use Rattle.edt_run.proofs.header.+put_below.Given as goal

-- the lines so far were put, and those of the nodes that are left are the rest
abbrev pub invariant-loop-place : goal.invariant-loop-place
invariant-loop-place g l =
    (lines : List ℕ) × (lines ++ lines_below (path_of l.parent) (id_of l.parent) l.place (forest_of (drop l.place l.nodes))
    ≡ lines_below (path_of l.parent) (id_of l.parent) 0 (forest_of l.nodes))
    × Put (g.S.Sink.seen l.initial.out) (g.S.Sink.seen l.out) l.initial.block l.block lines true
