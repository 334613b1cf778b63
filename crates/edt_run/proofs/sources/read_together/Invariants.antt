use Rattle.std.specs.Prelude.{◌≡◌, ◌++◌, ℕ, List, IfSome, length, map, take, drop}
use Rattle.edt_base.specs.Outside.{content, held_of}
use Rattle.edt_run.specs.Answer.{first_above}
use Rattle.edt_run.proofs.sources.read_together.Given as goal

abbrev pub invariant-loop-name : goal.invariant-loop-name
invariant-loop-name g l = record {
  same : g.F.Files.seen l.files ≡ g.F.Files.seen l.fn.files;
  as_many : length l.sources.items ≡ l.name-index;
  told : IfSome (held_of (g.F.Files.seen l.fn.files)) (λ files. l.sources.items ≡ map (content files) (take l.name-index l.names));
  left : (others : List (List ℕ)) → first_above l.most l.names (l.sources.items ++ others) ≡ first_above l.left (drop l.name-index l.names) others;
}
