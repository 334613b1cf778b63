use Rattle.std.proofs.Common.{◌∙◌, ap, subst, sym, ◌<◌, ℕ, List, length}
use Rattle.edt_base.specs.declared.fault.Rule.TheVariants as rule
use Rattle.bind_merge.specs.Files.{file_fault}
use Rattle.bind_merge.proofs.Gone.{got}
use Rattle.bind_merge.proofs.Tested.{name_listed, string_listed}
use Rattle.bind_merge.proofs.twins.add_match.Goals as goal

pub returns-in_ok-fault-in-Some-clause-fault : goal.returns-in_ok-fault-in-Some-clause-fault
returns-in_ok-fault-in-Some-clause-fault c =
    c.in_ok-fault-in-Some.ensures
    ∙ ap (λ (n : List ℕ). file_fault rule.B12 n) (sym (name_listed c.args.files.now c.args.found.now.file c.index-files-file.result
    (got c.args.files.now c.file.inside.0 c.args.found.now.file c.index-files-file.result c.file.view_is
    (subst (λ (k : ℕ). k < length c.args.files.now) (sym c.file.view_is) (string_listed c.args.files.now c.args.found.now.file c.args.found.now.compatible c.requires))
    c.index-files-file.is)))
