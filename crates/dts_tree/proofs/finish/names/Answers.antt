use Rattle.std.specs.Prelude.{codes}
use Rattle.dts_tree.proofs.Settling.{named_found, nameless_found}
use Rattle.dts_tree.proofs.finish.names.Goals as goal

pub returns-clause-aliases : goal.returns-clause-aliases
returns-clause-aliases c =
    named_found c.args.drafts.now c.in_ok-paths.paths c.args.all.now (codes "/aliases") c.in_ok-aliases.aliases.items c.in_ok-paths.ensures c.in_ok-aliases.ensures

pub returns-clause-chosen : goal.returns-clause-chosen
returns-clause-chosen c =
    named_found c.args.drafts.now c.in_ok-paths.paths c.args.all.now (codes "/chosen") c.in_ok-chosen.chosen.items c.in_ok-paths.ensures c.in_ok-chosen.ensures

pub returns-clause-nameless : goal.returns-clause-nameless
returns-clause-nameless c = nameless_found c.args.drafts.now c.in_ok-paths.paths c.args.all.now c.is_one_nameless_at.result c.in_ok-paths.ensures c.is_one_nameless_at.ensures
