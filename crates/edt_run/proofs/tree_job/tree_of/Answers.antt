use Rattle.std.proofs.Common.{◌≡◌, ◌∙◌, codes, rules, subst, sym, true}
use Rattle.edt_base.specs.declared.fault.Rule.TheVariants as rule
use Rattle.edt_base.specs.declared.fault.Place.TheVariants as place
use Rattle.edt_run.specs.Answer.{refused}
use Rattle.edt_run.specs.TreeAnswer.{IsTreeAnswer}
use Rattle.edt_run.proofs.TreeLaws.{as_many, over_limit}
use Rattle.edt_run.proofs.tree_job.tree_of.Goals as goal

pub build-requires : goal.build-requires
build-requires c = sym (as_many true c.args.sources.now c.in_ok-scripts.scripts.items c.in_ok-scripts.ensures.read ∙ c.requires)

pub returns-then-print_len-gt-PRINT_LIMIT : goal.returns-then-print_len-gt-PRINT_LIMIT
returns-then-print_len-gt-PRINT_LIMIT c =
    let root : c.new.result ≡ codes "/" = search rules in
    subst (λ p. IsTreeAnswer c.args.names.now.items c.args.sources.now (refused (record { rule = rule.L10; place = place.Node p }))) (sym root)
    (over_limit c.args.names.now.items c.args.sources.now c.in_ok-scripts.scripts.items c.in_ok-tree.tree c.print_len.result c.in_ok-scripts.ensures.read
    c.in_ok-tree.ensures (c.print_len.ensures) c.if-print_len-gt-PRINT_LIMIT.true)
