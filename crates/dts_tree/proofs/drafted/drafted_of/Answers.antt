-- What the reader stands for is what the definitions say was read.
use Rattle.std.proofs.Common.{subst}
use Rattle.dts_tree.specs.Inner.Machine.{carried_all, reader_start}
use Rattle.dts_tree.specs.Outcome.{drafted}
use Rattle.dts_tree.specs.Reading.{read_all, start}
use Rattle.dts_tree.specs.References.{AnswersAs}
use Rattle.dts_tree.proofs.Following.{all_follow, start_stands}
use Rattle.dts_tree.proofs.Deciding.{rises, left_answers, read_fails}
use Rattle.dts_tree.proofs.Meeting.{rules_kept}
use Rattle.dts_tree.proofs.drafted.drafted_of.Goals as goal

pub left-requires : goal.left-requires
left-requires c =
    rises c.args.files.now.items (carried_all 0 reader_start c.args.scripts.now.items) (read_all 0 start c.args.scripts.now.items) _
    (all_follow c.args.scripts.now.items 0 reader_start start start_stands) c.in-Ok.ensures

pub returns-in-Ok : goal.returns-in-Ok
returns-in-Ok c =
    let same = left_answers c.args.files.now.items (carried_all 0 reader_start c.args.scripts.now.items) (read_all 0 start c.args.scripts.now.items) _
    (all_follow c.args.scripts.now.items 0 reader_start start start_stands) c.in-Ok.ensures in
    let answers : AnswersAs c.left.result (λ v. v.items) (drafted c.args.files.now.items c.args.scripts.now.items) = subst (λ w. AnswersAs c.left.result (λ v. v.items) w) same c.left.ensures in
    record {
      drafted = answers;
      rules = rules_kept (λ v. v.items) c.args.files.now.items c.args.scripts.now.items c.left.result c.are_nested.ensures answers;
    }

pub returns-in-Err-clause-drafted : goal.returns-in-Err-clause-drafted
returns-in-Err-clause-drafted c =
    read_fails _ c.args.files.now.items (carried_all 0 reader_start c.args.scripts.now.items) (read_all 0 start c.args.scripts.now.items) c.in-Err.end
    (all_follow c.args.scripts.now.items 0 reader_start start start_stands) c.in-Err.ensures
