use Rattle.yaml_profile.proofs.YamlLaws.{found_of, only_of, good_of, first_of, spelled_of, unique_of, unspelled_of}
use Rattle.yaml_profile.proofs.file.read.Goals as goal

pub returns-clause-found : goal.returns-clause-found
returns-clause-found c = found_of c.answer.result c.args.file.now c.args.src.now c.answer.ensures

pub returns-clause-only : goal.returns-clause-only
returns-clause-only c = only_of c.answer.result c.args.file.now c.args.src.now c.answer.ensures

pub returns-clause-good : goal.returns-clause-good
returns-clause-good c = good_of c.answer.result c.args.file.now c.args.src.now c.answer.ensures

pub returns-clause-first : goal.returns-clause-first
returns-clause-first c = first_of c.answer.result c.args.file.now c.args.src.now c.answer.ensures

pub returns-clause-spelled : goal.returns-clause-spelled
returns-clause-spelled c = spelled_of c.answer.result c.args.file.now c.args.src.now c.answer.ensures

pub returns-clause-unique : goal.returns-clause-unique
returns-clause-unique c = unique_of c.answer.result c.args.file.now c.args.src.now c.answer.ensures

pub returns-clause-unspelled : goal.returns-clause-unspelled
returns-clause-unspelled c = unspelled_of c.answer.result c.args.file.now c.args.src.now c.answer.ensures
