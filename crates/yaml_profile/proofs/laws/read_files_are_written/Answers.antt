use Rattle.yaml_profile.proofs.ReadBytes.{spelled_by_a_tree}
use Rattle.yaml_profile.proofs.laws.read_files_are_written.Goals as goal

pub returns : goal.returns
returns c = spelled_by_a_tree
