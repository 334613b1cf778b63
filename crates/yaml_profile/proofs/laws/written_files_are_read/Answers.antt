use Rattle.yaml_profile.proofs.WrittenBytes.{written_is_read}
use Rattle.yaml_profile.proofs.laws.written_files_are_read.Goals as goal

pub returns : goal.returns
returns c = written_is_read
