use Rattle.std.proofs.Common.{codes}
use Rattle.bind_load.proofs.Suffix.{suffix_of}
use Rattle.bind_load.proofs.form.space_of.Goals as goal

pub returns : goal.returns
returns c = suffix_of (codes "-cells") _ _ c.strip_suffix.ensures.cases
