use Rattle.c_tokens.proofs.OneList.{one_list}
use Rattle.c_tokens.proofs.laws.a_text_has_one_list_of_lines.Goals as goal

pub returns : goal.returns
returns c = one_list
