use Rattle.dt_api.proofs.Reading.{api_text_is_read}
use Rattle.dt_api.proofs.laws.the_api_text_is_read.Goals as goal

pub returns : goal.returns
returns c = api_text_is_read
