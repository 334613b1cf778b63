use Rattle.bind_merge.proofs.Showing.{views_show}
use Rattle.bind_merge.proofs.laws.views_show.Goals as goal

pub returns : goal.returns
returns c = views_show
