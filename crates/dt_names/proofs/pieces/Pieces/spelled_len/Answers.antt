use Rattle.dt_names.proofs.Lengths.{two_parts}
use Rattle.dt_names.proofs.pieces.Pieces.spelled_len.Goals as goal

pub returns : goal.returns
returns c = rw (← c.self.view_is) (two_parts _ _ _ _ _ c.id_left_len.ensures c.behind_len.ensures c.saturating_add.ensures)
