use Rattle.std.proofs.Common.{◌<◌, length, rules}
use Rattle.std.proofs.lemmas.List.{take_rest}
use Rattle.edt_base.proofs.WriteLaws.{more}
use Rattle.edt_base.proofs.outside.write_text.Goals as goal

pub loop-rest-preserved : goal.loop-rest-preserved
loop-rest-preserved g c =
    let left : 0 < length c.loop-rest.rest.now = search rules in
    rw take_rest (more _ (g.S.Sink.seen c.loop-rest.out) _ _ _ _ c.loop-rest.invariant left
    c.in_ok-taken.ensures.taken.0 c.in_ok-taken.ensures.taken.2 c.in_ok-taken.ensures.count
    (λ room. (c.in_ok-taken.ensures.sure room).1))
