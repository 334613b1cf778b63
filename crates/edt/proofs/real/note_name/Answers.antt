use Rattle.std.specs.Prelude.{IsTrue}
use Rattle.std.proofs.Common.{rules}
use Rattle.std.proofs.lemmas.List.Elements.{All-push}
use Rattle.edt_base.specs.Outside.{is_binding_below}
use Rattle.edt.proofs.real.note_name.Goals as goal

pub returns-in_ok-push : goal.returns-in_ok-push
returns-in_ok-push c =
    let passes : IsTrue (is_binding_below c.args.dir.now c.args.name) = search rules in
    rw c.in_ok-push.ensures.items (All-push (λ name. IsTrue (is_binding_below c.args.dir.now name)) _ _ c.requires passes)
