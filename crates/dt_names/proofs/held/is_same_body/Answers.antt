use Rattle.std.proofs.Common.{◌≡◌, sym, ap, ◌∙◌}
use Rattle.dt_names.specs.Clash.{SaidData}
use Rattle.dt_names.specs.Facts.{visits}
use Rattle.dt_names.specs.Pieces.{spells}
use Rattle.dt_names.specs.Inner.Rows.{body_pieces, things_at}
use Rattle.dt_names.specs.declared.piece.Params.{Params}
use Rattle.dt_names.specs.declared.row.Body.{Body}
use Rattle.dt_names.proofs.Same.{same_visits}
use Rattle.dt_names.proofs.held.is_same_body.Goals as goal

pub returns-in-Visits-body : goal.returns-in-Visits-body
returns-in-Visits-body c = λ e.
    let first = things_at c.a.inside.bound.now.tree.nodes c.a.inside.owner c.in-Visits.first in
    let second = things_at c.b.inside.bound.now.tree.nodes c.b.inside.owner c.in-Visits-body.second in
    let one : spells c.args.a.now.body ≡ spells (visits c.a.inside.params first) =
    ap (λ (s : SaidData). spells s.body) (sym c.a.view_is)
    ∙ ap (λ (x : Body). spells (body_pieces c.a.inside.bound.now.tree.nodes c.a.inside.owner c.a.inside.params x)) c.in-Visits.is in
    let two : spells c.args.b.now.body ≡ spells (visits c.b.inside.params second) =
    ap (λ (s : SaidData). spells s.body) (sym c.b.view_is)
    ∙ ap (λ (x : Body). spells (body_pieces c.b.inside.bound.now.tree.nodes c.b.inside.owner c.b.inside.params x)) c.in-Visits-body.is in
    let params : c.a.inside.params ≡ c.b.inside.params =
    ap (λ (s : SaidData). s.params) c.a.view_is ∙ c.requires ∙ sym (ap (λ (s : SaidData). s.params) c.b.view_is) in
    one ∙ same_visits c.a.inside.params first second (c.same_things.ensures e) ∙ ap (λ (p : Params). spells (visits p second)) params ∙ sym two
