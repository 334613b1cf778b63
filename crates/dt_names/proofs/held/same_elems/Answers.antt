use Rattle.std.proofs.Common.{◌≡◌, ℕ, List, map, sym, ◌∙◌, subst}
use Rattle.std.proofs.lemmas.Slice.Eq.{bytes_eq-Decides}
use Rattle.dt_names.specs.Clash.{AreSame}
use Rattle.dt_names.specs.Facts.{elem_visit}
use Rattle.dt_names.proofs.Same.{same_elems}
use Rattle.dt_names.proofs.held.same_elems.Goals as goal

pub returns-then-eq : goal.returns-then-eq
returns-then-eq c = λ e places.
    let same : c.args.path.now ≡ c.args.other.now = (bytes_eq-Decides c.args.path.now c.args.other.now).0 (sym c.eq.ensures ∙ c.if-eq.true) in
    subst (λ (x : List ℕ). AreSame (map (elem_visit c.args.path.now c.args.name.now) places) (map (elem_visit x c.args.twin.now) places)) same
    (same_elems c.args.path.now c.args.name.now c.args.twin.now (c.same_form.ensures e) places)
