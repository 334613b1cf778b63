use Rattle.std.proofs.Common.{◌≡◌, ◌∙◌, ◌<◌, List, ℕ, None, length, ap, arith, sym}
use Rattle.pha_nexus.specs.Matching.{Match, bus_in, match_at, match_by, no_match}
use Rattle.pha_nexus.proofs.MatchLaws.{match_of_child, match_of_root}
use Rattle.edt_bound.proofs.MatchSteps.{IsParentFound, parent_found, so_many}
use Rattle.edt_bound.proofs.matching.next_found.Goals as goal

pub found_for-above-requires : goal.found_for-above-requires
found_for-above-requires c =
    let many : length c.args.found.now ≡ c.args.id = so_many (match_at c.args.t.now.nodes c.args.lib.now) c.args.found.now c.args.id c.requires.before in
    let near : c.in-Some.up < c.args.id = c.in-Some.ensures.before in
    omega (arith, many, near)

pub found_below-requires : goal.found_below-requires
found_below-requires c =
    let p : IsParentFound c.args.t.now c.args.lib.now c.in-Some.up c.found_for-above.result.now =
    parent_found c.args.t.now c.args.lib.now c.args.found.now c.args.id c.in-Some.up c.found_for-above.result.now c.is_well_formed.ensures c.requires.before
    c.in-Some.ensures.before c.requires.there c.found_for-above.ensures in
    record { bound = p.bound; room = p.room }

pub returns-in_ok-next-in-Some : goal.returns-in_ok-next-in-Some
returns-in_ok-next-in-Some c =
    let p : IsParentFound c.args.t.now c.args.lib.now c.in-Some.up c.found_for-above.result.now =
    parent_found c.args.t.now c.args.lib.now c.args.found.now c.args.id c.in-Some.up c.found_for-above.result.now c.is_well_formed.ensures c.requires.before
    c.in-Some.ensures.before c.requires.there c.found_for-above.ensures in
    c.in_ok-next-in-Some.ensures
    ∙ ap (λ (m : Match). match_by c.args.lib.now (bus_in c.args.lib.now c.in-Some.up m) m c.compats_of-compats.result.now) p.same
    ∙ ap (λ (cs : List (List ℕ)). match_by c.args.lib.now (bus_in c.args.lib.now c.in-Some.up (match_at c.args.t.now.nodes c.args.lib.now c.in-Some.up))
    (match_at c.args.t.now.nodes c.args.lib.now c.in-Some.up) cs) c.compats_of-compats.ensures
    ∙ sym (match_of_child c.args.t.now c.args.lib.now c.args.id c.in-Some.up c.is_well_formed.ensures (sym c.parent.ensures.parent ∙ c.in-Some.is))

pub returns-in_ok-next-in-None : goal.returns-in_ok-next-in-None
returns-in_ok-next-in-None c =
    c.in_ok-next-in-None.ensures
    ∙ ap (λ (cs : List (List ℕ)). match_by c.args.lib.now None no_match cs) c.compats_of-compats.ensures
    ∙ sym (match_of_root c.args.t.now c.args.lib.now c.args.id (sym c.parent.ensures.parent ∙ c.in-None.is))
