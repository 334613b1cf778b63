-- The ends of the call that says what is left.
use Rattle.std.proofs.Common.{◌≡◌, ◌∙◌, ℕ, Bool, true, false, List, [], Option, Some, None, Result, Ok, Err, codes, length, replicate, ap}
use Rattle.edt_base.specs.declared.fault.Fault.{Fault}
use Rattle.edt_base.specs.declared.fault.End.{End}
use Rattle.edt_base.specs.declared.fault.End.TheVariants as ending
use Rattle.edt_base.specs.declared.fault.Rule.TheVariants as rule
use Rattle.dts_tree.specs.Drafts.{DraftData}
use Rattle.dts_tree.specs.Outcome.{at_path}
use Rattle.dts_tree.specs.References.{AnswersAs, IsFault}
use Rattle.dts_tree.specs.Inner.Machine.{ReaderData}
use Rattle.dts_tree.specs.Inner.Grown.{GrownData, grown_of, lens_of, slots_too_many, first_large_slot, shared_from, wanted_from, stays_list, order_of, kids_of}
use Rattle.dts_tree.specs.Inner.Left.{keep_of, whole_slots, prop_lists, wanted_slots, staying, kept_slots, slot_drafts, text_path, shared_or, large_or, many_or, left_of, drafts_left}

pub fails : {T : Type 0} (seen : T → List DraftData) (w : Result (List DraftData) Fault) (f : Fault) (e : End) → w ≡ Err f → IsFault f e → AnswersAs {T = T} (Err e) seen w
fails seen w f (ending.Fault g) h k = h ∙ ap Err k
fails seen w f (ending.Memory e) h k = k

pub left_many : (r : ReaderData) → slots_too_many (whole_slots r) (lens_of r.arena.spots) ≡ true → left_of r ≡ Err (at_path rule.L7 (codes "/"))
left_many r h = ap (many_or r) h

pub left_large : (r : ReaderData) (i : ℕ) → slots_too_many (whole_slots r) (lens_of r.arena.spots) ≡ false
    → first_large_slot r (grown_of r) (lens_of r.arena.spots) (prop_lists r) (whole_slots r) ≡ Some i → left_of r ≡ Err (at_path rule.L8 (text_path r i))
left_large r i h k = ap (many_or r) h ∙ ap (large_or r) k

pub left_rest : (r : ReaderData) → slots_too_many (whole_slots r) (lens_of r.arena.spots) ≡ false
    → first_large_slot r (grown_of r) (lens_of r.arena.spots) (prop_lists r) (whole_slots r) ≡ None → left_of r ≡ shared_or r (shared_from (grown_of r) [] (whole_slots r))
left_rest r h k = ap (many_or r) h ∙ ap (large_or r) k

pub shared_some : (r : ReaderData) (i : ℕ) → shared_from (grown_of r) [] (whole_slots r) ≡ Some i → shared_or r (shared_from (grown_of r) [] (whole_slots r)) ≡ Err (at_path rule.S4 (text_path r i))
shared_some r i h = ap (shared_or r) h

pub shared_none : (r : ReaderData) → shared_from (grown_of r) [] (whole_slots r) ≡ None → shared_or r (shared_from (grown_of r) [] (whole_slots r)) ≡ Ok (drafts_left r)
shared_none r h = ap (shared_or r) h

-- what is kept, from what was gathered
pub kept_made : (r : ReaderData) (g : GrownData) (props : List (List ℕ)) (keep none wanted stay : List Bool) (whole kept : List ℕ) → g ≡ grown_of r → props ≡ prop_lists r
    → keep ≡ keep_of r → whole ≡ whole_slots r → none ≡ replicate (length r.arena.spots) false → wanted ≡ wanted_from r g props none whole → stay ≡ stays_list keep g.marks wanted
    → kept ≡ order_of (kids_of r.arena.spots stay true) → slot_drafts r g props kept ≡ drafts_left r
kept_made r g props keep none wanted stay whole kept a b c d e f h k =
    let want : wanted ≡ wanted_slots r =
    f ∙ (ap (λ (x : GrownData). wanted_from r x props none whole) a
    ∙ (ap (λ x. wanted_from r (grown_of r) x none whole) b
    ∙ (ap (λ x. wanted_from r (grown_of r) (prop_lists r) x whole) e ∙ ap (wanted_from r (grown_of r) (prop_lists r) (replicate (length r.arena.spots) false)) d))) in
    let stays : stay ≡ staying r =
    h ∙ (ap (λ x. stays_list x g.marks wanted) c
    ∙ (ap (λ (x : GrownData). stays_list (keep_of r) x.marks wanted) a ∙ ap (stays_list (keep_of r) (grown_of r).marks) want)) in
    let order : kept ≡ kept_slots r = k ∙ ap (λ s. order_of (kids_of r.arena.spots s true)) stays in
    ap (λ (x : GrownData). slot_drafts r x props kept) a
    ∙ (ap (λ x. slot_drafts r (grown_of r) x kept) b ∙ ap (slot_drafts r (grown_of r) (prop_lists r)) order)
