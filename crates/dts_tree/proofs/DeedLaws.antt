-- One deed more: what stays uncovered, and what is there then.
use Rattle.std.proofs.Common.{◌≡◌, ◌∙◌, ◌∷◌, ◌++◌, [], Bool, true, false, not, cond, ◌&&◌, ◌||◌, List, Some, None, refl, sym, ap}
use Rattle.std.specs.List.{list_any, filter, filter_map, fold, cons_option}
use Rattle.std.proofs.lemmas.Bool.{false≢true}
use Rattle.std.proofs.lemmas.List.Folds.{list_any-append}
use Rattle.std.proofs.lemmas.List.Sums.{fold-append}
use Rattle.std.proofs.lemmas.List.Elements.{filter_map-append}
use Rattle.std.proofs.lemmas.List.{append-nil}
use Rattle.dts_tree.specs.Places.{Place, place_eq, is_within}
use Rattle.dts_tree.specs.Deeds.{Deed, covers, deletes, uncovered}
use Rattle.dts_tree.specs.Live.{with_new, begins, begun, spots}
use Rattle.dts_tree.proofs.Lists.{kept}
use Rattle.dts_tree.proofs.PlaceLaws.{same_place}

-- what a deletion at a place leaves
abbrev pub outside : Place → Deed → Bool
outside p e = not (is_within p e.at)

done_by : (d : Deed) (w : Bool) (e : Deed) (us : List Deed) (x : Bool) → x ≡ (w || (false && is_within d.at e.at || false))
    → cond x (us ++ d ∷ []) (e ∷ (us ++ d ∷ [])) ≡ cond w us (e ∷ us) ++ d ∷ []
done_by d true e us x h = ap (λ b. cond b (us ++ d ∷ []) (e ∷ (us ++ d ∷ []))) h
done_by d false e us x h = ap (λ b. cond b (us ++ d ∷ []) (e ∷ (us ++ d ∷ []))) h

or_assoc : (a b c : Bool) → (a || (b || c)) ≡ ((a || b) || c)
or_assoc true b c = refl
or_assoc false b c = refl

-- a deed that deletes nothing is there, and covers nothing
pub uncovered_done : (ds : List Deed) (d : Deed) → deletes d.act ≡ false → uncovered (ds ++ d ∷ []) ≡ uncovered ds ++ d ∷ []
uncovered_done [] d h = ap (λ b. cond (b || false) [] (d ∷ [])) h
uncovered_done (e ∷ ds) d h =
    let any : list_any (λ x. covers x e) (ds ++ d ∷ []) ≡ (list_any (λ x. covers x e) ds || (false && is_within d.at e.at || false)) =
    list_any-append (λ x. covers x e) ds (d ∷ []) ∙ ap (λ b. list_any (λ x. covers x e) ds || (b && is_within d.at e.at || false)) h in
    let both : (deletes e.act || list_any (λ x. covers x e) (ds ++ d ∷ [])) ≡ ((deletes e.act || list_any (λ x. covers x e) ds) || (false && is_within d.at e.at || false)) =
    ap (λ b. deletes e.act || b) any ∙ or_assoc (deletes e.act) (list_any (λ x. covers x e) ds) (false && is_within d.at e.at || false) in
    ap (λ us. cond (deletes e.act || list_any (λ x. covers x e) (ds ++ d ∷ [])) us (e ∷ us)) (uncovered_done ds d h)
    ∙ done_by d (deletes e.act || list_any (λ x. covers x e) ds) e (uncovered ds) _ both

deleted_by : (d : Deed) (w v : Bool) (e : Deed) (us : List Deed) (x : Bool) → x ≡ (w || (true && v || false)) → is_within d.at e.at ≡ v
    → cond x (filter (outside d.at) us) (e ∷ filter (outside d.at) us) ≡ filter (outside d.at) (cond w us (e ∷ us))
deleted_by d true v e us x h i = ap (λ b. cond b (filter (outside d.at) us) (e ∷ filter (outside d.at) us)) h
deleted_by d false true e us x h i =
    ap (λ b. cond b (filter (outside d.at) us) (e ∷ filter (outside d.at) us)) h
    ∙ ap (λ b. cond (not b) (e ∷ filter (outside d.at) us) (filter (outside d.at) us)) (sym i)
deleted_by d false false e us x h i =
    ap (λ b. cond b (filter (outside d.at) us) (e ∷ filter (outside d.at) us)) h
    ∙ ap (λ b. cond (not b) (e ∷ filter (outside d.at) us) (filter (outside d.at) us)) (sym i)

-- a deletion leaves what stands outside of its place
pub uncovered_deleted : (ds : List Deed) (d : Deed) → deletes d.act ≡ true → uncovered (ds ++ d ∷ []) ≡ filter (outside d.at) (uncovered ds)
uncovered_deleted [] d h = ap (λ b. cond (b || false) [] (d ∷ [])) h
uncovered_deleted (e ∷ ds) d h =
    let any : list_any (λ x. covers x e) (ds ++ d ∷ []) ≡ (list_any (λ x. covers x e) ds || (true && is_within d.at e.at || false)) =
    list_any-append (λ x. covers x e) ds (d ∷ []) ∙ ap (λ b. list_any (λ x. covers x e) ds || (b && is_within d.at e.at || false)) h in
    let both : (deletes e.act || list_any (λ x. covers x e) (ds ++ d ∷ [])) ≡ ((deletes e.act || list_any (λ x. covers x e) ds) || (true && is_within d.at e.at || false)) =
    ap (λ b. deletes e.act || b) any ∙ or_assoc (deletes e.act) (list_any (λ x. covers x e) ds) (true && is_within d.at e.at || false) in
    ap (λ us. cond (deletes e.act || list_any (λ x. covers x e) (ds ++ d ∷ [])) us (e ∷ us)) (uncovered_deleted ds d h)
    ∙ deleted_by d (deletes e.act || list_any (λ x. covers x e) ds) (is_within d.at e.at) e (uncovered ds) _ both refl

-- ---- nodes and properties that are there

pub spots_begun : (us : List Deed) (d : Deed) → begins d.act ≡ true → spots (us ++ d ∷ []) ≡ with_new place_eq (spots us) d.at
spots_begun us d h =
    ap (fold (with_new place_eq) ([] ∷ [])) (filter_map-append begun us (d ∷ []))
    ∙ (ap (λ b. fold (with_new place_eq) ([] ∷ []) (filter_map begun us ++ cons_option (cond b (Some d.at) None) [])) h
    ∙ fold-append (with_new place_eq) ([] ∷ []) (filter_map begun us) (d.at ∷ []))

pub spots_other : (us : List Deed) (d : Deed) → begins d.act ≡ false → spots (us ++ d ∷ []) ≡ spots us
spots_other us d h =
    ap (fold (with_new place_eq) ([] ∷ [])) (filter_map-append begun us (d ∷ [])
    ∙ (ap (λ b. filter_map begun us ++ cons_option (cond b (Some d.at) None) []) h ∙ append-nil (filter_map begun us)))

any_by : (b c : Bool) (k : Place → Bool) (x y : Place) (ys : List Place) → place_eq x y ≡ b → k y ≡ c → k x ≡ true
    → list_any (place_eq x) (filter k ys) ≡ list_any (place_eq x) ys
    → list_any (place_eq x) (cond c (y ∷ filter k ys) (filter k ys)) ≡ (b || list_any (place_eq x) ys)
any_by b true k x y ys e f g r = ap (λ t. t || list_any (place_eq x) (filter k ys)) e ∙ ap (λ t. b || t) r
any_by true false k x y ys e f g r = absurd (false≢true (sym f ∙ (ap k (sym (same_place x y e)) ∙ g)))
any_by false false k x y ys e f g r = r

-- what passes is found among those that pass
any_kept : (k : Place → Bool) (x : Place) (ys : List Place) → k x ≡ true → list_any (place_eq x) (filter k ys) ≡ list_any (place_eq x) ys
any_kept k x [] h = refl
any_kept k x (y ∷ ys) h = any_by (place_eq x y) (k y) k x y ys refl refl h (any_kept k x ys h)

new_in : (b : Bool) (k : Place → Bool) (x : Place) (acc : List Place) → k x ≡ true
    → cond b (filter k acc) (filter k acc ++ x ∷ []) ≡ filter k (cond b acc (acc ++ x ∷ []))
new_in true k x acc h = refl
new_in false k x acc h = sym (Rattle.dts_tree.proofs.Lists.filter_push k acc x h)

new_out : (b : Bool) (k : Place → Bool) (x : Place) (acc : List Place) → k x ≡ false → filter k acc ≡ filter k (cond b acc (acc ++ x ∷ []))
new_out true k x acc h = refl
new_out false k x acc h = sym (Rattle.dts_tree.proofs.Lists.filter_drop k acc x h)

firsts_by : (b : Bool) (k : Place → Bool) (x : Place) (xs acc : List Place) → k x ≡ b
    → ((acc : List Place) → fold (with_new place_eq) (filter k acc) (filter k xs) ≡ filter k (fold (with_new place_eq) acc xs))
    → fold (with_new place_eq) (filter k acc) (cond b (x ∷ filter k xs) (filter k xs)) ≡ filter k (fold (with_new place_eq) (with_new place_eq acc x) xs)
firsts_by true k x xs acc h r =
    ap (λ t. fold (with_new place_eq) t (filter k xs))
    (ap (λ b. cond b (filter k acc) (filter k acc ++ x ∷ [])) (any_kept k x acc h) ∙ new_in (list_any (place_eq x) acc) k x acc h)
    ∙ r (with_new place_eq acc x)
firsts_by false k x xs acc h r =
    ap (λ t. fold (with_new place_eq) t (filter k xs)) (new_out (list_any (place_eq x) acc) k x acc h) ∙ r (with_new place_eq acc x)

firsts_kept : (k : Place → Bool) (xs acc : List Place) → fold (with_new place_eq) (filter k acc) (filter k xs) ≡ filter k (fold (with_new place_eq) acc xs)
firsts_kept k [] acc = refl
firsts_kept k (x ∷ xs) acc = firsts_by (k x) k x xs acc refl (firsts_kept k xs)

begun_at : (b : Bool) (d : Deed) (y : Place) → cond b (Some d.at) None ≡ Some y → d.at ≡ y
begun_at true d y e = cc
begun_at false d y e = cc

-- those that a test of places leaves, where it leaves the root
pub spots_kept : (k : Place → Bool) (us : List Deed) → k [] ≡ true → spots (filter (λ e. k e.at) us) ≡ filter k (spots us)
spots_kept k us h =
    ap (fold (with_new place_eq) ([] ∷ [])) (kept begun (λ e. k e.at) k (λ e y s. ap k (begun_at (begins e.act) e y s)) us)
    ∙ (ap (λ b. fold (with_new place_eq) (cond b ([] ∷ []) []) (filter k (filter_map begun us))) (sym h)
    ∙ firsts_kept k (filter_map begun us) ([] ∷ []))
