-- What sources leave keeps what drafts keep.
use Rattle.std.proofs.Common.{◌≡◌, ◌∙◌, ◌+◌, ◌≤◌, ◌++◌, ◌||◌, ◌∷◌, [], ℕ, zero, suc, Bool, true, false, cond, List, Option, Some, None, Result, Ok, Err, length, refl, sym, subst, inl, inr, arith, ltb}
use Rattle.std.specs.Prelude.{slice_get, All, IfOk}
use Rattle.std.specs.List.{list_any, flat_map, filter}
use Rattle.std.specs.Str.{bytes_eq}
use Rattle.std.proofs.lemmas.Bool.{true≢false, ltb-false}
use Rattle.std.proofs.lemmas.List.{length-append}
use Rattle.std.proofs.lemmas.Option.{none-some, slice_get_within, get_or_from_slice_get}
use Rattle.edt_base.specs.declared.fault.End.{End}
use Rattle.dts_parse.specs.StmtData.{StmtData}
use Rattle.dts_parse.specs.Nested.{IsNested}
use Rattle.dts_tree.specs.declared.spot.Step.{Step}
use Rattle.dts_tree.specs.declared.spot.Step.TheVariants.{Child}
use Rattle.dts_tree.specs.Places.{Place}
use Rattle.dts_tree.specs.Deeds.{Deed}
use Rattle.dts_tree.specs.Live.{spots, labels, children}
use Rattle.dts_tree.specs.Reading.{Before, Unnamed, live, read_all, start}
use Rattle.dts_tree.specs.Whole.{kept_children, always, whole, kept, stays}
use Rattle.dts_tree.specs.Limits.{are_too_many, first_shared, first_large, first_label_shared}
use Rattle.dts_tree.specs.Drafts.{DraftData, drafts}
use Rattle.dts_tree.specs.Outcome.{labelled_or, sized_or, counted_or, left_by, drafted}
use Rattle.dts_tree.specs.References.{AnswersAs}
use Rattle.dts_tree.specs.Inner.DraftRules.{AreDrafts}
use Rattle.dts_tree.proofs.Apart.{index_of}
use Rattle.dts_tree.proofs.Lists.{Member, any_give, or_cases}
use Rattle.dts_tree.proofs.PlaceLaws.{bytes_self}
use Rattle.dts_tree.proofs.WalkLaws.{walk_from, walk_apart, walk_known, walk_less, IsBelow, all_follow, follow_at}
use Rattle.dts_tree.proofs.GoodPlaces.{IsGood, read_good, live_good}
use Rattle.dts_tree.proofs.DraftLaws.{AreWalked, walked_drafts}

-- ---- those that are left are no more than all

filter_less : (b : Bool) (f : Place → List Place) (g : Place → List Place) (c : Place) (x y : List Place) → length (f c) ≤ length (g c) → length (flat_map f x) ≤ length (flat_map g y)
    → length (flat_map f (cond b (c ∷ x) x)) ≤ length (g c ++ flat_map g y)
filter_less true f g c x y h k =
    let a : length (f c ++ flat_map f x) ≡ length (f c) + length (flat_map f x) = length-append (f c) (flat_map f x) in
    let d : length (g c ++ flat_map g y) ≡ length (g c) + length (flat_map g y) = length-append (g c) (flat_map g y) in
    omega arith
filter_less false f g c x y h k =
    let d : length (g c ++ flat_map g y) ≡ length (g c) + length (flat_map g y) = length-append (g c) (flat_map g y) in
    omega arith

lists_less : (keep : Place → Bool) (f g : Place → List Place) (cs : List Place) → ((c : Place) → length (f c) ≤ length (g c))
    → length (flat_map f (filter keep cs)) ≤ length (flat_map g (filter always cs))
lists_less keep f g [] h = omega arith
lists_less keep f g (c ∷ cs) h = filter_less (keep c) f g c (filter keep cs) (filter always cs) (h c) (lists_less keep f g cs h)

walk_short : (m : ℕ) (us : List Deed) (keep : Place → Bool) (p : Place) → length (walk_from m us keep p) ≤ length (walk_from m us always p)
walk_short zero us keep p = omega arith
walk_short (suc k) us keep p =
    let l : length (flat_map (walk_from k us keep) (kept_children us keep p)) ≤ length (flat_map (walk_from k us always) (kept_children us always p)) =
    lists_less keep (walk_from k us keep) (walk_from k us always) (children us p) (λ c. walk_short k us keep c) in
    omega arith

-- ---- labels

seen_by : (us : List Deed) (p : Place) (b : Bool) (o : Option Place) → cond b (Some p) o ≡ None → (b ≡ false) × (o ≡ None)
seen_by us p true o h = absurd (none-some p (sym h))
seen_by us p false o h = (refl, h)

unseen : (us : List Deed) (ps : List Place) (seen : List (List ℕ)) → first_shared us seen ps ≡ None → (p : Place) (l : List ℕ) → Member p ps → Member l (labels us p)
    → Member l seen → ⊥
unseen us [] seen h p l m n k = m
unseen us (q ∷ ps) seen h p l (inl e) n k =
    let r = seen_by us q (list_any (λ x. list_any (bytes_eq x) seen) (labels us q)) (first_shared us (seen ++ labels us q) ps) h in
    let found : list_any (bytes_eq l) seen ≡ true = any_give (bytes_eq l) seen l k (bytes_self l) in
    true≢false (sym (any_give (λ x. list_any (bytes_eq x) seen) (labels us q) l (subst (λ x. Member l (labels us x)) (sym e) n) found) ∙ r.0)
unseen us (q ∷ ps) seen h p l (inr m) n k =
    let r = seen_by us q (list_any (λ x. list_any (bytes_eq x) seen) (labels us q)) (first_shared us (seen ++ labels us q) ps) h in
    unseen us ps (seen ++ labels us q) r.1 p l m n (Rattle.dts_tree.proofs.Lists.member_left l seen (labels us q) k)

unshared : (us : List Deed) (ps : List Place) (seen : List (List ℕ)) → first_shared us seen ps ≡ None → (p q : Place) (l : List ℕ) → Member p ps → Member q ps
    → Member l (labels us p) → Member l (labels us q) → p ≡ q
unshared us [] seen h p q l m n a b = absurd m
unshared us (z ∷ ps) seen h p q l m n a b =
    let r = seen_by us z (list_any (λ x. list_any (bytes_eq x) seen) (labels us z)) (first_shared us (seen ++ labels us z) ps) h in
    let later : (x : Place) → Member x ps → Member l (labels us x) → Member l (labels us z) → ⊥ = λ x k c d.
    unseen us ps (seen ++ labels us z) r.1 x l k c (Rattle.dts_tree.proofs.Lists.member_right l seen (labels us z) d) in
    elim m [
      | inl e ↦ elim n [
        | inl f ↦ sym e ∙ f
        | inr k ↦ absurd (later q k b (subst (λ x. Member l (labels us x)) (sym e) a))
      ]
      | inr j ↦ elim n [
        | inl f ↦ absurd (later p j a (subst (λ x. Member l (labels us x)) (sym f) b))
        | inr k ↦ unshared us ps (seen ++ labels us z) r.1 p q l j k a b
      ]
    ]

-- ---- the drafts of what is left

not_many : (b c : Bool) → (b || c) ≡ false → b ≡ false
not_many false c h = refl
not_many true c h = h

few_left : (b : Before) → are_too_many (whole b) ≡ false → length (kept b) ≤ 65535
few_left b h =
    let n : ℕ = length (whole b) in
    let l : n ≤ 65535 = ltb-false 65535 n (not_many (ltb 65535 n) _ h) in
    let s : length (kept b) ≤ n = walk_short (suc (length b.deeds)) (live b) (stays b) [] in
    omega arith

below_left : (b : Before) (s : Step) (p : Place) → Member (s ∷ p) (kept b) → (n : List ℕ) × (s ≡ Child n) × Member p (kept b) × Member (s ∷ p) (spots (live b))
below_left b s p m = elim (walk_known (suc (length b.deeds)) (live b) (stays b) [] (s ∷ p) m) [
  | inl e ↦ absurd (cc)
  | inr k ↦
      let place : s ∷ p ≡ Child k.name ∷ k.up = k.place in
      let step : s ≡ Child k.name = cc in
      let up : k.up ≡ p = cc in
      (k.name, step, subst (λ x. Member x (kept b)) up k.walked_up, k.there)
]

next_left : (b : Before) (i : ℕ) (q r : Place) → slice_get (kept b) i ≡ Some q → slice_get (kept b) (i + 1) ≡ Some r → Rattle.dts_tree.proofs.WalkLaws.IsNext q r
next_left b i q r g h =
    let rest : List Place = flat_map (walk_from (length b.deeds) (live b) (stays b)) (kept_children (live b) (stays b) []) in
    let e : i + 1 ≡ suc i = omega arith in
    follow_at [] rest i q r (all_follow (length b.deeds) (live b) (stays b) []) g (subst (λ j. slice_get ([] ∷ rest) j ≡ Some r) e h)

walked : (b : Before) → IsGood b → are_too_many (whole b) ≡ false → first_label_shared b ≡ None → AreWalked (live b) (kept b)
walked b g h l = record {
  few = few_left b h;
  first = refl;
  apart = walk_apart (suc (length b.deeds)) (live b) (stays b) [];
  below = λ s p m. below_left b s p m;
  next = λ i q r m n. next_left b i q r m n;
  good = live_good b g;
  labelled = λ p q x m n c d. unshared (live b) (whole b) [] l p q x
      (walk_less (suc (length b.deeds)) (live b) (stays b) [] p m) (walk_less (suc (length b.deeds)) (live b) (stays b) [] q n) c d;
}

-- ---- what sources leave

labelled_some : (b : Before) (o : Option Place) (ds : List DraftData) → labelled_or b o ≡ Ok ds → (o ≡ None) × (drafts b ≡ ds)
labelled_some b None ds h = let e : drafts b ≡ ds = cc in (refl, e)
labelled_some b (Some p) ds h = absurd (cc)

sized_some : (b : Before) (o : Option Place) (ds : List DraftData) → sized_or b o ≡ Ok ds → labelled_or b (first_label_shared b) ≡ Ok ds
sized_some b None ds h = h
sized_some b (Some p) ds h = absurd (cc)

counted_some : (b : Before) (c : Bool) (ds : List DraftData) → counted_or b c ≡ Ok ds → (c ≡ false) × (sized_or b (first_large b) ≡ Ok ds)
counted_some b true ds h = absurd (cc)
counted_some b false ds h = (refl, h)

read_some : (files : List (List ℕ)) (y : Result Before Unnamed) (ds : List DraftData) → left_by files y ≡ Ok ds → (b : Before) × (y ≡ Ok b) × (counted_or b (are_too_many (whole b)) ≡ Ok ds)
read_some files (Ok b) ds h = (b, refl, h)
read_some files (Err u) ds h = absurd (cc)

pub drafted_rules : (files : List (List ℕ)) (scripts : List (List StmtData)) (ds : List DraftData) → ((s : List StmtData) → Member s scripts → IsNested s)
    → drafted files scripts ≡ Ok ds → AreDrafts ds
drafted_rules files scripts ds nest h =
    let r = read_some files (read_all 0 start scripts) ds h in
    let b : Before = r.0 in
    let c = counted_some b (are_too_many (whole b)) ds r.2 in
    let l = labelled_some b (first_label_shared b) ds (sized_some b (first_large b) ds c.1) in
    subst AreDrafts l.1 (walked_drafts (live b) (kept b) (walked b (read_good scripts b nest r.1) c.0 l.0))

-- ---- of a call

pub each_of : {X : Type 0} (P : X → Type 0) (xs : List X) → All P xs → (x : X) → Member x xs → P x
each_of P xs h x m =
    let r = index_of xs x m in
    subst P (get_or_from_slice_get xs r.0 x x r.1) (h r.0 x (slice_get_within xs r.0 x r.1))

pub rules_kept : {T : Type 0} (seen : T → List DraftData) (files : List (List ℕ)) (scripts : List (List StmtData)) (result : Result T End) → All IsNested scripts
    → AnswersAs result seen (drafted files scripts) → IfOk result (λ x. AreDrafts (seen x))
rules_kept seen files scripts (Ok x) nest h = drafted_rules files scripts (seen x) (λ s m. each_of IsNested scripts nest s m) h
rules_kept seen files scripts (Err e) nest h = tt
