-- Stacks without what is gone at their ends.
use Rattle.std.proofs.Common.{◌≡◌, ◌∙◌, ◌++◌, inl, inr, ◌∷◌, [], ℕ, Bool, true, false, not, cond, ◌||◌, List, Option, Some, None, map, refl, sym, ap}
use Rattle.std.specs.Option.{option_map}
use Rattle.std.specs.List.{list_any, list_all, fold}
use Rattle.std.proofs.lemmas.Bool.{or_parts, not_from_true, not_from_false}
use Rattle.std.proofs.lemmas.List.Folds.{list_any-append}
use Rattle.std.proofs.lemmas.List.Sums.{fold-append}
use Rattle.std.proofs.lemmas.Option.{same_Some, none-some}
use Rattle.dts_tree.specs.Live.{last_of}
use Rattle.dts_tree.specs.Inner.Arena.{is_gone, is_alive, last_slot, but_last}
use Rattle.dts_tree.proofs.Sweeping.{last_split, last_none}
use Rattle.dts_tree.specs.Inner.Machine.{trimmed, alive_in}
use Rattle.dts_tree.proofs.Lists.{Member, and_parts, and_both, filter_push, filter_drop, or_left, or_right}

gone_by : (b : Bool) (gone : List Bool) (x i : ℕ) (xs ts us : List ℕ) → ts ≡ us → cond (b || false) (i ∷ ts) [] ≡ cond b (i ∷ us) []
gone_by true gone x i xs ts us h = ap (λ t. i ∷ t) h
gone_by false gone x i xs ts us h = refl

pub trim_gone : (gone : List Bool) (xs : List ℕ) (x : ℕ) → is_gone gone x ≡ true → trimmed gone (xs ++ x ∷ []) ≡ trimmed gone xs
trim_gone gone [] x h = ap (λ b. cond (not b || false) (x ∷ []) []) h
trim_gone gone (i ∷ is) x h =
    let last : list_any (is_alive gone) (i ∷ (is ++ x ∷ [])) ≡ (list_any (is_alive gone) (i ∷ is) || false) =
    list_any-append (is_alive gone) (i ∷ is) (x ∷ []) ∙ ap (λ b. list_any (is_alive gone) (i ∷ is) || (not b || false)) h in
    ap (λ b. cond b (i ∷ trimmed gone (is ++ x ∷ [])) []) last
    ∙ gone_by (list_any (is_alive gone) (i ∷ is)) gone x i is (trimmed gone (is ++ x ∷ [])) (trimmed gone is) (trim_gone gone is x h)

pub trim_alive : (gone : List Bool) (xs : List ℕ) (x : ℕ) → is_gone gone x ≡ false → trimmed gone (xs ++ x ∷ []) ≡ xs ++ x ∷ []
trim_alive gone [] x h = ap (λ b. cond (not b || false) (x ∷ []) []) h
trim_alive gone (i ∷ is) x h =
    let any : list_any (is_alive gone) (i ∷ (is ++ x ∷ [])) ≡ true =
    list_any-append (is_alive gone) (i ∷ is) (x ∷ []) ∙ or_right (list_any (is_alive gone) (i ∷ is)) (not (is_gone gone x) || false) (or_left (not (is_gone gone x)) false (not_from_false (is_gone gone x) h)) in
    ap (λ b. cond b (i ∷ trimmed gone (is ++ x ∷ [])) []) any ∙ ap (λ t. i ∷ t) (trim_alive gone is x h)

none_alive : (gone : List Bool) (xs : List ℕ) → list_any (is_alive gone) xs ≡ false → alive_in gone xs ≡ []
none_alive gone [] h = refl
none_alive gone (x ∷ xs) h =
    let r = or_parts (is_alive gone x) (list_any (is_alive gone) xs) h in
    ap (λ b. cond b (x ∷ alive_in gone xs) (alive_in gone xs)) r.0 ∙ none_alive gone xs r.1

trimmed_by : (b : Bool) (gone : List Bool) (i : ℕ) (is : List ℕ) → list_any (is_alive gone) (i ∷ is) ≡ b → alive_in gone (trimmed gone is) ≡ alive_in gone is
    → alive_in gone (cond b (i ∷ trimmed gone is) []) ≡ alive_in gone (i ∷ is)
trimmed_by true gone i is e h = ap (λ t. cond (is_alive gone i) (i ∷ t) t) h
trimmed_by false gone i is e h = sym (none_alive gone (i ∷ is) e)

pub alive_trimmed : (gone : List Bool) (xs : List ℕ) → alive_in gone (trimmed gone xs) ≡ alive_in gone xs
alive_trimmed gone [] = refl
alive_trimmed gone (i ∷ is) = trimmed_by (list_any (is_alive gone) (i ∷ is)) gone i is refl (alive_trimmed gone is)

all_by : (b : Bool) (f : ℕ → Bool) (i : ℕ) (ts : List ℕ) → f i ≡ true → list_all f ts ≡ true → list_all f (cond b (i ∷ ts) []) ≡ true
all_by true f i ts e h = and_both (f i) (list_all f ts) e h
all_by false f i ts e h = refl

pub all_trimmed : (gone : List Bool) (f : ℕ → Bool) (xs : List ℕ) → list_all f xs ≡ true → list_all f (trimmed gone xs) ≡ true
all_trimmed gone f [] h = refl
all_trimmed gone f (i ∷ is) h =
    let r = and_parts (f i) (list_all f is) h in
    all_by (list_any (is_alive gone) (i ∷ is)) f i (trimmed gone is) r.0 (all_trimmed gone f is r.1)

pub last_of_push : {X : Type 0} (xs : List X) (x : X) → last_of (xs ++ x ∷ []) ≡ Some x
last_of_push xs x = fold-append (λ _ y. Some y) None xs (x ∷ [])

pub found_alive : (gone : List Bool) (xs : List ℕ) (x : ℕ) → is_gone gone x ≡ false → last_of (alive_in gone (xs ++ x ∷ [])) ≡ Some x
found_alive gone xs x h = ap last_of (filter_push (is_alive gone) xs x (not_from_false (is_gone gone x) h)) ∙ last_of_push (alive_in gone xs) x

pub found_gone : (gone : List Bool) (xs : List ℕ) (x : ℕ) → is_gone gone x ≡ true → alive_in gone (xs ++ x ∷ []) ≡ alive_in gone xs
found_gone gone xs x h = filter_drop (is_alive gone) xs x (not_from_true (is_gone gone x) h)

-- ---- the last of a list that is shown

fold_last : {X Y : Type 0} (f : X → Y) (o : Option X) (xs : List X) → fold (λ _ y. Some y) (option_map f o) (map f xs) ≡ option_map f (fold (λ _ x. Some x) o xs)
fold_last f o [] = refl
fold_last f o (x ∷ xs) = fold_last f (Some x) xs

pub last_of_map : {X Y : Type 0} (f : X → Y) (xs : List X) → last_of (map f xs) ≡ option_map f (last_of xs)
last_of_map f xs = fold_last f None xs

last_member_on : {X : Type 0} (y : X) (ys : List X) (x : X) → fold (λ _ z. Some z) (Some y) ys ≡ Some x → Member x (y ∷ ys)
last_member_on y [] x h = inl (same_Some y x h)
last_member_on y (z ∷ zs) x h = inr (last_member_on z zs x h)

pub last_member : {X : Type 0} (xs : List X) (x : X) → last_of xs ≡ Some x → Member x xs
last_member [] x h = absurd (none-some x h)
last_member (y ∷ ys) x h = last_member_on y ys x h

-- ---- a turn of the look-up

pub turn_alive : (gone : List Bool) (stack first : List ℕ) (slot : ℕ) → last_slot stack ≡ Some slot → is_gone gone slot ≡ false
    → trimmed gone stack ≡ trimmed gone first → alive_in gone stack ≡ alive_in gone first
    → (Some slot ≡ last_of (alive_in gone first)) × (stack ≡ trimmed gone first)
turn_alive gone stack first slot e g t a =
    let whole : stack ≡ but_last stack ++ slot ∷ [] = last_split stack slot e in (
      sym (found_alive gone (but_last stack) slot g) ∙ (ap (λ xs. last_of (alive_in gone xs)) (sym whole) ∙ ap last_of a),
      whole ∙ (sym (trim_alive gone (but_last stack) slot g) ∙ (ap (trimmed gone) (sym whole) ∙ t)),
    )

pub turn_gone : (gone : List Bool) (stack first : List ℕ) (slot : ℕ) → last_slot stack ≡ Some slot → is_gone gone slot ≡ true
    → trimmed gone stack ≡ trimmed gone first → alive_in gone stack ≡ alive_in gone first
    → (trimmed gone (but_last stack) ≡ trimmed gone first) × (alive_in gone (but_last stack) ≡ alive_in gone first)
turn_gone gone stack first slot e g t a =
    let whole : stack ≡ but_last stack ++ slot ∷ [] = last_split stack slot e in (
      sym (trim_gone gone (but_last stack) slot g) ∙ (ap (trimmed gone) (sym whole) ∙ t),
      sym (found_gone gone (but_last stack) slot g) ∙ (ap (alive_in gone) (sym whole) ∙ a),
    )

pub turn_none : (gone : List Bool) (stack first : List ℕ) → last_slot stack ≡ None → trimmed gone stack ≡ trimmed gone first → alive_in gone stack ≡ alive_in gone first
    → (None ≡ last_of (alive_in gone first)) × (stack ≡ trimmed gone first)
turn_none gone stack first e t a =
    let none : stack ≡ [] = last_none stack e in
    (ap (λ xs. last_of (alive_in gone xs)) (sym none) ∙ ap last_of a, none ∙ (ap (trimmed gone) (sym none) ∙ t))
