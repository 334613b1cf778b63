-- The rules of all nodes by slots are those by places.
use Rattle.std.proofs.Common.{◌≡◌, ◌∙◌, ◌+◌, ◌*◌, ◌<◌, ◌++◌, ◌∷◌, [], ℕ, Bool, true, false, cond, ◌||◌, List, Option, Some, None, length, map, min, refl, sym, ap, subst, inl, inr, arith, ltb, find, lit<}
use Rattle.std.specs.Option.{option_map, option_map_or}
use Rattle.std.specs.List.{list_any, fold}
use Rattle.std.specs.Str.{bytes_eq}
use Rattle.std.proofs.lemmas.List.Sums.{sum_by-cons}
use Rattle.std.proofs.lemmas.List.Folds.{list_any-append}
use Rattle.std.proofs.lemmas.Bool.{cases_Bool, or_right}
use Rattle.dts_parse.specs.StmtData.{PartData, Plain, Cells, Path}
use Rattle.dts_tree.specs.Places.{Place, path_text}
use Rattle.dts_tree.specs.Deeds.{Deed}
use Rattle.dts_tree.specs.Live.{with_new, value, labels, node_of}
use Rattle.dts_tree.specs.Limits.{part_size, value_size, is_large, first_shared}
use Rattle.dts_tree.specs.Inner.Arena.{is_gone}
use Rattle.dts_tree.specs.Inner.Machine.{ReaderData, named_slot}
use Rattle.dts_tree.specs.Inner.Grown.{grown_of, most, lens_of, path_size, slot_part_size, size_from, value_at, labels_at, has_large, any_seen, shared_from, kids_of, alive_list, below_in}
use Rattle.dts_tree.proofs.Lists.{Member}
use Rattle.dts_tree.proofs.PlaceLaws.{same_bytes}
use Rattle.dts_tree.proofs.Shape.{IsShaped, IsSound, place_at, there_within}
use Rattle.dts_tree.proofs.Tying.{IsTied}
use Rattle.dts_tree.proofs.Carrying.{Names, named_is}
use Rattle.dts_tree.proofs.Gathering.{value_is, labels_are}
use Rattle.dts_tree.proofs.Ordering.{props_are, kid_alive, alive_keeps}
use Rattle.dts_tree.proofs.Measuring.{len_is, above_min}

-- ---- the size of a value

path_by : (places : List Place) (r : ReaderData) (us : List Deed) (o : Option ℕ) (p : Option Place) → IsShaped r.arena.spots places → IsSound r.arena → Names places r.arena o p
    → path_size (lens_of r.arena.spots) o ≡ min (option_map_or (λ (q : Place). length (path_text q) + 1) p 0) most
path_by places r us None None shape sound n = refl
path_by places r us None (Some q) shape sound n = absurd n
path_by places r us (Some i) None shape sound n = absurd n
path_by places r us (Some i) (Some q) shape sound n =
    let w : i < length r.arena.spots = subst (λ m. i < m) sound.gone (there_within r.arena.gone i n.0) in
    ap (λ x. min (x + 1) most) (len_is r.arena.spots places shape i w)
    ∙ (min_more most (length (path_text (place_at places i))) ∙ ap (λ p. min (length (path_text p) + 1) most) n.1)
  where
    min_more : (m a : ℕ) → min (min a m + 1) m ≡ min (a + 1) m
    min_more m a = omega arith

part_same : (places : List Place) (r : ReaderData) (us : List Deed) (p : PartData) → IsTied places r.arena r.events r.labels us
    → min (slot_part_size r (lens_of r.arena.spots) p) most ≡ min (part_size us p) most
part_same places r us (Plain p) t = refl
part_same places r us (Cells cells) t = twice most (length cells)
  where
    twice : (m a : ℕ) → min (min (a * 4) m) m ≡ min (4 * a) m
    twice m a = omega arith
part_same places r us (Path x) t =
    ap (λ n. min n most) (path_by places r us (named_slot r x) (node_of us x) t.shape t.sound (named_is places r us x t))
    ∙ again most (option_map_or (λ (q : Place). length (path_text q) + 1) (node_of us x) 0)
  where
    again : (m a : ℕ) → min (min a m) m ≡ min a m
    again m a = omega arith

add_same : (m all sum x y : ℕ) → all ≡ min sum m → min x m ≡ min y m → min (all + x) m ≡ min (sum + y) m
add_same m all sum x y e f = omega arith

size_all : (places : List Place) (r : ReaderData) (us : List Deed) (ps : List PartData) (all sum : ℕ) → IsTied places r.arena r.events r.labels us
    → all ≡ min sum most → size_from r (lens_of r.arena.spots) all ps ≡ min (sum + value_size us ps) most
size_all places r us [] all sum t e = e ∙ ap (λ n. min n most) (let z : sum ≡ sum + 0 = omega arith in z)
size_all places r us (p ∷ ps) all sum t e =
    let next : min (all + slot_part_size r (lens_of r.arena.spots) p) most ≡ min (sum + part_size us p) most =
    add_same most all sum (slot_part_size r (lens_of r.arena.spots) p) (part_size us p) e (part_same places r us p t) in
    let cons : value_size us (p ∷ ps) ≡ part_size us p + value_size us ps = sum_by-cons (part_size us) p ps in
    let total : sum + part_size us p + value_size us ps ≡ sum + value_size us (p ∷ ps) = omega arith in
    size_all places r us ps (min (all + slot_part_size r (lens_of r.arena.spots) p) most) (sum + part_size us p) t next ∙ ap (λ n. min n most) total

pub too_large : (places : List Place) (r : ReaderData) (us : List Deed) (ps : List PartData) → IsTied places r.arena r.events r.labels us
    → ltb 65536 (size_from r (lens_of r.arena.spots) 0 ps) ≡ ltb 65536 (value_size us ps)
too_large places r us ps t =
    ap (ltb 65536) (size_all places r us ps 0 0 t refl)
    ∙ (above_min 65536 (0 + value_size us ps) most (lit< tt) ∙ ap (ltb 65536) (let z : 0 + value_size us ps ≡ value_size us ps = omega arith in z))

any_shown : (f : Place → Bool) (g : ℕ → Bool) (places : List Place) (is : List ℕ) → ((i : ℕ) → Member i is → g i ≡ f (place_at places i)) → list_any g is ≡ list_any f (map (place_at places) is)
any_shown f g places [] h = refl
any_shown f g places (i ∷ is) h = ap (λ b. b || list_any g is) (h i (inl refl)) ∙ ap (λ b. f (place_at places i) || b) (any_shown f g places is (λ j m. h j (inr m)))

-- a node's properties, by slot
abbrev pub slot_props : ReaderData → ℕ → List ℕ
slot_props r i = below_in (kids_of r.arena.spots (alive_list r.arena.gone) false) i

pub large_is : (places : List Place) (r : ReaderData) (us : List Deed) → IsTied places r.arena r.events r.labels us → (i : ℕ) → is_gone r.arena.gone i ≡ false
    → has_large r (grown_of r) (lens_of r.arena.spots) (slot_props r i) ≡ is_large us (place_at places i)
large_is places r us t i g =
    any_shown (λ q. ltb 65536 (value_size us (value us q))) (λ q. ltb 65536 (size_from r (lens_of r.arena.spots) 0 (value_at (grown_of r) q))) places (slot_props r i) (λ q m.
    let alive = kid_alive places r.arena (alive_list r.arena.gone) (λ p. true) false (alive_keeps places r.arena) i q m in
    too_large places r us (value_at (grown_of r) q) t ∙ ap (λ v. ltb 65536 (value_size us v)) (value_is places r.arena r.events r.labels us t q alive))
    ∙ ap (list_any (λ q. ltb 65536 (value_size us (value us q)))) (props_are places r.arena r.events r.labels us (alive_list r.arena.gone) t (alive_keeps places r.arena) i g)

find_by : (b : Bool) (f : Place → Bool) (g : ℕ → Bool) (places : List Place) (i : ℕ) (is : List ℕ) → option_map (place_at places) (find g is) ≡ find f (map (place_at places) is)
    → option_map (place_at places) (cond b (Some i) (find g is)) ≡ cond b (Some (place_at places i)) (find f (map (place_at places) is))
find_by true f g places i is h = refl
find_by false f g places i is h = h

find_shown : (f : Place → Bool) (g : ℕ → Bool) (places : List Place) (is : List ℕ) → ((i : ℕ) → Member i is → g i ≡ f (place_at places i))
    → option_map (place_at places) (find g is) ≡ find f (map (place_at places) is)
find_shown f g places [] h = refl
find_shown f g places (i ∷ is) h =
    ap (λ b. option_map (place_at places) (cond b (Some i) (find g is))) (h i (inl refl))
    ∙ find_by (f (place_at places i)) f g places i is (find_shown f g places is (λ j m. h j (inr m)))

-- the first node with a value of too many bytes
pub first_large_is : (places : List Place) (r : ReaderData) (us : List Deed) (is : List ℕ) → IsTied places r.arena r.events r.labels us → ((i : ℕ) → Member i is → is_gone r.arena.gone i ≡ false)
    → option_map (place_at places) (find (λ i. has_large r (grown_of r) (lens_of r.arena.spots) (slot_props r i)) is) ≡ find (is_large us) (map (place_at places) is)
first_large_is places r us is t alive =
    find_shown (is_large us) (λ i. has_large r (grown_of r) (lens_of r.arena.spots) (slot_props r i)) places is (λ i m. large_is places r us t i (alive i m))

-- ---- labels on two nodes

or_false : (b : Bool) → (b || false) ≡ b
or_false true = refl
or_false false = refl

new_by : (b : Bool) (l x : List ℕ) (xs : List (List ℕ)) → list_any (bytes_eq x) xs ≡ b
    → list_any (bytes_eq l) (cond b xs (xs ++ x ∷ [])) ≡ (list_any (bytes_eq l) xs || bytes_eq l x)
new_by false l x xs e = list_any-append (bytes_eq l) xs (x ∷ []) ∙ ap (λ b. list_any (bytes_eq l) xs || b) (or_false (bytes_eq l x))
new_by true l x xs e = elim (cases_Bool (bytes_eq l x)) [
  | inl h ↦
      let same : l ≡ x = same_bytes l x h in
      let found : list_any (bytes_eq l) xs ≡ true = subst (λ y. list_any (bytes_eq y) xs ≡ true) (sym same) e in
      found ∙ sym (or_right (list_any (bytes_eq l) xs) (bytes_eq l x) h)
  | inr h ↦ sym (ap (λ b. list_any (bytes_eq l) xs || b) h ∙ or_false (list_any (bytes_eq l) xs))
]

or_assoc : (a b c : Bool) → ((a || b) || c) ≡ (a || (b || c))
or_assoc true b c = refl
or_assoc false b c = refl

seen_all : (l : List ℕ) (ls xs : List (List ℕ)) → list_any (bytes_eq l) (fold (with_new bytes_eq) xs ls) ≡ (list_any (bytes_eq l) xs || list_any (bytes_eq l) ls)
seen_all l [] xs = sym (or_false (list_any (bytes_eq l) xs))
seen_all l (x ∷ ls) xs =
    seen_all l ls (with_new bytes_eq xs x)
    ∙ (ap (λ b. b || list_any (bytes_eq l) ls) (new_by (list_any (bytes_eq x) xs) l x xs refl)
    ∙ or_assoc (list_any (bytes_eq l) xs) (bytes_eq l x) (list_any (bytes_eq l) ls))

any_alike : (f g : List ℕ → Bool) (ls : List (List ℕ)) → ((l : List ℕ) → f l ≡ g l) → list_any f ls ≡ list_any g ls
any_alike f g [] h = refl
any_alike f g (l ∷ ls) h = ap (λ b. b || list_any f ls) (h l) ∙ ap (λ b. g l || b) (any_alike f g ls h)

shared_by : (b : Bool) (places : List Place) (i : ℕ) (x : Option ℕ) (y : Option Place) → option_map (place_at places) x ≡ y
    → option_map (place_at places) (cond b (Some i) x) ≡ cond b (Some (place_at places i)) y
shared_by true places i x y h = refl
shared_by false places i x y h = h

-- the first node with a label that an earlier one has
pub shared_is : (places : List Place) (r : ReaderData) (us : List Deed) (is : List ℕ) (seen before : List (List ℕ)) → IsTied places r.arena r.events r.labels us
    → ((i : ℕ) → Member i is → is_gone r.arena.gone i ≡ false) → ((l : List ℕ) → list_any (bytes_eq l) seen ≡ list_any (bytes_eq l) before)
    → option_map (place_at places) (shared_from (grown_of r) seen is) ≡ first_shared us before (map (place_at places) is)
shared_is places r us [] seen before t alive same = refl
shared_is places r us (i ∷ is) seen before t alive same =
    let ls : labels_at (grown_of r) i ≡ labels us (place_at places i) = labels_are places r.arena r.events r.labels us t i (alive i (inl refl)) in
    let test : any_seen seen (labels_at (grown_of r) i) ≡ list_any (λ l. list_any (bytes_eq l) before) (labels us (place_at places i)) =
    any_alike (λ l. list_any (bytes_eq l) seen) (λ l. list_any (bytes_eq l) before) (labels_at (grown_of r) i) same ∙ ap (list_any (λ l. list_any (bytes_eq l) before)) ls in
    let more : (l : List ℕ) → list_any (bytes_eq l) (fold (with_new bytes_eq) seen (labels_at (grown_of r) i)) ≡ list_any (bytes_eq l) (before ++ labels us (place_at places i)) = λ l.
    seen_all l (labels_at (grown_of r) i) seen
    ∙ (ap (λ b. b || list_any (bytes_eq l) (labels_at (grown_of r) i)) (same l)
    ∙ (ap (λ xs. list_any (bytes_eq l) before || list_any (bytes_eq l) xs) ls ∙ sym (list_any-append (bytes_eq l) before (labels us (place_at places i))))) in
    ap (λ b. option_map (place_at places) (cond b (Some i) (shared_from (grown_of r) (fold (with_new bytes_eq) seen (labels_at (grown_of r) i)) is))) test
    ∙ shared_by (list_any (λ l. list_any (bytes_eq l) before) (labels us (place_at places i))) places i _ _
    (shared_is places r us is (fold (with_new bytes_eq) seen (labels_at (grown_of r) i)) (before ++ labels us (place_at places i)) t (λ j m. alive j (inr m)) more)
