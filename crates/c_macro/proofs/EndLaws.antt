-- Arguments of which the ends alone are fed: the same joins are made.
use Rattle.std.proofs.Common.{◌≡◌, ℕ, zero, suc, ◌+◌, ◌-◌, ◌<◌, ◌≤◌, take, drop, Bool, true, false, List, [], ◌∷◌, ◌++◌, Option, Some, None, is_some, option_map, length, map, reverse, slice_index_or, refl, sym, ap, subst, ◌∙◌, arith, append_assoc, length-append, if◌then◌else◌}
use Rattle.std.specs.List.{flat_map}
use Rattle.c_tokens.specs.Grammar.{kind_of}
use Rattle.c_tokens.specs.declared.tok.TokKind.{TokKind}
use Rattle.c_macro.specs.declared.pend.Pend.{Pend}
use Rattle.c_macro.specs.Marked.{Marked}
use Rattle.c_macro.specs.Bodies.{Part, Own, Join, Text, Written, Full, Arg, no_arg, Item, One, Blank, Glue, respaced, spaced_as, ones, side_items, part_items, items, join, joined_tok, item_toks, joined_on, joined_from, joined}
use Rattle.c_macro.specs.SetData.{SetTable}
use Rattle.c_macro.specs.Pending.{mark, marks, KnownAll}
use Rattle.c_macro.specs.Joining.{joining, last_one, fed_of, fed_items, all_fed, ones_in, glues_in, is_join_part, Counting}
use Rattle.c_macro.proofs.PendLaws.{known_back}

-- ---- all of each argument

fed_whole : (ts : List Marked) → fed_of false ts ≡ ts
fed_whole [] = refl
fed_whole (t ∷ ts) = refl

items_whole : (args : List Arg) (p : Part) → fed_items false args p ≡ part_items args p
items_whole args (Own t) = refl
items_whole args Join = refl
items_whole args (Text s i) = refl
items_whole args (Written s i) = ap (side_items s) (fed_whole (slice_index_or args i no_arg).written)
items_whole args (Full s i) = ap (λ (ts : List Marked). ones (spaced_as s ts)) (fed_whole (slice_index_or args i no_arg).full)

pub all_whole : (ps : List Part) (args : List Arg) → all_fed false ps args ≡ items ps args
all_whole [] args = refl
all_whole (p ∷ ps) args = ap (λ (xs : List Item). xs ++ all_fed false ps args) (items_whole args p) ∙ ap (λ (xs : List Item). part_items args p ++ xs) (all_whole ps args)

-- ---- the ends of each argument

pub some_map : {A B : Type 0} (f : A → B) (o : Option A) → is_some (option_map f o) ≡ is_some o
some_map f None = refl
some_map f (Some x) = refl

same_on : (o : Option Item) (f g : Item → Option (List Marked)) → ((i : Item) → is_some (f i) ≡ is_some (g i)) → is_some (joined_on o f) ≡ is_some (joined_on o g)
same_on None f g h = refl
same_on (Some i) f g h = h i

next_one : (l : Item) (t : Marked) (is : List Item) → is_some (joined_from l (One t ∷ is)) ≡ is_some (joined_from (One t) is)
next_one l t is = some_map (λ (ts : List Marked). item_toks l ++ ts) (joined_from (One t) is)

-- behind any side, a row of tokens is as good as its last one
last_alone : (l : Item) (ts : List Marked) (is : List Item) → is_some (joined_from l (ones ts ++ is)) ≡ is_some (joined_from l (ones (last_one ts) ++ is))
last_alone l [] is = refl
last_alone l (t ∷ []) is = refl
last_alone l (t ∷ u ∷ ts) is = next_one l t (ones (u ∷ ts) ++ is) ∙ (last_alone (One t) (u ∷ ts) is ∙ moved u ts)
  where
    moved : (v : Marked) (vs : List Marked) → is_some (joined_from (One t) (ones (last_one (v ∷ vs)) ++ is)) ≡ is_some (joined_from l (ones (last_one (v ∷ vs)) ++ is))
    moved v [] = next_one (One t) v is ∙ sym (next_one l v is)
    moved v (w ∷ vs) = moved w vs

abbrev Same : List Item → List Item → Type 0
Same is js = (o : Option Item) (glued : Bool) → is_some (joining o glued is) ≡ is_some (joining o glued js)

same_behind : (xs is js : List Item) → Same is js → Same (xs ++ is) (xs ++ js)
same_behind [] is js h o glued = h o glued
same_behind (x ∷ xs) is js h None glued = same_behind xs is js h (Some x) false
same_behind (One t ∷ xs) is js h (Some l) false = next_one l t (xs ++ is) ∙ (same_behind xs is js h (Some (One t)) false ∙ sym (next_one l t (xs ++ js)))
same_behind (Blank s ∷ xs) is js h (Some l) false =
    some_map (λ (ts : List Marked). item_toks l ++ ts) (joined_from (Blank s) (xs ++ is)) ∙ (same_behind xs is js h (Some (Blank s)) false ∙ sym (some_map (λ (ts : List Marked). item_toks l ++ ts) (joined_from (Blank s) (xs ++ js))))
same_behind (Glue ∷ xs) is js h (Some l) false = same_behind xs is js h (Some l) true
same_behind (x ∷ xs) is js h (Some l) true = same_on (join l x) (λ i. joined_from i (xs ++ is)) (λ i. joined_from i (xs ++ js)) (λ i. same_behind xs is js h (Some i) false)

ends_alone : (t : Marked) (ts : List Marked) (is : List Item) → Same (One t ∷ ones ts ++ is) (One t ∷ ones (last_one ts) ++ is)
ends_alone t ts is None glued = last_alone (One t) ts is
ends_alone t ts is (Some l) false = next_one l t (ones ts ++ is) ∙ (last_alone (One t) ts is ∙ sym (next_one l t (ones (last_one ts) ++ is)))
ends_alone t ts is (Some l) true = same_on (join l (One t)) (λ i. joined_from i (ones ts ++ is)) (λ i. joined_from i (ones (last_one ts) ++ is)) (λ i. last_alone i ts is)

row_ends : (s : Bool) (ts : List Marked) (is : List Item) → Same (ones (spaced_as s ts) ++ is) (ones (spaced_as s (fed_of true ts)) ++ is)
row_ends s [] is o glued = refl
row_ends s (t ∷ ts) is o glued = ends_alone (respaced s t) ts is o glued

side_ends : (s : Bool) (ts : List Marked) (is : List Item) → Same (side_items s ts ++ is) (side_items s (fed_of true ts) ++ is)
side_ends s [] is o glued = refl
side_ends s (t ∷ ts) is o glued = ends_alone (respaced s t) ts is o glued

part_ends : (args : List Arg) (p : Part) (is : List Item) → Same (part_items args p ++ is) (fed_items true args p ++ is)
part_ends args (Own t) is o glued = refl
part_ends args Join is o glued = refl
part_ends args (Text s i) is o glued = refl
part_ends args (Written s i) is o glued = side_ends s (slice_index_or args i no_arg).written is o glued
part_ends args (Full s i) is o glued = row_ends s (slice_index_or args i no_arg).full is o glued

all_ends : (ps : List Part) (args : List Arg) → Same (items ps args) (all_fed true ps args)
all_ends [] args o glued = refl
all_ends (p ∷ ps) args o glued = same_behind (part_items args p) (items ps args) (all_fed true ps args) (all_ends ps args) o glued ∙ part_ends args p (all_fed true ps args) o glued

pub ends_join : (ps : List Part) (args : List Arg) → is_some (joined (items ps args)) ≡ is_some (joined (all_fed true ps args))
ends_join ps args = all_ends ps args None false

pub last_marks : (s : SetTable) (front : List Pend) (p : Pend) → mark s p ∷ [] ≡ last_one (marks s (front ++ p ∷ []))
last_marks s [] p = refl
last_marks s (q ∷ []) p = refl
last_marks s (q ∷ r ∷ front) p = last_marks s (r ∷ front) p

-- ---- how many tokens there are at least

item_size : Item → ℕ
item_size (One t) = 1
item_size (Blank s) = 0
item_size Glue = 0

size_of : (i : Item) → length (item_toks i) ≡ item_size i
unfolding item_size
size_of (One t) = refl
size_of (Blank s) = refl
size_of Glue = refl

one_of : (i : Item) (is : List Item) → ones_in (i ∷ is) ≡ item_size i + ones_in is
unfolding item_size
one_of (One t) is = omega arith
one_of (Blank s) is = omega arith
one_of Glue is = omega arith

glues_more : (i : Item) (is : List Item) → glues_in is ≤ glues_in (i ∷ is)
glues_more (One t) is = omega arith
glues_more (Blank s) is = omega arith
glues_more Glue is = omega arith

fewer : (l r i : Item) → join l r ≡ Some i → item_size l + item_size r ≤ item_size i + 1
unfolding item_size
fewer (One a) (One b) i e = one i (kind_of (a.tok.spell ++ b.tok.spell)) e
  where
    one : (i : Item) (k : Option TokKind) → option_map (λ k. One (joined_tok a b k)) k ≡ Some i → 1 + 1 ≤ item_size i + 1
    one i None e = cc
    one i (Some k) e = let f : One (joined_tok a b k) ≡ i = cc in let g : 1 ≡ item_size i = ap item_size f in omega (arith, g)
fewer (One a) (Blank s) i e = let f : One a ≡ i = cc in let g : 1 ≡ item_size i = ap item_size f in omega (arith, g)
fewer (One a) Glue i e = let f : One a ≡ i = cc in let g : 1 ≡ item_size i = ap item_size f in omega (arith, g)
fewer (Blank s) (One b) i e = omega arith
fewer (Blank s) (Blank t) i e = omega arith
fewer (Blank s) Glue i e = omega arith
fewer Glue (One b) i e = omega arith
fewer Glue (Blank s) i e = omega arith
fewer Glue Glue i e = omega arith

abbrev AtLeast : ℕ → ℕ → Option (List Marked) → Type 0
AtLeast toks glues None = Unit {0}
AtLeast toks glues (Some ts) = toks ≤ length ts + glues

behind_size : (l : Item) (toks glues : ℕ) (o : Option (List Marked)) → AtLeast toks glues o → AtLeast (item_size l + toks) glues (option_map (λ ts. item_toks l ++ ts) o)
behind_size l toks glues None h = tt
behind_size l toks glues (Some ts) h = let e : length (item_toks l ++ ts) ≡ length (item_toks l) + length ts = length-append (item_toks l) ts in let f = size_of l in omega (arith, e, f, h)

side_size : (l right i : Item) (is : List Item) (o : Option (List Marked)) → join l right ≡ Some i → AtLeast (item_size i + ones_in is) (glues_in is) o → AtLeast (item_size l + ones_in (right ∷ is)) (glues_in (Glue ∷ right ∷ is)) o
side_size l right i is None e h = tt
side_size l right i is (Some ts) e h = let f = fewer l right i e in let g = one_of right is in let m = glues_more right is in omega (arith, f, g, h, m)

joined_size : (l right : Item) (is : List Item) (o : Option Item) → join l right ≡ o → ((i : Item) → AtLeast (item_size i + ones_in is) (glues_in is) (joined_from i is))
    → AtLeast (item_size l + ones_in (right ∷ is)) (glues_in (Glue ∷ right ∷ is)) (joined_on o (λ i. joined_from i is))
joined_size l right is None e h = tt
joined_size l right is (Some i) e h = side_size l right i is (joined_from i is) e (h i)

at_least_from : (l : Item) (is : List Item) → AtLeast (item_size l + ones_in is) (glues_in is) (joined_from l is)
at_least_from l [] = let f = size_of l in omega (arith, f)
at_least_from l (Glue ∷ []) = let f = size_of l in omega (arith, f)
at_least_from l (Glue ∷ right ∷ is) = joined_size l right is (join l right) refl (λ i. at_least_from i is)
at_least_from l (One t ∷ is) = subst (λ n. AtLeast (item_size l + n) (glues_in is) (option_map (λ ts. item_toks l ++ ts) (joined_from (One t) is))) (sym (one_of (One t) is))
    (behind_size l (item_size (One t) + ones_in is) (glues_in is) (joined_from (One t) is) (at_least_from (One t) is))
at_least_from l (Blank s ∷ is) = subst (λ n. AtLeast (item_size l + n) (glues_in is) (option_map (λ ts. item_toks l ++ ts) (joined_from (Blank s) is))) (sym (one_of (Blank s) is))
    (behind_size l (item_size (Blank s) + ones_in is) (glues_in is) (joined_from (Blank s) is) (at_least_from (Blank s) is))

least_of : (toks glues : ℕ) (o : Option (List Marked)) (ts : List Marked) → AtLeast toks glues o → o ≡ Some ts → toks ≤ length ts + glues
least_of toks glues None ts h e = cc
least_of toks glues (Some us) ts h e = let f : us ≡ ts = cc in let g : length us ≡ length ts = ap length f in omega (arith, g, h)

pub least_tokens : (is : List Item) (ts : List Marked) → joined is ≡ Some ts → ones_in is ≤ length ts + glues_in is
least_tokens [] ts e = omega arith
least_tokens (i ∷ is) ts e = let h = least_of (item_size i + ones_in is) (glues_in is) (joined_from i is) ts (at_least_from i is) e in let f = one_of i is in let g = glues_more i is in omega (arith, f, g, h)

pub ones_append : (is js : List Item) → ones_in (is ++ js) ≡ ones_in is + ones_in js
ones_append [] js = omega arith
ones_append (One t ∷ is) js = let e = ones_append is js in omega (arith, e)
ones_append (Blank s ∷ is) js = ones_append is js
ones_append (Glue ∷ is) js = ones_append is js

pub glues_append : (is js : List Item) → glues_in (is ++ js) ≡ glues_in is + glues_in js
glues_append [] js = omega arith
glues_append (One t ∷ is) js = glues_append is js
glues_append (Blank s ∷ is) js = glues_append is js
glues_append (Glue ∷ is) js = let e = glues_append is js in omega (arith, e)

ones_all : (ts : List Marked) → ones_in (ones ts) ≡ length ts
ones_all [] = refl
ones_all (t ∷ ts) = let e = ones_all ts in omega (arith, e)

no_glue : (ts : List Marked) → glues_in (ones ts) ≡ 0
no_glue [] = refl
no_glue (t ∷ ts) = no_glue ts

length_as : (s : Bool) (ts : List Marked) → length (spaced_as s ts) ≡ length ts
length_as s [] = refl
length_as s (t ∷ ts) = refl

pub row_count : (s : Bool) (ts : List Marked) → ones_in (ones (spaced_as s ts)) ≡ length ts
row_count s ts = ones_all (spaced_as s ts) ∙ length_as s ts

pub side_count : (s : Bool) (ts : List Marked) → ones_in (side_items s ts) ≡ length ts
side_count s [] = refl
side_count s (t ∷ ts) = row_count s (t ∷ ts)

pub part_glues : (args : List Arg) (p : Part) → glues_in (part_items args p) ≤ (if is_join_part p then 1 else 0)
part_glues args (Own t) = omega arith
part_glues args Join = omega arith
part_glues args (Text s i) = omega arith
part_glues args (Written s i) = side (slice_index_or args i no_arg).written
  where
    side : (ts : List Marked) → glues_in (side_items s ts) ≤ 0
    side [] = omega arith
    side (t ∷ ts) = let e = no_glue (spaced_as s (t ∷ ts)) in omega (arith, e)
part_glues args (Full s i) = let e = no_glue (spaced_as s (slice_index_or args i no_arg).full) in omega (arith, e)

-- the last of tokens by its place
pub last_slice : (before : List Pend) (p : Pend) → take (length (before ++ p ∷ []) - length before) (drop (length before) (before ++ p ∷ [])) ≡ p ∷ []
last_slice before p =
    let l : length (before ++ p ∷ []) ≡ length before + 1 = length-append before (p ∷ []) in
    let e : length (before ++ p ∷ []) - length before ≡ 1 = omega (arith, l) in
    ap (λ n. take n (drop (length before) (before ++ p ∷ []))) e ∙ ap (take 1) (dropped before)
  where
    dropped : (xs : List Pend) → drop (length xs) (xs ++ p ∷ []) ≡ p ∷ []
    dropped [] = refl
    dropped (x ∷ xs) = dropped xs

pub last_is : (s : SetTable) (toks before : List Pend) (p : Pend) (e : Bool) → toks ≡ before ++ p ∷ [] → e ≡ true
    → marks s (take (length toks - length before) (drop (length before) toks)) ≡ (if e then last_one (marks s toks) else marks s toks)
last_is s toks before p e t h = rw (t, h) (ap (marks s) (last_slice before p) ∙ last_marks s before p)

pub last_known : (s : SetTable) (toks before : List Pend) (p : Pend) → toks ≡ before ++ p ∷ [] → KnownAll s toks → KnownAll s (take (length toks - length before) (drop (length before) toks))
last_known s toks before p t h = rw t (subst (KnownAll s) (sym (last_slice before p)) (known_back s before (p ∷ []) (subst (KnownAll s) t h)))

-- ---- the tokens of parts are counted

pub counting_starts : (ps : List Part) (args : List Arg) → Counting ps ps args 0 0
counting_starts ps args = record { ones = omega arith; glues = omega arith }

pub counting_goes : (whole left rest : List Part) (p : Part) (args : List Arg) (count joins more next : ℕ) → Counting whole left args count joins → left ≡ p ∷ rest
    → more ≤ count + ones_in (part_items args p) → joins + (if is_join_part p then 1 else 0) ≤ next → Counting whole rest args more next
counting_goes whole left rest p args count joins more next c e m n =
    let a : ones_in (items left args) ≡ ones_in (part_items args p) + ones_in (items rest args) = ap (λ (ps : List Part). ones_in (items ps args)) e ∙ ones_append (part_items args p) (items rest args) in
    let b : glues_in (items left args) ≡ glues_in (part_items args p) + glues_in (items rest args) = ap (λ (ps : List Part). glues_in (items ps args)) e ∙ glues_append (part_items args p) (items rest args) in
    let g = part_glues args p in
    record { ones = let x = c.ones in omega (arith, a, x, m); glues = let x = c.glues in omega (arith, b, x, n, g) }

pub counting_ends : (whole left : List Part) (args : List Arg) (count joins least : ℕ) (ts : List Marked) → Counting whole left args count joins → left ≡ [] → least ≤ count - joins → joined (items whole args) ≡ Some ts → least ≤ length ts
counting_ends whole left args count joins least ts c e h j =
    let a : ones_in (items left args) ≡ 0 = ap (λ (ps : List Part). ones_in (items ps args)) e in
    let b : glues_in (items left args) ≡ 0 = ap (λ (ps : List Part). glues_in (items ps args)) e in
    let l = least_tokens (items whole args) ts j in
    let x = c.ones in let y = c.glues in omega (arith, a, b, l, x, y, h)
