-- The texts of paths tell nodes apart.
use Rattle.std.proofs.Common.{◌≡◌, ◌∙◌, ◌++◌, ◌∷◌, [], ℕ, zero, suc, Bool, true, false, not, cond, List, refl, sym, ap, subst, eqb, take, drop, append_assoc}
use Rattle.std.specs.List.{list_all, fold, slice_split, onto_first, prefix_len}
use Rattle.std.proofs.lemmas.Bool.{false≢true}
use Rattle.std.proofs.lemmas.List.Sums.{fold-append}
use Rattle.edt_base.specs.SourceNames.{is_node_name, is_node_word, is_unit, is_no_at}
use Rattle.edt_base.specs.SourceBytes.{is_node_byte}
use Rattle.dts_tree.specs.declared.spot.Step.TheVariants.{Child, Prop}
use Rattle.dts_tree.specs.Places.{Place, one_below, place_of, below_text, path_text}
use Rattle.dts_tree.proofs.Lists.{and_parts, and_both}
use Rattle.dts_tree.proofs.GoodPlaces.{is_good_place}

abbrev is_slash : ℕ → Bool
is_slash b = eqb b 47

abbrev is_no_slash : ℕ → Bool
is_no_slash b = not (eqb b 47)

-- ---- names have no slash

abbrev pub is_free : List ℕ → Bool
is_free xs = list_all is_no_slash xs

byte_by : (b : ℕ) (c : Bool) → eqb b 47 ≡ c → is_node_byte b ≡ true → not c ≡ true
byte_by b false e h = refl
byte_by b true e h = let same : b ≡ 47 = Rattle.std.proofs.lemmas.Bool.eqb-true b 47 e in absurd (false≢true (subst (λ x. is_node_byte x ≡ true) same h))

node_free : (xs : List ℕ) → list_all is_node_byte xs ≡ true → is_free xs ≡ true
node_free [] h = refl
node_free (x ∷ xs) h =
    let r = and_parts (is_node_byte x) (list_all is_node_byte xs) h in
    and_both (is_no_slash x) (is_free xs) (byte_by x (eqb x 47) refl r.0) (node_free xs r.1)

word_free : (xs : List ℕ) → is_node_word xs ≡ true → is_free xs ≡ true
word_free [] h = refl
word_free (x ∷ xs) h = node_free (x ∷ xs) h

unit_free : (xs : List ℕ) → is_unit xs ≡ true → is_free xs ≡ true
unit_free [] h = refl
unit_free (x ∷ xs) h =
    let r = and_parts (eqb x Rattle.edt_base.specs.Ascii.at_sign) (is_node_word xs) h in
    let same : x ≡ Rattle.edt_base.specs.Ascii.at_sign = Rattle.std.proofs.lemmas.Bool.eqb-true x Rattle.edt_base.specs.Ascii.at_sign r.0 in
    and_both (is_no_slash x) (is_free xs) (ap is_no_slash same) (word_free xs r.1)

parts_free : (n : ℕ) (xs : List ℕ) → is_free (take n xs) ≡ true → is_free (drop n xs) ≡ true → is_free xs ≡ true
parts_free zero xs h k = k
parts_free (suc n) [] h k = refl
parts_free (suc n) (x ∷ xs) h k = let r = and_parts (is_no_slash x) (is_free (take n xs)) h in and_both (is_no_slash x) (is_free xs) r.0 (parts_free n xs r.1 k)

name_free : (n : List ℕ) → is_node_name n ≡ true → is_free n ≡ true
name_free n h =
    let r = and_parts (is_node_word (take (prefix_len is_no_at n) n)) (is_unit (drop (prefix_len is_no_at n) n)) h in
    parts_free (prefix_len is_no_at n) n (word_free (take (prefix_len is_no_at n) n) r.0) (unit_free (drop (prefix_len is_no_at n) n) r.1)

-- ---- the parts of a text

free_split : (xs : List ℕ) → is_free xs ≡ true → slice_split is_slash xs ≡ xs ∷ []
free_split [] h = refl
free_split (x ∷ xs) h =
    let r = and_parts (is_no_slash x) (is_free xs) h in
    let no : eqb x 47 ≡ false = Rattle.dts_tree.proofs.Lists.not_true (eqb x 47) r.0 in
    ap (λ b. cond b ([] ∷ slice_split is_slash xs) (onto_first x (slice_split is_slash xs))) no ∙ ap (onto_first x) (free_split xs r.1)

onto_append : (x : ℕ) (p : List ℕ) (ps qs : List (List ℕ)) → onto_first x ((p ∷ ps) ++ qs) ≡ onto_first x (p ∷ ps) ++ qs
onto_append x p ps qs = refl

-- a text is cut into at least one part
record HasPart (parts : List (List ℕ)) : Type 0 where
  first : List ℕ
  more : List (List ℕ)
  are : parts ≡ first ∷ more

onto_part : (x : ℕ) (parts : List (List ℕ)) → HasPart (onto_first x parts)
onto_part x [] = record { first = x ∷ []; more = []; are = refl }
onto_part x (p ∷ ps) = record { first = x ∷ p; more = ps; are = refl }

has_part : (xs : List ℕ) → HasPart (slice_split is_slash xs)
has_part [] = record { first = []; more = []; are = refl }
has_part (x ∷ xs) = has_by (eqb x 47)
  where
    has_by : (b : Bool) → HasPart (cond b ([] ∷ slice_split is_slash xs) (onto_first x (slice_split is_slash xs)))
    has_by true = record { first = []; more = slice_split is_slash xs; are = refl }
    has_by false = onto_part x (slice_split is_slash xs)

onto_joined : (x : ℕ) (parts qs : List (List ℕ)) → HasPart parts → onto_first x (parts ++ qs) ≡ onto_first x parts ++ qs
onto_joined x parts qs h =
    ap (λ ps. onto_first x (ps ++ qs)) h.are ∙ ap (λ ps. onto_first x ps ++ qs) (sym h.are)

split_by : (b : Bool) (x : ℕ) (xs : List ℕ) (whole : List (List ℕ)) (qs : List (List ℕ)) → whole ≡ slice_split is_slash xs ++ qs
    → cond b ([] ∷ whole) (onto_first x whole) ≡ cond b ([] ∷ slice_split is_slash xs) (onto_first x (slice_split is_slash xs)) ++ qs
split_by true x xs whole qs e = ap (λ t. [] ∷ t) e
split_by false x xs whole qs e = ap (onto_first x) e ∙ onto_joined x (slice_split is_slash xs) qs (has_part xs)

-- a slash more and a name behind it are a part more
split_more : (xs name : List ℕ) → is_free name ≡ true → slice_split is_slash (xs ++ 47 ∷ name) ≡ slice_split is_slash xs ++ name ∷ []
split_more [] name h = ap (λ t. [] ∷ t) (free_split name h)
split_more (x ∷ xs) name h = split_by (eqb x 47) x xs (slice_split is_slash (xs ++ 47 ∷ name)) (name ∷ []) (split_more xs name h)

-- ---- the place of a text

abbrev pub IsNodes : Place → Type 0
IsNodes [] = Unit {0}
IsNodes (Child n ∷ p) = IsNodes p
IsNodes (Prop n ∷ p) = ⊥

below_name : (p : Place) (n : List ℕ) → is_node_name n ≡ true → one_below p n ≡ Child n ∷ p
below_name p [] h = absurd (false≢true h)
below_name p (b ∷ n) h = refl

below_back : (p : Place) → IsNodes p → is_good_place p ≡ true → fold one_below [] (slice_split is_slash (below_text p)) ≡ p
below_back [] n h = refl
below_back (Prop k ∷ p) n h = absurd n
below_back (Child k ∷ p) n h =
    let r = and_parts (is_node_name k) (is_good_place p) h in
    let text : below_text (Child k ∷ p) ≡ below_text p ++ 47 ∷ k = append_assoc (below_text p) (47 ∷ []) k in
    ap (λ t. fold one_below [] (slice_split is_slash t)) text
    ∙ (ap (fold one_below []) (split_more (below_text p) k (name_free k r.0))
    ∙ (fold-append one_below [] (slice_split is_slash (below_text p)) (k ∷ [])
    ∙ (ap (λ q. one_below q k) (below_back p n r.1) ∙ below_name p k r.0)))

-- a node's path leads to it
path_back : (p : Place) → IsNodes p → is_good_place p ≡ true → place_of (path_text p) ≡ p
path_back [] n h = refl
path_back (s ∷ p) n h = below_back (s ∷ p) n h

pub paths_tell : (p q : Place) → IsNodes p → IsNodes q → is_good_place p ≡ true → is_good_place q ≡ true → path_text p ≡ path_text q → p ≡ q
paths_tell p q n m h k e = sym (path_back p n h) ∙ (ap place_of e ∙ path_back q m k)
