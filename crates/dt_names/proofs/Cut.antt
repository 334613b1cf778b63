-- The four texts of a name, cut from its parts.
use Rattle.std.proofs.Common.{◌≡◌, ℕ, Bool, true, false, not, List, [], ◌∷◌, ◌++◌, ◌&&◌, ◌||◌, refl, sym, ap, ◌∙◌, arith, inl, inr, codes, take, drop, append_assoc, nat_eq, if◌then◌else◌}
use Rattle.std.specs.Str.{bytes_eq}
use Rattle.std.proofs.lemmas.Bool.{cases_Bool, and_parts, and_from, not-true}
use Rattle.edt_base.specs.Forms.{form_of}
use Rattle.dt_names.specs.Facts.{name_first, name_pieces, names_pieces, id_pieces}
use Rattle.dt_names.specs.Inner.Keys.{NameTexts, behind_prop, is_of_prop}
use Rattle.dt_names.specs.Names.{NamePart, marker, word, behind_marker, name_parts}
use Rattle.dt_names.specs.Pieces.{PieceData, lit, form, str, num, spell, spells}
use Rattle.dt_names.proofs.Lengths.{none_spelled, one_spelled}
use Rattle.dt_names.proofs.Spelling.{within, word_next, behind, is_good, is_instance, is_whole, is_open, begins_marker, IsTold, told_marked, no_marker, spells_cons}

-- ---- parts, and the text that they are

abbrev pub part_text : NamePart → List ℕ
part_text (marker m) = m
part_text (word w) = w

abbrev pub parts_text : List NamePart → List ℕ
parts_text [] = []
parts_text (p ∷ ps) = part_text p ++ parts_text ps

text_behind : (t : List ℕ) (qs : List NamePart) → parts_text (behind_marker t qs) ≡ t ++ parts_text qs
text_behind t [] = refl
text_behind t (marker u ∷ qs) = append_assoc t u (parts_text qs)
text_behind t (word w ∷ qs) = refl

parts_spelled : (ps : List PieceData) → parts_text (name_parts ps) ≡ spells ps
parts_spelled [] = sym none_spelled
parts_spelled (lit t ∷ ps) = text_behind t (name_parts ps) ∙ ap (λ x. t ++ x) (parts_spelled ps) ∙ sym (spells_cons (lit t) ps)
parts_spelled (form t ∷ ps) = ap (λ x. form_of t ++ x) (parts_spelled ps) ∙ sym (spells_cons (form t) ps)
parts_spelled (str t ∷ ps) = ap (λ x. spell (str t) ++ x) (parts_spelled ps) ∙ sym (spells_cons (str t) ps)
parts_spelled (num n ∷ ps) = ap (λ x. spell (num n) ++ x) (parts_spelled ps) ∙ sym (spells_cons (num n) ps)

-- ---- the texts, read from the parts

-- they begin with this marker and a word
abbrev pub begins_with : List ℕ → List NamePart → Bool
begins_with m [] = false
begins_with m (word w ∷ ps) = false
begins_with m (marker t ∷ []) = false
begins_with m (marker t ∷ marker u ∷ ps) = false
begins_with m (marker t ∷ word w ∷ ps) = bytes_eq t m

-- the text of a path's names, and what stands behind them
abbrev pub names_text : List NamePart → List ℕ
names_text [] = []
names_text (word w ∷ ps) = []
names_text (marker m ∷ []) = []
names_text (marker m ∷ marker n ∷ ps) = []
names_text (marker m ∷ word w ∷ ps) = if bytes_eq m (codes "_S_") then m ++ (w ++ names_text ps) else []

abbrev pub behind_names : List NamePart → List NamePart
behind_names [] = []
behind_names (word w ∷ ps) = word w ∷ ps
behind_names (marker m ∷ []) = marker m ∷ []
behind_names (marker m ∷ marker n ∷ ps) = marker m ∷ marker n ∷ ps
behind_names (marker m ∷ word w ∷ ps) = if bytes_eq m (codes "_S_") then behind_names ps else marker m ∷ word w ∷ ps

-- the parts behind `DT_N`
abbrev pub behind_root : List NamePart → List NamePart
behind_root [] = []
behind_root (word w ∷ ps) = word w ∷ ps
behind_root (marker m ∷ ps) = marker (drop 4 m) ∷ ps

-- the name is one of the tree: it has no id
abbrev pub is_of_tree : List NamePart → Bool
is_of_tree [] = false
is_of_tree (word w ∷ ps) = false
is_of_tree (marker m ∷ ps) =
    not (bytes_eq (take 4 m) (codes "DT_N"))
    || (bytes_eq m (codes "DT_N_ALIAS_") || (bytes_eq m (codes "DT_N_NODELABEL_") || bytes_eq m (codes "DT_N_INST_")))

-- the parts behind a property
abbrev pub behind_property : List NamePart → List NamePart
behind_property ps = if begins_with (codes "_P_") ps then drop 2 ps else ps

-- an id, and the parts behind it
abbrev pub rest_texts : List ℕ → List NamePart → NameTexts
rest_texts id ps = record {
  base = id;
  prop = parts_text (if begins_with (codes "_P_") ps then take 2 ps else []);
  entry = parts_text (take 2 (behind_property ps));
  last = parts_text (drop 2 (behind_property ps));
}

abbrev pub node_texts : List NamePart → NameTexts
node_texts ps = rest_texts (codes "DT_N" ++ names_text ps) (behind_names ps)

abbrev pub parts_texts : List NamePart → NameTexts
parts_texts ps = if is_of_tree ps then record { base = []; prop = []; entry = parts_text (take 2 ps); last = parts_text (drop 2 ps) } else node_texts (behind_root ps)

-- ---- a name's texts are those of its parts

-- the texts of a name in two parts, as `texts_of` has them
abbrev pub texts_in : List PieceData → List PieceData → NameTexts
texts_in base rest = record {
  base = spells base;
  prop = spells (if is_of_prop rest then take 2 rest else []);
  entry = spells (take 2 (behind_prop rest));
  last = spells (drop 2 (behind_prop rest));
}

-- a name is told by its spelling, and its parts give its texts
abbrev pub IsCut : List PieceData → List PieceData → Type 0
IsCut base rest = IsTold (base ++ rest) × (parts_texts (name_parts (base ++ rest)) ≡ texts_in base rest)

abbrev four_texts : (base prop entry last : List ℕ) → NameTexts
four_texts base prop entry last = record { base = base; prop = prop; entry = entry; last = last }

same_texts : (a b c d x y z w : List ℕ) → a ≡ x → b ≡ y → c ≡ z → d ≡ w → four_texts a b c d ≡ four_texts x y z w
same_texts a b c d x y z w p q r s = ap (λ t. four_texts t b c d) p ∙ ap (λ t. four_texts x t c d) q ∙ ap (λ t. four_texts x y t d) r ∙ ap (four_texts x y z) s

-- the first two pieces are a marker and a word or number, or the pieces are one marker or two
abbrev pub is_paired : List PieceData → Bool
is_paired [] = true
is_paired (lit t ∷ []) = true
is_paired (lit t ∷ lit u ∷ []) = true
is_paired (lit t ∷ form w ∷ ps) = true
is_paired (lit t ∷ num n ∷ ps) = true
is_paired _ = false

-- then two pieces are spelled as two parts, and so are the others
pair_cut : (ps : List PieceData) → is_paired ps ≡ true → (parts_text (take 2 (name_parts ps)) ≡ spells (take 2 ps)) × (parts_text (drop 2 (name_parts ps)) ≡ spells (drop 2 ps))
pair_cut [] h = (sym none_spelled, sym none_spelled)
pair_cut (lit t ∷ []) h = (parts_spelled (lit t ∷ []), sym none_spelled)
pair_cut (lit t ∷ lit u ∷ []) h = (parts_spelled (lit t ∷ lit u ∷ []), sym none_spelled)
pair_cut (lit t ∷ form w ∷ ps) h = (parts_spelled (lit t ∷ form w ∷ []), parts_spelled ps)
pair_cut (lit t ∷ num n ∷ ps) h = (parts_spelled (lit t ∷ num n ∷ []), parts_spelled ps)
pair_cut _ h = absurd (cc)

no_instance : (ps : List NamePart) → is_of_tree ps ≡ false → is_instance ps ≡ false
no_instance [] h = refl
no_instance (word w ∷ ps) h = refl
no_instance (marker m ∷ []) h = refl
no_instance (marker m ∷ marker n ∷ ps) h = refl
no_instance (marker m ∷ word w ∷ []) h = elim (cases_Bool (bytes_eq m (codes "DT_N_INST_"))) [
  | inl e ↦ let k : (not (bytes_eq (take 4 m) (codes "DT_N")) || (bytes_eq m (codes "DT_N_ALIAS_") || (bytes_eq m (codes "DT_N_NODELABEL_") || true))) ≡ false = rw e at h in absurd (grind (arith, k))
  | inr e ↦ e
]
no_instance (marker m ∷ word w ∷ p ∷ ps) h = refl

-- ---- names of the tree

-- a name of the tree, as its parts tell, and of no property
abbrev pub is_own : List PieceData → Bool
is_own ps = is_of_tree (name_parts ps) && (not (is_of_prop ps) && is_paired ps)

pub cut_tree : (t : List ℕ) (ps : List PieceData) → is_own (lit t ∷ ps) ≡ true → IsTold (lit t ∷ ps) → IsCut [] (lit t ∷ ps)
cut_tree t ps h told =
    let p : (is_of_tree (name_parts (lit t ∷ ps)) ≡ true) × ((not (is_of_prop (lit t ∷ ps)) && is_paired (lit t ∷ ps)) ≡ true) = and_parts _ _ h in
    let q : (not (is_of_prop (lit t ∷ ps)) ≡ true) × (is_paired (lit t ∷ ps) ≡ true) = and_parts _ _ p.1 in
    let c = pair_cut (lit t ∷ ps) q.1 in
    (told, rw (p.0, not-true _ q.0) (same_texts _ _ _ _ _ _ _ _ (sym none_spelled) (sym none_spelled) c.0 c.1))

-- ---- names of nodes

abbrev pub begins_lit : List PieceData → Bool
begins_lit (lit t ∷ ps) = true
begins_lit _ = false

lit_marked : (ps : List PieceData) → begins_lit ps ≡ true → behind_marker [] (name_parts ps) ≡ name_parts ps
lit_marked (lit t ∷ ps) h = no_marker t (name_parts ps)
lit_marked _ h = absurd (cc)

-- what may follow `DT_N`
abbrev pub follows_root : List PieceData → Bool
follows_root ps = is_good behind ps && (begins_lit ps && not (is_of_tree (behind_marker (codes "DT_N") (name_parts ps))))

-- the parts behind an id tell whether it is a property that comes, and what tells an entry
abbrev pub is_split : List PieceData → Bool
is_split after = (not (begins_with (codes "_P_") (name_parts after)) || is_of_prop after) && is_paired (behind_prop after)

-- what may follow an id
abbrev pub follows_id : List PieceData → Bool
follows_id after =
    follows_root after
    && (not (begins_with (codes "_S_") (name_parts after)) && is_split after)

name_follows : (w : List ℕ) (rest : List PieceData) → follows_root rest ≡ true → follows_root (name_pieces w ++ rest) ≡ true
name_follows [] rest h = h
name_follows (c ∷ cs) rest h =
    let p : (is_good behind rest ≡ true) × ((begins_lit rest && not (is_of_tree (behind_marker (codes "DT_N") (name_parts rest)))) ≡ true) = and_parts _ _ h in
    rw p.0 refl

names_follow : (path : List ℕ) (after : List PieceData) → follows_root after ≡ true → follows_root (names_pieces path ++ after) ≡ true
names_follow [] after h = h
names_follow (c ∷ cs) after h = elim (cases_Bool (nat_eq c 47)) [
  | inl e ↦ rw (e, append_assoc) (name_follows (name_first cs) (names_pieces cs ++ after) (names_follow cs after h))
  | inr e ↦ rw e (names_follow cs after h)
]

-- the names of a path have their text, and the others stand behind them
abbrev AreNamesCut : List PieceData → List PieceData → Type 0
AreNamesCut names after = (names_text (name_parts (names ++ after)) ≡ spells names) × (behind_names (name_parts (names ++ after)) ≡ name_parts after)

none_cut : (ps : List NamePart) → begins_with (codes "_S_") ps ≡ false → (names_text ps ≡ []) × (behind_names ps ≡ ps)
none_cut [] h = (refl, refl)
none_cut (word w ∷ ps) h = (refl, refl)
none_cut (marker m ∷ []) h = (refl, refl)
none_cut (marker m ∷ marker n ∷ ps) h = (refl, refl)
none_cut (marker m ∷ word w ∷ ps) h = rw h (refl, refl)

name_spelled : (w : List ℕ) → spells (lit (codes "_S_") ∷ form w ∷ []) ≡ codes "_S_" ++ form_of w
name_spelled w = spells_cons (lit (codes "_S_")) (form w ∷ []) ∙ ap (λ x. codes "_S_" ++ x) (one_spelled (form w))

name_cut : (w : List ℕ) (names after : List PieceData) → AreNamesCut names after → AreNamesCut (name_pieces w ++ names) after
name_cut [] names after h = h
name_cut (c ∷ cs) names after h = (
  ap (λ x. codes "_S_" ++ (form_of (c ∷ cs) ++ x)) h.0 ∙ sym (spells_cons (lit (codes "_S_")) _ ∙ ap (λ x. codes "_S_" ++ x) (spells_cons (form (c ∷ cs)) names)),
  h.1,
)

names_cut : (path : List ℕ) (after : List PieceData) → begins_with (codes "_S_") (name_parts after) ≡ false → AreNamesCut (names_pieces path) after
names_cut [] after h = let n = none_cut (name_parts after) h in (n.0 ∙ sym none_spelled, n.1)
names_cut (c ∷ cs) after h = elim (cases_Bool (nat_eq c 47)) [
  | inl e ↦ rw e (name_cut (name_first cs) (names_pieces cs) after (names_cut cs after h))
  | inr e ↦ rw e (names_cut cs after h)
]

root_behind : (ps : List NamePart) → behind_root (behind_marker (codes "DT_N") ps) ≡ behind_marker [] ps
root_behind [] = refl
root_behind (marker m ∷ ps) = refl
root_behind (word w ∷ ps) = refl

-- the first two pieces of a name of a property, and the others
prop_cut : (after : List PieceData) → is_of_prop after ≡ true
    → (begins_with (codes "_P_") (name_parts after) ≡ true) × (take 2 (name_parts after) ≡ name_parts (take 2 after)) × (drop 2 (name_parts after) ≡ name_parts (drop 2 after))
prop_cut (lit m ∷ form w ∷ ps) h = (h, refl, refl)
prop_cut _ h = absurd (cc)

rest_cut : (base after : List PieceData) → is_split after ≡ true → rest_texts (spells base) (name_parts after) ≡ texts_in base after
rest_cut base after h =
    let s : ((not (begins_with (codes "_P_") (name_parts after)) || is_of_prop after) ≡ true) × (is_paired (behind_prop after) ≡ true) = and_parts _ _ h in
    let told = s.0 in
    elim (cases_Bool (is_of_prop after)) [
      | inl e ↦
          let p = prop_cut after e in
          let paired : is_paired (drop 2 after) ≡ true = rw e at s.1 in
          let c = pair_cut (drop 2 after) paired in
          rw (e, p.0) (same_texts _ _ _ _ _ _ _ _ refl (ap parts_text p.1 ∙ parts_spelled (take 2 after))
          (ap (λ ps. parts_text (take 2 ps)) p.2 ∙ c.0) (ap (λ ps. parts_text (drop 2 ps)) p.2 ∙ c.1))
      | inr e ↦
          let n : begins_with (codes "_P_") (name_parts after) ≡ false = grind (arith, told, e) in
          let paired : is_paired after ≡ true = rw e at s.1 in
          let c = pair_cut after paired in
          rw (e, n) (same_texts _ _ _ _ _ _ _ _ refl (sym none_spelled) c.0 c.1)
    ]

or_none : (x : Bool) → (x || false) ≡ x
or_none true = refl
or_none false = refl

good_within : (ps : List PieceData) → is_good behind ps ≡ true → is_good within ps ≡ true
good_within [] h = refl
good_within (lit t ∷ ps) h =
    let p : (begins_marker t ≡ true) × (((is_whole t && is_good within ps) || (is_open t && is_good word_next ps)) ≡ true) = and_parts _ _ h in p.1
good_within (form t ∷ ps) h = absurd (cc)
good_within (str t ∷ ps) h = absurd (cc)
good_within (num n ∷ ps) h = absurd (cc)

pub cut_node : (path : List ℕ) (after : List PieceData) → follows_id after ≡ true → IsCut (id_pieces path) after
cut_node path after h =
    let p : (follows_root after ≡ true) × ((not (begins_with (codes "_S_") (name_parts after)) && is_split after) ≡ true) = and_parts _ _ h in
    let q : (not (begins_with (codes "_S_") (name_parts after)) ≡ true) × (is_split after ≡ true) = and_parts _ _ p.1 in
    let whole = names_pieces path ++ after in
    let root : (is_good behind whole ≡ true) × ((begins_lit whole && not (is_of_tree (behind_marker (codes "DT_N") (name_parts whole)))) ≡ true) = and_parts _ _ (names_follow path after p.0) in
    let first : (begins_lit whole ≡ true) × (not (is_of_tree (behind_marker (codes "DT_N") (name_parts whole))) ≡ true) = and_parts _ _ root.1 in
    let n : is_of_tree (behind_marker (codes "DT_N") (name_parts whole)) ≡ false = not-true _ first.1 in
    let behind_it : behind_root (behind_marker (codes "DT_N") (name_parts whole)) ≡ name_parts whole = root_behind (name_parts whole) ∙ lit_marked whole first.0 in
    let cut : AreNamesCut (names_pieces path) after = names_cut path after (not-true _ q.0) in
    let id : codes "DT_N" ++ names_text (name_parts whole) ≡ spells (id_pieces path) = ap (λ x. codes "DT_N" ++ x) cut.0 ∙ sym (spells_cons (lit (codes "DT_N")) (names_pieces path)) in (
      told_marked (codes "DT_N") whole (and_from _ _ (or_none (is_good within whole) ∙ good_within whole root.0) (ap not (no_instance (behind_marker (codes "DT_N") (name_parts whole)) n))),
      rw n (ap node_texts behind_it ∙ ap (λ x. rest_texts x (behind_names (name_parts whole))) id ∙ ap (rest_texts (spells (id_pieces path))) cut.1 ∙ rest_cut (id_pieces path) after q.1),
    )
