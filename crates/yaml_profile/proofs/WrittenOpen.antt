-- What is open after a block of a written file, and how it ends at the next line.
use Rattle.std.proofs.Common.{◌≡◌, ℕ, suc, ◌-◌, ◌<◌, ◌≤◌, Bool, true, false, nat_lt, List, [], ◌∷◌, ◌++◌, ◌⊎◌, Option, Some, None, refl, subst, ◌∙◌, arith, inl, inr}
use Rattle.std.proofs.lemmas.Bool.{cases_Bool}
use Rattle.std.proofs.lemmas.Bool.Decides.{nat_tests}
use Rattle.edt_base.specs.YamlData.{Value, a_map, a_list, null, items_from}
use Rattle.yaml_profile.specs.Fronts.{Frame, InMap, InList, closed, pairs_of, all_closed, is_flow, is_deeper, is_map_at}
use Rattle.yaml_profile.specs.Layout.{settle, ends_block, next_entry, is_dash}
use Rattle.yaml_profile.specs.Written.{key_text, Leaf, leaf_value, Node, Nothing, Beside, Below, Block, Map, Dashes, Alone, Entries, First, Next, Items, FirstItem, NextItem, Item, Of, MapOnLine, item_column, keys_of, node_value, block_value, entry_values, item_values, item_value, IsNode, AreEntries, AreItems, IsItem, IsWithin}
use Rattle.yaml_profile.proofs.WrittenKeys.{lt_true, lt_false, eq_self}

-- the values of the entries before the last
abbrev pub before_last : Entries → List Value
before_last (First k x) = []
before_last (Next es k x) = entry_values es

abbrev pub items_before : Items → List Value
items_before (FirstItem i) = []
items_before (NextItem is i) = item_values is

abbrev mutual
  -- the collections that are open after these, on those around them
  pub open_node : Node → List Frame → List Frame
  open_node (Nothing e gaps) fs = fs
  open_node (Beside n l) fs = fs
  open_node (Below e gaps b) fs = open_block b fs

  pub open_block : Block → List Frame → List Frame
  open_block (Map column es) fs = open_entries column es fs
  open_block (Dashes column is) fs = open_items column is fs
  open_block (Alone column l) fs = fs

  pub open_entries : ℕ → Entries → List Frame → List Frame
  open_entries column (First k x) fs = open_node x (InMap column (key_text k ∷ []) [] ∷ fs)
  open_entries column (Next es k x) fs = open_node x (InMap column (keys_of es ++ key_text k ∷ []) (entry_values es) ∷ fs)

  pub open_items : ℕ → Items → List Frame → List Frame
  open_items column (FirstItem i) fs = open_item column i (InList column [] ∷ fs)
  open_items column (NextItem is i) fs = open_item column i (InList column (item_values is) ∷ fs)

  pub open_item : ℕ → Item → List Frame → List Frame
  open_item column (Of x) fs = open_node x fs
  open_item column (MapOnLine n es) fs = open_entries (item_column column n) es fs

abbrev mutual
  -- the innermost value, which was read last
  pub left_node : Node → Value
  left_node (Nothing e gaps) = null
  left_node (Beside n l) = leaf_value l
  left_node (Below e gaps b) = left_block b

  pub left_block : Block → Value
  left_block (Map column es) = left_entries es
  left_block (Dashes column is) = left_items is
  left_block (Alone column l) = leaf_value l

  pub left_entries : Entries → Value
  left_entries (First k x) = left_node x
  left_entries (Next es k x) = left_node x

  pub left_items : Items → Value
  left_items (FirstItem i) = left_item i
  left_items (NextItem is i) = left_item i

  pub left_item : Item → Value
  left_item (Of x) = left_node x
  left_item (MapOnLine n es) = left_entries es

-- ---- what is open stands at this column or deeper

pub record Over (n : ℕ) (dash : Bool) (fs : List Frame) : Type 0 where
  pub flow : is_flow fs ≡ false
  pub shallow : is_deeper n fs ≡ false
  pub no_map : dash ≡ true → is_map_at n fs ≡ false

pub over_map : (n own : ℕ) (dash : Bool) (ks : List (List ℕ)) (vs : List Value) (fs : List Frame) → n < own → Over n dash (InMap own ks vs ∷ fs)
over_map n own dash ks vs fs h = record { flow = refl; shallow = lt_false own n (omega arith); no_map = λ _. grind (arith, nat_tests) }

pub over_key : (own : ℕ) (ks : List (List ℕ)) (vs : List Value) (fs : List Frame) → Over own false (InMap own ks vs ∷ fs)
over_key own ks vs fs = record { flow = refl; shallow = lt_false own own (omega arith); no_map = λ e. cc }

pub over_list : (n own : ℕ) (dash : Bool) (vs : List Value) (fs : List Frame) → n ≤ own → Over n dash (InList own vs ∷ fs)
over_list n own dash vs fs h = record { flow = refl; shallow = lt_false own n h; no_map = λ _. refl }

pub within_map : (column own : ℕ) (in_map : Bool) (es : Entries) → IsWithin column in_map (Map own es) → column < own
within_map column own true es h = h
within_map column own false es h = h

pub within_list : (column own : ℕ) (in_map : Bool) (is : Items) → IsWithin column in_map (Dashes own is) → column ≤ own
within_list column own true is h = h
within_list column own false is h = omega arith

pub within_alone : (column own : ℕ) (in_map : Bool) (l : Leaf) → IsWithin column in_map (Alone own l) → column < own
within_alone column own true l h = h
within_alone column own false l h = h

mutual
  pub over_node : (x : Node) (fs : List Frame) (column : ℕ) (in_map : Bool) (level n : ℕ) (dash : Bool) → IsNode column in_map level x → n ≤ column → Over n dash fs → Over n dash (open_node x fs)
  over_node (Nothing e gaps) fs column in_map level n dash h l o = o
  over_node (Beside m x) fs column in_map level n dash h l o = o
  over_node (Below e gaps (Map own es)) fs column in_map level n dash h l o =
      let w : column < own = within_map column own in_map es h.3 in
      over_entries es own fs (suc level) n dash (Some own) h.4.1 (omega arith) (λ ks vs. over_map n own dash ks vs fs (omega arith))
  over_node (Below e gaps (Dashes own is)) fs column in_map level n dash h l o =
      let w : column ≤ own = within_list column own in_map is h.3 in
      over_items is own fs (suc level) n dash h.4.1 (omega arith)
  over_node (Below e gaps (Alone own x)) fs column in_map level n dash h l o = o

  pub over_entries : (es : Entries) (own : ℕ) (fs : List Frame) (level n : ℕ) (dash : Bool) (place : Option ℕ) → AreEntries place own level es → n ≤ own
      → ((ks : List (List ℕ)) (vs : List Value) → Over n dash (InMap own ks vs ∷ fs)) → Over n dash (open_entries own es fs)
  over_entries (First k x) own fs level n dash place h l o = over_node x (InMap own (key_text k ∷ []) [] ∷ fs) own true level n dash h.1 l (o (key_text k ∷ []) [])
  over_entries (Next es k x) own fs level n dash place h l o =
      over_node x (InMap own (keys_of es ++ key_text k ∷ []) (entry_values es) ∷ fs) own true level n dash h.3 l (o (keys_of es ++ key_text k ∷ []) (entry_values es))

  pub over_items : (is : Items) (own : ℕ) (fs : List Frame) (level n : ℕ) (dash : Bool) → AreItems own level is → n ≤ own → Over n dash (open_items own is fs)
  over_items (FirstItem i) own fs level n dash h l = over_item i own (InList own [] ∷ fs) level n dash h l (over_list n own dash [] fs l)
  over_items (NextItem is i) own fs level n dash h l = over_item i own (InList own (item_values is) ∷ fs) level n dash h.1 l (over_list n own dash (item_values is) fs l)

  pub over_item : (i : Item) (own : ℕ) (fs : List Frame) (level n : ℕ) (dash : Bool) → IsItem own level i → n ≤ own → Over n dash fs → Over n dash (open_item own i fs)
  over_item (Of x) own fs level n dash h l o = over_node x fs own false level n dash h l o
  over_item (MapOnLine m es) own fs level n dash h l o =
      over_entries es (item_column own m) fs (suc level) n dash None h.1 (omega arith) (λ ks vs. over_map n (item_column own m) dash ks vs fs (omega arith))

-- ---- what is open ends where something begins at a column that is no deeper

pub settle_closes : (f : Frame) (fs : List Frame) (v : Value) (s at c : ℕ) (rest : List ℕ) → ends_block f fs (at - s) (is_dash c rest) ≡ true
    → settle (f ∷ fs) v s at c rest ≡ settle fs (closed f v) s at c rest
unfolding settle
settle_closes f fs v s at c rest h = rw h refl

pub settle_stays : (f : Frame) (fs : List Frame) (v : Value) (s at c : ℕ) (rest : List ℕ) → ends_block f fs (at - s) (is_dash c rest) ≡ false
    → settle (f ∷ fs) v s at c rest ≡ next_entry f fs v s at c rest
unfolding settle
settle_stays f fs v s at c rest h = rw h refl

map_ends : (n own s at c : ℕ) (rest : List ℕ) (ks : List (List ℕ)) (vs : List Value) (fs : List Frame) → at - s ≡ n → n < own → ends_block (InMap own ks vs) fs (at - s) (is_dash c rest) ≡ true
map_ends n own s at c rest ks vs fs e h = rw e (lt_true n own h)

list_ends : (n own s at c : ℕ) (rest : List ℕ) (vs : List Value) (fs : List Frame) → at - s ≡ n → n < own → ends_block (InList own vs) fs (at - s) (is_dash c rest) ≡ true
list_ends n own s at c rest vs fs e h = rw (e, lt_true n own h) refl

same_ends : (own s at c : ℕ) (rest : List ℕ) (vs : List Value) (fs : List Frame) → at - s ≡ own → is_dash c rest ≡ false → is_map_at own fs ≡ true → ends_block (InList own vs) fs (at - s) (is_dash c rest) ≡ true
same_ends own s at c rest vs fs e d m = rw (e, lt_false own own (omega arith), eq_self own, d, m) refl

pub le_cases : (n own : ℕ) → n ≤ own → (n < own) ⊎ (n ≡ own)
le_cases n own h = elim (cases_Bool (nat_lt n own)) [ inl e ↦ inl (grind (arith, nat_tests)) | inr e ↦ inr (grind (arith, nat_tests)) ]

-- a key at the column of the map around a list ends it
abbrev pub SameColumn : (in_map : Bool) (column n c : ℕ) (rest : List ℕ) (fs : List Frame) → Type 0
SameColumn true column n c rest fs = n ≡ column → (is_dash c rest ≡ false) × (is_map_at column fs ≡ true)
SameColumn false column n c rest fs = Unit {0}

ends_there : (own : ℕ) (fs : List Frame) (column s at n c : ℕ) (rest : List ℕ) (vs : List Value) → at - s ≡ n → n ≤ column → column ≤ own → SameColumn true column n c rest fs
    → ends_block (InList own vs) fs (at - s) (is_dash c rest) ≡ true
ends_there own fs column s at n c rest vs a l w q = elim (le_cases n own (omega arith)) [
  | inl h ↦ list_ends n own s at c rest vs fs a h
  | inr h ↦
      let e : n ≡ column = omega arith in
      let d : column ≡ own = omega arith in
      let m : is_map_at own fs ≡ true = subst (λ (k : ℕ). is_map_at k fs ≡ true) d (q e).1 in
      same_ends own s at c rest vs fs (a ∙ h) (q e).0 m
]

mutual
  pub shuts_node : (x : Node) (fs : List Frame) (column : ℕ) (in_map : Bool) (level s at n c : ℕ) (rest : List ℕ) → IsNode column in_map level x → at - s ≡ n → n ≤ column
      → SameColumn in_map column n c rest fs → settle (open_node x fs) (left_node x) s at c rest ≡ settle fs (node_value x) s at c rest
  shuts_node (Nothing e gaps) fs column in_map level s at n c rest h a l q = refl
  shuts_node (Beside m x) fs column in_map level s at n c rest h a l q = refl
  shuts_node (Below e gaps (Map own es)) fs column in_map level s at n c rest h a l q =
      let w : column < own = within_map column own in_map es h.3 in
      shuts_entries es own fs (suc level) s at n c rest (Some own) h.4.1 a (omega arith)
  shuts_node (Below e gaps (Dashes own is)) fs column false level s at n c rest h a l q =
      shuts_items is own fs (suc level) s at n c rest h.4.1 a (omega arith) (λ vs. list_ends n own s at c rest vs fs a (omega arith))
  shuts_node (Below e gaps (Dashes own is)) fs column true level s at n c rest h a l q =
      shuts_items is own fs (suc level) s at n c rest h.4.1 a (omega arith) (λ vs. ends_there own fs column s at n c rest vs a l h.3 q)
  shuts_node (Below e gaps (Alone own x)) fs column in_map level s at n c rest h a l q = refl

  pub shuts_entries : (es : Entries) (own : ℕ) (fs : List Frame) (level s at n c : ℕ) (rest : List ℕ) (place : Option ℕ) → AreEntries place own level es → at - s ≡ n → n < own
      → settle (open_entries own es fs) (left_entries es) s at c rest ≡ settle fs (a_map (pairs_of (keys_of es) (entry_values es))) s at c rest
  shuts_entries (First k x) own fs level s at n c rest place h a l =
      let f : Frame = InMap own (key_text k ∷ []) [] in
      shuts_node x (f ∷ fs) own true level s at n c rest h.1 a (omega arith) (λ e. absurd (omega arith))
      ∙ settle_closes f fs (node_value x) s at c rest (map_ends n own s at c rest (key_text k ∷ []) [] fs a l)
  shuts_entries (Next es k x) own fs level s at n c rest place h a l =
      let f : Frame = InMap own (keys_of es ++ key_text k ∷ []) (entry_values es) in
      shuts_node x (f ∷ fs) own true level s at n c rest h.3 a (omega arith) (λ e. absurd (omega arith))
      ∙ settle_closes f fs (node_value x) s at c rest (map_ends n own s at c rest (keys_of es ++ key_text k ∷ []) (entry_values es) fs a l)

  pub shuts_items : (is : Items) (own : ℕ) (fs : List Frame) (level s at n c : ℕ) (rest : List ℕ) → AreItems own level is → at - s ≡ n → n ≤ own
      → ((vs : List Value) → ends_block (InList own vs) fs (at - s) (is_dash c rest) ≡ true)
      → settle (open_items own is fs) (left_items is) s at c rest ≡ settle fs (a_list (items_from (item_values is))) s at c rest
  shuts_items (FirstItem i) own fs level s at n c rest h a l q =
      shuts_item i own (InList own [] ∷ fs) level s at n c rest h a l ∙ settle_closes (InList own []) fs (item_value i) s at c rest (q [])
  shuts_items (NextItem is i) own fs level s at n c rest h a l q =
      shuts_item i own (InList own (item_values is) ∷ fs) level s at n c rest h.1 a l ∙ settle_closes (InList own (item_values is)) fs (item_value i) s at c rest (q (item_values is))

  pub shuts_item : (i : Item) (own : ℕ) (fs : List Frame) (level s at n c : ℕ) (rest : List ℕ) → IsItem own level i → at - s ≡ n → n ≤ own
      → settle (open_item own i fs) (left_item i) s at c rest ≡ settle fs (item_value i) s at c rest
  shuts_item (Of x) own fs level s at n c rest h a l = shuts_node x fs own false level s at n c rest h a l tt
  shuts_item (MapOnLine m es) own fs level s at n c rest h a l = shuts_entries es (item_column own m) fs (suc level) s at n c rest None h.1 a (omega arith)

mutual
  -- where the file ends all of it does
  pub closes_node : (x : Node) (fs : List Frame) → all_closed (open_node x fs) (left_node x) ≡ all_closed fs (node_value x)
  closes_node (Nothing e gaps) fs = refl
  closes_node (Beside m x) fs = refl
  closes_node (Below e gaps b) fs = closes_block b fs

  pub closes_block : (b : Block) (fs : List Frame) → all_closed (open_block b fs) (left_block b) ≡ all_closed fs (block_value b)
  closes_block (Map own es) fs = closes_entries es own fs
  closes_block (Dashes own is) fs = closes_items is own fs
  closes_block (Alone own l) fs = refl

  pub closes_entries : (es : Entries) (own : ℕ) (fs : List Frame) → all_closed (open_entries own es fs) (left_entries es) ≡ all_closed fs (a_map (pairs_of (keys_of es) (entry_values es)))
  closes_entries (First k x) own fs = closes_node x (InMap own (key_text k ∷ []) [] ∷ fs)
  closes_entries (Next es k x) own fs = closes_node x (InMap own (keys_of es ++ key_text k ∷ []) (entry_values es) ∷ fs)

  pub closes_items : (is : Items) (own : ℕ) (fs : List Frame) → all_closed (open_items own is fs) (left_items is) ≡ all_closed fs (a_list (items_from (item_values is)))
  closes_items (FirstItem i) own fs = closes_item i own (InList own [] ∷ fs)
  closes_items (NextItem is i) own fs = closes_item i own (InList own (item_values is) ∷ fs)

  pub closes_item : (i : Item) (own : ℕ) (fs : List Frame) → all_closed (open_item own i fs) (left_item i) ≡ all_closed fs (item_value i)
  closes_item (Of x) own fs = closes_node x fs
  closes_item (MapOnLine m es) own fs = closes_entries es (item_column own m) fs
