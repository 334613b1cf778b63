-- Blocks where they begin: each with the characters that spell it, and how reading goes on after it.
use Rattle.std.proofs.Common.{◌≡◌, ℕ, zero, suc, ◌+◌, ◌<◌, ◌≤◌, Bool, true, false, not, ◌==◌, nat_lt, List, [], ◌∷◌, ◌++◌, length, Option, Some, Result, Ok, ◌⊎◌, inl, inr, refl, sym, ap, subst, ◌∙◌, arith, append_assoc, length-append}
use Rattle.std.specs.List.{list_any}
use Rattle.std.specs.Str.{bytes_eq}
use Rattle.std.proofs.lemmas.Bool.{and_parts, cases_Bool}
use Rattle.std.proofs.lemmas.Bool.Decides.{nat_tests}
use Rattle.edt_base.specs.YamlData.{Value, a_map, a_list, items_from}
use Rattle.yaml_profile.specs.declared.stop.Broken.{Broken}
use Rattle.yaml_profile.specs.declared.front.Role.{Role}
use Rattle.yaml_profile.specs.declared.front.Role.TheVariants.{Either, Key as KeyOnly}
use Rattle.yaml_profile.specs.Answers.{second_key, too_deep}
use Rattle.yaml_profile.specs.Fronts.{Frame, InMap, InList, AtValue, Front, front, pairs_of, is_flow, is_full, is_deeper, is_map_at}
use Rattle.yaml_profile.specs.Pieces.{key_of}
use Rattle.yaml_profile.specs.Written.{spaces, word_ends, spell_key, key_text, spell_leaf, leaf_value, Node, Block, Map, Dashes, Alone, Entries, First, Next, Items, FirstItem, NextItem, Item, spell_node, spell_block, spell_entries, spell_items, spell_item, keys_of, node_value, block_value, entry_values, item_values, item_value, IsWithin, IsNode, IsBlock, AreEntries, AreItems, IsItem}
use Rattle.yaml_profile.proofs.ReadSteps.{past, past_append, past_spaces, not_true, ReadsOn, all_ended, is_content, Closed}
use Rattle.yaml_profile.proofs.ReadParts.{IsLeast, LeafRead, Keyed, ValueRead}
use Rattle.yaml_profile.proofs.ReadValues.{value_read}
use Rattle.yaml_profile.proofs.ReadOpen.{KeyLine, DashLine, MapOn, ListOn, map_on, list_on, ListAhead, BlockAhead, not_full}

-- ---- what is found

-- what stands after a colon
pub record NodeRead (fs : List Frame) (column : ℕ) (in_map : Bool) (at : ℕ) (xs : List ℕ) (v : Value) : Type 0 where
  pub node : Node
  pub rest : List ℕ
  pub parts : xs ≡ spell_node node ++ rest
  pub is : IsNode column in_map (length fs) node
  pub closed : Closed fs (node_value node) (past at (spell_node node)) rest v
  pub ended : all_ended false rest ≡ true

-- what stands after a dash
pub record ItemRead (fs : List Frame) (column at : ℕ) (xs : List ℕ) (v : Value) : Type 0 where
  pub item : Item
  pub rest : List ℕ
  pub parts : xs ≡ spell_item column item ++ rest
  pub is : IsItem column (length fs) item
  pub closed : Closed fs (item_value item) (past at (spell_item column item)) rest v
  pub ended : all_ended false rest ≡ true

abbrev pub PartRead : List Frame → (column : ℕ) → (in_map : Bool) → (at : ℕ) → List ℕ → Value → Type 0
PartRead fs column true at xs v = NodeRead fs column true at xs v
PartRead fs column false at xs v = ItemRead fs column at xs v

-- a map from its first key on
pub record MapRead (place : Option ℕ) (fs : List Frame) (column at : ℕ) (xs : List ℕ) (v : Value) : Type 0 where
  pub entries : Entries
  pub rest : List ℕ
  pub parts : xs ≡ spell_entries column entries ++ rest
  pub level : length fs < 32
  pub are : AreEntries place column (suc (length fs)) entries
  pub closed : Closed fs (a_map (pairs_of (keys_of entries) (entry_values entries))) (past at (spell_entries column entries)) rest v
  pub ended : all_ended false rest ≡ true

-- a list from its first dash on
pub record ListRead (fs : List Frame) (column at : ℕ) (xs : List ℕ) (v : Value) : Type 0 where
  pub items : Items
  pub rest : List ℕ
  pub parts : xs ≡ spell_items column items ++ rest
  pub level : length fs < 32
  pub are : AreItems column (suc (length fs)) items
  pub closed : Closed fs (a_list (items_from (item_values items))) (past at (spell_items column items)) rest v
  pub ended : all_ended false rest ≡ true

-- ---- columns

-- these are the frames that a node below a block at this column stands on
pub record Under (column : ℕ) (in_map : Bool) (fs : List Frame) : Type 0 where
  pub flow : is_flow fs ≡ false
  pub least : IsLeast (suc column) fs
  pub most : (n : ℕ) → is_deeper n fs ≡ false → n < suc column
  pub same : (n : ℕ) → is_map_at n fs ≡ true → (in_map ≡ true) × (n ≡ column)

over : (own n : ℕ) → nat_lt own n ≡ true → suc own ≤ n
over own n h = grind (arith, nat_tests)

not_over : (own n : ℕ) → nat_lt own n ≡ false → n < suc own
not_over own n h = grind (arith, nat_tests)

same_column : (own n : ℕ) → (own == n) ≡ true → n ≡ own
same_column own n h = grind (arith, nat_tests)

pub under_map : (own : ℕ) (keys : List (List ℕ)) (values : List Value) (fs : List Frame) → Under own true (InMap own keys values ∷ fs)
under_map own keys values fs = record { flow = refl; least = λ n h. over own n h; most = λ n h. not_over own n h; same = λ n h. (refl, same_column own n h) }

under_list : (own : ℕ) (items : List Value) (fs : List Frame) → Under own false (InList own items ∷ fs)
under_list own items fs = record { flow = refl; least = λ n h. over own n h; most = λ n h. not_over own n h; same = λ n h. cc }

-- parts of so many characters at most are read
abbrev pub PartsRead : ℕ → Type 0
PartsRead n = (fs : List Frame) (column : ℕ) (in_map : Bool) (start at : ℕ) (xs : List ℕ) (v : Value) → length xs ≤ n → Under column in_map fs → (in_map ≡ false → start + suc column ≡ at) → word_ends true xs ≡ true → all_ended true xs ≡ true
    → ReadsOn (front fs (AtValue start (not in_map) false)) at xs v → PartRead fs column in_map at xs v

pub closed_at : (fs : List Frame) (u : Value) (p q : ℕ) (rest : List ℕ) (v : Value) → p ≡ q → Closed fs u p rest v → Closed fs u q rest v
closed_at fs u p q rest v e h = subst (λ k. Closed fs u k rest v) e h

-- ---- entries

entry_parts : (es ss ks ns xs rest line more last : List ℕ) → xs ≡ es ++ rest → rest ≡ ss ++ line → line ≡ ks ++ 58 ∷ more → more ≡ ns ++ last → xs ≡ (es ++ (ss ++ (ks ++ 58 ∷ ns))) ++ last
entry_parts es ss ks ns xs rest line more last a b c d =
    rw (append_assoc es (ss ++ (ks ++ 58 ∷ ns)) last, append_assoc ss (ks ++ 58 ∷ ns) last, append_assoc ks (58 ∷ ns) last)
    (a ∙ ap (λ zs. es ++ zs) (b ∙ ap (λ zs. ss ++ zs) (c ∙ ap (λ zs. ks ++ 58 ∷ zs) d)))

key_place : (ks ns : List ℕ) (at : ℕ) → past (past at (ks ++ 58 ∷ [])) ns ≡ past at (ks ++ 58 ∷ ns)
key_place ks ns at = sym (past_append (ks ++ 58 ∷ []) ns at) ∙ ap (λ zs. past at zs) (append_assoc ks (58 ∷ []) ns)

entry_place : (es ks ns : List ℕ) (column at : ℕ) → past (past (past at es + column) (ks ++ 58 ∷ [])) ns ≡ past at (es ++ (spaces column ++ (ks ++ 58 ∷ ns)))
entry_place es ks ns column at =
    key_place ks ns (past at es + column)
    ∙ (ap (λ p. past p (ks ++ 58 ∷ ns)) (sym (past_spaces column (past at es)))
    ∙ (sym (past_append (spaces column) (ks ++ 58 ∷ ns) (past at es)) ∙ sym (past_append es (spaces column ++ (ks ++ 58 ∷ ns)) at)))

longer : (ys : List ℕ) (c : ℕ) (zs xs : List ℕ) → xs ≡ ys ++ c ∷ zs → length zs < length xs
longer ys c zs xs e = let q : length xs ≡ length ys + length (c ∷ zs) = ap (λ (us : List ℕ). length us) e ∙ length-append ys (c ∷ zs) in omega (arith, q)

pub no_longer : (ys zs xs : List ℕ) → xs ≡ ys ++ zs → length zs ≤ length xs
no_longer ys zs xs e = let q : length xs ≡ length ys + length zs = ap (λ (us : List ℕ). length us) e ∙ length-append ys zs in omega (arith, q)

-- a key opens a map
pub record FirstNamed (fs : List Frame) (column : ℕ) (key : List ℕ) (g : Front) : Type 0 where
  pub level : length fs < 32
  pub is : g ≡ front (InMap column (key ∷ []) [] ∷ fs) (AtValue 0 false false)

first_named : (fs : List Frame) (column : ℕ) (key : List ℕ) (at fails : ℕ) (g : Front) → key_of fs (Either column) key at fails ≡ Ok g → FirstNamed fs column key g
unfolding key_of
first_named fs column key at fails g h = elim (cases_Bool (is_full fs)) [
  | inl e ↦ let q : ◌≡◌ {A = Result Front Broken} (too_deep at) (Ok g) = rw e at h in cc
  | inr e ↦ let q : ◌≡◌ {A = Result Front Broken} (Ok (front (InMap column (key ∷ []) [] ∷ fs) (AtValue 0 false false))) (Ok g) = rw e at h in record { level = not_full (length fs) e; is = cc }
]

-- a key goes on with the map
pub record FurtherNamed (fs : List Frame) (column : ℕ) (keys : List (List ℕ)) (values : List Value) (key : List ℕ) (g : Front) : Type 0 where
  pub new : list_any (bytes_eq key) keys ≡ false
  pub is : g ≡ front (InMap column (keys ++ key ∷ []) values ∷ fs) (AtValue 0 false false)

further_named : (fs : List Frame) (column : ℕ) (keys : List (List ℕ)) (values : List Value) (key : List ℕ) (at fails : ℕ) (g : Front) → key_of (InMap column keys values ∷ fs) KeyOnly key at fails ≡ Ok g → FurtherNamed fs column keys values key g
unfolding key_of
further_named fs column keys values key at fails g h = elim (cases_Bool (list_any (bytes_eq key) keys)) [
  | inl e ↦ let q : ◌≡◌ {A = Result Front Broken} (second_key at) (Ok g) = rw e at h in cc
  | inr e ↦ let q : ◌≡◌ {A = Result Front Broken} (Ok (front (InMap column (keys ++ key ∷ []) values ∷ fs) (AtValue 0 false false))) (Ok g) = rw e at h in record { new = e; is = cc }
]

-- after these entries so many characters stand at most, and the map is read to its end
abbrev pub MoreEntries : (n m : ℕ) → Type 0
MoreEntries n m = (place : Option ℕ) (fs : List Frame) (column at : ℕ) (es : Entries) (xs rest : List ℕ) (v : Value) → m ≤ n → length rest ≤ m → xs ≡ spell_entries column es ++ rest → all_ended false rest ≡ true → length fs < 32
    → AreEntries place column (suc (length fs)) es → MapOn fs column (keys_of es) (entry_values es) (past at (spell_entries column es)) rest v → MapRead place fs column at xs v

-- an entry with its node
entry_node : (n : ℕ) → PartsRead n → (fs : List Frame) (role : Role) (place : Option ℕ) (column at : ℕ) (xs : List ℕ) (v : Value) (keys : List (List ℕ)) (values : List Value) (k : Keyed fs role place at xs v) (gs : List Frame) → length k.rest ≤ n
    → k.front ≡ front (InMap column keys values ∷ gs) (AtValue 0 false false) → NodeRead (InMap column keys values ∷ gs) column true (past at (spell_key k.key ++ 58 ∷ [])) k.rest v
entry_node n parts fs role place column at xs v keys values k gs short e =
    parts (InMap column keys values ∷ gs) column true 0 (past at (spell_key k.key ++ 58 ∷ [])) k.rest v short (under_map column keys values gs) (λ q. cc) k.word k.ended
    (subst (λ (g : Front). ReadsOn g (past at (spell_key k.key ++ 58 ∷ [])) k.rest v) e k.on)

-- with the node of a further key
next_entry_read : (n m : ℕ) → MoreEntries n m → (place : Option ℕ) (fs : List Frame) (column at : ℕ) (es : Entries) (xs rest line : List ℕ) (v : Value) → suc m ≤ n → xs ≡ spell_entries column es ++ rest → length fs < 32
    → AreEntries place column (suc (length fs)) es → rest ≡ spaces column ++ line → (k : Keyed (InMap column (keys_of es) (entry_values es) ∷ fs) KeyOnly (Some column) (past at (spell_entries column es) + column) line v)
    → list_any (bytes_eq (key_text k.key)) (keys_of es) ≡ false → length k.rest ≤ m
    → NodeRead (InMap column (keys_of es ++ key_text k.key ∷ []) (entry_values es) ∷ fs) column true (past (past at (spell_entries column es) + column) (spell_key k.key ++ 58 ∷ [])) k.rest v → MapRead place fs column at xs v
next_entry_read n m more place fs column at es xs rest line v le p level are q k new fewer x =
    let l : length x.rest ≤ length k.rest = no_longer (spell_node x.node) x.rest k.rest x.parts in
    let on : MapOn fs column (keys_of es ++ key_text k.key ∷ []) (entry_values es ++ node_value x.node ∷ []) (past (past (past at (spell_entries column es) + column) (spell_key k.key ++ 58 ∷ [])) (spell_node x.node)) x.rest v
    = map_on fs column (keys_of es ++ key_text k.key ∷ []) (entry_values es) (node_value x.node) (past (past (past at (spell_entries column es) + column) (spell_key k.key ++ 58 ∷ [])) (spell_node x.node)) x.rest v x.closed in
    more place fs column at (Next es k.key x.node) xs x.rest v (omega (arith, le)) (omega (arith, l, fewer))
    (entry_parts (spell_entries column es) (spaces column) (spell_key k.key) (spell_node x.node) xs rest line k.rest x.rest p q k.parts x.parts)
    x.ended level (are, k.is, new, x.is)
    (subst (λ (p : ℕ). MapOn fs column (keys_of es ++ key_text k.key ∷ []) (entry_values es ++ node_value x.node ∷ []) p x.rest v) (entry_place (spell_entries column es) (spell_key k.key) (spell_node x.node) column at) on)

-- a further key, and the entries after it
further_entry : (n m : ℕ) → PartsRead n → MoreEntries n m → (place : Option ℕ) (fs : List Frame) (column at : ℕ) (es : Entries) (xs rest line : List ℕ) (v : Value) → suc m ≤ n → length rest ≤ suc m → xs ≡ spell_entries column es ++ rest → length fs < 32
    → AreEntries place column (suc (length fs)) es → rest ≡ spaces column ++ line → (k : Keyed (InMap column (keys_of es) (entry_values es) ∷ fs) KeyOnly (Some column) (past at (spell_entries column es) + column) line v) → MapRead place fs column at xs v
further_entry n m parts more place fs column at es xs rest line v le short p level are q k =
    let f : FurtherNamed fs column (keys_of es) (entry_values es) (key_text k.key) k.front = further_named fs column (keys_of es) (entry_values es) (key_text k.key) k.begun k.fails k.front k.named in
    let l : length k.rest < length line = longer (spell_key k.key) 58 k.rest line k.parts in
    let l2 : length line ≤ length rest = no_longer (spaces column) line rest q in
    let fewer : length k.rest ≤ m = omega (arith, l, l2, short) in
    let x : NodeRead (InMap column (keys_of es ++ key_text k.key ∷ []) (entry_values es) ∷ fs) column true (past (past at (spell_entries column es) + column) (spell_key k.key ++ 58 ∷ [])) k.rest v
    = entry_node n parts (InMap column (keys_of es) (entry_values es) ∷ fs) KeyOnly (Some column) column (past at (spell_entries column es) + column) line v (keys_of es ++ key_text k.key ∷ []) (entry_values es) k fs (omega (arith, fewer, le)) f.is in
    next_entry_read n m more place fs column at es xs rest line v le p level are q k f.new fewer x

-- where only a key may stand, one stands
only_key : (fs : List Frame) (place : Option ℕ) (least level at : ℕ) (xs : List ℕ) (v : Value) → ValueRead fs KeyOnly place least level at xs v → Keyed fs KeyOnly place at xs v
only_key fs place least level at xs v (inl k) = k
only_key fs place least level at xs v (inr b) = absurd (let q : true ≡ false = b.0 in cc)

pub record ContentFacts (c : ℕ) : Type 0 where
  pub space : (c == 32) ≡ false
  pub feed : (c == 10) ≡ false
  pub tab : (c == 9) ≡ false

content_facts : (c : ℕ) → is_content c ≡ true → ContentFacts c
content_facts c h = let a = and_parts _ _ h in let b = and_parts _ _ a.0 in let d = and_parts _ _ b.0 in record { space = not_true _ d.0; feed = not_true _ d.1; tab = not_true _ b.1 }

key_of_line : (fs : List Frame) (column : ℕ) (keys : List (List ℕ)) (values : List Value) (s : ℕ) (rest : List ℕ) (v : Value) (l : KeyLine fs column keys values s rest v) → Keyed (InMap column keys values ∷ fs) KeyOnly (Some column) (s + column) (l.first ∷ l.more) v
key_of_line fs column keys values s rest v l =
    let gs : List Frame = InMap column keys values ∷ fs in
    let u : Under column true gs = under_map column keys values fs in
    let f : ContentFacts l.first = content_facts l.first l.content in
    only_key gs (Some column) (suc column) (length gs) (s + column) (l.first ∷ l.more) v (value_read gs KeyOnly (Some column) (suc column) (s + column) l.first l.more v u.flow u.least u.most (f.tab, l.unmarked) f.space f.feed l.ended l.on)

more_entries : (n : ℕ) → PartsRead n → (m : ℕ) → MoreEntries n m
more_entries n parts m place fs column at es xs rest v le short p ended level are (inl closed) = record { entries = es; rest = rest; parts = p; level = level; are = are; closed = closed; ended = ended }
more_entries n parts zero place fs column at es xs rest v le short p ended level are (inr l) = absurd (let q : length l.more < length rest = longer (spaces column) l.first l.more rest l.parts in omega (arith, q, short))
more_entries n parts (suc m) place fs column at es xs rest v le short p ended level are (inr l) =
    further_entry n m parts (more_entries n parts m) place fs column at es xs rest (l.first ∷ l.more) v le short p level are l.parts
    (key_of_line fs column (keys_of es) (entry_values es) (past at (spell_entries column es)) rest v l)

-- a map with its first key
first_entry_read : (n : ℕ) → PartsRead n → (fs : List Frame) (place : Option ℕ) (column at : ℕ) (xs : List ℕ) (v : Value) (k : Keyed fs (Either column) place at xs v) → length k.rest ≤ n → length fs < 32
    → NodeRead (InMap column (key_text k.key ∷ []) [] ∷ fs) column true (past at (spell_key k.key ++ 58 ∷ [])) k.rest v → MapRead place fs column at xs v
first_entry_read n parts fs place column at xs v k short level x =
    let on : MapOn fs column (key_text k.key ∷ []) (node_value x.node ∷ []) (past (past at (spell_key k.key ++ 58 ∷ [])) (spell_node x.node)) x.rest v
    = map_on fs column (key_text k.key ∷ []) [] (node_value x.node) (past (past at (spell_key k.key ++ 58 ∷ [])) (spell_node x.node)) x.rest v x.closed in
    let l : length x.rest ≤ length k.rest = no_longer (spell_node x.node) x.rest k.rest x.parts in
    more_entries n parts n place fs column at (First k.key x.node) xs x.rest v (omega arith) (omega (arith, l, short))
    (rw (append_assoc (spell_key k.key) (58 ∷ spell_node x.node) x.rest) (k.parts ∙ ap (λ zs. spell_key k.key ++ 58 ∷ zs) x.parts))
    x.ended level (k.is, x.is)
    (subst (λ (p : ℕ). MapOn fs column (key_text k.key ∷ []) (node_value x.node ∷ []) p x.rest v) (key_place (spell_key k.key) (spell_node x.node) at) on)

pub map_read : (n : ℕ) → PartsRead n → (fs : List Frame) (place : Option ℕ) (column at : ℕ) (xs : List ℕ) (v : Value) → length xs ≤ suc n → Keyed fs (Either column) place at xs v → MapRead place fs column at xs v
map_read n parts fs place column at xs v short k =
    let f : FirstNamed fs column (key_text k.key) k.front = first_named fs column (key_text k.key) k.begun k.fails k.front k.named in
    let l : length k.rest < length xs = longer (spell_key k.key) 58 k.rest xs k.parts in
    let fewer : length k.rest ≤ n = omega (arith, l, short) in
    first_entry_read n parts fs place column at xs v k fewer f.level (entry_node n parts fs (Either column) place column at xs v (key_text k.key ∷ []) [] k fs fewer f.is)

-- ---- items

item_parts : (es ss ns xs rest more last : List ℕ) → xs ≡ es ++ rest → rest ≡ ss ++ 45 ∷ more → more ≡ ns ++ last → xs ≡ (es ++ (ss ++ 45 ∷ ns)) ++ last
item_parts es ss ns xs rest more last a b c = rw (append_assoc es (ss ++ 45 ∷ ns) last, append_assoc ss (45 ∷ ns) last) (a ∙ ap (λ zs. es ++ zs) (b ∙ ap (λ zs. ss ++ 45 ∷ zs) c))

item_place : (es ns : List ℕ) (column at : ℕ) → past (past at es + column + 1) ns ≡ past at (es ++ (spaces column ++ 45 ∷ ns))
item_place es ns column at =
    ap (λ p. past p (45 ∷ ns)) (sym (past_spaces column (past at es)))
    ∙ (sym (past_append (spaces column) (45 ∷ ns) (past at es)) ∙ sym (past_append es (spaces column ++ 45 ∷ ns) at))

-- and the list
abbrev pub MoreItems : (n m : ℕ) → Type 0
MoreItems n m = (fs : List Frame) (column at : ℕ) (es : Items) (xs rest : List ℕ) (v : Value) → m ≤ n → length rest ≤ m → xs ≡ spell_items column es ++ rest → all_ended false rest ≡ true → length fs < 32
    → AreItems column (suc (length fs)) es → ListOn fs column (item_values es) (past at (spell_items column es)) rest v → ListRead fs column at xs v

-- a further item, and those after it
next_item_read : (n m : ℕ) → MoreItems n m → (fs : List Frame) (column at : ℕ) (es : Items) (xs rest : List ℕ) (v : Value) → suc m ≤ n → length rest ≤ suc m → xs ≡ spell_items column es ++ rest → length fs < 32
    → AreItems column (suc (length fs)) es → (l : DashLine fs column (item_values es) (past at (spell_items column es)) rest v)
    → ItemRead (InList column (item_values es) ∷ fs) column (past at (spell_items column es) + column + 1) l.more v → ListRead fs column at xs v
next_item_read n m more fs column at es xs rest v le short p level are l x =
    let a : length x.rest ≤ length l.more = no_longer (spell_item column x.item) x.rest l.more x.parts in
    let b : length l.more < length rest = longer (spaces column) 45 l.more rest l.parts in
    let on : ListOn fs column (item_values es ++ item_value x.item ∷ []) (past (past at (spell_items column es) + column + 1) (spell_item column x.item)) x.rest v
    = list_on fs column (item_values es) (item_value x.item) (past (past at (spell_items column es) + column + 1) (spell_item column x.item)) x.rest v x.closed in
    more fs column at (NextItem es x.item) xs x.rest v (omega (arith, le)) (omega (arith, a, b, short))
    (item_parts (spell_items column es) (spaces column) (spell_item column x.item) xs rest l.more x.rest p l.parts x.parts)
    x.ended level (are, x.is)
    (subst (λ (p : ℕ). ListOn fs column (item_values es ++ item_value x.item ∷ []) p x.rest v) (item_place (spell_items column es) (spell_item column x.item) column at) on)

-- after a dash on a line that begins at s
dash_item : (n : ℕ) → PartsRead n → (fs : List Frame) (column : ℕ) (items : List Value) (s : ℕ) (more : List ℕ) (v : Value) → length more ≤ n → word_ends true more ≡ true → all_ended true more ≡ true
    → ReadsOn (front (InList column items ∷ fs) (AtValue s true false)) (s + column + 1) more v → ItemRead (InList column items ∷ fs) column (s + column + 1) more v
dash_item n parts fs column items s more v short word ended on =
    parts (InList column items ∷ fs) column false s (s + column + 1) more v short (under_list column items fs) (λ q. omega arith) word ended on

further_item : (n m : ℕ) → PartsRead n → MoreItems n m → (fs : List Frame) (column at : ℕ) (es : Items) (xs rest : List ℕ) (v : Value) → suc m ≤ n → length rest ≤ suc m → xs ≡ spell_items column es ++ rest → length fs < 32
    → AreItems column (suc (length fs)) es → (l : DashLine fs column (item_values es) (past at (spell_items column es)) rest v) → ListRead fs column at xs v
further_item n m parts more fs column at es xs rest v le short p level are l =
    let b : length l.more < length rest = longer (spaces column) 45 l.more rest l.parts in
    next_item_read n m more fs column at es xs rest v le short p level are l
    (dash_item n parts fs column (item_values es) (past at (spell_items column es)) l.more v (omega (arith, b, le, short)) l.word l.ended l.on)

more_items : (n : ℕ) → PartsRead n → (m : ℕ) → MoreItems n m
more_items n parts m fs column at es xs rest v le short p ended level are (inl closed) = record { items = es; rest = rest; parts = p; level = level; are = are; closed = closed; ended = ended }
more_items n parts zero fs column at es xs rest v le short p ended level are (inr l) = absurd (let q : length l.more < length rest = longer (spaces column) 45 l.more rest l.parts in omega (arith, q, short))
more_items n parts (suc m) fs column at es xs rest v le short p ended level are (inr l) = further_item n m parts (more_items n parts m) fs column at es xs rest v le short p level are l

-- a list with its first item, whose dash stands at this column of a line that begins at s
first_item_read : (n : ℕ) → PartsRead n → (fs : List Frame) (column s : ℕ) (more : List ℕ) (v : Value) → length more ≤ n → length fs < 32 → ItemRead (InList column [] ∷ fs) column (s + column + 1) more v → ListRead fs column (s + column) (45 ∷ more) v
first_item_read n parts fs column s more v short level x =
    let on : ListOn fs column (item_value x.item ∷ []) (past (s + column + 1) (spell_item column x.item)) x.rest v = list_on fs column [] (item_value x.item) (past (s + column + 1) (spell_item column x.item)) x.rest v x.closed in
    let l : length x.rest ≤ length more = no_longer (spell_item column x.item) x.rest more x.parts in
    more_items n parts n fs column (s + column) (FirstItem x.item) (45 ∷ more) x.rest v (omega arith) (omega (arith, l, short)) (ap (λ zs. 45 ∷ zs) x.parts) x.ended level x.is on

list_read : (n : ℕ) → PartsRead n → (fs : List Frame) (s : ℕ) (rest : List ℕ) (v : Value) → length rest ≤ suc n → (l : ListAhead fs s rest v) → ListRead fs l.column (s + l.column) (45 ∷ l.more) v
list_read n parts fs s rest v short l =
    let b : length l.more < length rest = longer (spaces l.column) 45 l.more rest l.parts in
    let fewer : length l.more ≤ n = omega (arith, b, short) in
    first_item_read n parts fs l.column s l.more v fewer l.level (dash_item n parts fs l.column [] s l.more v fewer l.word l.ended l.on)

-- ---- blocks

-- a block on lines of its own
pub record BlockRead (fs : List Frame) (least s : ℕ) (xs : List ℕ) (v : Value) : Type 0 where
  pub block : Block
  pub rest : List ℕ
  pub parts : xs ≡ spell_block block ++ rest
  pub is : IsBlock least (length fs) block
  pub stands : (column : ℕ) (in_map : Bool) → Under column in_map fs → IsWithin column in_map block
  pub closed : Closed fs (block_value block) (past s (spell_block block)) rest v
  pub ended : all_ended false rest ≡ true

deep_dashes : (column : ℕ) (in_map : Bool) (own : ℕ) (es : Items) → column < own → IsWithin column in_map (Dashes own es)
deep_dashes column true own es h = omega arith
deep_dashes column false own es h = h

same_dashes : (column : ℕ) (in_map : Bool) (own : ℕ) (es : Items) → in_map ≡ true → own ≡ column → IsWithin column in_map (Dashes own es)
same_dashes column true own es h e = omega arith
same_dashes column false own es h e = cc

dashes_within : (fs : List Frame) (own : ℕ) (es : Items) → (is_deeper own fs ≡ true) ⊎ (is_map_at own fs ≡ true) → (column : ℕ) (in_map : Bool) → Under column in_map fs → IsWithin column in_map (Dashes own es)
dashes_within fs own es (inl d) column in_map u = deep_dashes column in_map own es (u.least own d)
dashes_within fs own es (inr m) column in_map u = same_dashes column in_map own es (u.same own m).0 (u.same own m).1

-- after the spaces of its column
column_parts : (n : ℕ) (ys line rest xs : List ℕ) → xs ≡ spaces n ++ line → line ≡ ys ++ rest → xs ≡ (spaces n ++ ys) ++ rest
column_parts n ys line rest xs a b = rw (append_assoc (spaces n) ys rest) (a ∙ ap (λ zs. spaces n ++ zs) b)

column_place : (n s : ℕ) (ys : List ℕ) → past (s + n) ys ≡ past s (spaces n ++ ys)
column_place n s ys = ap (λ p. past p ys) (sym (past_spaces n s)) ∙ sym (past_append (spaces n) ys s)

list_block : (fs : List Frame) (least s column : ℕ) (line xs : List ℕ) (v : Value) → (is_deeper column fs ≡ true) ⊎ (is_map_at column fs ≡ true) → xs ≡ spaces column ++ line → ListRead fs column (s + column) line v → BlockRead fs least s xs v
list_block fs least s column line xs v w p l = record {
  block = Dashes column l.items;
  rest = l.rest;
  parts = column_parts column (spell_items column l.items) line l.rest xs p l.parts;
  is = (l.level, l.are);
  stands = dashes_within fs column l.items w;
  closed = closed_at fs (a_list (items_from (item_values l.items))) (past (s + column) (spell_items column l.items)) (past s (spaces column ++ spell_items column l.items)) l.rest v (column_place column s (spell_items column l.items)) l.closed;
  ended = l.ended;
}

map_block : (fs : List Frame) (least s column : ℕ) (line xs : List ℕ) (v : Value) → is_deeper column fs ≡ true → xs ≡ spaces column ++ line → MapRead (Some column) fs column (s + column) line v → BlockRead fs least s xs v
map_block fs least s column line xs v d p m = record {
  block = Map column m.entries;
  rest = m.rest;
  parts = column_parts column (spell_entries column m.entries) line m.rest xs p m.parts;
  is = (m.level, m.are);
  stands = λ around in_map u. u.least column d;
  closed = closed_at fs (a_map (pairs_of (keys_of m.entries) (entry_values m.entries))) (past (s + column) (spell_entries column m.entries)) (past s (spaces column ++ spell_entries column m.entries)) m.rest v (column_place column s (spell_entries column m.entries)) m.closed;
  ended = m.ended;
}

leaf_block : (fs : List Frame) (least s column : ℕ) (line xs : List ℕ) (v : Value) → is_deeper column fs ≡ true → xs ≡ spaces column ++ line → LeafRead fs (Some column) least (length fs) (s + column) line v → BlockRead fs least s xs v
leaf_block fs least s column line xs v d p l = record {
  block = Alone column l.leaf;
  rest = l.rest;
  parts = column_parts column (spell_leaf l.leaf) line l.rest xs p l.parts;
  is = l.is;
  stands = λ around in_map u. u.least column d;
  closed = closed_at fs (leaf_value l.leaf) (past (s + column) (spell_leaf l.leaf)) (past s (spaces column ++ spell_leaf l.leaf)) l.rest v (column_place column s (spell_leaf l.leaf)) l.closed;
  ended = l.ended;
}

text_block : (n : ℕ) → PartsRead n → (fs : List Frame) (least s column : ℕ) (line xs : List ℕ) (v : Value) → is_deeper column fs ≡ true → xs ≡ spaces column ++ line → length line ≤ suc n
    → ValueRead fs (Either column) (Some column) least (length fs) (s + column) line v → BlockRead fs least s xs v
text_block n parts fs least s column line xs v d p short (inl k) = map_block fs least s column line xs v d p (map_read n parts fs (Some column) column (s + column) line v short k)
text_block n parts fs least s column line xs v d p short (inr b) = leaf_block fs least s column line xs v d p b.1

-- a block begins on this line
pub block_read : (n : ℕ) → PartsRead n → (fs : List Frame) (least s : ℕ) (xs : List ℕ) (v : Value) → is_flow fs ≡ false → IsLeast least fs → ((k : ℕ) → is_deeper k fs ≡ false → k < least) → length xs ≤ suc n → BlockAhead fs s xs v
    → BlockRead fs least s xs v
block_read n parts fs least s xs v f low high short (inl l) = list_block fs least s l.column (45 ∷ l.more) xs v l.stands l.parts (list_read n parts fs s xs v short l)
block_read n parts fs least s xs v f low high short (inr t) =
    let k : ContentFacts t.first = content_facts t.first t.content in
    let b : length (t.first ∷ t.more) ≤ length xs = no_longer (spaces t.column) (t.first ∷ t.more) xs t.parts in
    text_block n parts fs least s t.column (t.first ∷ t.more) xs v t.deep t.parts (omega (arith, b, short))
    (value_read fs (Either t.column) (Some t.column) least (s + t.column) t.first t.more v f low high (k.tab, t.unmarked) k.space k.feed t.ended t.on)
