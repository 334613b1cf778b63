-- Written files are read as their values.
use Rattle.std.proofs.Common.{◌≡◌, ℕ, suc, ◌+◌, ◌-◌, ◌<◌, ◌≤◌, Bool, true, false, List, [], ◌∷◌, ◌++◌, ◌⊎◌, length, Option, Some, None, Result, Ok, refl, sym, ap, subst, ◌∙◌, arith, append_assoc, inl, inr}
use Rattle.std.specs.List.{list_any}
use Rattle.std.specs.Str.{bytes_eq}
use Rattle.edt_base.specs.YamlData.{Value, null}
use Rattle.yaml_profile.specs.declared.stop.Broken.{Broken}
use Rattle.yaml_profile.specs.declared.front.Role.{Role}
use Rattle.yaml_profile.specs.declared.front.Role.TheVariants.{Either, Key as KeyOnly}
use Rattle.yaml_profile.specs.Answers.{◌>>=◌}
use Rattle.yaml_profile.specs.Signs.{ends_word}
use Rattle.yaml_profile.specs.Fronts.{Frame, InMap, InList, Waiting, Innermost, AtLine, AtValue, Front, front, is_flow, is_deeper, is_map_at}
use Rattle.yaml_profile.specs.Pieces.{begin_value}
use Rattle.yaml_profile.specs.Layout.{settle, is_dash}
use Rattle.yaml_profile.specs.Reading.{taken}
use Rattle.yaml_profile.specs.Written.{spaces, spell_ending, spell_gaps, Key, spell_key, key_text, IsKey, spell_leaf, leaf_value, Node, Nothing, Beside, Below, Block, Map, Dashes, Alone, Entries, First, Next, Items, FirstItem, NextItem, Item, Of, MapOnLine, item_column, spell_node, spell_block, spell_entries, spell_items, spell_item, keys_of, node_value, entry_values, item_values, item_value, IsNode, IsBlock, AreEntries, AreItems, IsItem, IsWithin}
use Rattle.yaml_profile.proofs.WrittenTexts.{goes, spaces_line, some_spaces}
use Rattle.yaml_profile.proofs.ReadSteps.{line_walk, past, with_returns}
use Rattle.yaml_profile.proofs.WrittenLines.{with_gaps, nothing_reads, begin_run, role_of, no_key}
use Rattle.yaml_profile.proofs.WrittenScalars.{stands, stand_wait, stand_spaces, stand_content}
use Rattle.yaml_profile.proofs.WrittenLeaves.{Stood, stood_of, lower, stood_behind, stood_on, leaf_run, leaf_reads}
use Rattle.yaml_profile.proofs.WrittenKeys.{eq_self, not_full, named, key_goes, Starts, line_content_of, value_taken, dash_content, is_pending}
use Rattle.yaml_profile.proofs.WrittenOpen.{before_last, items_before, open_node, open_block, open_entries, open_items, open_item, left_node, left_block, left_entries, left_items, left_item, Over, over_key, over_entries, over_items, within_map, within_list, within_alone, le_cases, shuts_node, shuts_item}
use Rattle.yaml_profile.proofs.WrittenBlocks.{past_spaces, column_is, node_word, item_word, Down, down, Under, under_map, under_list, on_key, first_on_line, further_on_line, deeper_dash, same_dash, further_dash}

-- ---- the front of entries, and the last of them

record Fronted (place : Option ℕ) (own : ℕ) (es : Entries) : Type 0 where
  key : Key
  tail : List ℕ
  parts : spell_entries own es ≡ spell_key key ++ 58 ∷ tail
  is : IsKey place key

fronted : (es : Entries) (place : Option ℕ) (own level : ℕ) → AreEntries place own level es → Fronted place own es
fronted (First k x) place own level h = record { key = k; tail = spell_node x; parts = refl; is = h.0 }
fronted (Next es k x) place own level h =
    let f : Fronted place own es = fronted es place own level h.0 in
    let more : List ℕ = spaces own ++ (spell_key k ++ 58 ∷ spell_node x) in
    record { key = f.key; tail = f.tail ++ more; parts = ap (λ zs. zs ++ more) f.parts ∙ append_assoc (spell_key f.key) (58 ∷ f.tail) more; is = f.is }

last_value : Entries → Value
last_value (First k x) = node_value x
last_value (Next es k x) = node_value x

last_item : Items → Value
last_item (FirstItem i) = item_value i
last_item (NextItem is i) = item_value i

values_parts : (es : Entries) → before_last es ++ last_value es ∷ [] ≡ entry_values es
unfolding last_value
values_parts (First k x) = refl
values_parts (Next es k x) = refl

items_parts : (is : Items) → items_before is ++ last_item is ∷ [] ≡ item_values is
unfolding last_item
items_parts (FirstItem i) = refl
items_parts (NextItem is i) = refl

shuts_last : (es : Entries) (own : ℕ) (fs : List Frame) (level s at c : ℕ) (rest : List ℕ) (place : Option ℕ) → AreEntries place own level es → at - s ≡ own → is_dash c rest ≡ false
    → settle (open_entries own es fs) (left_entries es) s at c rest ≡ settle (InMap own (keys_of es) (before_last es) ∷ fs) (last_value es) s at c rest
unfolding last_value
shuts_last (First k x) own fs level s at c rest place h e d =
    shuts_node x (InMap own (key_text k ∷ []) [] ∷ fs) own true level s at own c rest h.1 e (omega arith) (λ _. (d, eq_self own))
shuts_last (Next es k x) own fs level s at c rest place h e d =
    shuts_node x (InMap own (keys_of es ++ key_text k ∷ []) (entry_values es) ∷ fs) own true level s at own c rest h.3 e (omega arith) (λ _. (d, eq_self own))

shuts_last_item : (is : Items) (own : ℕ) (fs : List Frame) (level s at c : ℕ) (rest : List ℕ) → AreItems own level is → at - s ≡ own
    → settle (open_items own is fs) (left_items is) s at c rest ≡ settle (InList own (items_before is) ∷ fs) (last_item is) s at c rest
unfolding last_item
shuts_last_item (FirstItem i) own fs level s at c rest h e = shuts_item i own (InList own [] ∷ fs) level s at own c rest h e (omega arith)
shuts_last_item (NextItem is i) own fs level s at c rest h e = shuts_item i own (InList own (item_values is) ∷ fs) level s at own c rest h.1 e (omega arith)

-- ---- keys

first_named : (fs : List Frame) (own : ℕ) (key : List ℕ) (at level : ℕ) → length fs ≡ level → level < 32 → named fs (Either own) key at ≡ Ok (front (InMap own (key ∷ []) [] ∷ fs) (AtValue 0 false false))
first_named fs own key at level e h = rw (not_full fs level e h) refl

further_named : (own : ℕ) (keys : List (List ℕ)) (values : List Value) (fs : List Frame) (key : List ℕ) (at : ℕ) → list_any (bytes_eq key) keys ≡ false
    → named (InMap own keys values ∷ fs) KeyOnly key at ≡ Ok (front (InMap own (keys ++ key ∷ []) values ∷ fs) (AtValue 0 false false))
further_named own keys values fs key at h = rw h refl

key_then : (k : Key) (fs gs : List Frame) (role : Role) (at : ℕ) (rest : List ℕ) (r : Result Front Broken) → begin_run fs role at (spell_key k ++ 58 ∷ rest) ≡ (r >>= λ g. line_walk g (past at (spell_key k ++ 58 ∷ [])) rest)
    → r ≡ Ok (front gs (AtValue 0 false false)) → begin_run fs role at (spell_key k ++ 58 ∷ rest) ≡ line_walk (front gs (AtValue 0 false false)) (past at (spell_key k ++ 58 ∷ [])) rest
key_then k fs gs role at rest r e h = e ∙ ap (λ (q : Result Front Broken). q >>= λ g. line_walk g (past at (spell_key k ++ 58 ∷ [])) rest) h

-- a key with its colon, and what stands after it
colon_parts : (k : Key) (ys : List ℕ) → spell_key k ++ 58 ∷ ys ≡ (spell_key k ++ 58 ∷ []) ++ ys
colon_parts k ys = sym (append_assoc (spell_key k) (58 ∷ []) ys)

-- where a block may begin: deeper, or a list at the column of the map around it
abbrev pub Fits : Block → List Frame → Type 0
Fits (Map own es) fs = is_deeper own fs ≡ true
Fits (Alone own l) fs = is_deeper own fs ≡ true
Fits (Dashes own is) fs = (is_deeper own fs ≡ true) ⊎ ((is_deeper own fs ≡ false) × (is_map_at own fs ≡ true))

fits : (b : Block) (column : ℕ) (in_map : Bool) (level : ℕ) (fs : List Frame) → IsWithin column in_map b → Under column in_map level fs → Fits b fs
fits (Map own es) column in_map level fs w u = u.deep own (within_map column own in_map es w)
fits (Alone own l) column in_map level fs w u = u.deep own (within_alone column own in_map l w)
fits (Dashes own is) column false level fs w u = inl (u.deep own w)
fits (Dashes own is) column true level fs w u = elim (le_cases column own w) [
  | inl h ↦ inl (u.deep own h)
  | inr h ↦ let P : ℕ → Type 0 = λ k. (is_deeper k fs ≡ false) × (is_map_at k fs ≡ true) in inr (subst P h (u.same refl))
]

on_entries : (place : Option ℕ) (own : ℕ) (es : Entries) (g : Fronted place own es) (fs : List Frame) (i : Innermost) (gs : List Frame) (role : Role) (at : ℕ) (rest : List ℕ)
    → ((c : ℕ) (cs : List ℕ) → Starts place false c cs → taken fs i at c cs ≡ begin_value gs role at c cs)
    → line_walk (front fs i) at (spell_entries own es ++ rest) ≡ begin_run gs role at (spell_entries own es ++ rest)
on_entries place own es g fs i gs role at rest step =
    let p : spell_entries own es ++ rest ≡ spell_key g.key ++ 58 ∷ (g.tail ++ rest) = ap (λ zs. zs ++ rest) g.parts ∙ append_assoc (spell_key g.key) (58 ∷ g.tail) rest in
    ap (λ zs. line_walk (front fs i) at zs) p ∙ (on_key g.key place fs i gs role at (g.tail ++ rest) g.is step ∙ ap (λ zs. begin_run gs role at zs) (sym p))

after_dash : (at s own : ℕ) → at ≡ s + own → (at + 1) - s ≡ suc own
after_dash at s own e = omega arith

behind_dash : (n own s at : ℕ) → at - s ≡ suc own → past at (spaces (suc n)) - s ≡ item_column own n
behind_dash n own s at e = rw (past_spaces (suc n) at) (omega arith)

abbrev block_column : Block → ℕ
block_column (Map own es) = own
block_column (Dashes own is) = own
block_column (Alone own l) = own

within_least : (b : Block) (column : ℕ) (in_map : Bool) → IsWithin column in_map b → column ≤ block_column b
within_least (Map own es) column in_map h = let w : column < own = within_map column own in_map es h in omega arith
within_least (Alone own l) column in_map h = let w : column < own = within_alone column own in_map l h in omega arith
within_least (Dashes own is) column in_map h = within_list column own in_map is h

mutual
  node_reads : (x : Node) (fs : List Frame) (column : ℕ) (in_map : Bool) (level s : ℕ) (m sp : Bool) (at : ℕ) → IsNode column in_map level x → Under column in_map level fs
      → Stood (line_walk (front fs (AtValue s m sp)) at) at (spell_node x) (open_node x fs) (left_node x) (suc column)
  node_reads (Nothing e gaps) fs column in_map level s m sp at h u =
      stood_of (front fs (AtValue s m sp)) at (spell_ending e ++ spell_gaps gaps) fs null (suc column)
      (with_gaps gaps (front fs (AtValue s m sp)) at (spell_ending e) fs null h.2 (nothing_reads e fs s m sp at h.0 h.1))
  node_reads (Beside n l) fs column in_map level s m sp at h u =
      let p : ℕ = past at (spaces (suc n)) in
      let r : Stood (begin_run fs (role_of m (p - s)) p) p (spell_leaf l) fs (leaf_value l) (suc column)
      = leaf_reads l None fs (suc column) level (suc column) (role_of m (p - s)) p (no_key m (p - s)) h u.flow u.count (λ k q. u.deep k (omega arith)) u.shallow (omega arith) in
      let q : Stood (line_walk (front fs (AtValue s m true)) p) p (spell_leaf l) fs (leaf_value l) (suc column)
      = record { stand = r.stand; is = r.is; passes = r.passes; run = λ rest. leaf_run l None (suc column) level fs fs (AtValue s m true) (role_of m (p - s)) p rest h (λ c cs k. value_taken None false fs s m true p c cs k) ∙ r.run rest } in
      stood_behind (line_walk (front fs (AtValue s m sp)) at) (front fs (AtValue s m true)) at (spaces (suc n)) (spell_leaf l) fs (leaf_value l) (suc column) (λ rest. some_spaces n fs s m sp at (spell_leaf l ++ rest)) q
  node_reads (Below e gaps b) fs column in_map level s m sp at h u =
      let xs : List ℕ = spell_ending e ++ spell_gaps gaps in
      let p : ℕ = past at xs in
      let d : Down fs s m sp at xs = down e gaps fs s m sp at h.0 h.1 h.2 in
      let q : Stood (line_walk (front fs (AtLine p d.wait)) p) p (spell_block b) (open_block b fs) (left_block b) (suc column)
      = block_reads b fs level p d.wait (suc column) (suc column) h.4 u.flow u.count (fits b column in_map level fs h.3 u) d.pending (let l : column ≤ block_column b = within_least b column in_map h.3 in omega arith) (λ k q. u.deep k (omega arith)) u.shallow (omega arith) in
      let r : Stood (line_walk (front fs (AtValue s m sp)) at) at (xs ++ spell_block b) (open_block b fs) (left_block b) (suc column)
      = stood_behind (line_walk (front fs (AtValue s m sp)) at) (front fs (AtLine p d.wait)) at xs (spell_block b) (open_block b fs) (left_block b) (suc column) (λ rest. d.run (spell_block b ++ rest)) q in
      let P : List ℕ → Type 0 = λ zs. Stood (line_walk (front fs (AtValue s m sp)) at) at zs (open_block b fs) (left_block b) (suc column) in
      subst P (append_assoc (spell_ending e) (spell_gaps gaps) (spell_block b)) r

  pub block_reads : (b : Block) (fs : List Frame) (level s : ℕ) (w : Waiting) (low floor : ℕ) → IsBlock floor level b → is_flow fs ≡ false → length fs ≡ level → Fits b fs → is_pending w ≡ true → low ≤ suc (block_column b)
      → ((k : ℕ) → floor ≤ k → is_deeper k fs ≡ true) → ((k : ℕ) → k < floor → is_deeper k fs ≡ false) → low ≤ floor
      → Stood (line_walk (front fs (AtLine s w)) s) s (spell_block b) (open_block b fs) (left_block b) low
  block_reads (Map own es) fs level s w low floor h f count fit p least deep shallow lows =
      let m : ℕ = past s (spaces own) in
      let g : Fronted (Some own) own es = fronted es (Some own) own (suc level) h.1 in
      let r : Stood (begin_run fs (Either own) m) m (spell_entries own es) (open_entries own es fs) (left_entries es) (suc own) = entries_read es (Some own) own fs level m h.1 f count h.0 in
      let start : (rest : List ℕ) → line_walk (front fs (AtLine s w)) m (spell_entries own es ++ rest) ≡ begin_run fs (Either own) m (spell_entries own es ++ rest)
      = λ rest. on_entries (Some own) own es g fs (AtLine s w) fs (Either own) m rest (λ c cs k. first_on_line fs w s m own c cs (column_is own s) f p fit (line_content_of own c cs k) k.dash) in
      let q : Stood (line_walk (front fs (AtLine s w)) m) m (spell_entries own es) (open_entries own es fs) (left_entries es) (suc own)
      = record { stand = r.stand; is = r.is; passes = r.passes; run = λ rest. start rest ∙ r.run rest } in
      lower (line_walk (front fs (AtLine s w)) s) s (spaces own ++ spell_entries own es) (open_entries own es fs) (left_entries es) (suc own) low least
      (stood_behind (line_walk (front fs (AtLine s w)) s) (front fs (AtLine s w)) s (spaces own) (spell_entries own es) (open_entries own es fs) (left_entries es) (suc own)
      (λ rest. spaces_line own fs s w s (spell_entries own es ++ rest)) q)
  block_reads (Dashes own is) fs level s w low floor h f count fit p least deep shallow lows =
      let m : ℕ = past s (spaces own) in
      let e : m - s ≡ own = column_is own s in
      let step : (rest : List ℕ) → ends_word rest ≡ true → taken fs (AtLine s w) m 45 rest ≡ Ok (front (InList own [] ∷ fs) (AtValue s true false))
      = λ rest k. elim fit [
        | inl d ↦ deeper_dash fs w s m own rest level e f p d k count h.0
        | inr d ↦ same_dash fs w s m own rest level e f p d.0 d.1 k count h.0
      ] in
      let r : Stood (line_walk (front fs (AtLine s w)) m) m (spell_items own is) (open_items own is fs) (left_items is) (suc own)
      = items_read is own fs level s m (line_walk (front fs (AtLine s w)) m) h.1 count (past_spaces own s) (λ rest k. goes fs (AtLine s w) (front (InList own [] ∷ fs) (AtValue s true false)) m 45 rest (step (with_returns rest) k)) in
      lower (line_walk (front fs (AtLine s w)) s) s (spaces own ++ spell_items own is) (open_items own is fs) (left_items is) (suc own) low least
      (stood_behind (line_walk (front fs (AtLine s w)) s) (front fs (AtLine s w)) s (spaces own) (spell_items own is) (open_items own is fs) (left_items is) (suc own)
      (λ rest. spaces_line own fs s w s (spell_items own is ++ rest)) r)
  block_reads (Alone own l) fs level s w low floor h f count fit p least deep shallow lows =
      let m : ℕ = past s (spaces own) in
      let r : Stood (begin_run fs (Either own) m) m (spell_leaf l) fs (leaf_value l) low = leaf_reads l (Some own) fs floor level low (Either own) m refl h f count deep shallow lows in
      let start : (rest : List ℕ) → line_walk (front fs (AtLine s w)) m (spell_leaf l ++ rest) ≡ begin_run fs (Either own) m (spell_leaf l ++ rest)
      = λ rest. leaf_run l (Some own) floor level fs fs (AtLine s w) (Either own) m rest h (λ c cs k. first_on_line fs w s m own c cs (column_is own s) f p fit (line_content_of own c cs k) k.dash) in
      let q : Stood (line_walk (front fs (AtLine s w)) m) m (spell_leaf l) fs (leaf_value l) low = record { stand = r.stand; is = r.is; passes = r.passes; run = λ rest. start rest ∙ r.run rest } in
      stood_behind (line_walk (front fs (AtLine s w)) s) (front fs (AtLine s w)) s (spaces own) (spell_leaf l) fs (leaf_value l) low (λ rest. spaces_line own fs s w s (spell_leaf l ++ rest)) q

  entries_read : (es : Entries) (place : Option ℕ) (own : ℕ) (fs : List Frame) (level at : ℕ) → AreEntries place own (suc level) es → is_flow fs ≡ false → length fs ≡ level → level < 32
      → Stood (begin_run fs (Either own) at) at (spell_entries own es) (open_entries own es fs) (left_entries es) (suc own)
  entries_read (First k x) place own fs level at h f count l =
      let gs : List Frame = InMap own (key_text k ∷ []) [] ∷ fs in
      let xs : List ℕ = spell_key k ++ 58 ∷ [] in
      let q : Stood (line_walk (front gs (AtValue 0 false false)) (past at xs)) (past at xs) (spell_node x) (open_node x gs) (left_node x) (suc own)
      = node_reads x gs own true (suc level) 0 false false (past at xs) h.1 (under_map own level (key_text k ∷ []) [] fs count) in
      let r : Stood (begin_run fs (Either own) at) at (xs ++ spell_node x) (open_node x gs) (left_node x) (suc own)
      = stood_behind (begin_run fs (Either own) at) (front gs (AtValue 0 false false)) at xs (spell_node x) (open_node x gs) (left_node x) (suc own)
      (λ rest. ap (begin_run fs (Either own) at) (append_assoc (spell_key k) (58 ∷ []) (spell_node x ++ rest))
      ∙ key_then k fs gs (Either own) at (spell_node x ++ rest) (named fs (Either own) (key_text k) at)
      (key_goes k place fs (Either own) at (spell_node x ++ rest) h.0 f refl (node_word x own true (suc level) rest h.1))
      (first_named fs own (key_text k) at level count l))
      q in
      let P : List ℕ → Type 0 = λ zs. Stood (begin_run fs (Either own) at) at zs (open_node x gs) (left_node x) (suc own) in
      subst P (sym (colon_parts k (spell_node x))) r
  entries_read (Next es k x) place own fs level at h f count l =
      let r : Stood (begin_run fs (Either own) at) at (spell_entries own es) (open_entries own es fs) (left_entries es) (suc own) = entries_read es place own fs level at h.0 f count l in
      let s : ℕ = past at (spell_entries own es) in
      let m : ℕ = past s (spaces own) in
      let i : Innermost = stands r.stand s in
      let w : Waiting = stand_wait r.stand in
      let olds : List Frame = open_entries own es fs in
      let hs : List Frame = InMap own (keys_of es) (before_last es ++ last_value es ∷ []) ∷ fs in
      let is : List Frame = InMap own (keys_of es) (entry_values es) ∷ fs in
      let gs : List Frame = InMap own (keys_of es ++ key_text k ∷ []) (entry_values es) ∷ fs in
      let xs : List ℕ = spell_key k ++ 58 ∷ [] in
      let same : hs ≡ is = ap (λ (vs : List Value). InMap own (keys_of es) vs ∷ fs) (values_parts es) in
      let o : Over own false olds = over_entries es own fs (suc level) own false place h.0 (omega arith) (λ ks vs. over_key own ks vs fs) in
      let q : Stood (line_walk (front gs (AtValue 0 false false)) (past m xs)) (past m xs) (spell_node x) (open_node x gs) (left_node x) (suc own)
      = node_reads x gs own true (suc level) 0 false false (past m xs) h.3 (under_map own level (keys_of es ++ key_text k ∷ []) (entry_values es) fs count) in
      let key : (rest : List ℕ) → line_walk (front olds i) m (xs ++ (spell_node x ++ rest)) ≡ line_walk (front gs (AtValue 0 false false)) (past m xs) (spell_node x ++ rest)
      = λ rest. ap (λ zs. line_walk (front olds i) m zs) (append_assoc (spell_key k) (58 ∷ []) (spell_node x ++ rest))
      ∙ (on_key k (Some own) olds i hs KeyOnly m (spell_node x ++ rest) h.1
      (λ c cs b. further_on_line olds i w own (keys_of es) (before_last es) fs (left_entries es) (last_value es) s m c cs (column_is own s) o r.is
      (shuts_last es own fs (suc level) s m c cs place h.0 (column_is own s) b.dash) (stand_content r.stand olds s m own c cs (column_is own s) r.passes o.flow o.shallow (line_content_of own c cs b)) b.dash)
      ∙ (ap (λ (zs : List Frame). begin_run zs KeyOnly m (spell_key k ++ 58 ∷ (spell_node x ++ rest))) same
      ∙ key_then k is gs KeyOnly m (spell_node x ++ rest) (named is KeyOnly (key_text k) m)
      (key_goes k (Some own) is KeyOnly m (spell_node x ++ rest) h.1 refl refl (node_word x own true (suc level) rest h.3))
      (further_named own (keys_of es) (entry_values es) fs (key_text k) m h.2))) in
      let line : Stood (line_walk (front olds i) m) m (xs ++ spell_node x) (open_node x gs) (left_node x) (suc own)
      = stood_behind (line_walk (front olds i) m) (front gs (AtValue 0 false false)) m xs (spell_node x) (open_node x gs) (left_node x) (suc own) key q in
      let whole : Stood (line_walk (front olds i) s) s (spaces own ++ (xs ++ spell_node x)) (open_node x gs) (left_node x) (suc own)
      = stood_behind (line_walk (front olds i) s) (front olds i) s (spaces own) (xs ++ spell_node x) (open_node x gs) (left_node x) (suc own)
      (λ rest. stand_spaces r.stand own olds s ((xs ++ spell_node x) ++ rest) r.passes) line in
      let all : Stood (begin_run fs (Either own) at) at (spell_entries own es ++ (spaces own ++ (xs ++ spell_node x))) (open_node x gs) (left_node x) (suc own)
      = stood_on (begin_run fs (Either own) at) at (spell_entries own es) (spaces own ++ (xs ++ spell_node x)) olds (open_node x gs) (left_entries es) (left_node x) (suc own) (suc own) r whole in
      let P : List ℕ → Type 0 = λ zs. Stood (begin_run fs (Either own) at) at (spell_entries own es ++ (spaces own ++ zs)) (open_node x gs) (left_node x) (suc own) in
      subst P (sym (colon_parts k (spell_node x))) all

  items_read : (is : Items) (own : ℕ) (fs : List Frame) (level s at : ℕ) (from : List ℕ → Result Front Broken) → AreItems own (suc level) is → length fs ≡ level → at ≡ s + own
      → ((rest : List ℕ) → ends_word (with_returns rest) ≡ true → from (45 ∷ rest) ≡ line_walk (front (InList own [] ∷ fs) (AtValue s true false)) (at + 1) rest)
      → Stood from at (spell_items own is) (open_items own is fs) (left_items is) (suc own)
  items_read (FirstItem i) own fs level s at from h count e dash =
      let gs : List Frame = InList own [] ∷ fs in
      let q : Stood (line_walk (front gs (AtValue s true false)) (at + 1)) (at + 1) (spell_item own i) (open_item own i gs) (left_item i) (suc own)
      = item_reads i own gs (suc level) s (at + 1) h (under_list own level [] fs count) (after_dash at s own e) in
      stood_behind from (front gs (AtValue s true false)) at (45 ∷ []) (spell_item own i) (open_item own i gs) (left_item i) (suc own)
      (λ rest. dash (spell_item own i ++ rest) (item_word i own (suc level) rest h)) q
  items_read (NextItem is i) own fs level s at from h count e dash =
      let r : Stood from at (spell_items own is) (open_items own is fs) (left_items is) (suc own) = items_read is own fs level s at from h.0 count e dash in
      let p : ℕ = past at (spell_items own is) in
      let m : ℕ = past p (spaces own) in
      let j : Innermost = stands r.stand p in
      let w : Waiting = stand_wait r.stand in
      let olds : List Frame = open_items own is fs in
      let hs : List Frame = InList own (items_before is ++ last_item is ∷ []) ∷ fs in
      let gs : List Frame = InList own (item_values is) ∷ fs in
      let same : hs ≡ gs = ap (λ (vs : List Value). InList own vs ∷ fs) (items_parts is) in
      let o : Over own true olds = over_items is own fs (suc level) own true h.0 (omega arith) in
      let q : Stood (line_walk (front gs (AtValue p true false)) (m + 1)) (m + 1) (spell_item own i) (open_item own i gs) (left_item i) (suc own)
      = item_reads i own gs (suc level) p (m + 1) h.1 (under_list own level (item_values is) fs count) (after_dash m p own (past_spaces own p)) in
      let step : (rest : List ℕ) → line_walk (front olds j) m (45 ∷ (spell_item own i ++ rest)) ≡ line_walk (front gs (AtValue p true false)) (m + 1) (spell_item own i ++ rest)
      = λ rest.
      let zs : List ℕ = spell_item own i ++ rest in
      let d : ends_word (with_returns zs) ≡ true = item_word i own (suc level) rest h.1 in
      goes olds j (front hs (AtValue p true false)) m 45 zs
      (further_dash olds j w own (items_before is) fs (left_items is) (last_item is) p m (with_returns zs) (column_is own p) o r.is
      (shuts_last_item is own fs (suc level) p m 45 (with_returns zs) h.0 (column_is own p)) (stand_content r.stand olds p m own 45 (with_returns zs) (column_is own p) r.passes o.flow o.shallow (dash_content own (with_returns zs) d)) d)
      ∙ ap (λ (ys : List Frame). line_walk (front ys (AtValue p true false)) (m + 1) zs) same in
      let line : Stood (line_walk (front olds j) m) m (45 ∷ spell_item own i) (open_item own i gs) (left_item i) (suc own)
      = stood_behind (line_walk (front olds j) m) (front gs (AtValue p true false)) m (45 ∷ []) (spell_item own i) (open_item own i gs) (left_item i) (suc own) step q in
      let whole : Stood (line_walk (front olds j) p) p (spaces own ++ 45 ∷ spell_item own i) (open_item own i gs) (left_item i) (suc own)
      = stood_behind (line_walk (front olds j) p) (front olds j) p (spaces own) (45 ∷ spell_item own i) (open_item own i gs) (left_item i) (suc own)
      (λ rest. stand_spaces r.stand own olds p (45 ∷ (spell_item own i ++ rest)) r.passes) line in
      stood_on from at (spell_items own is) (spaces own ++ 45 ∷ spell_item own i) olds (open_item own i gs) (left_items is) (left_item i) (suc own) (suc own) r whole

  item_reads : (i : Item) (own : ℕ) (fs : List Frame) (level s at : ℕ) → IsItem own level i → Under own false level fs → at - s ≡ suc own
      → Stood (line_walk (front fs (AtValue s true false)) at) at (spell_item own i) (open_item own i fs) (left_item i) (suc own)
  item_reads (Of x) own fs level s at h u e = node_reads x fs own false level s true false at h u
  item_reads (MapOnLine n es) own fs level s at h u e =
      let col : ℕ = item_column own n in
      let m : ℕ = past at (spaces (suc n)) in
      let a : m - s ≡ col = behind_dash n own s at e in
      let g : Fronted None col es = fronted es None col (suc level) h.1 in
      let r : Stood (begin_run fs (Either col) m) m (spell_entries col es) (open_entries col es fs) (left_entries es) (suc col) = entries_read es None col fs level m h.1 u.flow u.count h.0 in
      let start : (rest : List ℕ) → line_walk (front fs (AtValue s true true)) m (spell_entries col es ++ rest) ≡ begin_run fs (Either col) m (spell_entries col es ++ rest)
      = λ rest. on_entries None col es g fs (AtValue s true true) fs (Either col) m rest (λ c cs k. value_taken None false fs s true true m c cs k ∙ ap (λ (n : ℕ). begin_value fs (Either n) m c cs) a) in
      let q : Stood (line_walk (front fs (AtValue s true true)) m) m (spell_entries col es) (open_entries col es fs) (left_entries es) (suc col)
      = record { stand = r.stand; is = r.is; passes = r.passes; run = λ rest. start rest ∙ r.run rest } in
      lower (line_walk (front fs (AtValue s true false)) at) at (spaces (suc n) ++ spell_entries col es) (open_entries col es fs) (left_entries es) (suc col) (suc own) (omega arith)
      (stood_behind (line_walk (front fs (AtValue s true false)) at) (front fs (AtValue s true true)) at (spaces (suc n)) (spell_entries col es) (open_entries col es fs) (left_entries es) (suc col)
      (λ rest. some_spaces n fs s true false at (spell_entries col es ++ rest)) q)
