-- What stands after colons and dashes, as deep as blocks go.
use Rattle.std.proofs.Common.{◌≡◌, ℕ, zero, suc, ◌+◌, ◌-◌, ◌≤◌, Bool, true, false, not, List, [], ◌∷◌, ◌++◌, length, Option, None, Result, Ok, inl, inr, refl, sym, ap, subst, ◌∙◌, arith, append_assoc}
use Rattle.edt_base.specs.YamlData.{Value, a_map, null}
use Rattle.yaml_profile.specs.declared.stop.Broken.{Broken}
use Rattle.yaml_profile.specs.declared.front.Role.TheVariants.{Value as ValueOnly, Either}
use Rattle.yaml_profile.specs.Answers.{no_text}
use Rattle.yaml_profile.specs.Fronts.{Frame, Nothing as NothingYet, Front, pairs_of}
use Rattle.yaml_profile.specs.Pieces.{key_of}
use Rattle.yaml_profile.specs.Written.{spaces, spell_ending, IsApart, spell_gaps, word_ends, spell_leaf, leaf_value, Nothing, Beside, Below, Of, MapOnLine, item_column, spell_block, spell_entries, keys_of, block_value, entry_values}
use Rattle.yaml_profile.proofs.ReadSteps.{past, past_append, past_spaces, Closed}
use Rattle.yaml_profile.proofs.ReadParts.{LineEnded, Gapped, LeafRead, Keyed, ValueRead}
use Rattle.yaml_profile.proofs.ReadGaps.{gaps_read}
use Rattle.yaml_profile.proofs.ReadValues.{value_read}
use Rattle.yaml_profile.proofs.ReadOpen.{role_at, Ahead, ahead, Awaited, nothing_yet}
use Rattle.yaml_profile.proofs.ReadBlocks.{NodeRead, ItemRead, PartRead, MapRead, Under, PartsRead, closed_at, no_longer, map_read, BlockRead, block_read}

node_part : (fs : List Frame) (column : ℕ) (in_map : Bool) (at : ℕ) (xs : List ℕ) (v : Value) → NodeRead fs column in_map at xs v → PartRead fs column in_map at xs v
node_part fs column true at xs v x = x
node_part fs column false at xs v x = record { item = Of x.node; rest = x.rest; parts = x.parts; is = x.is; closed = x.closed; ended = x.ended }

-- the line ends, and nothing or a block stands below it
nothing_node : (fs : List Frame) (column : ℕ) (in_map : Bool) (at : ℕ) (xs : List ℕ) (v : Value) (e : LineEnded fs NothingYet at xs v) → IsApart e.ending → (g : Gapped fs NothingYet (past at (spell_ending e.ending)) e.rest v)
    → Closed fs null (past (past at (spell_ending e.ending)) (spell_gaps g.gaps)) g.rest v → NodeRead fs column in_map at xs v
nothing_node fs column in_map at xs v e a g h = record {
  node = Nothing e.ending g.gaps;
  rest = g.rest;
  parts = rw (append_assoc (spell_ending e.ending) (spell_gaps g.gaps) g.rest) (e.parts ∙ ap (λ zs. spell_ending e.ending ++ zs) g.parts);
  is = (e.is, a, g.are);
  closed = closed_at fs null (past (past at (spell_ending e.ending)) (spell_gaps g.gaps)) (past at (spell_ending e.ending ++ spell_gaps g.gaps)) g.rest v (sym (past_append (spell_ending e.ending) (spell_gaps g.gaps) at)) h;
  ended = g.ended;
}

below_parts : (es gs bs xs line below rest : List ℕ) → xs ≡ es ++ line → line ≡ gs ++ below → below ≡ bs ++ rest → xs ≡ (es ++ (gs ++ bs)) ++ rest
below_parts es gs bs xs line below rest a b c = rw (append_assoc es (gs ++ bs) rest, append_assoc gs bs rest) (a ∙ ap (λ zs. es ++ zs) (b ∙ ap (λ zs. gs ++ zs) c))

below_place : (es gs bs : List ℕ) (at : ℕ) → past (past (past at es) gs) bs ≡ past at (es ++ (gs ++ bs))
below_place es gs bs at = sym (past_append gs bs (past at es)) ∙ sym (past_append es (gs ++ bs) at)

below_node : (fs : List Frame) (column : ℕ) (in_map : Bool) (at : ℕ) (xs : List ℕ) (v : Value) → Under column in_map fs → (e : LineEnded fs NothingYet at xs v) → IsApart e.ending → (g : Gapped fs NothingYet (past at (spell_ending e.ending)) e.rest v)
    → BlockRead fs (suc column) (past (past at (spell_ending e.ending)) (spell_gaps g.gaps)) g.rest v → NodeRead fs column in_map at xs v
below_node fs column in_map at xs v u e a g b = record {
  node = Below e.ending g.gaps b.block;
  rest = b.rest;
  parts = below_parts (spell_ending e.ending) (spell_gaps g.gaps) (spell_block b.block) xs e.rest g.rest b.rest e.parts g.parts b.parts;
  is = (e.is, a, g.are, b.stands column in_map u, b.is);
  closed = closed_at fs (block_value b.block) (past (past (past at (spell_ending e.ending)) (spell_gaps g.gaps)) (spell_block b.block)) (past at (spell_ending e.ending ++ (spell_gaps g.gaps ++ spell_block b.block))) b.rest v
      (below_place (spell_ending e.ending) (spell_gaps g.gaps) (spell_block b.block) at) b.closed;
  ended = b.ended;
}

gapped_node : (n : ℕ) → PartsRead n → (fs : List Frame) (column : ℕ) (in_map : Bool) (at : ℕ) (xs : List ℕ) (v : Value) → Under column in_map fs → length xs ≤ suc n → (e : LineEnded fs NothingYet at xs v) → IsApart e.ending
    → (g : Gapped fs NothingYet (past at (spell_ending e.ending)) e.rest v) → Awaited fs (past (past at (spell_ending e.ending)) (spell_gaps g.gaps)) g.rest v → NodeRead fs column in_map at xs v
gapped_node n parts fs column in_map at xs v u short e a g (inl h) = nothing_node fs column in_map at xs v e a g h
gapped_node n parts fs column in_map at xs v u short e a g (inr b) =
    let l : length e.rest ≤ length xs = no_longer (spell_ending e.ending) e.rest xs e.parts in
    let m : length g.rest ≤ length e.rest = no_longer (spell_gaps g.gaps) g.rest e.rest g.parts in
    below_node fs column in_map at xs v u e a g (block_read n parts fs (suc column) (past (past at (spell_ending e.ending)) (spell_gaps g.gaps)) g.rest v u.flow u.least u.most (omega (arith, l, m, short)) b)

ended_node : (n : ℕ) → PartsRead n → (fs : List Frame) (column : ℕ) (in_map : Bool) (at : ℕ) (xs : List ℕ) (v : Value) → Under column in_map fs → length xs ≤ suc n → (e : LineEnded fs NothingYet at xs v) → IsApart e.ending → NodeRead fs column in_map at xs v
ended_node n parts fs column in_map at xs v u short e a =
    let p : ℕ = past at (spell_ending e.ending) in
    let g : Gapped fs NothingYet p e.rest v = gaps_read fs NothingYet p e.rest v refl e.ended e.on in
    gapped_node n parts fs column in_map at xs v u short e a g (nothing_yet fs (past p (spell_gaps g.gaps)) g.rest v u.flow g.next)

-- ---- on the line

beside_node : (fs : List Frame) (column : ℕ) (in_map : Bool) (at : ℕ) (xs line : List ℕ) (v : Value) (m : ℕ) → xs ≡ spaces (suc m) ++ line → LeafRead fs None (suc column) (length fs) (past at (spaces (suc m))) line v → NodeRead fs column in_map at xs v
beside_node fs column in_map at xs line v m p l = record {
  node = Beside m l.leaf;
  rest = l.rest;
  parts = rw (append_assoc (spaces (suc m)) (spell_leaf l.leaf) l.rest) (p ∙ ap (λ zs. spaces (suc m) ++ zs) l.parts);
  is = l.is;
  closed = closed_at fs (leaf_value l.leaf) (past (past at (spaces (suc m))) (spell_leaf l.leaf)) (past at (spaces (suc m) ++ spell_leaf l.leaf)) l.rest v (sym (past_append (spaces (suc m)) (spell_leaf l.leaf) at)) l.closed;
  ended = l.ended;
}

-- a map on the line of a dash
line_map : (fs : List Frame) (column at : ℕ) (xs line : List ℕ) (v : Value) (m : ℕ) → xs ≡ spaces (suc m) ++ line → MapRead None fs (item_column column m) (past at (spaces (suc m))) line v → ItemRead fs column at xs v
line_map fs column at xs line v m p x = record {
  item = MapOnLine m x.entries;
  rest = x.rest;
  parts = rw (append_assoc (spaces (suc m)) (spell_entries (item_column column m) x.entries) x.rest) (p ∙ ap (λ zs. spaces (suc m) ++ zs) x.parts);
  is = (x.level, x.are);
  closed = closed_at fs (a_map (pairs_of (keys_of x.entries) (entry_values x.entries))) (past (past at (spaces (suc m))) (spell_entries (item_column column m) x.entries)) (past at (spaces (suc m) ++ spell_entries (item_column column m) x.entries)) x.rest v
      (sym (past_append (spaces (suc m)) (spell_entries (item_column column m) x.entries) at)) x.closed;
  ended = x.ended;
}

no_key : (fs : List Frame) (place : Option ℕ) (at : ℕ) (xs : List ℕ) (v : Value) → Keyed fs ValueOnly place at xs v → ⊥
unfolding key_of
no_key fs place at xs v k = let q : ◌≡◌ {A = Result Front Broken} (no_text k.fails) (Ok k.front) = k.named in cc

on_column : (column m start at : ℕ) → start + suc column ≡ at → past at (spaces (suc m)) - start ≡ item_column column m
on_column column m start at e = let q : past at (spaces (suc m)) ≡ at + suc m = past_spaces (suc m) at in omega (arith, q, e)

keyed_part : (n : ℕ) → PartsRead n → (fs : List Frame) (column : ℕ) (in_map : Bool) (start at : ℕ) (xs line : List ℕ) (v : Value) (m : ℕ) → (in_map ≡ false → start + suc column ≡ at) → length xs ≤ suc n → xs ≡ spaces (suc m) ++ line
    → Keyed fs (role_at (not in_map) start (past at (spaces (suc m)))) None (past at (spaces (suc m))) line v → PartRead fs column in_map at xs v
keyed_part n parts fs column true start at xs line v m e short p k = absurd (no_key fs None (past at (spaces (suc m))) line v k)
keyed_part n parts fs column false start at xs line v m e short p k =
    let l : length line ≤ length xs = no_longer (spaces (suc m)) line xs p in
    let q : past at (spaces (suc m)) - start ≡ item_column column m = on_column column m start at (e refl) in
    let g : Keyed fs (Either (item_column column m)) None (past at (spaces (suc m))) line v = subst (λ (o : ℕ). Keyed fs (Either o) None (past at (spaces (suc m))) line v) q k in
    line_map fs column at xs line v m p (map_read n parts fs None (item_column column m) (past at (spaces (suc m))) line v (omega (arith, l, short)) g)

-- the spaces before it are one or more
beside_part : (n : ℕ) → PartsRead n → (fs : List Frame) (column : ℕ) (in_map : Bool) (start at : ℕ) (xs line : List ℕ) (v : Value) (m : ℕ) → (in_map ≡ false → start + suc column ≡ at) → length xs ≤ suc n → word_ends true xs ≡ true → word_ends true line ≡ false
    → xs ≡ spaces m ++ line → ValueRead fs (role_at (not in_map) start (past at (spaces m))) None (suc column) (length fs) (past at (spaces m)) line v → PartRead fs column in_map at xs v
beside_part n parts fs column in_map start at xs line v zero e short w x p r = absurd (let q : word_ends true line ≡ true = rw p at w in let g : true ≡ false = sym q ∙ x in cc)
beside_part n parts fs column in_map start at xs line v (suc m) e short w x p (inl k) = keyed_part n parts fs column in_map start at xs line v m e short p k
beside_part n parts fs column in_map start at xs line v (suc m) e short w x p (inr b) = node_part fs column in_map at xs v (beside_node fs column in_map at xs line v m p b.1)

ahead_part : (n : ℕ) → PartsRead n → (fs : List Frame) (column : ℕ) (in_map : Bool) (start at : ℕ) (xs : List ℕ) (v : Value) → length xs ≤ suc n → Under column in_map fs → (in_map ≡ false → start + suc column ≡ at) → word_ends true xs ≡ true
    → Ahead fs start (not in_map) false at xs v → PartRead fs column in_map at xs v
ahead_part n parts fs column in_map start at xs v short u e w (inl a) = node_part fs column in_map at xs v (ended_node n parts fs column in_map at xs v u short a.0 (a.1 refl))
ahead_part n parts fs column in_map start at xs v short u e w (inr b) =
    let p : ℕ = past at (spaces b.spaced) in
    beside_part n parts fs column in_map start at xs (b.first ∷ b.more) v b.spaced e short w (rw (b.space, b.feed) refl) b.parts
    (value_read fs (role_at (not in_map) start p) None (suc column) p b.first b.more v u.flow u.least u.most tt b.space b.feed b.ended b.on)

parts_longer : (n : ℕ) → PartsRead n → PartsRead (suc n)
parts_longer n parts fs column in_map start at xs v short u e w ended on = ahead_part n parts fs column in_map start at xs v short u e w (ahead fs start (not in_map) false at xs v u.flow ended on)

parts_empty : PartsRead 0
parts_empty fs column in_map start at [] v short u e w ended on = absurd (let q : false ≡ true = ended in cc)
parts_empty fs column in_map start at (c ∷ cs) v short u e w ended on = absurd (omega (arith, short))

pub parts_read : (n : ℕ) → PartsRead n
parts_read zero = parts_empty
parts_read (suc n) = parts_longer n (parts_read n)
