-- The nodes of the tree, each by its draft.
use Rattle.std.proofs.Common.{◌≡◌, ◌∙◌, ◌+◌, ◌*◌, ◌%◌, ◌<◌, ◌≤◌, ◌^◌, ◌++◌, ◌⊎◌, ◌∷◌, [], ℕ, zero, suc, Bool, true, false, cond, List, Option, Some, None, length, map, get_or, refl, sym, ap, subst, inl, inr, arith, All, length-append}
use Rattle.std.specs.Prelude.{slice_get, is_some, codes, find, IfSome, position, ⊤}
use Rattle.std.specs.Option.{option_and_then, option_map, option_map_or, option_to_list}
use Rattle.std.specs.List.{list_any, flat_map, filter_map, cons_option, enumerate_from}
use Rattle.std.proofs.lemmas.Bool.{false≢true, true≢false, or_parts}
use Rattle.std.proofs.lemmas.List.{length-map, append-nil}
use Rattle.std.proofs.lemmas.List.FromFn.{length-enumerate_from}
use Rattle.std.proofs.lemmas.List.Elements.{All-nil, All-cons, All-head, All-tail, All-append, All-map}
use Rattle.std.proofs.lemmas.List.Quantifiers.{position-Some}
use Rattle.std.proofs.lemmas.Option.{same_Some, none-some, get_or_from_slice_get, slice_get_within}
use Rattle.edt_base.specs.Cells.{cell_bytes}
use Rattle.edt_base.specs.NodeData.{NodeData, holds_number}
use Rattle.edt_base.specs.TreeData.{IsAtOrAbove, itself, further, parent_of, children_from, children_of, child_path, IsKindOf}
use Rattle.edt_base.specs.declared.node.Kind.{Kind}
use Rattle.edt_base.specs.declared.node.Kind.TheVariants as kind
use Rattle.edt_base.specs.declared.node.Part.{Part}
use Rattle.dts_tree.specs.declared.draft.DraftCell.{DraftCell}
use Rattle.dts_tree.specs.Drafts.{DraftPartData, DraftData, Ready, Mixed, PathTo}
use Rattle.dts_tree.specs.Final.{cell_value, path_at, part_of, prop_value, given_prop, given, props_of, props_with, below_from, node_of, nodes_of, spells_path, before_last, has_draft_path, node_at, named_by, naming_prop, draft_prop, phandle_name}
use Rattle.dts_tree.specs.Rules.{cell_dangles, part_dangles, dangles}
use Rattle.dts_tree.specs.Inner.DraftRules as rules
use Rattle.dts_tree.specs.Inner.DraftRules.{IsAbove, path_below, IsPartOf}

-- ---- what is made of each with its place

at_from : {X Y : Type 0} (f : ℕ × X → Y) (k : ℕ) (xs : List X) (i : ℕ) → slice_get (map f (enumerate_from k xs)) i ≡ option_map (λ x. f (k + i, x)) (slice_get xs i)
at_from f k [] i = refl
at_from f k (x ∷ xs) zero = let e : k ≡ k + 0 = omega arith in ap (λ n. Some (f (n, x))) e
at_from f k (x ∷ xs) (suc i) =
    let e : (k + 1) + i ≡ k + suc i = omega arith in
    at_from f (k + 1) xs i ∙ ap (λ n. option_map (λ y. f (n, y)) (slice_get xs i)) e

at_place : {X Y : Type 0} (f : ℕ × X → Y) (xs : List X) (i : ℕ) → slice_get (map f (enumerate_from 0 xs)) i ≡ option_map (λ x. f (i, x)) (slice_get xs i)
at_place f xs i = let e : 0 + i ≡ i = omega arith in at_from f 0 xs i ∙ ap (λ n. option_map (λ y. f (n, y)) (slice_get xs i)) e

made_by : {X Y : Type 0} (f : X → Y) (o : Option X) (y : Y) → option_map f o ≡ Some y → (x : X) × (o ≡ Some x) × (y ≡ f x)
made_by f None y h = absurd (none-some y h)
made_by f (Some x) y h = (x, refl, sym (same_Some (f x) y h))

-- the properties at a place
pub props_there : (ds : List DraftData) (ns : List (Option ℕ)) (i : ℕ) (d : DraftData) → slice_get ds i ≡ Some d
    → get_or (props_with ds ns) i [] ≡ props_of ds ns d (get_or ns i None)
props_there ds ns i d h =
    get_or_from_slice_get (props_with ds ns) i (props_of ds ns d (get_or ns i None)) []
    (at_place (λ (e : ℕ × DraftData). props_of ds ns e.1 (get_or ns e.0 None)) ds i ∙ ap (option_map (λ (x : DraftData). props_of ds ns x (get_or ns i None))) h)

pub node_there : (ds : List DraftData) (props : List (List (List ℕ × List Part))) (i : ℕ) (d : DraftData) → slice_get ds i ≡ Some d
    → slice_get (nodes_of ds props) i ≡ Some (node_of d (get_or props i []) (below_from 0 ds i))
unfolding nodes_of
node_there ds props i d h =
    at_place (λ (e : ℕ × DraftData). node_of e.1 (get_or props e.0 []) (below_from 0 ds e.0)) ds i ∙ ap (option_map (λ (x : DraftData). node_of x (get_or props i []) (below_from 0 ds i))) h

-- each node is that of a draft
pub node_made : (ds : List DraftData) (props : List (List (List ℕ × List Part))) (i : ℕ) (n : NodeData) → slice_get (nodes_of ds props) i ≡ Some n
    → (d : DraftData) × (slice_get ds i ≡ Some d) × (n ≡ node_of d (get_or props i []) (below_from 0 ds i))
unfolding nodes_of
node_made ds props i n h =
    made_by (λ (x : DraftData). node_of x (get_or props i []) (below_from 0 ds i)) (slice_get ds i) n
    (sym (at_place (λ (e : ℕ × DraftData). node_of e.1 (get_or props e.0 []) (below_from 0 ds e.0)) ds i) ∙ h)

pub nodes_long : (ds : List DraftData) (props : List (List (List ℕ × List Part))) → length (nodes_of ds props) ≡ length ds
unfolding nodes_of
nodes_long ds props =
    length-map (enumerate_from 0 ds) (λ (e : ℕ × DraftData). node_of e.1 (get_or props e.0 []) (below_from 0 ds e.0)) ∙ length-enumerate_from 0 ds

-- ---- above and below

pub above : (ds : List DraftData) (props : List (List (List ℕ × List Part))) (q i : ℕ) → IsAbove ds q i → IsAtOrAbove (nodes_of ds props) q i
above ds props q i (rules.itself j) = itself j
above ds props q i (rules.further j p q2 d h e r) =
    further j p q2 (ap (option_and_then (λ (n : NodeData). n.parent)) (node_there ds props j d h) ∙ e) (above ds props q2 p r)

kids_from : (ds : List DraftData) (props : List (List (List ℕ × List Part))) (all : List DraftData) (k j i : ℕ)
    → below_from k ds i ≡ children_from k (map (λ (e : ℕ × DraftData). node_of e.1 (get_or props e.0 []) (below_from 0 all e.0)) (enumerate_from j ds)) i
kids_from [] props all k j i = refl
kids_from (d ∷ ds) props all k j i = ap (λ t. cond (holds_number i d.parent) (k ∷ t) t) (kids_from ds props all (k + 1) (j + 1) i)

pub kids : (ds : List DraftData) (props : List (List (List ℕ × List Part))) (i : ℕ) → below_from 0 ds i ≡ children_of (nodes_of ds props) i
unfolding nodes_of
kids ds props i = kids_from ds props ds 0 0 i

all_by : (b : Bool) (P : ℕ → Type 0) (k : ℕ) (ts : List ℕ) → P k → All P ts → All P (cond b (k ∷ ts) ts)
all_by true P k ts h r = All-cons P k ts h r
all_by false P k ts h r = r

kids_in : (ds : List DraftData) (k m i : ℕ) → k + length ds ≤ m → All (λ c. c < m) (below_from k ds i)
kids_in [] k m i h = All-nil (λ c. c < m)
kids_in (d ∷ ds) k m i h = all_by (holds_number i d.parent) (λ c. c < m) k (below_from (k + 1) ds i) (omega arith) (kids_in ds (k + 1) m i (omega arith))

pub kids_within : (ds : List DraftData) (i : ℕ) → All (λ c. c < length ds) (below_from 0 ds i)
kids_within ds i = kids_in ds 0 (length ds) i (omega arith)

path_by : (o : Option ℕ) (a p : List ℕ) (ch : List ℕ) (ls : List (List ℕ)) (ps : List (List ℕ × List Part)) (cs : List (List ℕ)) (st name : List ℕ)
    → path_below o p name ≡ child_path (record { name = a; path = p; parent = o; children = ch; labels = ls; props = ps; compats = cs; status = st }) name
path_by None a p ch ls ps cs st name = refl
path_by (Some up) a p ch ls ps cs st name = refl

pub path_of_child : (d : DraftData) (ps : List (List ℕ × List Part)) (ch name : List ℕ) → path_below d.parent d.path name ≡ child_path (node_of d ps ch) name
path_of_child d ps ch name = path_by d.parent d.name d.path ch d.labels ps (node_of d ps ch).compats (node_of d ps ch).status name

-- ---- nodes that properties name

at_within : (ds : List DraftData) (path : List ℕ) (o : Option ℕ) → node_at ds path ≡ o → IfSome o (λ i. i < length ds)
at_within ds path None h = tt
at_within [] path (Some i) h = absurd (none-some i h)
at_within (d ∷ ds) path (Some i) h = (position-Some (has_draft_path path) (d ∷ ds) i d h).0

named_by_within : (b : Bool) (ds : List DraftData) (path : List ℕ) → IfSome (cond b (node_at ds path) None) (λ i. i < length ds)
named_by_within true ds path = at_within ds path (node_at ds path) refl
named_by_within false ds path = tt

named_within : (ds : List DraftData) (parts : List Part) → IfSome (named_by ds parts) (λ i. i < length ds)
named_within ds [] = tt
named_within ds (p ∷ []) = named_by_within (spells_path p.kind) ds (before_last p.bytes)
named_within ds (p ∷ q ∷ ps) = tt

pairs_by : (o : Option ℕ) (name : List ℕ) (m : ℕ) (rest : List (List ℕ × ℕ)) → IfSome o (λ i. i < m) → All (λ (a : List ℕ × ℕ). a.1 < m) rest
    → All (λ (a : List ℕ × ℕ). a.1 < m) (cons_option (option_map (λ i. (name, i)) o) rest)
pairs_by None name m rest h r = r
pairs_by (Some i) name m rest h r = All-cons (λ (a : List ℕ × ℕ). a.1 < m) (name, i) rest h r

pub pairs_within : (ds : List DraftData) (props : List (List ℕ × List Part)) → All (λ (a : List ℕ × ℕ). a.1 < length ds) (filter_map (naming_prop ds) props)
pairs_within ds [] = All-nil (λ (a : List ℕ × ℕ). a.1 < length ds)
pairs_within ds (p ∷ ps) = pairs_by (named_by ds p.1) p.0 (length ds) (filter_map (naming_prop ds) ps) (named_within ds p.1) (pairs_within ds ps)

-- ---- the kinds of parts

kind_any : (nodes : List NodeData) (k : Kind) (bytes : List ℕ) → IsKindOf [] k bytes → IsKindOf nodes k bytes
kind_any nodes kind.Str bytes h = h
kind_any nodes kind.Cells bytes h = h
kind_any nodes kind.Hex bytes h = h
kind_any nodes kind.Wide bytes h = h
kind_any nodes kind.Path bytes h = absurd (none-some h.1 h.2)

four : (n : ℕ) → length (cell_bytes n) ≡ 4
four n = refl

fours : (ns : List (Option ℕ)) (cells : List DraftCell) → length (flat_map (λ c. cell_bytes (cell_value ns c)) cells) ≡ 4 * length cells
fours ns [] = refl
fours ns (c ∷ cs) =
    let e = length-append (cell_bytes (cell_value ns c)) (flat_map (λ x. cell_bytes (cell_value ns x)) cs) in
    let f : length (cell_bytes (cell_value ns c)) ≡ 4 = four (cell_value ns c) in
    let r = fours ns cs in
    omega arith

whole_cells : (n m : ℕ) → n ≡ 4 * m → n % 4 ≡ 0
whole_cells n m e = omega arith

path_kind : (ds : List DraftData) (props : List (List (List ℕ × List Part))) (i : ℕ) (o : Option DraftData) → slice_get ds i ≡ o → i < length ds
    → IsKindOf (nodes_of ds props) kind.Path (option_map_or (λ (d : DraftData). d.path) o [] ++ 0 ∷ [])
path_kind ds props i None h l = absurd (omega (arith, not_past ds i h))
  where
    not_past : (xs : List DraftData) (i : ℕ) → slice_get xs i ≡ None → length xs ≤ i
    not_past [] i h = omega arith
    not_past (x ∷ xs) zero h = absurd (none-some x (sym h))
    not_past (x ∷ xs) (suc i) h = let r = not_past xs i h in omega arith
path_kind ds props i (Some d) h l = (i, node_of d (get_or props i []) (below_from 0 ds i), node_there ds props i d h, refl)

part_kind : (ds : List DraftData) (ns : List (Option ℕ)) (props : List (List (List ℕ × List Part))) (p : DraftPartData) → IsPartOf (length ds) p → part_dangles p ≡ false
    → IsKindOf (nodes_of ds props) (part_of ds ns p).kind (part_of ds ns p).bytes
part_kind ds ns props (Ready p) h f = kind_any (nodes_of ds props) p.kind p.bytes h
part_kind ds ns props (Mixed cells) h f = whole_cells (length (flat_map (λ c. cell_bytes (cell_value ns c)) cells)) (length cells) (fours ns cells)
part_kind ds ns props (PathTo None) h f = absurd (true≢false f)
part_kind ds ns props (PathTo (Some i)) h f = path_kind ds props i (slice_get ds i) refl h

abbrev pub AreKinds : List NodeData → List Part → Type 0
AreKinds nodes parts = All (λ (part : Part). IsKindOf nodes part.kind part.bytes) parts

parts_kind : (ds : List DraftData) (ns : List (Option ℕ)) (props : List (List (List ℕ × List Part))) (ps : List DraftPartData) → All (IsPartOf (length ds)) ps
    → list_any part_dangles ps ≡ false → AreKinds (nodes_of ds props) (map (part_of ds ns) ps)
parts_kind ds ns props [] h f = All-nil (λ (part : Part). IsKindOf (nodes_of ds props) part.kind part.bytes)
parts_kind ds ns props (p ∷ ps) h f =
    let r = or_parts (part_dangles p) (list_any part_dangles ps) f in
    All-cons (λ (part : Part). IsKindOf (nodes_of ds props) part.kind part.bytes) (part_of ds ns p) (map (part_of ds ns) ps)
    (part_kind ds ns props p (All-head (IsPartOf (length ds)) p ps h) r.0)
    (parts_kind ds ns props ps (All-tail (IsPartOf (length ds)) p ps h) r.1)

abbrev prop_dangles : List ℕ × List DraftPartData → Bool
prop_dangles p = list_any part_dangles p.1

values_kind : (ds : List DraftData) (ns : List (Option ℕ)) (props : List (List (List ℕ × List Part))) (ps : List (List ℕ × List DraftPartData))
    → All (λ (p : List ℕ × List DraftPartData). All (IsPartOf (length ds)) p.1) ps → list_any prop_dangles ps ≡ false
    → All (λ (p : List ℕ × List Part). AreKinds (nodes_of ds props) p.1) (map (prop_value ds ns) ps)
values_kind ds ns props [] h f = All-nil (λ (p : List ℕ × List Part). AreKinds (nodes_of ds props) p.1)
values_kind ds ns props (p ∷ ps) h f =
    let r = or_parts (prop_dangles p) (list_any prop_dangles ps) f in
    All-cons (λ (q : List ℕ × List Part). AreKinds (nodes_of ds props) q.1) (prop_value ds ns p) (map (prop_value ds ns) ps)
    (parts_kind ds ns props p.1 (All-head (λ (q : List ℕ × List DraftPartData). All (IsPartOf (length ds)) q.1) p ps h) r.0)
    (values_kind ds ns props ps (All-tail (λ (q : List ℕ × List DraftPartData). All (IsPartOf (length ds)) q.1) p ps h) r.1)

given_by : (b : Bool) (nodes : List NodeData) (number : Option ℕ)
    → All (λ (p : List ℕ × List Part). AreKinds nodes p.1) (cond b [] (option_to_list (option_map given_prop number)))
given_by true nodes number = All-nil (λ (p : List ℕ × List Part). AreKinds nodes p.1)
given_by false nodes None = All-nil (λ (p : List ℕ × List Part). AreKinds nodes p.1)
given_by false nodes (Some n) =
    All-cons (λ (p : List ℕ × List Part). AreKinds nodes p.1) (given_prop n) []
    (All-cons (λ (part : Part). IsKindOf nodes part.kind part.bytes) (record { kind = kind.Cells; bytes = cell_bytes n }) [] refl (All-nil (λ (part : Part). IsKindOf nodes part.kind part.bytes)))
    (All-nil (λ (p : List ℕ × List Part). AreKinds nodes p.1))

pub props_kind : (ds : List DraftData) (ns : List (Option ℕ)) (props : List (List (List ℕ × List Part))) (d : DraftData) (number : Option ℕ)
    → All (λ (p : List ℕ × List DraftPartData). All (IsPartOf (length ds)) p.1) d.props → dangles d ≡ false
    → All (λ (p : List ℕ × List Part). AreKinds (nodes_of ds props) p.1) (props_of ds ns d number)
props_kind ds ns props d number h f =
    All-append (λ (p : List ℕ × List Part). AreKinds (nodes_of ds props) p.1) (map (prop_value ds ns) d.props) (given d number)
    (values_kind ds ns props d.props h f) (given_by (is_some (draft_prop phandle_name d.props)) (nodes_of ds props) number)

none_by : {X : Type 0} (b : Bool) (x : X) (o : Option X) → cond b (Some x) o ≡ None → (b ≡ false) × (o ≡ None)
none_by true x o h = absurd (none-some x (sym h))
none_by false x o h = (refl, h)

pub none_found : {X : Type 0} (p : X → Bool) (xs : List X) → find p xs ≡ None → (i : ℕ) (x : X) → slice_get xs i ≡ Some x → p x ≡ false
none_found p [] h i x e = absurd (none-some x e)
none_found p (y ∷ ys) h zero x e = ap p (sym (same_Some y x e)) ∙ (none_by (p y) y (find p ys) h).0
none_found p (y ∷ ys) h (suc i) x e = none_found p ys (none_by (p y) y (find p ys) h).1 i x e
