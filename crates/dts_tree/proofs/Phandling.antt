-- The phandle of a node of the tree is the number of its draft.
use Rattle.std.proofs.Common.{◌≡◌, ◌∙◌, ◌+◌, ◌*◌, ◌%◌, ◌<◌, ◌≤◌, ◌^◌, ◌++◌, ◌⊎◌, ◌∷◌, [], ℕ, zero, suc, Bool, true, false, cond, ◌&&◌, List, Option, Some, None, length, map, refl, sym, ap, subst, inl, inr, arith}
use Rattle.std.specs.Prelude.{is_some, nat_le}
use Rattle.std.specs.Option.{option_and_then, option_map, option_map_or, option_or, option_to_list}
use Rattle.std.specs.List.{list_all, flat_map}
use Rattle.std.specs.Int.{w32, to_be_bytes, from_be_bytes}
use Rattle.std.specs.Str.{bytes_eq}
use Rattle.std.proofs.lemmas.Bool.{false≢true, true≢false}
use Rattle.std.proofs.lemmas.List.{append-nil, append_assoc, length-append}
use Rattle.std.proofs.lemmas.List.Concat.{flat_map-append}
use Rattle.std.proofs.lemmas.Nat.{from_be_bytes-to_be_bytes_4}
use Rattle.std.proofs.lemmas.Option.{same_Some, none-some}
use Rattle.edt_base.specs.Cells.{cell_bytes, cell_of}
use Rattle.edt_base.specs.NodeData.{prop_of, is_cells, bytes_of, one_cell}
use Rattle.edt_base.specs.declared.node.Kind.TheVariants as kind
use Rattle.edt_base.specs.declared.node.Part.{Part}
use Rattle.dts_tree.specs.declared.draft.DraftCell.{DraftCell}
use Rattle.dts_tree.specs.declared.draft.DraftCell.TheVariants as draft
use Rattle.dts_tree.specs.Drafts.{DraftPartData, DraftData, Ready, Mixed, PathTo}
use Rattle.dts_tree.specs.Final.{draft_prop, phandle_name, all_cells, only_of, only_cell, cells_of, cell_phandle, written_number, written, cell_value, part_of, prop_value, given_prop, given, props_of, is_taken}
use Rattle.dts_tree.specs.Rules.{is_bad_phandle}
use Rattle.dts_tree.proofs.PropLaws.{prop_of_values}
use Rattle.dts_tree.proofs.Numbering.{value_small_by}

abbrev cell_part : DraftPartData → Bool
cell_part p = is_some (cells_of p)

-- ---- the bytes of a value that has cells alone

record AreCells (ds : List DraftData) (ns : List (Option ℕ)) (parts : List DraftPartData) (cells : List DraftCell) : Type 0 where
  kinds : list_all (λ (p : Part). is_cells p.kind) (map (part_of ds ns) parts) ≡ true
  bytes : bytes_of (map (part_of ds ns) parts) ≡ flat_map (λ c. cell_bytes (cell_value ns c)) cells

more_cells : (ds : List DraftData) (ns : List (Option ℕ)) (first : List DraftCell) (ps : List DraftPartData) (o : Option (List DraftCell)) (cells : List DraftCell)
    → ((more : List DraftCell) → o ≡ Some more → AreCells ds ns ps more) → option_map (λ more. first ++ more) o ≡ Some cells → AreCells ds ns (Mixed first ∷ ps) cells
more_cells ds ns first ps None cells r h = absurd (none-some cells h)
more_cells ds ns first ps (Some more) cells r h =
    let same : first ++ more ≡ cells = same_Some (first ++ more) cells h in
    let rest = r more refl in
    record {
      kinds = rest.kinds;
      bytes = ap (λ bs. flat_map (λ c. cell_bytes (cell_value ns c)) first ++ bs) rest.bytes
          ∙ (sym (flat_map-append (λ c. cell_bytes (cell_value ns c)) first more) ∙ ap (flat_map (λ c. cell_bytes (cell_value ns c))) same);
    }

cells_in : (ds : List DraftData) (ns : List (Option ℕ)) (parts : List DraftPartData) (cells : List DraftCell) → all_cells parts ≡ Some cells → AreCells ds ns parts cells
cells_in ds ns [] cells h =
    let same : [] ≡ cells = same_Some [] cells h in
    record { kinds = refl; bytes = ap (flat_map (λ c. cell_bytes (cell_value ns c))) same }
cells_in ds ns (Ready p ∷ ps) cells h = absurd (none-some cells h)
cells_in ds ns (Mixed first ∷ ps) cells h = more_cells ds ns first ps (all_cells ps) cells (λ more e. cells_in ds ns ps more e) h
cells_in ds ns (PathTo r ∷ ps) cells h = absurd (none-some cells h)

pub cell_back : (n : ℕ) → n < 2 ^ 32 → cell_of (cell_bytes n) ≡ Some n
cell_back n l = ap Some (from_be_bytes-to_be_bytes_4 n l)

single_by : (xs : List DraftCell) (n : ℕ) → option_and_then cell_phandle (only_of xs) ≡ Some n → (ns : List (Option ℕ)) → n < 2 ^ 32
    → cell_of (flat_map (λ c. cell_bytes (cell_value ns c)) xs) ≡ Some n
single_by [] n h ns l = absurd (none-some n h)
single_by (draft.Num m ∷ []) n h ns l =
    let same : m ≡ n = number_same m n h in
    ap cell_of (append-nil (cell_bytes m)) ∙ (ap (λ k. cell_of (cell_bytes k)) same ∙ cell_back n l)
  where
    number_by : (b : Bool) (m n : ℕ) → cond b (Some m) None ≡ Some n → m ≡ n
    number_by true m n h = same_Some m n h
    number_by false m n h = absurd (none-some n h)

    number_same : (m n : ℕ) → cell_phandle (draft.Num m) ≡ Some n → m ≡ n
    number_same m n h = number_by (nat_le 1 m && nat_le m 4294967294) m n h
single_by (draft.Ref r ∷ []) n h ns l = absurd (none-some n h)
single_by (c ∷ d ∷ xs) n h ns l = absurd (none-some n h)

written_by : (ds : List DraftData) (ns : List (Option ℕ)) (parts : List DraftPartData) (o : Option (List DraftCell)) (n : ℕ) → all_cells parts ≡ o
    → option_and_then cell_phandle (option_and_then only_of o) ≡ Some n → n < 2 ^ 32 → one_cell (map (part_of ds ns) parts) ≡ Some n
written_by ds ns parts None n e h l = absurd (none-some n h)
written_by ds ns parts (Some cells) n e h l =
    let r = cells_in ds ns parts cells e in
    ap (λ b. cond b (cell_of (bytes_of (map (part_of ds ns) parts))) None) r.kinds ∙ (ap cell_of r.bytes ∙ single_by cells n h ns l)

-- a written phandle, in bytes
pub written_cell : (ds : List DraftData) (ns : List (Option ℕ)) (parts : List DraftPartData) (n : ℕ) → written_number parts ≡ Some n → one_cell (map (part_of ds ns) parts) ≡ Some n
written_cell ds ns parts n h = written_by ds ns parts (all_cells parts) n refl h (value_small_by (only_cell parts) n h)

-- ---- the property `phandle` of a node

or_by : (b : Bool) (v : List Part) (o r : Option (List Part)) → cond b (Some v) (option_or o r) ≡ option_or (cond b (Some v) o) r
or_by true v o r = refl
or_by false v o r = refl

pub prop_of-append : (name : List ℕ) (xs ys : List (List ℕ × List Part)) → prop_of name (xs ++ ys) ≡ option_or (prop_of name xs) (prop_of name ys)
prop_of-append name [] ys = refl
prop_of-append name (x ∷ xs) ys =
    ap (λ o. cond (bytes_eq x.0 name) (Some x.1) o) (prop_of-append name xs ys) ∙ or_by (bytes_eq x.0 name) x.1 (prop_of name xs) (prop_of name ys)

given_by : (number : Option ℕ) (n : ℕ) → ((m : ℕ) → number ≡ Some m → m < 2 ^ 32)
    → option_and_then one_cell (prop_of phandle_name (option_to_list (option_map given_prop number))) ≡ Some n → number ≡ Some n
given_by None n small h = absurd (none-some n h)
given_by (Some m) n small h = sym (ap (λ bs. cell_of bs) (append-nil (cell_bytes m)) ∙ cell_back m (small m refl)) ∙ h

found_by : (o : Option (List DraftPartData)) (ds : List DraftData) (ns : List (Option ℕ)) (number : Option ℕ) (n : ℕ)
    → ((m : ℕ) → number ≡ Some m → m < 2 ^ 32) → ((m : ℕ) → option_and_then written_number o ≡ Some m → number ≡ Some m)
    → (is_some o ≡ true → (m : ℕ) × (option_and_then written_number o ≡ Some m))
    → option_and_then one_cell (option_or (option_map (map (part_of ds ns)) o) (prop_of phandle_name (cond (is_some o) [] (option_to_list (option_map given_prop number))))) ≡ Some n
    → number ≡ Some n
found_by None ds ns number n small keeps good h = given_by number n small h
found_by (Some parts) ds ns number n small keeps good h =
    let w = good refl in
    let same : w.0 ≡ n = same_Some w.0 n (sym (written_cell ds ns parts w.0 w.1) ∙ h) in
    keeps w.0 w.1 ∙ ap Some same

-- a node's phandle is the number of its draft
pub phandle_is_number : (ds : List DraftData) (ns : List (Option ℕ)) (d : DraftData) (number : Option ℕ) (n : ℕ)
    → ((m : ℕ) → number ≡ Some m → m < 2 ^ 32) → ((m : ℕ) → written d ≡ Some m → number ≡ Some m)
    → (is_some (draft_prop phandle_name d.props) ≡ true → (m : ℕ) × (written d ≡ Some m))
    → option_and_then one_cell (prop_of phandle_name (props_of ds ns d number)) ≡ Some n → number ≡ Some n
phandle_is_number ds ns d number n small keeps good h =
    let e : prop_of phandle_name (props_of ds ns d number) ≡ option_or (option_map (map (part_of ds ns)) (draft_prop phandle_name d.props)) (prop_of phandle_name (given d number)) =
    prop_of-append phandle_name (map (prop_value ds ns) d.props) (given d number)
    ∙ ap (λ o. option_or o (prop_of phandle_name (given d number))) (prop_of_values ds ns phandle_name d.props) in
    found_by (draft_prop phandle_name d.props) ds ns number n small keeps good (sym (ap (option_and_then one_cell) e) ∙ h)

-- a node whose phandle isn't bad was written with one, where it has the property
bad_by : (a : Bool) (o : Option ℕ) (f : ℕ → Bool) → a ≡ true → (a && option_map_or f o true) ≡ false → (m : ℕ) × (o ≡ Some m)
bad_by true None f t h = absurd (true≢false h)
bad_by true (Some m) f t h = (m, refl)
bad_by false o f t h = absurd (false≢true t)

pub good_written : (earlier : List DraftData) (d : DraftData) → is_bad_phandle earlier d ≡ false → is_some (draft_prop phandle_name d.props) ≡ true → (m : ℕ) × (written d ≡ Some m)
good_written earlier d h t = bad_by (is_some (draft_prop phandle_name d.props)) (written d) (is_taken (map written earlier)) t h
