-- The paths and names of a tree's nodes stay within a line, a comment and a string literal.
use Rattle.std.proofs.Common.{◌≡◌, ◌∙◌, ◌<◌, ◌++◌, ℕ, zero, suc, Bool, true, not, ◌&&◌, List, [], ◌∷◌, Option, Some, None, codes, drop, get_or, length, nat_eq, nat_lt, refl, sym, ap, subst, take, arith}
use Rattle.std.specs.Prelude.{slice_get}
use Rattle.std.specs.List.{list_all, prefix_len}
use Rattle.std.specs.Option.{option_and_then}
use Rattle.std.proofs.lemmas.Bool.{and_from, and_parts}
use Rattle.std.proofs.lemmas.Bool.Decides.{nat_tests}
use Rattle.std.proofs.lemmas.List.{take-append-drop}
use Rattle.std.proofs.lemmas.List.Folds.{list_all-append}
use Rattle.std.proofs.lemmas.Option.{slice_get-get_or}
use Rattle.edt_base.specs.NodeData.{NodeData}
use Rattle.edt_base.specs.SourceBytes.{is_node_byte}
use Rattle.edt_base.specs.SourceNames.{is_no_at, is_node_name, is_node_word, is_unit}
use Rattle.edt_base.specs.TreeData.{IsWellFormed, TreeData, child_path, parent_of}
use Rattle.edt_base.proofs.TreeLaws.{before}
use Rattle.dt_api.specs.HeaderLaw.{is_bytes, is_title}

-- a byte that may stand in a path
abbrev is_held : ℕ → Bool
is_held b = nat_lt b 128 && (not (nat_eq b 10) && not (nat_eq b 42))

node_held : (b : ℕ) → is_node_byte b ≡ true → is_held b ≡ true
node_held b h =
    let low : nat_lt b 128 ≡ true = grind (arith, nat_tests) in
    let line : not (nat_eq b 10) ≡ true = grind (arith, nat_tests) in
    let star : not (nat_eq b 42) ≡ true = grind (arith, nat_tests) in
    and_from _ _ low (and_from _ _ line star)

all_held : (bs : List ℕ) → list_all is_node_byte bs ≡ true → list_all is_held bs ≡ true
all_held [] h = refl
all_held (b ∷ bs) h = let p : (is_node_byte b ≡ true) × (list_all is_node_byte bs ≡ true) = and_parts _ _ h in and_from _ _ (node_held b p.0) (all_held bs p.1)

word_held : (w : List ℕ) → is_node_word w ≡ true → list_all is_held w ≡ true
word_held [] h = cc
word_held (b ∷ bs) h = all_held (b ∷ bs) h

at_held : (b : ℕ) → nat_eq b 64 ≡ true → is_held b ≡ true
at_held b h =
    let low : nat_lt b 128 ≡ true = grind (arith, nat_tests) in
    let line : not (nat_eq b 10) ≡ true = grind (arith, nat_tests) in
    let star : not (nat_eq b 42) ≡ true = grind (arith, nat_tests) in
    and_from _ _ low (and_from _ _ line star)

unit_held : (u : List ℕ) → is_unit u ≡ true → list_all is_held u ≡ true
unit_held [] h = refl
unit_held (b ∷ bs) h = let p : (nat_eq b 64 ≡ true) × (is_node_word bs ≡ true) = and_parts _ _ h in and_from _ _ (at_held b p.0) (word_held bs p.1)

name_held : (name : List ℕ) → is_node_name name ≡ true → list_all is_held name ≡ true
name_held name h =
    let k = prefix_len is_no_at name in
    let p : (is_node_word (take k name) ≡ true) × (is_unit (drop k name) ≡ true) = and_parts _ _ h in
    subst (λ w. list_all is_held w ≡ true) (take-append-drop k name)
    (list_all-append is_held (take k name) (drop k name) ∙ and_from _ _ (word_held (take k name) p.0) (unit_held (drop k name) p.1))

-- a child's path, by its parent's
child_held : (m : NodeData) (name : List ℕ) → list_all is_held m.path ≡ true → list_all is_held name ≡ true → list_all is_held (child_path m name) ≡ true
child_held m name h k = by_parent m.parent refl
  where
    by_parent : (o : Option ℕ) → m.parent ≡ o → list_all is_held (child_path m name) ≡ true
    by_parent None e = rw e k
    by_parent (Some p) e = rw e (list_all-append is_held (m.path ++ codes "/") name ∙ and_from _ _ (list_all-append is_held m.path (codes "/") ∙ and_from _ _ h refl) k)

parent_there : (nodes : List NodeData) (p : ℕ) (d : NodeData) → p < length nodes → (m : NodeData) × (slice_get nodes p ≡ Some m)
parent_there nodes p d h = (get_or nodes p d, slice_get-get_or nodes p d h)

parent_is : (nodes : List NodeData) (n p : ℕ) (x : NodeData) → slice_get nodes n ≡ Some x → x.parent ≡ Some p → parent_of nodes n ≡ Some p
parent_is nodes n p x e h = ap (λ o. option_and_then (λ (y : NodeData). y.parent) o) e ∙ h

path_held : (t : TreeData) → IsWellFormed t → (k n : ℕ) (x : NodeData) → n < k → slice_get t.nodes n ≡ Some x → list_all is_held x.path ≡ true
path_held t w zero n x h e = absurd (omega arith)
path_held t w (suc k) n x h e = by_parent (λ p m q i. path_held t w k p m q i) x.parent refl
  where
    by_parent : ((p : ℕ) (m : NodeData) → p < k → slice_get t.nodes p ≡ Some m → list_all is_held m.path ≡ true) → (o : Option ℕ) → x.parent ≡ o → list_all is_held x.path ≡ true
    by_parent go None f = subst (λ z. list_all is_held z ≡ true) (sym (w.root_path n x e f)) refl
    by_parent go (Some p) f =
        let up = parent_there t.nodes p x (w.parents_in n p x e f) in
        let first : p < n = before t n p w (parent_is t.nodes n p x e f) in
        subst (λ z. list_all is_held z ≡ true) (sym (w.child_paths n p x up.0 e f up.1))
        (child_held up.0 x.name (go p up.0 (omega arith) up.1) (name_held x.name (w.names n p x e f)))

held_title : (text : List ℕ) → list_all is_held text ≡ true → is_title text ≡ true
held_title [] h = refl
held_title (b ∷ bs) h =
    let p : (is_held b ≡ true) × (list_all is_held bs ≡ true) = and_parts _ _ h in
    let q : (nat_lt b 128 ≡ true) × ((not (nat_eq b 10) && not (nat_eq b 42)) ≡ true) = and_parts _ _ p.0 in
    and_from _ _ q.1 (held_title bs p.1)

byte_of : (b : ℕ) → nat_lt b 128 ≡ true → nat_lt b 256 ≡ true
byte_of b h = grind (arith, nat_tests)

held_bytes : (text : List ℕ) → list_all is_held text ≡ true → is_bytes text ≡ true
held_bytes [] h = refl
held_bytes (b ∷ bs) h =
    let p : (is_held b ≡ true) × (list_all is_held bs ≡ true) = and_parts _ _ h in
    let q : (nat_lt b 128 ≡ true) × ((not (nat_eq b 10) && not (nat_eq b 42)) ≡ true) = and_parts _ _ p.0 in
    and_from _ _ (byte_of b q.0) (held_bytes bs p.1)

pub path_title : (t : TreeData) (n : ℕ) (x : NodeData) → IsWellFormed t → slice_get t.nodes n ≡ Some x → is_title x.path ≡ true
path_title t n x w e = held_title x.path (path_held t w (suc n) n x (omega arith) e)

pub path_bytes : (t : TreeData) (n : ℕ) (x : NodeData) → IsWellFormed t → slice_get t.nodes n ≡ Some x → is_bytes x.path ≡ true
path_bytes t n x w e = held_bytes x.path (path_held t w (suc n) n x (omega arith) e)

pub name_bytes : (t : TreeData) (n : ℕ) (x : NodeData) → IsWellFormed t → slice_get t.nodes n ≡ Some x → is_bytes x.name ≡ true
name_bytes t n x w e = by_parent x.parent refl
  where
    by_parent : (o : Option ℕ) → x.parent ≡ o → is_bytes x.name ≡ true
    by_parent None f = subst (λ z. is_bytes z ≡ true) (sym (w.root_name n x e f)) refl
    by_parent (Some p) f = held_bytes x.name (name_held x.name (w.names n p x e f))
