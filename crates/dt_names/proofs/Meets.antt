-- The keys of a set, and a key that is looked up there.
use Rattle.std.proofs.Common.{◌≡◌, ◌<◌, ℕ, Bool, length, get_or, true, false, not, List, [], ◌∷◌, ◌++◌, ◌&&◌, Some, nat_eq, refl, sym, ap, ◌∙◌, arith}
use Rattle.std.specs.Prelude.{slice_get}
use Rattle.std.specs.List.{list_any}
use Rattle.std.proofs.lemmas.Bool.{and_parts, not-true}
use Rattle.std.proofs.lemmas.Option.{slice_get_within, slice_get-get_or}
use Rattle.indexmap.specs.IndexSet.{insert_key}
use Rattle.dt_names.specs.Clash.{SaidData}
use Rattle.dt_names.specs.Inner.Firsts.{IsNew}
use Rattle.dt_names.specs.declared.key.Key.{Key}
use Rattle.dt_names.proofs.Scan.{any_some, get_within, key_same}

-- keys are compared number by number
abbrev pub key_eq : Key → Key → Bool
key_eq k m = nat_eq k.base m.base && (nat_eq k.prop m.prop && (nat_eq k.entry m.entry && nat_eq k.last m.last))

nat_told : (a b : ℕ) → nat_eq a b ≡ true → a ≡ b
nat_told a b h = grind (arith, h)

nat_itself : (a : ℕ) → nat_eq a a ≡ true
nat_itself a = grind arith

key_refl : (k : Key) → key_eq k k ≡ true
key_refl k = rw (nat_itself k.base, nat_itself k.prop, nat_itself k.entry, nat_itself k.last) refl

key_told : (k m : Key) → key_eq k m ≡ true → k ≡ m
key_told k m h =
    let p : (nat_eq k.base m.base ≡ true) × ((nat_eq k.prop m.prop && (nat_eq k.entry m.entry && nat_eq k.last m.last)) ≡ true) = and_parts _ _ h in
    let q : (nat_eq k.prop m.prop ≡ true) × ((nat_eq k.entry m.entry && nat_eq k.last m.last) ≡ true) = and_parts _ _ p.1 in
    let r : (nat_eq k.entry m.entry ≡ true) × (nat_eq k.last m.last ≡ true) = and_parts _ _ q.1 in
    key_same k m (nat_told k.base m.base p.0) (nat_told k.prop m.prop q.0) (nat_told k.entry m.entry r.0) (nat_told k.last m.last r.1)

pub key_new : (keys : List Key) (k : Key) (added : Bool) → added ≡ not (list_any (key_eq k) keys) → added ≡ true → IsNew keys k
key_new keys k added a t i h =
    let none : list_any (key_eq k) keys ≡ false = not-true _ (sym a ∙ t) in
    let some : list_any (key_eq k) keys ≡ true = any_some (key_eq k) keys k (get_within keys i k h) (key_refl k) in
    let no : false ≡ true = sym none ∙ some in absurd (cc)

pub key_put : (keys new : List Key) (k : Key) (added : Bool) → added ≡ not (list_any (key_eq k) keys) → added ≡ true → new ≡ insert_key key_eq keys k → new ≡ keys ++ k ∷ []
key_put keys new k added a t e = let none : list_any (key_eq k) keys ≡ false = not-true _ (sym a ∙ t) in e ∙ (rw none refl)

not-false : (b : Bool) → not b ≡ false → b ≡ true
not-false true h = refl
not-false false h = absurd (cc)

pub key_kept : (keys new : List Key) (k : Key) (added : Bool) → added ≡ not (list_any (key_eq k) keys) → added ≡ false → new ≡ insert_key key_eq keys k → new ≡ keys
key_kept keys new k added a t e = let some : list_any (key_eq k) keys ≡ true = not-false _ (sym a ∙ t) in e ∙ (rw some refl)

pub key_found : (keys new : List Key) (k found : Key) (place : ℕ) → new ≡ keys → slice_get new place ≡ Some found → key_eq k found ≡ true → slice_get keys place ≡ Some k
key_found keys new k found place e at same =
    let is : k ≡ found = key_told k found same in
    ap (λ (x : List Key). slice_get x place) (sym e) ∙ at ∙ ap Some (sym is)

pub held_found : (keys : List Key) (held : List SaidData) (k : Key) (place : ℕ) (first : SaidData) → length held ≡ length keys → slice_get keys place ≡ Some k
    → first ≡ get_or held place first → slice_get held place ≡ Some first
held_found keys held k place first e at is =
    let lt : place < length keys = slice_get_within keys place k at in
    let within : place < length held = omega (arith, lt, e) in
    slice_get-get_or held place first within ∙ ap Some (sym is)
