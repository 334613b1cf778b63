-- Properties by their names.
use Rattle.std.proofs.Common.{◌≡◌, ◌∙◌, ◌+◌, ◌<◌, ◌≤◌, ◌++◌, ◌⊎◌, ◌∷◌, [], ℕ, zero, suc, Bool, true, false, cond, List, Option, Some, None, length, map, get_or, take, refl, sym, ap, subst, inl, inr, arith}
use Rattle.std.specs.Option.{option_map}
use Rattle.std.specs.List.{IsDistinct}
use Rattle.std.specs.Str.{bytes_eq}
use Rattle.std.proofs.lemmas.Bool.{false≢true, true≢false}
use Rattle.std.proofs.lemmas.Option.{none-some}
use Rattle.std.proofs.lemmas.Slice.Eq.{bytes_eq-Decides}
use Rattle.std.proofs.lemmas.Map.Keys.{apart_from_distinct, IsDistinct-tail}
use Rattle.std.proofs.lemmas.List.{get_or-map, length-map}
use Rattle.indexmap.specs.IndexMap.{insert_entry}
use Rattle.edt_base.specs.NodeData.{prop_of}
use Rattle.edt_base.specs.declared.node.Part.{Part}
use Rattle.dts_tree.specs.Drafts.{DraftPartData, DraftData}
use Rattle.dts_tree.specs.Final.{draft_prop, part_of, prop_value}
use Rattle.dts_tree.proofs.Lists.{true_or_false}

pub bytes_same : (a b : List ℕ) → bytes_eq a b ≡ true → a ≡ b
bytes_same a b e = (bytes_eq-Decides a b).0 e

pub bytes_self : (a b : List ℕ) → a ≡ b → bytes_eq a b ≡ true
bytes_self a b e = (bytes_eq-Decides a b).1 e

pub bytes_turned : (a b : List ℕ) → bytes_eq a b ≡ false → bytes_eq b a ≡ false
bytes_turned a b e = elim (true_or_false (bytes_eq b a)) [
  | inl t ↦ absurd (true≢false (sym (bytes_self a b (sym (bytes_same b a t))) ∙ e))
  | inr f ↦ f
]

absent_by : (b : Bool) (name : List ℕ) (p : List ℕ × List Part) (ps : List (List ℕ × List Part)) → bytes_eq p.0 name ≡ b
    → cond b (Some p.1) (prop_of name ps) ≡ None → (bytes_eq p.0 name ≡ false) × (prop_of name ps ≡ None)
absent_by true name p ps e h = absurd (none-some p.1 (sym h))
absent_by false name p ps e h = (e, h)

-- a property whose name none has goes last
pub insert_new : (es : List (List ℕ × List Part)) (name : List ℕ) (v : List Part) → prop_of name es ≡ None → insert_entry bytes_eq es name v ≡ es ++ (name, v) ∷ []
insert_new [] name v h = refl
insert_new (p ∷ ps) name v h =
    let r = absent_by (bytes_eq p.0 name) name p ps refl h in
    ap (λ b. cond b ((p.0, v) ∷ ps) (p ∷ insert_entry bytes_eq ps name v)) (bytes_turned p.0 name r.0) ∙ ap (λ t. p ∷ t) (insert_new ps name v r.1)

values_by : (b : Bool) (ds : List DraftData) (ns : List (Option ℕ)) (v : List DraftPartData) (o : Option (List Part)) (r : Option (List DraftPartData))
    → o ≡ option_map (map (part_of ds ns)) r → cond b (Some (map (part_of ds ns) v)) o ≡ option_map (map (part_of ds ns)) (cond b (Some v) r)
values_by true ds ns v o r h = refl
values_by false ds ns v o r h = h

-- the value in bytes of a written property
pub prop_of_values : (ds : List DraftData) (ns : List (Option ℕ)) (name : List ℕ) (ps : List (List ℕ × List DraftPartData))
    → prop_of name (map (prop_value ds ns) ps) ≡ option_map (map (part_of ds ns)) (draft_prop name ps)
prop_of_values ds ns name [] = refl
prop_of_values ds ns name (p ∷ ps) =
    values_by (bytes_eq p.0 name) ds ns p.1 (prop_of name (map (prop_value ds ns) ps)) (draft_prop name ps) (prop_of_values ds ns name ps)

abbrev names_of : List (List ℕ × List DraftPartData) → List (List ℕ)
names_of ps = map (λ (p : List ℕ × List DraftPartData). p.0) ps

-- no property before one has its name
pub none_before : (ds : List DraftData) (ns : List (Option ℕ)) (ps : List (List ℕ × List DraftPartData)) (i : ℕ) (d : List ℕ × List DraftPartData)
    → IsDistinct bytes_eq (map (λ (p : List ℕ × List DraftPartData). p.0) ps) → i < length ps
    → prop_of (get_or ps i d).0 (map (prop_value ds ns) (take i ps)) ≡ None
none_before ds ns [] i d h l = absurd (omega arith)
none_before ds ns (p ∷ ps) zero d h l = refl
none_before ds ns (p ∷ ps) (suc i) d h l =
    let k : i < length ps = omega arith in
    let long : suc i < length (names_of (p ∷ ps)) = subst (λ n. suc i < n) (sym (length-map (p ∷ ps) (λ (q : List ℕ × List DraftPartData). q.0))) l in
    let far : get_or (names_of (p ∷ ps)) (suc i) [] ≡ (get_or ps i d).0 = get_or-map (λ (q : List ℕ × List DraftPartData). q.0) ps i d [] k in
    let a : bytes_eq p.0 (get_or (names_of (p ∷ ps)) (suc i) []) ≡ false = apart_from_distinct bytes_eq (names_of (p ∷ ps)) 0 (suc i) [] h (omega arith) long in
    let b : bytes_eq p.0 (get_or ps i d).0 ≡ false = subst (λ n. bytes_eq p.0 n ≡ false) far a in
    ap (λ t. cond t (Some (map (part_of ds ns) p.1)) (prop_of (get_or ps i d).0 (map (prop_value ds ns) (take i ps)))) b
    ∙ none_before ds ns ps i d (IsDistinct-tail bytes_eq p.0 (names_of ps) h) k
