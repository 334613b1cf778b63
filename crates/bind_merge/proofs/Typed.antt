-- A binding that breaks no rule has a type for each property.
use Rattle.std.proofs.Common.{◌≡◌, ◌&&◌, refl, subst, ℕ, Bool, true, false, List, [], ◌∷◌, Option, Some, None, is_some, if◌then◌else◌}
use Rattle.std.specs.List.{list_all}
use Rattle.std.specs.Option.{option_map_or}
use Rattle.std.specs.Str.{bytes_eq}
use Rattle.edt_base.specs.declared.bound.PropType.{PropType}
use Rattle.edt_base.specs.declared.fault.Rule.{Rule}
use Rattle.edt_base.specs.declared.fault.Rule.TheVariants as rule
use Rattle.bind_merge.specs.Levels.{EntryData, LevelTable}
use Rattle.bind_merge.specs.Options.{or_else, first_some}
use Rattle.bind_merge.specs.Checks.{typed_rule, prop_rule, level_rule, is_described, merged_rule}
use Rattle.bind_merge.specs.Looking.{entry_named}
use Rattle.bind_merge.specs.ViewData.{are_typed, AreTyped, prop_in}

or-none : {A : Type 0} (x y : Option A) → or_else x y ≡ None → (x ≡ None) × (y ≡ None)
or-none None y e = (refl, e)
or-none (Some x) y e = absurd cc

both : (a b : Bool) → a ≡ true → b ≡ true → (a && b) ≡ true
both true b e f = f
both false b e f = absurd cc

typed-as : (e : EntryData) (o : Option PropType) → option_map_or (typed_rule e) o (Some rule.B5) ≡ None → is_some o ≡ true
typed-as e None h = absurd cc
typed-as e (Some t) h = refl

props-typed : (es : List EntryData) → first_some prop_rule es ≡ None → are_typed es ≡ true
props-typed [] h = refl
props-typed (e ∷ es) h =
    let p : (prop_rule e ≡ None) × (first_some prop_rule es ≡ None) = or-none (prop_rule e) (first_some prop_rule es) h in
    both (is_some e.ty) (are_typed es) (typed-as e e.ty p.0) (props-typed es p.1)

levels-typed : (ls : List LevelTable) → first_some level_rule ls ≡ None → AreTyped ls
levels-typed [] h = refl
levels-typed (l ∷ ls) h =
    let p : (level_rule l ≡ None) × (first_some level_rule ls ≡ None) = or-none (level_rule l) (first_some level_rule ls) h in
    both (are_typed l.props) (list_all (λ (m : LevelTable). are_typed m.props) ls) (props-typed l.props p.0) (levels-typed ls p.1)

rules-none : (b : Bool) (o : Option Rule) → (if b then o else Some rule.B3) ≡ None → o ≡ None
rules-none true o e = e
rules-none false o e = absurd cc

pub rules_typed : (ls : List LevelTable) → merged_rule ls ≡ None → AreTyped ls
rules_typed ls e = levels-typed ls (rules-none (is_described ls) (first_some level_rule ls) e)

-- a property that a view finds has a type
found-typed : (e : EntryData) (es : List EntryData) (p : List ℕ) (z : EntryData) → (are_typed es ≡ true → entry_named p es ≡ Some z → is_some z.ty ≡ true)
    → is_some e.ty ≡ true → are_typed es ≡ true → (b : Bool) → (if b then Some e else entry_named p es) ≡ Some z → is_some z.ty ≡ true
found-typed e es p z below h t true is = let same : e ≡ z = cc in subst (λ y. is_some y.ty ≡ true) same h
found-typed e es p z below h t false is = below t is

parts : (a b : Bool) → (a && b) ≡ true → (a ≡ true) × (b ≡ true)
parts true b e = (refl, e)
parts false b e = absurd cc

typed-found : (es : List EntryData) (p : List ℕ) (z : EntryData) → are_typed es ≡ true → entry_named p es ≡ Some z → is_some z.ty ≡ true
typed-found [] p z t is = absurd cc
typed-found (e ∷ es) p z t is =
    let h : (is_some e.ty ≡ true) × (are_typed es ≡ true) = parts (is_some e.ty) (are_typed es) t in
    found-typed e es p z (λ u j. typed-found es p z u j) h.0 h.1 (bytes_eq e.name p) is

some-none : {A : Type 0} (o : Option A) → is_some o ≡ true → o ≡ None → ⊥
some-none None t e = let x : false ≡ true = t in cc
some-none (Some x) t e = cc

pub never_untyped : (levels : List LevelTable) (p : List ℕ) (z : EntryData) → AreTyped levels → prop_in p levels ≡ Some z → z.ty ≡ None → ⊥
never_untyped [] p z t is e = absurd cc
never_untyped (l ∷ ls) p z t is e =
    let h : (are_typed l.props ≡ true) × (list_all (λ (m : LevelTable). are_typed m.props) ls ≡ true) = parts (are_typed l.props) (list_all (λ (m : LevelTable). are_typed m.props) ls) t in
    some-none z.ty (typed-found l.props p z h.0 is) e
