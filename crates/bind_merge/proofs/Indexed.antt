-- The files of bindings by compatible string and bus.
use Rattle.std.proofs.Common.{◌≡◌, ◌∙◌, sym, ap, refl, ℕ, Bool, true, false, ◌&&◌, if◌then◌else◌, cond, List, [], Option, Some, None}
use Rattle.std.specs.BTreeMap.{BTreeMap}
use Rattle.std.specs.Cmp.Lexicographic.{slice_cmp}
use Rattle.std.specs.Map.{lookup}
use Rattle.std.specs.Option.{option_and_then}
use Rattle.std.specs.Ordering.{is_eq, nat_cmp}
use Rattle.std.specs.Str.{bytes_eq}
use Rattle.std.proofs.lemmas.Slice.Eq.{bytes_eq-Decides}
use Rattle.bind_merge.specs.Matching.{is_same}
use Rattle.bind_merge.specs.declared.index.Group.{Group}
use Rattle.bind_merge.specs.Inner.Indexing.{HasPair, IndexData, in_group, in_index}
use Rattle.bind_merge.proofs.NamedFiles.{tree-sets}

-- the other entries of an ordered table, where one is taken out
pub tree_others : {X : Type 0} (old new : List (List ℕ × X)) (name : List ℕ)
    → ((q : List ℕ) → lookup (λ k. is_eq (slice_cmp nat_cmp q k)) new ≡ cond (is_eq (slice_cmp nat_cmp name q)) None (lookup (λ k. is_eq (slice_cmp nat_cmp q k)) old))
    → (q : List ℕ) → bytes_eq name q ≡ false → lookup (bytes_eq q) new ≡ lookup (bytes_eq q) old
tree_others old new name h q e = tree-sets old new name None h q ∙ ap (λ b. cond b None (lookup (bytes_eq q) old)) e

pub group_on : (alone : Option ℕ) (old new : BTreeMap (List ℕ) ℕ) (for : Option (List ℕ)) (bus : List ℕ) (file : ℕ) → for ≡ Some bus
    → ((q : List ℕ) → lookup (bytes_eq q) new.entries ≡ (if bytes_eq bus q then Some file else lookup (bytes_eq q) old.entries))
    → (r : Option (List ℕ)) → in_group (record { alone = alone; on_buses = new }) r
    ≡ (if is_same for r then Some file else in_group (record { alone = alone; on_buses = old }) r)
group_on alone old new for bus file e h r = at r ∙ ap (λ x. if is_same x r then Some file else in_group (record { alone = alone; on_buses = old }) r) (sym e)
  where
    at : (q : Option (List ℕ)) → in_group (record { alone = alone; on_buses = new }) q
        ≡ (if is_same (Some bus) q then Some file else in_group (record { alone = alone; on_buses = old }) q)
    at None = refl
    at (Some q) = h q

pub group_alone : (alone : Option ℕ) (on_buses : BTreeMap (List ℕ) ℕ) (for : Option (List ℕ)) (file : ℕ) → for ≡ None
    → (r : Option (List ℕ)) → in_group (record { alone = Some file; on_buses = on_buses }) r
    ≡ (if is_same for r then Some file else in_group (record { alone = alone; on_buses = on_buses }) r)
group_alone alone on_buses for file e r = at r ∙ ap (λ x. if is_same x r then Some file else in_group (record { alone = alone; on_buses = on_buses }) r) (sym e)
  where
    at : (q : Option (List ℕ)) → in_group (record { alone = Some file; on_buses = on_buses }) q
        ≡ (if is_same None q then Some file else in_group (record { alone = alone; on_buses = on_buses }) q)
    at None = refl
    at (Some q) = refl

pub no_group : (on_buses : BTreeMap (List ℕ) ℕ) → on_buses.entries ≡ [] → (r : Option (List ℕ))
    → in_group (record { alone = None; on_buses = on_buses }) r ≡ None
no_group on_buses e None = refl
no_group on_buses e (Some q) = ap (lookup (bytes_eq q)) e

pub found_group : (index : IndexData) (compat : List ℕ) (g : Group) → Some g ≡ lookup (bytes_eq compat) index
    → (r : Option (List ℕ)) → in_group g r ≡ in_index index compat r
found_group index compat g e r = ap (option_and_then (λ (x : Group). in_group x r)) e

pub lost_group : (index : IndexData) (compat : List ℕ) → None ≡ lookup (bytes_eq compat) index
    → (r : Option (List ℕ)) → None ≡ in_index index compat r
lost_group index compat e r = ap (option_and_then (λ (x : Group). in_group x r)) e

pub pair_added : (old mid final : IndexData) (compat : List ℕ) (bus : Option (List ℕ)) (file : ℕ) (before after : Group)
    → ((q : List ℕ) → lookup (bytes_eq q) final ≡ (if bytes_eq compat q then Some after else lookup (bytes_eq q) mid))
    → ((r : Option (List ℕ)) → in_group after r ≡ (if is_same bus r then Some file else in_group before r))
    → ((r : Option (List ℕ)) → in_group before r ≡ in_index old compat r)
    → ((q : List ℕ) → bytes_eq compat q ≡ false → lookup (bytes_eq q) mid ≡ lookup (bytes_eq q) old)
    → HasPair old compat bus file final
pair_added old mid final compat bus file before after put set was others q r = at (bytes_eq compat q) refl
  where
    at : (b : Bool) → bytes_eq compat q ≡ b → in_index final q r ≡ (if b && is_same bus r then Some file else in_index old q r)
    at true e =
        let same : compat ≡ q = (bytes_eq-Decides compat q).0 e in
        ap (option_and_then (λ (g : Group). in_group g r)) (put q ∙ ap (λ x. if x then Some after else lookup (bytes_eq q) mid) e)
        ∙ (set r ∙ ap (λ o. if is_same bus r then Some file else o) (was r ∙ ap (λ c. in_index old c r) same))
    at false e =
        ap (option_and_then (λ (g : Group). in_group g r)) (put q ∙ (ap (λ x. if x then Some after else lookup (bytes_eq q) mid) e ∙ others q e))
