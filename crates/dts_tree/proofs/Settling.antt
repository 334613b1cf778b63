-- The answer of the second half, from its parts.
use Rattle.std.proofs.Common.{◌≡◌, ◌∙◌, ◌+◌, ◌<◌, ◌≤◌, ◌^◌, ◌∷◌, [], ℕ, Bool, true, false, List, Option, Some, None, Result, Ok, Err, length, map, get_or, drop, zero, suc, cond, refl, sym, ap, subst, arith, All}
use Rattle.std.specs.Prelude.{codes, find, is_none, IfOk, IfSome, slice_get}
use Rattle.std.specs.List.{filter_map, list_any, range_with_len, enumerate_from}
use Rattle.std.proofs.lemmas.List.{length-map}
use Rattle.std.proofs.lemmas.List.FromFn.{length-enumerate_from}
use Rattle.std.proofs.lemmas.Option.{slice_get-get_or}
use Rattle.edt_base.specs.NodeData.{NodeData}
use Rattle.edt_base.specs.TreeData.{TreeData, IsWellFormed}
use Rattle.edt_base.specs.declared.fault.End.{End}
use Rattle.edt_base.specs.declared.fault.End.TheVariants as ending
use Rattle.edt_base.specs.declared.fault.Fault.{Fault}
use Rattle.edt_base.specs.declared.fault.Rule.TheVariants as rule
use Rattle.edt_base.specs.declared.node.Part.{Part}
use Rattle.dts_tree.specs.Drafts.{DraftData}
use Rattle.dts_tree.specs.Final.{phandles, props_of, props_with, all_props, props_at, below_from, node_at, naming_prop, naming_with, named_with, props_found, nodes_of, tree_of}
use Rattle.dts_tree.specs.Rules.{dangles, first_bad_phandle, first_mistyped, has_bad_alias, is_mistyped}
use Rattle.dts_tree.specs.Inner.Naming.{Finder, finder, AreFound}
use Rattle.dts_tree.specs.Outcome.{at_path, mistyped_or, aliased_or, numbered_or, referred_or, settled}
use Rattle.dts_tree.specs.References.{Answers, IsFault}
use Rattle.dts_tree.specs.Inner.DraftRules.{AreDrafts}
use Rattle.dts_tree.specs.Inner.Nodes.{AreNumbered, HasLowParent, nodes_from}
use Rattle.dts_tree.proofs.KidLaws.{nodes_beside}
use Rattle.dts_tree.proofs.Forming.{formed}

-- a call that ends by a fault that is wanted
pub fault_answers : {X : Type 0} (wanted : Result X Fault) (f : Fault) (e : End) → wanted ≡ Err f → IsFault f e → Answers wanted (Err e)
fault_answers wanted f (ending.Fault g) h k = h ∙ ap Err k
fault_answers wanted f (ending.Memory m) h k = tt

pub dangling_answers : (ds : List DraftData) (d : DraftData) (e : End) → Some d ≡ find dangles ds → IsFault (at_path rule.V1 d.path) e → Answers (settled ds) (Err e)
dangling_answers ds d e h k = fault_answers (settled ds) (at_path rule.V1 d.path) e (ap (referred_or ds) (sym h)) k

pub referred_is : (ds : List DraftData) → None ≡ find dangles ds → numbered_or ds (first_bad_phandle [] ds) ≡ settled ds
referred_is ds h = ap (referred_or ds) h

pub bad_answers : (ds : List DraftData) (d : DraftData) (e : End) → None ≡ find dangles ds → Some d ≡ first_bad_phandle [] ds → IsFault (at_path rule.V2 d.path) e
    → Answers (settled ds) (Err e)
bad_answers ds d e none h k =
    fault_answers (settled ds) (at_path rule.V2 d.path) e (sym (referred_is ds none) ∙ ap (numbered_or ds) (sym h)) k

pub numbered_answers : (ds : List DraftData) (r : Result TreeData End) → None ≡ find dangles ds → None ≡ first_bad_phandle [] ds → Answers (numbered_or ds None) r
    → Answers (settled ds) r
numbered_answers ds r none good h =
    subst (λ w. Answers w r) (ap (numbered_or ds) good ∙ referred_is ds none) h

pub nameless_answers : (ds : List DraftData) (e : End) → true ≡ has_bad_alias ds (all_props ds) → IsFault (at_path rule.V3 (codes "/aliases")) e
    → Answers (numbered_or ds None) (Err e)
nameless_answers ds e h k = fault_answers (numbered_or ds None) (at_path rule.V3 (codes "/aliases")) e (ap (aliased_or ds) (sym h)) k

pub mistyped_answers : (ds : List DraftData) (d : DraftData) (e : End) → false ≡ has_bad_alias ds (all_props ds) → Some d ≡ first_mistyped ds (all_props ds)
    → IsFault (at_path rule.V11 d.path) e → Answers (numbered_or ds None) (Err e)
mistyped_answers ds d e named h k =
    fault_answers (numbered_or ds None) (at_path rule.V11 d.path) e (ap (aliased_or ds) (sym named) ∙ ap (mistyped_or ds) (sym h)) k

pub tree_answers : (ds : List DraftData) → false ≡ has_bad_alias ds (all_props ds) → None ≡ first_mistyped ds (all_props ds) → numbered_or ds None ≡ Ok (tree_of ds)
tree_answers ds named h = ap (aliased_or ds) (sym named) ∙ ap (mistyped_or ds) (sym h)

pub props_long : (ds : List DraftData) → length (all_props ds) ≡ length ds
unfolding all_props
props_long ds =
    length-map (enumerate_from 0 ds) (λ (e : ℕ × DraftData). props_of ds (phandles ds) e.1 (get_or (phandles ds) e.0 None)) ∙ length-enumerate_from 0 ds

-- the tree from its parts
pub tree_made : (ds : List DraftData) (props : List (List (List ℕ × List Part))) (kids : List (List ℕ)) (nodes : List NodeData) (aliases chosen : List (List ℕ × ℕ))
    → props ≡ all_props ds → kids ≡ map (below_from 0 ds) (range_with_len 0 (length ds)) → nodes ≡ nodes_from ds props kids
    → aliases ≡ filter_map (naming_prop ds) (props_at ds (all_props ds) (codes "/aliases")) → chosen ≡ filter_map (naming_prop ds) (props_at ds (all_props ds) (codes "/chosen"))
    → record { nodes = nodes; aliases = aliases; chosen = chosen } ≡ tree_of ds
unfolding tree_of
tree_made ds props kids nodes aliases chosen p k n a c =
    let whole : nodes ≡ nodes_of ds (all_props ds) =
    n ∙ (ap (λ q. nodes_from ds q kids) p ∙ (ap (nodes_from ds (all_props ds)) k ∙ nodes_beside ds (all_props ds) (props_long ds))) in
    let f : TreeData = record { nodes = nodes; aliases = aliases; chosen = chosen } in
    ap (λ x. let t : TreeData = record { nodes = x; aliases = aliases; chosen = chosen } in t) whole
    ∙ (ap (λ x. let t : TreeData = record { nodes = nodes_of ds (all_props ds); aliases = x; chosen = chosen } in t) a
    ∙ ap (λ x. let t : TreeData = record { nodes = nodes_of ds (all_props ds); aliases = filter_map (naming_prop ds) (props_at ds (all_props ds) (codes "/aliases")); chosen = x } in t) c)

pub tree_formed : (ds : List DraftData) (t : TreeData) → AreNumbered ds → t ≡ tree_of ds → IsWellFormed t
tree_formed ds t a e = subst IsWellFormed (sym e) (formed ds a.drafts a.referred a.numbered)

low_by : (ds : List DraftData) → AreDrafts ds → (i : ℕ) (d : DraftData) (o : Option ℕ) → i < length ds → slice_get ds i ≡ Some d → d.parent ≡ o
    → IfSome o (λ p. p < 2 ^ 32)
low_by ds a i d None l h e = tt
low_by ds a i d (Some p) l h e =
    let low : p < i = a.parents i p d h e in
    let few : length ds ≤ 65535 = a.few in
    omega arith

pub low_parents : (ds : List DraftData) → AreDrafts ds → All HasLowParent ds
low_parents ds a = λ k d l. low_by ds a k (get_or ds k d) (get_or ds k d).parent l (slice_get-get_or ds k d l) refl

-- ---- look-ups by a map of paths are those by the drafts

same_finder : (ds : List DraftData) (m : Finder) → AreFound ds m → finder m ≡ node_at ds
same_finder ds m h = λ i path. h path i

pub named_found : (ds : List DraftData) (m : Finder) (props : List (List (List ℕ × List Part))) (path : List ℕ) (xs : List (List ℕ × ℕ)) → AreFound ds m
    → xs ≡ filter_map (naming_with (finder m)) (props_found (finder m) props path) → xs ≡ filter_map (naming_prop ds) (props_at ds props path)
named_found ds m props path xs h e =
    let F : (List ℕ → Option ℕ) → List (List ℕ × ℕ) = λ f. filter_map (naming_with f) (props_found f props path) in
    e ∙ ap F (same_finder ds m h)

pub nameless_found : (ds : List DraftData) (m : Finder) (props : List (List (List ℕ × List Part))) (b : Bool) → AreFound ds m
    → b ≡ list_any (λ (p : List ℕ × List Part). is_none (named_with (finder m) p.1)) (props_found (finder m) props (codes "/aliases")) → b ≡ has_bad_alias ds props
nameless_found ds m props b h e =
    let F : (List ℕ → Option ℕ) → Bool = λ f. list_any (λ (p : List ℕ × List Part). is_none (named_with f p.1)) (props_found f props (codes "/aliases")) in
    e ∙ ap F (same_finder ds m h)

-- ---- a node that isn't mistyped is passed

pub mistyped_next : (ds : List DraftData) (ps : List (List (List ℕ × List Part))) (i : ℕ) (p : List (List ℕ × List Part)) → length ps ≡ length ds → i < length ps
    → p ≡ get_or ps i p → is_mistyped p ≡ false → first_mistyped (drop i ds) (drop i ps) ≡ first_mistyped (drop (suc i) ds) (drop (suc i) ps)
mistyped_next [] [] i p long l at h = absurd (omega arith)
mistyped_next [] (q ∷ ps) i p long l at h = absurd (omega arith)
mistyped_next (d ∷ ds) [] i p long l at h = absurd (omega arith)
mistyped_next (d ∷ ds) (q ∷ ps) zero p long l at h = ap (λ b. cond b (Some d) (first_mistyped ds ps)) (ap is_mistyped (sym at) ∙ h)
mistyped_next (d ∷ ds) (q ∷ ps) (suc i) p long l at h = mistyped_next ds ps i p (omega arith) (omega arith) at h

pub same_ok : {E : Type 0} (r : Result TreeData E) (t u : TreeData) → IfOk r (λ x. x ≡ t) → t ≡ u → IfOk r (λ x. x ≡ u)
same_ok (Ok x) t u h e = h ∙ e
same_ok (Err x) t u h e = tt
