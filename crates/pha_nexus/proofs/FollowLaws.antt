-- A specifier on its way, a row at a time.
use Rattle.std.proofs.Common.{◌≡◌, ◌∙◌, ℕ, zero, suc, List, Option, Some, None, Result, Ok, Err, sym, ap, subst, arith}
use Rattle.std.specs.Option.{option_map_or}
use Rattle.edt_base.specs.NodeData.{NodeData}
use Rattle.edt_base.specs.declared.fault.Rule.{Rule}
use Rattle.edt_base.specs.declared.fault.Rule.TheVariants as rule
use Rattle.edt_base.specs.declared.node.Part.{Part}
use Rattle.pha_nexus.specs.Chain.{followed_within, onward}
use Rattle.pha_nexus.specs.Passing.{Hop, passed_at}
use Rattle.pha_nexus.specs.Space.{map_at}

-- at a node without a map
pub ends_here : (left : ℕ) (nodes : List NodeData) (space : List ℕ) (at : ℕ) (spec : List ℕ) → map_at nodes space at ≡ None
    → followed_within left nodes space at spec ≡ Ok (record { node = at; spec = spec })
unfolding followed_within
ends_here zero nodes space at spec e =
    ap (λ (m : Option (List Part)). option_map_or (λ (map : List Part). Err rule.V29) m (Ok (record { node = at; spec = spec }))) e
ends_here (suc left) nodes space at spec e =
    ap (λ (m : Option (List Part)). option_map_or (λ (map : List Part). onward (passed_at nodes space at spec map) (λ (hop : Hop). followed_within left nodes space hop.node hop.spec)) m (Ok (record { node = at; spec = spec }))) e

-- at a map, with no row left to take
pub goes_too_far : (left : ℕ) (nodes : List NodeData) (space : List ℕ) (at : ℕ) (spec : List ℕ) (map : List Part) → left ≡ 0 → map_at nodes space at ≡ Some map
    → followed_within left nodes space at spec ≡ Err rule.V29
unfolding followed_within
goes_too_far zero nodes space at spec map none e =
    ap (λ (m : Option (List Part)). option_map_or (λ (map : List Part). Err rule.V29) m (Ok (record { node = at; spec = spec }))) e
goes_too_far (suc left) nodes space at spec map none e = absurd (omega arith)

-- at a map
at_map : (left : ℕ) (nodes : List NodeData) (space : List ℕ) (at : ℕ) (spec : List ℕ) (map : List Part) → map_at nodes space at ≡ Some map
    → followed_within (suc left) nodes space at spec ≡ onward (passed_at nodes space at spec map) (λ (hop : Hop). followed_within left nodes space hop.node hop.spec)
unfolding followed_within
at_map left nodes space at spec map e =
    ap (λ (m : Option (List Part)). option_map_or (λ (map : List Part). onward (passed_at nodes space at spec map) (λ (hop : Hop). followed_within left nodes space hop.node hop.spec)) m (Ok (record { node = at; spec = spec }))) e

pub goes_on : (left less : ℕ) (nodes : List NodeData) (space : List ℕ) (at : ℕ) (spec : List ℕ) (map : List Part) (hop : Hop) → left ≡ suc less → map_at nodes space at ≡ Some map
    → passed_at nodes space at spec map ≡ Ok hop → followed_within left nodes space at spec ≡ followed_within less nodes space hop.node hop.spec
goes_on left less nodes space at spec map hop some e h =
    ap (λ (n : ℕ). followed_within n nodes space at spec) some ∙ (at_map less nodes space at spec map e
    ∙ ap (λ (r : Result Hop Rule). onward r (λ (hop : Hop). followed_within less nodes space hop.node hop.spec)) h)

pub is_broken : (left less : ℕ) (nodes : List NodeData) (space : List ℕ) (at : ℕ) (spec : List ℕ) (map : List Part) (b : Rule) → left ≡ suc less → map_at nodes space at ≡ Some map
    → passed_at nodes space at spec map ≡ Err b → followed_within left nodes space at spec ≡ Err b
is_broken left less nodes space at spec map b some e h =
    ap (λ (n : ℕ). followed_within n nodes space at spec) some ∙ (at_map less nodes space at spec map e
    ∙ ap (λ (r : Result Hop Rule). onward r (λ (hop : Hop). followed_within less nodes space hop.node hop.spec)) h)

-- ---- as the loop goes

pub carried_on : (left less : ℕ) (nodes : List NodeData) (space : List ℕ) (at : ℕ) (spec seen : List ℕ) (map : List Part) (node : ℕ) (sent : List ℕ) (total : Result Hop Rule)
    → left ≡ suc less → Some map ≡ map_at nodes space at → seen ≡ spec → passed_at nodes space at seen map ≡ Ok (record { node = node; spec = sent })
    → followed_within left nodes space at spec ≡ total → followed_within less nodes space node sent ≡ total
carried_on left less nodes space at spec seen map node sent total some there same hop now =
    let hop2 : passed_at nodes space at spec map ≡ Ok (record { node = node; spec = sent }) =
    subst (λ (xs : List ℕ). passed_at nodes space at xs map ≡ Ok (record { node = node; spec = sent })) same hop in
    sym (goes_on left less nodes space at spec map (record { node = node; spec = sent }) some (sym there) hop2) ∙ now

pub broken_on : (left less : ℕ) (nodes : List NodeData) (space : List ℕ) (at : ℕ) (spec seen : List ℕ) (map : List Part) (b : Rule) (total : Result Hop Rule)
    → left ≡ suc less → Some map ≡ map_at nodes space at → seen ≡ spec → passed_at nodes space at seen map ≡ Err b
    → followed_within left nodes space at spec ≡ total → total ≡ Err b
broken_on left less nodes space at spec seen map b total some there same bad now =
    let bad2 : passed_at nodes space at spec map ≡ Err b = subst (λ (xs : List ℕ). passed_at nodes space at xs map ≡ Err b) same bad in
    sym now ∙ is_broken left less nodes space at spec map b some (sym there) bad2
