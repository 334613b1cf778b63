-- What the slots keep, and where each stands.
use Rattle.std.proofs.Common.{◌≡◌, ◌∙◌, ◌<◌, ◌∷◌, [], ℕ, zero, suc, Bool, true, false, cond, List, Option, Some, None, length, get_or, refl, sym, ap, subst, inl, inr, arith}
use Rattle.std.proofs.lemmas.Bool.{true≢false, cases_lt, cases_eq}
use Rattle.std.proofs.lemmas.List.{get_or_past}
use Rattle.std.proofs.lemmas.Option.{same_Some, slice_get-get_or, none-some}
use Rattle.dts_tree.specs.declared.spot.Step.{Step}
use Rattle.dts_tree.specs.declared.spot.Step.TheVariants.{Child}
use Rattle.dts_tree.specs.declared.spot.Spot.{Spot}
use Rattle.dts_tree.specs.Places.{Place}
use Rattle.dts_tree.specs.Inner.Arena.{ArenaData, is_gone, there, lead_of, no_leads, child_of, spot}
use Rattle.dts_tree.proofs.Lists.{Member}

abbrev pub spot_at : List Spot → ℕ → Spot
spot_at spots i = get_or spots i (spot (Child []) 0)

abbrev pub step_at : List Spot → ℕ → Step
step_at spots i = (spot_at spots i).step

abbrev pub parent_at : List Spot → ℕ → ℕ
parent_at spots i = (spot_at spots i).parent

abbrev pub place_at : List Place → ℕ → Place
place_at places i = get_or places i []

abbrev pub below_at : ArenaData → ℕ → List ℕ
below_at a i = get_or a.below i []

abbrev pub lead_at : ArenaData → ℕ → Step → Option ℕ
lead_at a i s = lead_of (get_or a.leads i no_leads) s

-- each slot but the root's stands in one before it, and its place is a step from that one's
pub record IsShaped (spots : List Spot) (places : List Place) : Type 0 where
  pub some : 0 < length spots
  pub sized : length places ≡ length spots
  pub root : place_at places 0 ≡ []
  pub parents : (i : ℕ) → 0 < i → i < length spots → parent_at spots i < i
  pub steps : (i : ℕ) → 0 < i → i < length spots → place_at places i ≡ step_at spots i ∷ place_at places (parent_at spots i)

-- what wasn't taken away stands in what wasn't, which lists it and leads to it
pub record IsSound (a : ArenaData) : Type 0 where
  pub gone : length a.gone ≡ length a.spots
  pub below : length a.below ≡ length a.spots
  pub leads : length a.leads ≡ length a.spots
  pub root : is_gone a.gone 0 ≡ false
  pub parents : (i : ℕ) → 0 < i → is_gone a.gone i ≡ false → is_gone a.gone (parent_at a.spots i) ≡ false
  pub listed : (i : ℕ) → 0 < i → is_gone a.gone i ≡ false → Member i (below_at a (parent_at a.spots i))
  pub lists : (i c : ℕ) → Member c (below_at a i) → (0 < c) × (c < length a.spots) × (parent_at a.spots c ≡ i)
  pub led : (i : ℕ) → 0 < i → is_gone a.gone i ≡ false → lead_at a (parent_at a.spots i) (step_at a.spots i) ≡ Some i
  pub leads_right : (i j : ℕ) (s : Step) → lead_at a i s ≡ Some j → (0 < j) × (j < length a.spots) × (parent_at a.spots j ≡ i) × (step_at a.spots j ≡ s)

-- what isn't gone is there
pub there_within : (gone : List Bool) (i : ℕ) → is_gone gone i ≡ false → i < length gone
there_within gone i h = elim (cases_lt i (length gone)) [ inl l ↦ l | inr l ↦ absurd (true≢false (sym (get_or_past gone i true l) ∙ h)) ]

-- two slots that are there don't share a place
pub apart_below : (n : ℕ) (a : ArenaData) (places : List Place) → IsShaped a.spots places → IsSound a → (i j : ℕ) → i < n
    → is_gone a.gone i ≡ false → is_gone a.gone j ≡ false → place_at places i ≡ place_at places j → i ≡ j
apart_below zero a places shape sound i j l g h e = absurd (omega arith)
apart_below (suc n) a places shape sound i j l g h e =
    let wi : i < length a.spots = subst (λ m. i < m) sound.gone (there_within a.gone i g) in
    let wj : j < length a.spots = subst (λ m. j < m) sound.gone (there_within a.gone j h) in
    elim (cases_eq i 0) [
      | inl iz ↦ elim (cases_eq j 0) [
        | inl jz ↦ iz ∙ sym jz
        | inr jn ↦ let pj : 0 < j = omega arith in
            let s = shape.steps j pj wj in
            let r : place_at places i ≡ [] = ap (place_at places) iz ∙ shape.root in
            let bad : [] ≡ step_at a.spots j ∷ place_at places (parent_at a.spots j) = sym r ∙ (e ∙ s) in
            absurd (cc)
      ]
      | inr im ↦ let pi : 0 < i = omega arith in
          let si = shape.steps i pi wi in
          elim (cases_eq j 0) [
            | inl jz ↦
                let r : place_at places j ≡ [] = ap (place_at places) jz ∙ shape.root in
                let bad : [] ≡ step_at a.spots i ∷ place_at places (parent_at a.spots i) = sym r ∙ (sym e ∙ si) in
                absurd (cc)
            | inr jn ↦ let pj : 0 < j = omega arith in
                let sj = shape.steps j pj wj in
                let both : step_at a.spots i ∷ place_at places (parent_at a.spots i) ≡ step_at a.spots j ∷ place_at places (parent_at a.spots j) = sym si ∙ (e ∙ sj) in
                let steps : step_at a.spots i ≡ step_at a.spots j = cc in
                let ups : place_at places (parent_at a.spots i) ≡ place_at places (parent_at a.spots j) = cc in
                let up : parent_at a.spots i < i = shape.parents i pi wi in
                let same : parent_at a.spots i ≡ parent_at a.spots j =
                apart_below n a places shape sound (parent_at a.spots i) (parent_at a.spots j) (omega arith) (sound.parents i pi g) (sound.parents j pj h) ups in
                let li = sound.led i pi g in
                let lj = sound.led j pj h in
                let re : lead_at a (parent_at a.spots j) (step_at a.spots j) ≡ Some i =
                subst (λ p. lead_at a p (step_at a.spots j) ≡ Some i) same (subst (λ s. lead_at a (parent_at a.spots i) s ≡ Some i) steps li) in
                same_Some i j (sym re ∙ lj)
          ]
    ]

pub apart : (a : ArenaData) (places : List Place) → IsShaped a.spots places → IsSound a → (i j : ℕ)
    → is_gone a.gone i ≡ false → is_gone a.gone j ≡ false → place_at places i ≡ place_at places j → i ≡ j
apart a places shape sound i j g h e = apart_below (suc i) a places shape sound i j (omega arith) g h e

-- ---- a step from a node

child_from : (a : ArenaData) (at : ℕ) (s : Step) → at < length a.leads → child_of a at s ≡ Rattle.std.specs.Option.option_and_then (there a.gone) (lead_at a at s)
child_from a at s l = ap (λ o. Rattle.std.specs.Option.option_and_then (λ m. Rattle.std.specs.Option.option_and_then (there a.gone) (lead_of m s)) o) (slice_get-get_or a.leads at no_leads l)

there_some : (b : Bool) (gone : List Bool) (j k : ℕ) → is_gone gone j ≡ b → cond b None (Some j) ≡ Some k → (j ≡ k) × (is_gone gone j ≡ false)
there_some true gone j k e h = absurd (none-some k h)
there_some false gone j k e h = (same_Some j k h, e)

and_then_some : (o : Option ℕ) (gone : List Bool) (k : ℕ) → Rattle.std.specs.Option.option_and_then (there gone) o ≡ Some k → (o ≡ Some k) × (is_gone gone k ≡ false)
and_then_some None gone k h = absurd (none-some k h)
and_then_some (Some j) gone k h =
    let r = there_some (is_gone gone j) gone j k refl h in
    (ap Some r.0, subst (λ m. is_gone gone m ≡ false) r.0 r.1)

-- a child that is found stands there
pub child_stands : (a : ArenaData) (places : List Place) → IsShaped a.spots places → IsSound a → (at j : ℕ) (s : Step) → at < length a.spots
    → child_of a at s ≡ Some j → (is_gone a.gone j ≡ false) × (place_at places j ≡ s ∷ place_at places at) × (0 < j)
child_stands a places shape sound at j s l h =
    let low : at < length a.leads = subst (λ m. at < m) (sym sound.leads) l in
    let r = and_then_some (lead_at a at s) a.gone j (sym (child_from a at s low) ∙ h) in
    let k = sound.leads_right at j s r.0 in
    let e : place_at places j ≡ step_at a.spots j ∷ place_at places (parent_at a.spots j) = shape.steps j k.0 k.1 in
    (r.1, e ∙ (ap (λ t. t ∷ place_at places (parent_at a.spots j)) k.3 ∙ ap (λ p. s ∷ place_at places p) k.2), k.0)

-- a slot that stands there is found
pub child_found : (a : ArenaData) (places : List Place) → IsShaped a.spots places → IsSound a → (at i : ℕ) (s : Step)
    → is_gone a.gone at ≡ false → is_gone a.gone i ≡ false → place_at places i ≡ s ∷ place_at places at → child_of a at s ≡ Some i
child_found a places shape sound at i s g h e =
    let wi : i < length a.spots = subst (λ m. i < m) sound.gone (there_within a.gone i h) in
    let wat : at < length a.spots = subst (λ m. at < m) sound.gone (there_within a.gone at g) in
    elim (cases_eq i 0) [
      | inl z ↦
          let r : place_at places i ≡ [] = ap (place_at places) z ∙ shape.root in
          let bad : [] ≡ s ∷ place_at places at = sym r ∙ e in
          absurd (cc)
      | inr n ↦ let p : 0 < i = omega arith in
          let both : step_at a.spots i ∷ place_at places (parent_at a.spots i) ≡ s ∷ place_at places at = sym (shape.steps i p wi) ∙ e in
          let steps : step_at a.spots i ≡ s = cc in
          let ups : place_at places (parent_at a.spots i) ≡ place_at places at = cc in
          let same : parent_at a.spots i ≡ at = apart a places shape sound (parent_at a.spots i) at (sound.parents i p h) g ups in
          let led : lead_at a at s ≡ Some i = subst (λ t. lead_at a t s ≡ Some i) same (subst (λ t. lead_at a (parent_at a.spots i) t ≡ Some i) steps (sound.led i p h)) in
          let low : at < length a.leads = subst (λ m. at < m) (sym sound.leads) wat in
          child_from a at s low ∙ (ap (Rattle.std.specs.Option.option_and_then (there a.gone)) led ∙ ap (λ b. cond b None (Some i)) h)
    ]
