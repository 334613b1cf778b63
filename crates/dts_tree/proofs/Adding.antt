-- A slot more: what is kept.
use Rattle.std.proofs.Common.{◌≡◌, ◌∙◌, ◌+◌, ◌<◌, ◌++◌, ◌⊎◌, ◌∷◌, [], ℕ, true, false, List, Some, None, length, get_or, refl, sym, ap, subst, inl, inr, arith}
use Rattle.std.proofs.lemmas.Bool.{true≢false, cases_lt, cases_eq, cases_Bool}
use Rattle.std.proofs.lemmas.List.{get_or_append_left, get_or_push, get_or-set_same, get_or-set_other, get_or_past, length-set, length_push}
use Rattle.std.proofs.lemmas.Option.{same_Some, none-some}
use Rattle.dts_tree.specs.declared.spot.Step.{Step}
use Rattle.dts_tree.specs.declared.spot.Step.TheVariants.{Child, Prop}
use Rattle.dts_tree.specs.declared.spot.Spot.{Spot}
use Rattle.dts_tree.specs.Places.{Place, step_eq}
use Rattle.dts_tree.specs.Inner.Arena.{ArenaData, LeadsData, is_gone, lead_of, with_lead, no_leads, child_of, spot, pushed, leading, added}
use Rattle.dts_tree.proofs.Lists.{Member, member_left, member_right, member_cases}
use Rattle.dts_tree.proofs.NameLaws.{named_same, named_other}
use Rattle.dts_tree.proofs.PlaceLaws.{same_step, step_self}
use Rattle.dts_tree.proofs.Shape.{IsShaped, IsSound, place_at, parent_at, step_at, spot_at, below_at, lead_at, there_within, child_found}

pub lead_same : (l : LeadsData) (s : Step) (id : ℕ) → lead_of (with_lead l s id) s ≡ Some id
lead_same l (Child n) id = named_same l.children n id
lead_same l (Prop n) id = named_same l.props n id

pub lead_other : (l : LeadsData) (s t : Step) (id : ℕ) → (t ≡ s → ⊥) → lead_of (with_lead l s id) t ≡ lead_of l t
lead_other l (Child n) (Child m) id h = named_other l.children m n id (λ e. h (ap Child e))
lead_other l (Child n) (Prop m) id h = refl
lead_other l (Prop n) (Child m) id h = refl
lead_other l (Prop n) (Prop m) id h = named_other l.props m n id (λ e. h (ap Prop e))

no_lead : (t : Step) → lead_of no_leads t ≡ None
no_lead (Child n) = refl
no_lead (Prop n) = refl

same_or_not : (t s : Step) → (t ≡ s) ⊎ (t ≡ s → ⊥)
same_or_not t s = elim (cases_Bool (step_eq t s)) [
  | inl e ↦ inl (same_step t s e)
  | inr e ↦ inr (λ h. true≢false (sym (subst (λ u. step_eq t u ≡ true) h (step_self t)) ∙ e))
]

-- the place of an index in a list that is one longer
pub cases_push : (i n : ℕ) → (i < n) ⊎ ((i ≡ n) ⊎ (n < i))
cases_push i n = elim (cases_lt i n) [
  | inl l ↦ inl l
  | inr l ↦ elim (cases_eq i n) [ inl e ↦ inr (inl e) | inr k ↦ inr (inr (omega arith)) ]
]

pub past_push : {X : Type 0} (xs : List X) (x d : X) (i : ℕ) → length xs < i → get_or (xs ++ x ∷ []) i d ≡ d
past_push xs x d i l = let e : length (xs ++ x ∷ []) ≡ length xs + 1 = length_push xs x in get_or_past (xs ++ x ∷ []) i d (omega arith)

pub shaped_more : (spots : List Spot) (places : List Place) (at : ℕ) (s : Step) → IsShaped spots places → at < length spots
    → IsShaped (spots ++ spot s at ∷ []) (places ++ (s ∷ place_at places at) ∷ [])
shaped_more spots places at s shape l =
    let more : length (spots ++ spot s at ∷ []) ≡ length spots + 1 = length_push spots (spot s at) in
    let some : 0 < length spots = shape.some in
    let here : (i : ℕ) → i < length spots → spot_at (spots ++ spot s at ∷ []) i ≡ spot_at spots i = λ i h. get_or_append_left spots (spot s at ∷ []) (spot (Child []) 0) i h in
    let last : spot_at (spots ++ spot s at ∷ []) (length spots) ≡ spot s at = get_or_push spots (spot s at) (spot (Child []) 0) (length spots) refl in
    let placed : (i : ℕ) → i < length spots → place_at (places ++ (s ∷ place_at places at) ∷ []) i ≡ place_at places i =
    λ i h. let k : i < length places = subst (λ m. i < m) (sym shape.sized) h in get_or_append_left places ((s ∷ place_at places at) ∷ []) [] i k in
    let placed_last : place_at (places ++ (s ∷ place_at places at) ∷ []) (length spots) ≡ s ∷ place_at places at =
    get_or_push places (s ∷ place_at places at) [] (length spots) shape.sized in
    record {
      some = omega arith;
      sized = length_push places (s ∷ place_at places at) ∙ (ap (λ m. m + 1) shape.sized ∙ sym more);
      root = placed 0 some ∙ shape.root;
      parents = λ i p h. elim (cases_push i (length spots)) [
        | inl k ↦ subst (λ t. t.parent < i) (sym (here i k)) (shape.parents i p k)
        | inr o ↦ elim o [
          | inl e ↦
              let q : (spot_at (spots ++ spot s at ∷ []) i).parent ≡ at = ap (λ j. (spot_at (spots ++ spot s at ∷ []) j).parent) e ∙ ap (λ t. t.parent) last in
              omega arith
          | inr k ↦ absurd (omega arith)
        ]
      ];
      steps = λ i p h. elim (cases_push i (length spots)) [
        | inl k ↦
            let up : parent_at spots i < i = shape.parents i p k in
            let below : parent_at spots i < length spots = omega arith in
            placed i k ∙ (shape.steps i p k
            ∙ (ap (λ q. step_at spots i ∷ q) (sym (placed (parent_at spots i) below))
            ∙ ap (λ t. t.step ∷ place_at (places ++ (s ∷ place_at places at) ∷ []) t.parent) (sym (here i k))))
        | inr o ↦ elim o [
          | inl e ↦
              subst (λ j. place_at (places ++ (s ∷ place_at places at) ∷ []) j
              ≡ step_at (spots ++ spot s at ∷ []) j ∷ place_at (places ++ (s ∷ place_at places at) ∷ []) (parent_at (spots ++ spot s at ∷ []) j)) (sym e)
              (placed_last ∙ (ap (λ q. s ∷ q) (sym (placed at l))
              ∙ ap (λ t. t.step ∷ place_at (places ++ (s ∷ place_at places at) ∷ []) t.parent) (sym last)))
          | inr k ↦ absurd (omega arith)
        ]
      ];
    }

pub sound_more : (a : ArenaData) (places : List Place) (at : ℕ) (s : Step) → IsShaped a.spots places → IsSound a → is_gone a.gone at ≡ false
    → child_of a at s ≡ None → IsSound (added a at s)
sound_more a places at s shape sound g none =
    let n : ℕ = length a.spots in
    let new : ArenaData = added a at s in
    let l : at < n = subst (λ m. at < m) sound.gone (there_within a.gone at g) in
    let some : 0 < n = shape.some in
    let more : length new.spots ≡ n + 1 = length_push a.spots (spot s at) in
    let here : (i : ℕ) → i < n → spot_at new.spots i ≡ spot_at a.spots i = λ i h. get_or_append_left a.spots (spot s at ∷ []) (spot (Child []) 0) i h in
    let last : spot_at new.spots n ≡ spot s at = get_or_push a.spots (spot s at) (spot (Child []) 0) n refl in
    let gone_old : (i : ℕ) → i < n → is_gone new.gone i ≡ is_gone a.gone i =
    λ i h. let k : i < length a.gone = subst (λ m. i < m) (sym sound.gone) h in get_or_append_left a.gone (false ∷ []) true i k in
    let gone_past : (i : ℕ) → n < i → is_gone new.gone i ≡ true =
    λ i h. let k : length a.gone < i = subst (λ m. m < i) (sym sound.gone) h in past_push a.gone false true i k in
    let below_old : (i : ℕ) → i < n → (i ≡ at → ⊥) → below_at new i ≡ below_at a i = λ i h k.
    let m : i < length (pushed a.below at n) = subst (λ m. i < m) (sym (length-set a.below at (below_at a at ++ n ∷ []) ∙ sound.below)) h in
    get_or_append_left (pushed a.below at n) ([] ∷ []) [] i m ∙ get_or-set_other a.below at i (below_at a at ++ n ∷ []) [] k in
    let below_here : below_at new at ≡ below_at a at ++ n ∷ [] =
    let m : at < length (pushed a.below at n) = subst (λ m. at < m) (sym (length-set a.below at (below_at a at ++ n ∷ []) ∙ sound.below)) l in
    let k : at < length a.below = subst (λ m. at < m) (sym sound.below) l in
    get_or_append_left (pushed a.below at n) ([] ∷ []) [] at m ∙ get_or-set_same a.below at (below_at a at ++ n ∷ []) [] k in
    let below_len : length (pushed a.below at n) ≡ n = length-set a.below at (below_at a at ++ n ∷ []) ∙ sound.below in
    let below_new : below_at new n ≡ [] = get_or_push (pushed a.below at n) [] [] n below_len in
    let below_past : (i : ℕ) → n < i → below_at new i ≡ [] = λ i h. past_push (pushed a.below at n) [] [] i (subst (λ m. m < i) (sym below_len) h) in
    let leads_len : length (leading a.leads at s n) ≡ n = length-set a.leads at (with_lead (get_or a.leads at no_leads) s n) ∙ sound.leads in
    let lead_old : (i : ℕ) (t : Step) → i < n → (i ≡ at → ⊥) → lead_at new i t ≡ lead_at a i t = λ i t h k.
    ap (λ x. lead_of x t)
    (get_or_append_left (leading a.leads at s n) (no_leads ∷ []) no_leads i (subst (λ m. i < m) (sym leads_len) h)
    ∙ get_or-set_other a.leads at i (with_lead (get_or a.leads at no_leads) s n) no_leads k) in
    let lead_here : (t : Step) → lead_at new at t ≡ lead_of (with_lead (get_or a.leads at no_leads) s n) t = λ t.
    ap (λ x. lead_of x t)
    (get_or_append_left (leading a.leads at s n) (no_leads ∷ []) no_leads at (subst (λ m. at < m) (sym leads_len) l)
    ∙ get_or-set_same a.leads at (with_lead (get_or a.leads at no_leads) s n) no_leads (subst (λ m. at < m) (sym sound.leads) l)) in
    let lead_new : (t : Step) → lead_at new n t ≡ None = λ t. ap (λ x. lead_of x t) (get_or_push (leading a.leads at s n) no_leads no_leads n leads_len) ∙ no_lead t in
    let lead_past : (i : ℕ) (t : Step) → n < i → lead_at new i t ≡ None = λ i t h.
    ap (λ x. lead_of x t) (past_push (leading a.leads at s n) no_leads no_leads i (subst (λ m. m < i) (sym leads_len) h)) ∙ no_lead t in
    -- no slot that is there stands where the new one does
    let free : (i : ℕ) → 0 < i → i < n → is_gone a.gone i ≡ false → parent_at a.spots i ≡ at → step_at a.spots i ≡ s → ⊥ = λ i p h k e f.
    let stands : place_at places i ≡ s ∷ place_at places at =
    shape.steps i p h ∙ (ap (λ t. t ∷ place_at places (parent_at a.spots i)) f ∙ ap (λ q. s ∷ place_at places q) e) in
    none-some i (sym none ∙ child_found a places shape sound at i s g k stands) in
    record {
      gone = length_push a.gone false ∙ (ap (λ m. m + 1) sound.gone ∙ sym more);
      below = length_push (pushed a.below at n) [] ∙ (ap (λ m. m + 1) below_len ∙ sym more);
      leads = length_push (leading a.leads at s n) no_leads ∙ (ap (λ m. m + 1) leads_len ∙ sym more);
      root = gone_old 0 some ∙ sound.root;
      parents = λ i p h. elim (cases_push i n) [
        | inl k ↦
            let up : parent_at a.spots i < i = shape.parents i p k in
            let q : parent_at a.spots i < n = omega arith in
            subst (λ t. is_gone new.gone t.parent ≡ false) (sym (here i k)) (gone_old (parent_at a.spots i) q ∙ sound.parents i p (sym (gone_old i k) ∙ h))
        | inr o ↦ elim o [
          | inl e ↦ subst (λ j. is_gone new.gone (parent_at new.spots j) ≡ false) (sym e) (subst (λ t. is_gone new.gone t.parent ≡ false) (sym last) (gone_old at l ∙ g))
          | inr k ↦ absurd (true≢false (sym (gone_past i k) ∙ h))
        ]
      ];
      listed = λ i p h. elim (cases_push i n) [
        | inl k ↦
            let up : parent_at a.spots i < i = shape.parents i p k in
            let q : parent_at a.spots i < n = omega arith in
            let m : Member i (below_at a (parent_at a.spots i)) = sound.listed i p (sym (gone_old i k) ∙ h) in
            subst (λ t. Member i (below_at new t.parent)) (sym (here i k)) (elim (cases_eq (parent_at a.spots i) at) [
              | inl e ↦ subst (λ t. Member i (below_at new t)) (sym e)
                  (subst (λ t. Member i t) (sym below_here) (member_left i (below_at a at) (n ∷ []) (subst (λ t. Member i (below_at a t)) e m)))
              | inr d ↦ subst (λ t. Member i t) (sym (below_old (parent_at a.spots i) q d)) m
            ])
        | inr o ↦ elim o [
          | inl e ↦ subst (λ j. Member j (below_at new (parent_at new.spots j))) (sym e)
              (subst (λ t. Member n (below_at new t.parent)) (sym last) (subst (λ t. Member n t) (sym below_here) (member_right n (below_at a at) (n ∷ []) (inl refl))))
          | inr k ↦ absurd (true≢false (sym (gone_past i k) ∙ h))
        ]
      ];
      lists = λ i c m. elim (cases_push i n) [
        | inl k ↦ elim (cases_eq i at) [
          | inl e ↦
              let in' : Member c (below_at a at ++ n ∷ []) = subst (λ t. Member c t) below_here (subst (λ j. Member c (below_at new j)) e m) in
              elim (member_cases c (below_at a at) (n ∷ []) in') [
                | inl o ↦
                    let r = sound.lists at c o in
                    (r.0, omega (arith, r.1), ap (λ t. t.parent) (here c r.1) ∙ (r.2 ∙ sym e))
                | inr o ↦ elim o [
                  | inl f ↦ (
                    subst (λ j. 0 < j) f some,
                    subst (λ j. j < length new.spots) f (omega arith),
                    subst (λ j. parent_at new.spots j ≡ i) f (ap (λ t. t.parent) last ∙ sym e),
                  )
                  | inr x ↦ absurd x
                ]
              ]
          | inr d ↦
              let r = sound.lists i c (subst (λ t. Member c t) (below_old i k d) m) in
              (r.0, omega (arith, r.1), ap (λ t. t.parent) (here c r.1) ∙ r.2)
        ]
        | inr o ↦ elim o [
          | inl e ↦ absurd (subst (λ t. Member c t) below_new (subst (λ j. Member c (below_at new j)) e m))
          | inr k ↦ absurd (subst (λ t. Member c t) (below_past i k) m)
        ]
      ];
      led = λ i p h. elim (cases_push i n) [
        | inl k ↦
            let up : parent_at a.spots i < i = shape.parents i p k in
            let q : parent_at a.spots i < n = omega arith in
            let was : is_gone a.gone i ≡ false = sym (gone_old i k) ∙ h in
            let old : lead_at a (parent_at a.spots i) (step_at a.spots i) ≡ Some i = sound.led i p was in
            subst (λ t. lead_at new t.parent t.step ≡ Some i) (sym (here i k)) (elim (cases_eq (parent_at a.spots i) at) [
              | inl e ↦
                  subst (λ t. lead_at new t (step_at a.spots i) ≡ Some i) (sym e)
                  (lead_here (step_at a.spots i)
                  ∙ (lead_other (get_or a.leads at no_leads) s (step_at a.spots i) n (λ f. free i p k was e f) ∙ subst (λ t. lead_at a t (step_at a.spots i) ≡ Some i) e old))
              | inr d ↦ lead_old (parent_at a.spots i) (step_at a.spots i) q d ∙ old
            ])
        | inr o ↦ elim o [
          | inl e ↦ subst (λ j. lead_at new (parent_at new.spots j) (step_at new.spots j) ≡ Some j) (sym e)
              (subst (λ t. lead_at new t.parent t.step ≡ Some n) (sym last) (lead_here s ∙ lead_same (get_or a.leads at no_leads) s n))
          | inr k ↦ absurd (true≢false (sym (gone_past i k) ∙ h))
        ]
      ];
      leads_right = λ i j t h. elim (cases_push i n) [
        | inl k ↦ elim (cases_eq i at) [
          | inl e ↦
              let at' : lead_of (with_lead (get_or a.leads at no_leads) s n) t ≡ Some j = sym (lead_here t) ∙ subst (λ x. lead_at new x t ≡ Some j) e h in
              elim (same_or_not t s) [
                | inl f ↦
                    let g' : n ≡ j = same_Some n j (sym (lead_same (get_or a.leads at no_leads) s n) ∙ subst (λ u. lead_of (with_lead (get_or a.leads at no_leads) s n) u ≡ Some j) f at') in (
                      subst (λ x. 0 < x) g' some,
                      subst (λ x. x < length new.spots) g' (omega arith),
                      subst (λ x. parent_at new.spots x ≡ i) g' (ap (λ x. x.parent) last ∙ sym e),
                      subst (λ x. step_at new.spots x ≡ t) g' (ap (λ x. x.step) last ∙ sym f),
                    )
                | inr f ↦
                    let r = sound.leads_right at j t (sym (lead_other (get_or a.leads at no_leads) s t n f) ∙ at') in
                    (r.0, omega (arith, r.1), ap (λ x. x.parent) (here j r.1) ∙ (r.2 ∙ sym e), ap (λ x. x.step) (here j r.1) ∙ r.3)
              ]
          | inr d ↦
              let r = sound.leads_right i j t (sym (lead_old i t k d) ∙ h) in
              (r.0, omega (arith, r.1), ap (λ x. x.parent) (here j r.1) ∙ r.2, ap (λ x. x.step) (here j r.1) ∙ r.3)
        ]
        | inr o ↦ elim o [
          | inl e ↦ absurd (none-some j (sym (lead_new t) ∙ subst (λ x. lead_at new x t ≡ Some j) e h))
          | inr k ↦ absurd (none-some j (sym (lead_past i t k) ∙ h))
        ]
      ];
    }
