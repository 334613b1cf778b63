-- Taking a slot away: all that stands at or below its place is gone then, and nothing else.
use Rattle.std.proofs.Common.{◌≡◌, ◌∙◌, ◌+◌, ◌-◌, ◌<◌, ◌≤◌, ◌++◌, ◌⊎◌, ◌∷◌, [], ℕ, zero, suc, Bool, true, false, not, ◌&&◌, List, Option, Some, None, length, get_or, set, drop, refl, sym, ap, subst, inl, inr, arith}
use Rattle.std.specs.List.{sum_by}
use Rattle.std.proofs.lemmas.Bool.{false≢true, true≢false, cases_lt, cases_eq, cases_Bool}
use Rattle.std.proofs.lemmas.List.{get_or-set_same, get_or-set_other, get_or_past, length-set, length-append, set_past, take-append-drop, drop_more, drop_all, nil_from_length}
use Rattle.std.proofs.lemmas.List.Sums.{sum_by-set}
use Rattle.std.proofs.lemmas.Option.{same_Some, slice_get-get_or, slice_get_past, none-some}
use Rattle.dts_tree.specs.Places.{Place, is_within}
use Rattle.dts_tree.specs.Inner.Arena.{ArenaData, is_gone, is_alive, last_slot, but_last, left_at, sweep, work, removed}
use Rattle.dts_tree.proofs.Lists.{Member, member_left, member_right, member_cases}
use Rattle.dts_tree.proofs.PlaceLaws.{within_self, within_more, within_cases}
use Rattle.dts_tree.proofs.Shape.{IsShaped, IsSound, place_at, parent_at, step_at, below_at, there_within, apart}

-- ---- the last of a list

pub last_split : {X : Type 0} (xs : List X) (x : X) → last_slot xs ≡ Some x → xs ≡ but_last xs ++ x ∷ []
last_split xs x h = elim (cases_lt (length xs - 1) (length xs)) [
  | inl l ↦
      let here : get_or xs (length xs - 1) x ≡ x = same_Some (get_or xs (length xs - 1) x) x (sym (slice_get-get_or xs (length xs - 1) x l) ∙ h) in
      let rest : drop (length xs - 1 + 1) xs ≡ [] = drop_all (length xs - 1 + 1) xs (omega arith) in
      let back : drop (length xs - 1) xs ≡ x ∷ [] = drop_more xs (length xs - 1) x l ∙ (ap (λ t. get_or xs (length xs - 1) x ∷ t) rest ∙ ap (λ t. t ∷ []) here) in
      sym (take-append-drop (length xs - 1) xs) ∙ ap (λ t. but_last xs ++ t) back
  | inr l ↦ absurd (none-some x (sym (slice_get_past xs (length xs - 1) l) ∙ h))
]

pub last_none : {X : Type 0} (xs : List X) → last_slot xs ≡ None → xs ≡ []
last_none [] h = refl
last_none (x ∷ xs) h =
    let l : length (x ∷ xs) - 1 < length (x ∷ xs) = omega arith in
    absurd (none-some (get_or (x ∷ xs) (length (x ∷ xs) - 1) x) (sym h ∙ slice_get-get_or (x ∷ xs) (length (x ∷ xs) - 1) x l))

-- ---- one turn

pub gone_here : (a : ArenaData) (id : ℕ) → id < length a.gone → is_gone (left_at a id).gone id ≡ true
gone_here a id l = get_or-set_same a.gone id true true l

pub gone_other : (a : ArenaData) (id i : ℕ) → (i ≡ id → ⊥) → is_gone (left_at a id).gone i ≡ is_gone a.gone i
gone_other a id i n = get_or-set_other a.gone id i true true n

below_here : (a : ArenaData) (id : ℕ) → below_at (left_at a id) id ≡ []
below_here a id = elim (cases_lt id (length a.below)) [
  | inl l ↦ get_or-set_same a.below id [] [] l
  | inr l ↦ ap (λ xs. get_or xs id []) (set_past a.below id [] l) ∙ get_or_past a.below id [] l
]

below_other : (a : ArenaData) (id i : ℕ) → (i ≡ id → ⊥) → below_at (left_at a id) i ≡ below_at a i
below_other a id i n = get_or-set_other a.below id i [] [] n

-- what holds after some turns: the slots that wait, and what is gone
pub record IsSweeping (places : List Place) (old now : ArenaData) (waiting : List ℕ) (first : ℕ) : Type 0 where
  pub spots : now.spots ≡ old.spots
  pub leads : now.leads ≡ old.leads
  pub gone_len : length now.gone ≡ length old.gone
  pub below_len : length now.below ≡ length old.below
  pub kept : (i : ℕ) → is_gone old.gone i ≡ true → is_gone now.gone i ≡ true
  pub only : (i : ℕ) → is_gone now.gone i ≡ true → (is_gone old.gone i ≡ true) ⊎ (is_within (place_at places first) (place_at places i) ≡ true)
  pub waits : (i : ℕ) → Member i waiting → (is_within (place_at places first) (place_at places i) ≡ true) × (0 < i) × (i < length old.spots)
  pub begun : (is_gone now.gone first ≡ true) ⊎ Member first waiting
  pub below : (i : ℕ) → (below_at now i ≡ below_at old i) ⊎ (below_at now i ≡ [])
  pub closed : (j : ℕ) → 0 < j → is_gone now.gone j ≡ false
      → Member j waiting ⊎ ((is_gone now.gone (parent_at old.spots j) ≡ false) × Member j (below_at now (parent_at old.spots j)))

pub sweep_start : (places : List Place) (old : ArenaData) (first : ℕ) → IsShaped old.spots places → IsSound old → 0 < first → is_gone old.gone first ≡ false
    → IsSweeping places old old (first ∷ []) first
sweep_start places old first shape sound p g = record {
  spots = refl;
  leads = refl;
  gone_len = refl;
  below_len = refl;
  kept = λ i h. h;
  only = λ i h. inl h;
  waits = λ i m. elim m [
    | inl e ↦ subst (λ k. (is_within (place_at places first) (place_at places k) ≡ true) × (0 < k) × (k < length old.spots)) e
        (within_self (place_at places first), p, subst (λ m. first < m) sound.gone (there_within old.gone first g))
    | inr n ↦ absurd n
  ];
  begun = inr (inl refl);
  below = λ i. inl refl;
  closed = λ j q h. inr (sound.parents j q h, sound.listed j q h);
}

waits_below : (places : List Place) (old now : ArenaData) (first id c : ℕ) → IsShaped old.spots places → IsSound old
    → is_within (place_at places first) (place_at places id) ≡ true → (below_at now id ≡ below_at old id) ⊎ (below_at now id ≡ []) → Member c (below_at now id)
    → (is_within (place_at places first) (place_at places c) ≡ true) × (0 < c) × (c < length old.spots)
waits_below places old now first id c shape sound w (inl e) m =
    let r = sound.lists id c (subst (λ l. Member c l) e m) in
    let s = shape.steps c r.0 r.1 in
    let up : place_at places c ≡ step_at old.spots c ∷ place_at places id = s ∙ ap (λ p. step_at old.spots c ∷ place_at places p) r.2 in
    (subst (λ p. is_within (place_at places first) p ≡ true) (sym up) (within_more (place_at places first) (step_at old.spots c) (place_at places id) w), r.0, r.1)
waits_below places old now first id c shape sound w (inr e) m = absurd (subst (λ l. Member c l) e m)

pub sweep_step : (places : List Place) (old now : ArenaData) (waiting w : List ℕ) (id first : ℕ) → IsShaped old.spots places → IsSound old
    → waiting ≡ w ++ id ∷ [] → IsSweeping places old now waiting first → IsSweeping places old (left_at now id) (w ++ below_at now id) first
sweep_step places old now waiting w id first shape sound whole s =
    let at_end : Member id waiting = subst (λ l. Member id l) (sym whole) (member_right id w (id ∷ []) (inl refl)) in
    let here = s.waits id at_end in
    let low : id < length now.gone = subst (λ m. id < m) (sym (s.gone_len ∙ sound.gone)) here.2 in
    record {
      spots = s.spots;
      leads = s.leads;
      gone_len = length-set now.gone id true ∙ s.gone_len;
      below_len = length-set now.below id [] ∙ s.below_len;
      kept = λ i h. elim (cases_eq i id) [
        | inl e ↦ subst (λ k. is_gone (left_at now id).gone k ≡ true) (sym e) (gone_here now id low)
        | inr n ↦ gone_other now id i n ∙ s.kept i h
      ];
      only = λ i h. elim (cases_eq i id) [
        | inl e ↦ inr (subst (λ k. is_within (place_at places first) (place_at places k) ≡ true) (sym e) here.0)
        | inr n ↦ s.only i (sym (gone_other now id i n) ∙ h)
      ];
      waits = λ i m. elim (member_cases i w (below_at now id) m) [
        | inl n ↦ s.waits i (subst (λ l. Member i l) (sym whole) (member_left i w (id ∷ []) n))
        | inr n ↦ waits_below places old now first id i shape sound here.0 (s.below id) n
      ];
      begun = elim s.begun [
        | inl g ↦ elim (cases_eq first id) [
          | inl e ↦ inl (subst (λ k. is_gone (left_at now id).gone k ≡ true) (sym e) (gone_here now id low))
          | inr n ↦ inl (gone_other now id first n ∙ g)
        ]
        | inr m ↦ elim (member_cases first w (id ∷ []) (subst (λ l. Member first l) whole m)) [
          | inl n ↦ inr (member_left first w (below_at now id) n)
          | inr n ↦ elim n [
            | inl e ↦ inl (subst (λ k. is_gone (left_at now id).gone k ≡ true) e (gone_here now id low))
            | inr x ↦ absurd x
          ]
        ]
      ];
      below = λ i. elim (cases_eq i id) [
        | inl e ↦ inr (subst (λ k. below_at (left_at now id) k ≡ []) (sym e) (below_here now id))
        | inr n ↦ elim (s.below i) [ inl b ↦ inl (below_other now id i n ∙ b) | inr b ↦ inr (below_other now id i n ∙ b) ]
      ];
      closed = λ j p h. elim (cases_eq j id) [
        | inl e ↦ absurd (true≢false (sym (gone_here now id low) ∙ subst (λ k. is_gone (left_at now id).gone k ≡ false) e h))
        | inr n ↦ elim (s.closed j p (sym (gone_other now id j n) ∙ h)) [
          | inl m ↦ elim (member_cases j w (id ∷ []) (subst (λ l. Member j l) whole m)) [
            | inl k ↦ inl (member_left j w (below_at now id) k)
            | inr k ↦ elim k [ inl e ↦ absurd (n (sym e)) | inr x ↦ absurd x ]
          ]
          | inr r ↦ elim (cases_eq (parent_at old.spots j) id) [
            | inl e ↦ inl (member_right j w (below_at now id) (subst (λ k. Member j (below_at now k)) e r.1))
            | inr k ↦ inr (gone_other now id (parent_at old.spots j) k ∙ r.0, subst (λ l. Member j l) (sym (below_other now id (parent_at old.spots j) k)) r.1)
          ]
        ]
      ];
    }

-- each turn is one less
pub work_falls : (a : ArenaData) (waiting w : List ℕ) (id : ℕ) → waiting ≡ w ++ id ∷ [] → work (left_at a id) (w ++ below_at a id) + 1 ≡ work a waiting
work_falls a waiting w id whole =
    let one : length waiting ≡ length w + 1 = ap length whole ∙ length-append w (id ∷ []) in
    let two : length (w ++ below_at a id) ≡ length w + length (below_at a id) = length-append w (below_at a id) in
    elim (cases_lt id (length a.below)) [
      | inl l ↦
          let s : sum_by (λ (l : List ℕ). length l) (set a.below id []) + length (below_at a id) ≡ sum_by (λ (l : List ℕ). length l) a.below + 0 =
          sum_by-set (λ (l : List ℕ). length l) a.below id [] [] l in
          omega arith
      | inr l ↦
          let none : length (below_at a id) ≡ 0 = ap length (get_or_past a.below id [] l) in
          let same : sum_by (λ (l : List ℕ). length l) (set a.below id []) ≡ sum_by (λ (l : List ℕ). length l) a.below =
          ap (λ xs. sum_by (λ (l : List ℕ). length l) xs) (set_past a.below id [] l) in
          omega arith
    ]

sweep_on : (n : ℕ) (o : Option ℕ) (places : List Place) (old now : ArenaData) (waiting : List ℕ) (first : ℕ) → IsShaped old.spots places → IsSound old
    → last_slot waiting ≡ o → work now waiting ≤ suc n → IsSweeping places old now waiting first
    → ((next : ArenaData) (rest : List ℕ) → work next rest ≤ n → IsSweeping places old next rest first → IsSweeping places old (sweep n next rest) [] first)
    → IsSweeping places old (elim o [ None ↦ now | Some id ↦ sweep n (left_at now id) (but_last waiting ++ below_at now id) ]) [] first
sweep_on n None places old now waiting first shape sound e l s go = subst (λ w. IsSweeping places old now w first) (last_none waiting e) s
sweep_on n (Some id) places old now waiting first shape sound e l s go =
    let whole : waiting ≡ but_last waiting ++ id ∷ [] = last_split waiting id e in
    let less : work (left_at now id) (but_last waiting ++ below_at now id) + 1 ≡ work now waiting = work_falls now waiting (but_last waiting) id whole in
    go (left_at now id) (but_last waiting ++ below_at now id) (omega arith) (sweep_step places old now waiting (but_last waiting) id first shape sound whole s)

pub sweep_ends : (n : ℕ) (places : List Place) (old now : ArenaData) (waiting : List ℕ) (first : ℕ) → IsShaped old.spots places → IsSound old
    → work now waiting ≤ n → IsSweeping places old now waiting first → IsSweeping places old (sweep n now waiting) [] first
sweep_ends zero places old now waiting first shape sound l s =
    let none : waiting ≡ [] = nil_from_length waiting (omega arith) in
    subst (λ w. IsSweeping places old now w first) none s
sweep_ends (suc n) places old now waiting first shape sound l s =
    sweep_on n (last_slot waiting) places old now waiting first shape sound refl l s (λ next rest m t. sweep_ends n places old next rest first shape sound m t)

pub swept : (places : List Place) (a : ArenaData) (first : ℕ) → IsShaped a.spots places → IsSound a → 0 < first → is_gone a.gone first ≡ false
    → IsSweeping places a (removed a first) [] first
swept places a first shape sound p g = sweep_ends (work a (first ∷ [])) places a a (first ∷ []) first shape sound (omega arith) (sweep_start places a first shape sound p g)

-- what stands at or below the place is gone
below_gone : (n : ℕ) (places : List Place) (old now : ArenaData) (first i : ℕ) → IsShaped old.spots places → IsSound old → is_gone old.gone first ≡ false
    → IsSweeping places old now [] first → i < n → is_gone now.gone i ≡ false → is_within (place_at places first) (place_at places i) ≡ true → ⊥
below_gone zero places old now first i shape sound g s l h w = absurd (omega arith)
below_gone (suc n) places old now first i shape sound g s l h w =
    let first_gone : is_gone now.gone first ≡ true = elim s.begun [ inl e ↦ e | inr m ↦ absurd m ] in
    let was : is_gone old.gone i ≡ false = elim (cases_Bool (is_gone old.gone i)) [ inl t ↦ absurd (true≢false (sym (s.kept i t) ∙ h)) | inr f ↦ f ] in
    let wi : i < length old.spots = subst (λ m. i < m) sound.gone (there_within old.gone i was) in
    let same_first : place_at places first ≡ place_at places i → ⊥ = λ e.
    true≢false (sym first_gone ∙ subst (λ k. is_gone now.gone k ≡ false) (sym (apart old places shape sound first i g was e)) h) in
    elim (cases_eq i 0) [
      | inl z ↦
          let r : place_at places i ≡ [] = ap (place_at places) z ∙ shape.root in
          let e : is_within (place_at places first) [] ≡ true = subst (λ p. is_within (place_at places first) p ≡ true) r w in
          same_first (Rattle.dts_tree.proofs.PlaceLaws.same_place (place_at places first) [] e ∙ sym r)
      | inr n0 ↦
          let p : 0 < i = omega arith in
          let s' = shape.steps i p wi in
          let w' : is_within (place_at places first) (step_at old.spots i ∷ place_at places (parent_at old.spots i)) ≡ true =
          subst (λ q. is_within (place_at places first) q ≡ true) s' w in
          elim (within_cases (place_at places first) (step_at old.spots i) (place_at places (parent_at old.spots i)) w') [
            | inl e ↦ same_first (e ∙ sym s')
            | inr up ↦
                let parent : is_gone now.gone (parent_at old.spots i) ≡ false = elim (s.closed i p h) [ inl m ↦ absurd m | inr r ↦ r.0 ] in
                let less : parent_at old.spots i < i = shape.parents i p wi in
                below_gone n places old now first (parent_at old.spots i) shape sound g s (omega arith) parent up
          ]
    ]

alive_by : (b c : Bool) (i : ℕ) (gone : Bool) → (b ≡ true → gone ≡ true) → (gone ≡ true → (b ≡ true) ⊎ (c ≡ true)) → (gone ≡ false → c ≡ true → ⊥)
    → not gone ≡ (not b && not c)
alive_by true c i true k o u = refl
alive_by true c i false k o u = absurd (false≢true (k refl))
alive_by false true i true k o u = refl
alive_by false true i false k o u = absurd (u refl refl)
alive_by false false i true k o u = elim (o refl) [ inl e ↦ absurd (false≢true e) | inr e ↦ absurd (false≢true e) ]
alive_by false false i false k o u = refl

-- what is there after a slot was taken away: what was there and doesn't stand at or below its place
pub alive_after : (places : List Place) (a : ArenaData) (first : ℕ) → IsShaped a.spots places → IsSound a → 0 < first → is_gone a.gone first ≡ false
    → (i : ℕ) → is_alive (removed a first).gone i ≡ (is_alive a.gone i && not (is_within (place_at places first) (place_at places i)))
alive_after places a first shape sound p g i =
    let s = swept places a first shape sound p g in
    alive_by (is_gone a.gone i) (is_within (place_at places first) (place_at places i)) i (is_gone (removed a first).gone i)
    (s.kept i) (s.only i) (λ h w. below_gone (suc i) places a (removed a first) first i shape sound g s (omega arith) h w)

-- it is sound as before
pub sound_after : (places : List Place) (a : ArenaData) (first : ℕ) → IsShaped a.spots places → IsSound a → 0 < first → is_gone a.gone first ≡ false
    → IsSound (removed a first)
sound_after places a first shape sound p g =
    let s = swept places a first shape sound p g in
    let now : ArenaData = removed a first in
    let was : (i : ℕ) → is_gone now.gone i ≡ false → is_gone a.gone i ≡ false = λ i h.
    elim (cases_Bool (is_gone a.gone i)) [ inl t ↦ absurd (true≢false (sym (s.kept i t) ∙ h)) | inr f ↦ f ] in
    record {
      gone = s.gone_len ∙ (sound.gone ∙ ap length (sym s.spots));
      below = s.below_len ∙ (sound.below ∙ ap length (sym s.spots));
      leads = ap length s.leads ∙ (sound.leads ∙ ap length (sym s.spots));
      root = elim (cases_Bool (is_gone now.gone 0)) [
        | inl t ↦ elim (s.only 0 t) [
          | inl e ↦ absurd (true≢false (sym e ∙ sound.root))
          | inr w ↦
              let wf : first < length a.spots = subst (λ m. first < m) sound.gone (there_within a.gone first g) in
              let r : is_within (place_at places first) [] ≡ true = subst (λ q. is_within (place_at places first) q ≡ true) shape.root w in
              let e : place_at places first ≡ [] = Rattle.dts_tree.proofs.PlaceLaws.same_place (place_at places first) [] r in
              let bad : step_at a.spots first ∷ place_at places (parent_at a.spots first) ≡ [] = sym (shape.steps first p wf) ∙ e in
              absurd (cc)
        ]
        | inr f ↦ f
      ];
      parents = λ i q h. elim (s.closed i q h) [ inl m ↦ absurd m | inr r ↦ subst (λ sp. is_gone now.gone (parent_at sp i) ≡ false) (sym s.spots) r.0 ];
      listed = λ i q h. elim (s.closed i q h) [ inl m ↦ absurd m | inr r ↦ subst (λ sp. Member i (below_at now (parent_at sp i))) (sym s.spots) r.1 ];
      lists = λ i c m. elim (s.below i) [
        | inl e ↦ subst (λ sp. (0 < c) × (c < length sp) × (parent_at sp c ≡ i)) (sym s.spots) (sound.lists i c (subst (λ l. Member c l) e m))
        | inr e ↦ absurd (subst (λ l. Member c l) e m)
      ];
      led = λ i q h. subst (λ sp. Rattle.dts_tree.proofs.Shape.lead_at now (parent_at sp i) (step_at sp i) ≡ Some i) (sym s.spots)
          (subst (λ ls. Rattle.dts_tree.specs.Inner.Arena.lead_of (get_or ls (parent_at a.spots i) Rattle.dts_tree.specs.Inner.Arena.no_leads) (step_at a.spots i) ≡ Some i) (sym s.leads) (sound.led i q (was i h)));
      leads_right = λ i j t h. subst (λ sp. (0 < j) × (j < length sp) × (parent_at sp j ≡ i) × (step_at sp j ≡ t)) (sym s.spots)
          (sound.leads_right i j t (subst (λ ls. Rattle.dts_tree.specs.Inner.Arena.lead_of (get_or ls i Rattle.dts_tree.specs.Inner.Arena.no_leads) t ≡ Some j) s.leads h));
    }
