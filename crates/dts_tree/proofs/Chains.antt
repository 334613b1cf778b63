-- The text of a path by the slots above, and what labels name at the end.
use Rattle.std.proofs.Common.{◌≡◌, ◌∙◌, ◌<◌, ◌≤◌, ◌++◌, ◌⊎◌, ◌∷◌, [], ℕ, zero, suc, Bool, true, false, not, cond, List, Option, Some, None, length, map, get_or, reverse, fold, refl, sym, ap, subst, inl, inr, arith}
use Rattle.std.specs.Prelude.{slice_get}
use Rattle.std.specs.Option.{option_map_or}
use Rattle.std.specs.List.{filter}
use Rattle.std.proofs.lemmas.Bool.{cases_eq, cases_lt, eq-eqb, ne_eqb}
use Rattle.std.proofs.lemmas.List.{reverse-append, get_or-map, get_or_past, length-map}
use Rattle.std.proofs.lemmas.Option.{slice_get_past, none-some}
use Rattle.dts_tree.specs.declared.spot.Spot.{Spot}
use Rattle.dts_tree.specs.Live.{last_of}
use Rattle.dts_tree.specs.Inner.Arena.{is_gone, is_alive, named}
use Rattle.dts_tree.specs.Inner.Machine.{ReaderData, LabelsData, alive_in, stack_at, stack_of}
use Rattle.dts_tree.specs.Inner.Grown.{ParentsRise, slot_parent, with_slash, slot_text, text_of, last_alive}
use Rattle.dts_tree.specs.Inner.Finding.{tops_of, top_at}

-- ---- texts

low_by : (spots : List Spot) (i : ℕ) (o : Option Spot) → ParentsRise spots → slice_get spots i ≡ o → 0 < i → option_map_or (λ (s : Spot). s.parent) o 0 < i
low_by spots i None r e p = p
low_by spots i (Some s) r e p = r.before i s e p

pub parent_low : (spots : List Spot) (i : ℕ) → ParentsRise spots → 0 < i → slot_parent spots i < i
parent_low spots i r p = low_by spots i (slice_get spots i) r refl p

root_text : (n : ℕ) (spots : List Spot) (i : ℕ) → i ≡ 0 → slot_text n spots i ≡ []
root_text zero spots i e = refl
root_text (suc n) spots i e = ap (λ b. cond b [] (with_slash spots (slot_text n spots (slot_parent spots i)) i)) (eq-eqb i 0 e)

text_on : (n : ℕ) (spots : List Spot) (i : ℕ) → (i ≡ 0 → ⊥) → slot_text (suc n) spots i ≡ with_slash spots (slot_text n spots (slot_parent spots i)) i
text_on n spots i d = ap (λ b. cond b [] (with_slash spots (slot_text n spots (slot_parent spots i)) i)) (ne_eqb i 0 d)

text_enough : (n m : ℕ) (spots : List Spot) → ParentsRise spots → (i : ℕ) → i ≤ n → i ≤ m → slot_text n spots i ≡ slot_text m spots i
text_enough zero m spots r i a b = sym (root_text m spots i (omega arith))
text_enough (suc n) zero spots r i a b = root_text (suc n) spots i (omega arith)
text_enough (suc n) (suc m) spots r i a b = elim (cases_eq i 0) [
  | inl z ↦ root_text (suc n) spots i z ∙ sym (root_text (suc m) spots i z)
  | inr d ↦
      let up : slot_parent spots i < i = parent_low spots i r (omega arith) in
      text_on n spots i d
      ∙ (ap (λ t. with_slash spots t i) (text_enough n m spots r (slot_parent spots i) (omega arith) (omega arith)) ∙ sym (text_on m spots i d))
]

up_low : (spots : List Spot) (n i : ℕ) → length spots ≡ suc n → ParentsRise spots → (i ≡ 0 → ⊥) → slot_parent spots i ≤ n
up_low spots n i e r d = elim (cases_lt i (length spots)) [
  | inl l ↦ let up : slot_parent spots i < i = parent_low spots i r (omega arith) in omega arith
  | inr l ↦
      let none : slot_parent spots i ≡ 0 = ap (λ o. option_map_or (λ (s : Spot). s.parent) o 0) (slice_get_past spots i l) in
      omega arith
]

text_by : (n : ℕ) (spots : List Spot) → length spots ≡ n → ParentsRise spots → (i : ℕ) → (i ≡ 0 → ⊥) → slot_text n spots i ≡ with_slash spots (slot_text n spots (slot_parent spots i)) i
text_by zero spots e r i d = let some : 0 < length spots = r.some in absurd (omega arith)
text_by (suc n) spots e r i d =
    let low : slot_parent spots i ≤ n = up_low spots n i e r d in
    text_on n spots i d ∙ ap (λ t. with_slash spots t i) (text_enough n (suc n) spots r (slot_parent spots i) low (omega arith))

-- the text of a slot's path is that of its parent's with a name more
pub text_up : (spots : List Spot) → ParentsRise spots → (i : ℕ) → (i ≡ 0 → ⊥) → text_of spots i ≡ with_slash spots (text_of spots (slot_parent spots i)) i
text_up spots r i d = text_by (length spots) spots refl r i d

-- a slot more behind those so far
pub chain_turn : (spots : List Spot) → ParentsRise spots → (at next slot : ℕ) (chain put : List ℕ) → (at ≡ 0 → ⊥) → put ≡ chain ++ at ∷ [] → next ≡ slot_parent spots at
    → fold (with_slash spots) (text_of spots at) (reverse chain) ≡ text_of spots slot → fold (with_slash spots) (text_of spots next) (reverse put) ≡ text_of spots slot
chain_turn spots r at next slot chain put d e f h =
    let back : reverse put ≡ at ∷ reverse chain = ap reverse e ∙ reverse-append chain (at ∷ []) in
    ap (fold (with_slash spots) (text_of spots next)) back
    ∙ (ap (λ n. fold (with_slash spots) (with_slash spots (text_of spots n) at) (reverse chain)) f
    ∙ (ap (λ t. fold (with_slash spots) t (reverse chain)) (sym (text_up spots r at d)) ∙ h))

-- ---- labels

alive_by : (b : Bool) (gone : List Bool) (o : Option ℕ) (i : ℕ) (is : List ℕ)
    → last_alive gone (cond b o (Some i)) is ≡ fold (λ _ y. Some y) (cond b o (Some i)) (filter (is_alive gone) is)
    → last_alive gone (cond b o (Some i)) is ≡ fold (λ _ y. Some y) o (cond (not b) (i ∷ filter (is_alive gone) is) (filter (is_alive gone) is))
alive_by true gone o i is h = h
alive_by false gone o i is h = h

last_alive_is : (gone : List Bool) (is : List ℕ) (o : Option ℕ) → last_alive gone o is ≡ fold (λ _ y. Some y) o (filter (is_alive gone) is)
last_alive_is gone [] o = refl
last_alive_is gone (i ∷ is) o = alive_by (is_gone gone i) gone o i is (last_alive_is gone is (cond (is_gone gone i) o (Some i)))

top_by : (gone : List Bool) (l : LabelsData) (o : Option ℕ) → top_at (map (last_alive gone None) l.stacks) o ≡ last_of (alive_in gone (stack_at l o))
top_by gone l None = refl
top_by gone l (Some n) = elim (cases_lt n (length l.stacks)) [
  | inl w ↦ get_or-map (last_alive gone None) l.stacks n [] None w ∙ last_alive_is gone (get_or l.stacks n []) None
  | inr w ↦
      get_or_past (map (last_alive gone None) l.stacks) n None (subst (λ m. m ≤ n) (sym (length-map l.stacks (last_alive gone None))) w)
      ∙ ap (λ is. last_of (alive_in gone is)) (sym (get_or_past l.stacks n [] w))
]

-- the last slot of a label's stack that is there
pub tops_named : (r : ReaderData) (k : List ℕ) → top_at (tops_of r) (named k r.labels.numbers) ≡ last_of (alive_in r.arena.gone (stack_of r.labels k))
tops_named r k = top_by r.arena.gone r.labels (named k r.labels.numbers)
