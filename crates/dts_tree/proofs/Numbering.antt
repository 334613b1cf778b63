-- No two nodes have one phandle.
use Rattle.std.proofs.Common.{◌≡◌, ◌∙◌, ◌+◌, ◌<◌, ◌≤◌, ◌^◌, ◌++◌, ◌⊎◌, ◌∷◌, [], ℕ, zero, suc, Bool, true, false, not, cond, ◌&&◌, ◌||◌, List, Option, Some, None, length, map, get_or, set, take, refl, sym, ap, subst, inl, inr, arith, eqb}
use Rattle.std.specs.Prelude.{fold, is_some, slice_get, nat_le}
use Rattle.std.specs.Option.{option_and_then, option_map, option_map_or}
use Rattle.std.specs.List.{list_any}
use Rattle.std.proofs.lemmas.Bool.{false≢true, true≢false, cases_lt, cases_eq}
use Rattle.std.proofs.lemmas.Bool.Decides.{nat_tests}
use Rattle.std.proofs.lemmas.List.{length-set, length-map, get_or-set_same, get_or-set_other, get_or_past, set_past, get_or-map, append_assoc, append-nil}
use Rattle.std.proofs.lemmas.Option.{same_Some, none-some, slice_get_cases, slice_get_past, get_or_from_slice_get, slice_get_within}
use Rattle.edt_base.specs.NodeData.{holds_number}
use Rattle.dts_tree.specs.declared.draft.DraftCell.{DraftCell}
use Rattle.dts_tree.specs.declared.draft.DraftCell.TheVariants as draft
use Rattle.dts_tree.specs.Drafts.{DraftPartData, DraftData}
use Rattle.dts_tree.specs.Final.{is_taken, least_free, given_to, written, written_number, cell_phandle, only_cell, draft_prop, phandle_name, refs, phandles}
use Rattle.dts_tree.specs.Rules.{is_bad_phandle, first_bad_phandle}
use Rattle.dts_tree.proofs.Lists.{true_or_false, or_left, or_right, and_parts}
use Rattle.dts_tree.proofs.Giving.{IsLeastFree, least}

abbrev pub number_of : List (Option ℕ) → ℕ → Option ℕ
number_of numbers i = get_or numbers i None

-- ---- a number that a node has is taken

holds_it : (n m : ℕ) → n ≡ m → holds_number n (Some m) ≡ true
holds_it n m e = grind (arith, nat_tests)

pub taken_at : (numbers : List (Option ℕ)) (i n : ℕ) → number_of numbers i ≡ Some n → is_taken numbers n ≡ true
taken_at [] i n h = absurd (none-some n h)
taken_at (x ∷ xs) zero n h = or_left (holds_number n x) (is_taken xs n) (ap (holds_number n) h ∙ holds_it n n refl)
taken_at (x ∷ xs) (suc i) n h = or_right (holds_number n x) (is_taken xs n) (taken_at xs i n h)

-- ---- what holds before and after each is given

pub record IsNumbering (first numbers : List (Option ℕ)) : Type 0 where
  pub few : length numbers ≤ 65535
  pub long : length numbers ≡ length first
  pub apart : (i j n : ℕ) → number_of numbers i ≡ Some n → number_of numbers j ≡ Some n → i ≡ j
  pub small : (i n : ℕ) → number_of numbers i ≡ Some n → n < 2 ^ 32
  pub kept : (i n : ℕ) → number_of first i ≡ Some n → number_of numbers i ≡ Some n

given_here : (numbers : List (Option ℕ)) (i k n : ℕ) → i < length numbers → number_of (set numbers i (Some (least_free numbers))) k ≡ Some n
    → ((k ≡ i) × (n ≡ least_free numbers)) ⊎ ((k ≡ i → ⊥) × (number_of numbers k ≡ Some n))
given_here numbers i k n l h = elim (cases_eq k i) [
  | inl e ↦
      let s : number_of (set numbers i (Some (least_free numbers))) i ≡ Some (least_free numbers) = get_or-set_same numbers i (Some (least_free numbers)) None l in
      let t : number_of (set numbers i (Some (least_free numbers))) i ≡ Some n = subst (λ m. number_of (set numbers i (Some (least_free numbers))) m ≡ Some n) e h in
      inl (e, same_Some n (least_free numbers) (sym t ∙ s))
  | inr ne ↦ inr (ne, sym (get_or-set_other numbers i k (Some (least_free numbers)) None ne) ∙ h)
]

apart_given : (numbers : List (Option ℕ)) (i a b n : ℕ) → i < length numbers
    → ((i j n : ℕ) → number_of numbers i ≡ Some n → number_of numbers j ≡ Some n → i ≡ j)
    → number_of (set numbers i (Some (least_free numbers))) a ≡ Some n → number_of (set numbers i (Some (least_free numbers))) b ≡ Some n → a ≡ b
apart_given numbers i a b n l apart h k = elim (given_here numbers i a n l h) [
  | inl p ↦ elim (given_here numbers i b n l k) [
    | inl q ↦ p.0 ∙ sym q.0
    | inr q ↦
        let t : is_taken numbers n ≡ true = taken_at numbers b n q.1 in
        absurd (true≢false (sym t ∙ (ap (is_taken numbers) p.1 ∙ (least numbers).free)))
  ]
  | inr p ↦ elim (given_here numbers i b n l k) [
    | inl q ↦
        let t : is_taken numbers n ≡ true = taken_at numbers a n p.1 in
        absurd (true≢false (sym t ∙ (ap (is_taken numbers) q.1 ∙ (least numbers).free)))
    | inr q ↦ apart a b n p.1 q.1
  ]
]

given_numbering : (first numbers : List (Option ℕ)) (i : ℕ) → IsNumbering first numbers → number_of numbers i ≡ None → i < length numbers
    → IsNumbering first (set numbers i (Some (least_free numbers)))
given_numbering first numbers i g none l =
    let same : length (set numbers i (Some (least_free numbers))) ≡ length numbers = length-set {A = Option ℕ} numbers i (Some (least_free numbers)) in
    record {
      few = subst (λ m. m ≤ 65535) (sym same) g.few;
      long = same ∙ g.long;
      apart = λ a b n h k. apart_given numbers i a b n l g.apart h k;
      small = λ a n h. elim (given_here numbers i a n l h) [
        | inl p ↦
            let few : least_free numbers ≤ length numbers + 1 = (least numbers).few in
            let low : length numbers ≤ 65535 = g.few in
            let same_number : n ≡ least_free numbers = p.1 in
            omega arith
        | inr p ↦ g.small a n p.1
      ];
      kept = λ a n h. elim (cases_eq a i) [
        | inl e ↦ absurd (none-some n (sym (ap (number_of numbers) e ∙ none) ∙ g.kept a n h))
        | inr ne ↦ get_or-set_other numbers i a (Some (least_free numbers)) None ne ∙ g.kept a n h
      ];
    }

step_by : (o : Option ℕ) (first numbers : List (Option ℕ)) (i : ℕ) → number_of numbers i ≡ o → IsNumbering first numbers
    → IsNumbering first (cond (is_some o) numbers (set numbers i (Some (least_free numbers))))
step_by (Some n) first numbers i e g = g
step_by None first numbers i e g = elim (cases_lt i (length numbers)) [
  | inl l ↦ given_numbering first numbers i g e l
  | inr past ↦ subst (IsNumbering first) (sym (set_past numbers i (Some (least_free numbers)) past)) g
]

step : (first numbers : List (Option ℕ)) (i : ℕ) → IsNumbering first numbers → IsNumbering first (given_to numbers i)
step first numbers i g = step_by (number_of numbers i) first numbers i refl g

steps : (first numbers : List (Option ℕ)) (is : List ℕ) → IsNumbering first numbers → IsNumbering first (fold given_to numbers is)
steps first numbers [] g = g
steps first numbers (i ∷ is) g = steps first (given_to numbers i) is (step first numbers i g)

-- ---- written phandles

le_true : (a b : ℕ) → nat_le a b ≡ true → a ≤ b
le_true a b h = grind (arith, nat_tests)

number_by : (b : Bool) (m n : ℕ) → (nat_le 1 m && nat_le m 4294967294) ≡ b → cond b (Some m) None ≡ Some n → n < 2 ^ 32
number_by true m n e h =
    let r = and_parts (nat_le 1 m) (nat_le m 4294967294) e in
    let l : m ≤ 4294967294 = le_true m 4294967294 r.1 in
    let s : m ≡ n = same_Some m n h in
    omega arith
number_by false m n e h = absurd (none-some n h)

cell_small : (c : DraftCell) (n : ℕ) → cell_phandle c ≡ Some n → n < 2 ^ 32
cell_small (draft.Num m) n h = number_by (nat_le 1 m && nat_le m 4294967294) m n refl h
cell_small (draft.Ref r) n h = absurd (none-some n h)

pub value_small_by : (o : Option DraftCell) (n : ℕ) → option_and_then cell_phandle o ≡ Some n → n < 2 ^ 32
value_small_by None n h = absurd (none-some n h)
value_small_by (Some c) n h = cell_small c n h

written_small_by : (o : Option (List DraftPartData)) (n : ℕ) → option_and_then written_number o ≡ Some n → n < 2 ^ 32
written_small_by None n h = absurd (none-some n h)
written_small_by (Some parts) n h = value_small_by (only_cell parts) n h

pub written_small : (d : DraftData) (n : ℕ) → written d ≡ Some n → n < 2 ^ 32
written_small d n h = written_small_by (draft_prop phandle_name d.props) n h

has_by : (o : Option (List DraftPartData)) (n : ℕ) → option_and_then written_number o ≡ Some n → is_some o ≡ true
has_by None n h = absurd (none-some n h)
has_by (Some parts) n h = refl

-- a node with a good phandle has one that none before it has
good_by : (a : Bool) (o : Option ℕ) (f : ℕ → Bool) (n : ℕ) → o ≡ Some n → a ≡ true → (a && option_map_or f o true) ≡ false → f n ≡ false
good_by true o f n e t h = ap (λ p. option_map_or f p true) (sym e) ∙ h
good_by false o f n e t h = absurd (false≢true t)

good_number : (earlier : List DraftData) (d : DraftData) (n : ℕ) → written d ≡ Some n → is_bad_phandle earlier d ≡ false → is_taken (map written earlier) n ≡ false
good_number earlier d n e h =
    good_by (is_some (draft_prop phandle_name d.props)) (written d) (is_taken (map written earlier)) n e (has_by (draft_prop phandle_name d.props) n e) h

none_bad_by : (b : Bool) (d : DraftData) (o : Option DraftData) → cond b (Some d) o ≡ None → (b ≡ false) × (o ≡ None)
none_bad_by true d o h = absurd (none-some d (sym h))
none_bad_by false d o h = (refl, h)

-- no node has a bad phandle
pub good_at : (earlier ds : List DraftData) → first_bad_phandle earlier ds ≡ None → (j : ℕ) (d : DraftData) → slice_get ds j ≡ Some d
    → is_bad_phandle (earlier ++ take j ds) d ≡ false
good_at earlier [] h j d e = absurd (none-some d e)
good_at earlier (x ∷ xs) h zero d e =
    let r = none_bad_by (is_bad_phandle earlier x) x (first_bad_phandle (earlier ++ x ∷ []) xs) h in
    let same : x ≡ d = same_Some x d e in
    let nil : earlier ++ [] ≡ earlier = append-nil earlier in
    subst (λ es. is_bad_phandle es d ≡ false) (sym nil) (subst (λ y. is_bad_phandle earlier y ≡ false) same r.0)
good_at earlier (x ∷ xs) h (suc j) d e =
    let r = none_bad_by (is_bad_phandle earlier x) x (first_bad_phandle (earlier ++ x ∷ []) xs) h in
    let g : is_bad_phandle ((earlier ++ x ∷ []) ++ take j xs) d ≡ false = good_at (earlier ++ x ∷ []) xs r.1 j d e in
    subst (λ es. is_bad_phandle es d ≡ false) (append_assoc earlier (x ∷ []) (take j xs)) g

at_written : (ds : List DraftData) (i n : ℕ) → number_of (map written ds) i ≡ Some n → (d : DraftData) × (slice_get ds i ≡ Some d) × (written d ≡ Some n)
at_written [] i n h = absurd (none-some n h)
at_written (x ∷ xs) zero n h = (x, refl, h)
at_written (x ∷ xs) (suc i) n h = at_written xs i n h

taken_before : (ds : List DraftData) (i j n : ℕ) → i < j → number_of (map written ds) i ≡ Some n → is_taken (map written (take j ds)) n ≡ true
taken_before [] i j n l h = absurd (none-some n h)
taken_before (x ∷ xs) i zero n l h = absurd (omega arith)
taken_before (x ∷ xs) zero (suc j) n l h = or_left (holds_number n (written x)) (is_taken (map written (take j xs)) n) (ap (holds_number n) h ∙ holds_it n n refl)
taken_before (x ∷ xs) (suc i) (suc j) n l h = or_right (holds_number n (written x)) (is_taken (map written (take j xs)) n) (taken_before xs i j n (omega arith) h)

never_before : (ds : List DraftData) → first_bad_phandle [] ds ≡ None → (i j n : ℕ) → i < j → number_of (map written ds) i ≡ Some n → number_of (map written ds) j ≡ Some n → ⊥
never_before ds good i j n l h k =
    let w = at_written ds j n k in
    let f : is_taken (map written (take j ds)) n ≡ false = good_number (take j ds) w.0 n w.2 (good_at [] ds good j w.0 w.1) in
    true≢false (sym (taken_before ds i j n l h) ∙ f)

written_apart : (ds : List DraftData) → first_bad_phandle [] ds ≡ None → (i j n : ℕ) → number_of (map written ds) i ≡ Some n → number_of (map written ds) j ≡ Some n → i ≡ j
written_apart ds good i j n h k = elim (cases_eq i j) [
  | inl e ↦ e
  | inr ne ↦ elim (cases_lt i j) [
    | inl l ↦ absurd (never_before ds good i j n l h k)
    | inr l ↦ absurd (never_before ds good j i n (omega arith) k h)
  ]
]

-- the phandles of all nodes
pub numbering : (ds : List DraftData) → length ds ≤ 65535 → first_bad_phandle [] ds ≡ None → IsNumbering (map written ds) (phandles ds)
unfolding phandles
numbering ds few good =
    let same : length (map written ds) ≡ length ds = length-map ds written in
    steps (map written ds) (map written ds) (refs ds) (record {
      few = subst (λ m. m ≤ 65535) (sym same) few;
      long = refl;
      apart = written_apart ds good;
      small = λ i n h. let w = at_written ds i n h in written_small w.0 n w.2;
      kept = λ i n h. h;
    })
