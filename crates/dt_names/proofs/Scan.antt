-- Steps of a search for clashes.
use Rattle.std.proofs.Common.{◌≡◌, ◌+◌, ℕ, zero, suc, Bool, true, false, not, List, [], ◌∷◌, ◌++◌, ◌&&◌, ◌||◌, Option, Some, ◌⊎◌, inl, inr, length, length-append, refl, sym, ap, subst, ◌∙◌, arith, append_assoc}
use Rattle.std.specs.Prelude.{slice_get, unwrap_or}
use Rattle.std.specs.List.{Contains, list_any}
use Rattle.std.specs.Str.{bytes_eq}
use Rattle.std.proofs.lemmas.Bool.{cases_Bool, and_parts, and_from}
use Rattle.std.proofs.lemmas.List.{append-nil}
use Rattle.std.proofs.lemmas.Option.{slice_get_within}
use Rattle.std.proofs.lemmas.List.Elements.{Contains-append_left, Contains-append_right, Contains-append_cases, Contains-push, Contains-push_cases}
use Rattle.std.proofs.lemmas.Slice.Eq.{bytes_eq-Decides}
use Rattle.dt_names.specs.Clash.{SaidData, said, same_said, same_params, share_name, agree, clashes, is_repeated, AreFree, IsClash, AreDoubles, doubles_from}
use Rattle.dt_names.specs.Facts.{FactData, full_name}
use Rattle.dt_names.specs.Inner.Firsts.{IsNew}
use Rattle.dt_names.specs.Inner.Keys.{NameTexts, Tells, AreDistinct, Keeps, texts_of}
use Rattle.dt_names.specs.Pieces.{spells}
use Rattle.dt_names.specs.Inner.Scanned.{IsScanned}
use Rattle.dt_names.specs.declared.key.Key.{Key}
use Rattle.dt_names.specs.declared.piece.Params.{Params}
use Rattle.dt_names.specs.declared.piece.Params.TheVariants.{Plain, Fn, FnSep, FnVargs}

-- ---- what definitions say

params_refl : (p : Params) → same_params p p ≡ true
params_refl Plain = refl
params_refl Fn = refl
params_refl FnSep = refl
params_refl FnVargs = refl

params_told : (p q : Params) → same_params p q ≡ true → p ≡ q
params_told Plain Plain h = refl
params_told Fn Fn h = refl
params_told FnSep FnSep h = refl
params_told FnVargs FnVargs h = refl
params_told Plain Fn h = absurd (cc)
params_told Plain FnSep h = absurd (cc)
params_told Plain FnVargs h = absurd (cc)
params_told Fn Plain h = absurd (cc)
params_told Fn FnSep h = absurd (cc)
params_told Fn FnVargs h = absurd (cc)
params_told FnSep Plain h = absurd (cc)
params_told FnSep Fn h = absurd (cc)
params_told FnSep FnVargs h = absurd (cc)
params_told FnVargs Plain h = absurd (cc)
params_told FnVargs Fn h = absurd (cc)
params_told FnVargs FnSep h = absurd (cc)

bytes_told : (a b : List ℕ) → bytes_eq a b ≡ true → a ≡ b
bytes_told a b h = (bytes_eq-Decides a b).0 h

bytes_from : (a b : List ℕ) → a ≡ b → bytes_eq a b ≡ true
bytes_from a b h = (bytes_eq-Decides a b).1 h

said_told : (p q : SaidData) → same_said p q ≡ true → (p.params ≡ q.params) × (spells p.body ≡ spells q.body)
said_told p q h =
    let e : (same_params p.params q.params ≡ true) × (bytes_eq (spells p.body) (spells q.body) ≡ true) = and_parts _ _ h in
    (params_told p.params q.params e.0, bytes_told (spells p.body) (spells q.body) e.1)

pub said_from : (p q : SaidData) → p.params ≡ q.params → spells p.body ≡ spells q.body → same_said p q ≡ true
said_from p q e b = and_from _ _ (ap (same_params p.params) (sym e) ∙ params_refl p.params) (bytes_from (spells p.body) (spells q.body) b)

-- both are as a third
said_joined : (h p q : SaidData) → same_said h p ≡ true → same_said h q ≡ true → same_said p q ≡ true
said_joined h p q a b =
    let x = said_told h p a in
    let y = said_told h q b in
    said_from p q (sym x.0 ∙ y.0) (sym x.1 ∙ y.1)

said_turned : (h p q : SaidData) → same_said h p ≡ true → same_said p q ≡ true → same_said h q ≡ true
said_turned h p q a b =
    let x = said_told h p a in
    let y = said_told p q b in
    said_from h q (x.0 ∙ y.0) (x.1 ∙ y.1)

-- ---- lists

at_head : {A : Type 0} (x : A) (xs : List A) → Contains (x ∷ xs) x
at_head x xs = Contains-append_left (x ∷ []) xs x (Contains-push [] x)

in_tail : {A : Type 0} (x : A) (xs : List A) (y : A) → Contains xs y → Contains (x ∷ xs) y
in_tail x xs y h = Contains-append_right (x ∷ []) xs y h

none_of_none : {A : Type 0} (y : A) → Contains [] y → ⊥
none_of_none y h = let lt = h.1 in omega arith

any_none : {A : Type 0} (p : A → Bool) (xs : List A) → ((x : A) → Contains xs x → p x ≡ false) → list_any p xs ≡ false
any_none p [] h = refl
any_none p (x ∷ xs) h = rw (h x (at_head x xs)) (any_none p xs (λ y c. h y (in_tail x xs y c)))

or_right : (b : Bool) → (b || true) ≡ true
or_right true = refl
or_right false = refl

pub any_some : {A : Type 0} (p : A → Bool) (xs : List A) (y : A) → Contains xs y → p y ≡ true → list_any p xs ≡ true
any_some p [] y c h = absurd (none_of_none y c)
any_some p (x ∷ xs) y c h = elim (Contains-append_cases (x ∷ []) xs y c) [
  | inl d ↦ elim (Contains-push_cases [] x y d) [
    | inl none ↦ absurd (none_of_none y none)
    | inr e ↦ let k : p x ≡ true = ap p e ∙ h in rw k refl
  ]
  | inr d ↦ rw (any_some p xs y d h) (or_right (p x))
]

pub get_some : {A : Type 0} (x y : A) → Some x ≡ Some y → x ≡ y
get_some {A = A} x y e = ap (λ (o : Option A). unwrap_or o x) e

get_both : {A : Type 0} (xs : List A) (i : ℕ) (x y : A) → slice_get xs i ≡ Some x → slice_get xs i ≡ Some y → x ≡ y
get_both xs i x y a b = get_some x y (sym a ∙ b)

get_front : {A : Type 0} (xs : List A) (y : A) (i : ℕ) (x : A) → slice_get xs i ≡ Some x → slice_get (xs ++ y ∷ []) i ≡ Some x
get_front [] y zero x h = absurd (cc)
get_front [] y (suc i) x h = absurd (cc)
get_front (z ∷ zs) y zero x h = h
get_front (z ∷ zs) y (suc i) x h = get_front zs y i x h

get_end : {A : Type 0} (xs : List A) (y : A) → slice_get (xs ++ y ∷ []) (length xs) ≡ Some y
get_end [] y = refl
get_end (z ∷ zs) y = get_end zs y

pub get_within : {A : Type 0} (xs : List A) (i : ℕ) (x : A) → slice_get xs i ≡ Some x → Contains xs x
get_within [] zero x h = absurd (cc)
get_within [] (suc i) x h = absurd (cc)
get_within (z ∷ zs) zero x h = let e : z ≡ x = get_some z x h in rw (sym e) (at_head z zs)
get_within (z ∷ zs) (suc i) x h = in_tail z zs x (get_within zs i x h)

get_push : {A : Type 0} (xs : List A) (y : A) (i : ℕ) (x : A) → slice_get (xs ++ y ∷ []) i ≡ Some x → (slice_get xs i ≡ Some x) ⊎ ((i ≡ length xs) × (y ≡ x))
get_push [] y zero x h = inr (refl, get_some y x h)
get_push [] y (suc i) x h = absurd (cc)
get_push (z ∷ zs) y zero x h = inl h
get_push (z ∷ zs) y (suc i) x h = elim (get_push zs y i x h) [
  | inl e ↦ inl e
  | inr e ↦ inr (ap suc e.0, e.1)
]

push_length : {A : Type 0} (xs : List A) (y : A) → length (xs ++ y ∷ []) ≡ length xs + 1
push_length xs y = length-append xs (y ∷ [])

-- ---- keys

pub key_same : (k m : Key) → k.base ≡ m.base → k.prop ≡ m.prop → k.entry ≡ m.entry → k.last ≡ m.last → k ≡ m
key_same k m a b c d = grind (arith, a, b, c, d)

texts_same : (t u : NameTexts) → t.base ≡ u.base → t.prop ≡ u.prop → t.entry ≡ u.entry → t.last ≡ u.last → t ≡ u
texts_same t u a b c d = grind (arith, a, b, c, d)

key_told : (texts : List (List ℕ)) → AreDistinct texts → (k m : Key) (t : NameTexts) → Tells texts k t → Tells texts m t → k ≡ m
key_told texts d k m t x y = key_same k m (d k.base m.base t.base x.0 y.0) (d k.prop m.prop t.prop x.1 y.1) (d k.entry m.entry t.entry x.2 y.2) (d k.last m.last t.last x.3 y.3)

texts_told : (texts : List (List ℕ)) (k : Key) (t u : NameTexts) → Tells texts k t → Tells texts k u → t ≡ u
texts_told texts k t u x y = texts_same t u (get_both texts k.base t.base u.base x.0 y.0) (get_both texts k.prop t.prop u.prop x.1 y.1) (get_both texts k.entry t.entry u.entry x.2 y.2) (get_both texts k.last t.last u.last x.3 y.3)

tells_on : (old new : List (List ℕ)) → Keeps old new → (k : Key) (t : NameTexts) → Tells old k t → Tells new k t
tells_on old new keeps k t x = (keeps k.base t.base x.0, keeps k.prop t.prop x.1, keeps k.entry t.entry x.2, keeps k.last t.last x.3)

-- ---- the search

-- the law of names over a list of definitions: spelled alike only where their texts are the same, and where these are
abbrev pub AreNames : List FactData → Type 0
AreNames fs = ((f g : FactData) → Contains fs f → Contains fs g → spells (full_name f) ≡ spells (full_name g) → texts_of f ≡ texts_of g)
    × ((f g : FactData) → texts_of f ≡ texts_of g → spells (full_name f) ≡ spells (full_name g))

pub scan_begins : (fs : List FactData) (texts : List (List ℕ)) → IsScanned fs fs texts [] [] []
scan_begins fs texts = record {
  earlier = [];
  parts = refl;
  free = tt;
  repeated = refl;
  counted = refl;
  held_each = refl;
  found = λ g c. absurd (none_of_none g c);
  alike = λ g c. absurd (none_of_none g c);
  stands = λ i k e. absurd (none_of_none k (get_within [] i k e));
}

-- more texts
pub scan_grows : (fs left : List FactData) (old new : List (List ℕ)) (keys : List Key) (held : List SaidData) (ds : List ℕ)
    → Keeps old new → AreDistinct new → IsScanned fs left old keys held ds → IsScanned fs left new keys held ds
scan_grows fs left old new keys held ds keeps distinct s = record {
  earlier = s.earlier;
  parts = s.parts;
  free = s.free;
  repeated = s.repeated;
  counted = s.counted;
  held_each = s.held_each;
  found = λ g c. let w = s.found g c in (w.0, w.1, w.2, tells_on old new keeps w.1 (texts_of g) w.3);
  alike = λ g c i k h a b t.
      let w = s.found g c in
      let e : w.1 ≡ k = key_told new distinct w.1 k (texts_of g) (tells_on old new keeps w.1 (texts_of g) w.3) t in
      s.alike g c i k h a b (rw (sym e) w.3);
  stands = λ i k e. let w = s.stands i k e in (w.0, w.1, tells_on old new keeps k (texts_of w.0) w.2);
}

free_push : (earlier xs : List FactData) (f : FactData) → AreFree earlier xs → clashes (earlier ++ xs) f ≡ false → AreFree earlier (xs ++ f ∷ [])
free_push earlier [] f h c = (rw (append-nil earlier) at c, tt)
free_push earlier (x ∷ xs) f h c = (h.0, free_push (earlier ++ x ∷ []) xs f h.1 (rw append_assoc c))

in_front : (fs earlier left : List FactData) (f g : FactData) → fs ≡ earlier ++ f ∷ left → Contains earlier g → Contains fs g
in_front fs earlier left f g e c = rw e (Contains-append_left earlier (f ∷ left) g c)

itself : (fs earlier left : List FactData) (f : FactData) → fs ≡ earlier ++ f ∷ left → Contains fs f
itself fs earlier left f e = rw e (Contains-append_right earlier (f ∷ left) f (at_head f left))

share_texts : (fs : List FactData) → AreNames fs → (f g : FactData) → Contains fs g → Contains fs f → share_name g f ≡ true → texts_of g ≡ texts_of f
share_texts fs names f g c d e = names.0 g f c d (bytes_told (spells (full_name g)) (spells (full_name f)) e)

texts_share : (fs : List FactData) → AreNames fs → (f g : FactData) → texts_of g ≡ texts_of f → share_name g f ≡ true
texts_share fs names f g e = bytes_from (spells (full_name g)) (spells (full_name f)) (names.1 g f e)

once : (ds : List ℕ) (earlier left : List FactData) (f : FactData) (all : List ℕ) → is_repeated earlier f ≡ false
    → ds ++ doubles_from earlier (length earlier) (f ∷ left) ≡ all → ds ++ doubles_from (earlier ++ f ∷ []) (length (earlier ++ f ∷ [])) left ≡ all
once ds earlier left f all r h =
    let k : ds ++ doubles_from (earlier ++ f ∷ []) (length earlier + 1) left ≡ all = rw r at h in
    rw (push_length earlier f) k

again : (ds : List ℕ) (earlier left : List FactData) (f : FactData) (all : List ℕ) → is_repeated earlier f ≡ true
    → ds ++ doubles_from earlier (length earlier) (f ∷ left) ≡ all
    → (ds ++ length earlier ∷ []) ++ doubles_from (earlier ++ f ∷ []) (length (earlier ++ f ∷ [])) left ≡ all
again ds earlier left f all r h =
    let k : ds ++ (length earlier ∷ doubles_from (earlier ++ f ∷ []) (length earlier + 1) left) ≡ all = rw r at h in
    rw (push_length earlier f) (append_assoc ds (length earlier ∷ []) (doubles_from (earlier ++ f ∷ []) (length earlier + 1) left) ∙ k)

alone : (fs left : List FactData) (f : FactData) (texts : List (List ℕ)) (keys : List Key) (held : List SaidData) (ds : List ℕ) (k : Key)
    → AreNames fs → AreDistinct texts → Tells texts k (texts_of f) → IsNew keys k → (s : IsScanned fs (f ∷ left) texts keys held ds)
    → (g : FactData) → Contains s.earlier g → share_name g f ≡ false
alone fs left f texts keys held ds k names distinct t new s g c = elim (cases_Bool (share_name g f)) [
  | inl e ↦
      let same = share_texts fs names f g (in_front fs s.earlier left f g s.parts c) (itself fs s.earlier left f s.parts) e in
      let w = s.found g c in
      let told : Tells texts w.1 (texts_of f) = subst (λ (x : NameTexts). Tells texts w.1 x) same w.3 in
      let m : w.1 ≡ k = key_told texts distinct w.1 k (texts_of f) told t in
      absurd (new w.0 (rw (sym m) w.2))
  | inr e ↦ e
]

new_alike : (fs left : List FactData) (f : FactData) (texts : List (List ℕ)) (keys : List Key) (held : List SaidData) (ds : List ℕ) (k : Key)
    → AreNames fs → AreDistinct texts → Tells texts k (texts_of f) → IsNew keys k → (s : IsScanned fs (f ∷ left) texts keys held ds)
    → (g : FactData) → Contains (s.earlier ++ f ∷ []) g → (i : ℕ) (m : Key) (h : SaidData) → slice_get (keys ++ k ∷ []) i ≡ Some m
    → slice_get (held ++ said f ∷ []) i ≡ Some h → Tells texts m (texts_of g) → same_said h (said g) ≡ true
new_alike fs left f texts keys held ds k names distinct t new s g c i m h a b u = elim (get_push keys k i m a) [
  | inl x ↦ elim (get_push held (said f) i h b) [
    | inl y ↦ elim (Contains-push_cases s.earlier f g c) [
      | inl d ↦ s.alike g d i m h x y u
      | inr e ↦
          let v : Tells texts m (texts_of f) = subst (λ (z : FactData). Tells texts m (texts_of z)) (sym e) u in
          let n : m ≡ k = key_told texts distinct m k (texts_of f) v t in
          absurd (new i (rw (sym n) x))
    ]
    | inr y ↦ let lt = slice_get_within keys i m x in let l = s.held_each in let q = y.0 in absurd (omega arith)
  ]
  | inr x ↦ elim (get_push held (said f) i h b) [
    | inl y ↦ let lt = slice_get_within held i h y in let l = s.held_each in let q = x.0 in absurd (omega arith)
    | inr y ↦ elim (Contains-push_cases s.earlier f g c) [
      | inl d ↦
          let w = s.found g d in
          let n : w.1 ≡ m = key_told texts distinct w.1 m (texts_of g) w.3 u in
          absurd (new w.0 (rw (x.1 ∙ sym n) w.2))
      | inr e ↦ said_from h (said g) (ap (λ (z : SaidData). z.params) (sym y.1) ∙ ap (λ (z : FactData). z.params) e)
          (ap (λ (z : SaidData). spells z.body) (sym y.1) ∙ ap (λ (z : FactData). spells z.body) e)
    ]
  ]
]

pub scan_new : (fs left : List FactData) (f : FactData) (texts : List (List ℕ)) (keys : List Key) (held : List SaidData) (ds : List ℕ) (k : Key)
    → AreNames fs → AreDistinct texts → Tells texts k (texts_of f) → IsNew keys k → IsScanned fs (f ∷ left) texts keys held ds
    → IsScanned fs left texts (keys ++ k ∷ []) (held ++ said f ∷ []) ds
scan_new fs left f texts keys held ds k names distinct t new s =
    let apart = alone fs left f texts keys held ds k names distinct t new s in
    record {
      earlier = s.earlier ++ f ∷ [];
      parts = s.parts ∙ sym (append_assoc s.earlier (f ∷ []) left);
      free = free_push [] s.earlier f s.free (any_none _ s.earlier (λ g c. rw (apart g c) refl));
      repeated = once ds s.earlier left f (doubles_from [] 0 fs) (any_none _ s.earlier apart) s.repeated;
      counted = let a = push_length keys k in let b = push_length s.earlier f in let e = s.counted in omega arith;
      held_each = let a = push_length keys k in let b = push_length held (said f) in let e = s.held_each in omega arith;
      found = λ g c. elim (Contains-push_cases s.earlier f g c) [
        | inl d ↦ let w = s.found g d in (w.0, w.1, get_front keys k w.0 w.1 w.2, w.3)
        | inr e ↦ (length keys, k, get_end keys k, subst (λ (x : FactData). Tells texts k (texts_of x)) e t)
      ];
      alike = new_alike fs left f texts keys held ds k names distinct t new s;
      stands = λ i m a. elim (get_push keys k i m a) [
        | inl b ↦ let w = s.stands i m b in (w.0, Contains-append_left s.earlier (f ∷ []) w.0 w.1, w.2)
        | inr e ↦ (f, Contains-push s.earlier f, subst (λ (x : Key). Tells texts x (texts_of f)) e.1 t)
      ];
    }

-- a definition whose key is there, and what is held under it is as the definition says, or not
pub scan_again : (fs left : List FactData) (f : FactData) (texts : List (List ℕ)) (keys : List Key) (held : List SaidData) (ds : List ℕ) (k : Key)
    → AreNames fs → AreDistinct texts → Tells texts k (texts_of f) → (i : ℕ) (h : SaidData) → slice_get keys i ≡ Some k → slice_get held i ≡ Some h
    → same_said h (said f) ≡ true → IsScanned fs (f ∷ left) texts keys held ds → IsScanned fs left texts keys held (ds ++ (length keys + length ds) ∷ [])
scan_again fs left f texts keys held ds k names distinct t i h at_key at_held same s =
    let one = s.stands i k at_key in
    let one_texts : texts_of one.0 ≡ texts_of f = texts_told texts k (texts_of one.0) (texts_of f) one.2 t in
    let one_said : same_said (said one.0) (said f) ≡ true = said_joined h (said one.0) (said f) (s.alike one.0 one.1 i k h at_key at_held one.2) same in
    let inside = λ (g : FactData) (c : Contains s.earlier g). in_front fs s.earlier left f g s.parts c in
    record {
      earlier = s.earlier ++ f ∷ [];
      parts = s.parts ∙ sym (append_assoc s.earlier (f ∷ []) left);
      free = free_push [] s.earlier f s.free (any_none _ s.earlier (λ g c. elim (cases_Bool (share_name g f)) [
        | inl e ↦
            let v : texts_of g ≡ texts_of f = share_texts fs names f g (inside g c) (itself fs s.earlier left f s.parts) e in
            let u : Tells texts k (texts_of g) = subst (λ (x : NameTexts). Tells texts k x) (sym v) t in
            let w : agree g f ≡ true = said_joined h (said g) (said f) (s.alike g c i k h at_key at_held u) same in
            rw (e, w) refl
        | inr e ↦ rw e refl
      ]));
      repeated = rw s.counted (again ds s.earlier left f (doubles_from [] 0 fs)
          (any_some (λ (g : FactData). share_name g f) s.earlier one.0 one.1 (texts_share fs names f one.0 one_texts)) s.repeated);
      counted = let a = push_length ds (length keys + length ds) in let b = push_length s.earlier f in let e = s.counted in omega arith;
      held_each = s.held_each;
      found = λ g c. elim (Contains-push_cases s.earlier f g c) [
        | inl d ↦ s.found g d
        | inr e ↦ (i, k, at_key, subst (λ (x : FactData). Tells texts k (texts_of x)) e t)
      ];
      alike = λ g c j m p a b u. elim (Contains-push_cases s.earlier f g c) [
        | inl d ↦ s.alike g d j m p a b u
        | inr e ↦
            let v : Tells texts m (texts_of f) = subst (λ (x : FactData). Tells texts m (texts_of x)) (sym e) u in
            let w : Tells texts m (texts_of one.0) = subst (λ (x : NameTexts). Tells texts m x) (sym one_texts) v in
            let r : same_said p (said f) ≡ true = said_turned p (said one.0) (said f) (s.alike one.0 one.1 j m p a b w) one_said in
            subst (λ (x : FactData). same_said p (said x) ≡ true) e r
      ];
      stands = λ j m a. let w = s.stands j m a in (w.0, Contains-append_left s.earlier (f ∷ []) w.0 w.1, w.2);
    }

pub scan_clashes : (fs left : List FactData) (f : FactData) (texts : List (List ℕ)) (keys : List Key) (held : List SaidData) (ds : List ℕ) (k : Key)
    → AreNames fs → Tells texts k (texts_of f) → (i : ℕ) (h : SaidData) → slice_get keys i ≡ Some k → slice_get held i ≡ Some h
    → same_said h (said f) ≡ false → IsScanned fs (f ∷ left) texts keys held ds → IsClash fs f.owner
scan_clashes fs left f texts keys held ds k names t i h at_key at_held other s =
    let one = s.stands i k at_key in
    let one_texts : texts_of one.0 ≡ texts_of f = texts_told texts k (texts_of one.0) (texts_of f) one.2 t in
    let differs : agree one.0 f ≡ false = elim (cases_Bool (agree one.0 f)) [
      | inl e ↦
          let r : same_said h (said f) ≡ true = said_turned h (said one.0) (said f) (s.alike one.0 one.1 i k h at_key at_held one.2) e in
          let q : false ≡ true = sym other ∙ r in absurd (cc)
      | inr e ↦ e
    ] in
    record {
      before = s.earlier;
      first = f;
      after = left;
      parts = s.parts;
      free = s.free;
      differs = any_some (λ (g : FactData). share_name g f && not (agree g f)) s.earlier one.0 one.1
          (rw (texts_share fs names f one.0 one_texts, differs) refl);
      owned = refl;
    }

pub scan_ends : (fs : List FactData) (texts : List (List ℕ)) (keys : List Key) (held : List SaidData) (ds : List ℕ) → IsScanned fs [] texts keys held ds → AreDoubles fs ds
scan_ends fs texts keys held ds s =
    let e : fs ≡ s.earlier = s.parts ∙ append-nil s.earlier in
    (subst (λ (x : List FactData). AreFree [] x) (sym e) s.free, sym (append-nil ds) ∙ s.repeated)
