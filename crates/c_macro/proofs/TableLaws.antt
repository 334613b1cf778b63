-- A table before and after a name is defined or taken out.
use Rattle.std.proofs.Common.{◌≡◌, ℕ, ◌+◌, ◌<◌, ◌≤◌, Bool, true, false, cond, List, [], ◌∷◌, Option, Some, None, option_map, is_some, nat_lt, refl, sym, ap, ◌∙◌, arith, inl, inr, if◌then◌else◌}
use Rattle.std.proofs.lemmas.Bool.{cases_Bool, false_from_ne_true}
use Rattle.std.proofs.lemmas.Bool.Decides.{nat_tests}
use Rattle.std.proofs.lemmas.Slice.Eq.{bytes_eq-Decides}
use Rattle.std.specs.Map.{lookup}
use Rattle.std.specs.Str.{bytes_eq}
use Rattle.edt_base.specs.declared.fault.Rule.TheVariants.{C5}
use Rattle.c_macro.specs.declared.defs.Entry.{Entry}
use Rattle.c_macro.specs.MacroData.{Macro}
use Rattle.c_macro.specs.Directive.{Follows, Define, Undefine, redefined, first_some, same_macro}
use Rattle.c_macro.specs.Table.{Table, macro_in, defs_of, is_before, is_locked, IsTable, known_of}

pub redefined_none : (o : Option Macro) (m : Macro) → o ≡ None → redefined o m ≡ None
redefined_none None m e = refl
redefined_none (Some x) m e = cc

pub redefined_same : (o : Option Macro) (old m : Macro) → o ≡ Some old → same_macro old m ≡ true → redefined o m ≡ None
redefined_same o old m e h = rw (e, h) refl

pub redefined_other : (o : Option Macro) (old m : Macro) → o ≡ Some old → same_macro old m ≡ false → redefined o m ≡ Some C5
redefined_other o old m e h = rw (e, h) refl

first_stays : (o p : Option Macro) (old : Macro) → o ≡ Some old → o ≡ first_some o p
first_stays None p old e = cc
first_stays (Some x) p old e = refl

none_first : (o p : Option Macro) → p ≡ None → o ≡ first_some o p
none_first None p e = sym e
none_first (Some x) p e = refl

same_bytes : (a b : List ℕ) → bytes_eq a b ≡ true → a ≡ b
same_bytes a b h = (bytes_eq-Decides a b).0 h

turned : (a b : List ℕ) → bytes_eq a b ≡ bytes_eq b a
turned a b = elim (cases_Bool (bytes_eq a b)) [
  | inl h ↦ h ∙ sym ((bytes_eq-Decides b a).1 (sym (same_bytes a b h)))
  | inr h ↦ h ∙ sym (false_from_ne_true (bytes_eq b a) (λ k. let e : false ≡ true = sym h ∙ (bytes_eq-Decides a b).1 (sym (same_bytes b a k)) in cc))
]

-- a name that has the macro keeps it
pub follows_same : (t : Table) (name : List ℕ) (m old : Macro) → defs_of t name ≡ Some old → Follows (known_of t) (Some (Define name m)) (known_of t)
follows_same t name m old is = record {
  defs = λ n. elim (cases_Bool (bytes_eq n name)) [
    | inl h ↦ first_stays (defs_of t n) _ old (ap (defs_of t) (same_bytes n name h) ∙ is)
    | inr h ↦ none_first (defs_of t n) _ (rw h refl)
  ];
  locked = λ n. refl;
}

-- the entry of a name is this one now, or none, and the others are as they were
abbrev pub Sets : List (List ℕ × Entry) → List (List ℕ × Entry) → List ℕ → Option Entry → Type 0
Sets old new name o = (n : List ℕ) → lookup (bytes_eq n) new ≡ cond (bytes_eq name n) o (lookup (bytes_eq n) old)

here : (old new : List (List ℕ × Entry)) (name n : List ℕ) (o : Option Entry) → Sets old new name o → bytes_eq name n ≡ true → lookup (bytes_eq n) new ≡ o
here old new name n o sets h = sets n ∙ ap (λ b. cond b o (lookup (bytes_eq n) old)) h

there : (old new : List (List ℕ × Entry)) (name n : List ℕ) (o : Option Entry) → Sets old new name o → bytes_eq name n ≡ false → lookup (bytes_eq n) new ≡ lookup (bytes_eq n) old
there old new name n o sets h = sets n ∙ ap (λ b. cond b o (lookup (bytes_eq n) old)) h

no_macro : (o : Option Entry) → macro_in o ≡ None → o ≡ None
no_macro None e = refl
no_macro (Some x) e = cc

-- ---- a name that is defined anew

pub follows_define : (old new : List (List ℕ × Entry)) (locked count : ℕ) (name : List ℕ) (m : Macro) → IsTable old locked count → macro_in (lookup (bytes_eq name) old) ≡ None → Sets old new name (Some (record { ready = m; at = count }))
    → Follows (known_of (record { entries = old; locked = locked })) (Some (Define name m)) (known_of (record { entries = new; locked = locked }))
follows_define old new locked count name m t none sets = record {
  defs = λ n. elim (cases_Bool (bytes_eq name n)) [
    | inl h ↦
        let e : name ≡ n = same_bytes name n h in
        let a : macro_in (lookup (bytes_eq n) old) ≡ None = ap (λ k. macro_in (lookup (bytes_eq k) old)) (sym e) ∙ none in
        ap macro_in (here old new name n _ sets h) ∙ sym (rw (a, sym (turned name n) ∙ h) refl)
    | inr h ↦ ap macro_in (there old new name n _ sets h) ∙ none_first (macro_in (lookup (bytes_eq n) old)) _ (rw (sym (turned name n) ∙ h) refl)
  ];
  locked = λ n. elim (cases_Bool (bytes_eq name n)) [
    | inl h ↦
        let a : lookup (bytes_eq n) old ≡ None = ap (λ k. lookup (bytes_eq k) old) (sym (same_bytes name n h)) ∙ no_macro (lookup (bytes_eq name) old) none in
        let b : nat_lt count locked ≡ false = let f = t.fits in grind (arith, nat_tests, f) in
        ap (is_before locked) (here old new name n _ sets h) ∙ (b ∙ sym (ap (is_before locked) a))
    | inr h ↦ ap (is_before locked) (there old new name n _ sets h)
  ];
}

pub table_more : (old new : List (List ℕ × Entry)) (locked count : ℕ) (name : List ℕ) (m : Macro) → IsTable old locked count → Sets old new name (Some (record { ready = m; at = count })) → IsTable new locked (count + 1)
table_more old new locked count name m t sets = record {
  below = λ n e h. elim (cases_Bool (bytes_eq name n)) [
    | inl k ↦
        let x : Entry = record { ready = m; at = count } in
        let a : Some x ≡ Some e = sym (here old new name n (Some x) sets k) ∙ h in let b : x ≡ e = cc in let c : count ≡ e.at = ap (λ (y : Entry). y.at) b in omega (arith, c)
    | inr k ↦ let l = t.below n e (sym (there old new name n _ sets k) ∙ h) in omega (arith, l)
  ];
  fits = let f = t.fits in omega (arith, f);
}

-- ---- a name that is taken out

pub follows_undefine : (old new : List (List ℕ × Entry)) (locked : ℕ) (name : List ℕ) → is_before locked (lookup (bytes_eq name) old) ≡ false → Sets old new name None
    → Follows (known_of (record { entries = old; locked = locked })) (Some (Undefine name)) (known_of (record { entries = new; locked = locked }))
follows_undefine old new locked name free sets = record {
  defs = λ n. elim (cases_Bool (bytes_eq name n)) [
    | inl h ↦ ap macro_in (here old new name n _ sets h) ∙ sym (rw h refl)
    | inr h ↦ ap macro_in (there old new name n _ sets h) ∙ sym (rw h refl)
  ];
  locked = λ n. elim (cases_Bool (bytes_eq name n)) [
    | inl h ↦ ap (is_before locked) (here old new name n _ sets h) ∙ sym (ap (λ k. is_before locked (lookup (bytes_eq k) old)) (sym (same_bytes name n h)) ∙ free)
    | inr h ↦ ap (is_before locked) (there old new name n _ sets h)
  ];
}

pub table_fewer : (old new : List (List ℕ × Entry)) (locked count : ℕ) (name : List ℕ) → IsTable old locked count → Sets old new name None → IsTable new locked count
table_fewer old new locked count name t sets = record {
  below = λ n e h. elim (cases_Bool (bytes_eq name n)) [
    | inl k ↦ let a : None ≡ Some e = sym (here old new name n None sets k) ∙ h in cc
    | inr k ↦ t.below n e (sym (there old new name n _ sets k) ∙ h)
  ];
  fits = t.fits;
}

-- ---- names are locked

all_before : (count : ℕ) (o : Option Entry) → ((e : Entry) → o ≡ Some e → e.at < count) → is_before count o ≡ is_some (macro_in o)
all_before count None h = refl
all_before count (Some e) h = let l = h e refl in grind (arith, nat_tests, l)

pub locked_all : (entries : List (List ℕ × Entry)) (locked count : ℕ) → IsTable entries locked count → (name : List ℕ) → is_before count (lookup (bytes_eq name) entries) ≡ is_some (macro_in (lookup (bytes_eq name) entries))
locked_all entries locked count t name = all_before count (lookup (bytes_eq name) entries) (t.below name)

pub table_locked : (entries : List (List ℕ × Entry)) (locked count : ℕ) → IsTable entries locked count → IsTable entries count count
table_locked entries locked count t = record { below = t.below; fits = omega arith }

pub table_starts : (entries : List (List ℕ × Entry)) → entries ≡ [] → IsTable entries 0 0
table_starts entries e = record { below = λ n x h. let a : None ≡ Some x = sym (ap (λ (es : List (List ℕ × Entry)). lookup (bytes_eq n) es) e) ∙ h in cc; fits = omega arith }
