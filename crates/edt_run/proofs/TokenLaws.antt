-- Bytes and tokens: reading gives the tokens that spell the bytes, and no others.
use Rattle.std.proofs.Common.{◌≡◌, ◌<◌, ℕ, zero, suc, ◌-◌, Bool, true, false, List, [], ◌∷◌, ◌++◌, Option, Some, None, map, length, drop, take, nat_eq, refl, sym, ap, subst, ◌∙◌, arith, append-nil, append_assoc, codes, inl, inr}
use Rattle.std.specs.List.{starts_with, take_while, prefix_len, list_all}
use Rattle.std.specs.Str.{bytes_eq}
use Rattle.std.proofs.lemmas.Bool.{cases_Bool, and_parts, eqb-true}
use Rattle.std.proofs.lemmas.Bool.Decides.{nat_tests}
use Rattle.std.proofs.Common.{rules}
use Rattle.std.specs.Prelude.{All}
use Rattle.std.specs.Str.{IsUtf8}
use Rattle.std.proofs.lemmas.Str.{IsUtf8-from_ascii}
use Rattle.std.proofs.lemmas.Str.Ascii.{IsAscii-from_all}
use Rattle.std.proofs.lemmas.List.Elements.{All-cons}
use Rattle.std.proofs.lemmas.Slice.Eq.{bytes_eq-Decides}
use Rattle.std.proofs.lemmas.List.{take-append-drop}
use Rattle.std.proofs.lemmas.List.Sums.{take_while-cons}
use Rattle.std.proofs.lemmas.List.Folds.{length-prefix_len}
use Rattle.std.proofs.Math.Seq.{drop-append_seam, drop-nil}
use Rattle.edt_run.specs.Forest.{Forest, none, tree}
use Rattle.edt_run.specs.Small.{Token, Version, Slash, Open, Close, Semicolon, Name, spelling, is_blank, is_name_byte, IsToken, IsSpelled, body_tokens, source_tokens}
use Rattle.edt_run.specs.Reading.{begins_with, sign, token_at, tail_length, tokens_behind, tokens_of}

-- ---- the longest front of bytes that pass a test

pub front_parts : (p : ℕ → Bool) (xs : List ℕ) → take_while p xs ++ drop (length (take_while p xs)) xs ≡ xs
front_parts p xs = rw (length-prefix_len p xs) (take-append-drop (prefix_len p xs) xs)

pub front_passes : (p : ℕ → Bool) (xs : List ℕ) → list_all p (take_while p xs) ≡ true
front_passes p [] = refl
front_passes p (x ∷ xs) = rw (take_while-cons p x xs) (elim (cases_Bool (p x)) [ inl h ↦ rw (h, h, front_passes p xs) refl | inr h ↦ rw h refl ])

pub front_stops : (p : ℕ → Bool) (xs : List ℕ) → begins_with p (drop (length (take_while p xs)) xs) ≡ false
front_stops p [] = refl
front_stops p (x ∷ xs) = rw (take_while-cons p x xs) (elim (cases_Bool (p x)) [ inl h ↦ rw h (front_stops p xs) | inr h ↦ rw h h ])

pub front_is : (p : ℕ → Bool) (xs rest : List ℕ) → list_all p xs ≡ true → begins_with p rest ≡ false → take_while p (xs ++ rest) ≡ xs
front_is p [] [] a b = refl
front_is p [] (y ∷ ys) a b = rw (take_while-cons p y ys, b) refl
front_is p (x ∷ xs) rest a b =
    let h : (p x ≡ true) × (list_all p xs ≡ true) = and_parts _ _ a in
    rw (take_while-cons p x (xs ++ rest), h.0, front_is p xs rest h.1 b) refl

-- ---- one step over the bytes

pub tokens_behind_drop : (bs : List ℕ) (skip : ℕ) → tokens_behind skip bs ≡ tokens_of (drop skip bs)
unfolding tokens_behind
tokens_behind_drop [] zero = refl
tokens_behind_drop [] (suc k) = refl
tokens_behind_drop (b ∷ bs) zero = refl
tokens_behind_drop (b ∷ bs) (suc k) = tokens_behind_drop bs k

pub tokens_blank : (b : ℕ) (bs : List ℕ) → is_blank b ≡ true → tokens_of (b ∷ bs) ≡ tokens_of bs
unfolding tokens_behind
tokens_blank b bs h = rw h refl

pub tokens_step : (b : ℕ) (bs : List ℕ) → is_blank b ≡ false → tokens_of (b ∷ bs) ≡ token_at b bs ∷ tokens_of (drop (tail_length (token_at b bs)) bs)
unfolding tokens_behind
tokens_step b bs h = rw h (ap (λ ts. token_at b bs ∷ ts) (tokens_behind_drop bs (tail_length (token_at b bs))))

pub tokens_none : tokens_of [] ≡ []
unfolding tokens_behind
tokens_none = refl

pub tokens_blanks : (blanks bs : List ℕ) → list_all is_blank blanks ≡ true → tokens_of (blanks ++ bs) ≡ tokens_of bs
tokens_blanks [] bs a = refl
tokens_blanks (b ∷ blanks) bs a =
    let h : (is_blank b ≡ true) × (list_all is_blank blanks ≡ true) = and_parts _ _ a in
    tokens_blank b (blanks ++ bs) h.0 ∙ tokens_blanks blanks bs h.1

-- ---- what is spelled is read

-- reading takes the longest token: a name ends where no letter or digit follows, and a `/` begins no `/dts-v1/`
abbrev pub IsWhole : Token → List ℕ → Type 0
IsWhole (Name name) rest = begins_with is_name_byte rest ≡ false
IsWhole Slash rest = starts_with nat_eq rest (codes "dts-v1/") ≡ false
IsWhole _ rest = Unit {0}

pub name_is_no_blank : (b : ℕ) → is_name_byte b ≡ true → is_blank b ≡ false
name_is_no_blank b h = grind (arith, nat_tests)

pub name_is_no_slash : (b : ℕ) → is_name_byte b ≡ true → nat_eq 47 b ≡ false
name_is_no_slash b h = grind (arith, nat_tests)

pub name_token : (b : ℕ) (bs rest : List ℕ) → is_name_byte b ≡ true → list_all is_name_byte bs ≡ true → begins_with is_name_byte rest ≡ false
    → token_at b (bs ++ rest) ≡ Some (Name (b ∷ bs))
name_token b bs rest h a s = rw (name_is_no_slash b h, h, front_is is_name_byte bs rest a s) refl

pub one_token : (t : Token) (rest : List ℕ) → IsToken t → IsWhole t rest → tokens_of (spelling t ++ rest) ≡ Some t ∷ tokens_of rest
one_token Version rest ok whole = tokens_step 47 _ refl
one_token Slash rest ok whole = let e : token_at 47 rest ≡ Some Slash = rw whole refl in
    tokens_step 47 rest refl ∙ rw e refl
one_token Open rest ok whole = tokens_step 123 rest refl
one_token Close rest ok whole = tokens_step 125 rest refl
one_token Semicolon rest ok whole = tokens_step 59 rest refl
one_token (Name []) rest ok whole = absurd (ok.0 refl)
one_token (Name (b ∷ bs)) rest ok whole =
    let h : (is_name_byte b ≡ true) × (list_all is_name_byte bs ≡ true) = and_parts _ _ ok.1 in
    let e : token_at b (bs ++ rest) ≡ Some (Name (b ∷ bs)) = name_token b bs rest h.0 h.1 whole in
    let n : length (b ∷ bs) - 1 ≡ length bs = omega arith in
    tokens_step b (bs ++ rest) (name_is_no_blank b h.0) ∙ rw (e, n, drop-append_seam bs rest) refl

-- a brace opens next
abbrev pub OpensNext : List Token → Type 0
OpensNext (Open ∷ ts) = Unit {0}
OpensNext _ = ⊥

abbrev pub IsApartFrom : Token → List Token → Type 0
IsApartFrom (Name name) ts = OpensNext ts
IsApartFrom Slash ts = OpensNext ts
IsApartFrom _ ts = Unit {0}

-- a brace stands behind each name and each `/`, so that each of them is whole
abbrev pub AreSeparate : List Token → Type 0
AreSeparate [] = Unit {0}
AreSeparate (t ∷ ts) = IsApartFrom t ts × AreSeparate ts

pub blank_is_no_name : (b : ℕ) → is_blank b ≡ true → is_name_byte b ≡ false
blank_is_no_name b h = grind (arith, nat_tests)

pub blank_is_no_d : (b : ℕ) → is_blank b ≡ true → nat_eq 100 b ≡ false
blank_is_no_d b h = grind (arith, nat_tests)

pub no_name_next : (ts : List Token) (rest : List ℕ) → OpensNext ts → IsSpelled rest ts → begins_with is_name_byte rest ≡ false
no_name_next (Open ∷ ts) rest o ([], behind, e, b, ok, h) = rw e refl
no_name_next (Open ∷ ts) rest o (c ∷ cs, behind, e, b, ok, h) =
    let p : (is_blank c ≡ true) × (list_all is_blank cs ≡ true) = and_parts _ _ b in rw e (blank_is_no_name c p.0)
no_name_next _ rest o h = absurd o

pub no_version_next : (ts : List Token) (rest : List ℕ) → OpensNext ts → IsSpelled rest ts → starts_with nat_eq rest (codes "dts-v1/") ≡ false
no_version_next (Open ∷ ts) rest o ([], behind, e, b, ok, h) = rw e refl
no_version_next (Open ∷ ts) rest o (c ∷ cs, behind, e, b, ok, h) =
    let p : (is_blank c ≡ true) × (list_all is_blank cs ≡ true) = and_parts _ _ b in rw (e, blank_is_no_d c p.0) refl
no_version_next _ rest o h = absurd o

pub whole_before : (t : Token) (ts : List Token) (rest : List ℕ) → IsApartFrom t ts → IsSpelled rest ts → IsWhole t rest
whole_before (Name name) ts rest a h = no_name_next ts rest a h
whole_before Slash ts rest a h = no_version_next ts rest a h
whole_before Version ts rest a h = tt
whole_before Open ts rest a h = tt
whole_before Close ts rest a h = tt
whole_before Semicolon ts rest a h = tt

pub over_spelled : (ts : List Token) (bytes : List ℕ) → AreSeparate ts → IsSpelled bytes ts → tokens_of bytes ≡ map Some ts
over_spelled [] bytes a h = ap tokens_of (sym (append-nil bytes)) ∙ (tokens_blanks bytes [] h ∙ tokens_none)
over_spelled (t ∷ ts) bytes a (blanks, rest, e, b, ok, h) =
    ap tokens_of e
    ∙ (tokens_blanks blanks (spelling t ++ rest) b
    ∙ (one_token t rest ok (whole_before t ts rest a.0 h) ∙ ap (λ xs. Some t ∷ xs) (over_spelled ts rest a.1 h)))

pub separate_body : (f : Forest) (ts : List Token) → AreSeparate ts → AreSeparate (body_tokens f ++ ts)
separate_body none ts h = h
separate_body (tree name below later) ts h =
    let P : List Token → Type 0 = λ xs. AreSeparate (Name name ∷ Open ∷ xs) in
    let rest : AreSeparate (body_tokens later ++ ts) = separate_body later ts h in
    let inner : AreSeparate (body_tokens below ++ Close ∷ Semicolon ∷ (body_tokens later ++ ts)) = separate_body below _ (tt, (tt, rest)) in
    subst P (sym (append_assoc (body_tokens below) (Close ∷ Semicolon ∷ body_tokens later) ts)) (tt, (tt, inner))

pub separate_source : (f : Forest) → AreSeparate (source_tokens f)
separate_source f = (tt, (tt, (tt, (tt, separate_body f (Close ∷ Semicolon ∷ []) (tt, (tt, tt))))))

-- ---- what is read is spelled

pub blank_before : (b : ℕ) (bs : List ℕ) (ts : List Token) → is_blank b ≡ true → IsSpelled bs ts → IsSpelled (b ∷ bs) ts
blank_before b bs [] h s = rw (h, s) refl
blank_before b bs (t ∷ ts) h (blanks, rest, e, bl, ok, s) = (b ∷ blanks, rest, ap (λ xs. b ∷ xs) e, rw (h, bl) refl, ok, s)

-- the token stands at the front of the bytes
pub record Stands (b : ℕ) (bs : List ℕ) (t : Token) : Type 0 where
  pub parts : b ∷ bs ≡ spelling t ++ drop (tail_length (Some t)) bs
  pub is : IsToken t

pub stands_version : (b : ℕ) (bs : List ℕ) → starts_with nat_eq (b ∷ bs) (codes "/dts-v1/") ≡ true → Stands b bs Version
stands_version b bs h =
    let e : codes "/dts-v1/" ≡ take 8 (b ∷ bs) = (bytes_eq-Decides (codes "/dts-v1/") (take 8 (b ∷ bs))).0 h in
    record { parts = sym (ap (λ xs. xs ++ drop 7 bs) e ∙ take-append-drop 8 (b ∷ bs)); is = tt }

pub stands_name : (b : ℕ) (bs : List ℕ) → is_name_byte b ≡ true → Stands b bs (Name (b ∷ take_while is_name_byte bs))
stands_name b bs h =
    let name : List ℕ = take_while is_name_byte bs in
    let n : length (b ∷ name) - 1 ≡ length name = omega arith in
    record {
      parts = rw n (ap (λ xs. b ∷ xs) (sym (front_parts is_name_byte bs)));
      is = (λ e. cc, rw (h, front_passes is_name_byte bs) refl);
    }

pub stands_sign : (b : ℕ) (bs : List ℕ) (t : Token) → sign b ≡ Some t → Stands b bs t
stands_sign b bs t e =
    let P : Token → Type 0 = λ u. Stands b bs u in
    elim (cases_Bool (nat_eq b 47)) [
      | inl s ↦ let q : Slash ≡ t = let f : Some Slash ≡ Some t = rw s at e in cc in subst P q (record { parts = ap (λ c. c ∷ bs) (eqb-true _ _ s); is = tt })
      | inr s ↦ let e1 = rw s at e in elim (cases_Bool (nat_eq b 123)) [
        | inl s ↦ let q : Open ≡ t = let f : Some Open ≡ Some t = rw s at e1 in cc in subst P q (record { parts = ap (λ c. c ∷ bs) (eqb-true _ _ s); is = tt })
        | inr s ↦ let e2 = rw s at e1 in elim (cases_Bool (nat_eq b 125)) [
          | inl s ↦ let q : Close ≡ t = let f : Some Close ≡ Some t = rw s at e2 in cc in subst P q (record { parts = ap (λ c. c ∷ bs) (eqb-true _ _ s); is = tt })
          | inr s ↦ let e3 = rw s at e2 in elim (cases_Bool (nat_eq b 59)) [
            | inl s ↦ let q : Semicolon ≡ t = let f : Some Semicolon ≡ Some t = rw s at e3 in cc in subst P q (record { parts = ap (λ c. c ∷ bs) (eqb-true _ _ s); is = tt })
            | inr s ↦ let e4 : None ≡ Some t = rw s at e3 in cc
          ]
        ]
      ]
    ]

pub stands : (b : ℕ) (bs : List ℕ) (t : Token) → token_at b bs ≡ Some t → Stands b bs t
stands b bs t e =
    let P : Token → Type 0 = λ u. Stands b bs u in
    elim (cases_Bool (starts_with nat_eq (b ∷ bs) (codes "/dts-v1/"))) [
      | inl s ↦ let q : Version ≡ t = let f : Some Version ≡ Some t = rw s at e in cc in subst P q (stands_version b bs s)
      | inr s ↦ let e1 = rw s at e in elim (cases_Bool (is_name_byte b)) [
        | inl n ↦ let q : Name (b ∷ take_while is_name_byte bs) ≡ t = let f : Some (Name (b ∷ take_while is_name_byte bs)) ≡ Some t = rw n at e1 in cc in subst P q (stands_name b bs n)
        | inr n ↦ let e2 : sign b ≡ Some t = rw n at e1 in stands_sign b bs t e2
      ]
    ]

pub spelled : (bs : List ℕ) (skip : ℕ) (ts : List Token) → tokens_behind skip bs ≡ map Some ts → IsSpelled (drop skip bs) ts
unfolding tokens_behind
spelled [] skip [] e = rw (drop-nil skip) refl
spelled [] skip (t ∷ ts) e = cc
spelled (b ∷ bs) (suc skip) ts e = spelled bs skip ts e
spelled (b ∷ bs) zero [] e = elim (cases_Bool (is_blank b)) [
  | inl h ↦ let e1 : tokens_behind 0 bs ≡ [] = rw h at e in blank_before b bs [] h (spelled bs 0 [] e1)
  | inr h ↦ let e1 : token_at b bs ∷ tokens_behind (tail_length (token_at b bs)) bs ≡ [] = rw h at e in cc
]
spelled (b ∷ bs) zero (t ∷ ts) e = elim (cases_Bool (is_blank b)) [
  | inl h ↦ let e1 : tokens_behind 0 bs ≡ Some t ∷ map Some ts = rw h at e in blank_before b bs (t ∷ ts) h (spelled bs 0 (t ∷ ts) e1)
  | inr h ↦
      let e1 : token_at b bs ∷ tokens_behind (tail_length (token_at b bs)) bs ≡ Some t ∷ map Some ts = rw h at e in
      let e2 : token_at b bs ≡ Some t = cc in
      let e3 : tokens_behind (tail_length (token_at b bs)) bs ≡ map Some ts = cc in
      let s : Stands b bs t = stands b bs t e2 in
      let P : Option Token → Type 0 = λ o. IsSpelled (drop (tail_length o) bs) ts in
      let behind : IsSpelled (drop (tail_length (Some t)) bs) ts = subst P e2 (spelled bs (tail_length (token_at b bs)) ts e3) in
      ([], drop (tail_length (Some t)) bs, s.parts, refl, s.is, behind)
]

-- ---- what the program's steps rest on

pub behind_blanks : (bs : List ℕ) → tokens_of (drop (prefix_len is_blank bs) bs) ≡ tokens_of bs
behind_blanks bs = sym (tokens_blanks (take_while is_blank bs) (drop (prefix_len is_blank bs) bs) (front_passes is_blank bs))
    ∙ ap tokens_of (take-append-drop (prefix_len is_blank bs) bs)

pub behind_stops : (p : ℕ → Bool) (bs : List ℕ) → begins_with p (drop (prefix_len p bs) bs) ≡ false
behind_stops p bs = rw (← length-prefix_len p bs) (front_stops p bs)

pub version_front : (bytes rest : List ℕ) → bytes_eq (take 8 bytes) (codes "/dts-v1/") ≡ true → rest ≡ drop 8 bytes
    → tokens_of bytes ≡ Some Version ∷ tokens_of rest
version_front bytes rest h e =
    let front : take 8 bytes ≡ codes "/dts-v1/" = (bytes_eq-Decides (take 8 bytes) (codes "/dts-v1/")).0 h in
    let parts : bytes ≡ codes "/dts-v1/" ++ rest = sym (take-append-drop 8 bytes) ∙ (ap (λ xs. xs ++ drop 8 bytes) front ∙ ap (λ xs. codes "/dts-v1/" ++ xs) (sym e)) in
    ap tokens_of parts ∙ one_token Version rest tt tt

pub name_front : (bytes : List ℕ) → begins_with is_name_byte bytes ≡ true
    → tokens_of bytes ≡ Some (Name (take (prefix_len is_name_byte bytes) bytes)) ∷ tokens_of (drop (prefix_len is_name_byte bytes) bytes)
name_front [] h = cc
name_front (b ∷ bs) h =
    let n : ℕ = prefix_len is_name_byte (b ∷ bs) in
    let name : List ℕ = take n (b ∷ bs) in
    let is : name ≡ b ∷ take_while is_name_byte bs = take_while-cons is_name_byte b bs ∙ rw h refl in
    ap tokens_of (sym (take-append-drop n (b ∷ bs)))
    ∙ one_token (Name name) (drop n (b ∷ bs)) (λ e. cc, front_passes is_name_byte (b ∷ bs)) (behind_stops is_name_byte (b ∷ bs))

pub sign_front : (b : ℕ) (bs : List ℕ) → bytes_eq (take 8 (b ∷ bs)) (codes "/dts-v1/") ≡ false → is_blank b ≡ false → is_name_byte b ≡ false
    → tokens_of (b ∷ bs) ≡ sign b ∷ tokens_of bs
sign_front b bs v k n = elim (cases_Bool (starts_with nat_eq (b ∷ bs) (codes "/dts-v1/"))) [
  | inl s ↦
      let e : codes "/dts-v1/" ≡ take 8 (b ∷ bs) = (bytes_eq-Decides (codes "/dts-v1/") (take 8 (b ∷ bs))).0 s in
      let y : bytes_eq (take 8 (b ∷ bs)) (codes "/dts-v1/") ≡ true = (bytes_eq-Decides (take 8 (b ∷ bs)) (codes "/dts-v1/")).1 (sym e) in
      cc
  | inr s ↦
      let e : token_at b bs ≡ sign b = rw (s, n) refl in
      let one : drop (tail_length (sign b)) bs ≡ bs = elim (cases_Bool (nat_eq b 47)) [
        | inl q ↦ rw q refl
        | inr q ↦ rw q (elim (cases_Bool (nat_eq b 123)) [
          | inl q ↦ rw q refl
          | inr q ↦ rw q (elim (cases_Bool (nat_eq b 125)) [ inl q ↦ rw q refl | inr q ↦ rw q (elim (cases_Bool (nat_eq b 59)) [ inl q ↦ rw q refl | inr q ↦ rw q refl ]) ])
        ])
      ] in
      tokens_step b bs k ∙ (ap (λ o. o ∷ tokens_of (drop (tail_length o) bs)) e ∙ ap (λ xs. sign b ∷ tokens_of xs) one)
]

pub name_is_ascii : (b : ℕ) → is_name_byte b ≡ true → b < 128
name_is_ascii b h = grind (arith, nat_tests)

pub ascii_from_passing : (xs : List ℕ) → list_all is_name_byte xs ≡ true → All (λ b. b < 128) xs
ascii_from_passing [] h = search rules
ascii_from_passing (b ∷ bs) h =
    let p : (is_name_byte b ≡ true) × (list_all is_name_byte bs ≡ true) = and_parts _ _ h in
    All-cons (λ b. b < 128) b bs (name_is_ascii b p.0) (ascii_from_passing bs p.1)

pub name_is_text : (bytes : List ℕ) → IsUtf8 (take (prefix_len is_name_byte bytes) bytes)
name_is_text bytes = IsUtf8-from_ascii _ (IsAscii-from_all _ (ascii_from_passing _ (front_passes is_name_byte bytes)))

pub none_left : (bytes : List ℕ) → length bytes ≡ 0 → tokens_of bytes ≡ []
none_left [] h = tokens_none
none_left (b ∷ bs) h = absurd (omega arith)
