-- Outside flow lists a value that was read is spelled by a key or a tree.
use Rattle.std.proofs.Common.{◌≡◌, ℕ, ◌+◌, ◌<◌, Bool, true, false, ◌&&◌, ◌==◌, List, ◌∷◌, length, Option, inl, inr, refl, arith}
use Rattle.std.specs.Char.{len_utf8}
use Rattle.std.proofs.lemmas.Bool.{cases_Bool}
use Rattle.edt_base.specs.YamlData.{Value}
use Rattle.yaml_profile.specs.declared.front.Role.{Role}
use Rattle.yaml_profile.specs.BlockText.{no_lines}
use Rattle.yaml_profile.specs.Answers.{no_text, left_out}
use Rattle.yaml_profile.specs.Signs.{is_word_sign, begins_nothing}
use Rattle.yaml_profile.specs.Fronts.{Frame, Whole, InHeader, front, is_deeper, is_flow}
use Rattle.yaml_profile.specs.Pieces.{begin_value, begin_sign, begin_block, begin_plain, is_value_sign, is_key_only, open_flow}
use Rattle.yaml_profile.specs.Written.{IsApart, word_ends, spell_flow, flow_value}
use Rattle.yaml_profile.proofs.ReadSteps.{past, with_returns, ReadsOn, OnFrom, all_ended}
use Rattle.yaml_profile.proofs.ReadParts.{MayBegin, IsLeast, LineEnded, FlowList, LeafRead, ValueRead}
use Rattle.yaml_profile.proofs.ReadFlows.{sign_or_plain, word_free, plain_begins, double_begins, single_begins, flow_list_read}
use Rattle.yaml_profile.proofs.ReadGaps.{for_that, after_value_read, leaf_of}
use Rattle.yaml_profile.proofs.ReadPlain.{plain_read}
use Rattle.yaml_profile.proofs.ReadQuotes.{double_read, single_read}
use Rattle.yaml_profile.proofs.ReadTexts.{block_text_read}

list_leaf : (fs : List Frame) (place : Option ℕ) (least at : ℕ) (cs : List ℕ) (v : Value) → is_flow fs ≡ false → IsLeast least fs → all_ended true cs ≡ true → OnFrom (open_flow fs at) (at + 1) cs v
    → LeafRead fs place least (length fs) at (91 ∷ cs) v
list_leaf fs place least at cs v f l e h =
    let x : FlowList fs least (length fs) at (91 ∷ cs) v = flow_list_read (length cs) fs least at cs v (omega arith) l e h in
    let r : (e : LineEnded fs (Whole (flow_value x.flow)) (past at (spell_flow x.flow)) x.rest v) × (false ≡ false → IsApart e.ending)
    = after_value_read fs (Whole (flow_value x.flow)) false (past at (spell_flow x.flow)) x.rest v f x.ended x.on in
    leaf_of fs place least (length fs) at x.flow (91 ∷ cs) x.rest v x.parts (x.is place false true) f r.0 (r.1 refl)

block_begins : (fs : List Frame) (folded : Bool) (at p : ℕ) (cs : List ℕ) (v : Value) → is_flow fs ≡ false → OnFrom (begin_block fs folded at) p cs v → ReadsOn (front fs (InHeader (no_lines folded) false false)) p cs v
block_begins fs folded at p cs v f h = rw f at h

-- what a value may begin with, beside texts: a flow list or a block scalar
sign_leaf : (fs : List Frame) (place : Option ℕ) (least at c : ℕ) (cs : List ℕ) (v : Value) → is_flow fs ≡ false → IsLeast least fs → ((n : ℕ) → is_deeper n fs ≡ false → n < least) → all_ended true cs ≡ true
    → OnFrom (begin_sign fs at c) (at + len_utf8 c) cs v → LeafRead fs place least (length fs) at (c ∷ cs) v
unfolding begin_sign
sign_leaf fs place least at c cs v f l m e h =
    let R : ℕ → Type 0 = λ x. OnFrom (begin_sign fs at x) (at + len_utf8 x) cs v → LeafRead fs place least (length fs) at (x ∷ cs) v in
    elim (cases_Bool (c == 91)) [
      | inl a ↦ for_that R c 91 a (λ g. list_leaf fs place least at cs v f l e g) h
      | inr a ↦ elim (cases_Bool (c == 124)) [
        | inl b ↦ for_that R c 124 b (λ g. block_text_read fs place least (length fs) at cs v false f l m e (block_begins fs false at (at + 1) cs v f g)) h
        | inr b ↦ elim (cases_Bool (c == 62)) [
          | inl d ↦ for_that R c 62 d (λ g. block_text_read fs place least (length fs) at cs v true f l m e (block_begins fs true at (at + 1) cs v f g)) h
          | inr d ↦ absurd (let q : OnFrom (left_out at) (at + len_utf8 c) cs v = rw (a, b, d) at h in q)
        ]
      ]
    ]

-- it is no key
sign_read : (fs : List Frame) (role : Role) (place : Option ℕ) (least at c : ℕ) (cs : List ℕ) (v : Value) → is_flow fs ≡ false → IsLeast least fs → ((n : ℕ) → is_deeper n fs ≡ false → n < least) → all_ended true cs ≡ true
    → is_value_sign c ≡ true → OnFrom (sign_or_plain fs role at c) (at + len_utf8 c) cs v → ValueRead fs role place least (length fs) at (c ∷ cs) v
sign_read fs role place least at c cs v f l m e s h = elim (cases_Bool (is_key_only role)) [
  | inl k ↦ absurd (let q : OnFrom (no_text at) (at + len_utf8 c) cs v = rw (s, k) at h in q)
  | inr k ↦ inr (k, sign_leaf fs place least at c cs v f l m e (rw (s, k) at h))
]

-- a value begins that is no quoted text
bare_read : (fs : List Frame) (role : Role) (place : Option ℕ) (least at c : ℕ) (cs : List ℕ) (v : Value) → is_flow fs ≡ false → IsLeast least fs → ((n : ℕ) → is_deeper n fs ≡ false → n < least) → MayBegin place false c cs
    → (c == 32) ≡ false → (c == 10) ≡ false → (c == 34) ≡ false → (c == 39) ≡ false → all_ended true cs ≡ true
    → OnFrom (begin_value fs role at c (with_returns cs)) (at + len_utf8 c) cs v → ValueRead fs role place least (length fs) at (c ∷ cs) v
bare_read fs role place least at c cs v f l m y s n a b e h =
    let k : ℕ = at + len_utf8 c in
    let w : ((is_word_sign c && word_ends true cs) ≡ false) × OnFrom (sign_or_plain fs role at c) k cs v = word_free fs role at k c cs v a b h in
    elim (cases_Bool (is_value_sign c)) [
      | inl x ↦ sign_read fs role place least at c cs v f l m e x w.1
      | inr x ↦
          let p : (begins_nothing c ≡ false) × OnFrom (begin_plain fs role at c) k cs v = plain_begins fs role at k c cs v x w.1 in
          plain_read fs role place least at c cs v f l y (record { double = a; single = b; sign = x; nothing = p.0; space = s; feed = n; word = w.0 }) e p.1
    ]

-- a key, or a value that is no block
pub value_read : (fs : List Frame) (role : Role) (place : Option ℕ) (least at c : ℕ) (cs : List ℕ) (v : Value) → is_flow fs ≡ false → IsLeast least fs → ((n : ℕ) → is_deeper n fs ≡ false → n < least) → MayBegin place false c cs
    → (c == 32) ≡ false → (c == 10) ≡ false → all_ended true cs ≡ true
    → OnFrom (begin_value fs role at c (with_returns cs)) (at + len_utf8 c) cs v → ValueRead fs role place least (length fs) at (c ∷ cs) v
value_read fs role place least at c cs v f l m y s n e h =
    let R : ℕ → Type 0 = λ x. OnFrom (begin_value fs role at x (with_returns cs)) (at + len_utf8 x) cs v → ValueRead fs role place least (length fs) at (x ∷ cs) v in
    elim (cases_Bool (c == 34)) [
      | inl a ↦ for_that R c 34 a (λ g. double_read fs role place least at cs v f e (double_begins fs role at cs v g)) h
      | inr a ↦ elim (cases_Bool (c == 39)) [
        | inl b ↦ for_that R c 39 b (λ g. single_read fs role place least at cs v f e (single_begins fs role at cs v g)) h
        | inr b ↦ bare_read fs role place least at c cs v f l m y s n a b e h
      ]
    ]
