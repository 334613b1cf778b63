-- The bytes of a file that has a value are spelled by a tree of that value.
use Rattle.std.proofs.Common.{◌≡◌, ℕ, zero, suc, ◌+◌, Bool, true, false, List, [], ◌++◌, length, take, Result, Ok, Err, if◌then◌else◌, refl, ap, subst, ◌∙◌, arith, inl, inr}
use Rattle.std.proofs.Math.Seq.{take-length}
use Rattle.std.proofs.lemmas.Bool.{cases_Bool}
use Rattle.std.proofs.lemmas.Bool.Decides.{nat_tests}
use Rattle.std.proofs.lemmas.Str.{IsUtf8-from_is_utf8}
use Rattle.std.specs.Str.{IsUtf8, is_utf8, all_scalars, encode_utf8_all}
use Rattle.std.specs.Str.Lossy.{utf8_valid_len, valid_len_up_to}
use Rattle.edt_base.specs.YamlData.{Value}
use Rattle.yaml_profile.specs.declared.stop.Broken.{Broken}
use Rattle.yaml_profile.specs.Answers.{◌>>=◌, no_text}
use Rattle.yaml_profile.specs.Fronts.{Fresh, AtLine, Front}
use Rattle.yaml_profile.specs.Reading.{at_start, walk, ends, is_whole, characters, broken_at, reading}
use Rattle.yaml_profile.specs.Written.{File, spell_head, spell_body, spell_file, with_ends, ends_begun, is_clear, IsSpelled}
use Rattle.yaml_profile.proofs.ReadSteps.{past, ReadsOn}
use Rattle.yaml_profile.proofs.ReadEnds.{lines_of, is_cut, returned_at, told, so_from, lines_ended, cuts}
use Rattle.yaml_profile.proofs.ReadBack.{back}
use Rattle.yaml_profile.proofs.ReadFiles.{file_read}
use Rattle.yaml_profile.proofs.WrittenEnds.{Finishes}
use Rattle.yaml_profile.proofs.WrittenBytes.{characters_are, past_length}

-- ---- the bytes are characters

valid_front : (bytes : List ℕ) (n : ℕ) → IsUtf8 (take (valid_len_up_to bytes n) bytes)
valid_front bytes zero = ([], (refl, refl))
valid_front bytes (suc n) = elim (cases_Bool (is_utf8 (take (suc n) bytes))) [
  | inl e ↦ rw e (IsUtf8-from_is_utf8 (take (suc n) bytes) e)
  | inr e ↦ rw e (valid_front bytes n)
]

whole_is_utf8 : (bytes : List ℕ) → is_whole bytes ≡ true → IsUtf8 bytes
unfolding utf8_valid_len
whole_is_utf8 bytes h =
    let n : ℕ = valid_len_up_to bytes (length bytes) in
    let e : n ≡ length bytes = grind (arith, nat_tests, h) in
    subst IsUtf8 (ap (λ (m : ℕ). take m bytes) e ∙ take-length bytes) (valid_front bytes (length bytes))

-- characters that are read to the end, with this value
record Chars (bytes : List ℕ) (v : Value) : Type 0 where
  chars : List ℕ
  scalars : all_scalars chars ≡ true
  spelled : encode_utf8_all chars ≡ bytes
  reads : Finishes at_start 0 chars v

at_the_end : (r : Result Front Broken) (bytes : List ℕ) (b : Bool) (v : Value) → is_whole bytes ≡ b → (r >>= λ f. if is_whole bytes then ends f.frames f.inner (length bytes) else no_text (broken_at bytes)) ≡ Ok v
    → (f : Front) × (r ≡ Ok f) × (ends f.frames f.inner (length bytes) ≡ Ok v) × (is_whole bytes ≡ true)
at_the_end (Ok f) bytes true v e h = (f, refl, rw e at h, e)
at_the_end (Ok f) bytes false v e h = let q : ◌≡◌ {A = Result Value Broken} (no_text (broken_at bytes)) (Ok v) = rw e at h in absurd (cc)
at_the_end (Err x) bytes b v e h = let q : ◌≡◌ {A = Result Value Broken} (Err x) (Ok v) = h in absurd (cc)

chars_of : (bytes : List ℕ) (v : Value) → reading bytes ≡ Ok v → Chars bytes v
unfolding reading
chars_of bytes v h =
    let t = at_the_end (walk at_start 0 (characters bytes)) bytes (is_whole bytes) v refl h in
    let u : IsUtf8 bytes = whole_is_utf8 bytes t.3 in
    let cs : List ℕ = u.0 in
    let s : all_scalars cs ≡ true = u.1.0 in
    let e : encode_utf8_all cs ≡ bytes = u.1.1 in
    let k : characters bytes ≡ cs = subst (λ (bs : List ℕ). characters bs ≡ cs) e (characters_are cs s) in
    let n : length bytes ≡ past 0 cs = let p : past 0 cs ≡ 0 + length (encode_utf8_all cs) = past_length cs 0 in let q : length (encode_utf8_all cs) ≡ length bytes = ap (λ (bs : List ℕ). length bs) e in omega arith in
    record {
      chars = cs;
      scalars = s;
      spelled = e;
      reads = record { front = t.0; run = subst (λ (xs : List ℕ). walk at_start 0 xs ≡ Ok t.0) k t.1; value = subst (λ (m : ℕ). ends t.0.frames t.0.inner m ≡ Ok v) n t.2 };
    }

-- ---- the file

pub spelled_by_a_tree : (bytes : List ℕ) (v : Value) → reading bytes ≡ Ok v → IsSpelled bytes v
spelled_by_a_tree bytes v h =
    let c : Chars bytes v = chars_of bytes v h in
    let cs : List ℕ = c.chars in
    let xs : List ℕ = lines_of false cs in
    let on : ReadsOn at_start 0 xs v = back cs false [] (AtLine 0 Fresh) (AtLine 0 Fresh) 0 0 v (0, 0, refl, (refl, refl)) tt tt c.reads in
    let f = file_read xs v (lines_ended cs false) on in
    let t = told cs false (returned_at cs) 0 (so_from cs) in
    let w : xs ≡ spell_head f.0 ++ spell_body f.1 = f.4 in
    let file : File = record { head = f.0; block = f.1; returns = returned_at cs; cut = is_cut false cs } in
    let s : spell_file file ≡ cs = subst (λ (ys : List ℕ). with_ends (is_cut false cs) (returned_at cs) 0 ys ≡ cs) w t.0 in
    record {
      file = file;
      is = (f.2, f.3, subst (λ (ys : List ℕ). is_clear (is_cut false cs) (returned_at cs) 0 ys ≡ true) w t.1, λ k. subst (λ (ys : List ℕ). ends_begun false ys ≡ true) w (cuts cs false k));
      scalars = ap all_scalars s ∙ c.scalars;
      spelled = ap encode_utf8_all s ∙ c.spelled;
      value = f.5;
    }
