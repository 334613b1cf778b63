-- The bytes of written files are read as their values.
use Rattle.std.proofs.Common.{◌≡◌, ℕ, true, false, List, [], ◌∷◌, ◌+◌, length, length-append, take, Result, Ok, refl, sym, ap, subst, ◌∙◌, arith, append-nil}
use Rattle.std.specs.Str.{IsUtf8, chars, encode_utf8_all, all_scalars}
use Rattle.std.specs.Str.Lossy.{utf8_valid_len}
use Rattle.std.proofs.Math.Seq.{take-length}
use Rattle.std.proofs.lemmas.Str.{chars-encodes, length-encode, utf8_valid_len-IsUtf8}
use Rattle.edt_base.specs.YamlData.{Value}
use Rattle.yaml_profile.specs.declared.stop.Broken.{Broken}
use Rattle.std.specs.Char.{encode_utf8, len_utf8}
use Rattle.yaml_profile.specs.Fronts.{Frame, Fresh, AtLine, all_closed, value_so_far, is_flow}
use Rattle.yaml_profile.proofs.ReadSteps.{past, ReadsOn}
use Rattle.yaml_profile.proofs.WrittenScalars.{Stand, stands, stand_wait, stand_ends}
use Rattle.yaml_profile.specs.Reading.{at_start, ends, characters, reading}
use Rattle.yaml_profile.specs.Written.{File, spell_whole, spell_file, IsFile, file_value}
use Rattle.yaml_profile.proofs.Utf8Laws.{is_whole-utf8}
use Rattle.yaml_profile.proofs.WrittenFiles.{Walked, written_is_walked}
use Rattle.yaml_profile.proofs.WrittenEnds.{Finishes, ends_so, cut_of}

pub characters_are : (cs : List ℕ) → all_scalars cs ≡ true → characters (encode_utf8_all cs) ≡ cs
characters_are cs h =
    let bytes : List ℕ = encode_utf8_all cs in
    let u : IsUtf8 bytes = (cs, (h, refl)) in
    let t : take (utf8_valid_len bytes) bytes ≡ bytes = rw (utf8_valid_len-IsUtf8 bytes u) (take-length bytes) in
    let c : chars bytes ≡ cs = chars-encodes cs h in
    rw (t, c, is_whole-utf8 bytes u) (append-nil cs)

pub past_length : (cs : List ℕ) (at : ℕ) → past at cs ≡ at + length (encode_utf8_all cs)
past_length [] at = omega arith
past_length (c ∷ cs) at =
    let a : length (encode_utf8_all (c ∷ cs)) ≡ length (encode_utf8 c) + length (encode_utf8_all cs) = length-append (encode_utf8 c) (encode_utf8_all cs) in
    let b : length (encode_utf8 c) ≡ len_utf8 c = length-encode c in
    let d : past (at + len_utf8 c) cs ≡ (at + len_utf8 c) + length (encode_utf8_all cs) = past_length cs (at + len_utf8 c) in
    omega arith

at_end : (st : Stand) (fs : List Frame) (s n : ℕ) (v : Value) → n ≡ s → is_flow fs ≡ false → all_closed fs (value_so_far (stand_wait st)) ≡ v → ends fs (stands st s) n ≡ Ok v
at_end st fs s n v e f a =
    let g : Value → Result Value Broken = λ x. Ok x in
    ap (λ (m : ℕ). ends fs (stands st s) m) e ∙ (stand_ends st fs s ∙ rw f (ap g a))

-- the value of characters that are read to the end
pub read_bytes : (cs : List ℕ) (v : Value) → all_scalars cs ≡ true → Finishes at_start 0 cs v → reading (encode_utf8_all cs) ≡ Ok v
unfolding reading
read_bytes cs v h r =
    let u : IsUtf8 (encode_utf8_all cs) = (cs, (h, refl)) in
    let n : ℕ = length (encode_utf8_all cs) in
    let e : past 0 cs ≡ n = let p : past 0 cs ≡ 0 + n = past_length cs 0 in omega arith in
    let w : ends r.front.frames r.front.inner n ≡ Ok v = subst (λ (m : ℕ). ends r.front.frames r.front.inner m ≡ Ok v) e r.value in
    rw (characters_are cs h, r.run, is_whole-utf8 (encode_utf8_all cs) u) w

whole_read : (xs : List ℕ) (v : Value) → Walked xs v → ReadsOn at_start 0 xs v
whole_read xs v r = rw r.run (at_end r.stand r.frames r.at (past 0 xs) v (sym r.place) r.flow r.all)

pub written_is_read : (f : File) → IsFile f → all_scalars (spell_file f) ≡ true → reading (encode_utf8_all (spell_file f)) ≡ Ok (file_value f)
written_is_read f h s =
    let xs : List ℕ = spell_whole f in
    let v : Value = file_value f in
    read_bytes (spell_file f) v s
    (ends_so xs f.cut f.returns 0 [] (AtLine 0 Fresh) (AtLine 0 Fresh) 0 0 false v (0, 0, refl, (refl, refl)) tt tt h.2 (λ c. cut_of xs (h.3 c)) (whole_read xs v (written_is_walked f h)))
