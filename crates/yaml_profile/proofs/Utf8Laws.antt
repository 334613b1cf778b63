-- The part of a file that is UTF-8.
use Rattle.std.proofs.Common.{◌≡◌, ℕ, List, take, true, None, refl, sym, ◌∙◌, arith}
use Rattle.std.proofs.Math.Seq.{take-length}
use Rattle.std.proofs.lemmas.Str.{utf8_valid_len-IsUtf8}
use Rattle.std.proofs.lemmas.Bool.Decides.{nat_tests}
use Rattle.std.specs.Str.{IsUtf8}
use Rattle.std.specs.Str.Lossy.{utf8_valid_len}
use Rattle.yaml_profile.specs.Reading.{is_whole, broken_place}

pub whole_text : (bytes text : List ℕ) → text ≡ bytes → IsUtf8 bytes → text ≡ take (utf8_valid_len bytes) bytes
whole_text bytes text e u = rw (utf8_valid_len-IsUtf8 bytes u) (e ∙ sym (take-length bytes))

pub is_whole-utf8 : (bytes : List ℕ) → IsUtf8 bytes → is_whole bytes ≡ true
is_whole-utf8 bytes u = rw (utf8_valid_len-IsUtf8 bytes u) (grind (arith, nat_tests))

pub never_broken : (bytes : List ℕ) → IsUtf8 bytes → None ≡ broken_place bytes
never_broken bytes u = rw (is_whole-utf8 bytes u) refl
