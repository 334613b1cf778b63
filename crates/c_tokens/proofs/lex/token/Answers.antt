use Rattle.std.proofs.Common.{◌≡◌, true, false, refl, inl, inr}
use Rattle.std.specs.Str.{is_utf8}
use Rattle.std.proofs.lemmas.Bool.{cases_Bool}
use Rattle.std.proofs.lemmas.Str.{is_utf8-from_IsUtf8, IsUtf8-from_is_utf8}
use Rattle.c_tokens.proofs.lex.token.Goals as goal

pub returns-in_ok-from_str-in-Ok : goal.returns-in_ok-from_str-in-Ok
returns-in_ok-from_str-in-Ok c =
    let utf8 : is_utf8 c.args.bytes.now ≡ true = is_utf8-from_IsUtf8 _ c.in-Ok.ensures.cases.1 in
    rw (c.new.ensures, c.in_ok-from_str-in-Ok.ensures.ok, c.in-Ok.ensures.cases.0, utf8) refl

pub returns-in-Err : goal.returns-in-Err
returns-in-Err c = elim (cases_Bool (is_utf8 c.args.bytes.now)) [
  | inl h ↦ absurd (c.in-Err.ensures.cases.0 (IsUtf8-from_is_utf8 _ h))
  | inr h ↦ rw h refl
]
