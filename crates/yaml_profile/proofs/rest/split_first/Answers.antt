use Rattle.std.proofs.Common.{◌≡◌, ◌++◌, ◌+◌, ap, ◌∙◌, length, length-append}
use Rattle.std.specs.Char.{encode_utf8}
use Rattle.std.proofs.lemmas.Str.{chars_past_char, length-encode}
use Rattle.yaml_profile.proofs.rest.split_first.Goals as goal

pub returns-clause-first : goal.returns-clause-first
returns-clause-first c =
    let h = c.in_ok-c.ensures.steps in
    let k = c.as_str.ensures in
    let r = c.chars-chars.ensures.rest in
    let e : c.args.text.now ≡ encode_utf8 c.in_ok-c.c ++ c.as_str.result.now = cc (h.0) in
    chars_past_char c.args.text.now c.as_str.result.now c.in_ok-c.c c.utf8.text e

pub returns-clause-width : goal.returns-clause-width
returns-clause-width c =
    let h = c.in_ok-c.ensures.steps in
    let k = c.as_str.ensures in
    let r = c.chars-chars.ensures.rest in
    let e : c.args.text.now ≡ encode_utf8 c.in_ok-c.c ++ c.as_str.result.now = cc (h.0) in
    ap length e ∙ (length-append (encode_utf8 c.in_ok-c.c) c.as_str.result.now ∙ ap (λ n. n + length c.as_str.result.now) (length-encode c.in_ok-c.c))
