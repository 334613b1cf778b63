use Rattle.std.proofs.Common.{◌≡◌, sym, ◌∙◌, ap, subst}
use Rattle.std.specs.List.{flat_map}
use Rattle.std.specs.Str.{IsUtf8}
use Rattle.c_macro.specs.Bodies.{escaped}
use Rattle.std.proofs.lemmas.Bool.{false≢true}
use Rattle.c_macro.proofs.Escapes.{escaped_is_text}
use Rattle.c_macro.proofs.strings.escape.Goals as goal

pub unreachable-requires : goal.unreachable-requires
unreachable-requires c =
    let is : c.in_ok-bytes.bytes.items ≡ flat_map escaped c.args.text.now = c.in_ok-bytes.ensures ∙ ap (flat_map escaped) c.as_bytes.ensures.value in
    false≢true (c.in-Err.ensures.succeeds (subst IsUtf8 (sym is) (escaped_is_text c.args.text.now c.utf8.text)))
