use Rattle.std.proofs.Common.{◌≡◌, arith, sym, subst, take, ◌∙◌, ap, drop}
use Rattle.std.specs.Str.{IsUtf8}
use Rattle.std.specs.List.{prefix_len}
use Rattle.std.proofs.lemmas.Grind.{common_steps}
use Rattle.std.proofs.lemmas.List.Sums.{prefix_len-le-length}
use Rattle.edt_run.proofs.TokenLaws.{name_front, name_is_text}
use Rattle.edt_run.specs.Small.{is_name_byte}
use Rattle.edt_run.proofs.token.front_name.Goals as goal

pub split_at-requires : goal.split_at-requires
split_at-requires c = grind (arith, common_steps, prefix_len-le-length is_name_byte c.args.bytes.now)

pub unreachable-requires : goal.unreachable-requires
unreachable-requires c =
    let front : c.split_at.result.0.now ≡ take (prefix_len is_name_byte c.args.bytes.now) c.args.bytes.now = c.split_at.ensures.front ∙ ap (λ n. take n c.args.bytes.now) c.name_length.ensures in
    c.in-Err.ensures.cases.0 (subst IsUtf8 (sym front) (name_is_text c.args.bytes.now))

pub returns-clause-token : goal.returns-clause-token
returns-clause-token c =
    let n : c.name_length.result ≡ prefix_len is_name_byte c.args.bytes.now = c.name_length.ensures in
    let f : c.split_at.result.0.now ≡ take c.name_length.result c.args.bytes.now = c.split_at.ensures.front in
    let b : c.split_at.result.1.now ≡ drop c.name_length.result c.args.bytes.now = c.split_at.ensures.back in
    let t : c.in-Ok.name.now ≡ c.split_at.result.0.now = c.in-Ok.ensures.cases.0 in
    rw (b, t, f, n) (name_front c.args.bytes.now c.requires)
