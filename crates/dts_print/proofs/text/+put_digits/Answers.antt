use Rattle.std.proofs.Common.{◌∷◌, [], ◌/◌, ◌%◌, ◌∙◌, ap, false, arith}
use Rattle.std.specs.Fmt.{digit_glyph, digits}
use Rattle.edt_base.proofs.Puts.{put_as, put_then, put_stops, not_done, failed}
use Rattle.dts_print.proofs.Digits.{more_digits, one_digit}
use Rattle.dts_print.proofs.text.+put_digits.Goals as goal

pub returns-then-n-lt16 : goal.returns-then-n-lt16
returns-then-n-lt16 g t c =
    put_as _ _ _ _ _ _ _ (ap (λ d. d ∷ []) c.digit.ensures ∙ one_digit c.args.n c.if-n-lt16.true) c.put_byte.ensures

pub returns-in_err-put_digits : goal.returns-in_err-put_digits
returns-in_err-put_digits g t c =
    not_done _ _ _ _ _ _ (failed c.from_residual.result c.from_residual.ensures.0)
    (put_as _ _ _ _ _ _ _ (more_digits c.args.n c.if-n-lt16.false (omega arith))
    (put_stops (g.S.Sink.seen c.args.out.now) (g.S.Sink.seen c.put_digits.new.out) _ _ _ (digits 16 false (c.args.n / 16)) (digit_glyph false (c.args.n % 16) ∷ []) c.in_err-put_digits.ensures))

pub returns : goal.returns
returns g t c =
    put_as _ _ _ _ _ _ _ (more_digits c.args.n c.if-n-lt16.false (omega arith))
    (put_then (g.S.Sink.seen c.args.out.now) (g.S.Sink.seen c.put_digits.new.out) _ _ _ _ (digits 16 false (c.args.n / 16)) _ _ c.in_ok-put_digits.ensures
    (put_as _ _ _ _ _ _ _ (ap (λ d. d ∷ []) c.digit-2.ensures) c.put_byte-2.ensures))
