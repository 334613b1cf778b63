-- Each token has the form that its terminal says.
use Rattle.std.proofs.Common.{◌≡◌, ℕ, Bool, true, false, ◌&&◌, List, [], ◌∷◌, Option, Some, None, refl, nat_eq, nat_lt, drop, take, codes, if◌then◌else◌}
use Rattle.std.specs.List.{list_all, prefix_len, starts_with}
use Rattle.std.specs.Str.{bytes_eq}
use Rattle.edt_base.specs.SourceBytes.{is_digit, is_hex, is_octal}
use Rattle.dts_lex.specs.declared.lexer.SpanKind.{SpanKind}
use Rattle.dts_lex.specs.declared.lexer.SpanKind.TheVariants as kind
use Rattle.dts_parse.specs.Numbers.{digits_worth, is_suffix, number, number_of_digits, number_terminal}
use Rattle.dts_parse.specs.Source.{byte_terminal, directive_terminal, double_terminal, name_terminal, punct_terminal, terminal_of}
use Rattle.dts_parse.specs.Texts.{char_worth, pair_worth}
use Rattle.dts_parse.specs.Token.{form_of, is_ascii, name_form}
use Rattle.dts_parse.specs.Inner.Spelled.{IsSpelled}
use Rattle.dts_parse.specs.declared.expr.BinOp.TheVariants as op
use Rattle.dts_parse.specs.declared.terminal.Form.{Form}
use Rattle.dts_parse.specs.declared.terminal.Terminal.{Terminal}
use Rattle.dts_parse.specs.declared.terminal.Terminal.TheVariants as terminal
use Rattle.dts_parse.proofs.Sound.{IsToken}

pub record Typed (s : Terminal) (text : List ℕ) : Type 0 where
  pub is : IsToken s text

typed_if : {x y : Terminal} {text : List ℕ} (b : Bool) → Typed x text → Typed y text → Typed (if b then x else y) text
typed_if true p q = p
typed_if false p q = q

leaf : (s : Terminal) (text : List ℕ) → IsToken s text → Typed s text
leaf s text h = record { is = h }

typed_directive : (text all : List ℕ) → Typed (directive_terminal text) all
typed_directive text all = typed_if (bytes_eq text (codes "/dts-v1/")) (leaf terminal.Version all tt) (typed_if (bytes_eq text (codes "/plugin/")) (leaf terminal.Plugin all tt) (typed_if (bytes_eq text (codes "/memreserve/")) (leaf terminal.Reserve all tt) (typed_if (bytes_eq text (codes "/delete-node/")) (leaf terminal.DeleteNode all tt) (typed_if (bytes_eq text (codes "/delete-property/")) (leaf terminal.DeleteProp all tt) (typed_if (bytes_eq text (codes "/omit-if-no-ref/")) (leaf terminal.Omit all tt) (typed_if (bytes_eq text (codes "/bits/")) (leaf terminal.Bits all tt) (leaf terminal.Include all tt)))))))

typed_byte : (b : ℕ) (all : List ℕ) → Typed (byte_terminal b) all
typed_byte b all = typed_if (nat_eq b 123) (leaf terminal.LeftBrace all tt) (typed_if (nat_eq b 125) (leaf terminal.RightBrace all tt) (typed_if (nat_eq b 91) (leaf terminal.LeftSquare all tt) (typed_if (nat_eq b 93) (leaf terminal.RightSquare all tt) (typed_if (nat_eq b 40) (leaf terminal.LeftRound all tt) (typed_if (nat_eq b 41) (leaf terminal.RightRound all tt) (typed_if (nat_eq b 60) (leaf terminal.Less all tt) (typed_if (nat_eq b 62) (leaf terminal.Greater all tt) (typed_if (nat_eq b 47) (leaf terminal.Slash all tt) (typed_if (nat_eq b 58) (leaf terminal.Colon all tt) (typed_if (nat_eq b 59) (leaf terminal.Semicolon all tt) (typed_if (nat_eq b 61) (leaf terminal.Equal all tt) (typed_if (nat_eq b 44) (leaf terminal.Comma all tt) (typed_if (nat_eq b 45) (leaf terminal.Minus all tt) (typed_if (nat_eq b 126) (leaf terminal.Tilde all tt) (typed_if (nat_eq b 33) (leaf terminal.Bang all tt) (typed_if (nat_eq b 63) (leaf terminal.Question all tt) (typed_if (nat_eq b 42) (leaf (terminal.Op op.Mul) all tt) (typed_if (nat_eq b 37) (leaf (terminal.Op op.Rem) all tt) (typed_if (nat_eq b 43) (leaf (terminal.Op op.Add) all tt) (typed_if (nat_eq b 38) (leaf (terminal.Op op.BitAnd) all tt) (typed_if (nat_eq b 94) (leaf (terminal.Op op.BitXor) all tt) (typed_if (nat_eq b 124) (leaf (terminal.Op op.BitOr) all tt) (leaf terminal.Other all tt)))))))))))))))))))))))

typed_double : (a b : ℕ) (all : List ℕ) → Typed (double_terminal a b) all
typed_double a b all = typed_if (nat_eq b 61) (typed_if (nat_eq a 60) (leaf (terminal.Op op.Le) all tt) (typed_if (nat_eq a 62) (leaf (terminal.Op op.Ge) all tt) (typed_if (nat_eq a 61) (leaf (terminal.Op op.Eq) all tt) (leaf (terminal.Op op.Ne) all tt)))) (typed_if (nat_eq a 60) (leaf (terminal.Op op.Shl) all tt) (typed_if (nat_eq a 62) (leaf (terminal.Op op.Shr) all tt) (typed_if (nat_eq a 38) (leaf (terminal.Op op.And) all tt) (leaf (terminal.Op op.Or) all tt))))

typed_punct : (text all : List ℕ) → Typed (punct_terminal text) all
typed_punct [] all = leaf terminal.Other all tt
typed_punct (b ∷ []) all = typed_byte b all
typed_punct (a ∷ b ∷ []) all = typed_double a b all
typed_punct (a ∷ b ∷ c ∷ rest) all = leaf terminal.Other all tt

typed_worth : (n : Option ℕ) (all : List ℕ) → Typed (number_terminal n) all
typed_worth None all = leaf terminal.Huge all tt
typed_worth (Some n) all = leaf (terminal.Number n) all tt

typed_digits : (base n : ℕ) (text all : List ℕ) → Typed (number_of_digits base n text) all
typed_digits base n text all = typed_if (nat_lt 0 n && is_suffix (drop n text)) (typed_worth (digits_worth base (Some 0) (take n text)) all) (leaf terminal.Other all tt)

typed_number : (text all : List ℕ) → Typed (number text) all
typed_number text all =
    typed_if (starts_with nat_eq text (codes "0x")) (typed_digits 16 (prefix_len is_hex (drop 2 text)) (drop 2 text) all)
    (typed_if (starts_with nat_eq text (codes "0")) (typed_digits 8 (prefix_len is_octal text) text all) (typed_digits 10 (prefix_len is_digit text) text all))

typed_name : (text : List ℕ) (r : Option Form) → form_of text ≡ r → Typed (name_terminal r) text
typed_name text None e = leaf terminal.Other text tt
typed_name text (Some f) e = leaf (terminal.Name f) text e

typed_ref : (text : List ℕ) (b : Bool) → list_all is_ascii text ≡ b → Typed (if b then terminal.Ref else terminal.Other) text
typed_ref text true e = leaf terminal.Ref text e
typed_ref text false e = leaf terminal.Other text tt

pub typed : (k : SpanKind) (text : List ℕ) → Typed (terminal_of k text) text
typed kind.Name text = typed_name text (form_of text) refl
typed kind.Number text = typed_number text text
typed kind.Char text = leaf (terminal.Char (char_worth text)) text tt
typed kind.Str text = leaf terminal.Str text tt
typed kind.Ref text = typed_ref text (list_all is_ascii text) refl
typed kind.PathRef text = typed_ref text (list_all is_ascii text) refl
typed kind.Directive text = typed_directive text text
typed kind.Punct text = typed_punct text text
typed kind.HexPair text = leaf (terminal.Pair (pair_worth text)) text tt

form_ascii : (text : List ℕ) (f : Form) → form_of text ≡ Some f → list_all is_ascii text ≡ true
form_ascii text f e = by_test (list_all is_ascii text) refl e
  where
    by_test : (b : Bool) → list_all is_ascii text ≡ b → (if b then name_form text else None) ≡ Some f → list_all is_ascii text ≡ true
    by_test true h e = h
    by_test false h e = cc

signed_of : (s : Terminal) (text : List ℕ) → IsToken s text → IsSpelled s text
signed_of (terminal.Name f) text h = form_ascii text f h
signed_of terminal.Ref text h = h
signed_of _ text h = tt

-- names and references are ASCII
pub signed : (k : SpanKind) (text : List ℕ) → IsSpelled (terminal_of k text) text
signed k text = signed_of (terminal_of k text) text (typed k text).is
