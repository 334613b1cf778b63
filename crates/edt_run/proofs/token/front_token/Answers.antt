use Rattle.std.proofs.Common.{◌≡◌, sym, subst, List, ℕ, take, ◌∙◌, ◌∷◌, false}
use Rattle.edt_run.proofs.TokenLaws.{version_front, sign_front, none_left}
use Rattle.edt_run.specs.Reading.{begins_with}
use Rattle.edt_run.specs.Small.{is_name_byte, is_blank}
use Rattle.std.specs.Str.{bytes_eq}
use Rattle.std.proofs.Common.{codes}
use Rattle.edt_run.proofs.token.front_token.Goals as goal

pub returns-in-Some-clause-token : goal.returns-in-Some-clause-token
returns-in-Some-clause-token c = version_front c.args.bytes.now c.in-Some.behind.now c.in-Some.ensures.cases.0 c.in-Some.ensures.cases.1

pub returns-in_err-first-clause-token : goal.returns-in_err-first-clause-token
returns-in_err-first-clause-token c = rw c.from_residual.ensures (none_left c.args.bytes.now c.in_err-first.ensures.cases)

pub returns-clause-token : goal.returns-clause-token
returns-clause-token c =
    let b : ℕ = c.in_ok-first.first.now in
    let bs : List ℕ = c.in_ok-first.behind.now in
    let is : c.args.bytes.now ≡ b ∷ bs = c.in_ok-first.ensures.cases.0 in
    let blank : is_blank b ≡ false = let P : List ℕ → Type 0 = λ xs. begins_with is_blank xs ≡ false in subst P is c.requires in
    let version = let P : List ℕ → Type 0 = λ xs. bytes_eq (take 8 xs) (codes "/dts-v1/") ≡ false in subst P is c.in_default.ensures.cases in
    let name : is_name_byte b ≡ false = sym c.is_name_byte.ensures ∙ c.if-is_name_byte.false in
    rw (is, c.sign.ensures) (sign_front b bs version blank name)
