-- An escape's bytes are skipped.
use Rattle.std.proofs.Common.{◌≡◌, ℕ, zero, suc, List, [], ◌∷◌, drop, refl, sym, ap, ◌∙◌}
use Rattle.std.proofs.Common.{nat_eq, true}
use Rattle.std.proofs.lemmas.Bool.{eq-eqb}
use Rattle.dts_lex.specs.Tokens.{escape}
use Rattle.dts_parse.specs.Texts.{escaped, unescaped}

pub unescaped_drop : (n : ℕ) (xs : List ℕ) → unescaped n xs ≡ unescaped 0 (drop n xs)
unescaped_drop zero [] = refl
unescaped_drop (suc n) [] = refl
unescaped_drop zero (x ∷ xs) = refl
unescaped_drop (suc n) (x ∷ xs) = unescaped_drop n xs

pub next_escape : (first n e : ℕ) (behind rest : List ℕ) → first ≡ 92 → n ≡ escape behind → rest ≡ drop n behind → e ≡ escaped behind → unescaped 0 (first ∷ behind) ≡ e ∷ unescaped 0 rest
next_escape first n e behind rest a b c d =
    let same : unescaped (escape behind) behind ≡ unescaped 0 rest =
    unescaped_drop (escape behind) behind ∙ (ap (λ (k : ℕ). unescaped 0 (drop k behind)) (sym b) ∙ ap (λ (ys : List ℕ). unescaped 0 ys) (sym c)) in
    let test : nat_eq first 92 ≡ true = eq-eqb first 92 a in
    rw (test, same, ← d) refl
