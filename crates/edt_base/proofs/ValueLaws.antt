-- How values are read.
use Rattle.std.proofs.Common.{◌≡◌, ◌∙◌, ℕ, Bool, true, false, List, Some, None, if◌then◌else◌, refl, ap}
use Rattle.std.specs.Str.{IsUtf8, is_utf8}
use Rattle.std.proofs.lemmas.Str.{IsUtf8-from_is_utf8, is_utf8-from_IsUtf8}
use Rattle.edt_base.specs.Values.{utf8_text}

by_test : (b : Bool) (bs : List ℕ) → is_utf8 bs ≡ b → b ≡ true → Some bs ≡ (if b then Some bs else None)
by_test true bs e h = refl
by_test false bs e h = cc

pub utf8_yes : (bs t : List ℕ) → t ≡ bs → IsUtf8 bs → Some t ≡ utf8_text bs
utf8_yes bs t e h = ap (λ u. Some u) e ∙ by_test (is_utf8 bs) bs refl (is_utf8-from_IsUtf8 bs h)

no_test : (b : Bool) (bs : List ℕ) → (b ≡ true → ⊥) → None ≡ (if b then Some bs else None)
no_test true bs h = absurd (h refl)
no_test false bs h = refl

pub utf8_no : (bs : List ℕ) → (IsUtf8 bs → ⊥) → None ≡ utf8_text bs
utf8_no bs h = no_test (is_utf8 bs) bs (λ e. h (IsUtf8-from_is_utf8 bs e))
