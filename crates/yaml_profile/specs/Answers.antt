-- What a step of reading answers: what stands then, or the first broken rule.
use Rattle.std.specs.Prelude.{◌≡◌, ℕ, Result, Ok, Err}
use Rattle.edt_base.specs.declared.fault.Rule.{Rule}
use Rattle.edt_base.specs.declared.fault.Rule.TheVariants.{Y1, Y2, Y3, Y4}
use Rattle.yaml_profile.specs.declared.stop.Broken.{Broken}
use Rattle.yaml_profile.specs.declared.stop.Stop.{Stop}
use Rattle.yaml_profile.specs.declared.stop.Stop.TheVariants as stops

infixl 10 ◌>>=◌
abbrev pub ◌>>=◌ : {A B : Type 0} → Result A Broken → (A → Result B Broken) → Result B Broken
(Ok x) >>= f = f x
(Err e) >>= f = Err e

abbrev pub broken : {A : Type 0} → Rule → ℕ → Result A Broken
broken rule at = Err (record { rule = rule; at = at })

-- no text of the profile, a form that it leaves out, a second key, and nesting too deep
abbrev pub no_text : {A : Type 0} → ℕ → Result A Broken
no_text at = broken Y1 at

abbrev pub left_out : {A : Type 0} → ℕ → Result A Broken
left_out at = broken Y2 at

abbrev pub second_key : {A : Type 0} → ℕ → Result A Broken
second_key at = broken Y3 at

abbrev pub too_deep : {A : Type 0} → ℕ → Result A Broken
too_deep at = broken Y4 at

-- a call stopped as stated, unless memory ran out
abbrev pub Fails : {A : Type 0} → Stop → Result A Broken → Type 0
Fails stops.Memory stated = Unit {0}
Fails (stops.Broken b) stated = stated ≡ Err b

-- a call gave what is stated, unless memory ran out
abbrev pub Gives : {X A : Type 0} → (X → A) → Result X Stop → Result A Broken → Type 0
Gives view (Ok x) stated = stated ≡ Ok (view x)
Gives view (Err e) stated = Fails e stated

-- a call left what is stated, unless memory ran out
abbrev pub Leaves : {X A : Type 0} → A → Result X Stop → Result A Broken → Type 0
Leaves new (Ok x) stated = stated ≡ Ok new
Leaves new (Err e) stated = Fails e stated
