-- Calls over balanced arguments.
use Rattle.std.proofs.Common.{◌≡◌, ℕ, zero, suc, Bool, true, false, List, [], ◌∷◌, ◌++◌, Option, Some, None, option_map, map, refl, sym, ap, ◌∙◌, append_assoc, codes, if◌then◌else◌}
use Rattle.c_macro.specs.MacroData.{Macro}
use Rattle.c_macro.specs.Directive.{is_punct}
use Rattle.c_macro.specs.Marked.{Marked}
use Rattle.c_macro.specs.Calls.{Mark, Opens, Closes, Parts, Inner, mark_of, Closed, before_first, with_tok, with_end, closed_at, closed, commas_of, fitted}
use Rattle.c_macro.specs.Expansion.{Macros, Put, Call, look_macro, look_params, look_closed, look_fitted, macro_at, look}
use Rattle.c_macro.specs.Laws.{IsArgument, nothing, inner, comma, group, Further, written_call, AreArguments, CallsAreTaken}

-- these tokens stand before the first argument's others
abbrev before_all : List Marked → List (List Marked) → List (List Marked)
before_all [] xss = xss
before_all (t ∷ ts) xss = before_first t (before_all ts xss)

abbrev with_toks : List Marked → Closed → Closed
with_toks ts c = record { args = before_all ts c.args; last = c.last; rest = c.rest }

before_append : (xs ys : List Marked) (xss : List (List Marked)) → before_all (xs ++ ys) xss ≡ before_all xs (before_all ys xss)
before_append [] ys xss = refl
before_append (x ∷ xs) ys xss = ap (before_first x) (before_append xs ys xss)

-- commas may stand here: within parentheses, or where none parts arguments any more
abbrev MayPart : (commas : Bool) → Option ℕ → (deep : ℕ) → Type 0
MayPart false n deep = Unit {0}
MayPart true n (suc deep) = Unit {0}
MayPart true (Some zero) zero = Unit {0}
MayPart true (Some (suc n)) zero = ⊥
MayPart true None zero = ⊥

toks_none : (o : Option Closed) → o ≡ option_map (λ c. with_toks [] c) o
toks_none None = refl
toks_none (Some c) = refl

toks_more : (t : Marked) (ts : List Marked) (o : Option Closed) → option_map (λ c. with_tok t c) (option_map (λ c. with_toks ts c) o) ≡ option_map (λ c. with_toks (t ∷ ts) c) o
toks_more t ts None = refl
toks_more t ts (Some c) = refl

toks_group : (t last : Marked) (xs ts : List Marked) (o : Option Closed)
    → option_map (λ c. with_tok t c) (option_map (λ c. with_toks xs c) (option_map (λ c. with_tok last c) (option_map (λ c. with_toks ts c) o))) ≡ option_map (λ c. with_toks (t ∷ xs ++ last ∷ ts) c) o
toks_group t last xs ts None = refl
toks_group t last xs ts (Some c) =
    ap (λ (xss : List (List Marked)). Some (record { args = before_first t xss; last = c.last; rest = c.rest })) (sym (before_append xs (last ∷ ts) c.args))

go_on : (n : Option ℕ) (deep : ℕ) (t : Marked) (ts : List Marked) (m : Mark) → mark_of t.tok ≡ m → closed n deep (t ∷ ts) ≡ closed_at m n deep t ts (λ k e. closed k e ts)
go_on n deep t ts m e = ap (λ k. closed_at k n deep t ts (λ j e. closed j e ts)) e

comma_on : (n : Option ℕ) (deep : ℕ) (t : Marked) (ts : List Marked) → MayPart true n deep → closed_at Parts n deep t ts (λ k e. closed k e ts) ≡ option_map (λ c. with_tok t c) (closed n deep ts)
comma_on n (suc deep) t ts h = refl
comma_on (Some zero) zero t ts h = refl
comma_on (Some (suc n)) zero t ts h = absurd h
comma_on None zero t ts h = absurd h

taken : (n : Option ℕ) (deep : ℕ) (commas : Bool) (xs rest : List Marked) → MayPart commas n deep → IsArgument commas xs → closed n deep (xs ++ rest) ≡ option_map (λ c. with_toks xs c) (closed n deep rest)
taken n deep _ _ rest h (nothing commas) = toks_none (closed n deep rest)
taken n deep _ _ rest h (inner commas t ts m a) =
    go_on n deep t (ts ++ rest) Inner m ∙ (ap (option_map (λ c. with_tok t c)) (taken n deep commas ts rest h a) ∙ toks_more t ts (closed n deep rest))
taken n deep _ _ rest h (comma t ts m a) =
    go_on n deep t (ts ++ rest) Parts m ∙ (comma_on n deep t (ts ++ rest) h ∙ (ap (option_map (λ c. with_tok t c)) (taken n deep true ts rest h a) ∙ toks_more t ts (closed n deep rest)))
taken n deep _ _ rest h (group commas t last xs ts m k a b) =
    ap (λ us. closed n deep (t ∷ us)) (append_assoc xs (last ∷ ts) rest)
    ∙ (go_on n deep t (xs ++ (last ∷ ts ++ rest)) Opens m
    ∙ (ap (option_map (λ c. with_tok t c)) (taken n (suc deep) true xs (last ∷ ts ++ rest) tt a)
    ∙ (ap (λ o. option_map (λ c. with_tok t c) (option_map (λ c. with_toks xs c) o)) (go_on n (suc deep) last (ts ++ rest) Closes k)
    ∙ (ap (λ o. option_map (λ c. with_tok t c) (option_map (λ c. with_toks xs c) (option_map (λ c. with_tok last c) o))) (taken n deep commas ts rest h b)
    ∙ toks_group t last xs ts (closed n deep rest)))))

before_one : (xs : List Marked) (xss : List (List Marked)) → before_all xs ([] ∷ xss) ≡ xs ∷ xss
before_one [] xss = refl
before_one (x ∷ xs) xss = ap (before_first x) (before_one xs xss)

abbrev args_of : List Further → List (List Marked)
args_of fs = map (λ f. f.toks) fs

abbrev call_of : List (List Marked) → Marked → List Marked → Option Closed
call_of args last rest = Some (record { args = args; last = last; rest = rest })

ended : (n : Option ℕ) (commas : Bool) (xs : List Marked) (last : Marked) (rest : List Marked) → MayPart commas n 0 → IsArgument commas xs → mark_of last.tok ≡ Closes → closed n 0 (xs ++ last ∷ rest) ≡ call_of (xs ∷ []) last rest
ended n commas xs last rest h a m =
    taken n 0 commas xs (last ∷ rest) h a ∙ (ap (option_map (λ c. with_toks xs c)) (go_on n 0 last rest Closes m) ∙ ap (λ args. call_of args last rest) (before_one xs []))

-- a comma parts arguments, of which fewer are left then
abbrev Fewer : Option ℕ → Option ℕ → Type 0
Fewer None k = k ≡ None
Fewer (Some zero) k = ⊥
Fewer (Some (suc n)) k = k ≡ Some n

parted : (n k : Option ℕ) (t : Marked) (ts : List Marked) → Fewer n k → closed_at Parts n 0 t ts (λ j e. closed j e ts) ≡ option_map (λ c. with_end c) (closed k 0 ts)
parted None k t ts h = ap (λ j. option_map (λ c. with_end c) (closed j 0 ts)) (sym h)
parted (Some zero) k t ts h = absurd h
parted (Some (suc n)) k t ts h = ap (λ j. option_map (λ c. with_end c) (closed j 0 ts)) (sym h)

first_of : (n k : Option ℕ) (xs : List Marked) (t : Marked) (ts : List Marked) (args : List (List Marked)) (last : Marked) (rest : List Marked) → IsArgument false xs → mark_of t.tok ≡ Parts → Fewer n k
    → closed k 0 ts ≡ call_of args last rest → closed n 0 (xs ++ t ∷ ts) ≡ call_of (xs ∷ args) last rest
first_of n k xs t ts args last rest a m f e =
    taken n 0 false xs (t ∷ ts) tt a ∙ (ap (option_map (λ c. with_toks xs c)) (go_on n 0 t ts Parts m ∙ (parted n k t ts f ∙ ap (option_map (λ c. with_end c)) e)) ∙ ap (λ args. call_of args last rest) (before_one xs args))

all_taken : (n : Option ℕ) (first : List Marked) (fs : List Further) (last : Marked) (rest : List Marked) → AreArguments n first fs → mark_of last.tok ≡ Closes
    → closed n 0 (written_call first fs last rest) ≡ call_of (first ∷ args_of fs) last rest
all_taken None first [] last rest h m = ended None false first last rest tt h m
all_taken (Some zero) first [] last rest h m = ended (Some zero) true first last rest tt h m
all_taken (Some (suc n)) first [] last rest h m = ended (Some (suc n)) false first last rest tt h m
all_taken None first (f ∷ fs) last rest h m =
    first_of None None first f.divider (written_call f.toks fs last rest) (f.toks ∷ args_of fs) last rest h.0 h.1 refl (all_taken None f.toks fs last rest h.2 m)
all_taken (Some zero) first (f ∷ fs) last rest h m = absurd h
all_taken (Some (suc n)) first (f ∷ fs) last rest h m =
    first_of (Some (suc n)) (Some n) first f.divider (written_call f.toks fs last rest) (f.toks ∷ args_of fs) last rest h.0 h.1 refl (all_taken (Some n) f.toks fs last rest h.2 m)

pub calls_are_taken : CallsAreTaken
calls_are_taken d t o last m names first fs rest raws e p h a k f =
    ap (λ x. look_macro t x (o ∷ written_call first fs last rest)) e
    ∙ (ap (λ x. look_params t m x (o ∷ written_call first fs last rest)) p
    ∙ (ap (λ b. if b then look_closed t m names (closed (commas_of names m.variadic) 0 (written_call first fs last rest)) else Put t (o ∷ written_call first fs last rest)) h
    ∙ (ap (look_closed t m names) (all_taken (commas_of names m.variadic) first fs last rest a k)
    ∙ ap (look_fitted t m names (record { args = first ∷ args_of fs; last = last; rest = rest })) f)))
