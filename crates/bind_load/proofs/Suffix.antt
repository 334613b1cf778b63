-- What a text without its end is.
use Rattle.std.proofs.Common.{◌≡◌, ◌≢◌, ◌-◌, ◌++◌, ℕ, List, Bool, true, false, Option, Some, None, refl, length, take, nat_eq, Bor, if◌then◌else◌, MatchOption, rules}
use Rattle.std.specs.List.{ends_with}
use Rattle.std.specs.Option.{option_map}
use Rattle.std.specs.Str.Pattern.{FindsTextSuffix, StripsSuffix}
use Rattle.std.proofs.lemmas.Slice.Eq.{ends_is}
use Rattle.std.proofs.lemmas.Bool.Decides.{Decides-eqb}

none_case : (n key : List ℕ) → ((front : List ℕ) → key ≢ front ++ n) → (b : Bool) → b ≡ ends_with nat_eq key n → None ≡ (if b then Some (take (length key - length n) key) else None)
none_case n key h true e = absurd (h _ ((ends_is Decides-eqb key n true e).0 refl))
none_case n key h false e = refl

some_case : (n key front : List ℕ) → key ≡ front ++ n → (b : Bool) → b ≡ ends_with nat_eq key n → Some (take (length key - length n) key) ≡ (if b then Some (take (length key - length n) key) else None)
some_case n key front h true e = refl
some_case n key front h false e = let no : false ≡ true = (ends_is Decides-eqb key n false e).1 front h in absurd (search (no, rules))

pub suffix_of : (n key : List ℕ) (r : Option (Bor (List ℕ))) → MatchOption r (FindsTextSuffix n key None) (λ x. StripsSuffix (FindsTextSuffix n) key x.now) → option_map (λ s. s.now) r ≡ (if ends_with nat_eq key n then Some (take (length key - length n) key) else None)
suffix_of n key None h = none_case n key h _ refl
suffix_of n key (Some x) (k, found, is, long) = let same : k ≡ length n = found.0 in rw is (rw same (some_case n key _ found.1 _ refl))
