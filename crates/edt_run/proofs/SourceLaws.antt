-- Reading sources one by one within the limit.
use Rattle.std.proofs.Common.{◌≡◌, ◌+◌, ◌-◌, ◌<◌, ◌≤◌, ◌++◌, ◌∙◌, ℕ, suc, List, [], ◌∷◌, Option, Some, None, Result, Ok, Err, IfErr, IsErrAnd, IfSome, Contains, option_map, length, map, take, drop, refl, sym, subst, ap, arith, append-nil}
use Rattle.std.proofs.Math.ListN.{replicate}
use Rattle.std.proofs.lemmas.List.{length-replicate, length-drop, take-append-drop, length-append, length-map}
use Rattle.std.proofs.lemmas.Grind.{common_steps}
use Rattle.edt_base.specs.Outside.{content}
use Rattle.std.proofs.Math.Seq.{take-append_seam, drop-append_seam}
use Rattle.std.proofs.lemmas.List.Elements.{Contains-append_left, Contains-append_right}
use Rattle.edt_base.specs.declared.fault.Fault.{Fault}
use Rattle.edt_base.specs.declared.fault.Rule.{Rule}
use Rattle.edt_base.specs.declared.fault.Rule.TheVariants as rule
use Rattle.edt_base.specs.Outside.{FilesSeen, Rose, held_of}
use Rattle.edt_base.proofs.WriteLaws.{rose_then}
use Rattle.edt_run.specs.declared.asked.Cmd.{Cmd}
use Rattle.edt_run.specs.declared.asked.Cmd.TheVariants as cmd
use Rattle.edt_run.specs.declared.sources.Stop.{Stop}
use Rattle.edt_run.specs.declared.sources.Stop.TheVariants as stop
use Rattle.edt_run.specs.Answer.{but_last, last_alone, defs_limit, first_above, first_past, or_else, source_limit, text_limit, too_long}
use Rattle.edt_run.specs.Steps.{AreOf, AreTogether, AreAbove, AreRead, ArePast, IsFailedRead, IsGroupStop, IsReadStop}

above_first : (left : ℕ) (name : List ℕ) (names : List (List ℕ)) (source : List ℕ) (others : List (List ℕ)) → left < length source
    → first_above left (name ∷ names) (source ∷ others) ≡ Some name
above_first left name names source others h = grind (arith, h)

-- after the sources before a place so much is left: what is above is told by the rest
abbrev pub IsLeft : ℕ → List (List ℕ) → List (List ℕ) → ℕ → ℕ → Type 0
IsLeft most names sources at left = (others : List (List ℕ)) → first_above most names (sources ++ others) ≡ first_above left (drop at names) others

-- all were read
pub read_all : (held : Option (List (List ℕ × List ℕ))) (most : ℕ) (names sources : List (List ℕ)) (at left : ℕ) → at ≡ length names → length sources ≡ at
    → IfSome held (λ files. sources ≡ map (content files) (take at names)) → IsLeft most names sources at left → AreTogether held most names sources
read_all held most names sources at left all as_many told left_is = record {
  of_names = record { as_many = as_many ∙ all; told = told_all held told };
  within = ap (λ s. first_above most names s) (sym (append-nil sources)) ∙ (left_is [] ∙ none_left (drop at names));
}
  where
    none_left : (rest : List (List ℕ)) → first_above left rest [] ≡ None
    none_left [] = refl
    none_left (name ∷ rest) = refl

    take_all : take at names ≡ names
    take_all = grind (arith, common_steps, all)

    told_all : (h : Option (List (List ℕ × List ℕ))) → IfSome h (λ files. sources ≡ map (content files) (take at names)) → IfSome h (λ files. sources ≡ map (content files) names)
    told_all None t = tt
    told_all (Some files) t = t ∙ ap (map (content files)) take_all

map_append : (f : List ℕ → List ℕ) (xs ys : List (List ℕ)) → map f (xs ++ ys) ≡ map f xs ++ map f ys
map_append f [] ys = refl
map_append f (x ∷ xs) ys = ap (λ l. f x ∷ l) (map_append f xs ys)

-- the source at a place has more bytes than are left
pub above_at : (held : Option (List (List ℕ × List ℕ))) (most : ℕ) (names sources : List (List ℕ)) (at left : ℕ) (name : List ℕ) → at < length names
    → drop at names ≡ name ∷ drop (suc at) names → length sources ≡ at
    → IfSome held (λ files. sources ≡ map (content files) (take at names)) → IsLeft most names sources at left
    → IfSome held (λ files. left < length (content files name)) → AreAbove held most names name
above_at None most names sources at left name in_names here as_many told left_is more =
    let rest : List (List ℕ) = replicate (length names - suc at) [] in
    let first : List ℕ = replicate (suc left) 0 in
    record {
      sources = sources ++ (first ∷ rest);
      of_names = record { as_many = count; told = tt };
      above = left_is (first ∷ rest) ∙ (ap (λ l. first_above left l (first ∷ rest)) here ∙ above_first left name (drop (suc at) names) first rest
          (let n : length first ≡ suc left = length-replicate {A = ℕ} (suc left) 0 in omega arith));
    }
  where
    count : length (sources ++ (replicate {A = ℕ} (suc left) 0 ∷ replicate (length names - suc at) [])) ≡ length names
    count =
        let a : length (sources ++ (replicate {A = ℕ} (suc left) 0 ∷ replicate (length names - suc at) [])) ≡ length sources + length (replicate {A = ℕ} (suc left) 0 ∷ replicate (length names - suc at) []) =
        length-append sources (replicate {A = ℕ} (suc left) 0 ∷ replicate (length names - suc at) []) in
        let b : length (replicate {A = List ℕ} (length names - suc at) []) ≡ length names - suc at = length-replicate {A = List ℕ} (length names - suc at) [] in
        let d : length (replicate {A = ℕ} (suc left) 0 ∷ replicate (length names - suc at) []) ≡ suc (length (replicate {A = List ℕ} (length names - suc at) [])) = refl in
        omega (arith, a, b, d, as_many, in_names)
above_at (Some files) most names sources at left name in_names here as_many told left_is more =
    let rest = map (content files) (drop at names) in
    record {
      sources = sources ++ rest;
      of_names = record { as_many = ap length whole ∙ length-map names (content files); told = whole };
      above = left_is rest ∙ (ap (λ l. first_above left l (map (content files) l)) here
          ∙ above_first left name (drop (suc at) names) (content files name) (map (content files) (drop (suc at) names)) more);
    }
  where
    whole : sources ++ map (content files) (drop at names) ≡ map (content files) names
    whole = ap (λ s. s ++ map (content files) (drop at names)) told
        ∙ (sym (map_append (content files) (take at names) (drop at names)) ∙ ap (map (content files)) (take-append-drop at names))

-- a fact under a premise that holds
pub of_true : {X E : Type 0} (x : E) (o : Option X) (Q : X → Type 0) → IfSome o (λ h. x ≡ x → Q h) → IfSome o Q
of_true x None Q f = tt
of_true x (Some h) Q f = f refl

-- ---- the sources of a job

-- where the sources of a tree are read, they are within their limit
pub tree_read : (held : Option (List (List ℕ × List ℕ))) (names sources : List (List ℕ)) → AreTogether held source_limit names sources
    → option_map (too_long rule.L1) (first_above source_limit names sources) ≡ None
tree_read held names sources read = ap (option_map (too_long rule.L1)) read.within

pub gen_read : (held : Option (List (List ℕ × List ℕ))) (names sources : List (List ℕ)) → AreTogether held source_limit names sources → AreRead held cmd.Gen names sources
gen_read held names sources read = record { of_names = read.of_names; within = tree_read held names sources read }

pub dts_read : (held : Option (List (List ℕ × List ℕ))) (names sources : List (List ℕ)) → AreTogether held source_limit names sources → AreRead held cmd.Dts names sources
dts_read held names sources read = record { of_names = read.of_names; within = tree_read held names sources read }

past_so : (limit broken : Rule) (name : List ℕ) (o : Option (List ℕ)) → broken ≡ limit → o ≡ Some name → option_map (too_long limit) o ≡ Some (too_long broken name)
past_so limit broken name o is above = ap (option_map (too_long limit)) above ∙ ap (λ r. Some (too_long r name)) (sym is)

pub gen_stop : (old new : FilesSeen) (names : List (List ℕ)) (why : Stop) → IsGroupStop old new source_limit rule.L1 names why → IsReadStop old new cmd.Gen names why
gen_stop old new names (stop.Failed name) h = h
gen_stop old new names (stop.TooLong broken name) h =
    record { sources = h.1.sources; of_names = h.1.of_names; past = past_so rule.L1 broken name (first_above source_limit names h.1.sources) h.0 h.1.above }
gen_stop old new names (stop.Memory e) h = tt

pub dts_stop : (old new : FilesSeen) (names : List (List ℕ)) (why : Stop) → IsGroupStop old new source_limit rule.L1 names why → IsReadStop old new cmd.Dts names why
dts_stop old new names (stop.Failed name) h = h
dts_stop old new names (stop.TooLong broken name) h =
    record { sources = h.1.sources; of_names = h.1.of_names; past = past_so rule.L1 broken name (first_above source_limit names h.1.sources) h.0 h.1.above }
dts_stop old new names (stop.Memory e) h = tt

-- ---- definitions and a text

-- the last of some names stands alone
last_one : (xs : List (List ℕ)) → 0 < length xs → length (last_alone xs) ≡ 1
last_one xs some = let e : length (last_alone xs) ≡ length xs - (length xs - 1) = length-drop (length xs - 1) xs in omega (arith, e, some)

parts_whole : (xs : List (List ℕ)) → but_last xs ++ last_alone xs ≡ xs
parts_whole xs = take-append-drop (length xs - 1) xs

-- a list with one more behind it, cut before that
count_before : (xs ys : List (List ℕ)) → length ys ≡ 1 → length (xs ++ ys) - 1 ≡ length xs
count_before xs ys one = let e : length (xs ++ ys) ≡ length xs + length ys = length-append xs ys in omega (arith, e, one)

front_of : (xs ys : List (List ℕ)) → length ys ≡ 1 → but_last (xs ++ ys) ≡ xs
front_of xs ys one = ap (λ n. take n (xs ++ ys)) (count_before xs ys one) ∙ take-append_seam xs ys

back_of : (xs ys : List (List ℕ)) → length ys ≡ 1 → last_alone (xs ++ ys) ≡ ys
back_of xs ys one = ap (λ n. drop n (xs ++ ys)) (count_before xs ys one) ∙ drop-append_seam xs ys

-- bytes of the definitions and of the text are bytes of all names
both_of : (held : Option (List (List ℕ × List ℕ))) (names ds ls : List (List ℕ)) → AreOf held (but_last names) ds → AreOf held (last_alone names) ls → AreOf held names (ds ++ ls)
both_of held names ds ls d l = record { as_many = count; told = both held d.told l.told }
  where
    count : length (ds ++ ls) ≡ length names
    count =
        let a : length (ds ++ ls) ≡ length ds + length ls = length-append ds ls in
        let b : length (but_last names ++ last_alone names) ≡ length (but_last names) + length (last_alone names) = length-append (but_last names) (last_alone names) in
        let c : length (but_last names ++ last_alone names) ≡ length names = ap length (parts_whole names) in
        omega (arith, a, b, c, d.as_many, l.as_many)

    both : (h : Option (List (List ℕ × List ℕ))) → IfSome h (λ files. ds ≡ map (content files) (but_last names)) → IfSome h (λ files. ls ≡ map (content files) (last_alone names))
        → IfSome h (λ files. ds ++ ls ≡ map (content files) names)
    both None p q = tt
    both (Some files) p q =
        ap (λ x. x ++ ls) p ∙ (ap (λ y. map (content files) (but_last names) ++ y) q
        ∙ (sym (map_append (content files) (but_last names) (last_alone names)) ∙ ap (map (content files)) (parts_whole names)))

-- some bytes for names
some_bytes : (held : Option (List (List ℕ × List ℕ))) (names : List (List ℕ)) → (sources : List (List ℕ)) × AreOf held names sources
some_bytes None names = (replicate (length names) [], record { as_many = length-replicate {A = List ℕ} (length names) []; told = tt })
some_bytes (Some files) names = (map (content files) names, record { as_many = length-map names (content files); told = refl })

neither : (x y : Option Fault) → x ≡ None → y ≡ None → or_else x y ≡ None
neither x y p q = ap (λ z. or_else z y) p ∙ q

first_so : (x y : Option Fault) (f : Fault) → x ≡ Some f → or_else x y ≡ Some f
first_so x y f p = ap (λ z. or_else z y) p

second_so : (x y : Option Fault) (f : Fault) → x ≡ None → y ≡ Some f → or_else x y ≡ Some f
second_so x y f p q = ap (λ z. or_else z y) p ∙ q

-- all were read
pub expand_read : (held : Option (List (List ℕ × List ℕ))) (names ds ls : List (List ℕ)) → 0 < length names → AreTogether held defs_limit (but_last names) ds
    → AreTogether held text_limit (last_alone names) ls → AreRead held cmd.Expand names (ds ++ ls)
expand_read held names ds ls some d l =
    let one : length ls ≡ 1 = l.of_names.as_many ∙ last_one names some in
    record {
      of_names = both_of held names ds ls d.of_names l.of_names;
      within = neither _ _ (ap (option_map (too_long rule.L6)) (ap (first_above defs_limit (but_last names)) (front_of ds ls one) ∙ d.within))
          (ap (option_map (too_long rule.L5)) (ap (first_above text_limit (last_alone names)) (back_of ds ls one) ∙ l.within));
    }

-- reading the definitions stopped
pub defs_stop : (old new : FilesSeen) (names : List (List ℕ)) (why : Stop) → 0 < length names → IsGroupStop old new defs_limit rule.L6 (but_last names) why
    → IsReadStop old new cmd.Expand names why
defs_stop old new names (stop.Failed name) some h =
    (subst (λ xs. Contains xs name) (parts_whole names) (Contains-append_left (but_last names) (last_alone names) name h.0), h.1, h.2)
defs_stop old new names (stop.TooLong broken name) some h =
    let last = some_bytes (held_of old) (last_alone names) in
    let one : length last.0 ≡ 1 = last.1.as_many ∙ last_one names some in
    record {
      sources = h.1.sources ++ last.0;
      of_names = both_of (held_of old) names h.1.sources last.0 h.1.of_names last.1;
      past = first_so _ _ _ (ap (λ s. option_map (too_long rule.L6) (first_above defs_limit (but_last names) s)) (front_of h.1.sources last.0 one)
          ∙ past_so rule.L6 broken name (first_above defs_limit (but_last names) h.1.sources) h.0 h.1.above);
    }
defs_stop old new names (stop.Memory e) some h = tt

-- reading the text stopped
pub text_stop : (old mid new : FilesSeen) (names ds : List (List ℕ)) (why : Stop) → 0 < length names → held_of mid ≡ held_of old → old.faults ≤ mid.faults
    → AreTogether (held_of old) defs_limit (but_last names) ds → IsGroupStop mid new text_limit rule.L5 (last_alone names) why → IsReadStop old new cmd.Expand names why
text_stop old mid new names ds (stop.Failed name) some same count d h = (
  subst (λ xs. Contains xs name) (parts_whole names) (Contains-append_right (but_last names) (last_alone names) name h.0),
  rose_then old.faults mid.faults new.faults count h.1,
  h.2,
)
text_stop old mid new names ds (stop.TooLong broken name) some same count d h =
    let of_last : AreOf (held_of old) (last_alone names) h.1.sources = subst (λ o. AreOf o (last_alone names) h.1.sources) same h.1.of_names in
    let one : length h.1.sources ≡ 1 = of_last.as_many ∙ last_one names some in
    record {
      sources = ds ++ h.1.sources;
      of_names = both_of (held_of old) names ds h.1.sources d.of_names of_last;
      past = second_so _ _ _ (ap (option_map (too_long rule.L6)) (ap (first_above defs_limit (but_last names)) (front_of ds h.1.sources one) ∙ d.within))
          (ap (λ s. option_map (too_long rule.L5) (first_above text_limit (last_alone names) s)) (back_of ds h.1.sources one)
          ∙ past_so rule.L5 broken name (first_above text_limit (last_alone names) h.1.sources) h.0 h.1.above);
    }
text_stop old mid new names ds (stop.Memory e) some same count d h = tt

pub stops_so : {T : Type 0} (old new : FilesSeen) (c : Cmd) (names : List (List ℕ)) (r : Result T Stop) (why : Stop) → IsErrAnd r (λ b. b ≡ why) → IsReadStop old new c names why
    → IfErr r (λ b. IsReadStop old new c names b)
stops_so old new c names (Ok x) why h s = tt
stops_so old new c names (Err b) why h s = subst (λ x. IsReadStop old new c names x) (sym h) s
