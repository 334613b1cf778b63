-- How the texts of bytes and pieces follow one another.
use Rattle.std.proofs.Common.{◌≡◌, ◌+◌, ◌-◌, ◌<◌, ◌++◌, ◌∙◌, ℕ, suc, true, false, arith, replicate, List, [], ◌∷◌, length, take, drop, get_or, sym, ap, subst, append_assoc}
use Rattle.std.proofs.lemmas.List.{append-nil, take-append-drop, take_more, drop_more, replicate-append-replicate}
use Rattle.std.proofs.lemmas.List.Concat.{flat_map-append}
use Rattle.std.specs.List.{flat_map}
use Rattle.edt_base.specs.Outside.{SinkSeen}
use Rattle.edt_base.specs.Put.{Put}
use Rattle.edt_base.proofs.Puts.{put_then, put_stops}

-- one thing more was put
pub one_more : {X : Type 0} (f : X → List ℕ) (xs : List X) (i : ℕ) (d x : X) (a b c : SinkSeen) (first second third : List ℕ)
    → i < length xs → x ≡ get_or xs i d → Put a b first second (flat_map f (take i xs)) true → Put b c second third (f x) true
    → Put a c first third (flat_map f (take (i + 1) xs)) true
one_more f xs i d x a b c first second third within at before after =
    let whole : flat_map f (take (i + 1) xs) ≡ flat_map f (take i xs) ++ f x =
    ap (flat_map f) (take_more xs i d within) ∙ (flat_map-append f (take i xs) (get_or xs i d ∷ [])
    ∙ ap (λ t. flat_map f (take i xs) ++ t) (append-nil (f (get_or xs i d)) ∙ ap f (sym at))) in
    subst (λ t. Put a c first third t true) (sym whole) (put_then a b c first second third _ _ true before after)

-- one thing failed, and with it all of them
pub one_fails : {X : Type 0} (f : X → List ℕ) (xs : List X) (i : ℕ) (d x : X) (a b c : SinkSeen) (first second third : List ℕ)
    → i < length xs → x ≡ get_or xs i d → Put a b first second (flat_map f (take i xs)) true → Put b c second third (f x) false
    → Put a c first third (flat_map f xs) false
one_fails f xs i d x a b c first second third within at before after =
    let rest : flat_map f (drop i xs) ≡ f x ++ flat_map f (drop (i + 1) xs) =
    ap (flat_map f) (drop_more xs i d within) ∙ ap (λ y. f y ++ flat_map f (drop (i + 1) xs)) (sym at) in
    let whole : flat_map f xs ≡ flat_map f (take i xs) ++ (f x ++ flat_map f (drop (i + 1) xs)) =
    ap (flat_map f) (sym (take-append-drop i xs)) ∙ (flat_map-append f (take i xs) (drop i xs) ∙ ap (λ t. flat_map f (take i xs) ++ t) rest) in
    subst (λ t. Put a c first third t false) (sym whole)
    (put_then a b c first second third _ _ false before (put_stops b c second third third _ _ after))

-- more of a text was put
pub part_more : (a b c : SinkSeen) (first second third text part left rest all : List ℕ)
    → text ++ left ≡ all → left ≡ part ++ rest → Put a b first second text true → Put b c second third part true
    → (more : List ℕ) × (more ++ rest ≡ all) × Put a c first third more true
part_more a b c first second third text part left rest all whole begins before here =
    (text ++ part, append_assoc text part rest ∙ (ap (λ t. text ++ t) (sym begins) ∙ whole), put_then a b c first second third text part true before here)

-- a part failed, and with it the text
pub part_fails : (a b c : SinkSeen) (first second third text part left rest all : List ℕ)
    → text ++ left ≡ all → left ≡ part ++ rest → Put a b first second text true → Put b c second third part false → Put a c first third all false
part_fails a b c first second third text part left rest all whole begins before here =
    subst (λ t. Put a c first third t false) (ap (λ t. text ++ t) (sym begins) ∙ whole)
    (put_then a b c first second third text (part ++ rest) false before (put_stops b c second third third part rest here))

-- all of a text was put
pub all_put : (a b : SinkSeen) (first second text left all : List ℕ) → text ++ left ≡ all → left ≡ [] → Put a b first second text true → Put a b first second all true
all_put a b first second text left all whole none before =
    subst (λ t. Put a b first second t true) (sym (append-nil text) ∙ (ap (λ t. text ++ t) (sym none) ∙ whole)) before

-- a tab failed, and with it all of them
pub tab_fails : (count i : ℕ) (a b c : SinkSeen) (first second third : List ℕ) → i < count → Put a b first second (replicate i 9) true → Put b c second third (9 ∷ []) false
    → Put a c first third (replicate count 9) false
tab_fails count i a b c first second third within before here =
    let more : ℕ = count - (i + 1) in
    let all : i + suc more ≡ count = omega arith in
    subst (λ t. Put a c first third t false) (replicate-append-replicate i (suc more) 9 ∙ ap (λ n. replicate n 9) all)
    (put_then a b c first second third (replicate i 9) (9 ∷ replicate more 9) false before (put_stops b c second third third (9 ∷ []) (replicate more 9) here))
