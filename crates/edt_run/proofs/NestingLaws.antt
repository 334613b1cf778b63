-- Tokens and trees: what the tokens of a tree lead to, and what tokens lead to a tree.
use Rattle.std.proofs.Common.{◌≡◌, ◌<◌, ◌≤◌, ℕ, ◌+◌, Bool, true, false, List, [], ◌∷◌, ◌++◌, Option, Some, None, map, max, length, nat_lt, if◌then◌else◌, refl, ap, subst, ◌∙◌, arith, append-nil, append_assoc, add-zero}
use Rattle.std.proofs.lemmas.List.{map-append}
use Rattle.std.proofs.lemmas.Bool.{lt-ltb, ltb-true, and_parts}
use Rattle.edt_run.specs.Forest.{Forest, none, tree, size, depth, names}
use Rattle.edt_run.specs.Nodes.{Named, forest_from}
use Rattle.edt_run.specs.Small.{Token, Open, Close, Semicolon, Name, body_tokens, source_tokens, all_differ, AreApartBelow}
use Rattle.edt_run.specs.Reading.{Front, Parent, nested, can_enter, sibling_names, start, tree_of}

-- the nodes of a forest in a row
abbrev pub roots : Forest → List Named
roots none = []
roots (tree name below later) = record { name = name; below = below } ∷ roots later

pub forest_from_roots : (f : Forest) → forest_from (roots f) ≡ f
forest_from_roots none = refl
forest_from_roots (tree name below later) = ap (tree name below) (forest_from_roots later)

pub names_of_roots : (f : Forest) → sibling_names (roots f) ≡ names f
names_of_roots none = refl
names_of_roots (tree name below later) = ap (λ ns. name ∷ ns) (names_of_roots later)

abbrev pub at : List Parent → List Named → ℕ → Front
at outer here count = record { outer = outer; here = here; count = count }

abbrev pub parent : List ℕ → List Named → Parent
parent name before = record { name = name; before = before }

abbrev pub node : List ℕ → Forest → Named
node name below = record { name = name; below = below }

-- ---- one step

pub may_enter : (outer : List Parent) (here : List Named) (count : ℕ) → length outer + 1 < 64 → count < 65535 → can_enter (at outer here count) ≡ true
may_enter outer here count h k = rw (lt-ltb _ _ h, lt-ltb _ _ k) refl

pub enter_step : (outer : List Parent) (here : List Named) (count : ℕ) (name : List ℕ) (ts : List (Option Token))
    → length outer + 1 < 64 → count < 65535
    → nested (at outer here count) (Some (Name name) ∷ Some Open ∷ ts) ≡ nested (at (parent name here ∷ outer) [] (count + 1)) ts
enter_step outer here count name ts h k = rw (may_enter outer here count h k) refl

pub leave_step : (outer : List Parent) (name : List ℕ) (before here : List Named) (count : ℕ) (ts : List (Option Token))
    → all_differ (sibling_names here) ≡ true
    → nested (at (parent name before ∷ outer) here count) (Some Close ∷ Some Semicolon ∷ ts)
    ≡ nested (at outer (before ++ node name (forest_from here) ∷ []) count) ts
leave_step outer name before here count ts e = rw e refl

pub end_step : (here : List Named) (count : ℕ) → all_differ (sibling_names here) ≡ true
    → nested (at [] here count) (Some Close ∷ Some Semicolon ∷ []) ≡ Some (forest_from here)
end_step here count e = rw e refl

-- ---- the tokens of a tree lead to it

pub regrouped : (below later : List Token) (ts : List (Option Token))
    → map Some (below ++ Close ∷ Semicolon ∷ later) ++ ts ≡ map Some below ++ (Some Close ∷ Some Semicolon ∷ (map Some later ++ ts))
regrouped below later ts = rw (map-append, append_assoc) refl

pub over_body : (f : Forest) (outer : List Parent) (here : List Named) (count : ℕ) (ts : List (Option Token))
    → length outer + 1 + depth f ≤ 64 → count + size f ≤ 65535 → AreApartBelow f
    → nested (at outer here count) (map Some (body_tokens f) ++ ts) ≡ nested (at outer (here ++ roots f) (count + size f)) ts
over_body none outer here count ts h k a = rw (append-nil, add-zero) refl
over_body (tree name below later) outer here count ts h k a =
    let rest : List (Option Token) = map Some (body_tokens later) ++ ts in
    let inner : List Parent = parent name here ∷ outer in
    let one : nested (at outer here count) (map Some (body_tokens (tree name below later)) ++ ts)
    ≡ nested (at inner [] (count + 1)) (map Some (body_tokens below ++ Close ∷ Semicolon ∷ body_tokens later) ++ ts)
    = enter_step outer here count name (map Some (body_tokens below ++ Close ∷ Semicolon ∷ body_tokens later) ++ ts) (omega arith) (omega arith) in
    let two : nested (at inner [] (count + 1)) (map Some (body_tokens below ++ Close ∷ Semicolon ∷ body_tokens later) ++ ts)
    ≡ nested (at inner [] (count + 1)) (map Some (body_tokens below) ++ (Some Close ∷ Some Semicolon ∷ rest))
    = ap (λ xs. nested (at inner [] (count + 1)) xs) (regrouped (body_tokens below) (body_tokens later) ts) in
    let three : nested (at inner [] (count + 1)) (map Some (body_tokens below) ++ (Some Close ∷ Some Semicolon ∷ rest))
    ≡ nested (at inner (roots below) (count + 1 + size below)) (Some Close ∷ Some Semicolon ∷ rest)
    = over_body below inner [] (count + 1) (Some Close ∷ Some Semicolon ∷ rest) (omega arith) (omega arith) a.1 in
    let apart : all_differ (sibling_names (roots below)) ≡ true = rw (names_of_roots below) a.0 in
    let four : nested (at inner (roots below) (count + 1 + size below)) (Some Close ∷ Some Semicolon ∷ rest)
    ≡ nested (at outer (here ++ node name (forest_from (roots below)) ∷ []) (count + 1 + size below)) rest
    = leave_step outer name here (roots below) (count + 1 + size below) rest apart in
    let five : nested (at outer (here ++ node name (forest_from (roots below)) ∷ []) (count + 1 + size below)) rest
    ≡ nested (at outer (here ++ node name below ∷ []) (count + 1 + size below)) rest
    = ap (λ g. nested (at outer (here ++ node name g ∷ []) (count + 1 + size below)) rest) (forest_from_roots below) in
    let six : nested (at outer (here ++ node name below ∷ []) (count + 1 + size below)) rest
    ≡ nested (at outer ((here ++ node name below ∷ []) ++ roots later) (count + 1 + size below + size later)) ts
    = over_body later outer (here ++ node name below ∷ []) (count + 1 + size below) ts (omega arith) (omega arith) a.2 in
    let seven : nested (at outer ((here ++ node name below ∷ []) ++ roots later) (count + 1 + size below + size later)) ts
    ≡ nested (at outer (here ++ roots (tree name below later)) (count + size (tree name below later))) ts
    = let e : (here ++ node name below ∷ []) ++ roots later ≡ here ++ roots (tree name below later) = append_assoc here (node name below ∷ []) (roots later) in
    let n : count + 1 + size below + size later ≡ count + (1 + size below + size later) = omega arith in
    ap (λ xs. nested (at outer xs (count + 1 + size below + size later)) ts) e ∙ ap (λ m. nested (at outer (here ++ roots (tree name below later)) m) ts) n in
    one ∙ (two ∙ (three ∙ (four ∙ (five ∙ (six ∙ seven)))))

pub over_source : (f : Forest) → 1 + depth f ≤ 64 → 1 + size f ≤ 65535 → all_differ (names f) ≡ true → AreApartBelow f
    → tree_of (map Some (source_tokens f)) ≡ Some f
over_source f h k d a =
    let apart : all_differ (sibling_names (roots f)) ≡ true = rw (names_of_roots f) d in
    let one : nested start (map Some (body_tokens f ++ Close ∷ Semicolon ∷ [])) ≡ nested start (map Some (body_tokens f) ++ (Some Close ∷ Some Semicolon ∷ []))
    = ap (nested start) (map-append Some (body_tokens f) (Close ∷ Semicolon ∷ [])) in
    one ∙ (over_body f [] [] 1 (Some Close ∷ Some Semicolon ∷ []) (omega arith) (omega arith) a ∙ (end_step (roots f) (1 + size f) apart ∙ ap Some (forest_from_roots f)))

-- ---- tokens that lead to a tree are its tokens

-- one more node behind its siblings
pub depth_more : (b : List Named) (name : List ℕ) (g : Forest) → depth (forest_from (b ++ node name g ∷ [])) ≡ max (depth (forest_from b)) (1 + depth g)
depth_more [] name g = omega arith
depth_more (n ∷ ns) name g = let e = depth_more ns name g in omega arith

pub size_more : (b : List Named) (name : List ℕ) (g : Forest) → size (forest_from (b ++ node name g ∷ [])) ≡ size (forest_from b) + (1 + size g)
size_more [] name g = omega arith
size_more (n ∷ ns) name g = let e = size_more ns name g in omega arith

pub tokens_more : (b : List Named) (name : List ℕ) (g : Forest)
    → body_tokens (forest_from (b ++ node name g ∷ [])) ≡ body_tokens (forest_from b) ++ (Name name ∷ Open ∷ (body_tokens g ++ Close ∷ Semicolon ∷ []))
tokens_more [] name g = refl
tokens_more (n ∷ ns) name g = rw (tokens_more ns name g, append_assoc) refl

pub apart_more : (b : List Named) (name : List ℕ) (g : Forest) → AreApartBelow (forest_from b) → all_differ (names g) ≡ true → AreApartBelow g
    → AreApartBelow (forest_from (b ++ node name g ∷ []))
apart_more [] name g a d e = (d, e, tt)
apart_more (n ∷ ns) name g a d e = (a.0, a.1, apart_more ns name g a.2 d e)

pub names_from : (ns : List Named) → sibling_names ns ≡ names (forest_from ns)
names_from [] = refl
names_from (n ∷ ns) = ap (λ xs. n.name ∷ xs) (names_from ns)

-- the tokens of the body up to a front, and the nodes up to it, the root counted
abbrev pub read_before : List Parent → List Named → List Token
read_before [] here = body_tokens (forest_from here)
read_before (p ∷ ps) here = read_before ps p.before ++ (Name p.name ∷ Open ∷ body_tokens (forest_from here))

abbrev pub total : List Parent → List Named → ℕ
total [] here = 1 + size (forest_from here)
total (p ∷ ps) here = total ps p.before + (1 + size (forest_from here))

-- what is read below so many open nodes is apart and not too deep
pub record IsLevel (outside : ℕ) (here : List Named) : Type 0 where
  pub shallow : outside + 1 + depth (forest_from here) ≤ 64
  pub apart : AreApartBelow (forest_from here)

abbrev pub Fits : List Parent → List Named → Type 0
Fits [] here = IsLevel 0 here
Fits (p ∷ ps) here = IsLevel (length ps + 1) here × Fits ps p.before

pub level_of : (outer : List Parent) (here : List Named) → Fits outer here → IsLevel (length outer) here
level_of [] here h = h
level_of (p ∷ ps) here h = record { shallow = omega (arith, h.0.shallow); apart = h.0.apart }

pub levelled : (outer : List Parent) (before here : List Named) → Fits outer before → IsLevel (length outer) here → Fits outer here
levelled [] before here h l = l
levelled (p ∷ ps) before here h l = (record { shallow = omega (arith, l.shallow); apart = l.apart }, h.1)

pub total_more : (outer : List Parent) (b : List Named) (name : List ℕ) (g : Forest) → total outer (b ++ node name g ∷ []) ≡ total outer b + (1 + size g)
total_more [] b name g = let e = size_more b name g in omega arith
total_more (p ∷ ps) b name g = let e = size_more b name g in omega arith

pub read_more : (outer : List Parent) (b : List Named) (name : List ℕ) (g : Forest)
    → read_before outer (b ++ node name g ∷ []) ≡ read_before outer b ++ (Name name ∷ Open ∷ (body_tokens g ++ Close ∷ Semicolon ∷ []))
read_more [] b name g = tokens_more b name g
read_more (p ∷ ps) b name g = rw (tokens_more b name g, append_assoc) refl

pub record IsTreeOf (f : Forest) (ts : List (Option Token)) : Type 0 where
  pub tokens : map Some (body_tokens f ++ Close ∷ Semicolon ∷ []) ≡ ts
  pub apart : all_differ (names f) ≡ true
  pub apart_below : AreApartBelow f
  pub shallow : 1 + depth f ≤ 64
  pub few : 1 + size f ≤ 65535

pub chosen : (b : Bool) (x : Option Forest) (f : Forest) → (if b then x else None) ≡ Some f → (b ≡ true) × (x ≡ Some f)
chosen true x f e = (refl, e)
chosen false x f e = cc

pub as_tree : (f : Forest) (xs ys : List (Option Token)) → xs ≡ ys → IsTreeOf f xs → IsTreeOf f ys
as_tree f xs ys e h = let P : List (Option Token) → Type 0 = λ zs. IsTreeOf f zs in subst P e h

pub entering : (outer : List Parent) (here : List Named) (name : List ℕ) (ts : List (Option Token))
    → map Some (read_before outer here ++ (Name name ∷ Open ∷ [])) ++ ts ≡ map Some (read_before outer here) ++ (Some (Name name) ∷ Some Open ∷ ts)
entering outer here name ts = rw (map-append, append_assoc) refl

pub leaving : (front : List Token) (name : List ℕ) (g : List Token) (ts : List (Option Token))
    → map Some (front ++ (Name name ∷ Open ∷ (g ++ Close ∷ Semicolon ∷ []))) ++ ts ≡ map Some (front ++ (Name name ∷ Open ∷ g)) ++ (Some Close ∷ Some Semicolon ∷ ts)
leaving front name g ts = simp (map-append, append_assoc)

pub sound_nested : (ts : List (Option Token)) (outer : List Parent) (here : List Named) (count : ℕ) (f : Forest)
    → Fits outer here → total outer here ≡ count → count ≤ 65535 → nested (at outer here count) ts ≡ Some f → IsTreeOf f (map Some (read_before outer here) ++ ts)
sound_nested (Some (Name name) ∷ Some Open ∷ ts) outer here count f fits t few e =
    let c : (can_enter (at outer here count) ≡ true) × (nested (at (parent name here ∷ outer) [] (count + 1)) ts ≡ Some f)
    = chosen (can_enter (at outer here count)) (nested (at (parent name here ∷ outer) [] (count + 1)) ts) f e in
    let b : (nat_lt (length outer + 1) 64 ≡ true) × (nat_lt count 65535 ≡ true) = and_parts _ _ c.0 in
    let deep : length outer + 1 < 64 = ltb-true _ _ b.0 in
    let many : count < 65535 = ltb-true _ _ b.1 in
    let level : IsLevel (length outer + 1) [] = record { shallow = omega arith; apart = tt } in
    as_tree f _ _ (entering outer here name ts) (sound_nested ts (parent name here ∷ outer) [] (count + 1) f (level, fits) (omega arith) (omega arith) c.1)
sound_nested (Some Close ∷ Some Semicolon ∷ []) [] here count f fits t few e =
    let c : (all_differ (sibling_names here) ≡ true) × (Some (forest_from here) ≡ Some f) = chosen (all_differ (sibling_names here)) (Some (forest_from here)) f e in
    let same : forest_from here ≡ f = cc in
    let P : Forest → Type 0 = λ g. IsTreeOf g (map Some (body_tokens (forest_from here)) ++ (Some Close ∷ Some Semicolon ∷ [])) in
    subst P same (record { tokens = map-append Some (body_tokens (forest_from here)) (Close ∷ Semicolon ∷ []); apart = rw (← names_from here) c.0; apart_below = fits.apart; shallow = omega (arith, fits.shallow); few = omega arith })
sound_nested (Some Close ∷ Some Semicolon ∷ t ∷ ts) [] here count f fits total_is few e =
    let c : (all_differ (sibling_names here) ≡ true) × (None ≡ Some f) = chosen (all_differ (sibling_names here)) None f e in cc
sound_nested (Some Close ∷ Some Semicolon ∷ ts) (p ∷ ps) here count f fits t few e =
    let g : Forest = forest_from here in
    let now : List Named = p.before ++ node p.name g ∷ [] in
    let c : (all_differ (sibling_names here) ≡ true) × (nested (at ps now count) ts ≡ Some f)
    = chosen (all_differ (sibling_names here)) (nested (at ps now count) ts) f e in
    let outside : IsLevel (length ps) p.before = level_of ps p.before fits.1 in
    let d : depth (forest_from now) ≡ max (depth (forest_from p.before)) (1 + depth g) = depth_more p.before p.name g in
    let differ : all_differ (names g) ≡ true = rw (← names_from here) c.0 in
    let level : IsLevel (length ps) now = record { shallow = omega (arith, outside.shallow, fits.0.shallow); apart = apart_more p.before p.name g outside.apart differ fits.0.apart } in
    let n : total ps now ≡ total ps p.before + (1 + size g) = total_more ps p.before p.name g in
    let whole : map Some (read_before ps now) ++ ts ≡ map Some (read_before (p ∷ ps) here) ++ (Some Close ∷ Some Semicolon ∷ ts)
    = ap (λ xs. map Some xs ++ ts) (read_more ps p.before p.name g) ∙ leaving (read_before ps p.before) p.name (body_tokens g) ts in
    as_tree f _ _ whole (sound_nested ts ps now count f (levelled ps p.before now fits.1 level) (n ∙ t) few c.1)
sound_nested _ outer here count f fits t few e = cc

pub sound_start : (ts : List (Option Token)) (f : Forest) → nested start ts ≡ Some f → IsTreeOf f ts
sound_start ts f e = sound_nested ts [] [] 1 f (record { shallow = omega arith; apart = tt }) refl (omega arith) e
