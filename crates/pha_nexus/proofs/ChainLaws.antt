-- What is followed is a chain of rows, and each chain is followed.
use Rattle.std.proofs.Common.{◌≡◌, ◌∙◌, ◌+◌, ◌-◌, ◌<◌, ◌≤◌, ◌++◌, ◌∷◌, ◌⊎◌, inl, inr, [], ℕ, zero, suc, Bool, true, false, ◌&&◌, List, Option, Some, None, Result, Ok, Err, All, length, refl, sym, ap, subst, arith, if◌then◌else◌}
use Rattle.std.specs.Option.{option_map_or}
use Rattle.std.proofs.lemmas.List.Elements.{All-nil, All-cons, All-head, All-tail}
use Rattle.std.proofs.lemmas.Slice.Eq.{bytes_eq-Decides}
use Rattle.edt_base.specs.NodeData.{NodeData}
use Rattle.edt_base.specs.declared.fault.Rule.{Rule}
use Rattle.edt_base.specs.declared.fault.Rule.TheVariants as rule
use Rattle.edt_base.specs.declared.node.Part.{Part}
use Rattle.pha_nexus.specs.Chain.{AreFitting, Breaks, Ends, IsBrokenAt, IsChain, IsFirst, IsOther, IsTaken, followed, followed_within, in_row, no_row, on_the_way, onward, too_far, unfit}
use Rattle.pha_nexus.specs.Passing.{Hop, hop_by, is_as_long, masked, passed_at, sent}
use Rattle.pha_nexus.specs.Rows.{Row, are_same, rows_of, taken}
use Rattle.pha_nexus.specs.Space.{map_at, mask_at, pass_at}
use Rattle.pha_nexus.proofs.FollowLaws.{ends_here, goes_on, goes_too_far, is_broken}

-- ---- one map: what is taken of its rows

same_true : (xs ys : List ℕ) → xs ≡ ys → are_same xs ys ≡ true
same_true xs ys e = (bytes_eq-Decides xs ys).1 e

by_same : (t : Bool) (xs ys : List ℕ) → are_same xs ys ≡ t → (xs ≡ ys → ⊥) → are_same xs ys ≡ false
by_same true xs ys e h = absurd (h ((bytes_eq-Decides xs ys).0 e))
by_same false xs ys e h = e

not_same : (xs ys : List ℕ) → (xs ≡ ys → ⊥) → are_same xs ys ≡ false
not_same xs ys h = by_same (are_same xs ys) xs ys refl h

other_from : (row : Row) (cells : List ℕ) → are_same row.child cells ≡ false → IsOther cells (Ok row)
other_from row cells e same = let t : are_same row.child cells ≡ true = same_true row.child cells same in cc

-- the rows up to the first that is at fault or is taken don't matter
pub past_others : (cells : List ℕ) (before rest : List (Result Row Rule)) → All (IsOther cells) before → taken cells (before ++ rest) ≡ taken cells rest
past_others cells [] rest all = refl
past_others cells (Ok row ∷ before) rest all =
    let other : row.child ≡ cells → ⊥ = All-head (IsOther cells) (Ok row) before all in
    ap (λ (t : Bool). if t then Ok row else taken cells (before ++ rest)) (not_same row.child cells other)
    ∙ past_others cells before rest (All-tail (IsOther cells) (Ok row) before all)
past_others cells (Err b ∷ before) rest all = absurd (All-head (IsOther cells) (Err b) before all)

pub takes_first : (cells : List ℕ) (rows : List (Result Row Rule)) (row : Row) → IsFirst cells rows (Ok row) → row.child ≡ cells → taken cells rows ≡ Ok row
takes_first cells rows row first same = ap (taken cells) first.cut ∙ (past_others cells first.before (Ok row ∷ first.behind) first.others
    ∙ ap (λ (t : Bool). if t then Ok row else taken cells first.behind) (same_true row.child cells same))

pub meets_fault : (cells : List ℕ) (rows : List (Result Row Rule)) (b : Rule) → IsFirst cells rows (Err b) → taken cells rows ≡ Err b
meets_fault cells rows b first = ap (taken cells) first.cut ∙ past_others cells first.before (Err b ∷ first.behind) first.others

append_none : (rows : List (Result Row Rule)) → rows ≡ rows ++ []
append_none [] = refl
append_none (r ∷ rs) = ap (λ (more : List (Result Row Rule)). r ∷ more) (append_none rs)

pub takes_none : (cells : List ℕ) (rows : List (Result Row Rule)) → All (IsOther cells) rows → taken cells rows ≡ Err rule.V27
takes_none cells rows all = ap (taken cells) (append_none rows) ∙ past_others cells rows [] all

-- the other way round
one_before : (cells : List ℕ) (rows : List (Result Row Rule)) (row : Row) (one : Result Row Rule) → are_same row.child cells ≡ false → IsFirst cells rows one → IsFirst cells (Ok row ∷ rows) one
one_before cells rows row one e first = record {
  before = Ok row ∷ first.before;
  behind = first.behind;
  cut = ap (λ (more : List (Result Row Rule)). Ok row ∷ more) first.cut;
  others = All-cons (IsOther cells) (Ok row) first.before (other_from row cells e) first.others;
}

at_once : (cells : List ℕ) (rows : List (Result Row Rule)) (one : Result Row Rule) → IsFirst cells (one ∷ rows) one
at_once cells rows one = record { before = []; behind = rows; cut = refl; others = All-nil (IsOther cells) }

taken_by_test : (t : Bool) (cells : List ℕ) (one : Row) (rows : List (Result Row Rule)) (row : Row) → are_same one.child cells ≡ t
    → (taken cells rows ≡ Ok row → IsFirst cells rows (Ok row) × (row.child ≡ cells))
    → (if t then Ok one else taken cells rows) ≡ Ok row → IsFirst cells (Ok one ∷ rows) (Ok row) × (row.child ≡ cells)
taken_by_test true cells one rows row t more e =
    let is : one ≡ row = cc in (
      subst (λ (r : Row). IsFirst cells (Ok one ∷ rows) (Ok r)) is (at_once cells rows (Ok one)),
      subst (λ (r : Row). r.child ≡ cells) is ((bytes_eq-Decides one.child cells).0 t),
    )
taken_by_test false cells one rows row t more e = (one_before cells rows one (Ok row) t (more e).0, (more e).1)

pub taken_first : (cells : List ℕ) (rows : List (Result Row Rule)) (row : Row) → taken cells rows ≡ Ok row → IsFirst cells rows (Ok row) × (row.child ≡ cells)
taken_first cells [] row e = cc
taken_first cells (Err b ∷ rows) row e = cc
taken_first cells (Ok one ∷ rows) row e = taken_by_test (are_same one.child cells) cells one rows row refl (taken_first cells rows row) e

-- why no row is taken: the first that is at fault, or all are for other cells
abbrev IsWhy : List ℕ → List (Result Row Rule) → Rule → Type 0
IsWhy cells rows b = IsFirst cells rows (Err b) ⊎ ((b ≡ rule.V27) × All (IsOther cells) rows)

why_before : (cells : List ℕ) (one : Row) (rows : List (Result Row Rule)) (b : Rule) → are_same one.child cells ≡ false → IsWhy cells rows b → IsWhy cells (Ok one ∷ rows) b
why_before cells one rows b t (inl first) = inl (one_before cells rows one (Err b) t first)
why_before cells one rows b t (inr (is, all)) = inr (is, All-cons (IsOther cells) (Ok one) rows (other_from one cells t) all)

refused_by_test : (t : Bool) (cells : List ℕ) (one : Row) (rows : List (Result Row Rule)) (b : Rule) → are_same one.child cells ≡ t
    → (taken cells rows ≡ Err b → IsWhy cells rows b) → (if t then Ok one else taken cells rows) ≡ Err b → IsWhy cells (Ok one ∷ rows) b
refused_by_test true cells one rows b t more e = cc
refused_by_test false cells one rows b t more e = why_before cells one rows b t (more e)

pub refused_why : (cells : List ℕ) (rows : List (Result Row Rule)) (b : Rule) → taken cells rows ≡ Err b → IsWhy cells rows b
refused_why cells [] b e = let is : b ≡ rule.V27 = cc in inr (is, All-nil (IsOther cells))
refused_why cells (Err d ∷ rows) b e =
    let is : d ≡ b = cc in inl (subst (λ (r : Rule). IsFirst cells (Err d ∷ rows) (Err r)) is (at_once cells rows (Err d)))
refused_why cells (Ok one ∷ rows) b e = refused_by_test (are_same one.child cells) cells one rows b refl (refused_why cells rows b) e

-- ---- through a map

pub fitting_pass : (nodes : List NodeData) (space : List ℕ) (at : ℕ) (spec : List ℕ) (map : List Part) → AreFitting nodes space at spec
    → passed_at nodes space at spec map ≡ hop_by spec (pass_at nodes space at) (taken (masked spec (mask_at nodes space at)) (rows_of nodes space (length spec) map))
fitting_pass nodes space at spec map fit =
    let go : Result Hop Rule = hop_by spec (pass_at nodes space at) (taken (masked spec (mask_at nodes space at)) (rows_of nodes space (length spec) map)) in
    ap (λ (b : Bool). if b && is_as_long spec (pass_at nodes space at) then hop_by spec (pass_at nodes space at) (taken (masked spec (mask_at nodes space at)) (rows_of nodes space (length spec) map)) else Err rule.V28) fit.mask
    ∙ ap (λ (b : Bool). if b then hop_by spec (pass_at nodes space at) (taken (masked spec (mask_at nodes space at)) (rows_of nodes space (length spec) map)) else Err rule.V28) fit.pass

by_tests : (a b : Bool) (x y : Result Hop Rule) → (a ≡ true → b ≡ true → ⊥) → (if a && b then x else y) ≡ y
by_tests true true x y h = absurd (h refl refl)
by_tests true false x y h = refl
by_tests false b x y h = refl

pub unfit_pass : (nodes : List NodeData) (space : List ℕ) (at : ℕ) (spec : List ℕ) (map : List Part) → (AreFitting nodes space at spec → ⊥)
    → passed_at nodes space at spec map ≡ Err rule.V28
unfit_pass nodes space at spec map h =
    by_tests (is_as_long spec (mask_at nodes space at)) (is_as_long spec (pass_at nodes space at)) _ (Err rule.V28) (λ m p. h (record { mask = m; pass = p }))

-- a row that is taken leads on
pub taken_pass : (nodes : List NodeData) (space : List ℕ) (at : ℕ) (spec : List ℕ) (row : Row) (is : IsTaken nodes space at spec row)
    → passed_at nodes space at spec is.map ≡ Ok (record { node = row.node; spec = sent spec (pass_at nodes space at) row.parent })
taken_pass nodes space at spec row is = fitting_pass nodes space at spec is.map is.fitting
    ∙ ap (hop_by spec (pass_at nodes space at)) (takes_first (masked spec (mask_at nodes space at)) (rows_of nodes space (length spec) is.map) row is.first is.same)

-- a rule that is broken stops it
pub broken_pass : (nodes : List NodeData) (space : List ℕ) (at : ℕ) (spec : List ℕ) (map : List Part) (b : Rule) → IsBrokenAt nodes space at spec map b
    → passed_at nodes space at spec map ≡ Err b
broken_pass nodes space at spec map b (unfit h) = unfit_pass nodes space at spec map h
broken_pass nodes space at spec map b (in_row d fit first) = fitting_pass nodes space at spec map fit
    ∙ ap (hop_by spec (pass_at nodes space at)) (meets_fault (masked spec (mask_at nodes space at)) (rows_of nodes space (length spec) map) d first)
broken_pass nodes space at spec map b (no_row fit all) = fitting_pass nodes space at spec map fit
    ∙ ap (hop_by spec (pass_at nodes space at)) (takes_none (masked spec (mask_at nodes space at)) (rows_of nodes space (length spec) map) all)

-- ---- along a chain

pub along : (rows : List Row) (left less : ℕ) (nodes : List NodeData) (space : List ℕ) (at : ℕ) (spec : List ℕ) (last : ℕ) (end : List ℕ)
    → left ≡ length rows + less → IsChain nodes space at spec rows last end
    → followed_within left nodes space at spec ≡ followed_within less nodes space last end
along [] left less nodes space at spec last end n chain =
    let same : left ≡ less = omega arith in
    ap (λ (k : ℕ). followed_within k nodes space at spec) same ∙ (ap (λ (k : ℕ). followed_within less nodes space k spec) chain.0
    ∙ ap (λ (xs : List ℕ). followed_within less nodes space last xs) chain.1)
along (row ∷ rows) left less nodes space at spec last end n chain =
    let more : left ≡ suc (length rows + less) = omega arith in
    goes_on left (length rows + less) nodes space at spec chain.0.map (record { node = row.node; spec = sent spec (pass_at nodes space at) row.parent }) more chain.0.there
    (taken_pass nodes space at spec row chain.0)
    ∙ along rows (length rows + less) less nodes space row.node (sent spec (pass_at nodes space at) row.parent) last end refl chain.1

-- each chain that ends is followed to its end
pub ends_are_followed : (nodes : List NodeData) (space : List ℕ) (start : ℕ) (spec : List ℕ) (last : ℕ) (end : List ℕ) → Ends nodes space start spec last end
    → followed nodes space start spec ≡ Ok (record { node = last; spec = end })
ends_are_followed nodes space start spec last end ends =
    let sum : 16 ≡ length ends.rows + (16 - length ends.rows) = let few = ends.few in omega arith in
    along ends.rows 16 (16 - length ends.rows) nodes space start spec last end sum ends.chain
    ∙ ends_here (16 - length ends.rows) nodes space last end ends.no_map

-- each chain that breaks a rule is followed to it
pub breaks_are_followed : (nodes : List NodeData) (space : List ℕ) (start : ℕ) (spec : List ℕ) (b : Rule) → Breaks nodes space start spec b
    → followed nodes space start spec ≡ Err b
breaks_are_followed nodes space start spec b (on_the_way rows last end map d few chain there broken) =
    let sum : 16 ≡ length rows + (16 - length rows) = omega arith in
    let more : 16 - length rows ≡ suc (15 - length rows) = omega arith in
    along rows 16 (16 - length rows) nodes space start spec last end sum chain
    ∙ is_broken (16 - length rows) (15 - length rows) nodes space last end map d more there (broken_pass nodes space last end map d broken)
breaks_are_followed nodes space start spec b (too_far rows last end map many chain there) =
    let sum : 16 ≡ length rows + 0 = omega arith in
    along rows 16 0 nodes space start spec last end sum chain ∙ goes_too_far 0 nodes space last end map refl there

-- ---- what is followed is a chain

pass_tests : (a b : Bool) (x : Result Hop Rule) (hop : Hop) → (if a && b then x else Err rule.V28) ≡ Ok hop → (a ≡ true) × (b ≡ true) × (x ≡ Ok hop)
pass_tests true true x hop e = (refl, refl, e)
pass_tests true false x hop e = let no_way : ⊥ = cc in absurd no_way
pass_tests false b x hop e = let no_way : ⊥ = cc in absurd no_way

-- a hop comes of a row
record HopOf (spec : List ℕ) (pass : Option (List Part)) (r : Result Row Rule) (hop : Hop) : Type 0 where
  pub row : Row
  pub is : r ≡ Ok row
  pub node : hop.node ≡ row.node
  pub sends : hop.spec ≡ sent spec pass row.parent

hop_from : (spec : List ℕ) (pass : Option (List Part)) (r : Result Row Rule) (hop : Hop) → hop_by spec pass r ≡ Ok hop → HopOf spec pass r hop
hop_from spec pass (Err b) hop e = let no_way : ⊥ = cc in absurd no_way
hop_from spec pass (Ok row) hop e =
    let made : Hop = record { node = row.node; spec = sent spec pass row.parent } in
    let same : hop ≡ made = cc in
    record { row = row; is = refl; node = ap (λ (h : Hop). h.node) same; sends = ap (λ (h : Hop). h.spec) same }

hop_err : (spec : List ℕ) (pass : Option (List Part)) (r : Result Row Rule) (b : Rule) → hop_by spec pass r ≡ Err b → r ≡ Err b
hop_err spec pass (Err d) b e = let same : d ≡ b = cc in ap (λ (x : Rule). Err x) same
hop_err spec pass (Ok row) b e = let no_way : ⊥ = cc in absurd no_way

-- a chain of at most so many rows that ends
record EndsWithin (left : ℕ) (nodes : List NodeData) (space : List ℕ) (at : ℕ) (spec : List ℕ) (hop : Hop) : Type 0 where
  pub rows : List Row
  pub few : length rows ≤ left
  pub chain : IsChain nodes space at spec rows hop.node hop.spec
  pub no_map : map_at nodes space hop.node ≡ None

-- the row of a step, and the chain behind it
taken_step : (nodes : List NodeData) (space : List ℕ) (at : ℕ) (spec : List ℕ) (map : List Part) (hop : Hop) → map_at nodes space at ≡ Some map
    → passed_at nodes space at spec map ≡ Ok hop
    → (row : Row) × IsTaken nodes space at spec row × (hop.node ≡ row.node) × (hop.spec ≡ sent spec (pass_at nodes space at) row.parent)
taken_step nodes space at spec map hop there e =
    let tests = pass_tests (is_as_long spec (mask_at nodes space at)) (is_as_long spec (pass_at nodes space at)) _ hop e in
    let from = hop_from spec (pass_at nodes space at) (taken (masked spec (mask_at nodes space at)) (rows_of nodes space (length spec) map)) hop tests.2 in
    let first = taken_first (masked spec (mask_at nodes space at)) (rows_of nodes space (length spec) map) from.row from.is in
    let is : IsTaken nodes space at spec from.row = record { map = map; there = there; fitting = record { mask = tests.0; pass = tests.1 }; first = first.0; same = first.1 } in
    (from.row, is, from.node, from.sends)

chain_moved : (nodes : List NodeData) (space : List ℕ) (n m : ℕ) (xs ys : List ℕ) (rows : List Row) (last : ℕ) (end : List ℕ) → n ≡ m → xs ≡ ys
    → IsChain nodes space n xs rows last end → IsChain nodes space m ys rows last end
chain_moved nodes space n m xs ys rows last end e h chain =
    subst (λ (zs : List ℕ). IsChain nodes space m zs rows last end) h (subst (λ (k : ℕ). IsChain nodes space k xs rows last end) e chain)

ends_step : (left : ℕ) (nodes : List NodeData) (space : List ℕ) (at : ℕ) (spec : List ℕ) (map : List Part) (hop hop2 : Hop) → map_at nodes space at ≡ Some map
    → passed_at nodes space at spec map ≡ Ok hop → EndsWithin left nodes space hop.node hop.spec hop2 → EndsWithin (suc left) nodes space at spec hop2
ends_step left nodes space at spec map hop hop2 there e more =
    let step = taken_step nodes space at spec map hop there e in
    let few : length more.rows ≤ left = more.few in
    record {
      rows = step.0 ∷ more.rows;
      few = omega arith;
      chain = (step.1, chain_moved nodes space hop.node step.0.node hop.spec (sent spec (pass_at nodes space at) step.0.parent) more.rows hop2.node hop2.spec step.2 step.3 more.chain);
      no_map = more.no_map;
    }

ends_at_once : (left : ℕ) (nodes : List NodeData) (space : List ℕ) (at : ℕ) (spec : List ℕ) (hop made : Hop) → made ≡ record { node = at; spec = spec } → made ≡ hop
    → map_at nodes space at ≡ None → EndsWithin left nodes space at spec hop
ends_at_once left nodes space at spec hop made is same none =
    let node : at ≡ hop.node = ap (λ (h : Hop). h.node) (sym is ∙ same) in
    record {
      rows = [];
      few = omega arith;
      chain = (node, ap (λ (h : Hop). h.spec) (sym is ∙ same));
      no_map = subst (λ (n : ℕ). map_at nodes space n ≡ None) node none;
    }

ends_with_none : (nodes : List NodeData) (space : List ℕ) (at : ℕ) (spec : List ℕ) (hop : Hop) (m : Option (List Part)) → map_at nodes space at ≡ m
    → option_map_or {U = Result Hop Rule} (λ (map : List Part). Err rule.V29) m (Ok (record { node = at; spec = spec })) ≡ Ok hop → EndsWithin zero nodes space at spec hop
ends_with_none nodes space at spec hop None there f =
    let made : Hop = record { node = at; spec = spec } in let same : made ≡ hop = cc in ends_at_once zero nodes space at spec hop made refl same there
ends_with_none nodes space at spec hop (Some map) there f = let no_way : ⊥ = cc in absurd no_way

-- the same of fewer rows
abbrev EndsAlways : ℕ → List NodeData → List ℕ → Type 0
EndsAlways left nodes space = (at : ℕ) (spec : List ℕ) (hop : Hop) → followed_within left nodes space at spec ≡ Ok hop → EndsWithin left nodes space at spec hop

ends_by_pass : (left : ℕ) (nodes : List NodeData) (space : List ℕ) (at : ℕ) (spec : List ℕ) (hop : Hop) (map : List Part) (r : Result Hop Rule) → EndsAlways left nodes space
    → map_at nodes space at ≡ Some map → passed_at nodes space at spec map ≡ r
    → onward r (λ (h : Hop). followed_within left nodes space h.node h.spec) ≡ Ok hop → EndsWithin (suc left) nodes space at spec hop
ends_by_pass left nodes space at spec hop map (Err b) more there is f = let no_way : ⊥ = cc in absurd no_way
ends_by_pass left nodes space at spec hop map (Ok one) more there is f = ends_step left nodes space at spec map one hop there is (more one.node one.spec hop f)

ends_by_map : (left : ℕ) (nodes : List NodeData) (space : List ℕ) (at : ℕ) (spec : List ℕ) (hop : Hop) (m : Option (List Part)) → EndsAlways left nodes space
    → map_at nodes space at ≡ m
    → option_map_or {U = Result Hop Rule} (λ (map : List Part). onward (passed_at nodes space at spec map) (λ (h : Hop). followed_within left nodes space h.node h.spec)) m (Ok (record { node = at; spec = spec })) ≡ Ok hop
    → EndsWithin (suc left) nodes space at spec hop
ends_by_map left nodes space at spec hop None more there f =
    let made : Hop = record { node = at; spec = spec } in let same : made ≡ hop = cc in ends_at_once (suc left) nodes space at spec hop made refl same there
ends_by_map left nodes space at spec hop (Some map) more there f = ends_by_pass left nodes space at spec hop map (passed_at nodes space at spec map) more there refl f

ends_from : (left : ℕ) (nodes : List NodeData) (space : List ℕ) (at : ℕ) (spec : List ℕ) (hop : Hop) → followed_within left nodes space at spec ≡ Ok hop
    → EndsWithin left nodes space at spec hop
unfolding followed_within
ends_from zero nodes space at spec hop e = ends_with_none nodes space at spec hop (map_at nodes space at) refl e
ends_from (suc left) nodes space at spec hop e = ends_by_map left nodes space at spec hop (map_at nodes space at) (ends_from left nodes space) refl e

pub followed_ends : (nodes : List NodeData) (space : List ℕ) (start : ℕ) (spec : List ℕ) (last : ℕ) (end : List ℕ)
    → followed nodes space start spec ≡ Ok (record { node = last; spec = end }) → Ends nodes space start spec last end
followed_ends nodes space start spec last end e =
    let ends = ends_from 16 nodes space start spec (record { node = last; spec = end }) e in
    let few : length ends.rows ≤ 16 = ends.few in
    record { rows = ends.rows; few = omega arith; chain = ends.chain; no_map = ends.no_map }

-- the rule that is broken at a map
broken_why : (nodes : List NodeData) (space : List ℕ) (at : ℕ) (spec : List ℕ) (map : List Part) (b : Rule) → AreFitting nodes space at spec
    → IsWhy (masked spec (mask_at nodes space at)) (rows_of nodes space (length spec) map) b → IsBrokenAt nodes space at spec map b
broken_why nodes space at spec map b fit (inl first) = in_row b fit first
broken_why nodes space at spec map b fit (inr (is, all)) = subst (λ (r : Rule). IsBrokenAt nodes space at spec map r) (sym is) (no_row fit all)

broken_by_tests : (nodes : List NodeData) (space : List ℕ) (at : ℕ) (spec : List ℕ) (map : List Part) (b : Rule) (x y : Bool)
    → is_as_long spec (mask_at nodes space at) ≡ x → is_as_long spec (pass_at nodes space at) ≡ y
    → (if x && y then hop_by spec (pass_at nodes space at) (taken (masked spec (mask_at nodes space at)) (rows_of nodes space (length spec) map)) else Err rule.V28) ≡ Err b
    → IsBrokenAt nodes space at spec map b
broken_by_tests nodes space at spec map b true true mask pass e =
    let why = refused_why (masked spec (mask_at nodes space at)) (rows_of nodes space (length spec) map) b
    (hop_err spec (pass_at nodes space at) (taken (masked spec (mask_at nodes space at)) (rows_of nodes space (length spec) map)) b e) in
    broken_why nodes space at spec map b (record { mask = mask; pass = pass }) why
broken_by_tests nodes space at spec map b true false mask pass e =
    let is : rule.V28 ≡ b = cc in
    subst (λ (r : Rule). IsBrokenAt nodes space at spec map r) is (unfit (λ fit. let fits : is_as_long spec (pass_at nodes space at) ≡ true = fit.pass in let no_way : ⊥ = cc in no_way))
broken_by_tests nodes space at spec map b false y mask pass e =
    let is : rule.V28 ≡ b = cc in
    subst (λ (r : Rule). IsBrokenAt nodes space at spec map r) is (unfit (λ fit. let fits : is_as_long spec (mask_at nodes space at) ≡ true = fit.mask in let no_way : ⊥ = cc in no_way))

broken_from : (nodes : List NodeData) (space : List ℕ) (at : ℕ) (spec : List ℕ) (map : List Part) (b : Rule) → passed_at nodes space at spec map ≡ Err b
    → IsBrokenAt nodes space at spec map b
broken_from nodes space at spec map b e =
    broken_by_tests nodes space at spec map b (is_as_long spec (mask_at nodes space at)) (is_as_long spec (pass_at nodes space at)) refl refl e

-- a chain of at most so many rows that breaks a rule
record BreaksWithin (left : ℕ) (nodes : List NodeData) (space : List ℕ) (at : ℕ) (spec : List ℕ) (b : Rule) : Type 0 where
  pub rows : List Row
  pub last : ℕ
  pub end : List ℕ
  pub map : List Part
  pub chain : IsChain nodes space at spec rows last end
  pub there : map_at nodes space last ≡ Some map
  pub why : ((length rows < left) × IsBrokenAt nodes space last end map b) ⊎ ((length rows ≡ left) × (b ≡ rule.V29))

further_on : (row : Row) (rows : List Row) (left : ℕ) (nodes : List NodeData) (space : List ℕ) (last : ℕ) (end : List ℕ) (map : List Part) (b : Rule)
    → ((length rows < left) × IsBrokenAt nodes space last end map b) ⊎ ((length rows ≡ left) × (b ≡ rule.V29))
    → ((length (row ∷ rows) < suc left) × IsBrokenAt nodes space last end map b) ⊎ ((length (row ∷ rows) ≡ suc left) × (b ≡ rule.V29))
further_on row rows left nodes space last end map b (inl (few, broken)) = inl (omega arith, broken)
further_on row rows left nodes space last end map b (inr (many, is)) = inr (omega arith, is)

breaks_step : (left : ℕ) (nodes : List NodeData) (space : List ℕ) (at : ℕ) (spec : List ℕ) (map : List Part) (hop : Hop) (b : Rule) → map_at nodes space at ≡ Some map
    → passed_at nodes space at spec map ≡ Ok hop → BreaksWithin left nodes space hop.node hop.spec b → BreaksWithin (suc left) nodes space at spec b
breaks_step left nodes space at spec map hop b there e more =
    let step = taken_step nodes space at spec map hop there e in
    record {
      rows = step.0 ∷ more.rows;
      last = more.last;
      end = more.end;
      map = more.map;
      chain = (step.1, chain_moved nodes space hop.node step.0.node hop.spec (sent spec (pass_at nodes space at) step.0.parent) more.rows more.last more.end step.2 step.3 more.chain);
      there = more.there;
      why = further_on step.0 more.rows left nodes space more.last more.end more.map b more.why;
    }

breaks_with_none : (nodes : List NodeData) (space : List ℕ) (at : ℕ) (spec : List ℕ) (b : Rule) (m : Option (List Part)) → map_at nodes space at ≡ m
    → option_map_or {U = Result Hop Rule} (λ (map : List Part). Err rule.V29) m (Ok (record { node = at; spec = spec })) ≡ Err b → BreaksWithin zero nodes space at spec b
breaks_with_none nodes space at spec b None there f = let no_way : ⊥ = cc in absurd no_way
breaks_with_none nodes space at spec b (Some map) there f =
    let is : b ≡ rule.V29 = cc in
    record { rows = []; last = at; end = spec; map = map; chain = (refl, refl); there = there; why = inr (refl, is) }

abbrev BreaksAlways : ℕ → List NodeData → List ℕ → Type 0
BreaksAlways left nodes space = (at : ℕ) (spec : List ℕ) (b : Rule) → followed_within left nodes space at spec ≡ Err b → BreaksWithin left nodes space at spec b

breaks_by_pass : (left : ℕ) (nodes : List NodeData) (space : List ℕ) (at : ℕ) (spec : List ℕ) (b : Rule) (map : List Part) (r : Result Hop Rule) → BreaksAlways left nodes space
    → map_at nodes space at ≡ Some map → passed_at nodes space at spec map ≡ r
    → onward r (λ (h : Hop). followed_within left nodes space h.node h.spec) ≡ Err b → BreaksWithin (suc left) nodes space at spec b
breaks_by_pass left nodes space at spec b map (Err d) more there is f =
    let same : d ≡ b = cc in
    let broken : IsBrokenAt nodes space at spec map b = subst (λ (r : Rule). IsBrokenAt nodes space at spec map r) same (broken_from nodes space at spec map d is) in
    record { rows = []; last = at; end = spec; map = map; chain = (refl, refl); there = there; why = inl (omega arith, broken) }
breaks_by_pass left nodes space at spec b map (Ok one) more there is f = breaks_step left nodes space at spec map one b there is (more one.node one.spec b f)

breaks_by_map : (left : ℕ) (nodes : List NodeData) (space : List ℕ) (at : ℕ) (spec : List ℕ) (b : Rule) (m : Option (List Part)) → BreaksAlways left nodes space
    → map_at nodes space at ≡ m
    → option_map_or {U = Result Hop Rule} (λ (map : List Part). onward (passed_at nodes space at spec map) (λ (h : Hop). followed_within left nodes space h.node h.spec)) m (Ok (record { node = at; spec = spec })) ≡ Err b
    → BreaksWithin (suc left) nodes space at spec b
breaks_by_map left nodes space at spec b None more there f = let no_way : ⊥ = cc in absurd no_way
breaks_by_map left nodes space at spec b (Some map) more there f = breaks_by_pass left nodes space at spec b map (passed_at nodes space at spec map) more there refl f

breaks_from : (left : ℕ) (nodes : List NodeData) (space : List ℕ) (at : ℕ) (spec : List ℕ) (b : Rule) → followed_within left nodes space at spec ≡ Err b
    → BreaksWithin left nodes space at spec b
unfolding followed_within
breaks_from zero nodes space at spec b e = breaks_with_none nodes space at spec b (map_at nodes space at) refl e
breaks_from (suc left) nodes space at spec b e = breaks_by_map left nodes space at spec b (map_at nodes space at) (breaks_from left nodes space) refl e

breaks_why : (nodes : List NodeData) (space : List ℕ) (start : ℕ) (spec : List ℕ) (b : Rule) (rows : List Row) (last : ℕ) (end : List ℕ) (map : List Part)
    → IsChain nodes space start spec rows last end → map_at nodes space last ≡ Some map
    → ((length rows < 16) × IsBrokenAt nodes space last end map b) ⊎ ((length rows ≡ 16) × (b ≡ rule.V29)) → Breaks nodes space start spec b
breaks_why nodes space start spec b rows last end map chain there (inl (few, broken)) = on_the_way rows last end map b few chain there broken
breaks_why nodes space start spec b rows last end map chain there (inr (many, is)) =
    subst (λ (r : Rule). Breaks nodes space start spec r) (sym is) (too_far rows last end map many chain there)

pub followed_breaks : (nodes : List NodeData) (space : List ℕ) (start : ℕ) (spec : List ℕ) (b : Rule) → followed nodes space start spec ≡ Err b → Breaks nodes space start spec b
followed_breaks nodes space start spec b e =
    let breaks = breaks_from 16 nodes space start spec b e in
    breaks_why nodes space start spec b breaks.rows breaks.last breaks.end breaks.map breaks.chain breaks.there breaks.why
