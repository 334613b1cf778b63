-- Specifiers, as they are read one after another.
use Rattle.std.proofs.Common.{◌≡◌, ◌∙◌, ◌∷◌, ◌++◌, ◌*◌, ◌+◌, ◌-◌, ◌<◌, ◌%◌, ◌^◌, [], ℕ, zero, suc, Bool, true, false, List, Option, Some, None, Result, Ok, Err, All, drop, length, map, min, nat_eq, refl, sym, ap, subst, arith, append_assoc, append-nil}
use Rattle.std.proofs.lemmas.Bool.Decides.{nat_tests}
use Rattle.std.proofs.lemmas.List.Elements.{All-append, All-cons, All-nil}
use Rattle.edt_base.specs.Cells.{cells_of}
use Rattle.edt_base.specs.NodeData.{NodeData}
use Rattle.edt_base.specs.TreeData.{IsWellFormed, TreeData, ancestors, parent_of}
use Rattle.edt_base.specs.declared.fault.Rule.{Rule}
use Rattle.edt_base.specs.declared.fault.Rule.TheVariants as rule
use Rattle.edt_base.proofs.TreeLaws.{above, above_root}
use Rattle.bind_merge.specs.Options.{first_some, or_else}
use Rattle.pha_nexus.specs.Cutting.{and_entries, cells_behind, cut_after, first_entry}
use Rattle.pha_nexus.specs.Naming.{and_rest}
use Rattle.pha_nexus.specs.Passing.{Hop}
use Rattle.pha_nexus.proofs.CellLaws.{cells_fill}
use Rattle.reg_ranges.specs.Cutting.{are_whole}
use Rattle.irq_map.specs.Written.{all_of, interrupt, specified}

-- ---- the first answer from a node upward

pub found_above : {B : Type 0} (f : ℕ → Option B) (t : TreeData) (at up : ℕ) → IsWellFormed t → f at ≡ None → parent_of t.nodes at ≡ Some up
    → first_some f (at ∷ ancestors t.nodes at) ≡ first_some f (up ∷ ancestors t.nodes up)
found_above f t at up well none parent =
    ap (λ o. or_else o (first_some f (ancestors t.nodes at))) none ∙ ap (first_some f) (above t at up well parent)

-- ---- the nodes of specifiers are there

abbrev pub IsBelow : ℕ → Hop → Type 0
IsBelow count s = s.node < count

pub all_more : (count : ℕ) (items more : List Hop) (s : Hop) → All (IsBelow count) items → s.node < count → more ≡ items ++ s ∷ []
    → All (IsBelow count) more
all_more count items more s all there e = subst (All (IsBelow count)) (sym e)
    (All-append (IsBelow count) items (s ∷ []) all (All-cons (IsBelow count) s [] there (All-nil (IsBelow count))))

-- ---- whole specifiers

pub whole_len : (len : ℕ) (bs cells : List ℕ) → cells ≡ cells_of bs → len ≡ min (length bs) (2 ^ 64 - 1) → 4 * length cells < 2 ^ 63
    → len ≡ length bs
whole_len len bs cells e l few =
    let n : length cells ≡ length (cells_of bs) = ap length e in
    let high : length bs < 4 * length (cells_of bs) + 4 = cells_fill bs in
    l ∙ omega arith

pub is_whole_by : (width bytes : ℕ) → 0 < width → nat_eq (bytes % (4 * width)) 0 ≡ are_whole width bytes
is_whole_by zero bytes some = absurd (omega arith)
is_whole_by (suc n) bytes some = refl

-- ---- entries of `interrupts-extended`, read one at a time

abbrev pub joined : List Hop → Result (List Hop) Rule → Result (List Hop) Rule
joined before (Err broken) = Err broken
joined before (Ok rest) = Ok (before ++ rest)

-- what is written from here on
abbrev pub written_left : List NodeData → Bool → List ℕ → Result (List Hop) Rule
written_left nodes rest cells = all_of (map specified (cut_after nodes interrupt rest 0 cells))

behind : (nodes : List NodeData) (rest : Bool) (skip : ℕ) (cells : List ℕ)
    → cut_after nodes interrupt rest skip cells ≡ cut_after nodes interrupt rest 0 (drop skip cells)
behind nodes rest zero cells = refl
behind nodes rest (suc skip) [] = refl
behind nodes rest (suc skip) (c ∷ cs) = behind nodes rest skip cs

-- an entry, and those behind it
abbrev after : List NodeData → Bool → List ℕ → Result (Option Hop) Rule → Result (List Hop) Rule
after nodes rest cs r = all_of (map specified (and_entries r (λ (entry : Option Hop). cut_after nodes interrupt rest (cells_behind entry) cs)))

after_bad : (nodes : List NodeData) (rest : Bool) (cs : List ℕ) (r : Result (Option Hop) Rule) (b : Rule) → specified r ≡ Err b → after nodes rest cs r ≡ Err b
after_bad nodes rest cs (Err x) b e = ap (λ (q : Result Hop Rule). and_rest q (Ok [])) e
after_bad nodes rest cs (Ok None) b e = ap (λ (q : Result Hop Rule). and_rest q (all_of (map specified (cut_after nodes interrupt rest 0 cs)))) e
after_bad nodes rest cs (Ok (Some hop)) b e = cc

after_good : (nodes : List NodeData) (rest : Bool) (cs : List ℕ) (r : Result (Option Hop) Rule) (hop : Hop) → specified r ≡ Ok hop
    → after nodes rest cs r ≡ and_rest (Ok hop) (written_left nodes rest (drop (length hop.spec) cs))
after_good nodes rest cs (Err x) hop e = cc
after_good nodes rest cs (Ok None) hop e = cc
after_good nodes rest cs (Ok (Some own)) hop e =
    let same : own ≡ hop = cc in
    ap (λ (h : Hop). after nodes rest cs (Ok (Some h))) same
    ∙ ap (λ (cuts : List (Result (Option Hop) Rule)). and_rest (Ok hop) (all_of (map specified cuts))) (behind nodes rest (length hop.spec) cs)

joined_next : (before : List Hop) (x : Hop) (r : Result (List Hop) Rule) → joined before (and_rest (Ok x) r) ≡ joined (before ++ x ∷ []) r
joined_next before x (Err b) = refl
joined_next before x (Ok xs) = ap (λ ys. Ok ys) (sym (append_assoc before (x ∷ []) xs))

pub written_bad : (nodes : List NodeData) (rest : Bool) (cells left cs : List ℕ) (c : ℕ) (items : List Hop) (b : Rule) → left ≡ c ∷ cs
    → specified (first_entry nodes interrupt c cs) ≡ Err b → joined items (written_left nodes rest left) ≡ written_left nodes rest cells
    → written_left nodes rest cells ≡ Err b
written_bad nodes rest cells left cs c items b l e inv =
    sym inv ∙ ap (joined items) (ap (written_left nodes rest) l ∙ after_bad nodes rest cs (first_entry nodes interrupt c cs) b e)

pub written_next : (nodes : List NodeData) (rest : Bool) (cells left cs next : List ℕ) (c : ℕ) (hop : Hop) (items more : List Hop) → left ≡ c ∷ cs
    → specified (first_entry nodes interrupt c cs) ≡ Ok hop → next ≡ drop (length hop.spec) cs → more ≡ items ++ hop ∷ []
    → joined items (written_left nodes rest left) ≡ written_left nodes rest cells → joined more (written_left nodes rest next) ≡ written_left nodes rest cells
written_next nodes rest cells left cs next c hop items more l e n m inv =
    ap (λ (xs : List Hop). joined xs (written_left nodes rest next)) m
    ∙ (ap (λ (xs : List ℕ). joined (items ++ hop ∷ []) (written_left nodes rest xs)) n
    ∙ (sym (joined_next items hop (written_left nodes rest (drop (length hop.spec) cs)))
    ∙ (ap (joined items) (sym (ap (written_left nodes rest) l ∙ after_good nodes rest cs (first_entry nodes interrupt c cs) hop e)) ∙ inv)))
