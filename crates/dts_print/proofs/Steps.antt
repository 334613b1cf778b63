-- The steps of the code's loops.
use Rattle.std.proofs.Common.{◌≡◌, ◌∙◌, ◌==◌, ◌+◌, ◌-◌, ◌*◌, ◌<◌, ◌≤◌, ◌++◌, ℕ, zero, suc, Bool, true, false, List, [], ◌∷◌, codes, if◌then◌else◌, drop, get_or, length, nat_le, take, unwrap_or, refl, sym, ap, append_assoc, length-append, arith}
use Rattle.std.specs.List.{flat_map}
use Rattle.std.proofs.lemmas.Bool.{le-leb}
use Rattle.std.proofs.lemmas.Bool.Decides.{nat_tests}
use Rattle.std.proofs.lemmas.List.{append-nil, drop_more, take_more, length-replicate}
use Rattle.std.proofs.lemmas.List.Concat.{flat_map-append}
use Rattle.edt_base.specs.NodeData.{NodeData}
use Rattle.edt_base.specs.declared.node.Part.{Part}
use Rattle.edt_base.specs.TreeData.{parent_of}
use Rattle.dts_print.specs.Printed.{closing_text, number_text, pair_text, pairs_text, list_text, tabs, value_text}
use Rattle.dts_print.specs.Inner.Steps.{closings, depth_of, head_text, kept_open, text_from}

-- ---- the depth of a node

pub kept_step : (nodes : List NodeData) (parent left at next : ℕ) → 0 < left → (at ≡ parent → ⊥) → next ≡ unwrap_or (parent_of nodes at) 0
    → kept_open nodes parent left at ≡ kept_open nodes parent (left - 1) next
kept_step nodes parent zero at next some other is = absurd (omega arith)
kept_step nodes parent (suc left) at next some other is =
    let apart : (at == parent) ≡ false = grind (arith, nat_tests) in
    let less : suc left - 1 ≡ left = omega arith in
    rw (less, is) (ap (λ (b : Bool). if b then suc left else kept_open nodes parent left (unwrap_or (parent_of nodes at) 0)) apart)

pub kept_none : (nodes : List NodeData) (parent left at : ℕ) → left ≡ 0 → kept_open nodes parent left at ≡ left
kept_none nodes parent zero at none = refl
kept_none nodes parent (suc left) at none = absurd (omega arith)

pub kept_here : (nodes : List NodeData) (parent left at : ℕ) → at ≡ parent → kept_open nodes parent left at ≡ left
kept_here nodes parent zero at here = refl
kept_here nodes parent (suc left) at here =
    let same : (at == parent) ≡ true = grind (arith, nat_tests) in
    ap (λ (b : Bool). if b then suc left else kept_open nodes parent left (unwrap_or (parent_of nodes at) 0)) same

-- how many nodes stay open, step by step
pub ruleset kept_open_steps = (kept_step, kept_none, kept_here)

-- ---- the lines that close nodes

pub closings_step : (depth left : ℕ) → left < depth → closings depth left ≡ closing_text (depth - 1) ++ closings (depth - 1) left
closings_step zero left more = absurd (omega arith)
closings_step (suc depth) left more =
    let goes : nat_le left depth ≡ true = le-leb left depth (omega arith) in
    let less : suc depth - 1 ≡ depth = omega arith in
    rw less (ap (λ (b : Bool). if b then closing_text depth ++ closings depth left else []) goes)

pub closings_end : (depth left : ℕ) → depth ≤ left → closings depth left ≡ []
closings_end zero left within = refl
closings_end (suc depth) left within =
    let stays : nat_le left depth ≡ false = grind (arith, nat_tests) in
    ap (λ (b : Bool). if b then closing_text depth ++ closings depth left else []) stays

-- ---- one node after another

pub node_step : (nodes : List NodeData) (place opened depth : ℕ) (node : NodeData) → place < length nodes → node ≡ get_or nodes place node
    → depth ≡ depth_of nodes node.parent opened (place - 1)
    → text_from nodes place opened (drop place nodes) ≡ (closings opened depth ++ head_text depth node) ++ text_from nodes (place + 1) (depth + 1) (drop (place + 1) nodes)
node_step nodes place opened depth node within is deep =
    let here : drop place nodes ≡ node ∷ drop (place + 1) nodes =
    drop_more nodes place node within ∙ ap (λ n. n ∷ drop (place + 1) nodes) (sym is) in
    ap (text_from nodes place opened) here
    ∙ (ap (λ d. closings opened d ++ (head_text d node ++ text_from nodes (place + 1) (d + 1) (drop (place + 1) nodes))) (sym deep)
    ∙ sym (append_assoc (closings opened depth) (head_text depth node) (text_from nodes (place + 1) (depth + 1) (drop (place + 1) nodes))))

pub node_end : (nodes : List NodeData) (place opened : ℕ) → length nodes ≤ place → text_from nodes place opened (drop place nodes) ≡ closings opened 0
node_end nodes place opened past = ap (text_from nodes place opened) (none nodes place past)
  where
    none : (ns : List NodeData) (i : ℕ) → length ns ≤ i → drop i ns ≡ []
    none [] zero h = refl
    none [] (suc i) h = refl
    none (n ∷ ns) zero h = absurd (omega arith)
    none (n ∷ ns) (suc i) h = none ns i (omega arith)

-- ---- lengths

further_long : (bytes : List ℕ) → length (flat_map (λ b. codes " " ++ pair_text b) bytes) ≡ length bytes * 3
further_long [] = refl
further_long (b ∷ bytes) = let more : length (flat_map (λ c. codes " " ++ pair_text c) bytes) ≡ length bytes * 3 = further_long bytes in omega arith

pub pairs_long : (bytes : List ℕ) (first : ℕ) (rest : List ℕ) → bytes ≡ first ∷ rest → length (pairs_text bytes) ≡ length rest * 3 + 4
unfolding pairs_text
pairs_long bytes first rest is =
    rw is (
    let more : length (flat_map (λ b. codes " " ++ pair_text b) rest ++ codes "]") ≡ length (flat_map (λ b. codes " " ++ pair_text b) rest) + 1 =
    length-append (flat_map (λ b. codes " " ++ pair_text b) rest) (codes "]") in
    let long : length (flat_map (λ b. codes " " ++ pair_text b) rest) ≡ length rest * 3 = further_long rest in
    omega arith
    )

pub none_long : (bytes : List ℕ) → bytes ≡ [] → length (pairs_text bytes) ≡ 2
unfolding pairs_text
none_long bytes is = rw is refl

pub list_long : (numbers : List ℕ) (first : ℕ) (rest : List ℕ) → numbers ≡ first ∷ rest
    → length (list_text numbers) ≡ length (number_text first) + length (flat_map (λ n. codes " " ++ number_text n) rest) + 2
unfolding list_text
list_long numbers first rest is =
    rw is (
    let further : List ℕ = flat_map (λ n. codes " " ++ number_text n) rest in
    let all : length ((number_text first ++ further) ++ codes ">") ≡ length (number_text first ++ further) + 1 =
    length-append (number_text first ++ further) (codes ">") in
    let both : length (number_text first ++ further) ≡ length (number_text first) + length further =
    length-append (number_text first) further in
    omega arith
    )

pub empty_long : (numbers : List ℕ) → numbers ≡ [] → length (list_text numbers) ≡ 2
unfolding list_text
empty_long numbers is = rw is refl

pub further_number_long : (numbers : List ℕ) (first : ℕ) (rest : List ℕ) → numbers ≡ first ∷ rest
    → length (flat_map (λ n. codes " " ++ number_text n) numbers) ≡ length (number_text first) + 1 + length (flat_map (λ n. codes " " ++ number_text n) rest)
further_number_long numbers first rest is =
    rw is (
    let both : length (number_text first ++ flat_map (λ n. codes " " ++ number_text n) rest) ≡ length (number_text first) + length (flat_map (λ n. codes " " ++ number_text n) rest) =
    length-append (number_text first) (flat_map (λ n. codes " " ++ number_text n) rest) in
    omega arith
    )

pub no_further : (numbers : List ℕ) → numbers ≡ [] → length (flat_map (λ n. codes " " ++ number_text n) numbers) ≡ 0
no_further numbers is = rw is refl

pub none_of : (bytes : List ℕ) → length bytes ≡ 0 → bytes ≡ []
none_of [] none = refl
none_of (b ∷ bytes) none = absurd (omega arith)

pub closings_long : (depth left : ℕ) → left < depth → length (closings depth left) ≡ (depth - 1) + 3 + length (closings (depth - 1) left)
unfolding closing_text
closings_long depth left more =
    let all : length (closings depth left) ≡ length (closing_text (depth - 1) ++ closings (depth - 1) left) = ap length (closings_step depth left more) in
    let both : length (closing_text (depth - 1) ++ closings (depth - 1) left) ≡ length (closing_text (depth - 1)) + length (closings (depth - 1) left) =
    length-append (closing_text (depth - 1)) (closings (depth - 1) left) in
    let one : length (tabs (depth - 1) ++ codes "};\n") ≡ length (tabs (depth - 1)) + 3 = length-append (tabs (depth - 1)) (codes "};\n") in
    let wide : length (tabs (depth - 1)) ≡ depth - 1 = length-replicate (depth - 1) 9 in
    omega arith

pub closings_none : (depth left : ℕ) → depth ≤ left → length (closings depth left) ≡ 0
closings_none depth left within = ap length (closings_end depth left within)

pub node_long : (nodes : List NodeData) (place opened depth : ℕ) (node : NodeData) → place < length nodes → node ≡ get_or nodes place node
    → depth ≡ depth_of nodes node.parent opened (place - 1)
    → length (text_from nodes place opened (drop place nodes))
    ≡ length (closings opened depth) + length (head_text depth node) + length (text_from nodes (place + 1) (depth + 1) (drop (place + 1) nodes))
node_long nodes place opened depth node within is deep =
    ap length (node_step nodes place opened depth node within is deep)
    ∙ (length-append (closings opened depth ++ head_text depth node) (text_from nodes (place + 1) (depth + 1) (drop (place + 1) nodes))
    ∙ ap (λ n. n + length (text_from nodes (place + 1) (depth + 1) (drop (place + 1) nodes))) (length-append (closings opened depth) (head_text depth node)))

pub end_long : (nodes : List NodeData) (place opened : ℕ) → length nodes ≤ place → length (text_from nodes place opened (drop place nodes)) ≡ length (closings opened 0)
end_long nodes place opened past = ap length (node_end nodes place opened past)

-- the length of one text more
pub flat_long : {X : Type 0} (f : X → List ℕ) (xs : List X) (i : ℕ) (d x : X) → i < length xs → x ≡ get_or xs i d
    → length (flat_map f (take (i + 1) xs)) ≡ length (flat_map f (take i xs)) + length (f x)
flat_long f xs i d x within is =
    ap (λ ys. length (flat_map f ys)) (take_more xs i d within)
    ∙ (ap length (flat_map-append f (take i xs) (get_or xs i d ∷ []))
    ∙ (length-append (flat_map f (take i xs)) (flat_map f (get_or xs i d ∷ []))
    ∙ ap (λ t. length (flat_map f (take i xs)) + length t) (append-nil (f (get_or xs i d)) ∙ ap f (sym is))))

-- a value without parts
pub value_none : (parts : List Part) → length parts ≡ 0 → value_text parts ≡ []
unfolding value_text
value_none [] none = refl
value_none (part ∷ parts) none = absurd (omega arith)
