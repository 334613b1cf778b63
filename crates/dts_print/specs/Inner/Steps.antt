-- The printed source node by node in preorder, as the code goes: each node closes those that it doesn't stand in.
use Rattle.std.specs.Prelude.{◌==◌, ◌+◌, ◌-◌, ◌++◌, ℕ, zero, suc, List, [], ◌∷◌, Option, None, Some, nat_le, unwrap_or, if◌then◌else◌}
use Rattle.std.specs.List.{flat_map}
use Rattle.edt_base.specs.NodeData.{NodeData}
use Rattle.edt_base.specs.TreeData.{parent_of}
use Rattle.dts_print.specs.Printed.{closing_text, opening_text, prop_text}

-- of so many open nodes, whose innermost is at a place, those that a child of the parent stands in
abbrev pub kept_open : List NodeData → ℕ → ℕ → ℕ → ℕ
kept_open nodes parent zero at = zero
kept_open nodes parent (suc depth) at = if at == parent then suc depth
    else kept_open nodes parent depth (unwrap_or (parent_of nodes at) 0)

-- the same by the parent that a node has: none for the root
abbrev pub depth_of : List NodeData → Option ℕ → ℕ → ℕ → ℕ
depth_of nodes None opened at = 0
depth_of nodes (Some parent) opened at = kept_open nodes parent opened at

-- the lines that close the innermost of so many open nodes, down to so many that stay open
abbrev pub closings : ℕ → ℕ → List ℕ
closings zero left = []
closings (suc depth) left = if nat_le left depth then closing_text depth ++ closings depth left else []

-- a node's first line and its properties
unfoldable pub head_text : ℕ → NodeData → List ℕ
head_text depth node = opening_text depth node ++ flat_map (prop_text depth) node.props

-- the text from a place on, with so many nodes open
abbrev pub text_from : List NodeData → ℕ → ℕ → List NodeData → List ℕ
text_from all place opened [] = closings opened 0
text_from all place opened (node ∷ nodes) = let depth : ℕ = depth_of all node.parent opened (place - 1) in
    closings opened depth ++ (head_text depth node ++ text_from all (place + 1) (depth + 1) nodes)
