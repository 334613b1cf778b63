-- The header of a tree of names: the lines of each node, in preorder.
use Rattle.std.specs.Prelude.{ℕ, ◌+◌, List, [], ◌∷◌, ◌++◌, codes, decimal}
use Rattle.std.specs.List.{concat}
use Rattle.edt_run.specs.Forest.{Forest, none, tree}

-- how many nodes stand side by side
abbrev pub siblings : Forest → ℕ
siblings none = 0
siblings (tree name below later) = siblings later + 1

-- the path of a node from its parent's, which for the root is nothing
abbrev pub path_below : List ℕ → List ℕ → List ℕ
path_below path name = path ++ (codes "/" ++ name)

-- the id of a node from its parent's
abbrev pub id_below : List ℕ → List ℕ → List ℕ
id_below id name = id ++ (codes "_S_" ++ name)

-- the id of the root
abbrev pub root_id : List ℕ
root_id = codes "DT_N"

-- `/* path */`, `#define I_PATH "path"` and `#define I_FULL_NAME "name"`
abbrev pub name_lines : List ℕ → List ℕ → List ℕ → List ℕ
name_lines id path name = concat (codes "/* " ∷ path ∷ codes " */\n#define " ∷ id ∷ codes "_PATH \"" ∷ path
    ∷ codes "\"\n#define " ∷ id ∷ codes "_FULL_NAME \"" ∷ name ∷ codes "\"\n" ∷ [])

-- `#define I_PARENT parent` and `#define I_CHILD_IDX place`
abbrev pub parent_lines : List ℕ → List ℕ → ℕ → List ℕ
parent_lines id parent place = concat (codes "#define " ∷ id ∷ codes "_PARENT " ∷ parent
    ∷ codes "\n#define " ∷ id ∷ codes "_CHILD_IDX " ∷ decimal place ∷ codes "\n" ∷ [])

-- `#define I_CHILD_NUM children` and `#define I_EXISTS 1`
abbrev pub end_lines : List ℕ → ℕ → List ℕ
end_lines id children = concat (codes "#define " ∷ id ∷ codes "_CHILD_NUM " ∷ decimal children
    ∷ codes "\n#define " ∷ id ∷ codes "_EXISTS 1\n" ∷ [])

-- the lines of the root
unfoldable pub root_lines : ℕ → List ℕ
root_lines children = name_lines root_id (codes "/") (codes "/") ++ end_lines root_id children

-- the lines of any other node
unfoldable pub node_lines : List ℕ → List ℕ → List ℕ → ℕ → List ℕ → ℕ → List ℕ
node_lines path id parent place name children =
    name_lines id path name ++ (parent_lines id parent place ++ end_lines id children)

-- the lines of siblings, from the path and the id of their parent and the place of the first, each before what is below
-- it
abbrev pub lines_below : List ℕ → List ℕ → ℕ → Forest → List ℕ
lines_below path parent place none = []
lines_below path parent place (tree name below later) =
    node_lines (path_below path name) (id_below parent name) parent place name (siblings below)
    ++ (lines_below (path_below path name) (id_below parent name) 0 below ++ lines_below path parent (place + 1) later)

-- the header of the root with these nodes below it
abbrev pub header : Forest → List ℕ
header nodes = root_lines (siblings nodes) ++ lines_below [] root_id 0 nodes
