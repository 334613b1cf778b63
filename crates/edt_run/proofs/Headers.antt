-- How the lines of a header follow one another.
use Rattle.std.proofs.Common.{◌≡◌, ◌+◌, ◌<◌, ◌++◌, ◌∙◌, ℕ, Bool, true, false, IsTrue, List, [], ◌∷◌, length, take, drop, get_or, sym, ap, subst, refl, append_assoc, add-one}
use Rattle.std.proofs.lemmas.List.{append-nil, take-append-drop, take_more, drop_more}
use Rattle.std.proofs.lemmas.List.Concat.{flat_map-append}
use Rattle.std.specs.List.{flat_map}
use Rattle.edt_base.specs.Outside.{SinkSeen, Wrote}
use Rattle.std.proofs.lemmas.Bool.{false≢true}
use Rattle.edt_run.specs.declared.node.Node.{Node, out-Node}
use Rattle.edt_run.specs.Header.{lines_below, node_lines, path_below, id_below, siblings}
use Rattle.edt_run.specs.Nodes.{forest_of}
use Rattle.edt_base.specs.Put.{Put}
use Rattle.edt_run.proofs.Forests.{forest_step}
use Rattle.edt_base.proofs.Puts.{put_then, put_stops, flush_puts, put_writes}

-- one piece more was put
pub one_more : {X : Type 0} (f : X → List ℕ) (xs : List X) (i : ℕ) (x : X) (a b c : SinkSeen) (first second third : List ℕ)
    → i < length xs → x ≡ get_or xs i x → Put a b first second (flat_map f (take i xs)) true → Put b c second third (f x) true
    → Put a c first third (flat_map f (take (i + 1) xs)) true
one_more f xs i x a b c first second third within at before after =
    let whole : flat_map f (take (i + 1) xs) ≡ flat_map f (take i xs) ++ f x =
    ap (flat_map f) (take_more xs i x within) ∙ (flat_map-append f (take i xs) (get_or xs i x ∷ [])
    ∙ ap (λ t. flat_map f (take i xs) ++ t) (append-nil (f (get_or xs i x)) ∙ ap f (sym at))) in
    subst (λ t. Put a c first third t true) (sym whole) (put_then a b c first second third _ _ true before after)

-- one piece failed, and with it all of them
pub one_fails : {X : Type 0} (f : X → List ℕ) (xs : List X) (i : ℕ) (x : X) (a b c : SinkSeen) (first second third : List ℕ)
    → i < length xs → x ≡ get_or xs i x → Put a b first second (flat_map f (take i xs)) true → Put b c second third (f x) false
    → Put a c first third (flat_map f xs) false
one_fails f xs i x a b c first second third within at before after =
    let rest : flat_map f (drop i xs) ≡ f x ++ flat_map f (drop (i + 1) xs) =
    ap (flat_map f) (drop_more xs i x within) ∙ ap (λ y. f y ++ flat_map f (drop (i + 1) xs)) (sym at) in
    let whole : flat_map f xs ≡ flat_map f (take i xs) ++ (f x ++ flat_map f (drop (i + 1) xs)) =
    ap (flat_map f) (sym (take-append-drop i xs)) ∙ (flat_map-append f (take i xs) (drop i xs) ∙ ap (λ t. flat_map f (take i xs) ++ t) rest) in
    subst (λ t. Put a c first third t false) (sym whole)
    (put_then a b c first second third _ _ false before (put_stops b c second third third _ _ after))

-- siblings are counted as the list that holds them
pub siblings_are : (nodes : List Node) → siblings (forest_of nodes) ≡ length nodes
siblings_are [] = refl
siblings_are (n ∷ ns) = ap (λ k. k + 1) (siblings_are ns) ∙ add-one (length ns)

-- the lines of the nodes from a place on begin with those of the node there
pub next_node : (path id : List ℕ) (nodes : List Node) (i : ℕ) (n : Node) (name : List ℕ) (children : ℕ) (inner : List Node)
    → i < length nodes → n ≡ get_or nodes i n → name ≡ (out-Node n).name → children ≡ length (out-Node n).below.items → inner ≡ (out-Node n).below.items
    → lines_below path id i (forest_of (drop i nodes)) ≡ node_lines (path_below path name) (id_below id name) id i name children
    ++ (lines_below (path_below path name) (id_below id name) 0 (forest_of inner) ++ lines_below path id (i + 1) (forest_of (drop (i + 1) nodes)))
next_node path id nodes i n name children inner within at called counted under =
    rw (forest_step nodes i n within at, siblings_are, called, counted, under) refl

-- the lines of one node more were put, and those of the nodes below it
pub node_more : (a b c d : SinkSeen) (first second third fourth lines node below later rest all : List ℕ)
    → lines ++ rest ≡ all → rest ≡ node ++ (below ++ later)
    → Put a b first second lines true → Put b c second third node true → Put c d third fourth below true
    → (more : List ℕ) × (more ++ later ≡ all) × Put a d first fourth more true
node_more a b c d first second third fourth lines node below later rest all whole begins before here under = (
  lines ++ (node ++ below),
  append_assoc lines (node ++ below) later ∙ (ap (λ t. lines ++ t) (append_assoc node below later ∙ sym begins) ∙ whole),
  put_then a b d first second fourth lines (node ++ below) true before (put_then b c d second third fourth node below true here under),
)

-- the lines of a node failed, and with them all
pub node_fails : (a b c : SinkSeen) (first second third lines node later rest all : List ℕ)
    → lines ++ rest ≡ all → rest ≡ node ++ later → Put a b first second lines true → Put b c second third node false → Put a c first third all false
node_fails a b c first second third lines node later rest all whole begins before here =
    subst (λ t. Put a c first third t false) (ap (λ t. lines ++ t) (sym begins) ∙ whole)
    (put_then a b c first second third lines (node ++ later) false before (put_stops b c second third third node later here))

-- the lines of the nodes below a node failed, and with them all
pub below_fails : (a b c d : SinkSeen) (first second third fourth lines node below later rest all : List ℕ)
    → lines ++ rest ≡ all → rest ≡ node ++ (below ++ later)
    → Put a b first second lines true → Put b c second third node true → Put c d third fourth below false → Put a d first fourth all false
below_fails a b c d first second third fourth lines node below later rest all whole begins before here under =
    subst (λ t. Put a d first fourth t false) (ap (λ t. lines ++ t) (sym begins) ∙ whole)
    (put_then a b d first second fourth lines (node ++ (below ++ later)) false before
    (put_then b c d second third fourth node (below ++ later) false here (put_stops c d third fourth fourth below later under)))

-- two puts and a last write, from nothing held on
pub all_written : (a b c d : SinkSeen) (held first second left one two : List ℕ) (done : Bool)
    → held ≡ [] → Put a b held first one true → Put b c first second two true → Wrote c d second done → (IsTrue done → left ≡ [])
    → Wrote a d (one ++ two) done
all_written a b c d held first second left one two done none before after last emptied =
    let both : Put a c held second (one ++ two) true = put_then a b c held first second one two true before after in
    let ended : Put a d held left ((one ++ two) ++ []) done = put_then a c d held second left (one ++ two) [] done both (flush_puts c d second left done last emptied) in
    let start : Put a d [] left (one ++ two) done =
    subst (λ h. Put a d h left (one ++ two) done) none (subst (λ t. Put a d held left t done) (append-nil (one ++ two)) ended) in
    put_writes a d (one ++ two) left done start emptied

-- a put from nothing held that failed
pub none_written : (a b : SinkSeen) (held left text : List ℕ) (done : Bool) → held ≡ [] → done ≡ false → Put a b held left text false → Wrote a b text done
none_written a b held left text done none is put =
    subst (λ d. Wrote a b text d) (sym is)
    (put_writes a b text left false (subst (λ h. Put a b h left text false) none put) (λ h. absurd (false≢true h)))

-- the last write failed
pub last_fails : (a b c d : SinkSeen) (held first second left one two : List ℕ) (done : Bool)
    → done ≡ false → held ≡ [] → Put a b held first one true → Put b c first second two true → Wrote c d second false → Wrote a d (one ++ two) done
last_fails a b c d held first second left one two done is none before after last =
    subst (λ whether. Wrote a d (one ++ two) whether) (sym is)
    (all_written a b c d held first second left one two false none before after last (λ h. absurd (false≢true h)))
