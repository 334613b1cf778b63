-- How instances are gathered.
use Rattle.std.proofs.Common.{◌≡◌, ◌∙◌, ◌||◌, ◌+◌, ◌-◌, ◌<◌, ◌≤◌, ◌++◌, ◌∷◌, [], inl, inr, ℕ, zero, suc, Bool, true, false, cond, not, if◌then◌else◌, List, Option, Some, None, All, length, filter, take, get_or, slice_get, slice_index_or, unwrap_or, option_map, refl, sym, ap, subst, arith, append_assoc}
use Rattle.std.specs.BTreeMap.{BTreeMap, IsOrdered}
use Rattle.std.specs.Cmp.Lexicographic.{nat_list_cmp_total, slice_cmp}
use Rattle.std.specs.List.{Contains, list_any, range_with_len}
use Rattle.std.specs.List.Sorted.{IsStrictlySortedBy}
use Rattle.std.specs.Map.{keys_of, lookup}
use Rattle.std.specs.Option.{option_map_or}
use Rattle.std.specs.Ordering.{is_eq, nat_cmp}
use Rattle.std.specs.Str.{bytes_eq}
use Rattle.std.specs.declared.cmp.Ordering.TheVariants.{Equal}
use Rattle.std.proofs.lemmas.Bool.Decides.{nat_tests}
use Rattle.std.proofs.lemmas.List.{append-nil, length-append, map-append, take_more}
use Rattle.std.proofs.lemmas.List.Elements.{All-filter, All-head, All-nil, All-push, All-tail}
use Rattle.std.proofs.lemmas.List.Filters.{length-filter_both}
use Rattle.std.proofs.lemmas.List.Folds.{list_any-append}
use Rattle.std.proofs.lemmas.List.FromFn.{length-range_with_len}
use Rattle.std.proofs.lemmas.Map.Entries.{place_from_lookup}
use Rattle.std.proofs.lemmas.Map.Text.{is_eq-slice_cmp}
use Rattle.std.proofs.lemmas.Map.Views.{All-found}
use Rattle.std.proofs.lemmas.Option.{get_or_from_slice_get, slice_get_within}
use Rattle.std.proofs.lemmas.Slice.Eq.{bytes_eq-Decides}
use Rattle.edt_base.specs.InstData.{InstData}
use Rattle.edt_base.specs.Instances.{AreInstances, IsInst, compats_of, listing, lists_at}
use Rattle.edt_base.specs.NodeData.{NodeData, holds_number}
use Rattle.edt_base.specs.Nodes.{is_okay, okay_of}
use Rattle.edt_base.specs.TreeData.{IsWellFormed, TreeData}
use Rattle.dep_order.proofs.Listing.{contains_at, cons_cases, none_in}
use Rattle.bind_merge.proofs.NamedFiles.{tree-get}
use Rattle.pha_nexus.specs.Matching.{compats_at}
use Rattle.edt_bound.specs.Gathering.{AreAdded, AreGathered, Entries, IsAdded, held, inst_of, is_last, okay_first, some_of, with_last}
use Rattle.edt_bound.proofs.Members.{kept_with}
use Rattle.edt_bound.proofs.Ranges.{filter_range_more, in_range, range_below}

-- ---- the last of some nodes

end_of : (xs : List ℕ) (id n : ℕ) → n ≡ length xs → slice_get (xs ++ id ∷ []) n ≡ Some id
end_of [] id zero e = refl
end_of [] id (suc n) e = absurd (omega arith)
end_of (x ∷ xs) id zero e = absurd (omega arith)
end_of (x ∷ xs) id (suc n) e = end_of xs id n (omega arith)

same_number : (id : ℕ) → holds_number id (Some id) ≡ true
same_number id = grind (arith, nat_tests)

last_put : (xs : List ℕ) (id : ℕ) → is_last (xs ++ id ∷ []) id ≡ true
last_put xs id =
    ap (holds_number id) (end_of xs id (length (xs ++ id ∷ []) - 1) (omega (arith, length-append xs (id ∷ [])))) ∙ same_number id

-- to put a node twice is to put it once
twice : (xs : List ℕ) (id : ℕ) → with_last (with_last xs id) id ≡ with_last xs id
twice xs id = by_test (is_last xs id) refl
  where
    by_test : (b : Bool) → is_last xs id ≡ b → with_last (if b then xs else xs ++ id ∷ []) id ≡ (if b then xs else xs ++ id ∷ [])
    by_test true e = ap (λ (b : Bool). if b then xs else xs ++ id ∷ []) e
    by_test false e = ap (λ (b : Bool). if b then xs ++ id ∷ [] else (xs ++ id ∷ []) ++ id ∷ []) (last_put xs id)

-- a node after all of them isn't the last
not_last : (xs : List ℕ) (id : ℕ) → All (λ x. x < id) xs → is_last xs id ≡ false
not_last xs id h = by_last (slice_get xs (length xs - 1)) refl
  where
    by_last : (o : Option ℕ) → slice_get xs (length xs - 1) ≡ o → holds_number id o ≡ false
    by_last None e = refl
    by_last (Some y) e =
        let at : get_or xs (length xs - 1) y ≡ y = get_or_from_slice_get xs (length xs - 1) y y e in
        let below : get_or xs (length xs - 1) y < id = h (length xs - 1) y (slice_get_within xs (length xs - 1) y e) in
        let less : y < id = omega (arith, at, below) in
        grind (arith, nat_tests, less)

put_fresh : (xs : List ℕ) (id : ℕ) → All (λ x. x < id) xs → with_last xs id ≡ xs ++ id ∷ []
put_fresh xs id h = ap (λ (b : Bool). if b then xs else xs ++ id ∷ []) (not_last xs id h)

-- ---- one string

pub same_key : (compat key : List ℕ) → slice_cmp nat_cmp compat key ≡ Equal → key ≡ compat
same_key compat key e = sym ((bytes_eq-Decides compat key).0 (sym (is_eq-slice_cmp compat key) ∙ ap is_eq e))

pub held_is : (entries : Entries) (compat ids : List ℕ) → Some ids ≡ lookup (λ k. is_eq (slice_cmp nat_cmp compat k)) entries → ids ≡ held entries compat
held_is entries compat ids e = ap (λ (o : Option (List ℕ)). unwrap_or o []) (e ∙ tree-get compat entries)

pub held_none : (entries : Entries) (compat : List ℕ) → None ≡ lookup (λ k. is_eq (slice_cmp nat_cmp compat k)) entries → [] ≡ held entries compat
held_none entries compat e = ap (λ (o : Option (List ℕ)). unwrap_or o []) (e ∙ tree-get compat entries)

-- a string is taken out, and put back with the node
pub added : (old mid new : Entries) (compat key ids more : List ℕ) (id : ℕ) → key ≡ compat → ids ≡ held old compat
    → ((q : List ℕ) → bytes_eq compat q ≡ false → lookup (bytes_eq q) mid ≡ lookup (bytes_eq q) old)
    → more ≡ with_last ids id → ((q : List ℕ) → lookup (bytes_eq q) new ≡ (if bytes_eq key q then Some more else lookup (bytes_eq q) mid))
    → IsAdded compat id old new
added old mid new compat key ids more id e f others g h q =
    h q ∙ ap (λ (k : List ℕ). if bytes_eq k q then Some more else lookup (bytes_eq q) mid) e ∙ by_test (bytes_eq compat q) refl
  where
    by_test : (b : Bool) → bytes_eq compat q ≡ b → (if b then Some more else lookup (bytes_eq q) mid)
        ≡ (if b then Some (with_last (held old q) id) else lookup (bytes_eq q) old)
    by_test true same =
        let is : compat ≡ q = (bytes_eq-Decides compat q).0 same in
        ap Some (g ∙ ap (λ (xs : List ℕ). with_last xs id) (f ∙ ap (held old) is))
    by_test false other = others q other

-- one more string of a node
pub one_added : (compats : List (List ℕ)) (i : ℕ) (compat : List ℕ) (id : ℕ) (old cur new : Entries) → i < length compats → get_or compats i compat ≡ compat
    → AreAdded (take i compats) id old cur → IsAdded compat id cur new → AreAdded (take (i + 1) compats) id old new
one_added compats i compat id old cur new l at before step q = step q ∙ by_test (bytes_eq compat q) (any q) refl (before q) ∙ sym (whole q)
  where
    test : List ℕ → List ℕ → Bool
    test p c = bytes_eq c p

    any : List ℕ → Bool
    any p = list_any (λ c. bytes_eq c p) (take i compats)

    gain : List ℕ → Bool → Option (List ℕ)
    gain p b = if b then Some (with_last (held old p) id) else lookup (bytes_eq p) old

    whole : (p : List ℕ) → gain p (list_any (λ c. bytes_eq c p) (take (i + 1) compats)) ≡ gain p (any p || bytes_eq compat p)
    whole p =
        ap (gain p) (ap (list_any (λ c. bytes_eq c p)) (take_more compats i compat l ∙ ap (λ (c : List ℕ). take i compats ++ c ∷ []) at)
        ∙ list_any-append (λ c. bytes_eq c p) (take i compats) (compat ∷ []) ∙ ap (λ (b : Bool). any p || b) (alone (bytes_eq compat p)))
      where
        alone : (b : Bool) → (b || false) ≡ b
        alone true = refl
        alone false = refl

    by_test : (b c : Bool) → any q ≡ c → lookup (bytes_eq q) cur ≡ gain q c
        → (if b then Some (with_last (held cur q) id) else lookup (bytes_eq q) cur) ≡ gain q (c || b)
    by_test true true e h = ap (λ (o : Option (List ℕ)). Some (with_last (unwrap_or o []) id)) h ∙ ap Some (twice (held old q) id)
    by_test true false e h = ap (λ (o : Option (List ℕ)). Some (with_last (unwrap_or o []) id)) h
    by_test false true e h = h
    by_test false false e h = h

pub none_added : (id : ℕ) (old new : Entries) → new ≡ old → AreAdded [] id old new
none_added id old new e q = ap (lookup (bytes_eq q)) e

-- ---- one node

some_some : (xs : List ℕ) (id : ℕ) → some_of (xs ++ id ∷ []) ≡ Some (xs ++ id ∷ [])
some_some [] id = refl
some_some (x ∷ xs) id = refl

held_some : (xs : List ℕ) → unwrap_or (some_of xs) [] ≡ xs
held_some [] = refl
held_some (x ∷ xs) = refl

lists : (nodes : List NodeData) (id : ℕ) (q : List ℕ) → list_any (λ c. bytes_eq c q) (compats_at nodes id) ≡ lists_at nodes q id
lists nodes id q = by_node (slice_get nodes id)
  where
    by_node : (o : Option NodeData) → list_any (λ c. bytes_eq c q) (unwrap_or (option_map (λ (n : NodeData). n.compats) o) [])
        ≡ option_map_or (λ (n : NodeData). list_any (λ c. bytes_eq c q) n.compats) o false
    by_node None = refl
    by_node (Some n) = refl

pub none_gathered : (nodes : List NodeData) (entries : Entries) → entries ≡ [] → AreGathered nodes 0 entries
none_gathered nodes entries e q = ap (lookup (bytes_eq q)) e

pub one_gathered : (nodes : List NodeData) (id : ℕ) (compats : List (List ℕ)) (old new : Entries) → compats ≡ compats_at nodes id
    → AreGathered nodes id old → AreAdded compats id old new → AreGathered nodes (id + 1) new
one_gathered nodes id compats old new e h step q =
    step q ∙ ap (λ (b : Bool). if b then Some (with_last (held old q) id) else lookup (bytes_eq q) old) tested
    ∙ by_test (lists_at nodes q id) ∙ ap some_of (sym (filter_range_more (lists_at nodes q) id))
  where
    front : List ℕ
    front = filter (lists_at nodes q) (range_with_len 0 id)

    tested : list_any (λ c. bytes_eq c q) compats ≡ lists_at nodes q id
    tested = ap (list_any (λ c. bytes_eq c q)) e ∙ lists nodes id q

    has : held old q ≡ front
    has = ap (λ (o : Option (List ℕ)). unwrap_or o []) (h q) ∙ held_some front

    by_test : (b : Bool) → (if b then Some (with_last (held old q) id) else lookup (bytes_eq q) old) ≡ some_of (front ++ cond b (id ∷ []) [])
    by_test true =
        ap Some (ap (λ (xs : List ℕ). with_last xs id) has ∙ put_fresh front id (All-filter (lists_at nodes q) (λ x. x < id) (range_with_len 0 id) (range_below id)))
        ∙ sym (some_some front id)
    by_test false = h q ∙ ap some_of (sym (append-nil front))

-- ---- the instances of the gathered strings

some_is : (xs ys : List ℕ) → some_of xs ≡ Some ys → (0 < length ys) × (ys ≡ xs)
some_is [] ys e = cc
some_is (x ∷ xs) ys e =
    let same : x ∷ xs ≡ ys = cc in
    let more : 0 < length (x ∷ xs) = omega arith in
    (subst (λ (zs : List ℕ). 0 < length zs) same more, sym same)

-- a string with the nodes that list it
pub record IsListed (nodes : List NodeData) (e : List ℕ × List ℕ) : Type 0 where
  pub some : 0 < length e.1
  pub all : e.1 ≡ listing nodes e.0

-- the instances of some of the gathered strings are there, and the others are left
pub record AreTaken (nodes : List NodeData) (all : Entries) (insts : List InstData) (left : Entries) : Type 0 where
  pub each : All (IsInst nodes) insts
  pub strings : compats_of insts ++ keys_of left ≡ keys_of all
  pub rest : All (IsListed nodes) left

pub none_taken : (nodes : List NodeData) (m : BTreeMap (List ℕ) (List ℕ)) (insts : List InstData) → IsOrdered (slice_cmp nat_cmp) m
    → AreGathered nodes (length nodes) m.entries → insts ≡ [] → AreTaken nodes m.entries insts m.entries
none_taken nodes m insts ordered h e = record {
  each = subst (All (IsInst nodes)) (sym e) (All-nil (IsInst nodes));
  strings = ap (λ (is : List InstData). compats_of is ++ keys_of m.entries) e;
  rest = λ k d l.
      let entry : List ℕ × List ℕ = slice_index_or m.entries k d in
      let found : lookup (bytes_eq entry.0) m.entries ≡ Some entry.1 = sym (tree-get entry.0 m.entries) ∙ All-found nat_list_cmp_total m ordered k d l in
      let is = some_is (listing nodes entry.0) entry.1 (sym (h entry.0) ∙ found) in
      record { some = is.0; all = is.1 };
}

length_kept : (p : ℕ → Bool) (xs : List ℕ) → length (filter p xs) ≤ length xs
length_kept p xs = omega (arith, length-filter_both p (λ x. not (p x)) (λ x. refl) xs)

pub few_okay : (nodes : List NodeData) (ids : List ℕ) → length ids < 4294967296 → length (okay_of nodes ids) < 4294967296
few_okay nodes ids l = omega (arith, l, length_kept (is_okay nodes) ids)

pub few_left : (t : TreeData) (all : Entries) (insts : List InstData) (left rest : Entries) (compat ids : List ℕ) → IsWellFormed t
    → AreTaken t.nodes all insts left → left ≡ (compat, ids) ∷ rest → length ids < 4294967296
few_left t all insts left rest compat ids well h e =
    let one : IsListed t.nodes (compat, ids) = All-head (IsListed t.nodes) (compat, ids) rest (subst (All (IsListed t.nodes)) e h.rest) in
    let is : length ids ≡ length (listing t.nodes compat) = ap length one.all in
    omega (arith, is, length_kept (lists_at t.nodes compat) (range_with_len 0 (length t.nodes)), length-range_with_len 0 (length t.nodes), well.few)

inst_is : (nodes : List NodeData) (compat ids : List ℕ) → IsListed nodes (compat, ids) → IsInst nodes (inst_of nodes compat ids)
inst_is nodes compat ids h =
    let p : ℕ → Bool = is_okay nodes in
    let both : length (filter p ids) + length (filter (λ id. not (p id)) ids) ≡ length ids = length-filter_both p (λ x. not (p x)) (λ x. refl) ids in
    let many : length (okay_first nodes ids) ≡ length (filter p ids) + length (filter (λ id. not (p id)) ids) = length-append (filter p ids) (filter (λ id. not (p id)) ids) in
    record {
      some = omega (arith, both, many, h.some);
      nodes = ap (okay_first nodes) h.all;
      okay = ap (λ (xs : List ℕ). length (okay_of nodes xs)) h.all;
    }

pub one_taken : (nodes : List NodeData) (all : Entries) (insts more : List InstData) (left rest : Entries) (compat ids : List ℕ) (i : InstData)
    → AreTaken nodes all insts left → left ≡ (compat, ids) ∷ rest → i ≡ inst_of nodes compat ids → more ≡ insts ++ i ∷ [] → AreTaken nodes all more rest
one_taken nodes all insts more left rest compat ids i h e is added = record {
  each = subst (All (IsInst nodes)) (sym added) (All-push (IsInst nodes) insts i h.each (subst (IsInst nodes) (sym is) (inst_is nodes compat ids one)));
  strings =
      ap (λ (js : List InstData). compats_of js ++ keys_of rest) added
      ∙ ap (λ (xs : List (List ℕ)). xs ++ keys_of rest) (map-append {B = List ℕ} (λ (j : InstData). j.compat) insts (i ∷ []))
      ∙ append_assoc (compats_of insts) (i.compat ∷ []) (keys_of rest)
      ∙ ap (λ (j : InstData). compats_of insts ++ j.compat ∷ keys_of rest) is
      ∙ ap (λ (es : Entries). compats_of insts ++ keys_of es) (sym e)
      ∙ h.strings;
  rest = All-tail (IsListed nodes) (compat, ids) rest listed;
}
  where
    listed : All (IsListed nodes) ((compat, ids) ∷ rest)
    listed = subst (All (IsListed nodes)) e h.rest

    one : IsListed nodes (compat, ids)
    one = All-head (IsListed nodes) (compat, ids) rest listed

-- ---- each string is there

any_string : (cs : List (List ℕ)) (q : List ℕ) → Contains cs q → list_any (λ c. bytes_eq c q) cs ≡ true
any_string [] q c = absurd (none_in q c)
any_string (x ∷ xs) q c =
    elim (cons_cases x xs q c) [
      | inl same ↦ ap (λ (b : Bool). b || list_any (λ c. bytes_eq c q) xs) ((bytes_eq-Decides x q).1 same)
      | inr back ↦ either (bytes_eq x q) (any_string xs q back)
    ]
  where
    either : (b : Bool) → list_any (λ c. bytes_eq c q) xs ≡ true → (b || list_any (λ c. bytes_eq c q) xs) ≡ true
    either true e = refl
    either false e = e

some_there : (xs : List ℕ) (id : ℕ) → Contains xs id → (ys : List ℕ) × (some_of xs ≡ Some ys)
some_there [] id c = absurd (none_in id c)
some_there (x ∷ xs) id c = (x ∷ xs, refl)

key_at : (es : Entries) (i : ℕ) (k v : List ℕ) → slice_get es i ≡ Some (k, v) → slice_get (keys_of es) i ≡ Some k
key_at [] i k v e = cc
key_at ((key, value) ∷ es) zero k v e = ap (option_map (λ (p : List ℕ × List ℕ). p.0)) e
key_at ((key, value) ∷ es) (suc i) k v e = key_at es i k v e

pub all_taken : (nodes : List NodeData) (all : Entries) (insts : List InstData) (left : Entries) → left ≡ [] → AreTaken nodes all insts left
    → AreGathered nodes (length nodes) all → IsStrictlySortedBy (slice_cmp nat_cmp) (keys_of all) → AreInstances nodes insts
all_taken nodes all insts left e h gathered ordered = record {
  each = h.each;
  order = subst (IsStrictlySortedBy (slice_cmp nat_cmp)) (sym strings) ordered;
  every = λ id n compat at c. every id n compat at c;
}
  where
    strings : compats_of insts ≡ keys_of all
    strings = sym (append-nil (compats_of insts)) ∙ ap (λ (es : Entries). compats_of insts ++ keys_of es) (sym e) ∙ h.strings

    every : (id : ℕ) (n : NodeData) (compat : List ℕ) → slice_get nodes id ≡ Some n → Contains n.compats compat → Contains (compats_of insts) compat
    every id n compat at c =
        let test : lists_at nodes compat id ≡ true =
        ap (λ (o : Option NodeData). option_map_or (λ (m : NodeData). list_any (λ d. bytes_eq d compat) m.compats) o false) at ∙ any_string n.compats compat c in
        let there : Contains (listing nodes compat) id =
        kept_with (lists_at nodes compat) (range_with_len 0 (length nodes)) id (in_range (length nodes) id (slice_get_within nodes id n at)) test in
        let some = some_there (listing nodes compat) id there in
        let found = place_from_lookup (bytes_eq compat) all some.0 (gathered compat ∙ some.1) in
        let same : compat ≡ found.1 = (bytes_eq-Decides compat found.1).0 found.3 in
        let key : Contains (keys_of all) found.1 = contains_at (keys_of all) found.0 found.1 (key_at all found.0 found.1 some.0 found.2) in
        subst (λ (xs : List (List ℕ)). Contains xs compat) (sym strings) (subst (λ (k : List ℕ). Contains (keys_of all) k) (sym same) key)

pub none_left : (left : Entries) → (0 < length left → false ≡ true) → left ≡ []
none_left [] h = refl
none_left (e ∷ es) h = let no : false ≡ true = h (omega arith) in cc
