-- How matches are found one after another.
use Rattle.std.proofs.Common.{◌≡◌, ◌∙◌, ◌+◌, ◌<◌, ◌≤◌, ◌++◌, ◌∷◌, [], ℕ, true, List, Option, Some, None, IfSome, length, map, slice_get, sym, ap, subst, arith}
use Rattle.std.specs.List.{range_with_len}
use Rattle.std.specs.Option.{option_map_or}
use Rattle.std.proofs.lemmas.List.FromFn.{get_or-map-range_with_len, length-map-range_with_len, map-range_with_len_more}
use Rattle.std.proofs.lemmas.Option.{slice_get_read}
use Rattle.bind_merge.specs.LibraryData.{LibData}
use Rattle.bind_merge.specs.Matching.{is_bound}
use Rattle.edt_base.specs.TreeData.{IsWellFormed, TreeData}
use Rattle.pha_nexus.specs.Matching.{Binding, Match, match_at}
use Rattle.pha_nexus.proofs.MatchLaws.{good_match, match_bound}

-- one more of a list of values of the numbers from 0 on
pub one_more : {X : Type 0} (f : ℕ → X) (xs ys : List X) (x : X) (n : ℕ) → xs ≡ map f (range_with_len 0 n) → x ≡ f n
    → ys ≡ xs ++ x ∷ [] → ys ≡ map f (range_with_len 0 (n + 1))
one_more {X = X} f xs ys x n e at added =
    added ∙ ap (λ (zs : List X). zs ++ x ∷ []) e ∙ ap (λ (z : X). map f (range_with_len 0 n) ++ z ∷ []) at
    ∙ sym (map-range_with_len_more f 0 n n (omega arith))

pub so_many : {X : Type 0} (f : ℕ → X) (xs : List X) (n : ℕ) → xs ≡ map f (range_with_len 0 n) → length xs ≡ n
so_many f xs n e = ap length e ∙ length-map-range_with_len f 0 n

pub value_at : {X : Type 0} (f : ℕ → X) (n i : ℕ) → i < n → slice_get (map f (range_with_len 0 n)) i ≡ Some (f i)
value_at f n i l = slice_get_read (map f (range_with_len 0 n)) n i (f i) (sym (length-map-range_with_len f 0 n)) l
    (sym (get_or-map-range_with_len f 0 n i i (f i) l (omega arith)))

pub is_value : {X : Type 0} (f : ℕ → X) (xs : List X) (n i : ℕ) (x : X) → xs ≡ map f (range_with_len 0 n) → i < n
    → slice_get xs i ≡ Some x → x ≡ f i
is_value {X = X} f xs n i x e l at =
    let both : Some x ≡ Some (f i) = sym at ∙ ap (λ (zs : List X). slice_get zs i) e ∙ value_at f n i l in
    ap (λ (o : Option X). option_map_or (λ (y : X). y) o x) both

-- there is room for one more step down
room_for : (o : Option Binding) (id count : ℕ) → id < count → count < 4294967296 → IfSome o (λ b. b.1 ≤ id) → IfSome o (λ b. b.1 + 1 < 4294967296)
room_for None id count l few h = tt
room_for (Some b) id count l few h = let low : b.1 ≤ id = h in omega arith

-- the match of a parent, as it is found
pub record IsParentFound (t : TreeData) (lib : LibData) (up : ℕ) (m : Match) : Type 0 where
  pub same : m ≡ match_at t.nodes lib up
  pub bound : IfSome m.binding (λ b. is_bound lib.bindings b.0 ≡ true)
  pub room : IfSome m.binding (λ b. b.1 + 1 < 4294967296)

pub parent_found : (t : TreeData) (lib : LibData) (found : List Match) (id up : ℕ) (m : Match) → IsWellFormed t
    → found ≡ map (match_at t.nodes lib) (range_with_len 0 id) → up < id → id < length t.nodes → slice_get found up ≡ Some m
    → IsParentFound t lib up m
parent_found t lib found id up m well e l there at =
    let same : m ≡ match_at t.nodes lib up = is_value (match_at t.nodes lib) found id up m e l at in
    record {
      same = same;
      bound = subst (λ (n : Match). IfSome n.binding (λ b. is_bound lib.bindings b.0 ≡ true)) (sym same) (match_bound t.nodes lib up);
      room = subst (λ (n : Match). IfSome n.binding (λ b. b.1 + 1 < 4294967296)) (sym same)
          (room_for (match_at t.nodes lib up).binding up (length t.nodes) (omega arith) well.few (good_match t lib up well).0);
    }
