-- Sides fed one after another.
use Rattle.std.proofs.Common.{◌≡◌, Bool, true, false, List, [], ◌∷◌, ◌++◌, Option, Some, None, option_map, refl, sym, ap, ◌∙◌, append_assoc}
use Rattle.c_tokens.specs.Grammar.{kind_of}
use Rattle.c_macro.specs.declared.pend.Pend.{Pend}
use Rattle.c_macro.specs.declared.joiner.Item.{Item}
use Rattle.c_macro.specs.declared.joiner.Item.TheVariants as item
use Rattle.c_macro.specs.declared.joiner.Joiner.{Joiner}
use Rattle.c_macro.specs.Marked.{Marked}
use Rattle.c_macro.specs.Bodies.{join, joined_from, joined_on, joined_tok, item_toks, One, Blank}
use Rattle.c_macro.specs.SetData.{SetTable, Grown}
use Rattle.c_macro.specs.Pending.{mark, marks, KnownAll}
use Rattle.c_macro.specs.Joining.{item_data, KnownItem, KnownLeft, KnownJoiner, is_glue, Fed, FedFrom}
use Rattle.c_macro.proofs.PendLaws.{marks_grow, known_grow}

map_twice : {A B C : Type 0} (f : A → B) (g : B → C) (o : Option A) → option_map g (option_map f o) ≡ option_map (λ x. g (f x)) o
map_twice f g None = refl
map_twice f g (Some x) = refl

pub joined_ones : (a b : Marked) (r : Option Marked) → r ≡ option_map (joined_tok a b) (kind_of (a.tok.spell ++ b.tok.spell)) → option_map One r ≡ join (One a) (One b)
joined_ones a b r e = ap (option_map One) e ∙ map_twice (joined_tok a b) One (kind_of (a.tok.spell ++ b.tok.spell))

out_of : List Pend → Option Item → Bool → List Pend
out_of ps o b = ps

known_of : (s : SetTable) (j : Joiner) → KnownAll s j.out.items → KnownLeft s j.left → KnownJoiner s j
known_of s j h k = record { out = h; left = k }

-- a join was fed
pub glue_fed : (s : SetTable) (j k : Joiner) (left i : Item) → is_glue i ≡ true → k.out ≡ j.out → k.left ≡ Some left → k.glued ≡ true → KnownAll s j.out.items → KnownItem s left
    → FedFrom s s j.out.items left false k (item_data s i) true
glue_fed s j k left item.Glue g o l b h q = record {
  known = record { out = rw o h; left = rw l q };
  is = λ is. rw (o, l, b) refl;
}
glue_fed s j k left (item.One p) g o l b h q = cc
glue_fed s j k left (item.Blank x) g o l b h q = cc

-- a side was fed behind another
pub side_fed : (s : SetTable) (j k : Joiner) (left i : Item) → is_glue i ≡ false → marks s k.out.items ≡ marks s j.out.items ++ item_toks (item_data s left) → k.left ≡ Some i → k.glued ≡ false
    → KnownAll s k.out.items → KnownItem s i → FedFrom s s j.out.items left false k (item_data s i) true
side_fed s j k left item.Glue g o l b h q = cc
side_fed s j k left (item.One p) g o l b h q = record {
  known = record { out = h; left = rw l q };
  is = λ is. rw (o, l, b) (twice (marks s j.out.items) (item_toks (item_data s left)) (joined_from (One (mark s p)) is));
}
  where
    twice : (xs ys : List Marked) (o : Option (List Marked)) → option_map (λ ts. xs ++ ts) (option_map (λ ts. ys ++ ts) o) ≡ option_map (λ ts. (xs ++ ys) ++ ts) o
    twice xs ys None = refl
    twice xs ys (Some zs) = ap Some (sym (append_assoc xs ys zs))
side_fed s j k left (item.Blank x) g o l b h q = record {
  known = record { out = h; left = rw l q };
  is = λ is. rw (o, l, b) (twice (marks s j.out.items) (item_toks (item_data s left)) (joined_from (Blank x) is));
}
  where
    twice : (xs ys : List Marked) (o : Option (List Marked)) → option_map (λ ts. xs ++ ts) (option_map (λ ts. ys ++ ts) o) ≡ option_map (λ ts. (xs ++ ys) ++ ts) o
    twice xs ys None = refl
    twice xs ys (Some zs) = ap Some (sym (append_assoc xs ys zs))

-- two sides made one
pub right_fed : (s s' : SetTable) (j k : Joiner) (left i made : Item) → Grown s s' → KnownAll s j.out.items → Some (item_data s' made) ≡ join (item_data s left) (item_data s i) → KnownItem s' made
    → k.out ≡ j.out → k.left ≡ Some made → k.glued ≡ false → FedFrom s s' j.out.items left true k (item_data s i) true
right_fed s s' j k left i made g h e q o l b = record {
  known = record { out = rw o (known_grow s s' j.out.items g h); left = rw l q };
  is = λ is. rw (o, l, b, marks_grow s s' j.out.items g h) (ap (λ x. option_map (λ ts. marks s j.out.items ++ ts) (joined_on x (λ y. joined_from y is))) (sym e));
}

-- or none
pub right_fails : (s s' : SetTable) (out : List Pend) (k : Joiner) (left i : Item) → None ≡ join (item_data s left) (item_data s i) → FedFrom s s' out left true k (item_data s i) false
right_fails s s' out k left i e = record { known = tt; is = λ is. ap (λ x. option_map (λ ts. marks s out ++ ts) (joined_on x (λ y. joined_from y is))) (sym e) }

-- the first side was fed
pub first_fed : (s : SetTable) (j k : Joiner) (i : Item) → j.left ≡ None → KnownAll s j.out.items → KnownItem s i → k.out ≡ j.out → k.left ≡ Some i → k.glued ≡ false
    → Fed s s j k (item_data s i ∷ []) true
first_fed s j k i n h q o l b = record {
  known = record { out = rw o h; left = rw l q };
  is = λ is. rw (n, o, l, b) refl;
}

pub fed_from : (s s' : SetTable) (j k : Joiner) (left i : Item) (fine : Bool) (glued : Bool) → j.left ≡ Some left → j.glued ≡ glued → FedFrom s s' j.out.items left glued k (item_data s i) fine
    → Fed s s' j k (item_data s i ∷ []) fine
fed_from s s' j k left i fine glued l b f = record { known = f.known; is = λ is. rw (l, b) (f.is is) }
