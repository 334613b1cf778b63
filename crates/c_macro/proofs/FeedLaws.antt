-- Rows of sides.
use Rattle.std.proofs.Common.{◌≡◌, ℕ, zero, suc, ◌<◌, ◌≤◌, Bool, true, false, List, [], ◌∷◌, ◌++◌, if◌then◌else◌, Some, None, length, map, slice_index_or, refl, sym, ap, subst, ◌∙◌, arith, append_assoc}
use Rattle.std.specs.List.{flat_map}
use Rattle.c_macro.specs.declared.pend.Pend.{Pend}
use Rattle.c_macro.specs.declared.pend.Given.{Given}
use Rattle.c_macro.specs.declared.joiner.Joiner.{Joiner}
use Rattle.c_macro.specs.Marked.{Marked}
use Rattle.c_macro.specs.Bodies as bodies
use Rattle.c_macro.specs.Bodies.{One, Blank, ones, spaced_as, side_items, no_arg, Arg, text_spelling, text_spaced, text_spellings, string_of}
use Rattle.c_macro.specs.Strings.{pend_spaced, pend_spellings}
use Rattle.c_macro.specs.declared.part.Part.{Part}
use Rattle.c_macro.specs.Marked.{no_bars}
use Rattle.c_tokens.specs.declared.tok.Tok.{Tok}
use Rattle.c_tokens.specs.declared.tok.TokKind.TheVariants as kind
use Rattle.c_macro.specs.SetData.{set_count, SetTable, Grown}
use Rattle.c_macro.specs.Pending.{mark, marks, KnownAll, args_data, KnownArgs, part_data}
use Rattle.c_macro.specs.Joining.{comes_to, KnownJoiner, Fed, Feeding, Building, last_one, fed_of, fed_items, all_fed}
use Rattle.c_macro.proofs.SetLaws.{grown_refl, grown_trans}
use Rattle.c_macro.proofs.PendLaws.{marks_grow, known_grow, args_grow, args_known_grow}

pub fed_nothing : (s : SetTable) (j : Joiner) → KnownJoiner s j → Fed s s j j [] true
fed_nothing s j k = record { known = k; is = λ is. refl }

-- one row and then another
pub fed_then : (a b c : SetTable) (j k l : Joiner) (xs ys : List bodies.Item) (fine : Bool) → Fed a b j k xs true → Fed b c k l ys fine → Fed a c j l (xs ++ ys) fine
fed_then a b c j k l xs ys fine f g = record {
  known = g.known;
  is = λ is. ap (comes_to a j) (append_assoc xs ys is) ∙ (f.is (ys ++ is) ∙ g.is is);
}

-- where a row failed, so did a longer one
pub fed_stops : (a b : SetTable) (j k : Joiner) (xs ys : List bodies.Item) → Fed a b j k xs false → Fed a b j k (xs ++ ys) false
fed_stops a b j k xs ys f = record { known = tt; is = λ is. ap (comes_to a j) (append_assoc xs ys is) ∙ f.is (ys ++ is) }

pub feeding_starts : (s : SetTable) (j : Joiner) (toks : List Pend) → KnownJoiner s j → KnownAll s toks → Feeding s s j j (ones (marks s toks)) toks
feeding_starts s j toks h k = record { grown = grown_refl s; known = h; left_known = k; is = λ is. refl }

pub feeding_goes : (a b c : SetTable) (j k l : Joiner) (all : List bodies.Item) (left rest : List Pend) (p q : Pend) → Feeding a b j k all left → left ≡ p ∷ rest → q ≡ p → Grown b c
    → Fed b c k l (One (mark b q) ∷ []) true → Feeding a c j l all rest
feeding_goes a b c j k l all left rest p q f e same g fed =
    let h : KnownAll b (p ∷ rest) = subst (KnownAll b) e f.left_known in
    let m : marks c rest ≡ marks b rest = marks_grow b c rest g h.1 in
    record {
      grown = grown_trans a b c f.grown g;
      known = fed.known;
      left_known = known_grow b c rest g h.1;
      is = λ is. f.is is ∙ (ap (λ ps. comes_to b k (ones (marks b ps) ++ is)) e ∙ (ap (λ x. comes_to b k (One (mark b x) ∷ (ones (marks b rest) ++ is))) (sym same)
          ∙ (fed.is (ones (marks b rest) ++ is) ∙ ap (λ ms. comes_to c l (ones ms ++ is)) (sym m))));
    }

pub feeding_ends : (a b : SetTable) (j k : Joiner) (all : List bodies.Item) (left : List Pend) → Feeding a b j k all left → length left ≡ 0 → Fed a b j k all true
feeding_ends a b j k all [] f e = record { known = f.known; is = f.is }
feeding_ends a b j k all (p ∷ ps) f e = absurd (omega arith)

pub feeding_fails : (a b c : SetTable) (j k l : Joiner) (all : List bodies.Item) (left rest : List Pend) (p q : Pend) → Feeding a b j k all left → left ≡ p ∷ rest → q ≡ p
    → Fed b c k l (One (mark b q) ∷ []) false → Fed a c j l all false
feeding_fails a b c j k l all left rest p q f e same fed = record {
  known = tt;
  is = λ is. f.is is ∙ (ap (λ ps. comes_to b k (ones (marks b ps) ++ is)) e ∙ (ap (λ x. comes_to b k (One (mark b x) ∷ (ones (marks b rest) ++ is))) (sym same) ∙ fed.is (ones (marks b rest) ++ is)));
}

pub first_known : (s : SetTable) (left rest : List Pend) (p : Pend) → left ≡ p ∷ rest → KnownAll s left → p.set < set_count s
first_known s left rest p e h = (subst (KnownAll s) e h).0

pub rest_known : (s : SetTable) (left rest : List Pend) (p : Pend) → left ≡ p ∷ rest → KnownAll s left → KnownAll s rest
rest_known s left rest p e h = (subst (KnownAll s) e h).1

-- the argument of a number
pub written_at : (s : SetTable) (gs : List Given) (i : ℕ) (g : Given) → i < length gs → g ≡ slice_index_or gs i g → marks s g.written ≡ (slice_index_or (args_data s gs) i no_arg).written
written_at s [] i g h e = absurd (omega arith)
written_at s (x ∷ xs) zero g h e = ap (λ y. marks s y.written) e
written_at s (x ∷ xs) (suc i) g h e = written_at s xs i g (omega arith) e

pub full_at : (s : SetTable) (gs : List Given) (i : ℕ) (g : Given) → i < length gs → g ≡ slice_index_or gs i g → marks s g.full.items ≡ (slice_index_or (args_data s gs) i no_arg).full
full_at s [] i g h e = absurd (omega arith)
full_at s (x ∷ xs) zero g h e = ap (λ y. marks s y.full.items) e
full_at s (x ∷ xs) (suc i) g h e = full_at s xs i g (omega arith) e

pub known_at : (s : SetTable) (gs : List Given) (i : ℕ) (g : Given) → i < length gs → g ≡ slice_index_or gs i g → KnownArgs s gs → KnownAll s g.written × KnownAll s g.full.items
known_at s [] i g h e k = absurd (omega arith)
known_at s (x ∷ xs) zero g h e k = let P : Given → Type 0 = λ y. KnownAll s y.written × KnownAll s y.full.items in subst P (sym e) (k.0, k.1)
known_at s (x ∷ xs) (suc i) g h e k = known_at s xs i g (omega arith) e k.2

pub past_args : (s : SetTable) (gs : List Given) (i : ℕ) → length gs ≤ i → slice_index_or (args_data s gs) i no_arg ≡ no_arg
past_args s [] i h = refl
past_args s (x ∷ xs) zero h = absurd (omega arith)
past_args s (x ∷ xs) (suc i) h = past_args s xs i (omega arith)

ends_of : Bool → List Marked → List Marked
ends_of e ts = if e then last_one ts else ts

pub fed_spaced : (a b c : SetTable) (j k l : Joiner) (toks rest part : List Pend) (p q : Pend) (e s fine : Bool) → toks ≡ p ∷ rest → q ≡ record { tok = record { spell = p.tok.spell; kind = p.tok.kind; spaced = s }; set = p.set } → KnownAll a toks → Grown a b
    → marks b part ≡ (if e then last_one (marks b rest) else marks b rest)
    → Fed a b j k (One (mark a q) ∷ []) true → Fed b c k l (ones (marks b part)) fine → Fed a c j l (ones (spaced_as s (fed_of e (marks a toks)))) fine
unfolding ends_of
fed_spaced a b c j k l toks rest part p q e s fine t is h g m f r =
    let h1 : KnownAll a (p ∷ rest) = subst (KnownAll a) t h in
    let r1 : Fed b c k l (ones (ends_of e (marks a rest))) fine = subst (λ ms. Fed b c k l (ones ms) fine) (m ∙ ap (ends_of e) (marks_grow a b rest g h1.1)) r in
    let f1 = subst (λ x. Fed a b j k (One (mark a x) ∷ []) true) is f in
    subst (λ ps. Fed a c j l (ones (spaced_as s (fed_of e (marks a ps)))) fine) (sym t)
    (fed_then a b c j k l (One (mark a (record { tok = record { spell = p.tok.spell; kind = p.tok.kind; spaced = s }; set = p.set })) ∷ []) (ones (ends_of e (marks a rest))) fine f1 r1)

spaced_same : (s : SetTable) (ps : List Pend) → flat_map pend_spaced ps ≡ flat_map text_spaced (marks s ps)
spaced_same s [] = refl
spaced_same s (p ∷ ps) = ap (λ xs. pend_spaced p ++ xs) (spaced_same s ps)

spellings_same : (s : SetTable) (ps : List Pend) → pend_spellings ps ≡ text_spellings (marks s ps)
spellings_same s [] = refl
spellings_same s (p ∷ ps) = ap (λ xs. text_spelling p.tok ++ xs) (spaced_same s ps)

bare : Tok → Marked
bare t = record { tok = t; bars = no_bars }

string_tok : Bool → List ℕ → Tok
string_tok spaced xs = record { spell = 34 ∷ (xs ++ 34 ∷ []); kind = kind.Str; spaced = spaced }

pub fed_string : (a b s : SetTable) (j k : Joiner) (toks : List Pend) (t : Tok) (spaced fine : Bool) → t ≡ record { spell = 34 ∷ (pend_spellings toks ++ 34 ∷ []); kind = kind.Str; spaced = spaced }
    → Fed a b j k (One (record { tok = t; bars = no_bars }) ∷ []) fine → Fed a b j k (One (string_of spaced (marks s toks)) ∷ []) fine
unfolding bare string_tok
fed_string a b s j k toks t spaced fine e f =
    subst (λ x. Fed a b j k (One (bare x) ∷ []) fine) (e ∙ ap (string_tok spaced) (spellings_same s toks)) f

pub building_starts : (s : SetTable) (e : Bool) (args : List Given) (k : Joiner) (whole : List Part) → KnownJoiner s k → KnownArgs s args → ((is : List bodies.Item) → comes_to s k is ≡ bodies.joined is) → Building s s e args k whole whole
building_starts s e args k whole h g f = record { grown = grown_refl s; known = h; args_known = g; is = sym (f (all_fed e (map part_data whole) (args_data s args))) }

pub building_goes : (a b c : SetTable) (m : Bool) (args : List Given) (k l : Joiner) (whole left rest : List Part) (p : Part) → Building a b m args k whole left → left ≡ p ∷ rest → Grown b c
    → Fed b c k l (fed_items m (args_data b args) (part_data p)) true → Building a c m args l whole rest
building_goes a b c m args k l whole left rest p f e g fed = record {
  grown = grown_trans a b c f.grown g;
  known = fed.known;
  args_known = args_known_grow b c args g f.args_known;
  is = f.is ∙ (ap (λ ps. comes_to b k (all_fed m (map part_data ps) (args_data b args))) e
      ∙ (fed.is (all_fed m (map part_data rest) (args_data b args)) ∙ ap (λ x. comes_to c l (all_fed m (map part_data rest) x)) (sym (args_grow b c args g f.args_known))));
}

pub building_fails : (a b c : SetTable) (m : Bool) (args : List Given) (k l : Joiner) (whole left rest : List Part) (p : Part) → Building a b m args k whole left → left ≡ p ∷ rest
    → Fed b c k l (fed_items m (args_data b args) (part_data p)) false → None ≡ bodies.joined (all_fed m (map part_data whole) (args_data a args))
building_fails a b c m args k l whole left rest p f e fed =
    sym (f.is ∙ (ap (λ ps. comes_to b k (all_fed m (map part_data ps) (args_data b args))) e ∙ fed.is (all_fed m (map part_data rest) (args_data b args))))

pub building_ends : (a b : SetTable) (m : Bool) (args : List Given) (k : Joiner) (whole left : List Part) (toks : List Pend) → Building a b m args k whole left → left ≡ [] → comes_to b k [] ≡ Some (marks b toks)
    → Some (marks b toks) ≡ bodies.joined (all_fed m (map part_data whole) (args_data a args))
building_ends a b m args k whole left toks f e h = sym (f.is ∙ (ap (λ ps. comes_to b k (all_fed m (map part_data ps) (args_data b args))) e ∙ h))
