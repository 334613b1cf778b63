-- What is left of the slots is what the definitions say is left, or the rule that they say is broken.
use Rattle.std.proofs.Common.{◌≡◌, ◌∙◌, ◌<◌, ◌≤◌, ◌||◌, ◌∷◌, [], ℕ, suc, Bool, true, false, cond, List, Option, Some, None, Result, Ok, Err, length, map, refl, sym, ap, subst, inl, inr, sum_by, ltb}
use Rattle.std.specs.Option.{option_map}
use Rattle.std.specs.List.{find, fold}
use Rattle.std.specs.Str.{bytes_eq}
use Rattle.std.proofs.lemmas.List.{length-map}
use Rattle.std.proofs.lemmas.Option.{none-some, same_Some, slice_get_within, get_or_from_slice_get}
use Rattle.edt_base.specs.declared.fault.Fault.{Fault}
use Rattle.edt_base.specs.declared.fault.Rule.TheVariants as rule
use Rattle.edt_base.specs.declared.fault.End.{End}
use Rattle.edt_base.specs.declared.fault.End.TheVariants as ending
use Rattle.dts_tree.specs.Places.{Place, path_text}
use Rattle.dts_tree.specs.Live.{with_new}
use Rattle.dts_tree.specs.Reading.{Before, Unnamed, live}
use Rattle.dts_tree.specs.References.{or_fault, unnamed_fault, Answers, AnswersAs}
use Rattle.dts_tree.specs.Whole.{whole}
use Rattle.dts_tree.specs.Limits.{are_too_many, is_large, first_shared, first_large, first_label_shared}
use Rattle.dts_tree.specs.Drafts.{DraftData}
use Rattle.dts_tree.specs.Outcome.{at_path, labelled_or, sized_or, counted_or, left_by}
use Rattle.dts_tree.specs.Inner.Machine.{ReaderData}
use Rattle.dts_tree.specs.Inner.Grown.{GrownData, ParentsRise, grown_of, labels_at, any_seen, has_large, below_in, lens_of, slots_too_many, first_large_slot, shared_from}
use Rattle.dts_tree.specs.Inner.Left.{whole_slots, prop_lists, text_path, shared_or, large_or, many_or, left_of}
use Rattle.dts_tree.proofs.Lists.{Member}
use Rattle.dts_tree.proofs.Shape.{place_at, spot_at, there_within}
use Rattle.dts_tree.proofs.Tying.{IsTied}
use Rattle.dts_tree.proofs.Carrying.{IsStanding}
use Rattle.dts_tree.proofs.Following.{FollowsAll}
use Rattle.dts_tree.proofs.Referring.{err_by}
use Rattle.dts_tree.proofs.Measuring.{many_bytes}
use Rattle.dts_tree.proofs.Sizing.{first_large_is, shared_is}
use Rattle.dts_tree.proofs.Dropping.{whole_are, whole_alive}
use Rattle.dts_tree.proofs.Drafting.{path_is, drafts_are}

first_by : (b : Bool) (j i : ℕ) (is : List ℕ) (o : Option ℕ) → (o ≡ Some i → Member i is) → cond b (Some j) o ≡ Some i → Member i (j ∷ is)
first_by true j i is o h e = inl (same_Some j i e)
first_by false j i is o h e = inr (h e)

found_in : (f : ℕ → Bool) (is : List ℕ) (i : ℕ) → find f is ≡ Some i → Member i is
found_in f [] i h = absurd (none-some i h)
found_in f (j ∷ is) i h = first_by (f j) j i is (find f is) (found_in f is i) h

shared_in : (g : GrownData) (is : List ℕ) (seen : List (List ℕ)) (i : ℕ) → shared_from g seen is ≡ Some i → Member i is
shared_in g [] seen i h = absurd (none-some i h)
shared_in g (j ∷ is) seen i h =
    let more : List (List ℕ) = fold (with_new bytes_eq) seen (labels_at g j) in
    first_by (any_seen seen (labels_at g j)) j i is (shared_from g more is) (shared_in g is more i) h

-- ---- what stands for what

record Stands (places : List Place) (r : ReaderData) (b : Before) : Type 0 where
  tied : IsTied places r.arena r.events r.labels (live b)
  levels : length r.arena.spots ≤ suc (length b.deeds)

low : (places : List Place) (r : ReaderData) (b : Before) → Stands places r b → (i : ℕ) → Member i (whole_slots r) → i < length r.arena.spots
low places r b s i m =
    subst (λ n. i < n) s.tied.sound.gone (there_within r.arena.gone i (whole_alive places r (live b) s.tied i m))

text_is : (places : List Place) (r : ReaderData) (b : Before) → Stands places r b → (i : ℕ) (q : Place) → Member i (whole_slots r) → Some (place_at places i) ≡ Some q
    → text_path r i ≡ path_text q
text_is places r b s i q m e =
    path_is r.arena.spots places s.tied.shape i (low places r b s i m) ∙ ap path_text (same_Some (place_at places i) q e)

many_is : (places : List Place) (r : ReaderData) (b : Before) → Stands places r b → slots_too_many (whole_slots r) (lens_of r.arena.spots) ≡ are_too_many (whole b)
many_is places r b s =
    let ws : List ℕ = whole_slots r in
    let same : map (place_at places) ws ≡ whole b = whole_are places r b s.tied s.levels in
    ap (λ c. ltb 65535 (length ws) || c) (many_bytes r.arena.spots places s.tied.shape ws (low places r b s))
    ∙ (ap (λ n. ltb 65535 n || ltb 16777216 (sum_by (λ (p : Place). length (path_text p)) (map (place_at places) ws))) (sym (length-map ws (place_at places)))
    ∙ ap are_too_many same)

shared_same : (places : List Place) (r : ReaderData) (b : Before) → Stands places r b → (o : Option ℕ) (p : Option Place) → option_map (place_at places) o ≡ p
    → ((i : ℕ) → o ≡ Some i → Member i (whole_slots r)) → shared_or r o ≡ labelled_or b p
shared_same places r b s None None h m = ap Ok (drafts_are places r b s.tied s.levels)
shared_same places r b s None (Some q) h m = absurd (none-some q h)
shared_same places r b s (Some i) None h m = absurd (none-some (place_at places i) (sym h))
shared_same places r b s (Some i) (Some q) h m = ap (λ t. Err (at_path rule.S4 t)) (text_is places r b s i q (m i refl) h)

large_same : (places : List Place) (r : ReaderData) (b : Before) → Stands places r b → (o : Option ℕ) (p : Option Place) → option_map (place_at places) o ≡ p
    → ((i : ℕ) → o ≡ Some i → Member i (whole_slots r)) → large_or r o ≡ sized_or b p
large_same places r b s None None h m =
    let ws : List ℕ = whole_slots r in
    shared_same places r b s (shared_from (grown_of r) [] ws) (first_label_shared b)
    (shared_is places r (live b) ws [] [] s.tied (whole_alive places r (live b) s.tied) (λ l. refl) ∙ ap (first_shared (live b) []) (whole_are places r b s.tied s.levels))
    (λ i e. shared_in (grown_of r) ws [] i e)
large_same places r b s None (Some q) h m = absurd (none-some q h)
large_same places r b s (Some i) None h m = absurd (none-some (place_at places i) (sym h))
large_same places r b s (Some i) (Some q) h m = ap (λ t. Err (at_path rule.L8 t)) (text_is places r b s i q (m i refl) h)

many_same : (places : List Place) (r : ReaderData) (b : Before) → Stands places r b → (c : Bool) → many_or r c ≡ counted_or b c
many_same places r b s true = refl
many_same places r b s false =
    let ws : List ℕ = whole_slots r in
    large_same places r b s (first_large_slot r (grown_of r) (lens_of r.arena.spots) (prop_lists r) ws) (first_large b)
    (first_large_is places r (live b) ws s.tied (whole_alive places r (live b) s.tied) ∙ ap (find (is_large (live b))) (whole_are places r b s.tied s.levels))
    (λ i e. found_in (λ j. has_large r (grown_of r) (lens_of r.arena.spots) (below_in (prop_lists r) j)) ws i e)

left_same : (places : List Place) (r : ReaderData) (b : Before) → Stands places r b → left_of r ≡ counted_or b (are_too_many (whole b))
left_same places r b s = ap (many_or r) (many_is places r b s) ∙ many_same places r b s (are_too_many (whole b))

pub left_is : (r : ReaderData) (b : Before) → IsStanding r b → left_of r ≡ counted_or b (are_too_many (whole b))
left_is r b s = left_same s.places r b (record { tied = s.tied; levels = s.levels })

-- ---- of the sources

-- what a reader that carried all out stands for
record IsReadTo (files : List (List ℕ)) (y : Result Before Unnamed) (r : ReaderData) : Type 0 where
  before : Before
  read : y ≡ Ok before
  stands : IsStanding r before

reads_to : (files : List (List ℕ)) (x : Result ReaderData Unnamed) (y : Result Before Unnamed) (r : ReaderData) → FollowsAll x y → or_fault files x ≡ Ok r → IsReadTo files y r
reads_to files (Ok q) (Ok b) r f h = let same : q ≡ r = cc in record { before = b; read = refl; stands = subst (λ z. IsStanding z b) same f }
reads_to files (Ok q) (Err y) r f h = absurd f
reads_to files (Err x) y r f h = absurd (cc)

pub rises : (files : List (List ℕ)) (x : Result ReaderData Unnamed) (y : Result Before Unnamed) (r : ReaderData) → FollowsAll x y → or_fault files x ≡ Ok r → ParentsRise r.arena.spots
rises files x y r f h =
    let s = (reads_to files x y r f h).stands in
    record {
      some = s.tied.shape.some;
      before = λ i p e q.
          let l : i < length r.arena.spots = slice_get_within r.arena.spots i p e in
          let same : spot_at r.arena.spots i ≡ p = get_or_from_slice_get r.arena.spots i p _ e in
          subst (λ z. z.parent < i) same (s.tied.shape.parents i q l);
    }

pub left_answers : (files : List (List ℕ)) (x : Result ReaderData Unnamed) (y : Result Before Unnamed) (r : ReaderData) → FollowsAll x y → or_fault files x ≡ Ok r
    → left_of r ≡ left_by files y
left_answers files x y r f h =
    let k = reads_to files x y r f h in
    left_is r k.before k.stands ∙ ap (left_by files) (sym k.read)

fault_by : (files : List (List ℕ)) (y : Result Before Unnamed) (g : Fault) → or_fault files y ≡ Err g → left_by files y ≡ Err g
fault_by files (Ok b) g h = absurd (cc)
fault_by files (Err u) g h = let same : unnamed_fault files u.source u.at ≡ g = cc in ap Err same

pub read_fails : {T : Type 0} (seen : T → List DraftData) (files : List (List ℕ)) (x : Result ReaderData Unnamed) (y : Result Before Unnamed) (e : End) → FollowsAll x y
    → Answers (or_fault files x) (Err e) → AnswersAs {T = T} (Err e) seen (left_by files y)
read_fails seen files x y (ending.Fault g) f h = fault_by files y g (err_by files x y g f h)
read_fails seen files x y (ending.Memory e) f h = h
