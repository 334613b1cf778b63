-- Step one of loading, with one file more.
use Rattle.std.proofs.Common.{◌≡◌, ◌∙◌, sym, ap, subst, refl, inl, inr, ◌⊎◌, ℕ, zero, suc, ◌+◌, ◌<◌, ◌≤◌, Bool, true, false, ◌||◌, ◌&&◌, if◌then◌else◌, List, [], ◌∷◌, ◌++◌, length, get_or, take, drop, map, nat_eq, Option, Some, None, Result, Ok, Err, is_some, arith}
use Rattle.std.specs.List.{list_all, list_any, slice_get, slice_set}
use Rattle.std.specs.Option.{option_and_then, option_map, option_map_or}
use Rattle.std.specs.Str.{bytes_eq}
use Rattle.std.proofs.lemmas.List.{map-append, length-take-le}
use Rattle.std.proofs.lemmas.Option.{slice_get-map, slice_get-get_or, slice_get_past, slice_get_read}
use Rattle.std.proofs.lemmas.Bool.Decides.{Decides-eqb}
use Rattle.edt_base.specs.YamlData.{Value}
use Rattle.edt_base.specs.declared.fault.End.{End}
use Rattle.edt_base.specs.declared.fault.End.TheVariants as ending
use Rattle.edt_base.specs.declared.fault.Fault.{Fault}
use Rattle.yaml_profile.specs.Reading.{reading}
use Rattle.bind_merge.specs.Files.{FileData, record_at}
use Rattle.bind_merge.specs.Listing.{File, byte_fault, file_data, read_files, record_from}
use Rattle.bind_merge.specs.Loading.{OnFault, is_matching, is_read, matching, matching_from, text_fault, text_fault_in}
use Rattle.bind_merge.specs.Matching.{compatible_at, compatible_in}
use Rattle.bind_merge.specs.Options.{or_else, first_some}
use Rattle.bind_merge.specs.declared.matching.Found.{Found}
use Rattle.bind_merge.specs.declared.matching.Match.{Match}
use Rattle.bind_merge.specs.declared.reading.Read.{Read}
use Rattle.bind_merge.specs.Inner.Heights.{AreNone}
use Rattle.bind_merge.specs.Inner.Reading.{AreRead, IsReadAt, IsReadOf, is_read_at, read_at}
use Rattle.bind_merge.specs.Inner.Spreading.{Spreads, is_among}
use Rattle.bind_merge.specs.Inner.Steps.{AreStrings, HasMatched, IsMatched, numbers_of}
use Rattle.bind_merge.proofs.Heights.{none-at}
use Rattle.bind_merge.proofs.Places.{at_split, at_take}
use Rattle.bind_merge.proofs.Spreading.{all_more, is_read_now, reads_one}

-- ---- a list with one more

pub first-append : {A B : Type 0} (f : A → Option B) (xs ys : List A) → first_some f (xs ++ ys) ≡ or_else (first_some f xs) (first_some f ys)
first-append f [] ys = refl
first-append {B = B} f (x ∷ xs) ys = at (f x) (first-append f xs ys)
  where
    at : (o : Option B) → first_some f (xs ++ ys) ≡ or_else (first_some f xs) (first_some f ys)
        → or_else o (first_some f (xs ++ ys)) ≡ or_else (or_else o (first_some f xs)) (first_some f ys)
    at None h = h
    at (Some y) h = refl

abbrev with_last : Bool → List ℕ → ℕ → List ℕ
with_last true ks k = ks ++ k ∷ []
with_last false ks k = ks

matching-end : (compats : List (List ℕ)) (k n : ℕ) (f : File) → n ≡ k → matching_from compats k (f ∷ []) ≡ with_last (is_matching compats f) [] n
matching-end compats k n f e = at (is_matching compats f)
  where
    at : (b : Bool) → (if b then k ∷ [] else []) ≡ with_last b [] n
    at true = ap (λ m. m ∷ []) (sym e)
    at false = refl

matching-snoc : (compats : List (List ℕ)) (k n : ℕ) (fs : List File) (f : File) → n ≡ k + length fs
    → matching_from compats k (fs ++ f ∷ []) ≡ with_last (is_matching compats f) (matching_from compats k fs) n
matching-snoc compats k n [] f e = matching-end compats k n f (e ∙ omega arith)
matching-snoc compats k n (g ∷ gs) f e = at (is_matching compats g) (matching-snoc compats (k + 1) n gs f (e ∙ omega arith))
  where
    with-cons : (b : Bool) (ks : List ℕ) → k ∷ with_last b ks n ≡ with_last b (k ∷ ks) n
    with-cons true ks = refl
    with-cons false ks = refl

    at : (b : Bool) → matching_from compats (k + 1) (gs ++ f ∷ []) ≡ with_last (is_matching compats f) (matching_from compats (k + 1) gs) n
        → (if b then k ∷ matching_from compats (k + 1) (gs ++ f ∷ []) else matching_from compats (k + 1) (gs ++ f ∷ []))
        ≡ with_last (is_matching compats f) (if b then k ∷ matching_from compats (k + 1) gs else matching_from compats (k + 1) gs) n
    at true h = ap (λ ks. k ∷ ks) h ∙ with-cons (is_matching compats f) (matching_from compats (k + 1) gs)
    at false h = h

-- the numbers of matching bindings are those of files
matching-low : (compats : List (List ℕ)) (k n j : ℕ) (fs : List File) → n ≡ k + length fs → is_among (matching_from compats k fs) j ≡ true → j < n
matching-low compats k n j [] e h = absurd cc
matching-low compats k n j (f ∷ fs) e h = at (λ g. matching-low compats (k + 1) n j fs (e ∙ omega arith) g) (is_matching compats f) h
  where
    here : (is_among (matching_from compats (k + 1) fs) j ≡ true → j < n) → (b : Bool) → nat_eq j k ≡ b
        → (b || is_among (matching_from compats (k + 1) fs) j) ≡ true → j < n
    here below true t g = let q : j ≡ k = (Decides-eqb j k).0 t in omega (arith, q, e)
    here below false t g = below g

    at : (is_among (matching_from compats (k + 1) fs) j ≡ true → j < n) → (b : Bool)
        → is_among (if b then k ∷ matching_from compats (k + 1) fs else matching_from compats (k + 1) fs) j ≡ true → j < n
    at below true g = here below (nat_eq j k) refl g
    at below false g = below g

pub all-snoc : (test : ℕ → Bool) (ks : List ℕ) (k : ℕ) → list_all test ks ≡ true → test k ≡ true → list_all test (ks ++ k ∷ []) ≡ true
all-snoc test [] k a b = ap (λ x. x && true) b
all-snoc test (j ∷ js) k a b = at (test j) (λ g. all-snoc test js k g b) a
  where
    at : (x : Bool) → (list_all test js ≡ true → list_all test (js ++ k ∷ []) ≡ true) → (x && list_all test js) ≡ true → (x && list_all test (js ++ k ∷ [])) ≡ true
    at true h g = h g
    at false h g = absurd cc

-- ---- what a listed file holds

pub record_listed : (files : List File) (k : ℕ) (f : File) → slice_get files k ≡ Some f → record_at (read_files files) k ≡ Some (record_from f.0 (reading f.1))
record_listed files k f e =
    ap (option_map (λ (d : FileData). d.content)) (slice_get-map file_data files k ∙ ap (option_map file_data) e)

compatible-listed : (files : List File) (k : ℕ) (f : File) → slice_get files k ≡ Some f → compatible_at files k ≡ compatible_in (reading f.1)
compatible-listed files k f e = ap (option_and_then (λ (g : File). compatible_in (reading g.1))) e

strings-snoc : (files : List File) (ms : List Match) (m : Match) → AreStrings files ms → compatible_at files m.file ≡ Some m.compatible → AreStrings files (ms ++ m ∷ [])
strings-snoc files [] m s e = (e, tt)
strings-snoc files (x ∷ xs) m s e = (s.0, strings-snoc files xs m s.1 e)

pub string_at : (files : List File) (ms : List Match) (i : ℕ) (m : Match) → slice_get ms i ≡ Some m → AreStrings files ms → compatible_at files m.file ≡ Some m.compatible
string_at files [] i m e s = absurd cc
string_at files (x ∷ xs) zero m e s = let q : x ≡ m = cc in subst (λ (y : Match). compatible_at files y.file ≡ Some y.compatible) q s.0
string_at files (x ∷ xs) (suc i) m e s = string_at files xs i m e s.1

numbers-snoc : (ms : List Match) (m : Match) → numbers_of (ms ++ m ∷ []) ≡ numbers_of ms ++ m.file ∷ []
numbers-snoc ms m = map-append (λ (x : Match). x.file) ms (m ∷ [])

-- ---- at first nothing is read

unread : (reads : List (Option Read)) (k : ℕ) → AreNone reads → read_at reads k ≡ None
unread reads k n = none-at reads k n

pub matched_none : (files : List File) (compats : List (List ℕ)) (ms : List Match) (reads : List (Option Read)) → ms ≡ [] → AreNone reads
    → length reads ≡ length files → HasMatched files [] compats ms reads
matched_none files compats ms reads e n l = record {
  texts = refl;
  numbers = ap numbers_of e;
  strings = subst (λ (xs : List Match). AreStrings files xs) (sym e) tt;
  long = l;
  sound = λ k r f. absurd (let x : read_at reads k ≡ None = unread reads k n in cc);
  only = λ k f. absurd (let x : is_read_at reads k ≡ false = ap is_some (unread reads k n) in cc);
  all = ap (λ (xs : List Match). list_all (is_read_at reads) (numbers_of xs)) e;
}

-- ---- a file more

module _ (files : List File) (compats : List (List ℕ)) (i : ℕ) (f : File) (ms : List Match) (reads : List (Option Read)) (l : i < length files) (is : get_or files i f ≡ f)
    (had : HasMatched files (take i files) compats ms reads) where
  done-is : take (i + 1) files ≡ take i files ++ f ∷ []
  done-is = at_take files i f l is

  file-is : slice_get files i ≡ Some f
  file-is = slice_get-get_or files i f l ∙ ap Some is

  long-is : i ≡ 0 + length (take i files)
  long-is = let t : length (take i files) ≡ i = length-take-le i files (omega arith) in omega (arith, t)

  texts-more : text_fault compats f ≡ None → first_some (text_fault compats) (take (i + 1) files) ≡ None
  texts-more e =
      ap (first_some (text_fault compats)) done-is ∙ (first-append (text_fault compats) (take i files) (f ∷ [])
      ∙ (ap (λ o. or_else o (or_else (text_fault compats f) None)) had.texts ∙ ap (λ o. or_else o None) e))

  matching-is : matching compats (take (i + 1) files) ≡ with_last (is_matching compats f) (matching compats (take i files)) i
  matching-is = ap (matching compats) done-is ∙ matching-snoc compats 0 i (take i files) f long-is

  pub text_first : (fault : Fault) → text_fault compats f ≡ Some fault → first_some (text_fault compats) files ≡ Some fault
  text_first fault e =
      ap (first_some (text_fault compats)) (at_split files i f l is) ∙ (first-append (text_fault compats) (take i files) (f ∷ drop (i + 1) files)
      ∙ (ap (λ o. or_else o (or_else (text_fault compats f) (first_some (text_fault compats) (drop (i + 1) files)))) had.texts
      ∙ ap (λ o. or_else o (first_some (text_fault compats) (drop (i + 1) files))) e))

  pub text_end : (end : End) → IsMatched compats f (Err end) → OnFault {X = Unit {0}} (Err end) (λ x. first_some (text_fault compats) files ≡ Some x)
  text_end (ending.Fault x) h = text_first x h
  text_end (ending.Memory e) h = tt

  pub matched_not : IsMatched compats f (Ok None) → HasMatched files (take (i + 1) files) compats ms reads
  matched_not m = record {
    texts = texts-more m.0;
    numbers = had.numbers ∙ sym (matching-is ∙ ap (λ b. with_last b (matching compats (take i files)) i) m.1);
    strings = had.strings;
    long = had.long;
    sound = had.sound;
    only = had.only;
    all = had.all;
  }

  not-read : slice_get reads i ≡ Some None
  not-read = at (slice_get reads i) refl
    where
      at : (o : Option (Option Read)) → slice_get reads i ≡ o → slice_get reads i ≡ Some None
      at None e = absurd (let g : slice_get reads i ≡ Some (get_or reads i None) = slice_get-get_or reads i None (let h = had.long in omega (arith, h)) in cc)
      at (Some None) e = e
      at (Some (Some r)) e =
          let a : is_among (numbers_of ms) i ≡ true = had.only i (ap (λ (x : Option (Option Read)). is_some (option_and_then (λ y. y) x)) e) in
          let b : is_among (matching compats (take i files)) i ≡ true = ap (λ ks. is_among ks i) (sym had.numbers) ∙ a in
          let c : i < i = matching-low compats 0 i i (take i files) long-is b in
          absurd (omega (arith, c))

  pub matched_one : (found : Found) (m : Match) (more : List (Option Read)) → IsMatched compats f (Ok (Some found)) → m.file ≡ i → m.compatible ≡ found.compatible
      → more ≡ slice_set reads i (Some found.read) → HasMatched files (take (i + 1) files) compats (ms ++ m ∷ []) more
  matched_one found m more h e c s = record {
    texts = texts-more h.0;
    numbers = numbers-snoc ms m ∙ (ap (λ k. numbers_of ms ++ k ∷ []) e ∙ (ap (λ ks. ks ++ i ∷ []) had.numbers
        ∙ sym (matching-is ∙ ap (λ b. with_last b (matching compats (take i files)) i) h.1)));
    strings = strings-snoc files ms m had.strings string;
    long = ap length s ∙ (spreads.long ∙ had.long);
    sound = subst (λ (rs : List (Option Read)). AreRead (read_files files) rs) (sym s) (spreads.sound had.sound);
    only = λ k g. sym-among k (only-now k (ap (λ (rs : List (Option Read)). is_read_at rs k) (sym s) ∙ g));
    all = subst (λ (rs : List (Option Read)). list_all (is_read_at rs) (numbers_of (ms ++ m ∷ [])) ≡ true) (sym s)
        (ap (list_all (is_read_at now)) numbers-are ∙ all-snoc (is_read_at now) (numbers_of ms) i (all_more reads now spreads.kept (numbers_of ms) had.all)
        (is_read_now (read_files files) reads (numbers_of ms) i found.read lower not-read here));
  }
    where
      now : List (Option Read)
      now = slice_set reads i (Some found.read)

      lower : i < length reads
      lower = let h1 = had.long in omega (arith, h1)

      here : IsReadAt (read_files files) i found.read
      here = record { content = record_from f.0 (reading f.1); content_is = record_listed files i f file-is; read = h.3 }

      spreads : Spreads (read_files files) reads (numbers_of ms) now (numbers_of ms ++ i ∷ [])
      spreads = reads_one (read_files files) reads (numbers_of ms) i found.read lower not-read here

      string : compatible_at files m.file ≡ Some m.compatible
      string = ap (compatible_at files) e ∙ (compatible-listed files i f file-is ∙ (h.2 ∙ ap Some (sym c)))

      numbers-are : numbers_of (ms ++ m ∷ []) ≡ numbers_of ms ++ i ∷ []
      numbers-are = numbers-snoc ms m ∙ ap (λ k. numbers_of ms ++ k ∷ []) e

      sym-among : (k : ℕ) → is_among (numbers_of ms ++ i ∷ []) k ≡ true → is_among (numbers_of (ms ++ m ∷ [])) k ≡ true
      sym-among k g = ap (λ ks. is_among ks k) numbers-are ∙ g

      only-now : (k : ℕ) → is_read_at now k ≡ true → is_among (numbers_of ms ++ i ∷ []) k ≡ true
      only-now k g = cases (spreads.fresh k g)
        where
          cases : (is_read_at reads k ≡ true) ⊎ (is_among (numbers_of ms ++ i ∷ []) k ≡ true) → is_among (numbers_of ms ++ i ∷ []) k ≡ true
          cases (inl w) = spreads.stays k (had.only k w)
          cases (inr w) = w

-- ---- what step one makes of a file

module _ (compats : List (List ℕ)) (f : File) where
  pub match_unread : is_read compats f ≡ false → IsMatched compats f (Ok None)
  match_unread e = (
    ap (λ b. if b then text_fault_in f (reading f.1) else None) e,
    ap (λ b. b && option_map_or (λ c. list_any (λ s. bytes_eq s c) compats) (compatible_in (reading f.1)) false) e,
  )

  text-fine : (v : Value) → is_read compats f ≡ true → reading f.1 ≡ Ok v → text_fault compats f ≡ None
  text-fine v e r = ap (λ b. if b then text_fault_in f (reading f.1) else None) e ∙ ap (text_fault_in f) r

  matching-by : (v : Value) (o : Option (List ℕ)) → is_read compats f ≡ true → reading f.1 ≡ Ok v → compatible_in (Ok v) ≡ o
      → is_matching compats f ≡ option_map_or (λ c. list_any (λ s. bytes_eq s c) compats) o false
  matching-by v o e r c =
      ap (λ b. b && option_map_or (λ x. list_any (λ s. bytes_eq s x) compats) (compatible_in (reading f.1)) false) e
      ∙ ap (λ x. option_map_or (λ y. list_any (λ s. bytes_eq s y) compats) x false) (ap compatible_in r ∙ c)

  pub match_without : (v : Value) → is_read compats f ≡ true → reading f.1 ≡ Ok v → None ≡ compatible_in (Ok v) → IsMatched compats f (Ok None)
  match_without v e r c = (text-fine v e r, matching-by v None e r (sym c))

  pub match_other : (v : Value) (text : List ℕ) → is_read compats f ≡ true → reading f.1 ≡ Ok v → Some text ≡ compatible_in (Ok v)
      → list_any (λ s. bytes_eq s text) compats ≡ false → IsMatched compats f (Ok None)
  match_other v text e r c n = (text-fine v e r, matching-by v (Some text) e r (sym c) ∙ n)

  pub match_found : (v : Value) (text : List ℕ) (found : Found) → is_read compats f ≡ true → reading f.1 ≡ Ok v → Some text ≡ compatible_in (Ok v)
      → list_any (λ s. bytes_eq s text) compats ≡ true → found.compatible ≡ text → IsReadOf found.read (record_from f.0 (reading f.1))
      → IsMatched compats f (Ok (Some found))
  match_found v text found e r c n t read =
      (text-fine v e r, matching-by v (Some text) e r (sym c) ∙ n, ap compatible_in r ∙ (sym c ∙ ap Some (sym t)), read)
