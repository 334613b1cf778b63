-- The files of a base name, with one file more.
use Rattle.std.proofs.Common.{◌≡◌, ℕ, suc, ◌+◌, Bool, true, false, cond, if◌then◌else◌, List, [], ◌∷◌, ◌++◌, ◌<◌, length, map, get_or, take, subst, refl, sym, ap, ◌∙◌, arith, Option, Some, None}
use Rattle.std.specs.Str.{bytes_eq}
use Rattle.std.proofs.lemmas.Slice.Eq.{bytes_eq-Decides}
use Rattle.std.proofs.lemmas.List.{map_more, length-take-le}
use Rattle.bind_merge.specs.Files.{FileData, base_name, named_from, named_files}
use Rattle.bind_merge.specs.Listing.{File, file_data, read_files}
use Rattle.std.specs.Map.{lookup}
use Rattle.std.specs.Ordering.{is_eq, nat_cmp}
use Rattle.std.specs.Cmp.Lexicographic.{slice_cmp}
use Rattle.std.proofs.lemmas.Map.Text.{is_eq-slice_cmp}
use Rattle.bind_merge.specs.Inner.Naming.{HasMore, one_more}
use Rattle.bind_merge.specs.Inner.Resolving.{NameData, AreNames, named_in, told}
use Rattle.bind_merge.specs.declared.names.Named.TheVariants.{One, Several}

abbrev with_last : Bool → List ℕ → ℕ → List ℕ
with_last true ks k = ks ++ k ∷ []
with_last false ks k = ks

with-cons : (b : Bool) (x : ℕ) (ks : List ℕ) (k : ℕ) → x ∷ with_last b ks k ≡ with_last b (x ∷ ks) k
with-cons true x ks k = refl
with-cons false x ks k = refl

named-end : (k n : ℕ) (f : FileData) (name : List ℕ) → n ≡ k → named_from k (f ∷ []) name ≡ with_last (bytes_eq (base_name f.name) name) [] n
named-end k n f name e = at (bytes_eq (base_name f.name) name)
  where
    at : (b : Bool) → (if b then k ∷ [] else []) ≡ with_last b [] n
    at true = ap (λ m. m ∷ []) (sym e)
    at false = refl

named-snoc : (k : ℕ) (fs : List FileData) (f : FileData) (name : List ℕ) (n : ℕ) → n ≡ k + length fs
    → named_from k (fs ++ f ∷ []) name ≡ with_last (bytes_eq (base_name f.name) name) (named_from k fs name) n
named-snoc k [] f name n e = named-end k n f name (e ∙ omega arith)
named-snoc k (g ∷ gs) f name n e = at (bytes_eq (base_name g.name) name) (named-snoc (k + 1) gs f name n (e ∙ omega arith))
  where
    at : (b : Bool) → named_from (k + 1) (gs ++ f ∷ []) name ≡ with_last (bytes_eq (base_name f.name) name) (named_from (k + 1) gs name) n
        → (if b then k ∷ named_from (k + 1) (gs ++ f ∷ []) name else named_from (k + 1) (gs ++ f ∷ []) name)
        ≡ with_last (bytes_eq (base_name f.name) name) (if b then k ∷ named_from (k + 1) gs name else named_from (k + 1) gs name) n
    at true below = ap (λ t. k ∷ t) below ∙ with-cons (bytes_eq (base_name f.name) name) k (named_from (k + 1) gs name) n
    at false below = below

the-snoc : (ks : List ℕ) (n : ℕ) → told (ks ++ n ∷ []) ≡ Some (one_more (told ks) n)
the-snoc [] n = refl
the-snoc (k ∷ []) n = refl
the-snoc (k ∷ j ∷ ks) n = refl

-- the names of the files with one file more
pub names-more : (names more : NameData) (fs : List FileData) (f : FileData) (n : ℕ) → n ≡ length fs → AreNames fs names
    → HasMore names (base_name f.name) n more
    → AreNames (fs ++ f ∷ []) more
names-more names more fs f n e h u name = u name ∙ at (bytes_eq (base_name f.name) name) refl
  where
    whole : named_files (fs ++ f ∷ []) name ≡ with_last (bytes_eq (base_name f.name) name) (named_files fs name) n
    whole = named-snoc 0 fs f name n (e ∙ omega arith)

    at : (b : Bool) → bytes_eq (base_name f.name) name ≡ b
        → (if b then Some (one_more (named_in names (base_name f.name)) n) else named_in names name) ≡ told (named_files (fs ++ f ∷ []) name)
    at true s =
        let q : base_name f.name ≡ name = (bytes_eq-Decides (base_name f.name) name).0 s in
        let g : named_in names (base_name f.name) ≡ told (named_files fs name) = ap (named_in names) q ∙ h name in
        ap (λ o. Some (one_more o n)) g ∙ (sym (the-snoc (named_files fs name) n) ∙ ap told (sym (whole ∙ ap (λ b. with_last b (named_files fs name) n) s)))
    at false s = h name ∙ ap told (sym (whole ∙ ap (λ b. with_last b (named_files fs name) n) s))

pub none-named : AreNames [] []
none-named base = refl

pub length-data : (fs : List File) → length (read_files fs) ≡ length fs
length-data [] = refl
length-data (f ∷ fs) = ap suc (length-data fs)

-- the same at a place in the list
pub names-step : (files : List File) (i : ℕ) (f : File) (names more : NameData) (base : List ℕ) → i < length files → get_or files i f ≡ f
    → AreNames (read_files (take i files)) names → base ≡ base_name f.0 → HasMore names base i more
    → AreNames (read_files (take (i + 1) files)) more
names-step files i f names more base l e h b u =
    let n : i ≡ length (read_files (take i files)) = sym (length-data (take i files) ∙ length-take-le i files (omega arith)) in
    let r : read_files (take (i + 1) files) ≡ read_files (take i files) ++ file_data f ∷ [] = map_more file_data files i f l ∙ ap (λ g. read_files (take i files) ++ file_data g ∷ []) e in
    subst (λ fs. AreNames fs more) (sym r)
    (names-more names more (read_files (take i files)) (file_data f) i n h (subst (λ t. HasMore names t i more) b u))

pub tree-get : {X : Type 0} (q : List ℕ) (es : List (List ℕ × X)) → lookup (λ k. is_eq (slice_cmp nat_cmp q k)) es ≡ lookup (bytes_eq q) es
tree-get q es = ap (λ (t : List ℕ → Bool). lookup t es) (λ i k. is_eq-slice_cmp q k i)

-- the entry of a name in an ordered table is set
pub tree-sets : {X : Type 0} (old new : List (List ℕ × X)) (name : List ℕ) (o : Option X)
    → ((q : List ℕ) → lookup (λ k. is_eq (slice_cmp nat_cmp q k)) new ≡ cond (is_eq (slice_cmp nat_cmp name q)) o (lookup (λ k. is_eq (slice_cmp nat_cmp q k)) old))
    → (q : List ℕ) → lookup (bytes_eq q) new ≡ cond (bytes_eq name q) o (lookup (bytes_eq q) old)
tree-sets old new name o h q =
    sym (tree-get q new) ∙ (h q ∙ (ap (λ b. cond b o (lookup (λ k. is_eq (slice_cmp nat_cmp q k)) old)) (is_eq-slice_cmp name q)
    ∙ ap (cond (bytes_eq name q) o) (tree-get q old)))
