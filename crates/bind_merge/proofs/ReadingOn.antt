-- Reading one file more, and those that it includes.
use Rattle.std.proofs.Common.{◌≡◌, ◌∙◌, sym, ap, subst, refl, ℕ, ◌+◌, ◌<◌, ◌++◌, true, false, List, [], ◌∷◌, length, get_or, take, Option, Some, None, is_some, arith}
use Rattle.std.specs.List.{list_all, slice_get, slice_set}
use Rattle.std.proofs.lemmas.Option.{slice_get_read}
use Rattle.yaml_profile.specs.Reading.{reading}
use Rattle.bind_merge.specs.Files.{FileData}
use Rattle.bind_merge.specs.Listing.{File, read_files, record_from}
use Rattle.bind_merge.specs.declared.reading.Read.{Read}
use Rattle.bind_merge.specs.Inner.Reading.{IsReadAt, IsReadOf, is_read_at}
use Rattle.bind_merge.specs.Inner.Spreading.{Spreads}
use Rattle.bind_merge.proofs.Matched.{all-snoc, record_listed}
use Rattle.bind_merge.proofs.Places.{at_take}
use Rattle.bind_merge.proofs.Spreading.{all_more, is_read_now, reads_one}

no-some : {X : Type 0} (x : Option X) → is_some x ≡ false → x ≡ None
no-some None e = refl
no-some (Some y) e = absurd cc

module _ (files : List File) (reads : List (Option Read)) (left : List ℕ) (file j : ℕ) (x : Option Read) (f : File) (r : Read)
    (e : j ≡ file) (l : file < length files) (n : length reads ≡ length files) (at-x : x ≡ get_or reads j x) (s : is_some x ≡ false)
    (at-f : f ≡ get_or files j f) (is : IsReadOf r (record_from f.0 (reading f.1))) where
  listed : j < length files
  listed = subst (λ k. k < length files) (sym e) l

  lower : j < length reads
  lower = let h = listed in omega (arith, h, n)

  none : slice_get reads j ≡ Some None
  none = slice_get_read reads (length reads) j x refl lower at-x ∙ ap Some (no-some x s)

  here : IsReadAt (read_files files) j r
  here = record {
    content = record_from f.0 (reading f.1);
    content_is = record_listed files j f (slice_get_read files (length files) j f refl listed at-f);
    read = is;
  }

  pub spreads_one : (more : List ℕ) → more ≡ left ++ file ∷ [] → Spreads (read_files files) reads left (slice_set reads j (Some r)) more
  spreads_one more m =
      subst (λ ks. Spreads (read_files files) reads left (slice_set reads j (Some r)) ks) (sym (m ∙ ap (λ k. left ++ k ∷ []) (sym e)))
      (reads_one (read_files files) reads left j r lower none here)

  pub reads_now : is_read_at (slice_set reads j (Some r)) file ≡ true
  reads_now = subst (λ k. is_read_at (slice_set reads j (Some r)) k ≡ true) e (is_read_now (read_files files) reads left j r lower none here)

pub all_next : (files : List FileData) (reads more : List (Option Read)) (left todo ks : List ℕ) (i k : ℕ) → i < length ks → get_or ks i k ≡ k
    → Spreads files reads left more todo → list_all (is_read_at reads) (take i ks) ≡ true → is_read_at more k ≡ true → list_all (is_read_at more) (take (i + 1) ks) ≡ true
all_next files reads more left todo ks i k l e s a r =
    ap (list_all (is_read_at more)) (at_take ks i k l e) ∙ all-snoc (is_read_at more) (take i ks) k (all_more reads more s.kept (take i ks) a) r
