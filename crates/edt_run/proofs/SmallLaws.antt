-- Small sources and reading: what is small is read, what is read is small, and a source has at most one tree.
use Rattle.std.proofs.Common.{◌≡◌, ℕ, List, ◌∷◌, Option, Some, None, map, sym, ap, ◌∙◌}
use Rattle.std.proofs.Common.{Bool, true, false, if◌then◌else◌, Result, Ok, Err, IfOk, IfSome, IfNone, option_map}
use Rattle.edt_run.specs.Forest.{Forest}
use Rattle.edt_run.specs.Small.{Token, Version, Slash, Open, Semicolon, source_tokens, IsSmall}
use Rattle.edt_run.specs.Reading.{tree_of, tokens_of, reading}
use Rattle.edt_run.proofs.NestingLaws.{IsTreeOf, over_source, sound_start}
use Rattle.edt_run.proofs.TokenLaws.{over_spelled, separate_source, spelled}

pub complete : (bytes : List ℕ) (f : Forest) → IsSmall bytes f → reading bytes ≡ Some f
complete bytes f h = ap tree_of (over_spelled (source_tokens f) bytes (separate_source f) h.spelled) ∙ over_source f h.shallow h.few h.apart h.apart_below

-- the tokens that lead to a tree are those of a source
pub record IsSourceOf (f : Forest) (ts : List (Option Token)) : Type 0 where
  pub tokens : ts ≡ map Some (source_tokens f)
  pub rest : List (Option Token)
  pub tree : IsTreeOf f rest

pub source_of : (ts : List (Option Token)) (f : Forest) → tree_of ts ≡ Some f → IsSourceOf f ts
source_of (Some Version ∷ Some Semicolon ∷ Some Slash ∷ Some Open ∷ ts) f e =
    let t : IsTreeOf f ts = sound_start ts f e in
    record {
      tokens = ap (λ xs. Some Version ∷ Some Semicolon ∷ Some Slash ∷ Some Open ∷ xs) (sym t.tokens);
      rest = ts;
      tree = t;
    }
source_of _ f e = cc

pub sound : (bytes : List ℕ) (f : Forest) → reading bytes ≡ Some f → IsSmall bytes f
sound bytes f e =
    let s : IsSourceOf f (tokens_of bytes) = source_of (tokens_of bytes) f e in
    record {
      spelled = spelled bytes 0 (source_tokens f) s.tokens;
      apart = s.tree.apart;
      apart_below = s.tree.apart_below;
      shallow = s.tree.shallow;
      few = s.tree.few;
    }

pub one_tree : (bytes : List ℕ) (f g : Forest) → IsSmall bytes f → IsSmall bytes g → f ≡ g
one_tree bytes f g h k = let a : Some f ≡ Some g = sym (complete bytes f h) ∙ complete bytes g k in cc

-- ---- what the reading call says by the relation

pub begun : (bytes read : List ℕ) (t : Option Forest) (b : Bool) → read ≡ bytes → reading read ≡ (if b then t else None) → b ≡ true → t ≡ reading bytes
begun bytes read t true e h q = sym h ∙ ap reading e
begun bytes read t false e h q = cc

pub not_begun : (bytes read : List ℕ) (t : Option Forest) (b : Bool) → read ≡ bytes → reading read ≡ (if b then t else None) → b ≡ false
    → (f : Forest) → IsSmall bytes f → ⊥
not_begun bytes read t true e h q f s = cc
not_begun bytes read t false e h q f s = let r : reading bytes ≡ Some f = complete bytes f s in let n : reading bytes ≡ None = sym (ap reading e) ∙ h in cc

pub found_in : {X E : Type 0} (view : X → Forest) (bytes : List ℕ) (t : Option Forest) (r : Result (Option X) E)
    → IfOk r (λ o. option_map view o ≡ t) → t ≡ reading bytes → IfOk r (λ o. IfSome o (λ x. IsSmall bytes (view x)))
found_in view bytes t (Ok (Some x)) e q = sound bytes (view x) (sym (e ∙ q))
found_in view bytes t (Ok None) e q = tt
found_in view bytes t (Err x) e q = tt

pub none_in : {X E : Type 0} (view : X → Forest) (bytes : List ℕ) (t : Option Forest) (r : Result (Option X) E)
    → IfOk r (λ o. option_map view o ≡ t) → t ≡ reading bytes → IfOk r (λ o. IfNone o ((f : Forest) → IsSmall bytes f → ⊥))
none_in view bytes t (Ok (Some x)) e q = tt
none_in view bytes t (Ok None) e q = λ f s. let r : reading bytes ≡ Some f = complete bytes f s in let n : None ≡ reading bytes = e ∙ q in cc
none_in view bytes t (Err x) e q = tt
