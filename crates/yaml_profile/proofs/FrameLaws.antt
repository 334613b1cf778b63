-- What the reader's memory holds, and what its values are.
use Rattle.std.proofs.Common.{◌≡◌, ℕ, List, [], ◌∷◌, ◌++◌, map, reverse, length, refl, ap, ◌∙◌}
use Rattle.std.proofs.lemmas.List.{reverse-append, length-map, length-reverse}
use Rattle.yaml_profile.specs.declared.front.Frame.{Frame as Open}
use Rattle.yaml_profile.specs.Inner.Shown.{frame_of, frames_of}
use Rattle.std.specs.List.{zip}
use Rattle.edt_base.specs.declared.yaml.Yaml.{Yaml}
use Rattle.edt_base.specs.YamlData.{pair, pairs_from, value_of, pair_of}
use Rattle.yaml_profile.specs.Fronts.{pairs_of}

pub pairs_zip : (ks : List (List ℕ)) (vs : List Yaml) → pairs_from (map pair_of (zip ks vs)) ≡ pairs_of ks (map value_of vs)
pairs_zip [] vs = refl
pairs_zip (k ∷ ks) [] = refl
pairs_zip (k ∷ ks) (v ∷ vs) = ap (λ ps. pair k (value_of v) ps) (pairs_zip ks vs)

pub map_push : {A B : Type 0} (f : A → B) (xs : List A) (x : A) → map f (xs ++ x ∷ []) ≡ map f xs ++ f x ∷ []
map_push f [] x = refl
map_push f (y ∷ ys) x = ap (λ zs. f y ∷ zs) (map_push f ys x)

pub frames_push : (xs : List Open) (x : Open) → frames_of (xs ++ x ∷ []) ≡ frame_of x ∷ frames_of xs
frames_push xs x = ap (λ ys. map frame_of ys) (reverse-append xs (x ∷ []))

pub length_frames : (xs : List Open) → length (frames_of xs) ≡ length xs
length_frames xs = length-map (reverse xs) frame_of ∙ length-reverse xs
