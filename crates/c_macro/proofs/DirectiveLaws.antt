-- Ends of bodies.
use Rattle.std.proofs.Common.{◌≡◌, List, [], ◌∷◌, ◌++◌, refl, codes, ap, ◌∙◌, sym}
use Rattle.c_tokens.specs.declared.tok.Tok.{Tok}
use Rattle.c_macro.specs.Directive.{ends_join, is_punct}

last_joins : (front : List Tok) (t : Tok) → ends_join (front ++ t ∷ []) ≡ is_punct (codes "##") t
last_joins [] t = refl
last_joins (u ∷ []) t = refl
last_joins (u ∷ v ∷ front) t = last_joins (v ∷ front) t

pub ends_with_last : (body front : List Tok) (t : Tok) → body ≡ front ++ t ∷ [] → is_punct (codes "##") t ≡ ends_join body
ends_with_last body front t e = sym (ap ends_join e ∙ last_joins front t)
