-- Joins of words.
use Rattle.std.proofs.Common.{◌≡◌, ℕ, true, List, [], ◌∷◌, ◌++◌, Option, Some, option_map, refl, ap, ◌∙◌}
use Rattle.c_tokens.specs.declared.tok.TokKind.{TokKind}
use Rattle.c_tokens.specs.declared.tok.TokKind.TheVariants as kind
use Rattle.c_tokens.specs.Laws.{is_identifier}
use Rattle.c_tokens.proofs.WordLaws.{identifier_kind, longer}
use Rattle.c_macro.specs.Marked.{Marked}
use Rattle.c_macro.specs.Bodies.{Item, One, Glue, joined_tok, joined_on, joined_from, joined}
use Rattle.c_macro.specs.Laws.{glued, joined_words, AreWords, WordsAreJoined}

-- one side more
one_more : (a b : Marked) (is : List Item) → is_identifier (a.tok.spell ++ b.tok.spell) ≡ true → joined_from (One a) (Glue ∷ One b ∷ is) ≡ joined_from (One (joined_tok a b kind.Ident)) is
one_more a b is h = ap (λ (o : Option TokKind). joined_on (option_map (λ k. One (joined_tok a b k)) o) (λ l. joined_from l is)) (identifier_kind (a.tok.spell ++ b.tok.spell) h)

glue : (a : Marked) (bs : List Marked) → is_identifier a.tok.spell ≡ true → AreWords bs → joined_from (One a) (glued bs) ≡ Some (joined_words a bs ∷ [])
glue a [] h all = refl
glue a (b ∷ bs) h all =
    let w : is_identifier (a.tok.spell ++ b.tok.spell) ≡ true = longer a.tok.spell b.tok.spell h all.0 in
    one_more a b (glued bs) w ∙ glue (joined_tok a b kind.Ident) bs w all.1

pub words_are_joined : WordsAreJoined
words_are_joined a bs h all = glue a bs h all
