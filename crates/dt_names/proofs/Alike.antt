-- Names that are spelled alike have the same four texts, and the four texts make the spelling.
use Rattle.std.proofs.Common.{◌≡◌, ℕ, List, [], ◌++◌, refl, sym, ap, ◌∙◌, inl, inr, take, drop, if◌then◌else◌}
use Rattle.std.specs.List.{Contains}
use Rattle.std.proofs.lemmas.Bool.{cases_Bool}
use Rattle.std.proofs.lemmas.List.{take-append-drop}
use Rattle.edt_base.specs.BoundData.{BoundData}
use Rattle.dt_names.specs.Facts.{FactData, facts, full_name}
use Rattle.dt_names.specs.Inner.Alike.{NamesHaveTexts}
use Rattle.dt_names.specs.Inner.Keys.{NameTexts, texts_of, behind_prop, is_of_prop}
use Rattle.dt_names.specs.Pieces.{PieceData, spells}
use Rattle.dt_names.proofs.Cut.{parts_texts}
use Rattle.dt_names.proofs.Lengths.{spells-append, none_spelled}
use Rattle.dt_names.proofs.Spelling.{told}
use Rattle.dt_names.proofs.Told.{is_cut}

-- a definition's texts are read from its name's spelling
texts_told : (b : BoundData) (f : FactData) → Contains (facts b) f → parts_texts (told (spells (full_name f))) ≡ texts_of f
texts_told b f h = let c = is_cut b f h in ap parts_texts c.0 ∙ c.1

told_between : (b c : BoundData) (f g : FactData) → Contains (facts b) f → Contains (facts c) g → spells (full_name f) ≡ spells (full_name g) → texts_of f ≡ texts_of g
told_between b c f g p q e = sym (texts_told b f p) ∙ ap (λ t. parts_texts (told t)) e ∙ texts_told c g q

pub parts_told : (b : BoundData) (f g : FactData) → Contains (facts b) f → Contains (facts b) g → spells (full_name f) ≡ spells (full_name g) → texts_of f ≡ texts_of g
parts_told b f g p q e = told_between b b f g p q e

-- what stands behind a property is what tells an entry and the others
behind_spelled : (rest : List PieceData) → spells (take 2 rest) ++ spells (drop 2 rest) ≡ spells rest
behind_spelled rest = sym (spells-append (take 2 rest) (drop 2 rest)) ∙ ap spells (take-append-drop 2 rest)

-- what stands behind an id is the property's text and the others
prop_spelled : (rest : List PieceData) → spells (if is_of_prop rest then take 2 rest else []) ++ spells (behind_prop rest) ≡ spells rest
prop_spelled rest = elim (cases_Bool (is_of_prop rest)) [
  | inl e ↦ rw e (behind_spelled rest)
  | inr e ↦ rw (e, none_spelled) refl
]

rest_spelled : (rest : List PieceData)
    → spells (if is_of_prop rest then take 2 rest else []) ++ (spells (take 2 (behind_prop rest)) ++ spells (drop 2 (behind_prop rest))) ≡ spells rest
rest_spelled rest = ap (λ t. spells (if is_of_prop rest then take 2 rest else []) ++ t) (behind_spelled (behind_prop rest)) ∙ prop_spelled rest

-- a name's texts make its spelling
abbrev text_of : NameTexts → List ℕ
text_of t = t.base ++ (t.prop ++ (t.entry ++ t.last))

texts_spelled : (f : FactData) → spells (full_name f) ≡ text_of (texts_of f)
texts_spelled f = spells-append f.base f.rest ∙ ap (λ t. spells f.base ++ t) (sym (rest_spelled f.rest))

pub texts_spell : (f g : FactData) → texts_of f ≡ texts_of g → spells (full_name f) ≡ spells (full_name g)
texts_spell f g e = texts_spelled f ∙ ap text_of e ∙ sym (texts_spelled g)

pub names_have_texts : NamesHaveTexts
names_have_texts b c f g p q = (told_between b c f g p q, texts_spell f g)
