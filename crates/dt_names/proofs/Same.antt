-- Bodies that are spelled the same without being looked at.
use Rattle.std.proofs.Common.{◌≡◌, ℕ, List, [], ◌∷◌, ◌++◌, refl, sym, ap, ◌∙◌, codes, map}
use Rattle.std.specs.List.{flat_map}
use Rattle.edt_base.specs.Forms.{form_of}
use Rattle.dt_names.specs.Clash.{AreSame}
use Rattle.dt_names.specs.Facts.{id_pieces, elem_visit, visit, visits, visit_end, between}
use Rattle.dt_names.specs.Pieces.{PieceData, lit, form, num, spell, spells}
use Rattle.dt_names.specs.declared.piece.Params.{Params}
use Rattle.dt_names.proofs.Lengths.{spells-append}

same_behind : (a b c : List PieceData) → spells b ≡ spells c → spells (a ++ b) ≡ spells (a ++ c)
same_behind a b c e = spells-append a b ∙ ap (λ (x : List ℕ). spells a ++ x) e ∙ sym (spells-append a c)

same_before : (a b c : List PieceData) → spells a ≡ spells b → spells (a ++ c) ≡ spells (b ++ c)
same_before a b c e = spells-append a c ∙ ap (λ (x : List ℕ). x ++ spells c) e ∙ sym (spells-append b c)

same_visit : (ps : Params) (t u : List PieceData) → spells t ≡ spells u → spells (visit ps t) ≡ spells (visit ps u)
same_visit ps t u e = same_behind (lit (codes "fn(") ∷ []) (t ++ lit (visit_end ps) ∷ []) (u ++ lit (visit_end ps) ∷ []) (same_before t u (lit (visit_end ps) ∷ []) e)

same_more : (ps : Params) (ts us : List (List PieceData)) → AreSame ts us
    → spells (flat_map (λ (u : List PieceData). lit (between ps) ∷ visit ps u) ts) ≡ spells (flat_map (λ (u : List PieceData). lit (between ps) ∷ visit ps u) us)
same_more ps [] [] h = refl
same_more ps [] (u ∷ us) h = absurd h
same_more ps (t ∷ ts) [] h = absurd h
same_more ps (t ∷ ts) (u ∷ us) h =
    let more = flat_map (λ (u : List PieceData). lit (between ps) ∷ visit ps u) in
    same_before (lit (between ps) ∷ visit ps t) (lit (between ps) ∷ visit ps u) (more ts) (same_behind (lit (between ps) ∷ []) (visit ps t) (visit ps u) (same_visit ps t u h.0))
    ∙ same_behind (lit (between ps) ∷ visit ps u) (more ts) (more us) (same_more ps ts us h.1)

pub same_visits : (ps : Params) (ts us : List (List PieceData)) → AreSame ts us → spells (visits ps ts) ≡ spells (visits ps us)
same_visits ps [] [] h = refl
same_visits ps [] (u ∷ us) h = absurd h
same_visits ps (t ∷ ts) [] h = absurd h
same_visits ps (t ∷ ts) (u ∷ us) h =
    let more = flat_map (λ (u : List PieceData). lit (between ps) ∷ visit ps u) in
    same_before (visit ps t) (visit ps u) (more ts) (same_visit ps t u h.0) ∙ same_behind (visit ps u) (more ts) (more us) (same_more ps ts us h.1)

same_name : (c n m : List ℕ) (ps : List PieceData) → form_of n ≡ form_of m → spells (lit c ∷ form n ∷ ps) ≡ spells (lit c ∷ form m ∷ ps)
unfolding spells
same_name c n m ps e = ap (λ (x : List ℕ). c ++ (x ++ flat_map spell ps)) e

pub same_elems : (path n m : List ℕ) → form_of n ≡ form_of m → (places : List ℕ) → AreSame (map (elem_visit path n) places) (map (elem_visit path m) places)
same_elems path n m e [] = tt
same_elems path n m e (i ∷ is) = (
  same_behind (id_pieces path) (lit (codes ", ") ∷ form n ∷ lit (codes ", ") ∷ num i ∷ []) (lit (codes ", ") ∷ form m ∷ lit (codes ", ") ∷ num i ∷ [])
      (same_name (codes ", ") n m (lit (codes ", ") ∷ num i ∷ []) e),
  same_elems path n m e is,
)
