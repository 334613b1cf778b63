-- What a turn of the search for clashes keeps.
use Rattle.std.proofs.Common.{◌≡◌, ◌+◌, ◌++◌, ℕ, List, [], ◌∷◌, length, sym, ap, subst, ◌∙◌}
use Rattle.edt_base.specs.BoundData.{BoundData}
use Rattle.dt_names.specs.Clash.{SaidData, said, same_said, IsClash}
use Rattle.dt_names.specs.Facts.{FactData, facts}
use Rattle.dt_names.specs.Inner.Firsts.{HasMet}
use Rattle.dt_names.specs.Inner.Kept.{LabelsData, IsLabelled}
use Rattle.dt_names.specs.Inner.Scanned.{IsScanned}
use Rattle.dt_names.specs.declared.firsts.Met.TheVariants as met
use Rattle.dt_names.specs.declared.key.Key.{Key}
use Rattle.dt_names.proofs.Alike.{parts_told, texts_spell}
use Rattle.dt_names.proofs.Scan.{AreNames, scan_begins, scan_grows, scan_new, scan_again, scan_clashes}

names : (b : BoundData) → AreNames (facts b)
names b = (parts_told b, texts_spell)

pub search_begins : (b : BoundData) (left : List FactData) (texts : List (List ℕ)) (keys : List Key) (held : List SaidData) (ds : List ℕ)
    → left ≡ facts b → keys ≡ [] → held ≡ [] → ds ≡ [] → IsScanned (facts b) left texts keys held ds
search_begins b left texts keys held ds e k h d = rw e (rw k (rw h (rw d (scan_begins (facts b) texts))))

-- the next definition stands before those that are left
next_scanned : (fs : List FactData) (old new : LabelsData) (f : FactData) (k : Key) (keys : List Key) (held : List SaidData) (ds : List ℕ)
    → IsLabelled old new f k → IsScanned fs old.left old.texts keys held ds → IsScanned fs (f ∷ new.left) new.texts keys held ds
next_scanned fs old new f k keys held ds l s =
    scan_grows fs (f ∷ new.left) old.texts new.texts keys held ds l.kept l.distinct (subst (λ (x : List FactData). IsScanned fs x old.texts keys held ds) l.first s)

pub search_new : (b : BoundData) (old new : LabelsData) (f : FactData) (k : Key) (keys new_keys : List Key) (held new_held : List SaidData) (ds : List ℕ) (p : SaidData)
    → p ≡ said f → IsLabelled old new f k → HasMet keys new_keys held new_held k p met.New → IsScanned (facts b) old.left old.texts keys held ds
    → IsScanned (facts b) new.left new.texts new_keys new_held ds
search_new b old new f k keys new_keys held new_held ds p e l m s =
    let t = scan_new (facts b) new.left f new.texts keys held ds k (names b) l.distinct l.tells m.0 (next_scanned (facts b) old new f k keys held ds l s) in
    let here : new_held ≡ held ++ said f ∷ [] = m.2 ∙ ap (λ (x : SaidData). held ++ x ∷ []) e in
    subst (λ (x : List SaidData). IsScanned (facts b) new.left new.texts new_keys x ds) (sym here)
    (subst (λ (x : List Key). IsScanned (facts b) new.left new.texts x (held ++ said f ∷ []) ds) (sym m.1) t)

pub search_same : (b : BoundData) (old new : LabelsData) (f : FactData) (k : Key) (keys new_keys : List Key) (held new_held : List SaidData) (ds new_ds : List ℕ) (p : SaidData) (place : ℕ)
    → p ≡ said f → IsLabelled old new f k → HasMet keys new_keys held new_held k p met.Same → place ≡ length new_held + length ds → new_ds ≡ ds ++ place ∷ []
    → IsScanned (facts b) old.left old.texts keys held ds → IsScanned (facts b) new.left new.texts new_keys new_held new_ds
search_same b old new f k keys new_keys held new_held ds new_ds p place e l m at put s =
    let h = m.2 in
    let same = h.compared in
    let t = scan_again (facts b) new.left f new.texts keys held ds k (names b) l.distinct l.tells h.place h.first h.key_there h.first_there
    (ap (same_said h.first) (sym e) ∙ same) (next_scanned (facts b) old new f k keys held ds l s) in
    let count : place ≡ length keys + length ds = at ∙ ap (λ (x : List SaidData). length x + length ds) m.1 ∙ ap (λ (n : ℕ). n + length ds) s.held_each in
    let here : new_ds ≡ ds ++ (length keys + length ds) ∷ [] = put ∙ ap (λ (n : ℕ). ds ++ n ∷ []) count in
    subst (λ (x : List ℕ). IsScanned (facts b) new.left new.texts new_keys new_held x) (sym here)
    (subst (λ (x : List SaidData). IsScanned (facts b) new.left new.texts new_keys x (ds ++ (length keys + length ds) ∷ [])) (sym m.1)
    (subst (λ (x : List Key). IsScanned (facts b) new.left new.texts x held (ds ++ (length keys + length ds) ∷ [])) (sym m.0) t))

pub search_other : (b : BoundData) (old new : LabelsData) (f : FactData) (k : Key) (keys new_keys : List Key) (held new_held : List SaidData) (ds : List ℕ) (p : SaidData)
    → p ≡ said f → IsLabelled old new f k → HasMet keys new_keys held new_held k p met.Other → IsScanned (facts b) old.left old.texts keys held ds
    → IsClash (facts b) f.owner
search_other b old new f k keys new_keys held new_held ds p e l h s =
    scan_clashes (facts b) new.left f new.texts keys held ds k (names b) l.tells h.place h.first h.key_there h.first_there
    (ap (same_said h.first) (sym e) ∙ h.compared) (next_scanned (facts b) old new f k keys held ds l s)
