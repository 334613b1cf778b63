-- What reading a file and loading its value answer, as one.
use Rattle.std.proofs.Common.{◌≡◌, ◌∙◌, sym, ap, subst, refl, ℕ, List, map, Option, Some, None, Result, Ok, Err}
use Rattle.edt_base.specs.YamlData.{Value, value_of}
use Rattle.edt_base.specs.declared.fault.End.{End}
use Rattle.edt_base.specs.declared.fault.End.TheVariants as ending
use Rattle.edt_base.specs.declared.fault.Fault.{Fault}
use Rattle.edt_base.specs.declared.fault.Place.{Place}
use Rattle.edt_base.specs.declared.fault.Place.TheVariants as place
use Rattle.edt_base.specs.declared.fault.Rule.{Rule}
use Rattle.edt_base.specs.declared.yaml.Yaml.{Yaml}
use Rattle.yaml_profile.specs.Reads.{IsAt, IsFault, Reads}
use Rattle.yaml_profile.specs.declared.stop.Broken.{Broken}
use Rattle.bind_load.specs.Loaded.{IsLoaded}
use Rattle.bind_load.specs.RecordData.{LevelData}
use Rattle.bind_load.specs.RecordOf.{record_in}
use Rattle.bind_load.specs.RecordSeen.{record_of}
use Rattle.bind_load.specs.Rules.{broken_rule}
use Rattle.bind_load.specs.declared.record.BindingRec.{BindingRec}
use Rattle.bind_merge.specs.Files.{file_fault}
use Rattle.bind_merge.specs.Levels.{OwnData, own_level}
use Rattle.bind_merge.specs.Listing.{byte_fault, record_from, record_or}
use Rattle.bind_merge.specs.declared.reading.Read.{Read}
use Rattle.bind_merge.specs.Inner.Reading.{IsReadOf}

fault-parts : (f : Fault) (rule : Rule) (p : Place) → f.rule ≡ rule → f.place ≡ p → record { rule = rule; place = p } ≡ f
fault-parts f rule p e g = λ i. record { rule = sym e i; place = sym g i }

place-is : (name : List ℕ) (p : Place) (at : ℕ) → IsAt name p at → p ≡ place.Byte name at
place-is name (place.Byte n byte) at h = λ i. place.Byte (h.0 i) (h.1 i)
place-is name (place.Line n l) at h = absurd h
place-is name (place.File n) at h = absurd h
place-is name (place.Node n) at h = absurd h

byte-is : (name : List ℕ) (f : Fault) (b : Broken) → IsFault name f b → byte_fault b name ≡ f
byte-is name f b h = fault-parts f b.rule (place.Byte name b.at) h.0 (place-is name f.place b.at h.1)

-- a file that isn't read as text
pub read-bad : (name : List ℕ) (stated : Result Value Broken) (end : End) (f : Fault) → Reads name (Err end) stated
    → end ≡ ending.Fault f → record_from name stated ≡ Err f
read-bad name stated end f h e =
    let g : Reads name (Err (ending.Fault f)) stated = subst (λ (x : End). Reads name (Err x) stated) e h in
    ap (record_from name) g.1 ∙ ap (λ (x : Fault). Err x) (byte-is name f g.0 g.2)

-- a file that is read as text, and its value's record
pub read-good : (name : List ℕ) (stated : Result Value Broken) (y : Yaml) (r : Read) → Reads name (Ok y) stated
    → IsReadOf r (record_or name (value_of y) (broken_rule (value_of y))) → IsReadOf r (record_from name stated)
read-good name stated y r h g = subst (λ x. IsReadOf r (record_from name x)) (sym h) g

pub load-bad : (name : List ℕ) (v : Value) (end : End) (f : Fault) → IsLoaded name v (Err end) → end ≡ ending.Fault f
    → record_or name v (broken_rule v) ≡ Err f
load-bad name v end f h e =
    let g : IsLoaded name v (Err (ending.Fault f)) = subst (λ (x : End). IsLoaded name v (Err x)) e h in
    ap (record_or name v) g.0 ∙ ap (λ (x : Fault). Err x) (fault-parts f f.rule (place.File name) refl g.1)

-- the levels of a value's record
pub load-good : (name : List ℕ) (v : Value) (rec : BindingRec) (own : List OwnData) → IsLoaded name v (Ok rec)
    → own ≡ map own_level (record_of rec)
    → (ls : List LevelData) × (record_or name v (broken_rule v) ≡ Ok ls) × (map own_level ls ≡ own)
load-good name v rec own h e = (record_in v, ap (record_or name v) h.0, sym (e ∙ ap (map own_level) h.1))
