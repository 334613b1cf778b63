-- Reading gives the value of the relation, and its first broken rule.
use Rattle.std.proofs.Common.{◌≡◌, ℕ, ◌+◌, List, [], ◌∷◌, ◌++◌, Result, Ok, Err, refl, sym, ap, subst, ◌∙◌, append-nil}
use Rattle.std.specs.Char.{len_utf8}
use Rattle.edt_base.specs.declared.fault.End.{End}
use Rattle.edt_base.specs.declared.fault.End.TheVariants as ending
use Rattle.edt_base.specs.declared.yaml.Yaml.{Yaml}
use Rattle.edt_base.specs.YamlData.{Value, value_of}
use Rattle.yaml_profile.specs.declared.stop.Broken.{Broken}
use Rattle.yaml_profile.specs.Answers.{◌>>=◌}
use Rattle.yaml_profile.specs.Fronts.{Front}
use Rattle.yaml_profile.specs.Reading.{at_start, step, walk, characters, reading}
use Rattle.yaml_profile.specs.Reads.{Reads}
use Rattle.std.specs.Str.{encode_utf8_all}
use Rattle.yaml_profile.specs.Written.{spell_file, IsSpelled}
use Rattle.yaml_profile.proofs.ReadBytes.{spelled_by_a_tree}
use Rattle.yaml_profile.proofs.WrittenBytes.{written_is_read}
use Rattle.yaml_profile.specs.Yaml.{place_behind, Takes, at_end, IsYaml, Stops, IsFirst, IfValue, IfFault, IsFirstFault}

not_both : {A : Type 0} (r : Result A Broken) (x : A) (b : Broken) → r ≡ Ok x → r ≡ Err b → ⊥
not_both r x b p q = let e : Ok x ≡ Err b = sym p ∙ q in cc

ok_same : {A : Type 0} (r : Result A Broken) (x y : A) → r ≡ Ok x → r ≡ Ok y → x ≡ y
ok_same r x y p q = let e : Ok x ≡ Ok y = sym p ∙ q in cc

-- ---- walking and taking

one_step : (r : Result Front Broken) (go : Front → Result Front Broken) (h : Front) → r ≡ Ok h → (r >>= go) ≡ go h
one_step r go h e = rw e refl

pub takes_walk : (read : List ℕ) (f g : Front) (at : ℕ) (rest : List ℕ) → Takes f at read rest g → walk f at (read ++ rest) ≡ walk g (place_behind at read) rest
unfolding walk
takes_walk [] f g at rest t = ap (λ (x : Front). walk x at rest) t
takes_walk (c ∷ cs) f g at rest (h, e, t) =
    one_step (step f at c (cs ++ rest)) (λ x. walk x (at + len_utf8 c) (cs ++ rest)) h e ∙ takes_walk cs h g (at + len_utf8 c) rest t

-- a walk that goes well, and one that stops
pub record Taken (f : Front) (at : ℕ) (cs : List ℕ) (g : Front) : Type 0 where
  pub takes : Takes f at cs [] g

pub record Stopped (f : Front) (at : ℕ) (cs : List ℕ) (b : Broken) : Type 0 where
  pub read : List ℕ
  pub c : ℕ
  pub rest : List ℕ
  pub front : Front
  pub parts : cs ≡ read ++ c ∷ rest
  pub takes : Takes f at read (c ∷ rest) front
  pub stops : step front (place_behind at read) c rest ≡ Err b

taken_by : (r : Result Front Broken) (cs : List ℕ) (f g : Front) (at c : ℕ) → ((h : Front) → walk h (at + len_utf8 c) cs ≡ Ok g → Taken h (at + len_utf8 c) cs g)
    → step f at c cs ≡ r → (r >>= λ h. walk h (at + len_utf8 c) cs) ≡ Ok g → Taken f at (c ∷ cs) g
taken_by (Ok h) cs f g at c later s e =
    let t : Taken h (at + len_utf8 c) cs g = later h e in
    record { takes = (h, ap (λ zs. step f at c zs) (append-nil cs) ∙ s, t.takes) }
taken_by (Err b) cs f g at c later s e = absurd (let q : Err b ≡ Ok g = e in cc)

pub walk_taken : (cs : List ℕ) (f g : Front) (at : ℕ) → walk f at cs ≡ Ok g → Taken f at cs g
unfolding walk
walk_taken [] f g at e = record { takes = let q : Ok f ≡ Ok g = e in cc }
walk_taken (c ∷ cs) f g at e = taken_by (step f at c cs) cs f g at c (λ h q. walk_taken cs h g (at + len_utf8 c) q) refl e

stopped_by : (r : Result Front Broken) (cs : List ℕ) (f : Front) (b : Broken) (at c : ℕ) → ((h : Front) → walk h (at + len_utf8 c) cs ≡ Err b → Stopped h (at + len_utf8 c) cs b)
    → step f at c cs ≡ r → (r >>= λ h. walk h (at + len_utf8 c) cs) ≡ Err b → Stopped f at (c ∷ cs) b
stopped_by (Ok h) cs f b at c later s e =
    let t : Stopped h (at + len_utf8 c) cs b = later h e in
    record {
      read = c ∷ t.read;
      c = t.c;
      rest = t.rest;
      front = t.front;
      parts = ap (λ zs. c ∷ zs) t.parts;
      takes = (h, ap (λ zs. step f at c zs) (sym t.parts) ∙ s, t.takes);
      stops = t.stops;
    }
stopped_by (Err d) cs f b at c later s e = record { read = []; c = c; rest = cs; front = f; parts = refl; takes = refl; stops = s ∙ e }

pub walk_stopped : (cs : List ℕ) (f : Front) (b : Broken) (at : ℕ) → walk f at cs ≡ Err b → Stopped f at cs b
unfolding walk
walk_stopped [] f b at e = absurd (let q : Ok f ≡ Err b = e in cc)
walk_stopped (c ∷ cs) f b at e = stopped_by (step f at c cs) cs f b at c (λ h q. walk_stopped cs h b (at + len_utf8 c) q) refl e

-- ---- reading

ended_by : (r : Result Front Broken) (bytes : List ℕ) (v : Value) → walk at_start 0 (characters bytes) ≡ r → (r >>= λ f. at_end bytes f) ≡ Ok v → IsYaml bytes v
ended_by (Ok f) bytes v w e = record { front = f; is_front = (walk_taken (characters bytes) at_start f 0 w).takes; whole = e }
ended_by (Err b) bytes v w e = absurd (let q : Err b ≡ Ok v = e in cc)

pub found : (bytes : List ℕ) (v : Value) → reading bytes ≡ Ok v → IsYaml bytes v
unfolding reading at_end
found bytes v e = ended_by (walk at_start 0 (characters bytes)) bytes v refl e

pub yaml_is_read : (bytes : List ℕ) (v : Value) → IsYaml bytes v → reading bytes ≡ Ok v
unfolding reading at_end walk
yaml_is_read bytes v y =
    let cs : List ℕ = characters bytes in
    let w : walk at_start 0 cs ≡ Ok y.front = ap (λ zs. walk at_start 0 zs) (sym (append-nil cs)) ∙ takes_walk cs at_start y.front 0 [] y.is_front in
    rw w y.whole

same_broken : {A : Type 0} (d b : Broken) → ◌≡◌ {A = Result A Broken} (Err d) (Err b) → d ≡ b
same_broken d b e = cc

refused_by : (r : Result Front Broken) (bytes : List ℕ) (b : Broken) → walk at_start 0 (characters bytes) ≡ r → (r >>= λ f. at_end bytes f) ≡ Err b → IsFirst bytes b
refused_by (Ok f) bytes b w e =
    record { read = characters bytes; rest = []; front = f; parts = sym (append-nil (characters bytes)); is_front = (walk_taken (characters bytes) at_start f 0 w).takes; stops = e }
refused_by (Err d) bytes b w e =
    let p : d ≡ b = same_broken d b e in
    let err : Broken → Result Front Broken = λ x. Err x in
    let t : Stopped at_start 0 (characters bytes) b = walk_stopped (characters bytes) at_start b 0 (w ∙ ap err p) in
    record { read = t.read; rest = t.c ∷ t.rest; front = t.front; parts = t.parts; is_front = t.takes; stops = t.stops }

pub refused : (bytes : List ℕ) (b : Broken) → reading bytes ≡ Err b → IsFirst bytes b
unfolding reading at_end
refused bytes b e = refused_by (walk at_start 0 (characters bytes)) bytes b refl e

stops_walk : (rest : List ℕ) (bytes : List ℕ) (f : Front) (at : ℕ) (b : Broken) → Stops bytes f at rest b → (walk f at rest >>= λ g. at_end bytes g) ≡ Err b
unfolding walk
stops_walk [] bytes f at b s = s
stops_walk (c ∷ cs) bytes f at b s = rw s refl

pub first_is_read : (bytes : List ℕ) (b : Broken) → IsFirst bytes b → reading bytes ≡ Err b
unfolding reading at_end
first_is_read bytes b y =
    let cs : List ℕ = characters bytes in
    let go : Result Front Broken → Result Value Broken = λ r. r >>= λ f. at_end bytes f in
    ap go (ap (λ zs. walk at_start 0 zs) y.parts ∙ takes_walk y.read at_start y.front 0 y.rest y.is_front) ∙ stops_walk y.rest bytes y.front (place_behind 0 y.read) b y.stops

-- ---- the answer of the call

pub found_of : (r : Result Yaml End) (file bytes : List ℕ) → Reads file r (reading bytes) → IfValue r (IsYaml bytes)
found_of (Ok y) file bytes h = found bytes (value_of y) h
found_of (Err e) file bytes h = tt

pub only_of : (r : Result Yaml End) (file bytes : List ℕ) → Reads file r (reading bytes) → IfValue r (λ given. (v : Value) → IsYaml bytes v → v ≡ given)
only_of (Ok y) file bytes h = λ v q. ok_same (reading bytes) v (value_of y) (yaml_is_read bytes v q) h
only_of (Err e) file bytes h = tt

pub good_of : (r : Result Yaml End) (file bytes : List ℕ) → Reads file r (reading bytes) → IfValue r (λ _. (b : Broken) → IsFirst bytes b → ⊥)
good_of (Ok y) file bytes h = λ b q. not_both (reading bytes) (value_of y) b h (first_is_read bytes b q)
good_of (Err e) file bytes h = tt

pub first_of : (r : Result Yaml End) (file bytes : List ℕ) → Reads file r (reading bytes) → IfFault r (IsFirstFault file bytes)
first_of (Ok y) file bytes h = tt
first_of (Err (ending.Fault f)) file bytes (b, e, q) = (b, refused bytes b e, q)
first_of (Err (ending.Memory e)) file bytes h = tt

-- ---- trees

tree_is_read : (bytes : List ℕ) (v : Value) → IsSpelled bytes v → reading bytes ≡ Ok v
tree_is_read bytes v s =
    subst (λ (bs : List ℕ). reading bs ≡ Ok v) s.spelled (subst (λ (w : Value). reading (encode_utf8_all (spell_file s.file)) ≡ Ok w) s.value (written_is_read s.file s.is s.scalars))

pub spelled_of : (r : Result Yaml End) (file bytes : List ℕ) → Reads file r (reading bytes) → IfValue r (IsSpelled bytes)
spelled_of (Ok y) file bytes h = spelled_by_a_tree bytes (value_of y) h
spelled_of (Err e) file bytes h = tt

pub unique_of : (r : Result Yaml End) (file bytes : List ℕ) → Reads file r (reading bytes) → IfValue r (λ given. (v : Value) → IsSpelled bytes v → v ≡ given)
unique_of (Ok y) file bytes h = λ v s. ok_same (reading bytes) v (value_of y) (tree_is_read bytes v s) h
unique_of (Err e) file bytes h = tt

pub unspelled_of : (r : Result Yaml End) (file bytes : List ℕ) → Reads file r (reading bytes) → IfFault r (λ _. (v : Value) → IsSpelled bytes v → ⊥)
unspelled_of (Ok y) file bytes h = tt
unspelled_of (Err (ending.Fault f)) file bytes (b, e, q) = λ v s. not_both (reading bytes) v b (tree_is_read bytes v s) e
unspelled_of (Err (ending.Memory e)) file bytes h = tt
