-- What is read with a file's own line ends is read with line feeds alone.
use Rattle.std.proofs.Common.{◌≡◌, ℕ, ◌+◌, ◌-◌, Bool, true, false, ◌&&◌, ◌==◌, List, [], ◌∷◌, Result, Ok, Err, if◌then◌else◌, refl, sym, ap, subst, ◌∙◌, arith}
use Rattle.std.specs.Char.{len_utf8}
use Rattle.std.proofs.lemmas.Bool.Decides.{nat_tests}
use Rattle.edt_base.specs.YamlData.{Value, a_text, null}
use Rattle.yaml_profile.specs.declared.stop.Broken.{Broken}
use Rattle.yaml_profile.specs.Answers.{◌>>=◌, no_text}
use Rattle.yaml_profile.specs.Signs.{begins_with}
use Rattle.yaml_profile.specs.Scalars.{scalar_of}
use Rattle.yaml_profile.specs.Folding.{Folding, end_line}
use Rattle.yaml_profile.specs.BlockText.{BlockText, blank_line, block_text}
use Rattle.yaml_profile.specs.Fronts.{Frame, Going, Whole, Innermost, AtLine, AtValue, InPlain, InSingle, AtSecondQuote, InDouble, InEscape, InDigits, AfterQuoted, AfterValue, InComment, InMark, InHeader, InHeaderComment, AtTextLine, AtBlankEnd, InTextLine, Front, front, value_so_far}
use Rattle.yaml_profile.specs.Pieces.{is_key_only, in_after_value, in_at_value, in_plain, in_after_quoted}
use Rattle.yaml_profile.specs.Layout.{in_line, in_comment, in_header, in_header_comment, at_text_line, in_text_line}
use Rattle.yaml_profile.specs.Reading.{taken, step, walk, ends, outside_flow, last_line}
use Rattle.yaml_profile.proofs.ReadSteps.{past, with_returns, line_walk, ReadsOn, OnFrom, no_feed_ahead}
use Rattle.yaml_profile.proofs.WrittenPlaces.{Alike, Fits, Begun, Same, Ahead, taken_same, feed_same, returned, return_same}
use Rattle.yaml_profile.proofs.WrittenEnds.{Finishes, ahead, ends_same, outside_to, self_line, step_is, fits_feed, no_blank_end}
use Rattle.yaml_profile.proofs.ReadEnds.{lines_of, is_cut, returned_at, by_lines, lines_other, told, so_from}
use Rattle.yaml_profile.proofs.WrittenLines.{going_is, more_is}

-- ---- the end of the file

alike_back : (i j : Innermost) (at to : ℕ) → Alike at to i j → Alike to at j i
alike_back (AtLine s w) j at to (r, n, e, p) = subst (λ (x : Innermost). Alike to at x (AtLine s w)) (sym e) (s, n, refl, (p.1, p.0))
alike_back (AtValue s true sp) j at to (r, n, e, p) = subst (λ (x : Innermost). Alike to at x (AtValue s true sp)) (sym e) (s, n, refl, (p.1, p.0))
alike_back (AtValue s false sp) j at to (r, e) = subst (λ (x : Innermost). Alike to at x (AtValue s false sp)) (sym e) (s, refl)
alike_back (InPlain t role b sp) j at to (d, e) = subst (λ (x : Innermost). Alike to at x (InPlain t role b sp)) (sym e) (b, refl)
alike_back (InSingle t role b) j at to (d, e) = subst (λ (x : Innermost). Alike to at x (InSingle t role b)) (sym e) (b, refl)
alike_back (AtSecondQuote t role b) j at to (d, e) = subst (λ (x : Innermost). Alike to at x (AtSecondQuote t role b)) (sym e) (b, refl)
alike_back (InDouble t role b) j at to (d, e) = subst (λ (x : Innermost). Alike to at x (InDouble t role b)) (sym e) (b, refl)
alike_back (InEscape t role b) j at to (d, e) = subst (λ (x : Innermost). Alike to at x (InEscape t role b)) (sym e) (b, refl)
alike_back (InDigits t role b left number) j at to (d, e) = subst (λ (x : Innermost). Alike to at x (InDigits t role b left number)) (sym e) (b, refl)
alike_back (AfterQuoted y role b sp) j at to (d, e) = subst (λ (x : Innermost). Alike to at x (AfterQuoted y role b sp)) (sym e) (b, refl)
alike_back (AfterValue w sp) j at to e = subst (λ (x : Innermost). Alike to at x (AfterValue w sp)) (sym e) refl
alike_back (InComment w) j at to e = subst (λ (x : Innermost). Alike to at x (InComment w)) (sym e) refl
alike_back (InMark left) j at to e = subst (λ (x : Innermost). Alike to at x (InMark left)) (sym e) refl
alike_back (InHeader b g sp) j at to e = subst (λ (x : Innermost). Alike to at x (InHeader b g sp)) (sym e) refl
alike_back (InHeaderComment b) j at to e = subst (λ (x : Innermost). Alike to at x (InHeaderComment b)) (sym e) refl
alike_back (AtTextLine s b) j at to (r, n, e, p) = subst (λ (x : Innermost). Alike to at x (AtTextLine s b)) (sym e) (s, n, refl, (p.1, p.0))
alike_back (AtBlankEnd n b) j at to e = subst (λ (x : Innermost). Alike to at x (AtBlankEnd n b)) (sym e) refl
alike_back (InTextLine b) j at to e = subst (λ (x : Innermost). Alike to at x (InTextLine b)) (sym e) refl

-- where a file ends, and has its value with one line feed more
abbrev Fed : List Frame → Innermost → (at : ℕ) → Value → Type 0
Fed fs i at v = OnFrom (taken fs i at 10 []) (at + 1) [] v

plain_fed : (k : Bool) (fs : List Frame) (t : Folding) (at : ℕ) (v : Value) → (if k then no_text at else outside_flow fs (scalar_of t.text) at) ≡ Ok v
    → OnFrom (if k then no_text at else Ok (front fs (AtLine (at + 1) (Going (end_line t))))) (at + 1) [] v
unfolding ends line_walk
plain_fed true fs t at v h = let q : ◌≡◌ {A = Result Value Broken} (no_text at) (Ok v) = h in absurd (cc)
plain_fed false fs t at v h = subst (λ (x : Value). outside_flow fs x (at + 1) ≡ Ok v) (sym (going_is t)) (outside_to fs (scalar_of t.text) v at (at + 1) h)

quoted_fed : (k : Bool) (fs : List Frame) (x : List ℕ) (sp : Bool) (at : ℕ) (v : Value) → (if k then no_text at else outside_flow fs (a_text x) at) ≡ Ok v
    → OnFrom (if k then no_text at else in_after_value fs (Whole (a_text x)) sp at 10) (at + 1) [] v
unfolding ends line_walk in_after_value
quoted_fed true fs x sp at v h = let q : ◌≡◌ {A = Result Value Broken} (no_text at) (Ok v) = h in absurd (cc)
quoted_fed false fs x sp at v h = outside_to fs (a_text x) v at (at + 1) h

text_fed : (fs : List Frame) (b : BlockText) (at : ℕ) (v : Value) → outside_flow fs (a_text (block_text b)) at ≡ Ok v → outside_flow fs (a_text (block_text (last_line b ((at + 1) - (at + 1))))) (at + 1) ≡ Ok v
text_fed fs b at v h = subst (λ (x : BlockText). outside_flow fs (a_text (block_text x)) (at + 1) ≡ Ok v) (sym (self_line b (at + 1))) (outside_to fs (a_text (block_text b)) v at (at + 1) h)

last_fed : (i : Innermost) (at : ℕ) (fs : List Frame) (v : Value) → Fits (10 ∷ []) i → Begun true at i → ends fs i at ≡ Ok v → Fed fs i at v
unfolding ends line_walk taken in_line in_at_value in_plain in_after_quoted in_after_value in_comment in_header in_header_comment in_text_line at_text_line
last_fed (AtLine s w) at fs v f b h = subst (λ (x : Value). outside_flow fs x (at + 1) ≡ Ok v) (sym (more_is w)) (outside_to fs (value_so_far w) v at (at + 1) h)
last_fed (AtValue s m sp) at fs v f b h = outside_to fs null v at (at + 1) h
last_fed (InPlain t role d sp) at fs v f b h = plain_fed (is_key_only role) fs t at v h
last_fed (InSingle t role d) at fs v f b h = absurd (let q : ◌≡◌ {A = Result Value Broken} (no_text at) (Ok v) = h in cc)
last_fed (AtSecondQuote t role d) at fs v f b h = absurd (let q : ◌≡◌ {A = Result Value Broken} (no_text at) (Ok v) = h in cc)
last_fed (InDouble t role d) at fs v f b h = absurd (let q : ◌≡◌ {A = Result Value Broken} (no_text at) (Ok v) = h in cc)
last_fed (InEscape t role d) at fs v f b h = absurd (let q : ◌≡◌ {A = Result Value Broken} (no_text at) (Ok v) = h in cc)
last_fed (InDigits t role d left number) at fs v f b h = absurd (let q : ◌≡◌ {A = Result Value Broken} (no_text at) (Ok v) = h in cc)
last_fed (AfterQuoted x role d sp) at fs v f b h = quoted_fed (is_key_only role) fs x sp at v h
last_fed (AfterValue w sp) at fs v f b h = outside_to fs (value_so_far w) v at (at + 1) h
last_fed (InComment w) at fs v f b h = outside_to fs (value_so_far w) v at (at + 1) h
last_fed (InMark left) at fs v f b h = absurd (let q : ◌≡◌ {A = Result Value Broken} (no_text at) (Ok v) = h in cc)
last_fed (InHeader t g sp) at fs v f b h = text_fed fs t at v h
last_fed (InHeaderComment t) at fs v f b h = text_fed fs t at v h
last_fed (AtTextLine s t) at fs v f b h =
    let z : ((at - s) == 0) ≡ false = grind (arith, nat_tests) in
    text_fed fs (blank_line t (at - s)) at v (rw z at h)
last_fed (AtBlankEnd n t) at fs v f b h = absurd f
last_fed (InTextLine t) at fs v f b h = text_fed fs t at v h

-- ---- one character

from_on : (r : Result Front Broken) (at : ℕ) (xs : List ℕ) (v : Value) → OnFrom r at xs v → ((r >>= λ g. line_walk g at xs) >>= λ g. ends g.frames g.inner (past at xs)) ≡ Ok v
from_on (Ok g) at xs v h = h
from_on (Err e) at xs v h = absurd h

on_step : (fs : List Frame) (i : Innermost) (at c : ℕ) (cs : List ℕ) (v : Value) → OnFrom (taken fs i at c (with_returns cs)) (at + len_utf8 c) cs v → ReadsOn (front fs i) at (c ∷ cs) v
unfolding line_walk
on_step fs i at c cs v h = from_on (taken fs i at c (with_returns cs)) (at + len_utf8 c) cs v h

ended_value : (f : Front) (to : ℕ) (v : Value) → Finishes f to [] v → ends f.frames f.inner to ≡ Ok v
unfolding walk
ended_value f to v r = let g : Result Front Broken → Result Value Broken = λ q. q >>= λ h. ends h.frames h.inner to in ap g r.run ∙ r.value

-- the first step of reading
record Stepped (r : Result Front Broken) (to : ℕ) (cs : List ℕ) (v : Value) : Type 0 where
  front : Front
  is : r ≡ Ok front
  rest : Finishes front to cs v

stepped_of : (r : Result Front Broken) (to : ℕ) (cs : List ℕ) (g : Front) (v : Value) → (r >>= λ f. walk f to cs) ≡ Ok g → ends g.frames g.inner (past to cs) ≡ Ok v → Stepped r to cs v
stepped_of (Ok f) to cs g v e h = record { front = f; is = refl; rest = record { front = g; run = e; value = h } }
stepped_of (Err b) to cs g v e h = absurd (let q : ◌≡◌ {A = Result Front Broken} (Err b) (Ok g) = e in cc)

first_step : (f : Front) (to c : ℕ) (cs : List ℕ) (v : Value) → Finishes f to (c ∷ cs) v → Stepped (step f to c cs) (to + len_utf8 c) cs v
unfolding walk
first_step f to c cs v r = stepped_of (step f to c cs) (to + len_utf8 c) cs r.front v r.run r.value

ok_told : (a b : Front) → ◌≡◌ {A = Result Front Broken} (Ok a) (Ok b) → a ≡ b
ok_told a b e = ap (λ (r : Result Front Broken). elim r [ Ok x ↦ x | Err x ↦ a ]) e

stepped_back : (x y : Result Front Broken) (k : Front) (begun : Bool) (at to : ℕ) (look xs : List ℕ) (v : Value) → Same begun at to look x y → y ≡ Ok k
    → ((g : Front) → k.frames ≡ g.frames → Alike at to g.inner k.inner → Fits look g.inner → Begun begun at g.inner → ReadsOn g at xs v) → OnFrom x at xs v
stepped_back (Ok g) (Ok h) k begun at to look xs v s e go =
    let q : h ≡ k = ok_told h k e in
    go g (ap (λ (f : Front). f.frames) (sym q) ∙ s.0) (subst (λ (f : Front). Alike at to g.inner f.inner) q s.1) s.2 s.3
stepped_back (Ok g) (Err b) k begun at to look xs v s e go = absurd s
stepped_back (Err b) (Ok h) k begun at to look xs v s e go = absurd s
stepped_back (Err b) (Err d) k begun at to look xs v s e go = absurd (let q : ◌≡◌ {A = Result Front Broken} (Err d) (Ok k) = e in cc)

-- ---- the file

abbrev Back : List ℕ → Type 0
Back cs = (within : Bool) (fs : List Frame) (i j : Innermost) (at to : ℕ) (v : Value) → Alike at to i j → Fits (with_returns (lines_of within cs)) i → Begun within at i → Finishes (front fs j) to cs v
    → ReadsOn (front fs i) at (lines_of within cs) v

back_none : Back []
unfolding line_walk
back_none true fs i j at to v a f b r =
    on_step fs i at 10 [] v (last_fed i at fs v (fits_feed i (10 ∷ []) [] f) b (ends_same j i to at fs v (alike_back i j at to a) (ended_value (front fs j) to v r)))
back_none false fs i j at to v a f b r = ends_same j i to at fs v (alike_back i j at to a) (ended_value (front fs j) to v r)

-- after a line end
abbrev Onward : (ds : List ℕ) → (k g : Front) → (at to : ℕ) → Value → Type 0
Onward ds k g at to v = k.frames ≡ g.frames → Alike (at + 1) to g.inner k.inner → Fits (with_returns (lines_of false ds)) g.inner → Begun false (at + 1) g.inner → ReadsOn g (at + 1) (lines_of false ds) v

onward : (ds : List ℕ) → Back ds → (k g : Front) (at to : ℕ) (v : Value) → Finishes k to ds v → Onward ds k g at to v
onward ds ih k g at to v r l m n o = ih false g.frames g.inner k.inner (at + 1) to v m n o (subst (λ (gs : List Frame). Finishes (front gs k.inner) to ds v) l r)

two_told : (f k : Front) (to : ℕ) (ds : List ℕ) (l : Front) → step f to 13 (10 ∷ ds) ≡ Ok k → step k (to + 1) 10 ds ≡ Ok l → (step f to 13 (10 ∷ ds) >>= λ h. step h (to + 1) 10 ds) ≡ Ok l
two_told f k to ds l a b = rw a b

back_return : (ds : List ℕ) → Back ds → Back (13 ∷ 10 ∷ ds)
back_return ds ih within fs i j at to v a f b r =
    let look : List ℕ = with_returns (lines_of false ds) in
    let x : Stepped (step (front fs j) to 13 (10 ∷ ds)) (to + 1) (10 ∷ ds) v = first_step (front fs j) to 13 (10 ∷ ds) v r in
    let y : Stepped (step x.front (to + 1) 10 ds) (to + 1 + 1) ds v = first_step x.front (to + 1) 10 ds v x.rest in
    on_step fs i at 10 (lines_of false ds) v
    (stepped_back (taken fs i at 10 look) (returned fs j to ds) y.front false (at + 1) (to + 1 + 1) look (lines_of false ds) v (return_same i j at to look ds fs a (fits_feed i (10 ∷ look) look f)) (two_told (front fs j) x.front to ds y.front x.is y.is)
    (λ g. onward ds ih y.front g at (to + 1 + 1) v y.rest))

back_feed : (ds : List ℕ) → Back ds → Back (10 ∷ ds)
back_feed ds ih within fs i j at to v a f b r =
    let look : List ℕ = with_returns (lines_of false ds) in
    let x : Stepped (step (front fs j) to 10 ds) (to + 1) ds v = first_step (front fs j) to 10 ds v r in
    on_step fs i at 10 (lines_of false ds) v
    (stepped_back (taken fs i at 10 look) (taken fs j to 10 ds) x.front false (at + 1) (to + 1) look (lines_of false ds) v (feed_same i j at to look ds fs a (fits_feed i (10 ∷ look) look f)) (sym (step_is fs j to 10 ds refl) ∙ x.is)
    (λ g. onward ds ih x.front g at (to + 1) v x.rest))

raw_ahead : (cs : List ℕ) → Ahead (with_returns (lines_of true cs)) cs
raw_ahead cs =
    let t = told cs true (returned_at cs) 0 (so_from cs) in
    subst (λ (ys : List ℕ). Ahead (with_returns (lines_of true cs)) ys) t.0 (ahead (lines_of true cs) (is_cut true cs) (returned_at cs) 0 t.1)

fits_other : (i : Innermost) (c : ℕ) (xs : List ℕ) → (c == 10) ≡ false → Fits (with_returns (c ∷ xs)) i → Fits (c ∷ with_returns xs) i
fits_other i c xs e f = rw e at f

back_other : (c : ℕ) (cs : List ℕ) → (c == 10) ≡ false → ((c == 13) && begins_with 10 cs) ≡ false → Back cs → Back (c ∷ cs)
back_other c cs e g ih within fs i j at to v a f b r =
    let xs : List ℕ = lines_of true cs in
    let look : List ℕ = with_returns xs in
    let so : c ∷ xs ≡ lines_of within (c ∷ cs) = lines_other within c cs e g in
    let z : Fits (c ∷ look) i = fits_other i c xs e (subst (λ (ys : List ℕ). Fits (with_returns ys) i) (sym so) f) in
    let x : Stepped (step (front fs j) to c cs) (to + len_utf8 c) cs v = first_step (front fs j) to c cs v r in
    let same = taken_same i j at to c look cs fs a z e (no_blank_end (c == 13) (begins_with 10 look) (no_feed_ahead xs)) g (raw_ahead cs) in
    subst (λ (ys : List ℕ). ReadsOn (front fs i) at ys v) so
    (on_step fs i at c xs v
    (stepped_back (taken fs i at c look) (taken fs j to c cs) x.front true (at + len_utf8 c) (to + len_utf8 c) look xs v same (sym (step_is fs j to c cs g) ∙ x.is)
    (λ h l m n o. ih true h.frames h.inner x.front.inner (at + len_utf8 c) (to + len_utf8 c) v m n o (subst (λ (gs : List Frame). Finishes (front gs x.front.inner) (to + len_utf8 c) cs v) l x.rest))))

pub back : (cs : List ℕ) → Back cs
back = by_lines Back back_none back_return back_feed back_other
