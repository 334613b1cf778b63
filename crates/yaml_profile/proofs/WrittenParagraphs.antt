-- How plain texts are read, of one line and of several.
use Rattle.std.proofs.Common.{◌≡◌, ℕ, zero, suc, ◌+◌, ◌-◌, ◌≤◌, Bool, true, false, not, ◌&&◌, ◌==◌, List, [], ◌∷◌, ◌++◌, Option, Ok, refl, sym, ap, subst, ◌∙◌, append_assoc}
use Rattle.std.specs.Char.{len_utf8}
use Rattle.std.proofs.lemmas.Bool.{and_parts}
use Rattle.yaml_profile.specs.declared.folding.Seam.{Seam}
use Rattle.yaml_profile.specs.declared.folding.Seam.TheVariants.{Inside, Folds, Joins}
use Rattle.yaml_profile.specs.declared.front.Role.{Role}
use Rattle.yaml_profile.specs.declared.front.Role.TheVariants.{Value as ValueOnly}
use Rattle.yaml_profile.specs.Signs.{begins_mark}
use Rattle.yaml_profile.specs.Folding.{Folding, nothing_yet, after_blank, end_line, after_line}
use Rattle.yaml_profile.specs.Fronts.{Frame, Going, AtLine, InPlain, Front, front, is_flow, is_deeper}
use Rattle.yaml_profile.specs.Pieces.{in_plain, is_key_only}
use Rattle.yaml_profile.specs.Layout.{block_line, flow_line, in_line, line_content, ends_blank_line}
use Rattle.yaml_profile.specs.Reading.{taken}
use Rattle.yaml_profile.specs.Written.{spaces, is_mark, line_ends, IsPlain, with_solid, with_chars, Further, spell_blanks, spell_further, spell_furthers, spell_plain, IsFurther, AreFurther}
use Rattle.yaml_profile.proofs.WrittenTexts.{return_ahead, goes, spaces_line, After, PlainFacts, plain_facts, plain_taken, solid_is, chars_go, spaced_after}
use Rattle.yaml_profile.proofs.ReadSteps.{line_walk, not_true, past, past_append, with_returns}
use Rattle.yaml_profile.proofs.WrittenLines.{plain_feed, begin_run, line_goes}
use Rattle.yaml_profile.proofs.WrittenKeys.{content_line, mark_of}
use Rattle.yaml_profile.proofs.WrittenBlocks.{column_is}

pub chars_append : (xs ys : List ℕ) (t : Folding) → with_chars t (xs ++ ys) ≡ with_chars (with_chars t xs) ys
chars_append [] ys t = refl
chars_append (x ∷ xs) ys t = chars_append xs ys (with_chars t (x ∷ []))

-- ---- a text that waits for a further line

abbrev pub is_inside : Seam → Bool
is_inside Inside = true
is_inside _ = false

pub blank_waits : (m : Seam) (t : Folding) (c : ℕ) → is_inside m ≡ false → after_blank m t c ≡ t
blank_waits Inside t c h = cc
blank_waits Folds t c h = refl
blank_waits Joins t c h = refl

spaces_wait : (n : ℕ) (t : Folding) → is_inside t.seam ≡ false → with_chars t (spaces n) ≡ t
spaces_wait zero t h = refl
spaces_wait (suc n) t h = ap (λ (u : Folding). with_chars u (spaces n)) (blank_waits t.seam t 32 h) ∙ spaces_wait n t h

pub line_waits : (m : Seam) (t : Folding) → t.seam ≡ m → is_inside (after_line m t).seam ≡ false
line_waits Inside t e = refl
line_waits Folds t e = rw e refl
line_waits Joins t e = rw e refl

pub end_waits : (t : Folding) → is_inside (end_line t).seam ≡ false
end_waits t = line_waits t.seam t refl

blank_feed : (fs : List Frame) (t : Folding) (s at : ℕ) (rest : List ℕ) → taken fs (AtLine s (Going t)) at 10 rest ≡ Ok (front fs (AtLine (at + 1) (Going (end_line t))))
unfolding taken in_line
blank_feed fs t s at rest = refl

line_text : (n : ℕ) (t : Folding) → is_inside t.seam ≡ false → with_chars t (spaces n ++ 10 ∷ []) ≡ end_line t
line_text n t h = chars_append (spaces n) (10 ∷ []) t ∙ ap (λ (u : Folding). end_line u) (spaces_wait n t h)

blanks_go : (ns : List ℕ) (fs : List Frame) (t : Folding) (s : ℕ) (rest : List ℕ) → is_inside t.seam ≡ false
    → line_walk (front fs (AtLine s (Going t))) s (spell_blanks ns ++ rest) ≡ line_walk (front fs (AtLine (past s (spell_blanks ns)) (Going (with_chars t (spell_blanks ns))))) (past s (spell_blanks ns)) rest
blanks_go [] fs t s rest h = refl
blanks_go (n ∷ ns) fs t s rest h =
    let ys : List ℕ = spaces n ++ 10 ∷ [] in
    let bs : List ℕ = spell_blanks ns in
    let m : ℕ = past s (spaces n) in
    let u : Folding = end_line t in
    let same : with_chars u bs ≡ with_chars t (ys ++ bs) = sym (chars_append ys bs t ∙ ap (λ (x : Folding). with_chars x bs) (line_text n t h)) in
    ap (λ zs. line_walk (front fs (AtLine s (Going t))) s zs) (append_assoc ys bs rest ∙ append_assoc (spaces n) (10 ∷ []) (bs ++ rest))
    ∙ (spaces_line n fs s (Going t) s (10 ∷ (bs ++ rest))
    ∙ (goes fs (AtLine s (Going t)) (front fs (AtLine (m + 1) (Going u))) m 10 (bs ++ rest) (blank_feed fs t s m (with_returns (bs ++ rest)))
    ∙ (ap (λ p. line_walk (front fs (AtLine p (Going u))) p (bs ++ rest)) (sym (past_append (spaces n) (10 ∷ []) s))
    ∙ (blanks_go ns fs u (past s ys) rest (end_waits t)
    ∙ (ap (λ (x : Folding). line_walk (front fs (AtLine (past (past s ys) bs) (Going x))) (past (past s ys) bs) rest) same
    ∙ ap (λ p. line_walk (front fs (AtLine p (Going (with_chars t (ys ++ bs))))) p rest) (sym (past_append ys bs s)))))))

blanks_wait : (ns : List ℕ) (t : Folding) → is_inside t.seam ≡ false → is_inside (with_chars t (spell_blanks ns)).seam ≡ false
blanks_wait [] t h = h
blanks_wait (n ∷ ns) t h =
    subst (λ (u : Folding). is_inside u.seam ≡ false) (sym (chars_append (spaces n ++ 10 ∷ []) (spell_blanks ns) t ∙ ap (λ (x : Folding). with_chars x (spell_blanks ns)) (line_text n t h)))
    (blanks_wait ns (end_line t) (end_waits t))

-- ---- a further line

record LineFacts (flow : Bool) (indent c : ℕ) (rest : List ℕ) : Type 0 where
  space : (c == 32) ≡ false
  feed : (c == 10) ≡ false
  tab : (c == 9) ≡ false
  hash : (c == 35) ≡ false
  return : ends_blank_line c rest ≡ false
  mark : flow ≡ false → ((indent == 0) && begins_mark c rest) ≡ false

goes_on : (flow : Bool) (fs : List Frame) (t : Folding) (s at k c : ℕ) (rest : List ℕ) → at - s ≡ k → is_flow fs ≡ flow → is_deeper k fs ≡ true → LineFacts flow k c rest
    → taken fs (AtLine s (Going t)) at c rest ≡ in_plain fs t ValueOnly at false at c rest
unfolding taken in_line line_content flow_line block_line
goes_on true fs t s at k c rest e f d h = rw (h.space, h.feed, h.tab, h.hash, f, e, d) refl
goes_on false fs t s at k c rest e f d h =
    content_line fs (Going t) s at k c rest e f (record { space = h.space; feed = h.feed; tab = h.tab; hash = h.hash; return = h.return; mark = h.mark refl }) ∙ rw (e, d) refl

line_facts : (flow ended : Bool) (least : ℕ) (l : Further) (rest : List ℕ) → IsFurther flow ended least l → After ended rest → LineFacts flow l.indent l.first (with_returns (l.text ++ rest))
line_facts flow ended least l rest h a =
    let p : (not (l.first == 32) ≡ true) × (not (l.first == 35) ≡ true) = and_parts _ _ h.1 in
    let f : PlainFacts flow false ended l.first l.text = plain_facts flow false ended l.first l.text h.2 in
    let m : (not (l.first == 9) ≡ true) × (not (not flow && (l.indent == 0) && is_mark ended l.first l.text) ≡ true) = and_parts _ _ h.3 in
    record {
      space = not_true _ p.0;
      feed = f.feed;
      tab = not_true _ m.0;
      hash = not_true _ p.1;
      return = return_ahead l.first (l.text ++ rest);
      mark = λ q. mark_of flow ended l.indent l.first l.text rest a m.1 q;
    }

-- where a plain text stands, with any role but that of a key
record Stays (fs : List Frame) (ended : Bool) (at : ℕ) (xs : List ℕ) (f : Front) (t : Folding) : Type 0 where
  role : Role
  begun : ℕ
  spaced : Bool
  value : is_key_only role ≡ false
  run : (rest : List ℕ) → After ended rest → line_walk f at (xs ++ rest) ≡ line_walk (front fs (InPlain t role begun spaced)) (past at xs) rest

further_goes : (l : Further) (fs : List Frame) (flow ended : Bool) (least : ℕ) (t : Folding) (r : Role) (begun : ℕ) (sp : Bool) (at : ℕ) → is_key_only r ≡ false → is_flow fs ≡ flow → is_deeper l.indent fs ≡ true → IsFurther flow ended least l
    → Stays fs ended at (spell_further l) (front fs (InPlain t r begun sp)) (with_chars t (spell_further l))
further_goes l fs flow ended least t r begun sp at k f d h =
    let s : ℕ = at + 1 in
    let bs : List ℕ = spell_blanks l.blanks in
    let is : List ℕ = spaces l.indent in
    let c : ℕ = l.first in
    let cs : List ℕ = l.text in
    let p : ℕ = past s bs in
    let m : ℕ = past p is in
    let u : Folding = end_line t in
    let v : Folding = with_chars u bs in
    let waits : is_inside v.seam ≡ false = blanks_wait l.blanks u (end_waits t) in
    let g : PlainFacts flow false ended c cs = plain_facts flow false ended c cs h.2 in
    let w : Folding = with_chars v (c ∷ cs) in
    let q : Bool = spaced_after (c == 32) cs in
    let same : w ≡ with_chars t (spell_further l)
    = sym (chars_append bs (is ++ c ∷ cs) u ∙ (chars_append is (c ∷ cs) v ∙ ap (λ (x : Folding). with_chars x (c ∷ cs)) (spaces_wait l.indent v waits))) in
    record {
      role = ValueOnly;
      begun = m;
      spaced = q;
      value = refl;
      run = λ rest a.
          goes fs (InPlain t r begun sp) (front fs (AtLine s (Going u))) at 10 ((bs ++ (is ++ c ∷ cs)) ++ rest) (plain_feed fs t r begun sp at (with_returns ((bs ++ (is ++ c ∷ cs)) ++ rest)) k)
          ∙ (ap (λ zs. line_walk (front fs (AtLine s (Going u))) s zs) (append_assoc bs (is ++ c ∷ cs) rest ∙ ap (λ zs. bs ++ zs) (append_assoc is (c ∷ cs) rest))
          ∙ (blanks_go l.blanks fs u s (is ++ ((c ∷ cs) ++ rest)) (end_waits t)
          ∙ (spaces_line l.indent fs p (Going v) p ((c ∷ cs) ++ rest)
          ∙ (goes fs (AtLine p (Going v)) (front fs (InPlain (with_solid v c) ValueOnly m (c == 32))) m c (cs ++ rest)
          (goes_on flow fs v p m l.indent c (with_returns (cs ++ rest)) (column_is l.indent p) f d (line_facts flow ended least l rest h a) ∙ plain_taken fs v ValueOnly m flow false ended m c cs rest g f a.word)
          ∙ (ap (λ (x : Folding). line_walk (front fs (InPlain x ValueOnly m (c == 32))) (m + len_utf8 c) (cs ++ rest)) (sym (solid_is v c g.feed))
          ∙ (chars_go cs fs (with_chars v (c ∷ [])) ValueOnly m flow (c == 32) ended (m + len_utf8 c) rest g.more f a.word
          ∙ (ap (λ (x : Folding). line_walk (front fs (InPlain x ValueOnly m q)) (past m (c ∷ cs)) rest) same
          ∙ ap (λ n. line_walk (front fs (InPlain (with_chars t (spell_further l)) ValueOnly m q)) n rest) (sym (past_append bs (is ++ c ∷ cs) s ∙ past_append is (c ∷ cs) p)))))))));
    }

pub lines_after : (ended : Bool) (ls : List Further) (rest : List ℕ) → After ended rest → After (line_ends ended ls) (spell_furthers ls ++ rest)
lines_after ended [] rest a = a
lines_after ended (l ∷ ls) rest a = record { word = refl; quote = refl; dash = refl; dot = refl }

furthers_go : (ls : List Further) (fs : List Frame) (flow ended : Bool) (least : ℕ) (t : Folding) (r : Role) (begun : ℕ) (sp : Bool) (at : ℕ) → is_key_only r ≡ false → is_flow fs ≡ flow → ((n : ℕ) → least ≤ n → is_deeper n fs ≡ true) → AreFurther flow ended least ls
    → Stays fs ended at (spell_furthers ls) (front fs (InPlain t r begun sp)) (with_chars t (spell_furthers ls))
furthers_go [] fs flow ended least t r begun sp at k f d h = record { role = r; begun = begun; spaced = sp; value = k; run = λ rest a. refl }
furthers_go (l ∷ ls) fs flow ended least t r begun sp at k f d h =
    let xs : List ℕ = spell_further l in
    let ys : List ℕ = spell_furthers ls in
    let u : Folding = with_chars t xs in
    let one : Stays fs (line_ends ended ls) at xs (front fs (InPlain t r begun sp)) u = further_goes l fs flow (line_ends ended ls) least t r begun sp at k f (d l.indent h.0.0) h.0 in
    let more : Stays fs ended (past at xs) ys (front fs (InPlain u one.role one.begun one.spaced)) (with_chars u ys)
    = furthers_go ls fs flow ended least u one.role one.begun one.spaced (past at xs) one.value f d h.1 in
    record {
      role = more.role;
      begun = more.begun;
      spaced = more.spaced;
      value = more.value;
      run = λ rest a. ap (λ zs. line_walk (front fs (InPlain t r begun sp)) at zs) (append_assoc xs ys rest)
          ∙ (one.run (ys ++ rest) (lines_after ended ls rest a)
          ∙ (more.run rest a
          ∙ (ap (λ (x : Folding). line_walk (front fs (InPlain x more.role more.begun more.spaced)) (past (past at xs) ys) rest) (sym (chars_append xs ys t))
          ∙ ap (λ n. line_walk (front fs (InPlain (with_chars t (xs ++ ys)) more.role more.begun more.spaced)) n rest) (sym (past_append xs ys at)))));
    }

-- the whole text, where it begins
pub record Plained (fs : List Frame) (ended : Bool) (role : Role) (at : ℕ) (xs : List ℕ) : Type 0 where
  pub role_then : Role
  pub begun : ℕ
  pub spaced : Bool
  pub value : is_key_only role_then ≡ false
  pub run : (rest : List ℕ) → After ended rest → begin_run fs role at (xs ++ rest) ≡ line_walk (front fs (InPlain (with_chars nothing_yet xs) role_then begun spaced)) (past at xs) rest

pub plain_goes : (c : ℕ) (cs : List ℕ) (ls : List Further) (place : Option ℕ) (fs : List Frame) (flow ended : Bool) (least : ℕ) (role : Role) (at : ℕ) → is_key_only role ≡ false → is_flow fs ≡ flow → ((n : ℕ) → least ≤ n → is_deeper n fs ≡ true)
    → IsPlain place flow (line_ends ended ls) c cs → AreFurther flow ended least ls → Plained fs ended role at (spell_plain c cs ls)
plain_goes c cs ls place fs flow ended least role at k f d h g =
    let xs : List ℕ = c ∷ cs in
    let ys : List ℕ = spell_furthers ls in
    let t : Folding = with_chars nothing_yet xs in
    let sp : Bool = spaced_after false cs in
    let more : Stays fs ended (past at xs) ys (front fs (InPlain t role at sp)) (with_chars t ys) = furthers_go ls fs flow ended least t role at sp (past at xs) k f d g in
    record {
      role_then = more.role;
      begun = more.begun;
      spaced = more.spaced;
      value = more.value;
      run = λ rest a. ap (λ zs. begin_run fs role at zs) (append_assoc xs ys rest)
          ∙ (line_goes c cs fs role flow (line_ends ended ls) at (ys ++ rest) h.0 h.1 f (lines_after ended ls rest a).word
          ∙ (more.run rest a
          ∙ (ap (λ (x : Folding). line_walk (front fs (InPlain x more.role more.begun more.spaced)) (past (past at xs) ys) rest) (sym (chars_append xs ys nothing_yet))
          ∙ ap (λ n. line_walk (front fs (InPlain (with_chars nothing_yet (xs ++ ys)) more.role more.begun more.spaced)) n rest) (sym (past_append xs ys at)))));
    }
