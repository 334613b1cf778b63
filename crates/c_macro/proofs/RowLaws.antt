-- Brackets among tokens.
use Rattle.std.proofs.Common.{◌≡◌, ℕ, zero, suc, ◌+◌, ◌-◌, ◌<◌, ◌≤◌, List, [], ◌∷◌, ◌++◌, Option, Some, None, length, reverse, take, drop, slice_index_or, refl, sym, ap, subst, ◌∙◌, arith, append_assoc, append-nil, length-append, inl, inr}
use Rattle.std.proofs.lemmas.List.{reverse-append, drop-drop}
use Rattle.c_macro.specs.declared.pend.Pend.{Pend}
use Rattle.c_macro.specs.declared.row.Enclosed.{Enclosed}
use Rattle.c_macro.specs.Calls.{Mark, Opens, Closes, Parts, Inner, mark_of}
use Rattle.c_macro.specs.Rows.{depth_at, depth_of, IsUnclosed, Closing, IsSpan, HasSpans, HasClosers, Spanning, IsItem, BeginsWith, BeginsWithItem}
use Rattle.c_macro.specs.Walking.{Gathering, Seeking, IsStep, IsEnclosed, bracket_step}

some_or : Option ℕ → ℕ
some_or None = 0
some_or (Some n) = n

pub same_some : {d e : ℕ} → Some d ≡ Some e → d ≡ e
unfolding some_or
same_some h = ap some_or h

-- ---- depths

append_step : (e k : ℕ) (xs ys : List Pend) (m : Mark) → ((n : ℕ) → depth_of n xs ≡ Some e → depth_of n (xs ++ ys) ≡ depth_of e ys)
    → depth_at m k (λ n. depth_of n xs) ≡ Some e → depth_at m k (λ n. depth_of n (xs ++ ys)) ≡ depth_of e ys
append_step e k xs ys Opens go h = go (suc k) h
append_step e zero xs ys Closes go h = cc
append_step e (suc k) xs ys Closes go h = go k h
append_step e k xs ys Parts go h = go k h
append_step e k xs ys Inner go h = go k h

pub depth_append : (d e : ℕ) (xs ys : List Pend) → depth_of d xs ≡ Some e → depth_of d (xs ++ ys) ≡ depth_of e ys
depth_append d e [] ys h = ap (λ n. depth_of n ys) (same_some h)
depth_append d e (x ∷ xs) ys h = append_step e d xs ys (mark_of x.tok) (λ n g. depth_append n e xs ys g) h

suc_step : (e k : ℕ) (xs : List Pend) (m : Mark) → ((n : ℕ) → depth_of n xs ≡ Some e → depth_of (suc n) xs ≡ Some (suc e))
    → depth_at m k (λ n. depth_of n xs) ≡ Some e → depth_at m (suc k) (λ n. depth_of n xs) ≡ Some (suc e)
suc_step e k xs Opens go h = go (suc k) h
suc_step e zero xs Closes go h = cc
suc_step e (suc k) xs Closes go h = go k h
suc_step e k xs Parts go h = go k h
suc_step e k xs Inner go h = go k h

pub depth_suc : (d e : ℕ) (xs : List Pend) → depth_of d xs ≡ Some e → depth_of (suc d) xs ≡ Some (suc e)
depth_suc d e [] h = ap (λ n. Some (suc n)) (same_some h)
depth_suc d e (x ∷ xs) h = suc_step e d xs (mark_of x.tok) (λ n g. depth_suc n e xs g) h

prefix_step : (e k : ℕ) (xs ys : List Pend) (m : Mark) → ((n : ℕ) → depth_of n (xs ++ ys) ≡ Some e → (j : ℕ) × (depth_of n xs ≡ Some j))
    → depth_at m k (λ n. depth_of n (xs ++ ys)) ≡ Some e → (j : ℕ) × (depth_at m k (λ n. depth_of n xs) ≡ Some j)
prefix_step e k xs ys Opens go h = go (suc k) h
prefix_step e zero xs ys Closes go h = absurd cc
prefix_step e (suc k) xs ys Closes go h = go k h
prefix_step e k xs ys Parts go h = go k h
prefix_step e k xs ys Inner go h = go k h

-- what stands first among tokens that close nothing closes nothing
pub depth_prefix : (d e : ℕ) (xs ys : List Pend) → depth_of d (xs ++ ys) ≡ Some e → (j : ℕ) × (depth_of d xs ≡ Some j)
depth_prefix d e [] ys h = (d, refl)
depth_prefix d e (x ∷ xs) ys h = prefix_step e d xs ys (mark_of x.tok) (λ n g. depth_prefix n e xs ys g) h

-- brackets with balanced tokens between them change no depth
pub group_passes : (p last : Pend) (inner after : List Pend) → mark_of p.tok ≡ Opens → depth_of 0 inner ≡ Some 0 → mark_of last.tok ≡ Closes → depth_of 0 (p ∷ (inner ++ last ∷ after)) ≡ depth_of 0 after
group_passes p last inner after o b c = rw o (depth_append 1 1 inner (last ∷ after) (depth_suc 0 0 inner b) ∙ rw c refl)

pub inner_passes : (p : Pend) (after : List Pend) → mark_of p.tok ≡ Inner → depth_of 0 (p ∷ after) ≡ depth_of 0 after
inner_passes p after m = rw m refl

pub comma_passes : (p : Pend) (after : List Pend) → mark_of p.tok ≡ Parts → depth_of 0 (p ∷ after) ≡ depth_of 0 after
comma_passes p after m = rw m refl

pub item_passes : (item after : List Pend) → IsItem item → depth_of 0 (item ++ after) ≡ depth_of 0 after
item_passes item after (inl (p, e, m)) = rw e (inner_passes p after m)
item_passes item after (inr g) =
    ap (λ xs. depth_of 0 (xs ++ after)) g.whole ∙ (ap (λ xs. depth_of 0 (g.first ∷ xs)) (append_assoc g.inner (g.last ∷ []) after) ∙ group_passes g.first g.last g.inner after g.opens g.balanced g.closes)

pub item_balanced : (item : List Pend) → IsItem item → depth_of 0 item ≡ Some 0
item_balanced item i = ap (depth_of 0) (sym (append-nil item)) ∙ item_passes item [] i

-- ---- parts of lists

pub drop_exact : (n : ℕ) (xs ys : List Pend) → length xs ≡ n → drop n (xs ++ ys) ≡ ys
drop_exact n xs ys e = ap (λ k. drop k (xs ++ ys)) (sym e) ∙ by xs
  where
    by : (zs : List Pend) → drop (length zs) (zs ++ ys) ≡ ys
    by [] = refl
    by (z ∷ zs) = by zs

pub take_exact : (n : ℕ) (xs ys : List Pend) → length xs ≡ n → take n (xs ++ ys) ≡ xs
take_exact n xs ys e = ap (λ k. take k (xs ++ ys)) (sym e) ∙ by xs
  where
    by : (zs : List Pend) → take (length zs) (zs ++ ys) ≡ zs
    by [] = refl
    by (z ∷ zs) = ap (λ ws. z ∷ ws) (by zs)

-- ---- a closing bracket is looked for

pub seeking_starts : (whole : List Pend) → Seeking whole whole
seeking_starts whole = record { passed = []; is = refl; balanced = refl }

seeking_goes : (whole left rest item after : List Pend) (n : ℕ) → Seeking whole left → left ≡ item ++ after → length item ≡ n → depth_of 0 item ≡ Some 0 → rest ≡ drop n left → Seeking whole rest
seeking_goes whole left rest item after n k e l b d =
    let r : rest ≡ after = d ∙ (ap (drop n) e ∙ drop_exact n item after l) in
    record {
      passed = k.passed ++ item;
      is = k.is ∙ (ap (λ xs. k.passed ++ xs) e ∙ (sym (append_assoc k.passed item after) ∙ ap (λ xs. (k.passed ++ item) ++ xs) (sym r)));
      balanced = depth_append 0 0 k.passed item k.balanced ∙ b;
    }

pub seeking_comma : (whole left rest : List Pend) → Seeking whole left → BeginsWith Parts left → rest ≡ drop 1 left → Seeking whole rest
seeking_comma whole left rest k (p, after, e, m) d = seeking_goes whole left rest (p ∷ []) after 1 k e refl (comma_passes p [] m) d

pub seeking_item : (whole left rest : List Pend) (n : ℕ) → Seeking whole left → BeginsWithItem left n → rest ≡ drop n left → Seeking whole rest
seeking_item whole left rest n k (item, after, e, l, some, i) d = seeking_goes whole left rest item after n k e l (item_balanced item i) d

pub seeking_ends : (whole left : List Pend) → Seeking whole left → left ≡ [] → IsUnclosed whole
seeking_ends whole left k e = (0, ap (depth_of 0) (k.is ∙ ap (λ xs. k.passed ++ xs) e) ∙ depth_append 0 0 k.passed [] k.balanced)

pub seeking_unclosed : (whole left : List Pend) → Seeking whole left → (deep : ℕ) × (depth_of 0 left ≡ Some (suc deep)) → IsUnclosed whole
seeking_unclosed whole left k (deep, e) = (suc deep, ap (depth_of 0) k.is ∙ (depth_append 0 0 k.passed left k.balanced ∙ e))

pub seeking_within : (whole left : List Pend) → Seeking whole left → length left ≤ length whole
seeking_within whole left k = let l = ap length k.is ∙ length-append k.passed left in omega (arith, l)

pub seeking_finds : (whole left : List Pend) (count : ℕ) → Seeking whole left → BeginsWith Closes left → count ≡ length whole - length left → Closing whole count
seeking_finds whole left count k (p, after, e, m) c = record {
  inner = k.passed;
  last = p;
  after = after;
  whole = k.is ∙ ap (λ xs. k.passed ++ xs) e;
  balanced = k.balanced;
  closes = m;
  size = let l = ap length k.is ∙ length-append k.passed left in omega (arith, l, c);
}

-- ---- spans

pub span_closers : (p : Pend) (ps : List Pend) (k n : ℕ) (ns : List ℕ) → mark_of p.tok ≡ Opens → HasClosers ps (k ∷ ns) → n ≡ length ps - k → HasClosers (p ∷ ps) ns × IsSpan ps n
span_closers p ps k n ns m h e =
    let c = h.1 in
    let l : length ps ≡ length c.inner + suc (length c.after) = ap length c.whole ∙ length-append c.inner (c.last ∷ c.after) in
    let j : n ≡ suc (length c.inner) = omega (arith, e, l, h.2) in
    (behind ns h.3, rw j (record { inner = c.inner; last = c.last; after = c.after; whole = c.whole; balanced = c.balanced; closes = c.closes; size = refl }))
  where
    c0 : Closing ps h.0
    c0 = h.1

    passes : depth_of 0 (p ∷ ps) ≡ depth_of 0 c0.after
    passes = ap (λ xs. depth_of 0 (p ∷ xs)) c0.whole ∙ group_passes p c0.last c0.inner c0.after m c0.balanced c0.closes

    behind : (js : List ℕ) → HasClosers c0.after js → HasClosers (p ∷ ps) js
    behind [] u = (u.0, passes ∙ u.1)
    behind (j ∷ js) u =
        let d = u.1 in
        let group : List Pend = p ∷ (c0.inner ++ c0.last ∷ []) in (
          length (group ++ d.inner),
          record {
            inner = group ++ d.inner;
            last = d.last;
            after = d.after;
            whole = ap (λ xs. p ∷ xs) (c0.whole ∙ (ap (λ xs. c0.inner ++ c0.last ∷ xs) d.whole ∙ (sym (append_assoc c0.inner (c0.last ∷ []) (d.inner ++ d.last ∷ d.after)) ∙ sym (append_assoc (c0.inner ++ c0.last ∷ []) d.inner (d.last ∷ d.after)))));
            balanced = depth_append 0 0 group d.inner (group_passes p c0.last c0.inner [] m c0.balanced c0.closes) ∙ d.balanced;
            closes = d.closes;
            size = refl;
          },
          u.2,
          u.3,
        )

-- a bracket that opens and isn't closed
pub span_unclosed : (p : Pend) (ps : List Pend) → mark_of p.tok ≡ Opens → IsUnclosed ps → (deep : ℕ) × (depth_of 0 (p ∷ ps) ≡ Some (suc deep))
span_unclosed p ps m u = (u.0, rw m (depth_suc 0 u.0 ps u.1))

pub closers_open : (p : Pend) (ps : List Pend) → mark_of p.tok ≡ Opens → HasClosers ps [] → HasClosers (p ∷ ps) []
closers_open p ps m u = let v = span_unclosed p ps m u in (suc v.0, v.1)

pub closers_close : (p : Pend) (ps : List Pend) (ns : List ℕ) (n : ℕ) → mark_of p.tok ≡ Closes → HasClosers ps ns → n ≡ length ps → HasClosers (p ∷ ps) (n ∷ ns)
closers_close p ps ns n m h e = (0, record { inner = []; last = p; after = ps; whole = refl; balanced = refl; closes = m; size = refl }, sym e, h)

pub closers_pass : (p : Pend) (ps : List Pend) (ns : List ℕ) → ((qs : List Pend) → depth_of 0 (p ∷ qs) ≡ depth_of 0 qs) → HasClosers ps ns → HasClosers (p ∷ ps) ns
closers_pass p ps [] pass h = (h.0, pass ps ∙ h.1)
closers_pass p ps (n ∷ ns) pass h =
    let c = h.1 in
    (suc h.0, record { inner = p ∷ c.inner; last = c.last; after = c.after; whole = ap (λ xs. p ∷ xs) c.whole; balanced = pass c.inner ∙ c.balanced; closes = c.closes; size = ap suc c.size }, h.2, h.3)

pub spanning_starts : (whole : List Pend) (spans closers : List ℕ) → spans ≡ [] → closers ≡ [] → Spanning whole whole spans closers
spanning_starts whole spans closers e f = record { behind = []; whole_is = sym (append-nil whole); spans_are = tt; closers_are = rw f (0, refl); count = ap length e }

pub spanning_goes : (whole left rest : List Pend) (p : Pend) (spans more closers fewer : List ℕ) (n : ℕ) → Spanning whole left spans closers → left ≡ rest ++ p ∷ [] → more ≡ spans ++ n ∷ []
    → ((ps : List Pend) → length spans ≡ length ps → HasClosers ps (reverse closers) → HasClosers (p ∷ ps) (reverse fewer) × (mark_of p.tok ≡ Opens → IsSpan ps n)) → Spanning whole rest more fewer
spanning_goes whole left rest p spans more closers fewer n k e m step =
    let q = step k.behind k.count k.closers_are in
    record {
      behind = p ∷ k.behind;
      whole_is = k.whole_is ∙ (ap (λ xs. xs ++ k.behind) e ∙ append_assoc rest (p ∷ []) k.behind);
      spans_are = subst (HasSpans (p ∷ k.behind)) (sym (ap reverse m ∙ reverse-append spans (n ∷ []))) (q.1, k.spans_are);
      closers_are = q.0;
      count = let a = ap length m ∙ length-append spans (n ∷ []) in omega (arith, a, k.count);
    }

pub spanning_ends : (whole left : List Pend) (spans closers spans' : List ℕ) → Spanning whole left spans closers → left ≡ [] → spans' ≡ reverse spans → HasSpans whole spans'
spanning_ends whole left spans closers spans' k e f = rw f (subst (λ xs. HasSpans xs (reverse spans)) (sym (k.whole_is ∙ ap (λ xs. xs ++ k.behind) e)) k.spans_are)

-- ---- spans of a part of a list

pub spans_drop : (n : ℕ) (ps : List Pend) (ns : List ℕ) → HasSpans ps ns → HasSpans (drop n ps) (drop n ns)
spans_drop zero ps ns h = h
spans_drop (suc n) [] ns h = tt
spans_drop (suc n) (p ∷ ps) [] h = absurd (let e : zero ≡ suc zero = h in cc)
spans_drop (suc n) (p ∷ ps) (k ∷ ns) h = spans_drop n ps ns h.1

take_short : (n : ℕ) (xs ys : List Pend) → n ≤ length xs → take n (xs ++ ys) ≡ take n xs
take_short zero xs ys h = refl
take_short (suc n) [] ys h = absurd (omega (arith, h))
take_short (suc n) (x ∷ xs) ys h = ap (λ zs. x ∷ zs) (take_short n xs ys (omega (arith, h)))

take_long : (n : ℕ) (xs : List Pend) (y : Pend) (ys : List Pend) → length xs < n → take n (xs ++ y ∷ ys) ≡ xs ++ y ∷ take (n - suc (length xs)) ys
take_long zero xs y ys h = absurd (omega (arith, h))
take_long (suc n) [] y ys h = let e : suc n - suc zero ≡ n = omega arith in rw e refl
take_long (suc n) (x ∷ xs) y ys h =
    let e : suc n - suc (suc (length xs)) ≡ n - suc (length xs) = omega arith in
    rw e (ap (λ zs. x ∷ zs) (take_long n xs y ys (omega (arith, h))))

take_prefix : (n : ℕ) (xs : List Pend) → take n xs ++ drop n xs ≡ xs
take_prefix zero xs = refl
take_prefix (suc n) [] = refl
take_prefix (suc n) (x ∷ xs) = ap (λ zs. x ∷ zs) (take_prefix n xs)

unclosed_take : (n : ℕ) (ps : List Pend) → IsUnclosed ps → IsUnclosed (take n ps)
unclosed_take n ps u = depth_prefix 0 u.0 (take n ps) (drop n ps) (ap (depth_of 0) (take_prefix n ps) ∙ u.1)

-- a span among tokens that are cut
pub span_cut_off : (m n : ℕ) (ps : List Pend) → IsSpan ps n → m < n → IsUnclosed (take m ps)
span_cut_off m zero ps h l = absurd (omega (arith, l))
span_cut_off m (suc n) ps c l =
    subst IsUnclosed (sym (ap (take m) c.whole ∙ take_short m c.inner (c.last ∷ c.after) (omega (arith, l, c.size)))) (unclosed_take m c.inner (0, c.balanced))

pub span_kept : (m n : ℕ) (ps : List Pend) → IsSpan ps n → n ≤ m → IsSpan (take m ps) n
span_kept m zero ps u l = unclosed_take m ps u
span_kept m (suc n) ps c l = record {
  inner = c.inner;
  last = c.last;
  after = take (m - suc (length c.inner)) c.after;
  whole = ap (take m) c.whole ∙ take_long m c.inner c.last c.after (omega (arith, l, c.size));
  balanced = c.balanced;
  closes = c.closes;
  size = c.size;
}

tail_of : List Pend → List Pend
tail_of [] = []
tail_of (p ∷ ps) = ps

head_or : Pend → List Pend → Pend
head_or q [] = q
head_or q (p ∷ ps) = p

same_tail : {p q : Pend} {ps qs : List Pend} → p ∷ ps ≡ q ∷ qs → ps ≡ qs
unfolding tail_of
same_tail e = ap tail_of e

same_head : {p q : Pend} {ps qs : List Pend} → p ∷ ps ≡ q ∷ qs → p ≡ q
unfolding head_or
same_head {q = q} e = ap (head_or q) e

head_span : (ps : List Pend) (ns : List ℕ) (from : ℕ) (q : Pend) (rs : List Pend) → HasSpans ps ns → drop from ps ≡ q ∷ rs → mark_of q.tok ≡ Opens → IsSpan rs (slice_index_or ns from 0)
head_span [] ns zero q rs h e m = absurd cc
head_span [] ns (suc from) q rs h e m = absurd cc
head_span (p ∷ ps) [] from q rs h e m = absurd (let z : zero ≡ suc zero = h in cc)
head_span (p ∷ ps) (n ∷ ns) zero q rs h e m = subst (λ xs. IsSpan xs n) (same_tail e) (h.0 (ap (λ x. mark_of x.tok) (same_head e) ∙ m))
head_span (p ∷ ps) (n ∷ ns) (suc from) q rs h e m = head_span ps ns from q rs h.1 e m

cut_span : (m n : ℕ) (ds : List Pend) (p : Pend) (qs : List Pend) → take m ds ≡ p ∷ qs → mark_of p.tok ≡ Opens → ((q : Pend) (rs : List Pend) → ds ≡ q ∷ rs → mark_of q.tok ≡ Opens → IsSpan rs n)
    → (n < m → IsSpan qs n) × (m ≤ n → IsUnclosed qs)
cut_span zero n ds p qs e o f = absurd cc
cut_span (suc m) n [] p qs e o f = absurd cc
cut_span (suc m) n (d ∷ ds) p qs e o f =
    let s : IsSpan ds n = f d ds refl (ap (λ x. mark_of x.tok) (same_head e) ∙ o) in
    (λ l. subst (λ xs. IsSpan xs n) (same_tail e) (span_kept m n ds s (omega (arith, l))), λ l. subst IsUnclosed (same_tail e) (span_cut_off m n ds s (omega (arith, l))))

pub row_span : (ps : List Pend) (ns : List ℕ) (from to n : ℕ) (now : List Pend) (p : Pend) (qs : List Pend) → HasSpans ps ns → take (to - from) (drop from ps) ≡ now → n ≡ slice_index_or ns from 0 → now ≡ p ∷ qs → mark_of p.tok ≡ Opens
    → (n < to - from → IsSpan qs n) × (to - from ≤ n → IsUnclosed qs)
row_span ps ns from to n now p qs h v e b m = cut_span (to - from) n (drop from ps) p qs (v ∙ b) m (λ q rs g o. rw e (head_span ps ns from q rs h g o))

take_none : (n : ℕ) → take n (let xs : List Pend = [] in xs) ≡ []
take_none zero = refl
take_none (suc n) = refl

drop_take : (n m : ℕ) (xs : List Pend) → drop n (take m xs) ≡ take (m - n) (drop n xs)
drop_take zero m xs = let e : m - zero ≡ m = omega arith in rw e refl
drop_take (suc n) zero xs = let e : zero - suc n ≡ zero = omega arith in rw e refl
drop_take (suc n) (suc m) [] = sym (take_none (suc m - suc n))
drop_take (suc n) (suc m) (x ∷ xs) = let e : suc m - suc n ≡ m - n = omega arith in rw e (drop_take n m xs)

pub skipped : (from to n : ℕ) (ps now : List Pend) → take (to - from) (drop from ps) ≡ now → take (to - (from + n)) (drop (from + n) ps) ≡ drop n now
skipped from to n ps now v =
    let e : to - (from + n) ≡ to - from - n = omega arith in
    ap (λ k. take k (drop (from + n) ps)) e ∙ (ap (take (to - from - n)) (sym (drop-drop n from ps)) ∙ (sym (drop_take n (to - from) (drop from ps)) ∙ ap (drop n) v))

-- ---- steps

pub step_unclosed : (ps rest : List Pend) (p : Pend) (n : ℕ) → ps ≡ p ∷ rest → mark_of p.tok ≡ Opens → IsSpan rest n → n ≡ 0 → (deep : ℕ) × (depth_of 0 ps ≡ Some (suc deep))
step_unclosed ps rest p n e m s z = let u : IsUnclosed rest = rw z at s in let v = span_unclosed p rest m u in (v.0, ap (depth_of 0) e ∙ v.1)

pub step_bracket : (ps rest : List Pend) (p : Pend) (n : ℕ) → ps ≡ p ∷ rest → mark_of p.tok ≡ Opens → IsSpan rest n → IsStep ps (bracket_step n)
step_bracket ps rest p zero e m s = step_unclosed ps rest p zero e m s refl
step_bracket ps rest p (suc n) e m c = (
  p ∷ (c.inner ++ c.last ∷ []),
  c.after,
  e ∙ ap (λ xs. p ∷ xs) (c.whole ∙ sym (append_assoc c.inner (c.last ∷ []) c.after)),
  (let l = length-append c.inner (c.last ∷ []) in omega (arith, l, c.size)),
  omega arith,
  inr (record { first = p; inner = c.inner; last = c.last; whole = refl; opens = m; balanced = c.balanced; closes = c.closes }),
)

pub step_inner : (ps rest : List Pend) (p : Pend) → ps ≡ p ∷ rest → mark_of p.tok ≡ Inner → BeginsWithItem ps 1
step_inner ps rest p e m = (p ∷ [], rest, e, refl, omega arith, inl (p, refl, m))

-- ---- tokens are gathered

depth_step : (m : Mark) (d e : ℕ) → Some e ≡ depth_at m d (λ k. Some k) → e ≤ d + 1
depth_step Opens d e h = let z : e ≡ suc d = same_some h in omega (arith, z)
depth_step Closes zero e h = absurd cc
depth_step Closes (suc d) e h = let z : e ≡ d = same_some h in omega (arith, z)
depth_step Parts d e h = let z : e ≡ d = same_some h in omega (arith, z)
depth_step Inner d e h = let z : e ≡ d = same_some h in omega (arith, z)

none_closes : (m : Mark) (d : ℕ) → None ≡ depth_at m d (λ k. Some k) → (m ≡ Closes) × (d ≡ 0)
none_closes Opens d h = absurd cc
none_closes Closes zero h = (refl, refl)
none_closes Closes (suc d) h = absurd cc
none_closes Parts d h = absurd cc
none_closes Inner d h = absurd cc

gathered_next : (whole left rest toks : List Pend) (deep : ℕ) (p : Pend) → Gathering whole left toks deep → left ≡ rest ++ p ∷ [] → reverse whole ≡ toks ++ p ∷ reverse rest
gathered_next whole left rest toks deep p k e = k.is ∙ ap (λ xs. toks ++ xs) (ap reverse e ∙ reverse-append rest (p ∷ []))

pub gathering_goes : (whole left rest toks more : List Pend) (deep deeper : ℕ) (p : Pend) → Gathering whole left toks deep → left ≡ rest ++ p ∷ [] → more ≡ toks ++ p ∷ [] → Some deeper ≡ depth_at (mark_of p.tok) deep (λ k. Some k) → Gathering whole rest more deeper
gathering_goes whole left rest toks more deep deeper p k e m d = record {
  is = gathered_next whole left rest toks deep p k e ∙ (sym (append_assoc toks (p ∷ []) (reverse rest)) ∙ ap (λ xs. xs ++ reverse rest) (sym m));
  depth = ap (depth_of 0) m ∙ (depth_append 0 deep toks (p ∷ []) k.depth ∙ sym d);
  deep_is = let a = depth_step (mark_of p.tok) deep deeper d in let b = ap length m ∙ length-append toks (p ∷ []) in let z = k.deep_is in omega (arith, a, b, z);
}

pub gathering_ends : (whole left toks : List Pend) (deep : ℕ) → Gathering whole left toks deep → left ≡ [] → IsUnclosed (reverse whole)
gathering_ends whole left toks deep k e = (deep, ap (depth_of 0) (k.is ∙ (ap (λ xs. toks ++ reverse xs) e ∙ append-nil toks)) ∙ k.depth)

pub gathering_finds : (whole left rest toks : List Pend) (deep : ℕ) (p : Pend) (e : Enclosed) → Gathering whole left toks deep → left ≡ rest ++ p ∷ [] → None ≡ depth_at (mark_of p.tok) deep (λ k. Some k) → e.toks ≡ toks → e.last ≡ p
    → IsEnclosed (reverse whole) e (reverse rest)
gathering_finds whole left rest toks deep p e k l n et el =
    let z = none_closes (mark_of p.tok) deep n in
    record {
      whole = gathered_next whole left rest toks deep p k l ∙ (ap (λ xs. xs ++ p ∷ reverse rest) (sym et) ∙ ap (λ x. e.toks ++ x ∷ reverse rest) (sym el));
      balanced = ap (depth_of 0) et ∙ (k.depth ∙ ap Some z.1);
      closes = ap (λ x. mark_of x.tok) el ∙ z.0;
    }

-- what stands before a closing bracket is taken, and it
pub row_enclosed : (old kept left new : List Pend) (count : ℕ) (p : Pend) (e : Enclosed) → Closing old count → kept ≡ take count old → left ≡ drop count old → left ≡ p ∷ new → e.toks ≡ kept → e.last ≡ p → IsEnclosed old e new
row_enclosed old kept left new count p e c k l f et el =
    let inner : e.toks ≡ c.inner = et ∙ (k ∙ (ap (take count) c.whole ∙ take_exact count c.inner (c.last ∷ c.after) c.size)) in
    let rest : p ∷ new ≡ c.last ∷ c.after = sym f ∙ (l ∙ (ap (drop count) c.whole ∙ drop_exact count c.inner (c.last ∷ c.after) c.size)) in
    record {
      whole = c.whole ∙ (ap (λ xs. xs ++ c.last ∷ c.after) (sym inner) ∙ ap (λ xs. e.toks ++ xs) (sym rest ∙ ap (λ x. x ∷ new) (sym el)));
      balanced = ap (depth_of 0) inner ∙ c.balanced;
      closes = ap (λ x. mark_of x.tok) (el ∙ same_head rest) ∙ c.closes;
    }

-- something is left behind what stands before a closing bracket
pub closing_within : (old : List Pend) (count : ℕ) → Closing old count → count < length old
closing_within old count c = let l = ap length c.whole ∙ length-append c.inner (c.last ∷ c.after) in omega (arith, l, c.size)

pub closing_left : (old left : List Pend) (count : ℕ) → Closing old count → left ≡ drop count old → left ≡ [] → zero ≡ suc zero
closing_left old left count c l e = let rest : [] ≡ c.last ∷ c.after = sym e ∙ (l ∙ (ap (drop count) c.whole ∙ drop_exact count c.inner (c.last ∷ c.after) c.size)) in cc
