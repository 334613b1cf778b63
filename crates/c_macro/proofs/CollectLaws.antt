-- Arguments, parted at commas.
use Rattle.std.proofs.Common.{◌≡◌, ℕ, zero, suc, ◌+◌, ◌-◌, ◌<◌, true, false, List, [], ◌∷◌, ◌++◌, Option, Some, None, option_map, length, take, drop, ◌≤◌, refl, sym, ap, subst, ◌∙◌, arith, append_assoc, append-nil, inl, inr, length-append}
use Rattle.c_macro.specs.declared.pend.Pend.{Pend}
use Rattle.c_macro.specs.declared.collect.Taking.{Taking}
use Rattle.c_macro.specs.Marked.{Marked}
use Rattle.c_macro.specs.Calls.{Mark, Opens, Closes, Parts, Inner, Closed, closed, closed_at, before_first, with_tok, with_end, mark_of}
use Rattle.c_macro.specs.SetData.{SetTable}
use Rattle.c_macro.specs.Pending.{mark, marks, KnownAll}
use Rattle.c_macro.specs.Rows.{depth_at, depth_of, IsUnclosed, IsItem, BeginsWith, BeginsWithItem}
use Rattle.c_macro.specs.Collecting.{rows_data, KnownRows, all_before, taking_behind, more_commas, fewer_commas, rows_size, Splitting}
use Rattle.c_macro.proofs.PendLaws.{known_front, known_back}
use Rattle.c_macro.proofs.RowLaws.{same_some, item_passes, comma_passes, take_exact, drop_exact}

one_before : (ts : List Marked) (t : Marked) (xss : List (List Marked)) → all_before ts (before_first t xss) ≡ all_before (ts ++ t ∷ []) xss
one_before [] t xss = refl
one_before (u ∷ ts) t xss = ap (before_first u) (one_before ts t xss)

end_before : (ts : List Marked) (xss : List (List Marked)) → all_before ts ([] ∷ xss) ≡ ts ∷ xss
end_before [] xss = refl
end_before (t ∷ ts) xss = ap (before_first t) (end_before ts xss)

marks_append : (s : SetTable) (ps : List Pend) (p : Pend) → marks s (ps ++ p ∷ []) ≡ marks s ps ++ mark s p ∷ []
marks_append s [] p = refl
marks_append s (q ∷ ps) p = ap (λ xs. mark s q ∷ xs) (marks_append s ps p)

rows_append : (s : SetTable) (rs : List (List Pend)) (r : List Pend) → rows_data s (rs ++ r ∷ []) ≡ rows_data s rs ++ marks s r ∷ []
rows_append s [] r = refl
rows_append s (q ∷ rs) r = ap (λ xs. marks s q ∷ xs) (rows_append s rs r)

rows_known : (s : SetTable) (rs : List (List Pend)) (r : List Pend) → KnownRows s rs → KnownAll s r → KnownRows s (rs ++ r ∷ [])
rows_known s [] r h k = (k, tt)
rows_known s (q ∷ rs) r h k = (h.0, rows_known s rs r h.1 k)

size_append : (rs : List (List Pend)) (r : List Pend) → rows_size (rs ++ r ∷ []) ≡ rows_size rs + (length r + 1)
size_append [] r = omega arith
size_append (q ∷ rs) r = let e : rows_size (rs ++ r ∷ []) ≡ rows_size rs + (length r + 1) = size_append rs r in omega (arith, e)

-- a token goes to the argument at hand
behind_tok : (args : List (List Marked)) (current : List Marked) (t : Marked) (o : Option Closed) → taking_behind args current (option_map (λ c. with_tok t c) o) ≡ taking_behind args (current ++ t ∷ []) o
behind_tok args current t None = refl
behind_tok args current t (Some c) = ap (λ xss. let r : Closed = record { args = args ++ xss; last = c.last; rest = c.rest } in Some r) (one_before current t c.args)

-- the argument at hand ends
behind_end : (args : List (List Marked)) (current : List Marked) (o : Option Closed) → taking_behind args current (option_map (λ c. with_end c) o) ≡ taking_behind (args ++ current ∷ []) [] o
behind_end args current None = refl
behind_end args current (Some c) = ap (λ xss. let r : Closed = record { args = xss; last = c.last; rest = c.rest } in Some r) (ap (λ xss. args ++ xss) (end_before current c.args) ∙ sym (append_assoc args (current ∷ []) c.args))

pub marks_both : (s : SetTable) (ps qs : List Pend) → marks s (ps ++ qs) ≡ marks s ps ++ marks s qs
marks_both s [] qs = refl
marks_both s (p ∷ ps) qs = ap (λ xs. mark s p ∷ xs) (marks_both s ps qs)

-- ---- a call that isn't closed

unclosed_step : (m : Mark) (commas : Option ℕ) (d e : ℕ) (t : Marked) (ts : List Marked) (depth : ℕ → Option ℕ) (go : Option ℕ → ℕ → Option Closed)
    → ((n : Option ℕ) (k : ℕ) → depth k ≡ Some e → go n k ≡ None) → depth_at m d depth ≡ Some e → closed_at m commas d t ts go ≡ None
unclosed_step Opens commas d e t ts depth go f h = rw (f commas (suc d) h) refl
unclosed_step Closes commas zero e t ts depth go f h = cc
unclosed_step Closes commas (suc d) e t ts depth go f h = rw (f commas d h) refl
unclosed_step Parts commas (suc d) e t ts depth go f h = rw (f commas (suc d) h) refl
unclosed_step Parts None zero e t ts depth go f h = rw (f None zero h) refl
unclosed_step Parts (Some zero) zero e t ts depth go f h = rw (f (Some zero) zero h) refl
unclosed_step Parts (Some (suc n)) zero e t ts depth go f h = rw (f (Some n) zero h) refl
unclosed_step Inner commas d e t ts depth go f h = rw (f commas d h) refl

unclosed_none : (s : SetTable) (commas : Option ℕ) (d e : ℕ) (ps : List Pend) → depth_of d ps ≡ Some e → closed commas d (marks s ps) ≡ None
unclosed_none s commas d e [] h = refl
unclosed_none s commas d e (p ∷ ps) h = unclosed_step (mark_of p.tok) commas d e (mark s p) (marks s ps) (λ n. depth_of n ps) (λ n k. closed n k (marks s ps)) (λ n k g. unclosed_none s n k e ps g) h

pub not_closed : (s : SetTable) (commas : Option ℕ) (ps : List Pend) → IsUnclosed ps → None ≡ closed commas 0 (marks s ps)
not_closed s commas ps u = sym (unclosed_none s commas 0 u.0 ps u.1)

-- ---- tokens that go to the argument at hand

inside_step : (m : Mark) (n : Option ℕ) (d e : ℕ) (args : List (List Marked)) (current : List Marked) (t : Marked) (ts us : List Marked) (depth : ℕ → Option ℕ) (go : Option ℕ → ℕ → Option Closed) (o : Option Closed)
    → ((k : ℕ) → depth k ≡ Some e → taking_behind args (current ++ t ∷ []) (go n (suc k)) ≡ o) → depth_at m d depth ≡ Some e → taking_behind args current (closed_at m n (suc d) t ts go) ≡ o
inside_step Opens n d e args current t ts us depth go o f h = behind_tok args current t (go n (suc (suc d))) ∙ f (suc d) h
inside_step Closes n zero e args current t ts us depth go o f h = absurd cc
inside_step Closes n (suc d) e args current t ts us depth go o f h = behind_tok args current t (go n (suc d)) ∙ f d h
inside_step Parts n d e args current t ts us depth go o f h = behind_tok args current t (go n (suc d)) ∙ f d h
inside_step Inner n d e args current t ts us depth go o f h = behind_tok args current t (go n (suc d)) ∙ f d h

-- tokens within brackets
inside_behind : (s : SetTable) (n : Option ℕ) (args : List (List Marked)) (current : List Marked) (d e : ℕ) (ps : List Pend) (ts : List Marked) → depth_of d ps ≡ Some e
    → taking_behind args current (closed n (suc d) (marks s ps ++ ts)) ≡ taking_behind args (current ++ marks s ps) (closed n (suc e) ts)
inside_behind s n args current d e [] ts h = ap (λ k. taking_behind args current (closed n (suc k) ts)) (same_some h) ∙ ap (λ c. taking_behind args c (closed n (suc e) ts)) (sym (append-nil current))
inside_behind s n args current d e (p ∷ ps) ts h =
    inside_step (mark_of p.tok) n d e args current (mark s p) (marks s ps ++ ts) ts (λ k. depth_of k ps) (λ c k. closed c k (marks s ps ++ ts)) (taking_behind args (current ++ marks s (p ∷ ps)) (closed n (suc e) ts))
    (λ k g. inside_behind s n args (current ++ mark s p ∷ []) k e ps ts g ∙ ap (λ c. taking_behind args c (closed n (suc e) ts)) (append_assoc current (mark s p ∷ []) (marks s ps))) h

inner_behind : (s : SetTable) (n : Option ℕ) (args : List (List Marked)) (current : List Marked) (p : Pend) (ts : List Marked) → mark_of p.tok ≡ Inner
    → taking_behind args current (closed n 0 (mark s p ∷ ts)) ≡ taking_behind args (current ++ mark s p ∷ []) (closed n 0 ts)
inner_behind s n args current p ts m = rw m (behind_tok args current (mark s p) (closed n 0 ts))

kept_behind : (s : SetTable) (n : Option ℕ) (args : List (List Marked)) (current : List Marked) (p : Pend) (ts : List Marked) → mark_of p.tok ≡ Parts → more_commas n ≡ false
    → taking_behind args current (closed n 0 (mark s p ∷ ts)) ≡ taking_behind args (current ++ mark s p ∷ []) (closed n 0 ts)
kept_behind s None args current p ts m h = absurd cc
kept_behind s (Some zero) args current p ts m h = rw m (behind_tok args current (mark s p) (closed (Some zero) 0 ts))
kept_behind s (Some (suc n)) args current p ts m h = absurd cc

parted_behind : (s : SetTable) (n : Option ℕ) (args : List (List Marked)) (current : List Marked) (p : Pend) (ts : List Marked) → mark_of p.tok ≡ Parts → more_commas n ≡ true
    → taking_behind args current (closed n 0 (mark s p ∷ ts)) ≡ taking_behind (args ++ current ∷ []) [] (closed (fewer_commas n) 0 ts)
parted_behind s None args current p ts m h = rw m (behind_end args current (closed None 0 ts))
parted_behind s (Some zero) args current p ts m h = absurd cc
parted_behind s (Some (suc n)) args current p ts m h = rw m (behind_end args current (closed (Some n) 0 ts))

group_behind : (s : SetTable) (n : Option ℕ) (args : List (List Marked)) (current : List Marked) (p last : Pend) (inner : List Pend) (ts : List Marked) → mark_of p.tok ≡ Opens → depth_of 0 inner ≡ Some 0 → mark_of last.tok ≡ Closes
    → taking_behind args current (closed n 0 (mark s p ∷ (marks s inner ++ mark s last ∷ ts))) ≡ taking_behind args (((current ++ mark s p ∷ []) ++ marks s inner) ++ mark s last ∷ []) (closed n 0 ts)
group_behind s n args current p last inner ts o b c =
    rw o (behind_tok args current (mark s p) (closed n 1 (marks s inner ++ mark s last ∷ ts)) ∙ (inside_behind s n args (current ++ mark s p ∷ []) 0 0 inner (mark s last ∷ ts) b ∙ last_behind))
  where
    last_behind : taking_behind args ((current ++ mark s p ∷ []) ++ marks s inner) (closed n 1 (mark s last ∷ ts)) ≡ taking_behind args (((current ++ mark s p ∷ []) ++ marks s inner) ++ mark s last ∷ []) (closed n 0 ts)
    last_behind = rw c (behind_tok args ((current ++ mark s p ∷ []) ++ marks s inner) (mark s last) (closed n 0 ts))

pub item_behind : (s : SetTable) (n : Option ℕ) (args : List (List Marked)) (current : List Marked) (item : List Pend) (ts : List Marked) → IsItem item
    → taking_behind args current (closed n 0 (marks s item ++ ts)) ≡ taking_behind args (current ++ marks s item) (closed n 0 ts)
item_behind s n args current item ts (inl (p, e, m)) = rw e (inner_behind s n args current p ts m)
item_behind s n args current item ts (inr g) =
    let t = mark s g.first in
    let u = mark s g.last in
    let e : marks s item ≡ t ∷ (marks s g.inner ++ u ∷ []) = ap (marks s) g.whole ∙ ap (λ xs. t ∷ xs) (marks_both s g.inner (g.last ∷ [])) in
    ap (λ xs. taking_behind args current (closed n 0 (xs ++ ts))) e
    ∙ (ap (λ xs. taking_behind args current (closed n 0 (t ∷ xs))) (append_assoc (marks s g.inner) (u ∷ []) ts)
    ∙ (group_behind s n args current g.first g.last g.inner ts g.opens g.balanced g.closes
    ∙ ap (λ xs. taking_behind args xs (closed n 0 ts)) (append_assoc (current ++ t ∷ []) (marks s g.inner) (u ∷ []) ∙ (append_assoc current (t ∷ []) (marks s g.inner ++ u ∷ []) ∙ ap (λ xs. current ++ xs) (sym e)))))

-- ---- a row is parted

pub splitting_starts : (row : List Pend) (commas : Option ℕ) (t : Taking) → depth_of 0 row ≡ Some 0 → t.args.items ≡ [] → t.here ≡ row → t.left ≡ row → t.commas ≡ commas → Splitting row commas t
splitting_starts row commas t b a h l n = record {
  current = [];
  here = h ∙ sym l;
  balanced = ap (depth_of 0) l ∙ b;
  is = λ s ts. rw (a, l, n) (same (closed commas 0 (marks s row ++ ts)));
  size = let e : rows_size t.args.items ≡ 0 = ap rows_size a in let f : length t.here ≡ length row = ap length h in omega (arith, e, f);
  known = λ s k. (rw a tt, rw h k);
}
  where
    same : (o : Option Closed) → taking_behind [] [] o ≡ o
    same None = refl
    same (Some c) = refl

-- tokens go to the argument at hand
moved : (row : List Pend) (commas : Option ℕ) (t u : Taking) (item after : List Pend) (n : ℕ) (k : Splitting row commas t) → t.left ≡ item ++ after → length item ≡ n → depth_of 0 (item ++ after) ≡ depth_of 0 after
    → ((s : SetTable) (ts : List Marked) → taking_behind (rows_data s t.args.items) (marks s k.current) (closed t.commas 0 (marks s item ++ ts)) ≡ taking_behind (rows_data s t.args.items) (marks s k.current ++ marks s item) (closed t.commas 0 ts))
    → u.left ≡ drop n t.left → u.args ≡ t.args → u.here ≡ t.here → u.commas ≡ t.commas → Splitting row commas u
moved row commas t u item after n k e l passes behind ul ua uh un = record {
  current = k.current ++ item;
  here = uh ∙ (k.here ∙ (ap (λ xs. k.current ++ xs) e ∙ (sym (append_assoc k.current item after) ∙ ap (λ xs. (k.current ++ item) ++ xs) (sym left))));
  balanced = ap (depth_of 0) left ∙ (sym passes ∙ (ap (depth_of 0) (sym e) ∙ k.balanced));
  is = λ s ts.
      let a : marks s t.left ++ ts ≡ marks s item ++ (marks s after ++ ts) = ap (λ xs. marks s xs ++ ts) e ∙ (ap (λ xs. xs ++ ts) (marks_both s item after) ∙ append_assoc (marks s item) (marks s after) ts) in
      rw (ua, un, left) (ap (λ xs. taking_behind (rows_data s t.args.items) xs (closed t.commas 0 (marks s after ++ ts))) (marks_both s k.current item)
      ∙ (sym (behind s (marks s after ++ ts)) ∙ (ap (λ xs. taking_behind (rows_data s t.args.items) (marks s k.current) (closed t.commas 0 xs)) (sym a) ∙ k.is s ts)));
  size = rw (ua, uh) k.size;
  known = λ s h. rw (ua, uh) (k.known s h);
}
  where
    left : u.left ≡ after
    left = ul ∙ (ap (drop n) e ∙ drop_exact n item after l)

splitting_item : (row : List Pend) (commas : Option ℕ) (t u : Taking) (item after : List Pend) (n : ℕ) → Splitting row commas t → t.left ≡ item ++ after → length item ≡ n → IsItem item
    → u.left ≡ drop n t.left → u.args ≡ t.args → u.here ≡ t.here → u.commas ≡ t.commas → Splitting row commas u
splitting_item row commas t u item after n k e l i ul ua uh un =
    moved row commas t u item after n k e l (item_passes item after i) (λ s ts. item_behind s t.commas (rows_data s t.args.items) (marks s k.current) item ts i) ul ua uh un

splitting_kept : (row : List Pend) (commas : Option ℕ) (t u : Taking) (p : Pend) (after : List Pend) → Splitting row commas t → t.left ≡ p ∷ after → mark_of p.tok ≡ Parts → more_commas t.commas ≡ false
    → u.left ≡ drop 1 t.left → u.args ≡ t.args → u.here ≡ t.here → u.commas ≡ t.commas → Splitting row commas u
splitting_kept row commas t u p after k e m more ul ua uh un =
    moved row commas t u (p ∷ []) after 1 k e refl (comma_passes p after m) (λ s ts. kept_behind s t.commas (rows_data s t.args.items) (marks s k.current) p ts m more) ul ua uh un

-- the argument at hand ends
splitting_part : (row : List Pend) (commas : Option ℕ) (t u : Taking) (p : Pend) (after : List Pend) → Splitting row commas t → t.left ≡ p ∷ after → mark_of p.tok ≡ Parts → more_commas t.commas ≡ true
    → u.left ≡ drop 1 t.left → u.here ≡ drop 1 t.left → u.args.items ≡ t.args.items ++ take (length t.here - length t.left) t.here ∷ [] → u.commas ≡ fewer_commas t.commas → Splitting row commas u
splitting_part row commas t u p after k e m more ul uh ua un = record {
  current = [];
  here = uh ∙ sym ul;
  balanced = ap (depth_of 0) left ∙ (sym (comma_passes p after m) ∙ (ap (depth_of 0) (sym e) ∙ k.balanced));
  is = λ s ts.
      rw (args, un, left) (ap (λ xss. taking_behind xss [] (closed (fewer_commas t.commas) 0 (marks s after ++ ts))) (rows_append s t.args.items k.current)
      ∙ (sym (parted_behind s t.commas (rows_data s t.args.items) (marks s k.current) p (marks s after ++ ts) m more)
      ∙ (ap (λ xs. taking_behind (rows_data s t.args.items) (marks s k.current) (closed t.commas 0 (marks s xs ++ ts))) (sym e) ∙ k.is s ts)));
  size =
      let a : rows_size u.args.items ≡ rows_size t.args.items + (length k.current + 1) = ap rows_size args ∙ size_append t.args.items k.current in
      let b : length t.here ≡ length k.current + length (p ∷ after) = ap length (k.here ∙ ap (λ xs. k.current ++ xs) e) ∙ length-append k.current (p ∷ after) in
      let c : length u.here ≡ length after = ap length here in
      let z = k.size in
      omega (arith, a, b, c, z);
  known = λ s h.
      let q = k.known s h in
      let q1 : KnownAll s (k.current ++ p ∷ after) = subst (KnownAll s) (k.here ∙ ap (λ xs. k.current ++ xs) e) q.1 in
      (rw args (rows_known s t.args.items k.current q.0 (known_front s k.current (p ∷ after) q1)), rw here (known_back s k.current (p ∷ after) q1).1);
}
  where
    left : u.left ≡ after
    left = ul ∙ ap (drop 1) e

    here : u.here ≡ after
    here = uh ∙ ap (drop 1) e

    args : u.args.items ≡ t.args.items ++ k.current ∷ []
    args = ua ∙ ap (λ xs. t.args.items ++ xs ∷ []) (ap (take (length t.here - length t.left)) k.here ∙ take_exact (length t.here - length t.left) k.current t.left (let l = ap length k.here ∙ length-append k.current t.left in omega (arith, l)))

pub splitting_within : (row : List Pend) (commas : Option ℕ) (t : Taking) → Splitting row commas t → length t.left ≤ length t.here
splitting_within row commas t k = let l = ap length k.here ∙ length-append k.current t.left in omega (arith, l)

-- a step that goes on
abbrev pub Next : List Pend → Option ℕ → Taking → Taking → Type 0
Next row commas t u = Splitting row commas u × (true ≡ true → length u.left < length t.left) × (true ≡ false → u.left ≡ [])

less_left : (left rest item after : List Pend) (n : ℕ) → left ≡ item ++ after → length item ≡ n → 0 < n → rest ≡ drop n left → length rest < length left
less_left left rest item after n e l some d =
    let a = ap length e ∙ length-append item after in
    let b : length rest ≡ length after = ap length (d ∙ (ap (drop n) e ∙ drop_exact n item after l)) in
    omega (arith, a, b, l, some)

pub next_part : (row : List Pend) (commas : Option ℕ) (t u : Taking) → Splitting row commas t → BeginsWith Parts t.left → more_commas t.commas ≡ true
    → u.left ≡ drop 1 t.left → u.here ≡ drop 1 t.left → u.args.items ≡ t.args.items ++ take (length t.here - length t.left) t.here ∷ [] → u.commas ≡ fewer_commas t.commas → Next row commas t u
next_part row commas t u k (p, after, e, m) more ul uh ua un =
    (splitting_part row commas t u p after k e m more ul uh ua un, λ z. less_left t.left u.left (p ∷ []) after 1 e refl (omega arith) ul, λ z. absurd cc)

pub next_kept : (row : List Pend) (commas : Option ℕ) (t u : Taking) → Splitting row commas t → BeginsWith Parts t.left → more_commas t.commas ≡ false
    → u.left ≡ drop 1 t.left → u.args ≡ t.args → u.here ≡ t.here → u.commas ≡ t.commas → Next row commas t u
next_kept row commas t u k (p, after, e, m) more ul ua uh un =
    (splitting_kept row commas t u p after k e m more ul ua uh un, λ z. less_left t.left u.left (p ∷ []) after 1 e refl (omega arith) ul, λ z. absurd cc)

pub next_item : (row : List Pend) (commas : Option ℕ) (t u : Taking) (n : ℕ) → Splitting row commas t → BeginsWithItem t.left n
    → u.left ≡ drop n t.left → u.args ≡ t.args → u.here ≡ t.here → u.commas ≡ t.commas → Next row commas t u
next_item row commas t u n k (item, after, e, l, some, i) ul ua uh un =
    (splitting_item row commas t u item after n k e l i ul ua uh un, λ z. less_left t.left u.left item after n e l some ul, λ z. absurd cc)

-- ---- all arguments

pub split_is : (row : List Pend) (commas : Option ℕ) (t : Taking) (args : List (List Pend)) → Splitting row commas t → t.left ≡ [] → args ≡ t.args.items ++ t.here ∷ []
    → (s : SetTable) (last : Marked) (rest : List Marked) → mark_of last.tok ≡ Closes → closed commas 0 (marks s row ++ last ∷ rest) ≡ Some (record { args = rows_data s args; last = last; rest = rest })
split_is row commas t args k l a s last rest m =
    sym (k.is s (last ∷ rest))
    ∙ (ap (λ xs. taking_behind (rows_data s t.args.items) (marks s k.current) (closed t.commas 0 (marks s xs ++ last ∷ rest))) l
    ∙ (rw m (ap (λ xss. let r : Closed = record { args = rows_data s t.args.items ++ xss; last = last; rest = rest } in Some r) (end_before (marks s k.current) []))
    ∙ ap (λ xss. let r : Closed = record { args = xss; last = last; rest = rest } in Some r) (sym (rows_append s t.args.items k.current) ∙ ap (rows_data s) (sym all))))
  where
    all : args ≡ t.args.items ++ k.current ∷ []
    all = a ∙ ap (λ xs. t.args.items ++ xs ∷ []) (k.here ∙ (ap (λ xs. k.current ++ xs) l ∙ append-nil k.current))

pub split_known : (row : List Pend) (commas : Option ℕ) (t : Taking) (args : List (List Pend)) → Splitting row commas t → args ≡ t.args.items ++ t.here ∷ [] → (s : SetTable) → KnownAll s row → KnownRows s args
split_known row commas t args k a s h = let q = k.known s h in rw a (rows_known s t.args.items t.here q.0 q.1)

pub split_size : (row : List Pend) (commas : Option ℕ) (t : Taking) (args : List (List Pend)) → Splitting row commas t → args ≡ t.args.items ++ t.here ∷ [] → rows_size args ≡ length row + 1
split_size row commas t args k a = let e : rows_size args ≡ rows_size t.args.items + (length t.here + 1) = ap rows_size a ∙ size_append t.args.items t.here in let z = k.size in omega (arith, e, z)
