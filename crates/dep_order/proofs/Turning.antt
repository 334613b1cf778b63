-- Placing one node after another keeps what is kept.
use Rattle.std.proofs.Common.{◌≡◌, ◌∙◌, ◌+◌, ◌<◌, ◌≤◌, ◌++◌, ◌⊎◌, ◌∷◌, [], ℕ, zero, suc, Bool, true, false, List, Option, Some, None, IfSome, length, map, take, drop, replicate, slice_get, slice_index_or, slice_set, refl, sym, ap, subst, inl, inr, arith, length-append, length-set}
use Rattle.std.proofs.lemmas.Bool.Decides.{nat_tests}
use Rattle.std.proofs.lemmas.List.{length-replicate, length-map, get_or-map, get_or_past, drop_more, take_all, get_or-take, length-take-le}
use Rattle.std.proofs.lemmas.Option.{slice_get-get_or}
use Rattle.std.specs.List.Sorted.{IsPermutation}
use Rattle.edt_base.proofs.OrderLaws.{order_from_places}
use Rattle.std.proofs.Common.{Result, Ok, Err, IfOk, IfErr, Vec}
use Rattle.std.specs.declared.alloc.Global.{Global}
use Rattle.dep_order.specs.Order.{IsEnd}
use Rattle.dep_order.specs.declared.ends.OrderEnd.{OrderEnd}
use Rattle.dep_order.specs.declared.ends.OrderEnd.TheVariants as ending
use Rattle.std.specs.List.{All, Contains, list_all, prefix_len, range_with_len}
use Rattle.std.proofs.Common.{nat_lt}
use Rattle.std.specs.BTreeSet.{insert_key}
use Rattle.std.specs.BTreeMap.Range.{IsLtBy}
use Rattle.std.specs.Ordering.{nat_cmp}
use Rattle.std.proofs.lemmas.List.{get_or-set_same, length-drop}
use Rattle.std.proofs.lemmas.List.Elements.{All-nil, All-append, All-get_or, All-contains, All-weaker, Contains-push, Contains-push_cases, Contains-append_left}
use Rattle.std.proofs.lemmas.Bool.{cases_eq, cases_lt, and_parts, ltb-true}
use Rattle.dep_order.specs.Order.{required, AreWithin, IsReady, IsNext, IsFull, IsOrder, IsStuck}
use Rattle.dep_order.specs.Turns.{TurnsData, lists, is_true, is_done, open_count, met_from, sent, settled, marked, IsMet, IsWaiting, is_ready, waits, comes, IsUnderWay, start, starter, starters}
use Rattle.dep_order.specs.declared.turns.Waiter.{Waiter}
use Rattle.dep_order.proofs.Listing.{contains_at, place_of, here, there, cons_cases, none_in, in_set, into_set, inserted, insert_kept, inserted_cases, prefix_pass, prefix_next, prefix_le}
use Rattle.dep_order.proofs.Placings.{placing_more}

-- ---- sending a node

-- how many are met, once more: all of them are placed, and the next one isn't
pub record IsFirstOpen (done : List Bool) (ids : List ℕ) (met : ℕ) : Type 0 where
  pub within : met ≤ length ids
  pub before : All (λ q. is_done done q ≡ true) (take met ids)
  pub next : (q : ℕ) → slice_get ids met ≡ Some q → is_done done q ≡ false

-- an element after others
get_drop : {X : Type 0} (n k : ℕ) (xs : List X) → slice_get (drop n xs) k ≡ slice_get xs (n + k)
get_drop zero k xs = ap (slice_get xs) (omega arith)
get_drop (suc n) k [] = refl
get_drop (suc n) k (x ∷ xs) = let e : suc (n + k) ≡ suc n + k = omega arith in subst (λ m. slice_get (drop n xs) k ≡ slice_get (x ∷ xs) m) e (get_drop n k xs)

no_more : {X : Type 0} (j : ℕ) → take j (let xs : List X = [] in xs) ≡ []
no_more zero = refl
no_more (suc j) = refl

take_both : {X : Type 0} (n k : ℕ) (xs : List X) → take (n + k) xs ≡ take n xs ++ take k (drop n xs)
take_both zero k xs = ap (λ m. take m xs) (omega arith)
take_both {X = X} (suc n) k [] = let e : suc (n + k) ≡ suc n + k = omega arith in let nil : List X = [] in subst (λ m. take m nil ≡ nil ++ take k nil) e (sym (no_more k))
take_both (suc n) k (x ∷ xs) = let e : suc (n + k) ≡ suc n + k = omega arith in
    subst (λ m. take m (x ∷ xs) ≡ x ∷ take n xs ++ take k (drop n xs)) e (ap (λ ys. x ∷ ys) (take_both n k xs))

first_open : (done : List Bool) (ids : List ℕ) (from : ℕ) → from ≤ length ids → All (λ q. is_done done q ≡ true) (take from ids)
    → IsFirstOpen done ids (met_from done ids from)
first_open done ids from within before = record {
  within = omega (arith, prefix_le (is_done done) (drop from ids), length-drop from ids);
  before = subst (λ ys. All (λ q. is_done done q ≡ true) ys) (sym (take_both from (prefix_len (is_done done) (drop from ids)) ids))
      (All-append (λ q. is_done done q ≡ true) (take from ids) (take (prefix_len (is_done done) (drop from ids)) (drop from ids)) before (prefix_pass (is_done done) (drop from ids)));
  next = λ q e. prefix_next (is_done done) (drop from ids) q (get_drop from (prefix_len (is_done done) (drop from ids)) ids ∙ e);
}

-- sent to wait, or to those that are ready
send_by : (needs : List (List ℕ)) (t : TurnsData) (w : Waiter) (ws : List Waiter) (met : ℕ) (o : Option ℕ) → slice_get (required needs w.id) met ≡ o
    → AreWithin needs → IsUnderWay needs t (w ∷ ws) → IsFirstOpen t.done (required needs w.id) met → IsUnderWay needs (sent t w.id met o) ws
send_by needs t w ws met (Some q) e within u f =
    let own : IsMet needs t.order w = u.met w (here w ws) in
    let new : Waiter = record { id = w.id; met = met } in
    let before : All (Contains t.order) (take met (required needs w.id)) = All-weaker (λ p. is_done t.done p ≡ true) (Contains t.order) u.done (take met (required needs w.id)) f.before in
    let there_q : q < length needs = within w.id q (contains_at (required needs w.id) met q e) in
    let open_q : Contains t.order q → ⊥ = λ c. let a : is_done t.done q ≡ true = u.undone q c in let b : is_done t.done q ≡ false = f.next q e in cc in
    let own_wait : IsWaiting needs t.order q new = record { met = record { there = own.there; left = own.left; within = omega (arith, f.within); before = before }; waits = e; left = open_q } in
    let mine : List Waiter = slice_index_or t.waiting q [] in
    let within_lists : q < length t.waiting = omega (arith, u.queues) in
    let placed_here : slice_index_or (slice_set t.waiting q (mine ++ new ∷ [])) q [] ≡ mine ++ new ∷ [] = get_or-set_same t.waiting q (mine ++ new ∷ []) [] within_lists in
    let sent_here : (v : Waiter) → Contains (mine ++ new ∷ []) v → Contains (slice_index_or (slice_set t.waiting q (mine ++ new ∷ [])) q []) v =
    λ v c. subst (λ xs. Contains xs v) (sym placed_here) c in
    record {
      placing = u.placing;
      marks = u.marks;
      queues = length-set t.waiting q (mine ++ new ∷ []) ∙ u.queues;
      counted = u.counted;
      done = u.done;
      undone = u.undone;
      ready = u.ready;
      waits = λ p v c. elim (in_set t.waiting q (mine ++ new ∷ []) p v c) [
        | inl (at, d) ↦ elim (Contains-push_cases mine new v d) [
          | inl old ↦ subst (λ j. IsWaiting needs t.order j v) (sym at) (u.waits q v old)
          | inr same ↦ subst (λ j. IsWaiting needs t.order j v) (sym at) (subst (λ x. IsWaiting needs t.order q x) same own_wait)
        ]
        | inr old ↦ u.waits p v old
      ];
      met = λ v c. u.met v (there w ws v c);
      heard = λ id there_id left. elim (u.heard id there_id left) [
        | is_ready c ↦ is_ready c
        | waits p v c same ↦ elim (into_set t.waiting q (mine ++ new ∷ []) p v c) [
          | inl (at, d) ↦ waits q v (sent_here v (Contains-append_left mine (new ∷ []) v (subst (λ j. Contains (slice_index_or t.waiting j []) v) at d))) same
          | inr d ↦ waits p v d same
        ]
        | comes v c same ↦ elim (cons_cases w ws v c) [
          | inl e' ↦ waits q new (sent_here new (Contains-push mine new)) (ap (λ (x : Waiter). x.id) e' ∙ same)
          | inr d ↦ comes v d same
        ]
      ];
    }
send_by needs t w ws met None e within u f =
    let own : IsMet needs t.order w = u.met w (here w ws) in
    let all : take met (required needs w.id) ≡ required needs w.id = past (required needs w.id) met e in
    let after : All (Contains t.order) (required needs w.id) = subst (λ ys. All (Contains t.order) ys) all
    (All-weaker (λ p. is_done t.done p ≡ true) (Contains t.order) u.done (take met (required needs w.id)) f.before) in
    record {
      placing = u.placing;
      marks = u.marks;
      queues = u.queues;
      counted = u.counted;
      done = u.done;
      undone = u.undone;
      ready = λ id c. elim (inserted_cases t.ready w.id id c) [
        | inl same ↦ subst (λ x. IsReady needs t.order x) (sym same) (record { there = own.there; left = own.left; after = after })
        | inr d ↦ u.ready id d
      ];
      waits = u.waits;
      met = λ v c. u.met v (there w ws v c);
      heard = λ id there_id left. elim (u.heard id there_id left) [
        | is_ready c ↦ is_ready (insert_kept t.ready w.id id c)
        | waits p v c same ↦ waits p v c same
        | comes v c same ↦ elim (cons_cases w ws v c) [
          | inl e' ↦ is_ready (subst (λ x. Contains (insert_key nat_cmp t.ready w.id) x) (ap (λ (x : Waiter). x.id) e' ∙ same) (inserted t.ready w.id))
          | inr d ↦ comes v d same
        ]
      ];
    }
  where
    past : (xs : List ℕ) (n : ℕ) → slice_get xs n ≡ None → take n xs ≡ xs
    past [] zero h = refl
    past [] (suc n) h = refl
    past (x ∷ xs) zero h = cc
    past (x ∷ xs) (suc n) h = ap (λ ys. x ∷ ys) (past xs n h)

pub settle_step : (needs : List (List ℕ)) (t : TurnsData) (w : Waiter) (ws : List Waiter) → AreWithin needs → IsUnderWay needs t (w ∷ ws)
    → IsUnderWay needs (settled needs t w) ws
settle_step needs t w ws within u =
    let own : IsMet needs t.order w = u.met w (here w ws) in
    let before : All (λ q. is_done t.done q ≡ true) (take w.met (required needs w.id)) =
    All-weaker (Contains t.order) (λ q. is_done t.done q ≡ true) u.undone (take w.met (required needs w.id)) own.before in
    let met : ℕ = met_from t.done (required needs w.id) w.met in
    send_by needs t w ws met (slice_get (required needs w.id) met) refl within u (first_open t.done (required needs w.id) w.met (omega (arith, own.within)) before)

-- ---- placing a node

open_set : (ds : List Bool) (i : ℕ) → is_done ds i ≡ false → i < length ds → open_count (slice_set ds i true) + 1 ≡ open_count ds
open_set [] i e within = absurd (omega arith)
open_set (true ∷ ds) zero e within = cc
open_set (false ∷ ds) zero e within = refl
open_set (true ∷ ds) (suc i) e within = open_set ds i e (omega arith)
open_set (false ∷ ds) (suc i) e within = ap (λ n. n + 1) (open_set ds i e (omega arith))

less_than : (a b : ℕ) → IsLtBy nat_cmp a b → a < b
less_than a b h = grind (arith, nat_tests)

-- what is left of a node that comes next: it is the first of those that are ready
first_ready : (needs : List (List ℕ)) (t : TurnsData) (id : ℕ) (others : List ℕ) → IsUnderWay needs t [] → t.ready ≡ id ∷ others → All (IsLtBy nat_cmp id) others
    → IsNext needs t.order id
first_ready needs t id others u e above = record {
  ready = u.ready id (subst (λ xs. Contains xs id) (sym e) (here id others));
  first = λ other r. elim (u.heard other r.there r.left) [
    | is_ready c ↦ elim (cons_cases id others other (subst (λ xs. Contains xs other) e c)) [
      | inl same ↦ omega arith
      | inr d ↦ let above_id : id < other = less_than id other (All-contains (IsLtBy nat_cmp id) others other above d) in omega arith
    ]
    | waits q w c same ↦ let i : IsWaiting needs t.order q w = u.waits q w c in
        let r' : IsReady needs t.order w.id = subst (λ x. IsReady needs t.order x) (sym same) r in
        absurd (i.left (All-contains (Contains t.order) (required needs w.id) q r'.after (contains_at (required needs w.id) w.met q i.waits)))
    | comes w c same ↦ absurd (none_in w c)
  ];
}

-- what waits is still to be sent when another node is placed
still_met : (needs : List (List ℕ)) (order : List ℕ) (id q : ℕ) (w : Waiter) → IsReady needs order id → IsWaiting needs order q w → IsMet needs (order ++ id ∷ []) w
still_met needs order id q w r i = record {
  there = i.met.there;
  left = λ c. elim (Contains-push_cases order id w.id c) [
    | inl old ↦ i.met.left old
    | inr same ↦ let r' : IsReady needs order w.id = subst (λ x. IsReady needs order x) same r in
        i.left (All-contains (Contains order) (required needs w.id) q r'.after (contains_at (required needs w.id) w.met q i.waits))
  ];
  within = i.met.within;
  before = All-weaker (Contains order) (Contains (order ++ id ∷ [])) (λ p c. Contains-append_left order (id ∷ []) p c) (take w.met (required needs w.id)) i.met.before;
}

-- the marks after one node more
marked_cases : (ds : List Bool) (id x : ℕ) → is_done (slice_set ds id true) x ≡ true → (x ≡ id) ⊎ (is_done ds x ≡ true)
marked_cases [] id x e = inr e
marked_cases (d ∷ ds) zero zero e = inl refl
marked_cases (d ∷ ds) zero (suc x) e = inr e
marked_cases (d ∷ ds) (suc id) zero e = inr e
marked_cases (d ∷ ds) (suc id) (suc x) e = elim (marked_cases ds id x e) [ inl h ↦ inl (ap suc h) | inr h ↦ inr h ]

marked_kept : (ds : List Bool) (id x : ℕ) → is_done ds x ≡ true → is_done (slice_set ds id true) x ≡ true
marked_kept [] id x e = e
marked_kept (d ∷ ds) zero zero e = refl
marked_kept (d ∷ ds) zero (suc x) e = e
marked_kept (d ∷ ds) (suc id) zero e = e
marked_kept (d ∷ ds) (suc id) (suc x) e = marked_kept ds id x e

not_true : (b : Bool) → (b ≡ true → ⊥) → b ≡ false
not_true true h = absurd (h refl)
not_true false h = refl

pub mark_step : (needs : List (List ℕ)) (t : TurnsData) (id : ℕ) (others : List ℕ) → IsUnderWay needs t [] → t.ready ≡ id ∷ others → All (IsLtBy nat_cmp id) others
    → IsUnderWay needs (marked (record t { ready = others }) id) (slice_index_or t.waiting id [])
mark_step needs t id others u e above =
    let next : IsNext needs t.order id = first_ready needs t id others u e above in
    let r : IsReady needs t.order id = next.ready in
    let fresh : is_done t.done id ≡ false = not_true (is_done t.done id) (λ h. r.left (u.done id h)) in
    let in_marks : id < length t.done = omega (arith, r.there, u.marks) in
    let in_lists : id < length t.waiting = omega (arith, r.there, u.queues) in
    let own : Contains (t.order ++ id ∷ []) id = Contains-push t.order id in
    let more : (x : ℕ) → Contains t.order x → Contains (t.order ++ id ∷ []) x = λ x c. Contains-append_left t.order (id ∷ []) x c in
    record {
      placing = placing_more needs t.order id u.placing next;
      marks = length-set t.done id true ∙ u.marks;
      queues = length-set t.waiting id [] ∙ u.queues;
      counted = omega (arith, u.counted, open_set t.done id fresh in_marks, length-append t.order (id ∷ []));
      done = λ x h. elim (marked_cases t.done id x h) [
        | inl same ↦ subst (λ y. Contains (t.order ++ id ∷ []) y) (sym same) own
        | inr old ↦ more x (u.done x old)
      ];
      undone = λ x c. elim (Contains-push_cases t.order id x c) [
        | inl old ↦ marked_kept t.done id x (u.undone x old)
        | inr same ↦ subst (λ y. is_done (slice_set t.done id true) y ≡ true) same (get_or-set_same t.done id true false in_marks)
      ];
      ready = λ x c. let rx : IsReady needs t.order x = u.ready x (subst (λ xs. Contains xs x) (sym e) (there id others x c)) in
          let above_id : id < x = less_than id x (All-contains (IsLtBy nat_cmp id) others x above c) in
          record {
            there = rx.there;
            left = λ d. elim (Contains-push_cases t.order id x d) [ inl old ↦ rx.left old | inr same ↦ omega arith ];
            after = All-weaker (Contains t.order) (Contains (t.order ++ id ∷ [])) more (required needs x) rx.after;
          };
      waits = λ q w c. elim (in_set t.waiting id [] q w c) [
        | inl (at, d) ↦ absurd (none_in w d)
        | inr old ↦ elim (cases_eq q id) [
          | inl at ↦ absurd (none_in w (subst (λ xs. Contains xs w) (get_or-set_same t.waiting id [] [] in_lists) (subst (λ j. Contains (slice_index_or (slice_set t.waiting id []) j []) w) at c)))
          | inr apart ↦ let i : IsWaiting needs t.order q w = u.waits q w old in
              record {
                met = still_met needs t.order id q w r i;
                waits = i.waits;
                left = λ d. elim (Contains-push_cases t.order id q d) [ inl was ↦ i.left was | inr same ↦ apart (sym same) ];
              }
        ]
      ];
      met = λ w c. still_met needs t.order id id w r (u.waits id w c);
      heard = λ x there_x left. elim (u.heard x there_x (λ d. left (more x d))) [
        | is_ready c ↦ elim (cons_cases id others x (subst (λ xs. Contains xs x) e c)) [
          | inl same ↦ absurd (left (subst (λ y. Contains (t.order ++ id ∷ []) y) same own))
          | inr d ↦ is_ready d
        ]
        | waits q w c same ↦ elim (into_set t.waiting id [] q w c) [
          | inl (at, d) ↦ comes w (subst (λ j. Contains (slice_index_or t.waiting j []) w) at d) same
          | inr d ↦ waits q w d same
        ]
        | comes w c same ↦ absurd (none_in w c)
      ];
    }

-- ---- beginning and end

range_has : (a n i : ℕ) → i < n → Contains (range_with_len a n) (a + i)
range_has a zero i h = absurd (omega arith)
range_has a (suc n) zero h = let e : a ≡ a + 0 = omega arith in subst (λ m. Contains (a ∷ range_with_len (a + 1) n) m) e (here a (range_with_len (a + 1) n))
range_has a (suc n) (suc i) h = let e : (a + 1) + i ≡ a + suc i = omega arith in
    there a (range_with_len (a + 1) n) (a + suc i) (subst (λ m. Contains (range_with_len (a + 1) n) m) e (range_has (a + 1) n i (omega arith)))

map_has : {X Y : Type 0} (f : X → Y) (xs : List X) (x : X) → Contains xs x → Contains (map f xs) (f x)
map_has f [] x c = absurd (none_in x c)
map_has f (y ∷ ys) x c = elim (cons_cases y ys x c) [
  | inl e ↦ subst (λ z. Contains (f y ∷ map f ys) (f z)) e (here (f y) (map f ys))
  | inr d ↦ there (f y) (map f ys) (f x) (map_has f ys x d)
]

starter_below : (a n : ℕ) (w : Waiter) → Contains (map starter (range_with_len a n)) w → (w.id < a + n) × (w.met ≡ 0)
starter_below a zero w c = absurd (none_in w c)
starter_below a (suc n) w c = elim (cons_cases (starter a) (map starter (range_with_len (a + 1) n)) w c) [
  | inl e ↦ let i : a ≡ w.id = ap (λ (v : Waiter). v.id) e in let m : 0 ≡ w.met = ap (λ (v : Waiter). v.met) e in (omega arith, sym m)
  | inr d ↦ let b = starter_below (a + 1) n w d in (omega (arith, b.0), b.1)
]

not_done_yet : (n i : ℕ) → is_done (replicate n false) i ≡ false
not_done_yet zero i = refl
not_done_yet (suc n) zero = refl
not_done_yet (suc n) (suc i) = not_done_yet n i

all_open : (n : ℕ) → open_count (replicate n false) ≡ n
all_open zero = refl
all_open (suc n) = ap (λ m. m + 1) (all_open n) ∙ omega arith

no_waiter_yet : (n q : ℕ) (w : Waiter) → Contains (slice_index_or (replicate n []) q []) w → ⊥
no_waiter_yet zero q w c = none_in w c
no_waiter_yet (suc n) zero w c = none_in w c
no_waiter_yet (suc n) (suc q) w c = no_waiter_yet n q w c

pub start_step : (needs : List (List ℕ)) → IsUnderWay needs (start (length needs)) (starters (length needs))
start_step needs = record {
  placing = λ place id e. cc;
  marks = length-replicate (length needs) false;
  queues = length-replicate (length needs) [];
  counted = omega (arith, all_open (length needs));
  done = λ id h. let no : is_done (replicate (length needs) false) id ≡ false = not_done_yet (length needs) id in cc;
  undone = λ id c. absurd (none_in id c);
  ready = λ id c. absurd (none_in id c);
  waits = λ q w c. absurd (no_waiter_yet (length needs) q w c);
  met = λ w c. let b = starter_below 0 (length needs) w c in record {
    there = omega (arith, b.0);
    left = λ d. none_in w.id d;
    within = omega (arith, b.1);
    before = subst (λ m. All (Contains []) (take m (required needs w.id))) (sym b.1) (All-nil (Contains []));
  };
  heard = λ id there_id left. comes (starter id) (map_has starter (range_with_len 0 (length needs)) id
      (let e : 0 + id ≡ id = omega arith in subst (λ m. Contains (range_with_len 0 (length needs)) m) e (range_has 0 (length needs) id there_id))) refl;
}

-- when nothing is ready any more, no further node can be placed
pub end_full : (needs : List (List ℕ)) (t : TurnsData) → IsUnderWay needs t [] → t.ready ≡ [] → IsFull needs t.order
end_full needs t u e id r = elim (u.heard id r.there r.left) [
  | is_ready c ↦ none_in id (subst (λ xs. Contains xs id) e c)
  | waits q w c same ↦ let i : IsWaiting needs t.order q w = u.waits q w c in
      let r' : IsReady needs t.order w.id = subst (λ x. IsReady needs t.order x) (sym same) r in
      i.left (All-contains (Contains t.order) (required needs w.id) q r'.after (contains_at (required needs w.id) w.met q i.waits))
  | comes w c same ↦ none_in w c
]

-- ---- what the calls need

-- a node that stands in a list of required nodes is there
pub reached_within : (needs : List (List ℕ)) (id at n : ℕ) (o : Option ℕ) (ids : List ℕ) → AreWithin needs → ids ≡ required needs id → o ≡ slice_get ids at → n ≡ length needs
    → IfSome o (λ q. q < n)
reached_within needs id at n None ids within e f g = tt
reached_within needs id at n (Some q) ids within e f g =
    let c : Contains (required needs id) q = subst (λ xs. Contains xs q) e (contains_at ids at q (sym f)) in
    let below : q < length needs = within id q c in
    omega arith

-- the first of those that are still to be sent
pub first_comes : (needs : List (List ℕ)) (t : TurnsData) (ws : List Waiter) (i : ℕ) (w : Waiter) → i < length ws → w ≡ slice_index_or ws i w → IsUnderWay needs t (drop i ws)
    → IsUnderWay needs t (w ∷ drop (i + 1) ws)
first_comes needs t ws i w within e u =
    let cut : drop i ws ≡ w ∷ drop (i + 1) ws = drop_more ws i w within ∙ ap (λ v. v ∷ drop (i + 1) ws) (sym e) in
    subst (λ xs. IsUnderWay needs t xs) cut u

pub first_met : (needs : List (List ℕ)) (t : TurnsData) (w : Waiter) (ws : List Waiter) → IsUnderWay needs t (w ∷ ws) → IsMet needs t.order w
first_met needs t w ws u = u.met w (here w ws)

-- sending a node places none
pub sent_order : (t : TurnsData) (id met : ℕ) (o : Option ℕ) → (sent t id met o).order ≡ t.order
sent_order t id met None = refl
sent_order t id met (Some q) = refl

-- a node that is ready is there
pub ready_there : (needs : List (List ℕ)) (t : TurnsData) (id : ℕ) (others : List ℕ) → IsUnderWay needs t [] → t.ready ≡ id ∷ others → id < length needs
ready_there needs t id others u e = (u.ready id (subst (λ xs. Contains xs id) (sym e) (here id others))).there

pub mark_to : (needs : List (List ℕ)) (t : TurnsData) (id : ℕ) (others : List ℕ) (new : TurnsData) (ws : List Waiter) → IsUnderWay needs t [] → t.ready ≡ id ∷ others
    → All (IsLtBy nat_cmp id) others → new ≡ marked (record t { ready = others }) id → ws ≡ slice_index_or t.waiting id [] → IsUnderWay needs new ws
mark_to needs t id others new ws u e above is taken =
    subst (λ s. IsUnderWay needs s ws) (sym is) (subst (λ xs. IsUnderWay needs (marked (record t { ready = others }) id) xs) (sym taken) (mark_step needs t id others u e above))

-- ---- the answer

-- how many are placed, from the first on
all_true : (ds : List Bool) → prefix_len is_true ds ≡ length ds → (i : ℕ) → i < length ds → is_done ds i ≡ true
all_true ds e i within =
    let front : take (prefix_len is_true ds) ds ≡ ds = take_all (prefix_len is_true ds) ds (omega arith) in
    All-get_or (λ d. d ≡ true) ds i false within (subst (λ xs. All (λ d. is_true d ≡ true) xs) front (prefix_pass is_true ds))

pub ordered : (needs : List (List ℕ)) (t : TurnsData) → IsUnderWay needs t [] → prefix_len is_true t.done ≡ length t.done → IsOrder needs t.order
ordered needs t u e = record { placing = u.placing; all = λ id within. u.done id (all_true t.done e id (omega (arith, u.marks))) }

none_open : (ds : List Bool) → ((i : ℕ) → i < length ds → is_done ds i ≡ true) → open_count ds ≡ 0
none_open [] all = refl
none_open (true ∷ ds) all = none_open ds (λ i within. all (suc i) (omega arith))
none_open (false ∷ ds) all = let no : false ≡ true = all 0 (omega arith) in cc

pub each_once : (needs : List (List ℕ)) (t : TurnsData) → IsUnderWay needs t [] → prefix_len is_true t.done ≡ length t.done → IsPermutation t.order (range_with_len 0 (length needs))
each_once needs t u e =
    order_from_places t.order (length needs) (omega (arith, u.counted, none_open t.done (all_true t.done e)))
    (λ id within. place_of t.order id (u.done id (all_true t.done e id (omega (arith, u.marks)))))

pub stuck : (needs : List (List ℕ)) (t : TurnsData) → IsUnderWay needs t [] → t.ready ≡ [] → prefix_len is_true t.done < length t.done → IsStuck needs (prefix_len is_true t.done)
stuck needs t u e short =
    let at : ℕ = prefix_len is_true t.done in
    let here_false : is_done t.done at ≡ false = prefix_next is_true t.done (is_done t.done at) (slice_get-get_or t.done at false short) in
    record {
      order = t.order;
      placing = u.placing;
      full = end_full needs t u e;
      there = omega (arith, u.marks);
      left = λ c. let yes : is_done t.done at ≡ true = u.undone at c in cc;
      first = λ other within left. elim (cases_lt other at) [
        | inl before ↦ absurd (left (u.done other (in_front other before)))
        | inr after ↦ after
      ];
    }
  where
    in_front : (other : ℕ) → other < prefix_len is_true t.done → is_done t.done other ≡ true
    in_front other before =
        let there : other < length (take (prefix_len is_true t.done) t.done) = omega (arith, length-take-le (prefix_len is_true t.done) t.done (omega arith)) in
        sym (get_or-take (prefix_len is_true t.done) t.done other false before)
        ∙ All-get_or (λ d. d ≡ true) (take (prefix_len is_true t.done) t.done) other false there (prefix_pass is_true t.done)

pub start_to : (needs : List (List ℕ)) (n : ℕ) (t : TurnsData) (ws : List Waiter) → n ≡ length needs → t ≡ start n → ws ≡ starters n → IsUnderWay needs t ws
start_to needs n t ws e f g =
    subst (λ s. IsUnderWay needs s ws) (sym (f ∙ ap start e)) (subst (λ xs. IsUnderWay needs (start (length needs)) xs) (sym (g ∙ ap starters e)) (start_step needs))

-- what the ending gives
pub answered : (needs : List (List ℕ)) (t : TurnsData) (r : Result (Vec ℕ Global) OrderEnd) → IsUnderWay needs t [] → t.ready ≡ []
    → IfOk r (λ v. (v.items ≡ t.order) × (prefix_len is_true t.done ≡ length t.done))
    → IfErr r (λ end. (end ≡ ending.Cycle (prefix_len is_true t.done)) × (prefix_len is_true t.done < length t.done))
    → IfOk r (λ v. IsOrder needs v.items) × (IfOk r (λ v. IsPermutation v.items (range_with_len 0 (length needs)))) × IfErr r (IsEnd needs)
answered needs t (Ok v) u e a b =
    (subst (λ xs. IsOrder needs xs) (sym a.0) (ordered needs t u a.1), subst (λ xs. IsPermutation xs (range_with_len 0 (length needs))) (sym a.0) (each_once needs t u a.1), tt)
answered needs t (Err x) u e a b = (tt, tt, subst (λ y. IsEnd needs y) (sym b.0) (stuck needs t u e b.1))

pub lists_length : (vs : List (Vec ℕ Global)) → length (lists vs) ≡ length vs
lists_length vs = length-map vs (λ (v : Vec ℕ Global). v.items)

pub same_within : (vs ws : List (Vec ℕ Global)) → ws ≡ vs → AreWithin (lists vs) → AreWithin (lists ws)
same_within vs ws e h = subst (λ us. AreWithin (lists us)) (sym e) h

-- what a call over vectors says of the answer
pub record IsAnswer (vs : List (Vec ℕ Global)) (r : Result (Vec ℕ Global) OrderEnd) : Type 0 where
  pub order : IfOk r (λ v. IsOrder (lists vs) v.items)
  pub once : IfOk r (λ v. IsPermutation v.items (range_with_len 0 (length vs)))
  pub ending : IfErr r (IsEnd (lists vs))

pub answer_of : (vs ws : List (Vec ℕ Global)) (t : TurnsData) (r : Result (Vec ℕ Global) OrderEnd) → ws ≡ vs → IsUnderWay (lists ws) t [] → t.ready ≡ []
    → IfOk r (λ v. (v.items ≡ t.order) × (prefix_len is_true t.done ≡ length t.done))
    → IfErr r (λ end. (end ≡ ending.Cycle (prefix_len is_true t.done)) × (prefix_len is_true t.done < length t.done))
    → IsAnswer vs r
answer_of vs ws t r e u none a b =
    let u' : IsUnderWay (lists vs) t [] = subst (λ us. IsUnderWay (lists us) t []) e u in
    let all = answered (lists vs) t r u' none a b in
    record {
      order = all.0;
      once = subst (λ n. IfOk r (λ v. IsPermutation v.items (range_with_len 0 n))) (lists_length vs) all.1;
      ending = all.2;
    }

-- ---- a test of all lists

-- what the list at a place of the vector requires
pub required_at : (vs : List (Vec ℕ Global)) (i : ℕ) (v : Vec ℕ Global) → i < length vs → v ≡ slice_index_or vs i v → required (lists vs) i ≡ v.items
required_at vs i v within e = get_or-map (λ (w : Vec ℕ Global). w.items) vs i v [] within ∙ ap (λ (w : Vec ℕ Global). w.items) (sym e)

all_below : (ids : List ℕ) (n : ℕ) → list_all (λ q. nat_lt q n) ids ≡ true → (q : ℕ) → Contains ids q → q < n
all_below [] n e q c = absurd (none_in q c)
all_below (x ∷ xs) n e q c =
    let both = and_parts (nat_lt x n) (list_all (λ p. nat_lt p n) xs) e in
    elim (cons_cases x xs q c) [
      | inl same ↦ let below : x < n = ltb-true x n both.0 in omega arith
      | inr d ↦ all_below xs n both.1 q d
    ]

pub within_more : (vs : List (Vec ℕ Global)) (i : ℕ) (v : Vec ℕ Global) (ids : List ℕ) (n : ℕ) → i < length vs → v ≡ slice_index_or vs i v → ids ≡ v.items
    → list_all (λ q. nat_lt q n) ids ≡ true → ((id q : ℕ) → id < i → Contains (required (lists vs) id) q → q < n)
    → (id q : ℕ) → id < i + 1 → Contains (required (lists vs) id) q → q < n
within_more vs i v ids n within e same all below id q l c =
    elim (cases_lt id i) [
      | inl before ↦ below id q before c
      | inr after ↦ let at : id ≡ i = omega arith in
          all_below ids n all q (subst (λ xs. Contains xs q) (required_at vs i v within e ∙ sym same) (subst (λ j. Contains (required (lists vs) j) q) at c))
    ]

pub within_all : (vs : List (Vec ℕ Global)) (i : ℕ) → length vs ≤ i → ((id q : ℕ) → id < i → Contains (required (lists vs) id) q → q < length vs) → AreWithin (lists vs)
within_all vs i past below id q c =
    elim (cases_lt id (length vs)) [
      | inl there ↦ let b : q < length vs = below id q (omega arith) c in omega (arith, lists_length vs)
      | inr far ↦ absurd (none_in q (subst (λ xs. Contains xs q) (get_or_past (lists vs) id [] (omega (arith, lists_length vs))) c))
    ]
