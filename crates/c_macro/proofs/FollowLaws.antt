-- Tokens that are followed by others.
use Rattle.std.proofs.Common.{◌≡◌, ℕ, zero, suc, ◌+◌, ◌≤◌, Bool, true, false, List, [], ◌∷◌, ◌++◌, Option, Some, None, option_map, length, refl, sym, ap, subst, ◌∙◌, append_assoc, codes, inl, inr, if◌then◌else◌}
use Rattle.std.proofs.lemmas.Bool.{cases_Bool}
use Rattle.c_macro.specs.MacroData.{Macro}
use Rattle.c_macro.specs.Directive.{is_punct}
use Rattle.c_macro.specs.Marked.{Marked}
use Rattle.c_macro.specs.Calls.{Mark, Opens, Closes, Parts, Inner, mark_of, Closed, with_tok, with_end, closed_here, parted_here, closed_at, closed, commas_of, fitted}
use Rattle.c_macro.specs.Bodies.{Arg, tasks, parts_of, object_text, call_text}
use Rattle.c_macro.specs.Expansion.{Macros, Look, End, Put, Object, Call, Bad, look_fitted, look_closed, look_call, look_params, look_macro, macro_at, look, Outcome, Done, Refused, ArgsOutcome, Ready, before, Expands, ends, puts, bad, object, call, spoiled, ArgsExpand, Replaced, unjoined, above, within}
use Rattle.c_macro.specs.Laws.{AreIdle, IdleTokensStay, begins_open, ExpandsBefore}

before_none : (o : Outcome) → before [] o ≡ o
before_none (Done out u) = refl
before_none (Refused r) = refl

before_more : (t : Marked) (ts : List Marked) (o : Outcome) → before (t ∷ []) (before ts o) ≡ before (t ∷ ts) o
before_more t ts (Done out u) = refl
before_more t ts (Refused r) = refl

pub idle_tokens_stay : IdleTokensStay
idle_tokens_stay limit d [] rest u o h e = subst (Expands limit d rest u) (sym (before_none o)) e
idle_tokens_stay limit d (t ∷ ts) rest u o h e =
    subst (Expands limit d (t ∷ ts ++ rest) u) (before_more t ts o)
    (puts (t ∷ ts ++ rest) u t (ts ++ rest) (before ts o) (ap (λ m. look_macro t m (ts ++ rest)) h.0) (idle_tokens_stay limit d ts rest u o h.1 e))

-- ---- a call

behind : List Marked → Closed → Closed
behind rest c = record { args = c.args; last = c.last; rest = c.rest ++ rest }

abbrev Goes : List Marked → Option Closed → Option Closed → Type 0
Goes rest None o = Unit {0}
Goes rest (Some c) o = o ≡ Some (behind rest c)

goes_tok : (rest : List Marked) (t : Marked) (o p : Option Closed) → Goes rest o p → Goes rest (option_map (λ c. with_tok t c) o) (option_map (λ c. with_tok t c) p)
unfolding behind
goes_tok rest t None p h = tt
goes_tok rest t (Some c) p h = ap (option_map (λ c. with_tok t c)) h

goes_end : (rest : List Marked) (o p : Option Closed) → Goes rest o p → Goes rest (option_map (λ c. with_end c) o) (option_map (λ c. with_end c) p)
unfolding behind
goes_end rest None p h = tt
goes_end rest (Some c) p h = ap (option_map (λ c. with_end c)) h

goes_at : (rest : List Marked) (m : Mark) (commas : Option ℕ) (deep : ℕ) (t : Marked) (ts : List Marked) (f g : Option ℕ → ℕ → Option Closed) → ((n : Option ℕ) (e : ℕ) → Goes rest (f n e) (g n e))
    → Goes rest (closed_at m commas deep t ts f) (closed_at m commas deep t (ts ++ rest) g)
unfolding behind
goes_at rest Opens commas deep t ts f g h = goes_tok rest t (f commas (suc deep)) (g commas (suc deep)) (h commas (suc deep))
goes_at rest Closes commas zero t ts f g h = refl
goes_at rest Closes commas (suc deep) t ts f g h = goes_tok rest t (f commas deep) (g commas deep) (h commas deep)
goes_at rest Parts commas (suc deep) t ts f g h = goes_tok rest t (f commas (suc deep)) (g commas (suc deep)) (h commas (suc deep))
goes_at rest Parts None zero t ts f g h = goes_end rest (f None zero) (g None zero) (h None zero)
goes_at rest Parts (Some zero) zero t ts f g h = goes_tok rest t (f (Some zero) zero) (g (Some zero) zero) (h (Some zero) zero)
goes_at rest Parts (Some (suc n)) zero t ts f g h = goes_end rest (f (Some n) zero) (g (Some n) zero) (h (Some n) zero)
goes_at rest Inner commas deep t ts f g h = goes_tok rest t (f commas deep) (g commas deep) (h commas deep)

closed_goes : (rest : List Marked) (commas : Option ℕ) (deep : ℕ) (ts : List Marked) → Goes rest (closed commas deep ts) (closed commas deep (ts ++ rest))
closed_goes rest commas deep [] = tt
closed_goes rest commas deep (t ∷ ts) = goes_at rest (mark_of t.tok) commas deep t ts (λ n e. closed n e ts) (λ n e. closed n e (ts ++ rest)) (λ n e. closed_goes rest n e ts)

-- ---- the first token

abbrev Looks : List Marked → Look → Look → Type 0
Looks rest End l = l ≡ l
Looks rest (Put t ts) l = l ≡ Put t (ts ++ rest)
Looks rest (Object t m ts) l = l ≡ Object t m (ts ++ rest)
Looks rest (Call t m names raws last ts) l = l ≡ Call t m names raws last (ts ++ rest)
Looks rest (Bad r) l = l ≡ l

looks_fitted : (rest : List Marked) (t : Marked) (m : Macro) (names : List (List ℕ)) (c : Closed) (o : Option (List (List Marked))) → Looks rest (look_fitted t m names c o) (look_fitted t m names (behind rest c) o)
unfolding behind
looks_fitted rest t m names c None = refl
looks_fitted rest t m names c (Some raws) = refl

looks_closed : (rest : List Marked) (t : Marked) (m : Macro) (names : List (List ℕ)) (o p : Option Closed) → Goes rest o p → Looks rest (look_closed t m names o) (look_closed t m names p)
unfolding behind
looks_closed rest t m names None p h = refl
looks_closed rest t m names (Some c) p h = subst (λ x. Looks rest (look_closed t m names (Some c)) (look_closed t m names x)) (sym h) (looks_fitted rest t m names c (fitted names m.variadic c.args))

looks_alone : (rest : List Marked) (t : Marked) (m : Macro) (names : List (List ℕ)) → begins_open rest ≡ false → look_call t m names rest ≡ Put t rest
looks_alone [] t m names h = refl
looks_alone (u ∷ us) t m names h = ap (λ b. if b then look_closed t m names (closed (commas_of names m.variadic) 0 us) else Put t (u ∷ us)) h

looks_call : (rest : List Marked) (t : Marked) (m : Macro) (names : List (List ℕ)) (ts : List Marked) → begins_open rest ≡ false → Looks rest (look_call t m names ts) (look_call t m names (ts ++ rest))
looks_call rest t m names [] h = looks_alone rest t m names h
looks_call rest t m names (u ∷ us) h = by (is_punct (codes "(") u.tok)
  where
    by : (b : Bool) → Looks rest (if b then look_closed t m names (closed (commas_of names m.variadic) 0 us) else Put t (u ∷ us)) (if b then look_closed t m names (closed (commas_of names m.variadic) 0 (us ++ rest)) else Put t (u ∷ us ++ rest))
    by true = looks_closed rest t m names (closed (commas_of names m.variadic) 0 us) (closed (commas_of names m.variadic) 0 (us ++ rest)) (closed_goes rest (commas_of names m.variadic) 0 us)
    by false = refl

looks_params : (rest : List Marked) (t : Marked) (m : Macro) (o : Option (List (List ℕ))) (ts : List Marked) → begins_open rest ≡ false → Looks rest (look_params t m o ts) (look_params t m o (ts ++ rest))
looks_params rest t m None ts h = refl
looks_params rest t m (Some names) ts h = looks_call rest t m names ts h

looks_macro : (rest : List Marked) (t : Marked) (o : Option Macro) (ts : List Marked) → begins_open rest ≡ false → Looks rest (look_macro t o ts) (look_macro t o (ts ++ rest))
looks_macro rest t None ts h = refl
looks_macro rest t (Some m) ts h = looks_params rest t m m.params ts h

is_end : Look → Bool
is_end End = true
is_end _ = false

call_goes_on : (t : Marked) (m : Macro) (names : List (List ℕ)) (ts : List Marked) → is_end (look_call t m names ts) ≡ false
unfolding is_end
call_goes_on t m names [] = refl
call_goes_on t m names (u ∷ us) = by (is_punct (codes "(") u.tok)
  where
    fitted_goes_on : (c : Closed) (o : Option (List (List Marked))) → is_end (look_fitted t m names c o) ≡ false
    fitted_goes_on c None = refl
    fitted_goes_on c (Some raws) = refl

    closed_goes_on : (o : Option Closed) → is_end (look_closed t m names o) ≡ false
    closed_goes_on None = refl
    closed_goes_on (Some c) = fitted_goes_on c (fitted names m.variadic c.args)

    by : (b : Bool) → is_end (if b then look_closed t m names (closed (commas_of names m.variadic) 0 us) else Put t (u ∷ us)) ≡ false
    by true = closed_goes_on (closed (commas_of names m.variadic) 0 us)
    by false = refl

goes_on : (t : Marked) (o : Option Macro) (ts : List Marked) → is_end (look_macro t o ts) ≡ false
unfolding is_end
goes_on t None ts = refl
goes_on t (Some m) ts = by m.params
  where
    by : (o : Option (List (List ℕ))) → is_end (look_params t m o ts) ≡ false
    by None = refl
    by (Some names) = call_goes_on t m names ts

ended : (d : Macros) (ts : List Marked) → look d ts ≡ End → ts ≡ []
unfolding is_end
ended d [] e = refl
ended d (t ∷ ts) e = let c : true ≡ false = sym (ap is_end e) ∙ goes_on t (macro_at d t) ts in cc

looks_on : (d : Macros) (rest ts : List Marked) (l : Look) → begins_open rest ≡ false → look d ts ≡ l → is_end l ≡ false → Looks rest l (look d (ts ++ rest))
unfolding is_end
looks_on d rest [] l h e n = let c : true ≡ false = ap is_end e ∙ n in cc
looks_on d rest (t ∷ ts) l h e n = subst (λ x. Looks rest x (look d (t ∷ ts ++ rest))) e (looks_macro rest t (macro_at d t) ts h)

-- ---- an expansion

module _ (limit : ℕ) (d : Macros) (rest : List Marked) (h : begins_open rest ≡ false) where
  abbrev Followed : List Marked → ℕ → Outcome → Type 0
  Followed ts u (Done out v) = (o : Outcome) → Expands limit d rest v o → Expands limit d (ts ++ rest) u (before out o)
  Followed ts u (Refused r) = Unit {0}

  abbrev FollowedText : Option (List Marked) → List Marked → ℕ → Outcome → Type 0
  FollowedText text ts u (Done out v) = (o : Outcome) → Expands limit d rest v o → Replaced limit d text (ts ++ rest) u (before out o)
  FollowedText text ts u (Refused r) = Unit {0}

  follow_put : (ts us : List Marked) (u : ℕ) (t : Marked) (o : Outcome) → look d ts ≡ Put t us → Followed us u o → Followed ts u (before (t ∷ []) o)
  unfolding is_end
  follow_put ts us u t (Done out v) e f = λ o x.
      subst (Expands limit d (ts ++ rest) u) (before_more t out o) (puts (ts ++ rest) u t (us ++ rest) (before out o) (looks_on d rest ts (Put t us) h e refl) (f o x))
  follow_put ts us u t (Refused r) e f = tt

  follow_object : (ts us : List Marked) (u : ℕ) (t : Marked) (m : Macro) (o : Outcome) → look d ts ≡ Object t m us → FollowedText (object_text t m) us u o → Followed ts u o
  unfolding is_end
  follow_object ts us u t m (Done out v) e f = λ o x. object (ts ++ rest) u t m (us ++ rest) (before out o) (looks_on d rest ts (Object t m us) h e refl) (f o x)
  follow_object ts us u t m (Refused r) e f = tt

  follow_call : (ts us : List Marked) (u v : ℕ) (t last : Marked) (m : Macro) (names : List (List ℕ)) (raws : List (List Marked)) (args : List Arg) (o : Outcome) → look d ts ≡ Call t m names raws last us
      → ArgsExpand limit d (tasks (parts_of m (Some names)) 0 raws) u (Ready args v) → FollowedText (call_text t m names last args) us v o → Followed ts u o
  unfolding is_end
  follow_call ts us u v t last m names raws args (Done out x) e a f = λ o y.
      call (ts ++ rest) u t m names raws last (us ++ rest) args v (before out o) (looks_on d rest ts (Call t m names raws last us) h e refl) a (f o y)
  follow_call ts us u v t last m names raws args (Refused r) e a f = tt

  follow_within : (new ts : List Marked) (u : ℕ) (o : Outcome) → u + 1 + length new ≤ limit → Followed (new ++ ts) (u + 1 + length new) o → FollowedText (Some new) ts u o
  follow_within new ts u (Done out v) near f = λ o x.
      within new (ts ++ rest) u (before out o) near (subst (λ xs. Expands limit d xs (u + 1 + length new) (before out o)) (append_assoc new ts rest) (f o x))
  follow_within new ts u (Refused r) near f = tt

  mutual
    followed : (ts : List Marked) (u : ℕ) (o : Outcome) → Expands limit d ts u o → Followed ts u o
    followed ts u _ (ends _ _ e) = λ o x. subst (λ us. Expands limit d (us ++ rest) u (before [] o)) (sym (ended d ts e)) (subst (Expands limit d rest u) (sym (before_none o)) x)
    followed ts u _ (puts _ _ t us o e x) = follow_put ts us u t o e (followed us u o x)
    followed ts u _ (bad _ _ r e) = tt
    followed ts u o (object _ _ t m us _ e x) = follow_object ts us u t m o e (followed_text (object_text t m) us u o x)
    followed ts u o (call _ _ t m names raws last us args v _ e a x) = follow_call ts us u v t last m names raws args o e a (followed_text (call_text t m names last args) us v o x)
    followed ts u _ (spoiled _ _ t m names raws last us r e a) = tt

    followed_text : (text : Option (List Marked)) (ts : List Marked) (u : ℕ) (o : Outcome) → Replaced limit d text ts u o → FollowedText text ts u o
    followed_text _ _ u _ (unjoined ts _) = tt
    followed_text _ _ u _ (above new ts _ f) = tt
    followed_text _ _ u _ (within new ts _ o near x) = follow_within new ts u o near (followed (new ++ ts) (u + 1 + length new) o x)

pub expands_before : ExpandsBefore
expands_before limit d ts rest u v out o h e x = followed limit d rest h ts u (Done out v) e o x
