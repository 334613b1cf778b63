-- The references of a script rise, as the tokens of its source do.
use Rattle.std.proofs.Common.{◌≡◌, ◌<◌, ◌≤◌, ℕ, Bool, true, List, [], ◌∷◌, ◌++◌, refl, sym, ap, subst, ◌∙◌, arith, append-nil}
use Rattle.dts_lex.specs.Left.{Left}
use Rattle.dts_parse.specs.Nested.{AreRising, IsNested, act_refs, is_reference, refs}
use Rattle.dts_parse.specs.Source.{AreTokens, IsScript}
use Rattle.dts_parse.specs.Statements.{Lead, No_lead, Label_lead, Mark_lead, Pieces, Nothing_yet, Short_, Open_root, Open_ref, Open_child, Flag_, Assign_, Place, Short, Version_, Plugin_, Reserve_, Delete_ref, Omit_ref, Delete_child, Delete_prop, End_node, head, labels_of, marks_of, numeral_terminal, omits, place, place_behind, script, spell_lead, spell_pieces, spell_short, tail, with_short}
use Rattle.dts_parse.specs.StmtData.{ActData, StmtData, Open, Close, DelNode, Omit, stmt}
use Rattle.dts_parse.specs.Texts.{target_of}
use Rattle.dts_parse.specs.Token.{Spot, Token, token}
use Rattle.dts_parse.specs.Values.{Before, Nothing, Comma_, Element, Lone, Group, Refer, Elements, None_yet, Then, Head, Angle_, Bits_, Labels, No_labels, Label_, Pairs, No_pair, And_pair, Written, Text_, Path_, List_, Hex_, spell_before, spell_element, spell_elements, spell_head, spell_labels, spell_pairs, spell_written}
use Rattle.dts_parse.specs.declared.script.Target.{Target}
use Rattle.dts_parse.specs.declared.terminal.Terminal.TheVariants as terminal
use Rattle.dts_parse.specs.declared.terminal.Width.{Width}
use Rattle.dts_parse.proofs.Elements.{Behind, behind_on, behind_one, spell_behind}
use Rattle.dts_parse.proofs.NestLaws.{refs_append, target_reference, whole_nests}
use Rattle.dts_parse.proofs.Order.{Follows, Places, Prefix, follows, places, prefix}

-- ---- lists that rise

abbrev AllUnder : ℕ → List ℕ → Type 0
AllUnder n [] = Unit {0}
AllUnder n (x ∷ xs) = (x < n) × AllUnder n xs

under_more : (n m : ℕ) (xs : List ℕ) → n ≤ m → AllUnder n xs → AllUnder m xs
under_more n m [] h k = tt
under_more n m (x ∷ xs) h k = let a : x < n = k.0 in (omega arith, under_more n m xs h k.1)

under_one : (n at : ℕ) (xs : List ℕ) → at < n → AllUnder at xs → AllUnder n (xs ++ at ∷ [])
under_one n at [] h k = (h, tt)
under_one n at (x ∷ xs) h k = let a : x < at = k.0 in (omega arith, under_one n at xs h k.1)

rising_one : (at : ℕ) (xs : List ℕ) → AreRising xs → AllUnder at xs → AreRising (xs ++ at ∷ [])
rising_one at [] h k = tt
rising_one at (x ∷ []) h k = (k.0, tt)
rising_one at (x ∷ y ∷ xs) h k = (h.0, rising_one at (y ∷ xs) h.1 k.1)

record RiseTo (n : ℕ) (xs : List StmtData) : Type 0 where
  rises : AreRising (refs xs)
  under : AllUnder n (refs xs)

rise_more : (n m : ℕ) (xs : List StmtData) → n ≤ m → RiseTo n xs → RiseTo m xs
rise_more n m xs h k = record { rises = k.rises; under = under_more n m (refs xs) h k.under }

along : (n : ℕ) (xs : List StmtData) (rs : List ℕ) → rs ≡ refs xs → AreRising rs → AllUnder n rs → RiseTo n xs
along n xs rs e a b = record { rises = subst (λ (ys : List ℕ). AreRising ys) e a; under = subst (λ (ys : List ℕ). AllUnder n ys) e b }

carry : (n : ℕ) (xs ys : List StmtData) → refs ys ≡ [] → RiseTo n xs → RiseTo n (xs ++ ys)
carry n xs ys e h = along n (xs ++ ys) (refs xs) (sym (refs_append xs ys ∙ (ap (λ zs. refs xs ++ zs) e ∙ append-nil (refs xs)))) h.rises h.under

add_ref : (n m at : ℕ) (xs : List StmtData) (x : StmtData) → refs (x ∷ []) ≡ at ∷ [] → n ≤ at → at < m → RiseTo n xs → RiseTo m (xs ++ x ∷ [])
add_ref n m at xs x e h k r =
    let low : AllUnder at (refs xs) = under_more n at (refs xs) h r.under in
    along m (xs ++ x ∷ []) (refs xs ++ at ∷ []) (sym (refs_append xs (x ∷ []) ∙ ap (λ zs. refs xs ++ zs) e)) (rising_one at (refs xs) r.rises low) (under_one m at (refs xs) k low)

-- ---- statements without a reference

labels_bare : (lead : Lead) → refs (labels_of lead) ≡ []
labels_bare No_lead = refl
labels_bare (Label_lead lead n c) = refs_append (labels_of lead) _ ∙ ap (λ zs. zs ++ []) (labels_bare lead)
labels_bare (Mark_lead lead d) = labels_bare lead

omits_bare : (marks : List ℕ) (name : List ℕ) → refs (omits marks name) ≡ []
omits_bare [] name = refl
omits_bare (at ∷ marks) name = omits_bare marks name

abbrev AllBare : List (List StmtData) → Type 0
AllBare [] = Unit {0}
AllBare (x ∷ xs) = (refs x ≡ []) × AllBare xs

tail_bare : (xs : List (List StmtData)) → AllBare xs → AllBare (tail xs)
tail_bare [] h = tt
tail_bare (x ∷ xs) h = h.1

head_bare : (xs : List (List StmtData)) → AllBare xs → refs (head xs) ≡ []
head_bare [] h = refl
head_bare (x ∷ xs) h = h.0

short_bare : (p : Place) (s : Short) → AllBare p.opened → AllBare (place_behind p s).opened
short_bare p (Version_ d) h = h
short_bare p (Plugin_ d) h = h
short_bare p (Reserve_ d m a n b) h = h
short_bare p (Delete_ref d r) h = h
short_bare p (Omit_ref d r) h = h
short_bare p (Delete_child d f n is) h = h
short_bare p (Delete_prop d f n is) h = h
short_bare p (End_node b) h = tail_bare p.opened h

stack_bare : (base : Bool) (ps : Pieces) → AllBare (place base ps).opened
stack_bare base Nothing_yet = tt
stack_bare base (Short_ ps s semicolon) = short_bare (place base ps) s (stack_bare base ps)
stack_bare base (Open_root ps lead slash brace) = (refl, stack_bare base ps)
stack_bare base (Open_ref ps lead ref brace) = (refl, stack_bare base ps)
stack_bare base (Open_child ps lead f n brace) = (omits_bare (marks_of lead) n.spot.text, stack_bare base ps)
stack_bare base (Flag_ ps lead f n semicolon) = stack_bare base ps
stack_bare base (Assign_ ps lead f n equal b ls part after semicolon) = stack_bare base ps

-- ---- what is spelled stands after what was before

behind_none : (b : List Token) → Behind b b
behind_none b = record { ext = []; parts = refl }

two : (s t : Token) (a b : List Token) → Behind a b → Behind (s ∷ t ∷ a) b
two s t a b h = behind_on (s ∷ t ∷ a) a b (record { ext = s ∷ t ∷ []; parts = refl }) h

one : (s : Token) (a b : List Token) → Behind a b → Behind (s ∷ a) b
one s a b h = behind_on (s ∷ a) a b (behind_one s a) h

lead_behind : (lead : Lead) (b : List Token) → Behind (spell_lead lead b) b
lead_behind No_lead b = behind_none b
lead_behind (Label_lead lead n c) b = two _ _ _ b (lead_behind lead b)
lead_behind (Mark_lead lead d) b = one _ _ b (lead_behind lead b)

labels_behind : (ls : Labels) (b : List Token) → Behind (spell_labels ls b) b
labels_behind No_labels b = behind_none b
labels_behind (Label_ ls n c) b = two _ _ _ b (labels_behind ls b)

element_behind : (w : Width) (e : Element w) (b : List Token) → Behind (spell_element e b) b
element_behind w (Lone l p) b = behind_one _ b
element_behind w (Refer is p) b = behind_one _ b
element_behind w (Group g e is f) b = one _ _ b (behind_on _ _ b (spell_behind e (token terminal.LeftRound g ∷ b)) (behind_one (token terminal.LeftRound g) b))

elements_behind : (w : Width) (es : Elements w) (b : List Token) → Behind (spell_elements es b) b
elements_behind w None_yet b = behind_none b
elements_behind w (Then es ls e) b = behind_on _ _ b (element_behind w e (spell_labels ls (spell_elements es b))) (behind_on _ _ b (labels_behind ls (spell_elements es b)) (elements_behind w es b))

pairs_behind : (ps : Pairs) (b : List Token) → Behind (spell_pairs ps b) b
pairs_behind No_pair b = behind_none b
pairs_behind (And_pair ps ls byte p) b = one _ _ b (behind_on _ _ b (labels_behind ls (spell_pairs ps b)) (pairs_behind ps b))

head_behind : (w : Width) (h : Head w) (b : List Token) → Behind (spell_head h b) b
head_behind w (Angle_ is g) b = behind_one _ b
head_behind w (Bits_ d n is q g) b = record { ext = token terminal.Less g ∷ token (terminal.Number n) q ∷ token terminal.Bits d ∷ []; parts = refl }

written_behind : (part : Written) (b : List Token) → Behind (spell_written part b) b
written_behind (Text_ p) b = behind_one _ b
written_behind (Path_ p) b = behind_one _ b
written_behind (List_ w h es ls ends f) b =
    one _ _ b (behind_on _ _ b (labels_behind ls (spell_elements es (spell_head h b))) (behind_on _ _ b (elements_behind w es (spell_head h b)) (head_behind w h b)))
written_behind (Hex_ g ps ls ends f) b =
    one _ _ b (behind_on _ _ b (labels_behind ls (spell_pairs ps (token terminal.LeftSquare g ∷ b))) (behind_on _ _ b (pairs_behind ps (token terminal.LeftSquare g ∷ b)) (behind_one (token terminal.LeftSquare g) b)))

before_behind : (x : Before) (b : List Token) → Behind (spell_before x b) b
before_behind Nothing b = behind_none b
before_behind (Comma_ x ls part after comma) b =
    one _ _ b (behind_on _ _ b (labels_behind after (spell_written part (spell_labels ls (spell_before x b))))
    (behind_on _ _ b (written_behind part (spell_labels ls (spell_before x b))) (behind_on _ _ b (labels_behind ls (spell_before x b)) (before_behind x b))))

short_behind : (s : Short) (b : List Token) → Behind (spell_short s b) b
short_behind (Version_ d) b = behind_one _ b
short_behind (Plugin_ d) b = behind_one _ b
short_behind (Reserve_ d m p n q) b = record { ext = token (numeral_terminal n) q ∷ token (numeral_terminal m) p ∷ token terminal.Reserve d ∷ []; parts = refl }
short_behind (Delete_ref d p) b = two _ _ b b (behind_none b)
short_behind (Omit_ref d p) b = two _ _ b b (behind_none b)
short_behind (Delete_child d f n is) b = two _ _ b b (behind_none b)
short_behind (Delete_prop d f n is) b = two _ _ b b (behind_none b)
short_behind (End_node x) b = behind_one _ b

pub earlier : (src : List ℕ) (a b : List Token) (l : Left) → AreTokens src a l → Behind a b → Prefix src b l
earlier src a b l h k = prefix src k.ext b l (subst (λ (z : List Token). AreTokens src z l) k.parts h)

-- ---- scripts

ref_one : (at : ℕ) (text : List ℕ) (act : Target → ActData) → ((t : Target) → is_reference t ≡ true → act_refs at (act t) ≡ at ∷ []) → refs (stmt at (act (target_of text)) ∷ []) ≡ at ∷ []
ref_one at text act h = ap (λ zs. zs ++ []) (h (target_of text) (target_reference text))

-- a token, and what is read before it
record At (src : List ℕ) (t : Token) (b : List Token) (l : Left) : Type 0 where
  left : Left
  tokens : AreTokens src b left
  from : left.at ≤ t.spot.at
  to : t.spot.at < l.at

at_token : (src : List ℕ) (t : Token) (b : List Token) (l : Left) → AreTokens src (t ∷ b) l → At src t b l
at_token src t b l h =
    let f : Follows src b t l = follows src b t l h in
    let p : Places f.left f.span l = places f.left l f.span f.is in
    let e : t.spot.at ≡ f.span.start = (let F : Token → ℕ = λ z. z.spot.at in ap F f.token_is) in
    record { left = f.left; tokens = f.tokens; from = omega (arith, e, p.from); to = omega (arith, e, p.to) }

-- a reference after what is read
with_ref : (src : List ℕ) (p : Spot) (a b : List Token) (l : Left) (xs : List StmtData) (x : StmtData) → AreTokens src (token terminal.Ref p ∷ a) l → Behind a b → refs (x ∷ []) ≡ p.at ∷ []
    → ((m : Left) → AreTokens src b m → RiseTo m.at xs) → RiseTo l.at (xs ++ x ∷ [])
with_ref src p a b l xs x h k e go =
    let t : At src (token terminal.Ref p) a l = at_token src (token terminal.Ref p) a l h in
    let q : Prefix src b t.left = earlier src a b t.left t.tokens k in
    let low : q.left.at ≤ p.at = (let u : q.left.at ≤ t.left.at = q.at in let v : t.left.at ≤ p.at = t.from in omega arith) in
    add_ref q.left.at l.at p.at xs x e low t.to (go q.left q.tokens)

-- nothing of it is a reference
without_ref : (src : List ℕ) (a b : List Token) (l : Left) (xs : List StmtData) → AreTokens src a l → Behind a b → ((m : Left) → AreTokens src b m → RiseTo m.at xs) → RiseTo l.at xs
without_ref src a b l xs h k go = let q : Prefix src b l = earlier src a b l h k in rise_more q.left.at l.at xs q.at (go q.left q.tokens)

rises_short : (src : List ℕ) (base : Bool) (ps : Pieces) (s : Short) (l : Left) → AreTokens src (spell_short s (spell_pieces ps)) l → ((m : Left) → AreTokens src (spell_pieces ps) m → RiseTo m.at (script base ps))
    → RiseTo l.at (with_short (place base ps) s (script base ps))
rises_short src base ps (Version_ d) l h go = without_ref src _ (spell_pieces ps) l (script base ps) h (short_behind (Version_ d) (spell_pieces ps)) go
rises_short src base ps (Plugin_ d) l h go = without_ref src _ (spell_pieces ps) l (script base ps) h (short_behind (Plugin_ d) (spell_pieces ps)) go
rises_short src base ps (Reserve_ d m p n q) l h go = without_ref src _ (spell_pieces ps) l (script base ps) h (short_behind (Reserve_ d m p n q) (spell_pieces ps)) go
rises_short src base ps (Delete_ref d p) l h go =
    with_ref src p (token terminal.DeleteNode d ∷ spell_pieces ps) (spell_pieces ps) l (script base ps) (stmt p.at (DelNode (target_of p.text))) h (behind_one _ (spell_pieces ps)) (ref_one p.at p.text (λ t. DelNode t) (λ t e. rw e refl)) go
rises_short src base ps (Omit_ref d p) l h go =
    with_ref src p (token terminal.Omit d ∷ spell_pieces ps) (spell_pieces ps) l (script base ps) (stmt p.at (Omit (target_of p.text))) h (behind_one _ (spell_pieces ps)) (ref_one p.at p.text (λ t. Omit t) (λ t e. rw e refl)) go
rises_short src base ps (Delete_child d f n is) l h go = carry l.at (script base ps) _ refl (without_ref src _ (spell_pieces ps) l (script base ps) h (short_behind (Delete_child d f n is) (spell_pieces ps)) go)
rises_short src base ps (Delete_prop d f n is) l h go = carry l.at (script base ps) _ refl (without_ref src _ (spell_pieces ps) l (script base ps) h (short_behind (Delete_prop d f n is) (spell_pieces ps)) go)
rises_short src base ps (End_node b) l h go =
    carry l.at (script base ps ++ stmt b.at Close ∷ []) (head (place base ps).opened) (head_bare (place base ps).opened (stack_bare base ps))
    (carry l.at (script base ps) _ refl (without_ref src _ (spell_pieces ps) l (script base ps) h (short_behind (End_node b) (spell_pieces ps)) go))

rises_pieces : (src : List ℕ) (base : Bool) (ps : Pieces) (l : Left) → AreTokens src (spell_pieces ps) l → RiseTo l.at (script base ps)
rises_pieces src base Nothing_yet l h = record { rises = tt; under = tt }
rises_pieces src base (Short_ ps s semicolon) l h =
    let q : Prefix src (spell_short s (spell_pieces ps)) l = earlier src _ (spell_short s (spell_pieces ps)) l h (behind_one _ (spell_short s (spell_pieces ps))) in
    rise_more q.left.at l.at _ q.at (rises_short src base ps s q.left q.tokens (λ m k. rises_pieces src base ps m k))
rises_pieces src base (Open_root ps lead slash brace) l h =
    carry l.at _ (labels_of lead) (labels_bare lead) (carry l.at (script base ps) _ refl
    (without_ref src _ (spell_pieces ps) l (script base ps) h (two _ _ _ (spell_pieces ps) (lead_behind lead (spell_pieces ps))) (λ m k. rises_pieces src base ps m k)))
rises_pieces src base (Open_ref ps lead ref brace) l h =
    let q : Prefix src (token terminal.Ref ref ∷ spell_lead lead (spell_pieces ps)) l = earlier src _ (token terminal.Ref ref ∷ spell_lead lead (spell_pieces ps)) l h (behind_one _ (token terminal.Ref ref ∷ spell_lead lead (spell_pieces ps))) in
    carry l.at _ (labels_of lead) (labels_bare lead) (rise_more q.left.at l.at _ q.at
    (with_ref src ref (spell_lead lead (spell_pieces ps)) (spell_pieces ps) q.left (script base ps) (stmt ref.at (Open (target_of ref.text))) q.tokens (lead_behind lead (spell_pieces ps))
    (ref_one ref.at ref.text (λ t. Open t) (λ t e. rw e refl)) (λ m k. rises_pieces src base ps m k)))
rises_pieces src base (Open_child ps lead f n brace) l h =
    carry l.at _ (labels_of lead) (labels_bare lead) (carry l.at (script base ps) _ refl
    (without_ref src _ (spell_pieces ps) l (script base ps) h (two _ _ _ (spell_pieces ps) (lead_behind lead (spell_pieces ps))) (λ m k. rises_pieces src base ps m k)))
rises_pieces src base (Flag_ ps lead f n semicolon) l h =
    carry l.at (script base ps) _ refl
    (without_ref src _ (spell_pieces ps) l (script base ps) h (two _ _ _ (spell_pieces ps) (lead_behind lead (spell_pieces ps))) (λ m k. rises_pieces src base ps m k))
rises_pieces src base (Assign_ ps lead f n equal b ls part after semicolon) l h =
    carry l.at (script base ps) _ refl
    (without_ref src _ (spell_pieces ps) l (script base ps) h
    (one _ _ (spell_pieces ps) (behind_on _ _ (spell_pieces ps) (labels_behind after _) (behind_on _ _ (spell_pieces ps) (written_behind part _) (behind_on _ _ (spell_pieces ps) (labels_behind ls _)
    (behind_on _ _ (spell_pieces ps) (before_behind b _) (two _ _ _ (spell_pieces ps) (lead_behind lead (spell_pieces ps))))))))
    (λ m k. rises_pieces src base ps m k))

-- every script of a source nests well
pub script_nested : (src : List ℕ) (base : Bool) (stmts : List StmtData) → IsScript src base stmts → IsNested stmts
script_nested src base stmts s =
    let r : RiseTo s.is_whole.left.at (script base s.ps) = rises_pieces src base s.ps s.is_whole.left s.is_whole.tokens in
    let P : List StmtData → Type 0 = λ xs. IsNested xs in
    subst P s.statements (record { nests = whole_nests base s.ps s.is_whole.fit s.is_whole.ends; rises = r.rises })
