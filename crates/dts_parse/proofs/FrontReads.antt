-- What pieces and fronts spell is read as what is kept of them.
use Rattle.std.proofs.Common.{◌≡◌, ◌≤◌, ℕ, suc, Bool, true, false, not, ◌&&◌, ◌||◌, List, [], ◌∷◌, ◌++◌, Some, Ok, refl, sym, subst, ◌∙◌, arith}
use Rattle.dts_parse.specs.Exprs.{Waiting, Start, In_round, In_un, In_bin, In_cond, In_else, AreProper, IsProper, Tree, count, count_waiting, large, large_waiting, level, more, room, rounds, spell, spell_waiting, worth_of}
use Rattle.dts_parse.specs.Fronts.{Beginning, Begun, First_number, Second_number, Deleted_ref, Omitted_ref, Deleted_child, Deleted_prop, Front, In_body, At_name, At_brace, At_directive, At_end, At_site, At_colon, At_bits, At_angle, Before_operand, After_operand, Listed, Opening, Root_, Ref_, Site, In_value, After_part, In_list, In_hex, braces, directive_place, fits_lead, may_name, opening_token, spell_beginning, spell_begun, spell_front, spell_list, spell_listed, spell_site, takes_begun, wanted_of}
use Rattle.dts_parse.specs.Inner.Machine.{Shape, taken}
use Rattle.dts_parse.specs.Statements.{AreFit, Lead, No_lead, Label_lead, Mark_lead, Small_, Large_, Pieces, Nothing_yet, Short_, Open_root, Open_ref, Open_child, Flag_, Assign_, Place, Short, Version_, Plugin_, Reserve_, Delete_ref, Omit_ref, Delete_child, Delete_prop, End_node, is_empty, labels_of, marks_of, place, script, spell_lead, spell_pieces, spell_short, takes_inner, takes_short, takes_top, takes_version}
use Rattle.dts_parse.specs.Token.{Name, Spot, is_node_form, is_prop_form, bin_terminal, name_token, op_level, token}
use Rattle.dts_parse.specs.Values.{Before, Labels, No_labels, bytes_of, cells_of, listing_of, pair_bytes, part_of, parts_of}
use Rattle.dts_parse.specs.declared.mode.Frame.TheVariants as frame
use Rattle.dts_parse.specs.declared.mode.Listing.TheVariants as listing
use Rattle.dts_parse.specs.declared.mode.Mode.TheVariants as mode
use Rattle.dts_parse.specs.declared.mode.Wanted.TheVariants as wanted
use Rattle.dts_parse.specs.declared.terminal.Form.{Form}
use Rattle.dts_parse.specs.declared.terminal.Form.TheVariants as form
use Rattle.dts_parse.specs.declared.terminal.Terminal.TheVariants as terminal
use Rattle.dts_parse.specs.declared.terminal.Width.{Width}
use Rattle.dts_parse.proofs.ExprReads.{chooses, closes, joins, level_range, no_include, op_range, operand_at, reads, reads_un, room_of, stays, tests}
use Rattle.dts_parse.proofs.Kept.{ending, frames_of, kept, kept_site, opening_stmt, resting, spine}
use Rattle.dts_parse.proofs.Leading.{Reads, go, hop}
use Rattle.dts_parse.proofs.ValueReads.{if_false, if_true, list_at, list_labels, pairs_at, pairs_labels, part_labels, reads_angle, reads_before, reads_bits, reads_elements, reads_head, reads_pairs, reads_written, value_labels}

-- ---- tests

pub empty_more : {A : Type 0} (xs : List A) (x : A) → is_empty (xs ++ x ∷ []) ≡ false
empty_more [] x = refl
empty_more (y ∷ ys) x = refl

pub may_label : (inner bare top : Bool) → (inner || (top && bare)) ≡ true → ((inner && (bare || true)) || (top && true)) ≡ true
may_label true true true e = refl
may_label true true false e = refl
may_label true false true e = refl
may_label true false false e = refl
may_label false true true e = refl
may_label false true false e = cc
may_label false false true e = cc
may_label false false false e = cc

pub inner_alone : (inner top bare : Bool) → bare ≡ false → (inner || (top && bare)) ≡ true → inner ≡ true
inner_alone true top bare p e = refl
inner_alone false true true p e = cc
inner_alone false true false p e = cc
inner_alone false false bare p e = cc

pub or_first : (a b : Bool) → a ≡ true → (a || b) ≡ true
or_first true b e = refl
or_first false b e = cc

pub top_not_inner : (a b : Bool) → (a && b) ≡ true → not a ≡ false
top_not_inner true b e = refl
top_not_inner false b e = cc

pub and_both : (a b : Bool) → a ≡ true → b ≡ true → (a && b) ≡ true
and_both true true e f = refl
and_both true false e f = cc
and_both false b e f = cc

pub fits_before : (p : Place) (lead : Lead) → (takes_inner p || (takes_top p && is_empty (marks_of lead))) ≡ true → fits_lead p lead ≡ true
fits_before p No_lead e = refl
fits_before p (Label_lead lead n c) e = e
fits_before p (Mark_lead lead d) e = inner_alone (takes_inner p) (takes_top p) (is_empty (marks_of lead ++ d.at ∷ [])) (empty_more (marks_of lead) d.at) e

pub fits_inner : (p : Place) (lead : Lead) → takes_inner p ≡ true → fits_lead p lead ≡ true
fits_inner p lead e = fits_before p lead (or_first (takes_inner p) (takes_top p && is_empty (marks_of lead)) e)

or_second : (a b c : Bool) → b ≡ true → c ≡ true → (a || (b && c)) ≡ true
or_second true b c e f = refl
or_second false true true e f = refl
or_second false true false e f = cc
or_second false false c e f = cc

pub fits_top : (p : Place) (lead : Lead) → takes_top p ≡ true → is_empty (marks_of lead) ≡ true → fits_lead p lead ≡ true
fits_top p lead e f = fits_before p lead (or_second (takes_inner p) (takes_top p) (is_empty (marks_of lead)) e f)

-- ---- labels and marks

abbrev pub leading : (base : Bool) → Pieces → Lead → Shape
leading base ps lead = record (resting base ps) { labels = labels_of lead; marks = marks_of lead }

pub reads_lead : (base : Bool) (ps : Pieces) (lead : Lead) → fits_lead (place base ps) lead ≡ true → Reads true base (spell_pieces ps) (resting base ps) → Reads true base (spell_lead lead (spell_pieces ps)) (leading base ps lead)
reads_lead base ps No_lead may h = h
reads_lead base ps (Label_lead lead n c) may h =
    let named : Reads true base (name_token form.Label n ∷ spell_lead lead (spell_pieces ps)) (record (leading base ps lead) { mode = mode.Named form.Label; name = Some n.spot }) =
    hop (name_token form.Label n) (reads_lead base ps lead (fits_before (place base ps) lead may) h) refl
    (if_true (may_name (place base ps) (is_empty (marks_of lead)) form.Label) _ _ (may_label (takes_inner (place base ps)) (is_empty (marks_of lead)) (takes_top (place base ps)) may)) in
    hop (token terminal.Colon c) named refl refl
reads_lead base ps (Mark_lead lead d) may h =
    hop (token terminal.Omit d) (reads_lead base ps lead (fits_inner (place base ps) lead may) h) refl (if_true (takes_inner (place base ps)) _ _ may)

-- ---- statements that only want their semicolon

reads_reserve : (base : Bool) (ps : Pieces) (d : Spot) → takes_top (place base ps) ≡ true → Reads true base (spell_pieces ps) (resting base ps)
    → Reads true base (token terminal.Reserve d ∷ spell_pieces ps) (record (resting base ps) { mode = mode.Directive wanted.FirstNumber; begin = d.at })
reads_reserve base ps d may h = hop (token terminal.Reserve d) h refl (if_true (takes_top (place base ps)) _ _ may)

pub reads_begun : (base : Bool) (ps : Pieces) (b : Begun) → takes_begun (place base ps) b ≡ true → Reads true base (spell_pieces ps) (resting base ps)
    → Reads true base (spell_begun b (spell_pieces ps)) (record (resting base ps) { mode = mode.Directive (wanted_of b); begin = directive_place b })
reads_begun base ps (First_number d) may h = reads_reserve base ps d may h
reads_begun base ps (Second_number d (Small_ n) p) may h =
    hop (token (terminal.Number n) p) (reads_reserve base ps d may h) refl refl
reads_begun base ps (Second_number d Large_ p) may h =
    hop (token terminal.Huge p) (reads_reserve base ps d may h) refl refl
reads_begun base ps (Deleted_ref d) may h =
    hop (token terminal.DeleteNode d) h refl
    (if_false (takes_inner (place base ps)) _ _ (top_not_inner (is_empty (place base ps).opened) _ may) ∙ if_true (takes_top (place base ps)) _ _ may)
reads_begun base ps (Omitted_ref d) may h =
    hop (token terminal.Omit d) h refl
    (if_false (takes_inner (place base ps)) _ _ (top_not_inner (is_empty (place base ps).opened) _ may) ∙ if_true (takes_top (place base ps)) _ _ may)
reads_begun base ps (Deleted_child d) may h = hop (token terminal.DeleteNode d) h refl (if_true (takes_inner (place base ps)) _ _ may)
reads_begun base ps (Deleted_prop d) may h = hop (token terminal.DeleteProp d) h refl (if_true (takes_inner (place base ps)) _ _ may)

pub reads_short : (base : Bool) (ps : Pieces) (s : Short) → takes_short (place base ps) s ≡ true → Reads true base (spell_pieces ps) (resting base ps)
    → Reads true base (spell_short s (spell_pieces ps)) (ending base ps s)
reads_short base ps (Version_ d) may h = hop (token terminal.Version d) h refl (if_true (takes_version (place base ps)) _ _ may)
reads_short base ps (Plugin_ d) may h = hop (token terminal.Plugin d) h refl (if_true (takes_top (place base ps)) _ _ may)
reads_short base ps (Reserve_ d m p (Small_ n) q) may h = hop (token (terminal.Number n) q) (reads_begun base ps (Second_number d m p) may h) refl refl
reads_short base ps (Reserve_ d m p Large_ q) may h = hop (token terminal.Huge q) (reads_begun base ps (Second_number d m p) may h) refl refl
reads_short base ps (Delete_ref d p) may h = hop (token terminal.Ref p) (reads_begun base ps (Deleted_ref d) may h) refl refl
reads_short base ps (Omit_ref d p) may h = hop (token terminal.Ref p) (reads_begun base ps (Omitted_ref d) may h) refl refl
reads_short base ps (Delete_child d f n is) may h = hop (name_token f n) (reads_begun base ps (Deleted_child d) may h) refl (if_true (is_node_form f) _ _ is)
reads_short base ps (Delete_prop d f n is) may h = hop (name_token f n) (reads_begun base ps (Deleted_prop d) may h) refl (if_true (is_prop_form f) _ _ is)
reads_short base ps (End_node brace) may h = hop (token terminal.RightBrace brace) h refl (if_true (takes_inner (place base ps)) _ _ may)

-- ---- names and openings

pub reads_name : (base : Bool) (ps : Pieces) (lead : Lead) (f : Form) (n : Name f) → fits_lead (place base ps) lead ≡ true → may_name (place base ps) (is_empty (marks_of lead)) f ≡ true
    → Reads true base (spell_pieces ps) (resting base ps)
    → Reads true base (name_token f n ∷ spell_lead lead (spell_pieces ps)) (record (leading base ps lead) { mode = mode.Named f; name = Some n.spot })
reads_name base ps lead f n may named h =
    hop (name_token f n) (reads_lead base ps lead may h) refl (if_true (may_name (place base ps) (is_empty (marks_of lead)) f) _ _ named)

may_inner : (inner bare node other : Bool) → inner ≡ true → (bare || node) ≡ true → ((inner && (bare || node)) || other) ≡ true
may_inner true bare node other e f = or_first (bare || node) other f
may_inner false bare node other e f = cc

or_last : (a b : Bool) → b ≡ true → (a || b) ≡ true
or_last true b e = refl
or_last false b e = e

-- after labels alone a property, or a node
reads_prop_name : (base : Bool) (ps : Pieces) (lead : Lead) (f : Form) (n : Name f) → takes_inner (place base ps) ≡ true → is_empty (marks_of lead) ≡ true → Reads true base (spell_pieces ps) (resting base ps)
    → Reads true base (name_token f n ∷ spell_lead lead (spell_pieces ps)) (record (leading base ps lead) { mode = mode.Named f; name = Some n.spot })
reads_prop_name base ps lead f n inner bare h =
    reads_name base ps lead f n (fits_inner (place base ps) lead inner)
    (may_inner (takes_inner (place base ps)) (is_empty (marks_of lead)) (is_node_form f) _ inner (or_first (is_empty (marks_of lead)) (is_node_form f) bare)) h

reads_node_name : (base : Bool) (ps : Pieces) (lead : Lead) (f : Form) (n : Name f) → takes_inner (place base ps) ≡ true → is_node_form f ≡ true → Reads true base (spell_pieces ps) (resting base ps)
    → Reads true base (name_token f n ∷ spell_lead lead (spell_pieces ps)) (record (leading base ps lead) { mode = mode.Named f; name = Some n.spot })
reads_node_name base ps lead f n inner node h =
    reads_name base ps lead f n (fits_inner (place base ps) lead inner)
    (may_inner (takes_inner (place base ps)) (is_empty (marks_of lead)) (is_node_form f) _ inner (or_last (is_empty (marks_of lead)) (is_node_form f) node)) h

pub reads_opening : (base : Bool) (ps : Pieces) (lead : Lead) (o : Opening) → takes_top (place base ps) ≡ true → is_empty (marks_of lead) ≡ true → Reads true base (spell_pieces ps) (resting base ps)
    → Reads true base (opening_token o ∷ spell_lead lead (spell_pieces ps)) (record (resting base ps) { mode = mode.Opening; out = (script base ps ++ opening_stmt o ∷ []) ++ labels_of lead })
reads_opening base ps lead (Root_ p) top bare h =
    hop (token terminal.Slash p) (reads_lead base ps lead (fits_top (place base ps) lead top bare) h) refl
    (if_true (takes_top (place base ps) && is_empty (marks_of lead)) _ _ (and_both (takes_top (place base ps)) (is_empty (marks_of lead)) top bare))
reads_opening base ps lead (Ref_ p) top bare h =
    hop (token terminal.Ref p) (reads_lead base ps lead (fits_top (place base ps) lead top bare) h) refl
    (if_true (takes_top (place base ps) && is_empty (marks_of lead)) _ _ (and_both (takes_top (place base ps)) (is_empty (marks_of lead)) top bare))

abbrev naming : (base : Bool) (ps : Pieces) (lead : Lead) (f : Form) → Name f → Shape
naming base ps lead f n = record (leading base ps lead) { mode = mode.Named f; name = Some n.spot }

is_prop_at : (inner bare prop : Bool) → inner ≡ true → bare ≡ true → prop ≡ true → (inner && bare && prop) ≡ true
is_prop_at inner bare prop a b c = and_both (inner && bare) prop (and_both inner bare a b) c

reads_equal : (base : Bool) (ps : Pieces) (lead : Lead) (f : Form) (n : Name f) (equal : Spot) → takes_inner (place base ps) ≡ true → is_empty (marks_of lead) ≡ true → is_prop_form f ≡ true
    → Reads true base (spell_pieces ps) (resting base ps)
    → Reads true base (token terminal.Equal equal ∷ name_token f n ∷ spell_lead lead (spell_pieces ps)) (record (resting base ps) { mode = mode.Value; name = Some n.spot })
reads_equal base ps lead f n equal inner bare is h =
    hop (token terminal.Equal equal) (reads_prop_name base ps lead f n inner bare h) refl
    (if_true (takes_inner (place base ps) && is_empty (marks_of lead) && is_prop_form f) _ _ (is_prop_at (takes_inner (place base ps)) (is_empty (marks_of lead)) (is_prop_form f) inner bare is))

-- ---- pieces

pub reads_pieces : (base : Bool) (ps : Pieces) → AreFit base ps → Reads true base (spell_pieces ps) (resting base ps)
reads_pieces base Nothing_yet fit = record { is = refl }
reads_pieces base (Short_ ps s semicolon) fit = hop (token terminal.Semicolon semicolon) (reads_short base ps s fit.1 (reads_pieces base ps fit.0)) refl refl
reads_pieces base (Open_root ps lead slash brace) fit =
    hop (token terminal.LeftBrace brace) (reads_opening base ps lead (Root_ slash) fit.1 fit.2 (reads_pieces base ps fit.0)) refl refl
reads_pieces base (Open_ref ps lead ref brace) fit =
    hop (token terminal.LeftBrace brace) (reads_opening base ps lead (Ref_ ref) fit.1 fit.2 (reads_pieces base ps fit.0)) refl refl
reads_pieces base (Open_child ps lead f n brace) fit =
    hop (token terminal.LeftBrace brace) (reads_node_name base ps lead f n fit.1 fit.2 (reads_pieces base ps fit.0)) refl
    (if_true (takes_inner (place base ps) && is_node_form f) _ _ (and_both (takes_inner (place base ps)) (is_node_form f) fit.1 fit.2))
reads_pieces base (Flag_ ps lead f n semicolon) fit =
    hop (token terminal.Semicolon semicolon) (reads_prop_name base ps lead f n fit.1 fit.2 (reads_pieces base ps fit.0)) refl
    (if_true (takes_inner (place base ps) && is_empty (marks_of lead) && is_prop_form f) _ _ (is_prop_at (takes_inner (place base ps)) (is_empty (marks_of lead)) (is_prop_form f) fit.1 fit.2 fit.3))
reads_pieces base (Assign_ ps lead f n equal b ls part after semicolon) fit =
    let s : Shape = record (resting base ps) { mode = mode.Value; name = Some n.spot } in
    let begun : Reads true base (token terminal.Equal equal ∷ name_token f n ∷ spell_lead lead (spell_pieces ps)) s = reads_equal base ps lead f n equal fit.1 fit.2 fit.3 (reads_pieces base ps fit.0) in
    hop (token terminal.Semicolon semicolon)
    (part_labels base after s (parts_of b ++ part_of part ∷ []) _
    (reads_written base s (parts_of b) part _ (value_labels base ls s (parts_of b) _ (reads_before base s b _ begun))))
    refl refl

-- ---- fronts

pub reads_beginning : (base : Bool) (top : Beginning base) → Reads true base (spell_beginning top) (record (resting base top.ps) { mode = mode.Value; name = Some top.n.spot })
reads_beginning base top = reads_equal base top.ps top.lead top.f top.n top.equal top.inner top.bare top.is (reads_pieces base top.ps top.fit)

abbrev pub context : (base : Bool) → Beginning base → Shape
context base top = record (resting base top.ps) { mode = mode.Value; name = Some top.n.spot }

pub reads_value : (base : Bool) (top : Beginning base) (b : Before) (ls : Labels) → Reads true base (spell_site (In_value top b ls)) (kept_site (In_value top b ls))
reads_value base top b ls = value_labels base ls (context base top) (parts_of b) _ (reads_before base (context base top) b (spell_beginning top) (reads_beginning base top))

pub reads_list : (base : Bool) (w : Width) (l : Listed base w) → Reads true base (spell_list l) (list_at (context base l.top) (parts_of l.b) w (listing_of l.es No_labels) (cells_of w l.es) (bytes_of w l.es))
reads_list base w l =
    reads_elements base w (context base l.top) (parts_of l.b) l.es _ (reads_head base w (context base l.top) (parts_of l.b) l.h _ (reads_value base l.top l.b l.ls))

pub reads_listed : (base : Bool) (w : Width) (l : Listed base w) → Reads true base (spell_listed l) (kept_site (In_list w l))
reads_listed base w l = list_labels base w l.es l.now (context base l.top) (parts_of l.b) (cells_of w l.es) (bytes_of w l.es) _ (reads_list base w l)

pub reads_site : (base : Bool) (s : Site base) → Reads true base (spell_site s) (kept_site s)
reads_site base (In_value top b ls) = reads_value base top b ls
reads_site base (After_part top b ls part after) =
    part_labels base after (context base top) (parts_of b ++ part_of part ∷ []) _ (reads_written base (context base top) (parts_of b) part _ (reads_value base top b ls))
reads_site base (In_list w l) = reads_listed base w l
reads_site base (In_hex top b ls begin ps now) =
    let opened : Reads true base (token terminal.LeftSquare begin ∷ spell_site (In_value top b ls)) (pairs_at (context base top) (parts_of b) listing.Empty []) =
    hop (token terminal.LeftSquare begin) (reads_value base top b ls) refl refl in
    pairs_labels base ps now (context base top) (parts_of b) (pair_bytes ps) _ (reads_pairs base (context base top) (parts_of b) ps _ opened)

-- an open expression
abbrev pub inner_at : (base : Bool) (w : Width) → Listed base w → (begin : Spot) → Shape
inner_at base w l begin = record (kept_site (In_list w l)) { begin = begin.at }

pub room_is : (x : Waiting) → room_of (frames_of x) ≡ room x
room_is Start = refl
room_is (In_round w b) = refl
room_is (In_un w o p) = refl
room_is (In_bin w l o p) = refl
room_is (In_cond w c q) = refl
room_is (In_else w c q a k) = refl

reads_question : (base : Bool) (w : Width) (l : Listed base w) (begin : Spot) (x : Waiting) (c : Tree) (q : Spot) → level c ≤ 11 → 12 ≤ room_of (frames_of x) → IsProper c
    → Reads true base (spell_waiting x (token terminal.LeftRound begin ∷ spell_listed l))
    (operand_at (inner_at base w l begin) w (rounds x (suc (suc (braces l.top)))) (large_waiting x) (count_waiting x 1) (frames_of x))
    → Reads true base (token terminal.Question q ∷ spell c (spell_waiting x (token terminal.LeftRound begin ∷ spell_listed l)))
    (operand_at (inner_at base w l begin) w (rounds x (suc (suc (braces l.top)))) (large c (large_waiting x)) (more (count c (count_waiting x 1))) (frame.Cond (worth_of c) ∷ frames_of x))
reads_question base w l begin x c q below room_ is h =
    let s : Shape = inner_at base w l begin in
    let d : ℕ = rounds x (suc (suc (braces l.top))) in
    go (token terminal.Question q)
    (reads true base c s w d (large_waiting x) (count_waiting x 1) (frames_of x) _ is (omega arith) h)
    refl
    (tests true s w d (large c (large_waiting x)) (count c (count_waiting x 1)) (frames_of x) q (worth_of c) (spine c (frames_of x))
    (closes c 11 (frames_of x) is below ∙ stays 11 (frames_of x) (worth_of c) (omega arith) (omega arith) (omega arith)))

waits_at : (base : Bool) (s : Site base) (n : Name form.Label) → taken (kept_site s) n.spot (terminal.Name form.Label) ≡ Ok (record (kept_site s) { colon = true })
waits_at base (In_value top b ls) n = refl
waits_at base (After_part top b ls part after) n = refl
waits_at base (In_list w l) n = refl
waits_at base (In_hex top b ls begin ps now) n = refl

pub reads_waiting : (base : Bool) (w : Width) (l : Listed base w) (begin : Spot) (x : Waiting) → AreProper x
    → Reads true base (spell_waiting x (token terminal.LeftRound begin ∷ spell_listed l))
    (operand_at (inner_at base w l begin) w (rounds x (suc (suc (braces l.top)))) (large_waiting x) (count_waiting x 1) (frames_of x))
reads_waiting base w l begin Start proper = hop (token terminal.LeftRound begin) (reads_listed base w l) refl refl
reads_waiting base w l begin (In_round x b) proper = hop (token terminal.LeftRound b) (reads_waiting base w l begin x proper) refl refl
reads_waiting base w l begin (In_un x o p) proper =
    reads_un true base (inner_at base w l begin) w (rounds x (suc (suc (braces l.top)))) (large_waiting x) (count_waiting x 1) (frames_of x) _ o p (reads_waiting base w l begin x proper.1)
reads_waiting base w l begin (In_bin x e o p) proper =
    let s : Shape = inner_at base w l begin in
    let d : ℕ = rounds x (suc (suc (braces l.top))) in
    let range : (2 ≤ op_level o) × (op_level o ≤ 11) = op_range o in
    let room_ : op_level o ≤ room_of (frames_of x) = subst (λ (n : ℕ). op_level o ≤ n) (sym (room_is x)) proper.0 in
    go (token (bin_terminal o) p)
    (reads true base e s w d (large_waiting x) (count_waiting x 1) (frames_of x) _ proper.2 (omega arith) (reads_waiting base w l begin x proper.3))
    (no_include o)
    (joins true s w d (large e (large_waiting x)) (count e (count_waiting x 1)) (frames_of x) o p (worth_of e) (spine e (frames_of x))
    (closes e (op_level o) (frames_of x) proper.2 proper.1 ∙ stays (op_level o) (frames_of x) (worth_of e) range.0 range.1 room_))
reads_waiting base w l begin (In_cond x c q) proper =
    let room_ : 12 ≤ room_of (frames_of x) = subst (λ (n : ℕ). 12 ≤ n) (sym (room_is x)) proper.0 in
    reads_question base w l begin x c q proper.1 room_ proper.2 (reads_waiting base w l begin x proper.3)
reads_waiting base w l begin (In_else x c q a k) proper =
    let s : Shape = inner_at base w l begin in
    let d : ℕ = rounds x (suc (suc (braces l.top))) in
    let room_ : 12 ≤ room_of (frames_of x) = subst (λ (n : ℕ). 12 ≤ n) (sym (room_is x)) proper.0 in
    let h : Bool = large c (large_waiting x) in
    let n : ℕ = more (count c (count_waiting x 1)) in
    go (token terminal.Colon k)
    (reads true base a s w d h n (frame.Cond (worth_of c) ∷ frames_of x) _ proper.3 (level_range a) (reads_question base w l begin x c q proper.1 room_ proper.2 (reads_waiting base w l begin x proper.4)))
    refl
    (chooses true s w d (large a h) (count a n) (frames_of x) k (worth_of c) (worth_of a) (spine a (frame.Cond (worth_of c) ∷ frames_of x))
    (closes a 12 (frame.Cond (worth_of c) ∷ frames_of x) proper.3 (level_range a)))

pub reads_front : (base : Bool) (f : Front base) → Reads true base (spell_front f) (kept f)
reads_front base (In_body ps fit lead may) = reads_lead base ps lead may (reads_pieces base ps fit)
reads_front base (At_name ps fit lead may f n named) = reads_name base ps lead f n may named (reads_pieces base ps fit)
reads_front base (At_brace ps fit lead may bare o) = reads_opening base ps lead o may bare (reads_pieces base ps fit)
reads_front base (At_directive ps fit b may) = reads_begun base ps b may (reads_pieces base ps fit)
reads_front base (At_end ps fit s may) = reads_short base ps s may (reads_pieces base ps fit)
reads_front base (At_site s) = reads_site base s
reads_front base (At_colon s n) = hop (name_token form.Label n) (reads_site base s) refl (waits_at base s n)
reads_front base (At_bits top b ls directive) = reads_bits base (context base top) (parts_of b) directive _ (reads_value base top b ls)
reads_front base (At_angle top b ls directive n w is number) = reads_angle base w (context base top) (parts_of b) directive n is number _ (reads_value base top b ls)
reads_front base (Before_operand w l begin x proper) = reads_waiting base w l begin x proper
reads_front base (After_operand w l begin x proper e is fits) =
    reads true base e (inner_at base w l begin) w (rounds x (suc (suc (braces l.top)))) (large_waiting x) (count_waiting x 1) (frames_of x) _ is
    (subst (λ (n : ℕ). level e ≤ n) (sym (room_is x)) fits) (reads_waiting base w l begin x proper)
