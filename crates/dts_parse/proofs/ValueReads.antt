-- What a value spells is read as its parts.
use Rattle.std.proofs.Common.{◌≡◌, ℕ, suc, Bool, true, false, List, [], ◌∷◌, ◌++◌, Option, Some, None, Ok, Err, refl, sym, ap, subst, ◌∙◌, if◌then◌else◌}
use Rattle.dts_parse.specs.Exprs.{Literal, Small, Large, Letter, Tree, IsProper, count, large, literal_terminal, literal_worth, spell, worth_of}
use Rattle.dts_parse.specs.Inner.Machine.{Shape, Step, at_ref, at_width, by_mode, climbed, closed_round, labelled, more_labels, put}
use Rattle.dts_parse.specs.Values.{Labels, No_labels, Label_, Element, Lone, Group, Refer, Elements, None_yet, Then, Pairs, No_pair, And_pair, Head, Angle_, Bits_, Written, Text_, Path_, List_, Hex_, Before, Nothing, Comma_, bytes_of, bytes_with, cells_of, cells_with, listing_of, may_close, misfits, pair_bytes, pair_listing, part_of, parts_of, spell_before, spell_element, spell_elements, spell_head, spell_labels, spell_pairs, spell_written}
use Rattle.dts_parse.specs.StmtData.{PartData}
use Rattle.dts_parse.specs.Texts.{target_of, width_of}
use Rattle.dts_parse.specs.Token.{Name, Spot, Token, name_token, token}
use Rattle.dts_parse.specs.declared.mode.Listing.{Listing}
use Rattle.dts_parse.specs.declared.mode.Listing.TheVariants as listing
use Rattle.dts_parse.specs.declared.mode.Mode.{Mode}
use Rattle.dts_parse.specs.declared.mode.Mode.TheVariants as mode
use Rattle.dts_parse.specs.declared.mode.Breach.TheVariants.{S5}
use Rattle.dts_parse.specs.declared.script.RawCell.{RawCell}
use Rattle.dts_parse.specs.declared.script.RawCell.TheVariants as cell
use Rattle.dts_parse.specs.declared.terminal.Form.TheVariants as form
use Rattle.dts_parse.specs.declared.terminal.Terminal.TheVariants as terminal
use Rattle.dts_parse.specs.declared.terminal.Width.{Width}
use Rattle.dts_parse.proofs.ExprReads.{closes, level_range, operand_at, operator_at, reads}
use Rattle.dts_parse.proofs.Kept.{spine}
use Rattle.dts_parse.proofs.Leading.{Leads, Reads, go, hop}

pub if_true : {A : Type 0} (b : Bool) (x y : A) → b ≡ true → (if b then x else y) ≡ x
if_true true x y e = refl
if_true false x y e = cc

pub if_false : {A : Type 0} (b : Bool) (x y : A) → b ≡ false → (if b then x else y) ≡ y
if_false true x y e = cc
if_false false x y e = refl

-- ---- shapes in a value

abbrev pub value_at : Shape → List PartData → Shape
value_at s ps = record s { mode = mode.Value; colon = false; parts = ps; cells = []; bytes = []; begin = 0; long = 0; huge = false; frames = [] }

abbrev pub part_at : Shape → List PartData → Shape
part_at s ps = record (value_at s ps) { mode = mode.Part }

abbrev pub list_at : Shape → List PartData → Width → Listing → List RawCell → List ℕ → Shape
list_at s ps w l cs bs = record (value_at s ps) { mode = mode.Cells w l; depth = suc s.depth; cells = cs; bytes = bs }

abbrev pub pairs_at : Shape → List PartData → Listing → List ℕ → Shape
pairs_at s ps l bs = record (value_at s ps) { mode = mode.Pairs l; depth = suc s.depth; bytes = bs }

-- ---- labels

abbrev site_at : Shape → Mode → Shape
site_at s m = record s { mode = m; colon = false }

reads_labels : (base : Bool) (m : Labels → Mode)
    → ((ls : Labels) (s : Shape) (p : Spot) → by_mode (m ls) s p (terminal.Name form.Label) ≡ Ok (record s { colon = true }))
    → ((ls : Labels) (n : Name form.Label) (c : Spot) → labelled (m ls) ≡ m (Label_ ls n c))
    → (ls : Labels) (s : Shape) (before : List Token) → Reads true base before (site_at s (m No_labels)) → Reads true base (spell_labels ls before) (site_at s (m ls))
reads_labels base m takes next No_labels s before h = h
reads_labels base m takes next (Label_ ls n c) s before h =
    hop (token terminal.Colon c) (hop (name_token form.Label n) (reads_labels base m takes next ls s before h) refl (takes ls (site_at s (m ls)) n.spot)) refl
    (let F : Mode → Step = λ x. Ok (site_at s x) in ap F (next ls n c))

pub value_labels : (base : Bool) (ls : Labels) (s : Shape) (ps : List PartData) (before : List Token) → Reads true base before (value_at s ps) → Reads true base (spell_labels ls before) (value_at s ps)
value_labels base ls s ps before h = reads_labels base (λ _. mode.Value) (λ _ _ _. refl) (λ _ _ _. refl) ls (value_at s ps) before h

pub part_labels : (base : Bool) (ls : Labels) (s : Shape) (ps : List PartData) (before : List Token) → Reads true base before (part_at s ps) → Reads true base (spell_labels ls before) (part_at s ps)
part_labels base ls s ps before h = reads_labels base (λ _. mode.Part) (λ _ _ _. refl) (λ _ _ _. refl) ls (part_at s ps) before h

pub more_is : (w : Width) (es : Elements w) (ls : Labels) (n : Name form.Label) (c : Spot) → more_labels (listing_of es ls) ≡ listing_of es (Label_ ls n c)
more_is w None_yet No_labels n c = refl
more_is w None_yet (Label_ ls m d) n c = refl
more_is w (Then es b e) ls n c = refl

pub more_pairs : (ps : Pairs) (ls : Labels) (n : Name form.Label) (c : Spot) → more_labels (pair_listing ps ls) ≡ pair_listing ps (Label_ ls n c)
more_pairs No_pair No_labels n c = refl
more_pairs No_pair (Label_ ls m d) n c = refl
more_pairs (And_pair ps b byte p) ls n c = refl

pub list_labels : (base : Bool) (w : Width) (es : Elements w) (ls : Labels) (s : Shape) (ps : List PartData) (cs : List RawCell) (bs : List ℕ) (before : List Token)
    → Reads true base before (list_at s ps w (listing_of es No_labels) cs bs) → Reads true base (spell_labels ls before) (list_at s ps w (listing_of es ls) cs bs)
list_labels base w es ls s ps cs bs before h =
    reads_labels base (λ x. mode.Cells w (listing_of es x)) (λ _ _ _. refl) (λ x n c. ap (λ y. mode.Cells w y) (more_is w es x n c)) ls (list_at s ps w (listing_of es No_labels) cs bs) before h

pub pairs_labels : (base : Bool) (qs : Pairs) (ls : Labels) (s : Shape) (ps : List PartData) (bs : List ℕ) (before : List Token)
    → Reads true base before (pairs_at s ps (pair_listing qs No_labels) bs) → Reads true base (spell_labels ls before) (pairs_at s ps (pair_listing qs ls) bs)
pairs_labels base qs ls s ps bs before h =
    reads_labels base (λ x. mode.Pairs (pair_listing qs x)) (λ _ _ _. refl) (λ x n c. ap (λ y. mode.Pairs y) (more_pairs qs x n c)) ls (pairs_at s ps (pair_listing qs No_labels) bs) before h

-- ---- elements

put_leads : (w : Width) (huge : Bool) (n : Option ℕ) (at : ℕ) (s : Shape)
    → Leads true (put w huge n at s) (record s { mode = mode.Cells w listing.Elements; cells = cells_with w n s.cells; bytes = bytes_with w n s.bytes })
put_leads w huge n at s = by_fit (misfits w huge n)
  where
    by_fit : (b : Bool) → Leads true (if b then Err (record { rule = S5; at = at }) else Ok (record s { mode = mode.Cells w listing.Elements; cells = cells_with w n s.cells; bytes = bytes_with w n s.bytes }))
        (record s { mode = mode.Cells w listing.Elements; cells = cells_with w n s.cells; bytes = bytes_with w n s.bytes })
    by_fit true = tt
    by_fit false = refl

abbrev pub lone_at : (w : Width) → Shape → List PartData → Option ℕ → List RawCell → List ℕ → Shape
lone_at w s ps n cs bs = list_at s ps w listing.Elements (cells_with w n cs) (bytes_with w n bs)

reads_lone : (base : Bool) (w : Width) (l : Listing) (s : Shape) (ps : List PartData) (cs : List RawCell) (bs : List ℕ) (x : Literal) (p : Spot) (before : List Token)
    → Reads true base before (list_at s ps w l cs bs) → Reads true base (token (literal_terminal x) p ∷ before) (lone_at w s ps (literal_worth x) cs bs)
reads_lone base w l s ps cs bs (Small n) p before h = go (token (terminal.Number n) p) h refl (record { is = put_leads w false (Some n) p.at (list_at s ps w l cs bs) })
reads_lone base w l s ps cs bs Large p before h = go (token terminal.Huge p) h refl (record { is = put_leads w true None p.at (list_at s ps w l cs bs) })
reads_lone base w l s ps cs bs (Letter n) p before h = go (token (terminal.Char n) p) h refl (record { is = put_leads w false (Some n) p.at (list_at s ps w l cs bs) })

pub reads_group : (base : Bool) (w : Width) (l : Listing) (s : Shape) (ps : List PartData) (cs : List RawCell) (bs : List ℕ) (b : Spot) (e : Tree) (f : Spot) (before : List Token)
    → IsProper e → Reads true base before (list_at s ps w l cs bs) → Reads true base (token terminal.RightRound f ∷ spell e (token terminal.LeftRound b ∷ before)) (lone_at w s ps (worth_of e) cs bs)
reads_group base w l s ps cs bs b e f before is h =
    let t : Shape = record (list_at s ps w l cs bs) { begin = b.at } in
    let opened : Reads true base (token terminal.LeftRound b ∷ before) (operand_at t w (suc (suc s.depth)) false 1 []) = hop (token terminal.LeftRound b) h refl refl in
    let inner : Reads true base (spell e (token terminal.LeftRound b ∷ before)) (operator_at t w (suc (suc s.depth)) (large e false) (count e 1) (spine e [])) =
    reads true base e t w (suc (suc s.depth)) false 1 [] (token terminal.LeftRound b ∷ before) is (level_range e) opened in
    let now : Shape = operator_at t w (suc (suc s.depth)) (large e false) (count e 1) (spine e []) in
    let ended : closed_round w now f (climbed 12 (spine e []).left (spine e []).worth) ≡ closed_round w now f (record { left = []; worth = worth_of e }) =
    ap (λ x. closed_round w now f x) (closes e 12 [] is (level_range e)) in
    go (token terminal.RightRound f) inner refl (record {
      is =
          (let P : Step → Type 0 = λ r. Leads true r (lone_at w s ps (worth_of e) cs bs) in
          subst P (sym ended) (put_leads w (large e false) (worth_of e) b.at (list_at s ps w l cs bs)));
    })

reads_element : (base : Bool) (w : Width) (l : Listing) (s : Shape) (ps : List PartData) (es : Elements w) (ls : Labels) (e : Element w) (before : List Token)
    → Reads true base before (list_at s ps w l (cells_of w es) (bytes_of w es))
    → Reads true base (spell_element e before) (list_at s ps w listing.Elements (cells_of w (Then es ls e)) (bytes_of w (Then es ls e)))
reads_element base w l s ps es ls (Lone x p) before h = reads_lone base w l s ps (cells_of w es) (bytes_of w es) x p before h
reads_element base w l s ps es ls (Group b e is f) before h = reads_group base w l s ps (cells_of w es) (bytes_of w es) b e f before is h
reads_element base w l s ps es ls (Refer is p) before h =
    let now : Shape = list_at s ps w l (cells_of w es) (bytes_of w es) in
    let F : Width → Step = λ v. Ok (record now { mode = mode.Cells v listing.Elements; cells = cells_of w es ++ cell.Ref (target_of p.text) ∷ [] }) in
    hop (token terminal.Ref p) h refl (ap (λ v. at_ref v now p) is ∙ sym (ap F is))

pub reads_elements : (base : Bool) (w : Width) (s : Shape) (ps : List PartData) (es : Elements w) (before : List Token)
    → Reads true base before (list_at s ps w listing.Empty [] []) → Reads true base (spell_elements es before) (list_at s ps w (listing_of es No_labels) (cells_of w es) (bytes_of w es))
reads_elements base w s ps None_yet before h = h
reads_elements base w s ps (Then es ls e) before h =
    reads_element base w (listing_of es ls) s ps es ls e (spell_labels ls (spell_elements es before))
    (list_labels base w es ls s ps (cells_of w es) (bytes_of w es) (spell_elements es before) (reads_elements base w s ps es before h))

pub reads_pairs : (base : Bool) (s : Shape) (ps : List PartData) (qs : Pairs) (before : List Token)
    → Reads true base before (pairs_at s ps listing.Empty []) → Reads true base (spell_pairs qs before) (pairs_at s ps (pair_listing qs No_labels) (pair_bytes qs))
reads_pairs base s ps No_pair before h = h
reads_pairs base s ps (And_pair qs ls byte p) before h =
    hop (token (terminal.Pair byte) p) (pairs_labels base qs ls s ps (pair_bytes qs) (spell_pairs qs before) (reads_pairs base s ps qs before h)) refl refl

-- ---- parts

pub reads_bits : (base : Bool) (s : Shape) (ps : List PartData) (d : Spot) (before : List Token)
    → Reads true base before (value_at s ps) → Reads true base (token terminal.Bits d ∷ before) (record (value_at s ps) { mode = mode.Bits })
reads_bits base s ps d before h = hop (token terminal.Bits d) h refl refl

pub reads_angle : (base : Bool) (w : Width) (s : Shape) (ps : List PartData) (d : Spot) (n : ℕ) → width_of n ≡ Some w → (q : Spot) (before : List Token)
    → Reads true base before (value_at s ps) → Reads true base (token (terminal.Number n) q ∷ token terminal.Bits d ∷ before) (record (value_at s ps) { mode = mode.Angle w })
reads_angle base w s ps d n is q before h =
    hop (token (terminal.Number n) q) (reads_bits base s ps d before h) refl (ap (λ x. at_width (record (value_at s ps) { mode = mode.Bits }) q x) is)

pub reads_head : (base : Bool) (w : Width) (s : Shape) (ps : List PartData) (h : Head w) (before : List Token)
    → Reads true base before (value_at s ps) → Reads true base (spell_head h before) (list_at s ps w listing.Empty [] [])
reads_head base w s ps (Angle_ is b) before h =
    let F : Width → Step = λ v. Ok (list_at s ps v listing.Empty [] []) in
    hop (token terminal.Less b) h refl (sym (ap F is))
reads_head base w s ps (Bits_ d n is q b) before h = hop (token terminal.Less b) (reads_angle base w s ps d n is q before h) refl refl

pub reads_written : (base : Bool) (s : Shape) (ps : List PartData) (part : Written) (before : List Token)
    → Reads true base before (value_at s ps) → Reads true base (spell_written part before) (part_at s (ps ++ part_of part ∷ []))
reads_written base s ps (Text_ p) before h = hop (token terminal.Str p) h refl refl
reads_written base s ps (Path_ p) before h = hop (token terminal.Ref p) h refl refl
reads_written base s ps (List_ w hd es ls ends f) before h =
    hop (token terminal.Greater f)
    (list_labels base w es ls s ps (cells_of w es) (bytes_of w es) _ (reads_elements base w s ps es (spell_head hd before) (reads_head base w s ps hd before h)))
    refl (if_true (may_close (listing_of es ls)) _ _ ends)
reads_written base s ps (Hex_ b qs ls ends f) before h =
    let opened : Reads true base (token terminal.LeftSquare b ∷ before) (pairs_at s ps listing.Empty []) = hop (token terminal.LeftSquare b) h refl refl in
    hop (token terminal.RightSquare f)
    (pairs_labels base qs ls s ps (pair_bytes qs) _ (reads_pairs base s ps qs (token terminal.LeftSquare b ∷ before) opened))
    refl (if_true (may_close (pair_listing qs ls)) _ _ ends)

pub reads_before : (base : Bool) (s : Shape) (b : Before) (before : List Token)
    → Reads true base before (value_at s []) → Reads true base (spell_before b before) (value_at s (parts_of b))
reads_before base s Nothing before h = h
reads_before base s (Comma_ b ls part after comma) before h =
    hop (token terminal.Comma comma)
    (part_labels base after s (parts_of b ++ part_of part ∷ []) _
    (reads_written base s (parts_of b) part _ (value_labels base ls s (parts_of b) _ (reads_before base s b before h))))
    refl refl
