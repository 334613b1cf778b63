-- What the reader keeps at a front.
use Rattle.std.proofs.Common.{suc, Bool, true, List, [], ◌∷◌, ◌++◌, Some}
use Rattle.dts_parse.specs.Exprs.{Tree, Num, Round, Un, Bin, Cond, Waiting, Start, In_round, In_un, In_bin, In_cond, In_else, count, count_waiting, large, large_waiting, rounds, worth_of, literal_worth}
use Rattle.dts_parse.specs.Fronts.{Beginning, Front, In_body, At_name, At_brace, At_directive, At_end, At_site, At_colon, At_bits, At_angle, Before_operand, After_operand, Site, In_value, After_part, In_list, In_hex, Opening, Root_, Ref_, braces, directive_place, wanted_of}
use Rattle.dts_parse.specs.Inner.Machine.{Climbed, Shape, start}
use Rattle.dts_parse.specs.Statements.{Pieces, Short, labels_of, marks_of, place, place_behind, script, with_short}
use Rattle.dts_parse.specs.StmtData.{StmtData, Open, stmt}
use Rattle.dts_parse.specs.Texts.{target_of}
use Rattle.dts_parse.specs.Values.{Before, bytes_of, cells_of, listing_of, pair_bytes, pair_listing, part_of, parts_of}
use Rattle.dts_parse.specs.declared.mode.Frame.{Frame}
use Rattle.dts_parse.specs.declared.mode.Frame.TheVariants as frame
use Rattle.dts_parse.specs.declared.mode.Mode.TheVariants as mode
use Rattle.dts_parse.specs.declared.script.Target.TheVariants as target

-- ---- expressions

abbrev pub frames_of : Waiting → List Frame
frames_of Start = []
frames_of (In_round w begin) = frame.Round ∷ frames_of w
frames_of (In_un w o p) = frame.Un o ∷ frames_of w
frames_of (In_bin w l o p) = frame.Bin o (worth_of l) ∷ frames_of w
frames_of (In_cond w c q) = frame.Cond (worth_of c) ∷ frames_of w
frames_of (In_else w c q a k) = frame.Else (worth_of c) (worth_of a) ∷ frames_of w

-- the cases that are open after an expression, down its right side, and the worth of the last operand
abbrev pub spine : Tree → List Frame → Climbed
spine (Num l p) fs = record { left = fs; worth = literal_worth l }
spine (Round begin e finish) fs = record { left = fs; worth = worth_of e }
spine (Un o p e) fs = spine e (frame.Un o ∷ fs)
spine (Bin l o p r) fs = spine r (frame.Bin o (worth_of l) ∷ fs)
spine (Cond c q a k b) fs = spine b (frame.Else (worth_of c) (worth_of a) ∷ fs)

-- ---- statements and values

abbrev pub resting : (base : Bool) → Pieces → Shape
resting base ps = record (start base) { stage = (place base ps).stage; opened = (place base ps).opened; depth = (place base ps).depth; out = script base ps }

abbrev pub ending : (base : Bool) → Pieces → Short → Shape
ending base ps s = record (start base) {
  mode = mode.Ending;
  stage = (place_behind (place base ps) s).stage;
  opened = (place_behind (place base ps) s).opened;
  depth = (place_behind (place base ps) s).depth;
  out = with_short (place base ps) s (script base ps);
}

abbrev pub opening_stmt : Opening → StmtData
opening_stmt (Root_ p) = stmt p.at (Open target.Root)
opening_stmt (Ref_ p) = stmt p.at (Open (target_of p.text))

abbrev pub valuing : {base : Bool} → Beginning base → Before → Shape
valuing {base = base} top b = record (resting base top.ps) { mode = mode.Value; name = Some top.n.spot; parts = parts_of b }

abbrev pub kept_site : {base : Bool} → Site base → Shape
kept_site (In_value top b ls) = valuing top b
kept_site (After_part top b ls part after) = record (valuing top b) { mode = mode.Part; parts = parts_of b ++ part_of part ∷ [] }
kept_site (In_list w l) = record (valuing l.top l.b) { mode = mode.Cells w (listing_of l.es l.now); depth = suc (braces l.top); cells = cells_of w l.es; bytes = bytes_of w l.es }
kept_site (In_hex top b ls begin ps now) = record (valuing top b) { mode = mode.Pairs (pair_listing ps now); depth = suc (braces top); bytes = pair_bytes ps }

abbrev pub kept : {base : Bool} → Front base → Shape
kept {base = base} (In_body ps fit lead may) = record (resting base ps) { labels = labels_of lead; marks = marks_of lead }
kept {base = base} (At_name ps fit lead may f n named) = record (resting base ps) { mode = mode.Named f; labels = labels_of lead; marks = marks_of lead; name = Some n.spot }
kept {base = base} (At_brace ps fit lead may bare o) = record (resting base ps) { mode = mode.Opening; out = (script base ps ++ opening_stmt o ∷ []) ++ labels_of lead }
kept {base = base} (At_directive ps fit b may) = record (resting base ps) { mode = mode.Directive (wanted_of b); begin = directive_place b }
kept {base = base} (At_end ps fit s may) = ending base ps s
kept (At_site s) = kept_site s
kept (At_colon s n) = record (kept_site s) { colon = true }
kept (At_bits top b ls directive) = record (valuing top b) { mode = mode.Bits }
kept (At_angle top b ls directive n w is number) = record (valuing top b) { mode = mode.Angle w }
kept (Before_operand w l begin x proper) = record (kept_site (In_list w l)) {
  mode = mode.Operand w;
  depth = rounds x (suc (suc (braces l.top)));
  begin = begin.at;
  long = count_waiting x 1;
  huge = large_waiting x;
  frames = frames_of x;
}
kept (After_operand w l begin x proper e is fits) = record (kept_site (In_list w l)) {
  mode = mode.Operator w (spine e (frames_of x)).worth;
  depth = rounds x (suc (suc (braces l.top)));
  begin = begin.at;
  long = count e (count_waiting x 1);
  huge = large e (large_waiting x);
  frames = (spine e (frames_of x)).left;
}
