-- The next token is a slice of what is left.
use Rattle.std.proofs.Common.{◌≡◌, ◌<◌, ◌≤◌, ℕ, suc, ◌+◌, ◌-◌, List, [], ◌∷◌, ◌++◌, Option, Some, None, Result, Ok, Err, length, drop, take, refl, sym, ap, subst, ◌∙◌, arith, length-append, length-drop, length-take}
use Rattle.std.proofs.lemmas.List.{take-append-drop}
use Rattle.dts_lex.specs.Between.{gap, start}
use Rattle.dts_lex.specs.Left.{Left}
use Rattle.dts_lex.specs.Slices.{IsSlice, AreSlices, AreFaultsWithin, AreEndsGaps}
use Rattle.dts_lex.specs.Tokens.{next_of, next_at, rest_of, place_of, stands, behind}
use Rattle.dts_lex.specs.declared.lexer.Span.{Span}
use Rattle.dts_lex.specs.declared.lexer.LexFault.{LexFault}
use Rattle.dts_lex.specs.declared.token.Found.{Found}
use Rattle.dts_lex.proofs.SizeLaws.{HasSize, stands_size, gap_within}

slice_at : (l next : Left) (span : Span) (rest : List ℕ) (at : ℕ) (f : Option Found)
    → l.bytes ≡ take (gap (start l.at) l.bytes) l.bytes ++ rest → at ≡ l.at + gap (start l.at) l.bytes → HasSize (length rest) f
    → next_at l rest at f ≡ Ok (Some (span, next)) → IsSlice l span next
slice_at l next span [] at f p q h e = cc
slice_at l next span (b ∷ rest) at None p q h e = cc
slice_at l next span (b ∷ rest) at (Some f) p q h e =
    let pair : (record { kind = f.kind; start = at; end = at + f.size }, record { bytes = drop f.size (b ∷ rest); at = at + f.size; opened = behind l.opened f.kind (take f.size (b ∷ rest)) }) ≡ (span, next) = cc in
    let P : Span × Left → Type 0 = λ x. IsSlice l x.0 x.1 in
    subst P pair (record {
      between = take (gap (start l.at) l.bytes) l.bytes;
      text = take f.size (b ∷ rest);
      parts = p ∙ ap (λ ys. take (gap (start l.at) l.bytes) l.bytes ++ ys) (sym (take-append-drop f.size (b ∷ rest)));
      gap_is = omega (arith, length-take (gap (start l.at) l.bytes) l.bytes, gap_within (start l.at) l.bytes);
      begins = omega (arith, length-take (gap (start l.at) l.bytes) l.bytes, gap_within (start l.at) l.bytes);
      ends = omega (arith, length-take f.size (b ∷ rest));
      some = omega (arith, length-take f.size (b ∷ rest));
      goes_on = refl;
    })

fault_at : (l : Left) (g : LexFault) (rest : List ℕ) (at : ℕ) (f : Option Found) → next_at l rest at f ≡ Err g → (g.at ≡ at) × (0 < length rest)
fault_at l g [] at f e = cc
fault_at l g (b ∷ rest) at None e = let h : record { at = at } ≡ g = cc in (sym (ap (λ x. x.at) h), omega arith)
fault_at l g (b ∷ rest) at (Some f) e = cc

end_at : (l : Left) (rest : List ℕ) (at : ℕ) (f : Option Found) → next_at l rest at f ≡ Ok None → length rest ≡ 0
end_at l [] at f e = refl
end_at l (b ∷ rest) at None e = cc
end_at l (b ∷ rest) at (Some f) e = cc

pub are_slices : AreSlices
are_slices l next span e = slice_at l next span (rest_of l) (place_of l) (stands l.opened (rest_of l)) (sym (take-append-drop (gap (start l.at) l.bytes) l.bytes)) refl (stands_size l.opened (rest_of l)) e

pub are_faults_within : AreFaultsWithin
are_faults_within l g e =
    let h : (g.at ≡ place_of l) × (0 < length (rest_of l)) = fault_at l g (rest_of l) (place_of l) (stands l.opened (rest_of l)) e in
    (omega arith, omega (arith, length-drop (gap (start l.at) l.bytes) l.bytes))

pub are_ends_gaps : AreEndsGaps
are_ends_gaps l e =
    let h : length (rest_of l) ≡ 0 = end_at l (rest_of l) (place_of l) (stands l.opened (rest_of l)) e in
    omega (arith, length-drop (gap (start l.at) l.bytes) l.bytes, gap_within (start l.at) l.bytes)
