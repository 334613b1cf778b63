-- How writes join.
use Rattle.std.proofs.Common.{◌≡◌, ◌+◌, ◌<◌, ◌≤◌, ◌++◌, ◌∷◌, [], ◌∙◌, ℕ, Result, Ok, Err, Bool, true, false, List, length, sym, ap, subst, refl, append_assoc, arith, length-append, IsTrue, take, drop, get_or}
use Rattle.std.proofs.lemmas.List.{append-nil, take-append-drop, take_more, drop_more}
use Rattle.std.proofs.lemmas.List.Concat.{flat_map-append}
use Rattle.std.specs.List.{flat_map}
use Rattle.std.specs.Result.{IsErr, is_ok}
use Rattle.std.proofs.lemmas.Bool.{false≢true}
use Rattle.edt_base.specs.Outside.{SinkSeen, Gains, IsSure, Wrote}
use Rattle.c_tokens.specs.declared.tok.Tok.{Tok}
use Rattle.c_tokens.specs.Shown.{shown, with_space}
use Rattle.edt_base.proofs.WriteLaws.{gains_nothing, gains_then, rose_then, sure_then, wrote_nothing}

-- two writes are one write of both texts
pub wrote_then : (a b c : SinkSeen) (one two : List ℕ) (done : Bool) → Wrote a b one true → Wrote b c two done → Wrote a c (one ++ two) done
wrote_then a b c one two true before after = record {
  taken = gains_then a b c one two before.taken after.taken;
  count = omega (arith, before.count, after.count);
  sure = λ fits.
      let both : length (one ++ two) ≡ length one + length two = length-append one two in
      let early = before.sure (omega arith) in
      let late = after.sure (omega (arith, early.1.room)) in
      (refl, subst (λ n. IsSure a c n) (sym both) (sure_then a b c _ _ early.1 late.1));
}
wrote_then a b c one two false before after =
    let front : List ℕ = after.taken.1.0 in
    let rest : List ℕ = after.taken.1.1 in
    record {
      taken = (
        rose_then a.faults b.faults c.faults before.count after.taken.0,
        (one ++ front, rest, ap (λ t. one ++ t) after.taken.1.2 ∙ sym (append_assoc one front rest), gains_then a b c one front before.taken after.taken.1.3),
      );
      count = omega (arith, before.count, after.count);
      sure = λ fits.
          let both : length (one ++ two) ≡ length one + length two = length-append one two in
          let early = before.sure (omega arith) in
          absurd (false≢true (after.sure (omega (arith, early.1.room))).0);
    }

-- a write that failed is one of any longer text
pub wrote_stops : (a b : SinkSeen) (one two : List ℕ) → Wrote a b one false → Wrote a b (one ++ two) false
wrote_stops a b one two w =
    let front : List ℕ = w.taken.1.0 in
    let rest : List ℕ = w.taken.1.1 in
    record {
      taken = (w.taken.0, (front, rest ++ two, ap (λ t. t ++ two) w.taken.1.2 ∙ append_assoc front rest two, w.taken.1.3));
      count = w.count;
      sure = λ fits.
          let both : length (one ++ two) ≡ length one + length two = length-append one two in
          absurd (false≢true (w.sure (omega arith)).0);
    }

-- one piece more was written
pub one_more : {X : Type 0} (f : X → List ℕ) (xs : List X) (i : ℕ) (x : X) (a b c : SinkSeen) → i < length xs → x ≡ get_or xs i x
    → Wrote a b (flat_map f (take i xs)) true → Wrote b c (f x) true → Wrote a c (flat_map f (take (i + 1) xs)) true
one_more f xs i x a b c within at before after =
    let whole : flat_map f (take (i + 1) xs) ≡ flat_map f (take i xs) ++ f x =
    ap (flat_map f) (take_more xs i x within) ∙ (flat_map-append f (take i xs) (get_or xs i x ∷ [])
    ∙ ap (λ t. flat_map f (take i xs) ++ t) (append-nil (f (get_or xs i x)) ∙ ap f (sym at))) in
    subst (λ t. Wrote a c t true) (sym whole) (wrote_then a b c _ _ true before after)

-- one piece failed, and with it all of them
pub one_fails : {X : Type 0} (f : X → List ℕ) (xs : List X) (i : ℕ) (x : X) (a b c : SinkSeen) → i < length xs → x ≡ get_or xs i x
    → Wrote a b (flat_map f (take i xs)) true → Wrote b c (f x) false → Wrote a c (flat_map f xs) false
one_fails f xs i x a b c within at before after =
    let rest : flat_map f (drop i xs) ≡ f x ++ flat_map f (drop (i + 1) xs) =
    ap (flat_map f) (drop_more xs i x within) ∙ ap (λ y. f y ++ flat_map f (drop (i + 1) xs)) (sym at) in
    let whole : flat_map f xs ≡ flat_map f (take i xs) ++ (f x ++ flat_map f (drop (i + 1) xs)) =
    ap (flat_map f) (sym (take-append-drop i xs)) ∙ (flat_map-append f (take i xs) (drop i xs) ∙ ap (λ t. flat_map f (take i xs) ++ t) rest) in
    subst (λ t. Wrote a c t false) (sym whole) (wrote_then a b c _ _ false before (wrote_stops b c _ _ after))

-- an error is not done
pub failed : {T E : Type 0} (r : Result T E) → IsErr r → is_ok r ≡ false
failed (Ok x) err = absurd (false≢true err)
failed (Err e) err = refl

-- a write that failed, where another value says so
pub not_done : (a b : SinkSeen) (text : List ℕ) (done : Bool) → done ≡ false → Wrote a b text false → Wrote a b text done
not_done a b text done is w = subst (λ d. Wrote a b text d) (sym is) w

-- ---- what the first token and the others come to

pub shown_fails : (a b : SinkSeen) (toks rest : List Tok) (t : Tok) (spell : List ℕ) → toks ≡ t ∷ rest → spell ≡ t.spell → Wrote a b spell false → Wrote a b (shown toks) false
shown_fails a b toks rest t spell e is w = rw e (wrote_stops a b _ _ (rw is at w))

pub shown_then : (a b c : SinkSeen) (toks rest : List Tok) (t : Tok) (spell : List ℕ) (done : Bool) → toks ≡ t ∷ rest → spell ≡ t.spell → Wrote a b spell true
    → Wrote b c (flat_map with_space rest) done → Wrote a c (shown toks) done
shown_then a b c toks rest t spell done e is w v = rw e (wrote_then a b c _ _ done (rw is at w) v)
