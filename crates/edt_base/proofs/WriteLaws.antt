-- How pieces that a sink took join, and what the loop of `write_text` keeps.
use Rattle.std.proofs.Common.{◌≡◌, ◌+◌, ◌<◌, ◌≤◌, ◌++◌, ◌∙◌, ℕ, List, [], Option, Some, None, option_map, length, take, drop, sym, ap, subst, refl, inl, inr, append_assoc, arith, length-append, true, false}
use Rattle.std.proofs.lemmas.List.{take-append-drop, append-nil, length-take-le}
use Rattle.edt_base.specs.Outside.{SinkSeen, Gains, IsSure, Rose, Wrote}

option-append-nothing : (o : Option (List ℕ)) → o ≡ option_map (λ b. b ++ []) o
option-append-nothing None = refl
option-append-nothing (Some b) = ap Some (sym (append-nil b))

option-append-twice : (x y : List ℕ) (o : Option (List ℕ)) → option_map (λ b. b ++ y) (option_map (λ b. b ++ x) o) ≡ option_map (λ b. b ++ (x ++ y)) o
option-append-twice x y None = refl
option-append-twice x y (Some b) = ap Some (append_assoc b x y)

-- a sink that stays as it is gained nothing
pub gains_nothing : (s : SinkSeen) → Gains s s []
gains_nothing s = option-append-nothing s.bytes

-- two gains are one
pub gains_then : (a b c : SinkSeen) (x y : List ℕ) → Gains a b x → Gains b c y → Gains a c (x ++ y)
gains_then a b c x y first second = second ∙ (ap (λ o. option_map (λ t. t ++ y) o) first ∙ option-append-twice x y a.bytes)

-- a count that rose after it didn't fall rose in all
pub rose_then : (a b c : ℕ) → a ≤ b → Rose b c → Rose a c
rose_then a b c le (inl lt) = inl (omega arith)
rose_then a b c le (inr last) = inr last

-- two sure steps are one
pub sure_then : (a b c : SinkSeen) (m n : ℕ) → IsSure a b m → IsSure b c n → IsSure a c (m + n)
sure_then a b c m n first second = record { faults = second.faults ∙ first.faults; room = omega (arith, first.room, second.room) }

-- what holds while a text goes out: a prefix of it was taken, and the rest is left
pub record SoFar (old now : SinkSeen) (text rest : List ℕ) : Type 0 where
  pub front : List ℕ
  pub whole : text ≡ front ++ rest
  pub gained : Gains old now front
  pub count : old.faults ≤ now.faults
  pub sure : length text ≤ old.room → IsSure old now (length front)

pub so_far_start : (s : SinkSeen) (text : List ℕ) → SoFar s s text text
so_far_start s text = record {
  front = [];
  whole = refl;
  gained = gains_nothing s;
  count = omega arith;
  sure = λ _. record { faults = refl; room = omega arith };
}

-- while a rest is left, a sink that was sure of the text is sure of a byte
pub room_left : (old now : SinkSeen) (text rest : List ℕ) → SoFar old now text rest → 0 < length rest → length text ≤ old.room → 0 < now.room
room_left old now text rest so_far left fits =
    let sure = so_far.sure fits in
    let whole : length text ≡ length so_far.front + length rest = ap length so_far.whole ∙ length-append so_far.front rest in
    omega (arith, sure.room)

-- one write more
pub more : (old now new : SinkSeen) (text rest : List ℕ) (n : ℕ)
    → SoFar old now text rest → 0 < length rest → n ≤ length rest → Gains now new (take n rest) → now.faults ≤ new.faults
    → (0 < now.room → IsSure now new n) → SoFar old new text (drop n rest)
more old now new text rest n so_far left within gained count sure = record {
  front = so_far.front ++ take n rest;
  whole = so_far.whole ∙ (ap (λ t. so_far.front ++ t) (sym (take-append-drop n rest)) ∙ sym (append_assoc so_far.front (take n rest) (drop n rest)));
  gained = gains_then old now new so_far.front (take n rest) so_far.gained gained;
  count = omega (arith, so_far.count);
  sure = λ fits.
      let step = sure (room_left old now text rest so_far left fits) in
      let len : length (so_far.front ++ take n rest) ≡ length so_far.front + n = length-append so_far.front (take n rest) ∙ ap (λ k. length so_far.front + k) (length-take-le n rest within) in
      subst (λ k. IsSure old new k) (sym len) (sure_then old now new (length so_far.front) n (so_far.sure fits) step);
}

-- nothing is left
pub written : (old now : SinkSeen) (text rest : List ℕ) → SoFar old now text rest → rest ≡ [] → Wrote old now text true
written old now text rest so_far none =
    let all : text ≡ so_far.front = so_far.whole ∙ (ap (λ t. so_far.front ++ t) none ∙ append-nil so_far.front) in
    record {
      taken = subst (λ t. Gains old now t) (sym all) so_far.gained;
      count = so_far.count;
      sure = λ fits. (refl, subst (λ t. IsSure old now (length t)) (sym all) (so_far.sure fits));
    }

-- the write of what is left failed
pub broken : (old now new : SinkSeen) (text rest : List ℕ) → SoFar old now text rest → 0 < length rest
    → Rose now.faults new.faults → Gains now new [] → now.faults ≤ new.faults → (0 < now.room → ⊥) → Wrote old new text false
broken old now new text rest so_far left rose gained count unsure =
    let same : so_far.front ++ [] ≡ so_far.front = append-nil so_far.front in
    record {
      taken = (
        rose_then old.faults now.faults new.faults so_far.count rose,
        (so_far.front, rest, so_far.whole, subst (λ t. Gains old new t) same (gains_then old now new so_far.front [] so_far.gained gained)),
      );
      count = omega (arith, so_far.count);
      sure = λ fits. absurd (unsure (room_left old now text rest so_far left fits));
    }

-- where nothing is to be written, a sink that stays as it is has it all
pub wrote_nothing : (s : SinkSeen) → Wrote s s [] true
wrote_nothing s = record {
  taken = gains_nothing s;
  count = omega arith;
  sure = λ _. (refl, record { faults = refl; room = omega arith });
}
