-- How puts and writes join.
use Rattle.std.proofs.Common.{◌≡◌, ◌+◌, ◌++◌, ◌∙◌, ℕ, Result, Ok, Err, Bool, true, false, List, [], length, sym, ap, subst, refl, append_assoc, arith, length-append, IsTrue}
use Rattle.std.proofs.lemmas.List.{append-nil}
use Rattle.std.specs.Result.{IsErr, is_ok, OnOk}
use Rattle.std.proofs.lemmas.Bool.{false≢true}
use Rattle.edt_base.specs.Outside.{SinkSeen, Gains, Wrote}
use Rattle.edt_base.proofs.WriteLaws.{gains_nothing, gains_then, rose_then}
use Rattle.edt_base.specs.Put.{Put}

-- a text that is held and no more
pub held_whole : (s : SinkSeen) (held text : List ℕ) → Put s s held (held ++ text) text true
held_whole s held text = record {
  taken = ([], refl, gains_nothing s);
  count = omega arith;
  sure = λ _. (refl, refl, omega (arith, length-append held text));
}

-- a put of nothing
pub nothing_put : (s : SinkSeen) (held : List ℕ) → Put s s held held [] true
nothing_put s held = subst (λ left. Put s s held left [] true) (append-nil held) (held_whole s held [])

-- two puts are one put of both texts
pub put_then : (a b c : SinkSeen) (first second third one two : List ℕ) (done : Bool)
    → Put a b first second one true → Put b c second third two done → Put a c first third (one ++ two) done
put_then a b c first second third one two true before after =
    let gone : List ℕ = before.taken.0 in
    let more : List ℕ = after.taken.0 in
    let whole : first ++ (one ++ two) ≡ (gone ++ more) ++ third =
    sym (append_assoc first one two) ∙ (ap (λ t. t ++ two) before.taken.1
    ∙ (append_assoc gone second two ∙ (ap (λ t. gone ++ t) after.taken.1 ∙ sym (append_assoc gone more third)))) in
    record {
      taken = (gone ++ more, whole, gains_then a b c gone more before.taken.2 after.taken.2);
      count = omega (arith, before.count, after.count);
      sure = λ fits.
          let both : length (one ++ two) ≡ length one + length two = length-append one two in
          let early = before.sure (omega arith) in
          let late = after.sure (omega (arith, early.2)) in
          (refl, late.1 ∙ early.1, omega (arith, early.2, late.2));
    }
put_then a b c first second third one two false before after =
    let gone : List ℕ = before.taken.0 in
    let front : List ℕ = after.taken.1.0 in
    let rest : List ℕ = after.taken.1.1 in
    let whole : first ++ (one ++ two) ≡ (gone ++ front) ++ rest =
    sym (append_assoc first one two) ∙ (ap (λ t. t ++ two) before.taken.1
    ∙ (append_assoc gone second two ∙ (ap (λ t. gone ++ t) after.taken.1.2 ∙ sym (append_assoc gone front rest)))) in
    record {
      taken = (
        rose_then a.faults b.faults c.faults before.count after.taken.0,
        (gone ++ front, rest, whole, gains_then a b c gone front before.taken.2 after.taken.1.3),
      );
      count = omega (arith, before.count, after.count);
      sure = λ fits.
          let both : length (one ++ two) ≡ length one + length two = length-append one two in
          let early = before.sure (omega arith) in
          absurd (false≢true (after.sure (omega (arith, early.2))).0);
    }

-- a put that failed is one of any longer text
pub put_stops : (a b : SinkSeen) (first left other one two : List ℕ)
    → Put a b first left one false → Put a b first other (one ++ two) false
put_stops a b first left other one two put =
    let front : List ℕ = put.taken.1.0 in
    let rest : List ℕ = put.taken.1.1 in
    let whole : first ++ (one ++ two) ≡ front ++ (rest ++ two) =
    sym (append_assoc first one two) ∙ (ap (λ t. t ++ two) put.taken.1.2 ∙ append_assoc front rest two) in
    record {
      taken = (put.taken.0, (front, rest ++ two, whole, put.taken.1.3));
      count = put.count;
      sure = λ fits.
          let both : length (one ++ two) ≡ length one + length two = length-append one two in
          absurd (false≢true (put.sure (omega arith)).0);
    }

-- a write of what was held puts nothing, and leaves nothing held
pub flush_puts : (a b : SinkSeen) (held left : List ℕ) (done : Bool) → Wrote a b held done → (IsTrue done → left ≡ []) → Put a b held left [] done
flush_puts a b held left true wrote emptied =
    let none : left ≡ [] = emptied refl in
    record {
      taken = (held, ap (λ t. held ++ t) (sym none), wrote.taken);
      count = wrote.count;
      sure = λ fits. let sure = (wrote.sure (omega arith)).1 in (refl, sure.faults, omega (arith, sure.room, ap length none));
    }
flush_puts a b held left false wrote emptied =
    let front : List ℕ = wrote.taken.1.0 in
    let rest : List ℕ = wrote.taken.1.1 in
    record {
      taken = (wrote.taken.0, (front, rest, append-nil held ∙ wrote.taken.1.2, wrote.taken.1.3));
      count = wrote.count;
      sure = λ fits. absurd (false≢true (wrote.sure (omega arith)).0);
    }

-- where nothing is held, a write is a put
pub write_puts : (a b : SinkSeen) (text : List ℕ) (done : Bool) → Wrote a b text done → Put a b [] [] text done
write_puts a b text true wrote =
    record {
      taken = (text, sym (append-nil text), wrote.taken);
      count = wrote.count;
      sure = λ fits. let sure = (wrote.sure (omega arith)).1 in (refl, sure.faults, omega (arith, sure.room));
    }
write_puts a b text false wrote =
    record {
      taken = wrote.taken;
      count = wrote.count;
      sure = λ fits. absurd (false≢true (wrote.sure (omega arith)).0);
    }

-- a put from nothing held to nothing held is a write
pub put_writes : (a b : SinkSeen) (text left : List ℕ) (done : Bool) → Put a b [] left text done → (IsTrue done → left ≡ []) → Wrote a b text done
put_writes a b text left true put emptied =
    let none : left ≡ [] = emptied refl in
    let gone : List ℕ = put.taken.0 in
    let all : text ≡ gone = put.taken.1 ∙ (ap (λ t. gone ++ t) none ∙ append-nil gone) in
    record {
      taken = subst (λ t. Gains a b t) (sym all) put.taken.2;
      count = put.count;
      sure = λ fits. let sure = put.sure (omega arith) in (refl, record { faults = sure.1; room = omega (arith, sure.2) });
    }
put_writes a b text left false put emptied =
    record {
      taken = put.taken;
      count = put.count;
      sure = λ fits. absurd (false≢true (put.sure (omega arith)).0);
    }

-- an error is not done
pub failed : {T E : Type 0} (r : Result T E) → IsErr r → is_ok r ≡ false
failed (Ok x) err = absurd (false≢true err)
failed (Err e) err = refl

-- a put that failed, where another value says so
pub not_done : (a b : SinkSeen) (held left text : List ℕ) (done : Bool) → done ≡ false → Put a b held left text false → Put a b held left text done
not_done a b held left text done is put = subst (λ d. Put a b held left text d) (sym is) put

-- a put of a text is one of an equal text
pub put_as : (a b : SinkSeen) (held left text same : List ℕ) (done : Bool) → text ≡ same → Put a b held left text done → Put a b held left same done
put_as a b held left text same done e put = subst (λ t. Put a b held left t done) e put

-- what holds of an `Ok` holds where the answer is one
pub if_ok : {T E P : Type 0} (r : Result T E) → OnOk r P → IsTrue (is_ok r) → P
if_ok (Ok x) p h = p
if_ok (Err e) p h = absurd (false≢true h)

-- from nothing held on, a put and a write of what was held are one write
pub last_flush : (a b c : SinkSeen) (held second left text : List ℕ) (done : Bool)
    → held ≡ [] → Put a b held second text true → Wrote b c second done → (IsTrue done → left ≡ []) → Wrote a c text done
last_flush a b c held second left text done none put wrote emptied =
    let start : Put a b [] second text true = subst (λ h. Put a b h second text true) none put in
    let both : Put a c [] left (text ++ []) done = put_then a b c [] second left text [] done start (flush_puts b c second left done wrote emptied) in
    put_writes a c text left done (put_as a c [] left (text ++ []) text done (append-nil text) both) emptied

-- from nothing held on, a put that failed is a write that failed
pub write_fails : (a b : SinkSeen) (held left text : List ℕ) (done : Bool) → done ≡ false → held ≡ [] → Put a b held left text false → Wrote a b text done
write_fails a b held left text done is none put =
    let start : Put a b [] left text false = subst (λ h. Put a b h left text false) none put in
    subst (λ d. Wrote a b text d) (sym is) (put_writes a b text left false start (λ h. absurd (false≢true h)))
