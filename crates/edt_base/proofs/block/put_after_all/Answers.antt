use Rattle.std.proofs.Common.{◌≡◌, [], List, ℕ, Bool, ◌∙◌, rules, refl, subst, sym, true, false}
use Rattle.std.proofs.lemmas.Bool.{false≢true}
use Rattle.edt_base.specs.Outside.{SinkSeen, Wrote}
use Rattle.edt_base.specs.Put.{Put}
use Rattle.edt_base.proofs.Puts.{put_then, not_done, put_stops, flush_puts, write_puts, failed}
use Rattle.edt_base.proofs.block.put_after_all.Goals as goal

-- what was held didn't go out
flush_fails : (a b : SinkSeen) (held kept left text : List ℕ) (done : Bool) → done ≡ false → kept ≡ held → Wrote a b kept false → Put a b held left text done
flush_fails a b held kept left text done is same wrote =
    not_done a b held left text done is (put_stops a b held left left [] text
    (subst (λ h. Put a b h left [] false) same (flush_puts a b kept left false wrote (λ h. absurd (false≢true h)))))

-- what was held went out, and then the text by itself
written : (a b c : SinkSeen) (held kept empty left text : List ℕ) (done : Bool) → kept ≡ held → Wrote a b kept true → empty ≡ [] → left ≡ empty
    → Wrote b c text done → Put a c held left text done
written a b c held kept empty left text done same before none still after =
    let early : Put a b held [] [] true = subst (λ h. Put a b h [] [] true) same (flush_puts a b kept [] true before (λ _. refl)) in
    let both : Put a c held [] text done = put_then a b c held [] [] [] text done early (write_puts b c text done after) in
    subst (λ l. Put a c held l text done) (sym (still ∙ none)) both

pub returns-in_err-flush : goal.returns-in_err-flush
returns-in_err-flush g c =
    flush_fails (g.S.Sink.seen c.args.out.now) (g.S.Sink.seen c.flush.new.out) _ _ _ _ _
    (failed c.from_residual.result c.from_residual.ensures.0) refl c.in_err-flush.ensures.wrote

pub returns-in_err-write_text : goal.returns-in_err-write_text
returns-in_err-write_text g c =
    let still : c.hold.new.self ≡ c.flush.new.block = search rules in
    not_done _ _ _ _ _ _ (failed c.from_residual-in_err-write_text.result c.from_residual-in_err-write_text.ensures.0)
    (written _ (g.S.Sink.seen c.flush.new.out) _ _ _ _ _ _ _ refl c.in_ok-flush.ensures.wrote c.in_ok-flush.ensures.emptied still c.in_err-write_text.ensures)

pub returns : goal.returns
returns g c =
    let still : c.hold.new.self ≡ c.flush.new.block = search rules in
    written _ (g.S.Sink.seen c.flush.new.out) _ _ _ _ _ _ _ refl c.in_ok-flush.ensures.wrote c.in_ok-flush.ensures.emptied still c.in_ok-write_text.ensures
