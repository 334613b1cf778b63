use Rattle.std.proofs.Common.{◌≡◌, ◌∙◌, [], ◌∷◌, sym, ap, subst, reverse, rules}
use Rattle.std.proofs.lemmas.List.{reverse-append}
use Rattle.c_macro.specs.Calls as calls
use Rattle.c_macro.specs.Calls.{mark_of}
use Rattle.c_macro.specs.Marking.{mark_data}
use Rattle.c_macro.specs.Rows.{HasClosers}
use Rattle.c_macro.proofs.RowLaws.{span_closers, closers_open, closers_close, closers_pass, comma_passes, inner_passes}
use Rattle.c_macro.proofs.row.span_of.Goals as goal

pub returns-in-Some : goal.returns-in-Some
returns-in-Some c = λ p ps m e h.
    let o : mark_of p.tok ≡ calls.Opens = sym m ∙ ap mark_data c.in-Opens.is in
    let k : HasClosers ps (c.in-Some.after ∷ reverse c.pop.new.self.items) = subst (HasClosers ps) (ap reverse c.in-Some.ensures.items ∙ reverse-append c.pop.new.self.items (c.in-Some.after ∷ [])) h in
    let r = span_closers p ps c.in-Some.after c.saturating_sub.result (reverse c.pop.new.self.items) o k (rw e at c.saturating_sub.ensures) in
    (r.0, λ q. r.1)

pub returns-in-None : goal.returns-in-None
returns-in-None c = λ p ps m e h.
    let o : mark_of p.tok ≡ calls.Opens = sym m ∙ ap mark_data c.in-Opens.is in
    let a : c.args.closers.now.items ≡ [] = search rules in
    let b : c.pop.new.self.items ≡ [] = search rules in
    let k : HasClosers ps [] = subst (λ ns. HasClosers ps (reverse ns)) a h in
    (subst (λ ns. HasClosers (p ∷ ps) (reverse ns)) (sym b) (closers_open p ps o k), λ q. k)

pub returns-in_ok-push-in-Closes : goal.returns-in_ok-push-in-Closes
returns-in_ok-push-in-Closes c = λ p ps m e h.
    let o : mark_of p.tok ≡ calls.Closes = sym m ∙ ap mark_data c.in-Closes.is in (
      subst (HasClosers (p ∷ ps)) (sym (ap reverse c.in_ok-push-in-Closes.ensures.items ∙ reverse-append c.args.closers.now.items (c.args.count ∷ []))) (closers_close p ps (reverse c.args.closers.now.items) c.args.count o h e),
      λ q. absurd (let z : calls.Closes ≡ calls.Opens = sym o ∙ q in cc),
    )

pub returns-in-Parts : goal.returns-in-Parts
returns-in-Parts c = λ p ps m e h.
    let o : mark_of p.tok ≡ calls.Parts = sym m ∙ ap mark_data c.in-Parts.is in
    (closers_pass p ps (reverse c.args.closers.now.items) (λ qs. comma_passes p qs o) h, λ q. absurd (let z : calls.Parts ≡ calls.Opens = sym o ∙ q in cc))

pub returns-in-Inner : goal.returns-in-Inner
returns-in-Inner c = λ p ps m e h.
    let o : mark_of p.tok ≡ calls.Inner = sym m ∙ ap mark_data c.in-Inner.is in
    (closers_pass p ps (reverse c.args.closers.now.items) (λ qs. inner_passes p qs o) h, λ q. absurd (let z : calls.Inner ≡ calls.Opens = sym o ∙ q in cc))
