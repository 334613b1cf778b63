use Rattle.std.proofs.Common.{refl, ◌∙◌, ap, reverse}
use Rattle.c_macro.proofs.RunLaws.{begins_known, begins_all}
use Rattle.c_macro.proofs.expansion.begin.Goals as goal

pub returns-clause-known : goal.returns-clause-known
returns-clause-known c = begins_known _ c.args.toks.now c.new.ensures c.new-2.ensures.items c.new-3.ensures.items refl (c.of.ensures ∙ (c.reverse.ensures.items ∙ ap reverse c.in_ok-pend.ensures))

pub returns-clause-all : goal.returns-clause-all
returns-clause-all c = λ d o e. begins_all d (record { sets = c.new.result; opens = c.new-2.result; pend = c.of.result; out = c.new-3.result; units = 0 }) c.args.toks.now o c.new.ensures c.new-2.ensures.items c.new-3.ensures.items refl (c.of.ensures ∙ (c.reverse.ensures.items ∙ ap reverse c.in_ok-pend.ensures)) e
