use Rattle.dt_names.proofs.Numbers.{texts_distinct, keeps_seen, text_found}
use Rattle.dt_names.proofs.texts.Texts.number.Goals as goal

pub returns-in_err-number-clause-distinct : goal.returns-in_err-number-clause-distinct
returns-in_err-number-clause-distinct c = texts_distinct (λ v. v.items) c.insert_full.new.self.keys c.insert_full.ensures.unique

pub returns : goal.returns
returns c = record {
  found = text_found (λ v. v.items) c.insert_full.new.self.keys c.in_ok-number.number c.in_ok-number.ensures.stored.0 c.args.text.items c.in_ok-number.ensures.stored.1 c.in_ok-number.ensures.stored.2;
  kept = keeps_seen (λ v. v.items) c.args.self.now c.self.inside.set.keys c.insert_full.new.self.keys c.args.text c.self.view_is c.in_ok-number.ensures.keys;
  distinct = texts_distinct (λ v. v.items) c.insert_full.new.self.keys c.insert_full.ensures.unique;
}
