use Rattle.std.proofs.Common.{◌∙◌, ◌+◌, ap, Option, Some, is_some, if◌then◌else◌, length, ℕ}
use Rattle.c_macro.proofs.SetLaws.{tree_get, tree_sets}
use Rattle.c_macro.proofs.sets.give_number.Goals as goal

pub returns-clause-given : goal.returns-clause-given
returns-clause-given c = record {
  absent = c.requires;
  next = ap (λ n. n + 1) c.len-number.ensures.len;
  one_more = c.in_ok-insert.ensures.len
      ∙ ap (λ (o : Option ℕ). length c.args.numbers.now.entries + (if is_some o then 0 else 1)) (c.in_ok-insert.ensures.old ∙ (tree_get c.args.name c.args.numbers.now.entries ∙ c.requires));
  updates = tree_sets c.args.numbers.now.entries c.insert.new.self.entries c.args.name (Some (c.len-number.result + 1)) c.in_ok-insert.ensures.updates.0;
}
