use Rattle.std.proofs.Common.{refl, sym, ◌∙◌}
use Rattle.dt_names.proofs.Meets.{key_new, key_put, key_kept, key_found, held_found}
use Rattle.dt_names.proofs.firsts.meet.Goals as goal

pub returns-then-added : goal.returns-then-added
returns-then-added c = (
  key_new c.args.keys.now.keys c.args.key c.in_ok-place.added c.in_ok-place.ensures.added c.if-added.true,
  key_put c.args.keys.now.keys c.insert_full.new.self.keys c.args.key c.in_ok-place.added c.in_ok-place.ensures.added c.if-added.true c.in_ok-place.ensures.keys,
  c.in_ok-push.ensures.items,
)

pub returns-then-branch : goal.returns-then-branch
returns-then-branch c =
    let kept = key_kept c.args.keys.now.keys c.insert_full.new.self.keys c.args.key c.in_ok-place.added c.in_ok-place.ensures.added c.if-added.false c.in_ok-place.ensures.keys in
    let there = key_found c.args.keys.now.keys c.insert_full.new.self.keys c.args.key c.in_ok-place.ensures.stored.0 c.in_ok-place.place kept c.in_ok-place.ensures.stored.1 c.in_ok-place.ensures.stored.2 in (
      kept,
      refl,
      record {
        place = c.in_ok-place.place;
        first = c.index.result.now;
        key_there = there;
        first_there = held_found c.args.keys.now.keys c.args.held.now.items c.args.key c.in_ok-place.place c.index.result.now c.requires there c.index.ensures;
        compared = sym c.in_ok-same_said.ensures ∙ c.if-branch.true;
      },
    )

pub returns : goal.returns
returns c =
    let kept = key_kept c.args.keys.now.keys c.insert_full.new.self.keys c.args.key c.in_ok-place.added c.in_ok-place.ensures.added c.if-added.false c.in_ok-place.ensures.keys in
    let there = key_found c.args.keys.now.keys c.insert_full.new.self.keys c.args.key c.in_ok-place.ensures.stored.0 c.in_ok-place.place kept c.in_ok-place.ensures.stored.1 c.in_ok-place.ensures.stored.2 in
    record {
      place = c.in_ok-place.place;
      first = c.index.result.now;
      key_there = there;
      first_there = held_found c.args.keys.now.keys c.args.held.now.items c.args.key c.in_ok-place.place c.index.result.now c.requires there c.index.ensures;
      compared = sym c.in_ok-same_said.ensures ∙ c.if-branch.false;
    }
