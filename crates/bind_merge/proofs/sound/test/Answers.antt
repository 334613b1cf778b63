use Rattle.std.proofs.Common.{◌∙◌, sym, ap, subst, ◌<◌, ℕ, length, Some, None}
use Rattle.bind_merge.proofs.Tested.{is_broken, is_sound, name_listed, read_listed, tells_broken, tells_sound, unresolved}
use Rattle.bind_merge.specs.Listing.{read_files}
use Rattle.bind_merge.proofs.Gone.{got}
use Rattle.bind_merge.proofs.sound.test.Goals as goal

pub bounds-files-binding-inside : goal.bounds-files-binding-inside
bounds-files-binding-inside c =
    subst (λ (k : ℕ). k < length c.args.files.now) (sym c.binding.view_is) (read_listed c.args.files.now c.args.reads.now c.args.binding c.requires.known.read c.requires.read)

pub broken-requires-clause-broken : goal.broken-requires-clause-broken
broken-requires-clause-broken c =
    unresolved (read_files c.args.files.now) c.args.names.now c.args.reads.now c.args.resolved.now c.requires.known c.args.binding c.requires.read (sym c.in-None.ensures)

pub returns-in-Some-clause-sound : goal.returns-in-Some-clause-sound
returns-in-Some-clause-sound c =
    tells_sound (read_files c.args.files.now) c.args.names.now c.args.reads.now c.args.resolved.now c.requires.known c.args.binding c.in-Some.found.now
    (sym c.in-Some.ensures) c.test_rules.result c.test_rules.ensures.keeps

pub returns-in-Some-clause-fault : goal.returns-in-Some-clause-fault
returns-in-Some-clause-fault c =
    tells_broken (read_files c.args.files.now) c.args.names.now c.args.reads.now c.args.resolved.now c.requires.known c.args.binding c.in-Some.found.now
    (sym c.in-Some.ensures) c.index-files-binding.result.0
    (name_listed c.args.files.now c.args.binding c.index-files-binding.result
    (got c.args.files.now c.binding.inside.0 c.args.binding c.index-files-binding.result c.binding.view_is
    (subst (λ (k : ℕ). k < length c.args.files.now) (sym c.binding.view_is) (read_listed c.args.files.now c.args.reads.now c.args.binding c.requires.known.read c.requires.read))
    c.index-files-binding.is))
    c.test_rules.result c.test_rules.ensures.breaks
