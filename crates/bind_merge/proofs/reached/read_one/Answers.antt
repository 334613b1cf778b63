use Rattle.std.proofs.Common.{◌∙◌, sym}
use Rattle.bind_merge.proofs.ReadingOn.{reads_now, spreads_one}
use Rattle.bind_merge.proofs.reached.read_one.Goals as goal

pub returns-clause-spreads : goal.returns-clause-spreads
returns-clause-spreads c =
    spreads_one c.args.files.now c.args.reads.now.items c.args.left.now.items c.args.file c.file.inside.0 c.index.result.now c.index-files-at.result c.in_ok-read.read
    c.file.view_is c.requires.listed c.requires.len c.index.ensures (sym c.is_some.ensures ∙ c.if-is_some.false) c.index-files-at.is c.in_ok-read.ensures
    c.push.new.self.items c.in_ok-push.ensures.items

pub returns-clause-read : goal.returns-clause-read
returns-clause-read c =
    reads_now c.args.files.now c.args.reads.now.items c.args.left.now.items c.args.file c.file.inside.0 c.index.result.now c.index-files-at.result c.in_ok-read.read
    c.file.view_is c.requires.listed c.requires.len c.index.ensures (sym c.is_some.ensures ∙ c.if-is_some.false) c.index-files-at.is c.in_ok-read.ensures
