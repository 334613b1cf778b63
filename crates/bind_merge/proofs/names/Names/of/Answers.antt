use Rattle.std.proofs.Common.{◌<◌, ◌∙◌, ap, length, arith, sym}
use Rattle.bind_merge.specs.Files.{base_name}
use Rattle.bind_merge.specs.Listing.{File}
use Rattle.bind_merge.proofs.NamedFiles.{names-step}
use Rattle.bind_merge.proofs.names.Names.of.Goals as goal

pub loop-number-preserved : goal.loop-number-preserved
loop-number-preserved c =
    let l : c.loop-number.number < length c.args.files.now = omega arith in
    names-step c.args.files.now c.loop-number.number c.index-files-number.result c.loop-number.names.entries c.add.new.files.entries c.in_ok-base.base
    l (sym c.index-files-number.is) c.loop-number.invariant (c.in_ok-base.ensures ∙ ap (λ (f : File). base_name f.0) (sym c.index-files-number.is)) c.in_ok-add.ensures
