use Rattle.std.proofs.Common.{◌∙◌, ◌+◌, ◌-◌, ap, refl, subst, sym, ℕ, List}
use Rattle.bind_merge.specs.Listing.{read_files}
use Rattle.bind_merge.specs.declared.walk.Next.{Next}
use Rattle.bind_merge.specs.Inner.Ways.{HasCome, next_of}
use Rattle.bind_merge.proofs.Gone.{got, never_unlisted, never_unread, way_down, way_goes}
use Rattle.bind_merge.proofs.Ways.{StepsTo, way_begins}
use Rattle.bind_merge.proofs.walk.first_fault.Goals as goal

pub loop-depth-init : goal.loop-depth-init
loop-depth-init c =
    subst (λ (ks : List ℕ). HasCome (read_files c.args.files.now) c.args.reads.now c.args.binding 0 c.args.binding ks) (sym c.new-path.ensures.items)
    (way_begins (read_files c.args.files.now) c.args.reads.now c.args.binding c.requires.broken c.requires.read)

pub returns-in_default : goal.returns-in_default
returns-in_default c = absurd
    (never_unlisted c.args.files.now c.args.names.now c.args.reads.now c.args.resolved.now c.args.binding c.requires.known c.requires.broken
    c.loop-depth.depth c.file.inside.0 c.loop-depth.file c.loop-depth.path.items c.file.view_is c.in_default.ensures.lookup.0 c.loop-depth.invariant)

pub returns-in_default-get : goal.returns-in_default-get
returns-in_default-get c = absurd
    (never_unread c.args.files.now c.args.names.now c.args.reads.now c.args.resolved.now c.args.binding c.requires.known c.requires.broken
    c.loop-depth.depth c.file-in-loop-depth.inside.0 c.loop-depth.file c.loop-depth.path.items c.file-in-loop-depth.view_is c.in_default-get.ensures.lookup.0
    c.loop-depth.invariant)

pub returns-in-Fault : goal.returns-in-Fault
returns-in-Fault c =
    subst (λ (n : Next). StepsTo (read_files c.args.files.now) c.args.reads.now c.args.binding (16 - c.loop-depth.depth) c.push.new.self.items n) c.in-Fault.is
    (way_goes c.args.files.now c.args.names.now c.args.reads.now c.args.resolved.now c.args.binding c.requires.known c.requires.broken
    c.loop-depth.depth (16 - c.loop-depth.depth) c.loop-depth.file c.loop-depth.path.items c.push.new.self.items c.in-Some.named.now c.in-Some-get.read.now c.in_ok-fault.field-0
    refl
    (got c.args.files.now c.file.inside.0 c.loop-depth.file c.in-Some.named.now c.file.view_is c.in-Some.ensures.lookup.3.0 c.in-Some.ensures.lookup.1)
    (got c.args.reads.now c.file-in-loop-depth.inside.0 c.loop-depth.file c.in-Some-get.read.now c.file-in-loop-depth.view_is c.in-Some-get.ensures.lookup.3.0 c.in-Some-get.ensures.lookup.1)
    c.in_ok-push.ensures.items
    (c.in_ok-fault.ensures ∙ ap (λ ks. next_of c.args.names.now c.args.resolved.now c.in-Some.named.now.0 (16 - c.loop-depth.depth) ks c.in-Some-get.read.now) c.as_slice.ensures.value)
    c.loop-depth.invariant)

pub returns-in-Nothing : goal.returns-in-Nothing
returns-in-Nothing c = absurd
    (subst (λ (n : Next). StepsTo (read_files c.args.files.now) c.args.reads.now c.args.binding (16 - c.loop-depth.depth) c.push.new.self.items n) c.in-Nothing.is
    (way_goes c.args.files.now c.args.names.now c.args.reads.now c.args.resolved.now c.args.binding c.requires.known c.requires.broken
    c.loop-depth.depth (16 - c.loop-depth.depth) c.loop-depth.file c.loop-depth.path.items c.push.new.self.items c.in-Some.named.now c.in-Some-get.read.now c.in_ok-fault.field-0
    refl
    (got c.args.files.now c.file.inside.0 c.loop-depth.file c.in-Some.named.now c.file.view_is c.in-Some.ensures.lookup.3.0 c.in-Some.ensures.lookup.1)
    (got c.args.reads.now c.file-in-loop-depth.inside.0 c.loop-depth.file c.in-Some-get.read.now c.file-in-loop-depth.view_is c.in-Some-get.ensures.lookup.3.0 c.in-Some-get.ensures.lookup.1)
    c.in_ok-push.ensures.items
    (c.in_ok-fault.ensures ∙ ap (λ ks. next_of c.args.names.now c.args.resolved.now c.in-Some.named.now.0 (16 - c.loop-depth.depth) ks c.in-Some-get.read.now) c.as_slice.ensures.value)
    c.loop-depth.invariant))

pub loop-depth-preserved : goal.loop-depth-preserved
loop-depth-preserved c =
    way_down (read_files c.args.files.now) c.args.reads.now c.args.binding c.loop-depth.depth (c.loop-depth.depth + 1) (16 - c.loop-depth.depth) c.in-Down.below
    c.push.new.self.items refl refl
    (subst (λ (n : Next). StepsTo (read_files c.args.files.now) c.args.reads.now c.args.binding (16 - c.loop-depth.depth) c.push.new.self.items n) c.in-Down.is
    (way_goes c.args.files.now c.args.names.now c.args.reads.now c.args.resolved.now c.args.binding c.requires.known c.requires.broken
    c.loop-depth.depth (16 - c.loop-depth.depth) c.loop-depth.file c.loop-depth.path.items c.push.new.self.items c.in-Some.named.now c.in-Some-get.read.now c.in_ok-fault.field-0
    refl
    (got c.args.files.now c.file.inside.0 c.loop-depth.file c.in-Some.named.now c.file.view_is c.in-Some.ensures.lookup.3.0 c.in-Some.ensures.lookup.1)
    (got c.args.reads.now c.file-in-loop-depth.inside.0 c.loop-depth.file c.in-Some-get.read.now c.file-in-loop-depth.view_is c.in-Some-get.ensures.lookup.3.0 c.in-Some-get.ensures.lookup.1)
    c.in_ok-push.ensures.items
    (c.in_ok-fault.ensures ∙ ap (λ ks. next_of c.args.names.now c.args.resolved.now c.in-Some.named.now.0 (16 - c.loop-depth.depth) ks c.in-Some-get.read.now) c.as_slice.ensures.value)
    c.loop-depth.invariant))
