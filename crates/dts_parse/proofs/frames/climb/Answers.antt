use Rattle.std.proofs.Common.{◌≡◌, ◌∙◌, sym, ap, length, ◌-◌, take, Some, List, ℕ, vec_len}
use Rattle.std.specs.List.{slice_get}
use Rattle.dts_parse.specs.declared.mode.Frame.{Frame}
use Rattle.dts_parse.proofs.FrameLaws.{climb_pop}
use Rattle.dts_parse.proofs.frames.climb.Goals as goal

pub loop-frame-preserved : goal.loop-frame-preserved
loop-frame-preserved c =
    let top : slice_get c.loop-frame.frames.items (length c.loop-frame.frames.items - 1) ≡ Some c.in-Some.frame =
    ap (λ (ys : List Frame). slice_get ys (length ys - 1)) (sym c.deref.ensures.value) ∙ (sym c.last.ensures.value ∙ (sym c.copied.ensures ∙ c.in-Some.is)) in
    let size : length c.loop-frame.frames.items ≡ vec_len c.loop-frame.frames = ap (λ (ys : List Frame). length ys) (sym c.deref.ensures.value) ∙ c.deref.ensures.len in
    climb_pop c.args.level c.loop-frame.worth c.in-Some-reduced.next c.loop-frame.frames.items c.pop.new.self.items c.in-Some.frame (c.pop.ensures.rest ∙ ap (λ (n : ℕ). take (n - 1) c.loop-frame.frames.items) (sym size)) top (sym c.reduced.ensures ∙ c.in-Some-reduced.is)
    ∙ c.loop-frame.invariant
