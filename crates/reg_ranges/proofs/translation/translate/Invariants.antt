use Rattle.std.proofs.Common.{◌≡◌, ◌-◌, ◌<◌, length, map}
use Rattle.edt_base.specs.TreeData.{ancestors_within}
use Rattle.reg_ranges.specs.Translation.{translated, translation, way_through, AreWhole}
use Rattle.reg_ranges.proofs.translation.translate.Given as goal

abbrev pub invariant-loop : goal.invariant-loop
invariant-loop l = (l.at < length l.t.nodes)
    × (translated (map (way_through l.t.nodes) (ancestors_within (length l.t.nodes - l.counter) l.t.nodes l.at)) l.address ≡ translation l.t.nodes l.fn.id l.a)
    × AreWhole l.t.nodes (ancestors_within (length l.t.nodes - l.counter) l.t.nodes l.at)
