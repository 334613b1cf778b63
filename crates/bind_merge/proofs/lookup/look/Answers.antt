use Rattle.std.proofs.Common.{◌≡◌, ◌+◌, ◌-◌, ◌/◌, ◌<◌, ◌≤◌, sym, refl, ℕ, length, arith}
use Rattle.std.specs.Cmp.Lexicographic.{slice_cmp}
use Rattle.std.specs.Ordering.{nat_cmp}
use Rattle.std.specs.declared.cmp.Ordering.TheVariants.{Less, Equal, Greater}
use Rattle.bind_merge.proofs.Halving.{goes-up, goes-down}
use Rattle.bind_merge.proofs.Looked.{equal-found}
use Rattle.bind_merge.proofs.lookup.look.Goals as goal

-- the middle lies within
middle-below : (low high m : ℕ) → low < high → m ≡ low + (high - low) / 2 → (low ≤ m) × (m < high)
middle-below low high m h e = (omega arith, omega arith)

pub loop-low-preserved-in-Less : goal.loop-low-preserved-in-Less
loop-low-preserved-in-Less c =
    let within : (c.loop-low.low ≤ c.loop-low.low + (c.loop-low.high - c.loop-low.low) / 2) × (c.loop-low.low + (c.loop-low.high - c.loop-low.low) / 2 < c.loop-low.high) =
    middle-below c.loop-low.low c.loop-low.high _ c.loop-low-test.true refl in
    let x1 : c.name.result.now ≡ c.index-entries-middle.result.name = c.name.ensures in
    let x3 : c.cmp.result ≡ slice_cmp nat_cmp c.name.result.now c.args.name.now = c.cmp.ensures in
    let x4 : c.cmp.result ≡ Less = c.in-Less.is in
    let order : slice_cmp nat_cmp c.index-entries-middle.result.name c.args.name.now ≡ Less = cc in
    let in-all : c.loop-low.low + (c.loop-low.high - c.loop-low.low) / 2 < length c.args.entries.now = let h = c.loop-low.invariant.high_in in omega (arith, within.1) in
    let up : c.loop-low.low + (c.loop-low.high - c.loop-low.low) / 2 + 1 ≤ c.loop-low.high = omega (arith, within.1) in
    record {
      low_in = up;
      high_in = c.loop-low.invariant.high_in;
      between = goes-up c.args.name.now c.args.entries.now c.loop-low.low c.loop-low.high (c.loop-low.low + (c.loop-low.high - c.loop-low.low) / 2)
          c.index-entries-middle.result c.requires in-all c.index-entries-middle.is order c.loop-low.invariant.between;
    }

pub loop-low-preserved : goal.loop-low-preserved
loop-low-preserved c =
    let within : (c.loop-low.low ≤ c.loop-low.low + (c.loop-low.high - c.loop-low.low) / 2) × (c.loop-low.low + (c.loop-low.high - c.loop-low.low) / 2 < c.loop-low.high) =
    middle-below c.loop-low.low c.loop-low.high _ c.loop-low-test.true refl in
    let x1 : c.name.result.now ≡ c.index-entries-middle.result.name = c.name.ensures in
    let x3 : c.cmp.result ≡ slice_cmp nat_cmp c.name.result.now c.args.name.now = c.cmp.ensures in
    let x4 : c.cmp.result ≡ Greater = c.in-Greater.is in
    let order : slice_cmp nat_cmp c.index-entries-middle.result.name c.args.name.now ≡ Greater = cc in
    let in-all : c.loop-low.low + (c.loop-low.high - c.loop-low.low) / 2 < length c.args.entries.now = let h = c.loop-low.invariant.high_in in omega (arith, within.1) in
    let down : c.loop-low.low + (c.loop-low.high - c.loop-low.low) / 2 ≤ length c.args.entries.now = omega (arith, in-all) in
    record {
      low_in = within.0;
      high_in = down;
      between = goes-down c.args.name.now c.args.entries.now c.loop-low.low c.loop-low.high (c.loop-low.low + (c.loop-low.high - c.loop-low.low) / 2)
          c.index-entries-middle.result c.requires in-all c.index-entries-middle.is order c.loop-low.invariant.between;
    }

pub returns-in-Equal : goal.returns-in-Equal
returns-in-Equal c =
    let within : (c.loop-low.low ≤ c.loop-low.low + (c.loop-low.high - c.loop-low.low) / 2) × (c.loop-low.low + (c.loop-low.high - c.loop-low.low) / 2 < c.loop-low.high) =
    middle-below c.loop-low.low c.loop-low.high _ c.loop-low-test.true refl in
    let x1 : c.name.result.now ≡ c.index-entries-middle.result.name = c.name.ensures in
    let x3 : c.cmp.result ≡ slice_cmp nat_cmp c.name.result.now c.args.name.now = c.cmp.ensures in
    let x4 : c.cmp.result ≡ Equal = c.in-Equal.is in
    let order : slice_cmp nat_cmp c.index-entries-middle.result.name c.args.name.now ≡ Equal = cc in
    let in-all : c.loop-low.low + (c.loop-low.high - c.loop-low.low) / 2 < length c.args.entries.now = let h = c.loop-low.invariant.high_in in omega (arith, within.1) in
    sym (equal-found c.args.name.now c.args.entries.now (c.loop-low.low + (c.loop-low.high - c.loop-low.low) / 2)
    c.index-entries-middle.result c.requires in-all c.index-entries-middle.is order)
