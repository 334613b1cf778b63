use Rattle.std.proofs.Common.{◌≡◌, ℕ, List, drop}
use Rattle.std.specs.List.{list_all}
use Rattle.edt_base.specs.YamlData.{Value, pair_list}
use Rattle.bind_load.specs.Inner.Seen.{pairs_of}
use Rattle.bind_load.specs.Forms.{is_map}
use Rattle.bind_load.proofs.fits.are_maps.Given as goal

abbrev pub invariant-loop-value : goal.invariant-loop-value
invariant-loop-value l = list_all (λ (e : List ℕ × Value). is_map e.1) (pair_list (pairs_of (drop l.value-index l.value-items))) ≡ list_all (λ (e : List ℕ × Value). is_map e.1) (pair_list (pairs_of l.value-items))
