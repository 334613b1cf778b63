use Rattle.std.proofs.Common.{◌≡◌, ◌&&◌, ℕ, List, drop, is_some, not}
use Rattle.std.specs.List.{list_any}
use Rattle.edt_base.specs.YamlData.{Value, pair_list}
use Rattle.bind_load.specs.Inner.Seen.{pairs_of}
use Rattle.bind_load.specs.Forms.{space_of, are_texts}
use Rattle.bind_load.proofs.rules.has_bad_cells.Given as goal

abbrev pub invariant-loop-key : goal.invariant-loop-key
invariant-loop-key l =
    list_any (λ (e : List ℕ × Value). is_some (space_of e.0) && not (are_texts e.1)) (pair_list (pairs_of (drop l.key-index l.key-items)))
    ≡ list_any (λ (e : List ℕ × Value). is_some (space_of e.0) && not (are_texts e.1)) (pair_list (pairs_of l.key-items))
