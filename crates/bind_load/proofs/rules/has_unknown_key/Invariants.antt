use Rattle.std.proofs.Common.{◌≡◌, ℕ, List, drop, is_none}
use Rattle.std.specs.List.{list_any}
use Rattle.edt_base.specs.YamlData.{Value, pair_list}
use Rattle.bind_load.specs.Inner.Seen.{pairs_of}
use Rattle.bind_load.specs.Forms.{form_of}
use Rattle.bind_load.proofs.rules.has_unknown_key.Given as goal

abbrev pub invariant-loop-key : goal.invariant-loop-key
invariant-loop-key l =
    list_any (λ (e : List ℕ × Value). is_none (form_of l.map.keys e.0)) (pair_list (pairs_of (drop l.key-index l.key-items)))
    ≡ list_any (λ (e : List ℕ × Value). is_none (form_of l.map.keys e.0)) (pair_list (pairs_of l.key-items))
