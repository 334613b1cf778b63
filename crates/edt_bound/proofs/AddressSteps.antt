-- Why translation may begin at a node: the ranges of all above it are without fault.
use Rattle.std.proofs.Common.{◌≡◌, ◌<◌, ◌≤◌, ◌∷◌, [], ℕ, zero, suc, List, Option, Some, None, Result, Ok, Err, All, length, refl, arith}
use Rattle.std.specs.Option.{option_map_or}
use Rattle.std.specs.Result.{IsOk}
use Rattle.std.proofs.lemmas.List.Elements.{All-nil, All-cons}
use Rattle.edt_base.specs.NodeData.{NodeData}
use Rattle.edt_base.specs.TreeData.{IsWellFormed, TreeData, ancestors, ancestors_within, parent_of}
use Rattle.edt_base.specs.declared.bound.Range.{Range}
use Rattle.edt_base.specs.declared.bound.Reg.{Reg}
use Rattle.edt_base.specs.declared.fault.Rule.{Rule}
use Rattle.edt_base.proofs.TreeLaws.{before}
use Rattle.reg_ranges.specs.Ranges.{ranges_of}
use Rattle.reg_ranges.specs.Registers.{regs_of}
use Rattle.reg_ranges.specs.Translation.{AreWhole}
use Rattle.edt_bound.specs.Addresses.{AddressData, addresses_of, and_ranges, seen}
use Rattle.edt_bound.specs.Phases.{AreAnswers}
use Rattle.edt_bound.proofs.PhaseSteps.{is_ok_before}

ranges_ok : (nodes : List NodeData) (id : ℕ) (regs : Result (List Reg) Rule) (ranges : Result (List Range) Rule)
    → IsOk (seen nodes id (and_ranges regs ranges)) → IsOk ranges
ranges_ok nodes id (Err r) ranges h = cc
ranges_ok nodes id (Ok regs) (Err r) h = cc
ranges_ok nodes id (Ok regs) (Ok ranges) h = refl

abbrev IsWholeAt : List NodeData → ℕ → Type 0
IsWholeAt nodes id = IsOk (ranges_of nodes id)

above_whole : (t : TreeData) → IsWellFormed t → (n : ℕ) → ((j : ℕ) → j < n → IsWholeAt t.nodes j) → (k id : ℕ) → id ≤ n
    → All (IsWholeAt t.nodes) (ancestors_within k t.nodes id)
above_whole t well n whole zero id l = All-nil (IsWholeAt t.nodes)
above_whole t well n whole (suc k) id l = by_parent (parent_of t.nodes id) refl (above_whole t well n whole k)
  where
    by_parent : (o : Option ℕ) → parent_of t.nodes id ≡ o → ((j : ℕ) → j ≤ n → All (IsWholeAt t.nodes) (ancestors_within k t.nodes j))
        → All (IsWholeAt t.nodes) (option_map_or (λ p. p ∷ ancestors_within k t.nodes p) o [])
    by_parent None e next = All-nil (IsWholeAt t.nodes)
    by_parent (Some p) e next =
        let near : p < id = before t id p well e in
        All-cons (IsWholeAt t.nodes) p (ancestors_within k t.nodes p) (whole p (omega arith)) (next p (omega arith))

pub whole_above : (t : TreeData) → IsWellFormed t → (xs : List AddressData) (id : ℕ) → AreAnswers (addresses_of t.nodes) id xs
    → AreWhole t.nodes (ancestors t.nodes id)
whole_above t well xs id h = above_whole t well id
    (λ j l. ranges_ok t.nodes j (regs_of t.nodes j) (ranges_of t.nodes j) (is_ok_before (addresses_of t.nodes) xs id j h l))
    (length t.nodes) id (omega arith)
