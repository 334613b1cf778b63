-- The registers and ranges of a node, and the registers as the root sees them.
use Rattle.std.specs.Prelude.{ℕ, List, Result, Ok, Err, map, option_map}
use Rattle.edt_base.specs.NodeData.{NodeData}
use Rattle.edt_base.specs.declared.bound.Range.{Range}
use Rattle.edt_base.specs.declared.bound.Reg.{Reg}
use Rattle.edt_base.specs.declared.fault.Rule.{Rule}
use Rattle.reg_ranges.specs.Ranges.{ranges_of}
use Rattle.reg_ranges.specs.Registers.{regs_of}
use Rattle.reg_ranges.specs.Translation.{translation}

pub record AddressData : Type 0 where
  pub regs : List Reg
  pub ranges : List Range

-- the registers, and then the ranges; or the first rule that either breaks
abbrev pub and_ranges : Result (List Reg) Rule → Result (List Range) Rule → Result AddressData Rule
and_ranges (Err broken) ranges = Err broken
and_ranges (Ok regs) (Err broken) = Err broken
and_ranges (Ok regs) (Ok ranges) = Ok (record { regs = regs; ranges = ranges })

-- those of the node at a place, with addresses as they are written
abbrev pub cut_of : List NodeData → ℕ → Result AddressData Rule
cut_of nodes id = and_ranges (regs_of nodes id) (ranges_of nodes id)

-- a register with its address as the root sees it
abbrev pub seen_reg : List NodeData → ℕ → Reg → Reg
seen_reg nodes id reg = record {
  addr = option_map (translation nodes id) reg.addr;
  size = reg.size;
  name = reg.name;
}

abbrev pub seen_regs : List NodeData → ℕ → List Reg → List Reg
seen_regs nodes id regs = map (seen_reg nodes id) regs

abbrev pub seen : List NodeData → ℕ → Result AddressData Rule → Result AddressData Rule
seen nodes id (Err broken) = Err broken
seen nodes id (Ok cut) = Ok (record { regs = seen_regs nodes id cut.regs; ranges = cut.ranges })

-- what is asked of the node at a place: its registers as the root sees them and its ranges, or the first rule that is
-- broken
abbrev pub addresses_of : List NodeData → ℕ → Result AddressData Rule
addresses_of nodes id = seen nodes id (cut_of nodes id)
