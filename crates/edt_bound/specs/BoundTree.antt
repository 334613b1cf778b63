-- The bound tree of a tree and a loaded library, or the first rule that is broken. The phases come one after another,
-- and each asks every node in preorder.
use Rattle.std.specs.Prelude.{◌≡◌, ℕ, List, Option, Result, length, map, option_map}
use Rattle.std.specs.List.{range_with_len}
use Rattle.edt_base.specs.BoundData.{BoundData, IsBound}
use Rattle.edt_base.specs.BoundNodeData.{BoundNodeData}
use Rattle.edt_base.specs.EntryData.{EntryData}
use Rattle.edt_base.specs.PropData.{PropData}
use Rattle.edt_base.specs.TreeData.{TreeData}
use Rattle.edt_base.specs.declared.fault.Fault.{Fault}
use Rattle.edt_base.specs.declared.fault.Rule.{Rule}
use Rattle.edt_base.specs.declared.fault.Rule.TheVariants as rule
use Rattle.bind_merge.specs.LibraryData.{LibData}
use Rattle.dep_order.specs.Order.{IsOrder}
use Rattle.dt_names.specs.Clash.{AreDoubles, IsClash}
use Rattle.dt_names.specs.Facts.{facts}
use Rattle.pha_nexus.specs.Matching.{Bus, match_at, names_on}
use Rattle.edt_bound.specs.Addresses.{AddressData}
use Rattle.edt_bound.specs.Ordering.{IsFirstStuck}
use Rattle.edt_bound.specs.Phases.{AreAnswers, IsAnswered, IsAt, IsFirstBroken}
use Rattle.edt_bound.specs.Requiring.{AreNeeds, AreSupports}

-- What is asked of the node at a place: its typed properties without entries, its addresses, its typed properties with
-- all entries, and its interrupts. Each is an answer or the first rule that is broken in it
pub record Questions : Type 0 where
  pub props : ℕ → Result (List PropData) Rule
  pub addresses : ℕ → Result AddressData Rule
  pub entries : ℕ → Result (List PropData) Rule
  pub irqs : ℕ → Result (List EntryData) Rule

-- what a bound node has of addresses
abbrev pub addresses_in : BoundNodeData → AddressData
addresses_in n = record { regs = n.regs; ranges = n.ranges }

abbrev pub needs_in : BoundNodeData → List ℕ
needs_in n = n.needs

-- the bus of each node
abbrev pub buses_in_order : TreeData → LibData → List (Option Bus)
buses_in_order t lib = map (λ id. (match_at t.nodes lib id).bus) (range_with_len 0 (length t.nodes))

abbrev pub bus_node : Option Bus → Option ℕ
bus_node bus = option_map (λ (b : Bus). b.node) bus

-- every node answers: what is bound to each is what it answers, with its bus and the nodes that it requires and
-- supports
pub record AreBoundNodes (t : TreeData) (lib : LibData) (ask : Questions) (nodes : List BoundNodeData) : Type 0 where
  pub typed : IsAnswered ask.props (length t.nodes)
  pub props : AreAnswers ask.entries (length t.nodes) (map (λ (n : BoundNodeData). n.props) nodes)
  pub addresses : AreAnswers ask.addresses (length t.nodes) (map addresses_in nodes)
  pub irqs : AreAnswers ask.irqs (length t.nodes) (map (λ (n : BoundNodeData). n.irqs) nodes)
  pub bus : map (λ (n : BoundNodeData). n.bus) nodes ≡ map bus_node (buses_in_order t lib)
  pub buses : map (λ (n : BoundNodeData). n.buses) nodes ≡ map names_on (buses_in_order t lib)
  pub needs : AreNeeds t.nodes nodes
  pub supports : AreSupports nodes

-- the tree with all that is bound to its nodes and an order of dependencies, whatever its repeated definitions are
pub record IsBoundTree (t : TreeData) (lib : LibData) (ask : Questions) (b : BoundData) : Type 0 where
  pub tree : b.tree ≡ t
  pub nodes : AreBoundNodes t lib ask b.nodes
  pub order : IsOrder (map needs_in b.nodes) b.order
  -- the instances, the ordinals and the order of all lists are those that every bound tree keeps
  pub kept : IsBound b

-- the bound tree: no phase has a broken rule, and the repeated definitions are told
pub record IsValid (t : TreeData) (lib : LibData) (ask : Questions) (b : BoundData) : Type 0 where
  pub bound : IsBoundTree t lib ask b
  pub doubles : AreDoubles (facts b) b.doubles

-- the first rule that is broken: no earlier phase has one, and it is the first of its own
pub data IsFirstFault (t : TreeData) (lib : LibData) (ask : Questions) (f : Fault) : Type 0 where
  in_props : IsFirstBroken t.nodes ask.props f → IsFirstFault t lib ask f
  in_addresses : IsAnswered ask.props (length t.nodes) → IsFirstBroken t.nodes ask.addresses f
      → IsFirstFault t lib ask f
  in_entries : IsAnswered ask.props (length t.nodes) → IsAnswered ask.addresses (length t.nodes)
      → IsFirstBroken t.nodes ask.entries f → IsFirstFault t lib ask f
  in_irqs : IsAnswered ask.props (length t.nodes) → IsAnswered ask.addresses (length t.nodes)
      → IsAnswered ask.entries (length t.nodes) → IsFirstBroken t.nodes ask.irqs f → IsFirstFault t lib ask f
  in_order : (nodes : List BoundNodeData) → AreBoundNodes t lib ask nodes
      → IsFirstStuck t.nodes (map needs_in nodes) f → IsFirstFault t lib ask f
  in_names : (b : BoundData) (node : ℕ) → IsBoundTree t lib ask b → IsClash (facts b) node
      → IsAt t.nodes node rule.V37 f → IsFirstFault t lib ask f
