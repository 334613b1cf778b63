use Rattle.std.proofs.Common.{arith}
use Rattle.edt_base.specs.NodeData.{bytes_of}
use Rattle.pha_nexus.proofs.CellLaws.{rest_is}
use Rattle.pha_nexus.proofs.phandle_array.has_rest.Goals as goal

pub returns : goal.returns
returns c = rest_is (bytes_of c.args.value.now) c.args.cells.now c.byte_len.result c.requires c.byte_len.ensures (omega (arith, c.type_inv.cells))
