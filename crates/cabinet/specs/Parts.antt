-- The network that the parts of a cabinet stand for.
use Rattle.network.specs.Networks.{Network}
use Rattle.wiring.specs.Tables.{codes}
use Rattle.wiring.specs.Wires.{link_list}
use Rattle.wiring.specs.declared.links.Links.{Links}
use Rattle.wiring.specs.declared.table.TrioTable.{TrioTable}

abbrev pub network_of : TrioTable 16 → TrioTable 15 → Links → Network
network_of vs ms ls = record { voters = codes vs; modules = codes ms; links = link_list ls }
