-- The network that a cabinet stands for.
use Rattle.network.specs.Networks.{Network}
use Rattle.cabinet.specs.Parts.{network_of}
use Rattle.cabinet.specs.declared.cabinet.Cabinet.{Cabinet}

abbrev pub network : Cabinet → Network
network c = network_of c.voters c.modules c.links
