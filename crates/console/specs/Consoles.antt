-- The network of a console's cabinet.
use Rattle.cabinet.specs.Cabinets.{network}
use Rattle.network.specs.Networks.{Network}
use Rattle.console.specs.declared.console.Console.{Console}

abbrev pub network_in : Console → Network
network_in c = network c.cabinet
