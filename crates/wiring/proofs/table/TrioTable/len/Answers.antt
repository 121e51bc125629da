-- There are as many codes as the table counts.
use Rattle.std.proofs.Common.{sym}
use Rattle.wiring.proofs.Codes.{length_codes}
use Rattle.wiring.proofs.table.TrioTable.len.Goals as goal

pub returns : goal.returns
returns g c = sym (length_codes c.args.self.now)
