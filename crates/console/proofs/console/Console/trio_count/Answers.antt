-- Both counts are within the limits of a cabinet.
use Rattle.std.proofs.Common.{arith}
use Rattle.network.proofs.Keeps.{limits}
use Rattle.console.specs.Consoles.{network_in}
use Rattle.console.proofs.console.Console.trio_count.Goals as goal

pub overflow_add-result : goal.overflow_add-result
overflow_add-result c =
    let l = limits (network_in c.args.self.now) c.args.self.now.cabinet.limits in
    omega (arith, l.few_voters, l.few_modules, c.voter_count.ensures, c.module_count.ensures)

pub returns : goal.returns
returns c =
    let l = limits (network_in c.args.self.now) c.args.self.now.cabinet.limits in
    record {
      value = omega (arith, c.voter_count.ensures, c.module_count.ensures);
      few = omega (arith, l.few_voters, l.few_modules, c.voter_count.ensures, c.module_count.ensures);
    }
