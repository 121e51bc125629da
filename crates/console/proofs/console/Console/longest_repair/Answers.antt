-- The total with no hours for a whole trio and the given hours for a faulty one.
use Rattle.std.proofs.Common.{Some, take, replicate, ap}
use Rattle.scales.specs.Durations.{durations, duration_value}
use Rattle.console.specs.Consoles.{network_in}
use Rattle.console.specs.Totals.{longest_repair}
use Rattle.console.proofs.Uniform.{uniform_total}
use Rattle.console.proofs.console.Console.longest_repair.Goals as goal

pub returns : goal.returns
unfolding longest_repair
returns c =
    let count = c.trio_count.result in
    uniform_total durations duration_value (network_in c.args.self.now) (record { 0 = Some 0 }) (record { 0 = Some c.args.hours }) _ 31 count c.total.ensures
    (ap (λ e. take count (replicate 31 e)) c.alike-weights.ensures) c.trio_count.ensures.few c.trio_count.ensures.value
