-- The total with weights 1 for each trio.
use Rattle.std.proofs.Common.{take, replicate, ap}
use Rattle.scales.specs.Counts.{counts, count_value}
use Rattle.console.specs.Consoles.{network_in}
use Rattle.console.specs.Totals.{pattern_count}
use Rattle.console.proofs.Uniform.{uniform_total}
use Rattle.console.proofs.console.Console.pattern_count.Goals as goal

pub returns : goal.returns
unfolding pattern_count
returns c =
    let count = c.trio_count.result in
    uniform_total counts count_value (network_in c.args.self.now) (record { n = 1 }) (record { n = 1 }) _ 31 count c.total.ensures
    (ap (λ e. take count (replicate 31 e)) c.alike-weights.ensures) c.trio_count.ensures.few c.trio_count.ensures.value
