-- On a scale the cell method gives the sum over all tolerated patterns.
use Rattle.std.proofs.Common.{◌∙◌}
use Rattle.weighing.specs.Entries.{read_all}
use Rattle.cabinet.specs.Cabinets.{network}
use Rattle.cabinet.proofs.Weighed.{answers_total}
use Rattle.cabinet.proofs.cabinet.Cabinet.total.Goals as goal

pub returns : goal.returns
returns g c =
    let s = c.args.self.now in
    c.weigh.ensures ∙ answers_total g.S.Weight.kind g.met.S.Scale.laws (network s) s.limits (read_all g.S.Weight.value c.args.weights.now)
