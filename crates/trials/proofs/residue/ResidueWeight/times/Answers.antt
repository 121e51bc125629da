-- The remainder of the product is the product of the remainders, modulo 97.
use Rattle.std.proofs.Common.{◌*◌, ◌%◌, lit<, ap₂, ◌∙◌}
use Rattle.scales.specs.RemaindersLemmas.{times_from}
use Rattle.trials.proofs.residue.ResidueWeight.times.Goals as goal

pub returns : goal.returns
returns c = times_from 97 (lit< tt) c.args.self.now.n c.args.other.now.n (c.of.ensures ∙ ap₂ (λ a b. (a * b) % 97) c.from.ensures c.from-2.ensures)
