-- The figures hold.
use Rattle.figures.proofs.Values.{figures}
use Rattle.figures.proofs.figures_hold.Goals as goal

pub returns : goal.returns
returns c = figures
