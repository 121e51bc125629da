-- The theorem at the kind of a scale, which keeps the laws.
use Rattle.method.proofs.Agrees.{method_agrees}
use Rattle.method.proofs.method_agrees.Goals as goal

pub returns : goal.returns
returns g c = method_agrees g.S.Weight.kind g.met.S.Scale.laws
