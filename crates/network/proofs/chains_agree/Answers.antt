-- Chains and the test for them agree.
use Rattle.network.proofs.Chains.{chains_agree}
use Rattle.network.proofs.chains_agree.Goals as goal

pub returns : goal.returns
returns c = chains_agree
