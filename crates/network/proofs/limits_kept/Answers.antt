-- The limits are kept by every call.
use Rattle.network.proofs.Keeps.{limits_kept}
use Rattle.network.proofs.limits_kept.Goals as goal

pub returns : goal.returns
returns c = limits_kept
