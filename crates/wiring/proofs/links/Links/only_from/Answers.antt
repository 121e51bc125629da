-- Each call gives one row.
use Rattle.std.proofs.Common.{arith, rules}
use Rattle.wiring.proofs.Restricted.{Kept, given, list_kept}
use Rattle.wiring.proofs.links.Links.only_from.Goals as goal

pub returns : goal.returns
returns c =
    list_kept c.args.self.now _ c.args.voters
    (λ v h. given _ _ (Kept c.args.self.now c.args.voters) (λ i y q called. search rules) c.from_fn.result 0 16 c.from_fn.ensures.items.each v (omega arith) (omega arith))
